use Rattle.std.proofs.Common.{◌≡◌, ℕ, ◌+◌, ◌-◌, ◌≤◌, List, ◌++◌, rules, length, take, drop, sym, ap, ◌∙◌, subst, le_refl, drop_at, length-take-le}
use Rattle.std.proofs.lemmas.Slice.{take-put_mid_below}
use Rattle.std.specs.Io.KnownBytes.{Consumes}
use Rattle.std.proofs.KnownBytes.{Consumes-trans}
use borrow.Rule.Slice.PartMut.{put_mid, post_of}
use lib.Seq.{take-add, take-append-le}
use Rattle.input.proofs.read_full.Goals as goal

-- what stands at the start after n bytes were put behind the first a
joined : (a k n : ℕ) (xs ys : List ℕ) → a ≤ length xs → n ≤ length ys → take a xs ++ take n ys ≡ take (a + n) (put_mid a k xs ys)
joined a k n xs ys within fits =
    let after = post_of a k xs in
    let whole = put_mid a k xs ys in
    let back : take n (drop a whole) ≡ take n ys = ap (take n) (drop_at (take a xs) (ys ++ after) a (length-take-le a xs within)) ∙ take-append-le n ys after fits in
    ap (λ l. l ++ take n ys) (sym (take-put_mid_below a k xs ys a (le_refl a) within)) ∙ ap (λ l. take a whole ++ l) (sym back) ∙ sym (take-add a n whole)

pub loop-preserved : goal.loop-preserved
loop-preserved g c =
    let front = joined c.loop.done (length c.loop.buf - c.loop.done) c.in_ok-n.n c.loop.buf c.read.new.buf c.loop.invariant.0 c.in_ok-n.ensures.bound.0 in
    (search rules, search rules, subst (Consumes _ _) front (Consumes-trans _ _ _ _ _ c.loop.invariant.2 c.in_ok-n.ensures.bytes.0))
