-- The records of a plan, written one after the other. Assumes nothing.
use mathlib.Core.Path.{◌≡◌, refl, sym, ap, ◌∙◌}
use mathlib.Core.Logic.{◌⊎◌, ⊎_elim}
use mathlib.Core.List.{List, [], ◌∷◌, ◌++◌, append_assoc, append-nil}
use Prim.Native.Nat.{ℕ, suc, ◌+◌, ◌-◌, ◌*◌, ◌/◌, ◌<◌, ◌≤◌}
use native.Mathlib.Omega.{arith}
use native.Mathlib.Numerals.{add-one}
use lib.ListN.{length, take, drop, get_or, length-append, take-append-drop}
use lib.Seq.{drop-drop, take-suc, drop_at, take_at, length-take-le, take-length}
use lib.IntN.{ℤ, pos}
use borrow.Rule.Slice.PartMut.{put_mid, post_of}
use lib.Dec.{ltb}
use borrow.Author.Tests.{lt-ltb, le-ltb}
use Rattle.std.specs.Int.{w16, w32, to_le_bytes}
use Rattle.derivation.specs.Refusals.{Reply, refused, answer, Check, check, verdict, lent, jobs_check}
use Rattle.derivation.proofs.Checks.{says, skips, accepting}
use Rattle.bookfile.specs.Numbers.{bytes_of, unsigned32}
use Rattle.maxatom.specs.declared.Rule.{Rule}
use Rattle.bookfile.specs.Writing.{rule_record, plan_record, plan_from, plan_checks, with_records, plan_out}

-- a number's four bytes, each by division
quarters : (n : ℕ) → (n / 65536 ≡ n / 256 / 256) × (n / 16777216 ≡ n / 256 / 256 / 256)
quarters n = (omega arith, omega arith)

-- the bytes that the machine's numbers give
pub record_bytes : (job : ℕ) (time : ℤ) {p q : List ℕ} → p ≡ to_le_bytes w16 job → q ≡ to_le_bytes w32 (unsigned32 time) →
    80 ∷ 76 ∷ get_or p 0 0 ∷ get_or p 1 0 ∷ get_or q 0 0 ∷ get_or q 1 0 ∷ get_or q 2 0 ∷ get_or q 3 0 ∷ [] ≡ plan_record job time
unfolding plan_record bytes_of
record_bytes job time e f = let (a, b) = quarters (unsigned32 time) in rw (e, f, a, b)

-- the bytes of a rule's record, field by field
pub rule_bytes : (r : Rule) {p q s t : List ℕ} → p ≡ to_le_bytes w16 r.x → q ≡ to_le_bytes w16 r.y → s ≡ to_le_bytes w16 r.z →
    t ≡ to_le_bytes w32 (unsigned32 r.k) →
    82 ∷ 85 ∷ get_or p 0 0 ∷ get_or p 1 0 ∷ get_or q 0 0 ∷ get_or q 1 0 ∷ get_or s 0 0 ∷ get_or s 1 0 ∷ get_or t 0 0 ∷ get_or t 1 0 ∷ get_or t 2 0
    ∷ get_or t 3 0 ∷ [] ≡ rule_record r
unfolding rule_record bytes_of
rule_bytes r a b c d = let (h, i) = quarters (unsigned32 r.k) in rw (a, b, c, d, h, i)

record_length : (job : ℕ) (time : ℤ) → length (plan_record job time) ≡ 8
unfolding plan_record bytes_of
record_length job time = refl

pub plan_length : (job : ℕ) (times : List ℤ) → length (plan_from job times) ≡ length times * 8
unfolding plan_from
plan_length job [] = refl
plan_length job (t ∷ times) = omega (arith, length-append (plan_record job t) (plan_from (job + 1) times), record_length job t, plan_length (job + 1) times)

plan_append : (job : ℕ) (us vs : List ℤ) → plan_from job (us ++ vs) ≡ plan_from job us ++ plan_from (job + length us) vs
unfolding plan_from
plan_append job [] vs = ap (λ (j : ℕ). plan_from j vs) (omega arith)
plan_append job (u ∷ us) vs =
    let e : job + 1 + length us ≡ job + suc (length us) = omega arith in
    ap (λ (b : List ℕ). plan_record job u ++ b) (plan_append (job + 1) us vs ∙ ap (λ (j : ℕ). plan_from (job + 1) us ++ plan_from j vs) e)
    ∙ sym (append_assoc (plan_record job u) (plan_from (job + 1) us) (plan_from (job + suc (length us)) vs))

plan_one : (job : ℕ) (t : ℤ) → plan_from job (t ∷ []) ≡ plan_record job t
unfolding plan_from
plan_one job t = append-nil (plan_record job t)

-- the records of the first i jobs are written, and the other bytes are as they were
pub record Put (times : List ℤ) (out₀ : List ℕ) (at : ℕ) (out : List ℕ) (i : ℕ) : Type 0 where
  pub low : i ≤ length times
  pub is : out ≡ (take at out₀ ++ plan_from 0 (take i times)) ++ drop (at + i * 8) out₀

pub put_none : (times : List ℤ) (out : List ℕ) (at : ℕ) → Put times out at out 0
unfolding plan_from
put_none times out at =
    let e : at + 0 ≡ at = omega arith in
    record {
      low = omega arith;
      is = sym (ap (λ (l : List ℕ). l ++ drop (at + 0) out) (append-nil (take at out)) ∙ ap (λ (n : ℕ). take at out ++ drop n out) e ∙ take-append-drop at out);
    }

module _ {times : List ℤ} {out₀ : List ℕ} {at : ℕ} {out : List ℕ} {i : ℕ} (h : at + length times * 8 ≤ length out₀) (p : Put times out₀ at out i) where
  abbrev front : List ℕ
  front = take at out₀ ++ plan_from 0 (take i times)

  front_length : length front ≡ at + i * 8
  front_length =
      omega (
        arith,
        length-append (take at out₀) (plan_from 0 (take i times)),
        length-take-le at out₀ (omega arith),
        plan_length 0 (take i times),
        length-take-le i times p.low,
      )

  pub put_all : length times ≤ i → out ≡ with_records times out₀ at
  unfolding with_records
  put_all l =
      let e : i ≡ length times = omega arith in
      p.is ∙ ap (λ (n : ℕ). (take at out₀ ++ plan_from 0 (take n times)) ++ drop (at + n * 8) out₀) e
      ∙ ap (λ (ts : List ℤ). (take at out₀ ++ plan_from 0 ts) ++ drop (at + length times * 8) out₀) (take-length times)

  -- the next record takes the place of eight bytes
  pub put_next : i < length times → {part : List ℕ} → part ≡ plan_record i (get_or times i (pos 0)) →
      Put times out₀ at (put_mid (at + i * 8) (at + i * 8 + 8 - (at + i * 8)) out part) (i + 1)
  put_next l {part} e =
      let a = at + i * 8 in
      let r = plan_record i (get_or times i (pos 0)) in
      let before : take a out ≡ front = ap (take a) p.is ∙ take_at front (drop a out₀) a front_length in
      let rest : drop a out ≡ drop a out₀ = ap (drop a) p.is ∙ drop_at front (drop a out₀) a front_length in
      let eight : a + 8 - a ≡ 8 = omega arith in
      let behind : post_of a (a + 8 - a) out ≡ drop (a + 8) out₀ =
      ap (λ (n : ℕ). drop n (drop a out)) eight ∙ ap (drop 8) rest ∙ drop-drop 8 a out₀ in
      let n : 0 + length (take i times) ≡ i = omega (arith, length-take-le i times p.low) in
      let more : plan_from 0 (take (i + 1) times) ≡ plan_from 0 (take i times) ++ r =
      ap (λ (m : ℕ). plan_from 0 (take m times)) (add-one i) ∙ ap (plan_from 0) (take-suc times i (pos 0) l) ∙ plan_append 0 (take i times) (get_or times i (pos 0) ∷ [])
      ∙ ap (λ (j : ℕ). plan_from 0 (take i times) ++ plan_from j (get_or times i (pos 0) ∷ [])) n
      ∙ ap (λ (t : List ℕ). plan_from 0 (take i times) ++ t) (plan_one i (get_or times i (pos 0))) in
      let end : a + 8 ≡ at + (i + 1) * 8 = omega arith in
      record {
        low = omega arith;
        is =
            ap (λ (t : List ℕ). t ++ (part ++ post_of a (a + 8 - a) out)) before ∙ ap (λ (t : List ℕ). front ++ (part ++ t)) behind
            ∙ ap (λ (t : List ℕ). front ++ (t ++ drop (a + 8) out₀)) e ∙ sym (append_assoc front r (drop (a + 8) out₀))
            ∙ ap (λ (t : List ℕ). t ++ drop (a + 8) out₀) (append_assoc (take at out₀) (plan_from 0 (take i times)) r ∙ ap (λ (t : List ℕ). take at out₀ ++ t) (sym more))
            ∙ ap (λ (m : ℕ). (take at out₀ ++ plan_from 0 (take (i + 1) times)) ++ drop m out₀) end;
      }

-- the plan writer, check by check
module _ (times : List ℤ) (out : List ℕ) (at : ℕ) where
  abbrev said : Reply (Unit {0})
  said = verdict (plan_checks times out at)

  abbrev room : Check
  room = check (ltb (length out) (at + length times * 8)) 21 0

  pub plan_count : (length times < 1) ⊎ ((1 ≤ length times) × (256 < length times)) → said ≡ refused 4 0
  unfolding plan_checks
  plan_count h =
      says tt (jobs_check (length times)) (room ∷ [])
      (⊎_elim (λ l. rw (lt-ltb (length times) 1 l)) (λ m. rw (le-ltb (length times) 1 m.0, lt-ltb 256 (length times) m.1)) h)

  module _ (p : 1 ≤ length times) where
    module _ (q : length times ≤ 256) where
      plan_counted : said ≡ verdict (room ∷ [])
      unfolding plan_checks
      plan_counted = skips tt (jobs_check (length times)) (room ∷ []) (rw (le-ltb (length times) 1 p, le-ltb 256 (length times) q))

      pub plan_short : length out < at + length times * 8 → said ≡ refused 21 0
      plan_short h = plan_counted ∙ says tt room [] (lt-ltb (length out) (at + length times * 8) h)

      pub plan_passes : at + length times * 8 ≤ length out → said ≡ answer tt
      plan_passes h = plan_counted ∙ accepting (room ∷ []) tt (le-ltb (length out) (at + length times * 8) h, tt)

  -- the output stays where it is refused, and has the plan where it is not
  pub plan_left : {number place : ℕ} → said ≡ refused number place → out ≡ plan_out times out at
  unfolding plan_out lent
  plan_left s = rw s

  pub plan_done : said ≡ answer tt → with_records times out at ≡ plan_out times out at
  unfolding plan_out lent
  plan_done s = rw s

-- what the code says of a plan's output
pub ruleset plans = (plan_count, plan_short, plan_passes)
