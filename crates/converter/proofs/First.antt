-- The first 16,384 bytes of a file are converted as the file is. Assumes nothing.
use mathlib.Core.Path.{◌≡◌, refl, sym, ap, ◌∙◌}
use mathlib.Core.List.{List, [], ◌∷◌}
use Prim.Native.Nat.{ℕ, ◌+◌, ◌*◌, ◌≤◌}
use native.Mathlib.Omega.{arith}
use lib.ListN.{length, take, drop, length-append, length-take, length-drop}
use lib.Seq.{take_all}
use Rattle.maxatom.specs.Book.{most_rules}
use Rattle.derivation.specs.Refusals.{Reply, refused, answer, lent}
use Rattle.derivation.specs.declared.Counts.{Counts}
use Rattle.bookfile.specs.declared.mark.Form.TheVariants.{Stored}
use Rattle.bookfile.specs.Kinds.{size_at}
use Rattle.bookfile.specs.Reading.{Placed, after, rules_begin, entries, bytes_at, stretch}
use Rattle.bookfile.specs.Replies.{file_reply}
use Rattle.bookfile.specs.Theorems.{stretches}
use Rattle.bookfile.proofs.Records.{size_bounds}
use Rattle.bookfile.proofs.Walks.{listed, listed_rules}
use Rattle.bookfile.proofs.Tables.{few_rules}
use Rattle.bookfile.proofs.Prefix.{first_bytes, begin_bound}
use Rattle.bookfile.proofs.Refusing.{to_the_end}
use Rattle.converter.specs.Converting.{convert_reply, convert_out}
use Rattle.converter.specs.Theorems.{ConvertsFirst, ConvertedFits}
use Rattle.converter.proofs.Writing.{converted_length}

-- records of rules have at most 12 bytes each
stretches_few : (file : List ℕ) (es : List Placed) → length (stretches file es) ≤ 12 * length es
unfolding stretches stretch
stretches_few file [] = omega arith
stretches_few file (e ∷ es) =
    omega (
      arith,
      length-append (bytes_at file e.at) (stretches file es),
      length-take (size_at file e.at) (drop e.at file),
      size_bounds file e.at,
      stretches_few file es,
    )

-- a file that is not refused has at most 14,348 bytes
few_bytes : (file : List ℕ) {counts : Counts} → file_reply Stored file ≡ answer counts → length file ≤ 14348
few_bytes file e =
    let l = listed Stored file e in
    let es = entries Stored file in
    omega (
      arith,
      ap length ((to_the_end Stored file).whole (most_rules + 1) (rules_begin file) es l.all),
      length-drop (rules_begin file) file,
      stretches_few file es,
      begin_bound file,
      listed_rules Stored file e,
      few_rules Stored file e,
    )

-- what a converter says of a file that is refused
refused_too : (file out : List ℕ) {number place : ℕ} → file_reply Stored file ≡ refused number place →
    (convert_reply file (length out) ≡ refused number place) × (convert_out file out ≡ out)
unfolding convert_out convert_reply after lent
refused_too file out e = (rw e refl, rw e refl)

pub converts_first : ConvertsFirst
converts_first file out = go (file_reply Stored file) refl
  where
    go : (said : Reply Counts) → file_reply Stored file ≡ said →
        (convert_reply (take 16384 file) (length out) ≡ convert_reply file (length out))
        × (convert_out (take 16384 file) out ≡ convert_out file out)
    go (refused number place) e =
        let one = refused_too (take 16384 file) out ((first_bytes file Stored).verdict ∙ e) in
        let all = refused_too file out e in
        (one.0 ∙ sym all.0, one.1 ∙ sym all.1)
    go (answer counts) e =
        let whole : take 16384 file ≡ file = take_all 16384 file (omega (arith, few_bytes file e)) in
        (ap (λ (f : List ℕ). convert_reply f (length out)) whole, ap (λ (f : List ℕ). convert_out f out) whole)

-- a head and latest times of 2,060 bytes at most, and at most 1,024 rules of 12
pub converted_fits : ConvertedFits
converted_fits file counts e =
    omega (arith, converted_length file (listed Stored file e), begin_bound file, few_rules Stored file e, listed_rules Stored file e)
