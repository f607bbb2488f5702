-- What is printed of a file, by what the converter says of it and leaves in a buffer of 16,384 bytes. Assumes nothing.
use mathlib.Core.Path.{◌≡◌, refl, sym, ap, subst, ◌∙◌}
use mathlib.Core.Bool.{true, false}
use mathlib.Core.List.{List, []}
use Prim.Native.Nat.{ℕ, ◌≤◌}
use native.Mathlib.Omega.{arith}
use borrow.Author.Tests.{le-ltb}
use lib.ListN.{length, take, drop, replicate, length-replicate}
use lib.Seq.{take_at}
use Rattle.std.specs.Prelude.{Result, Ok, Err, IfOk, Option, Some, None, IfSome}
use Rattle.derivation.specs.Refusals.{Reply, refused, answer, reply, lent}
use Rattle.derivation.specs.declared.Counts.{Counts}
use Rattle.derivation.proofs.Checks.{answer_not, accepting}
use Rattle.bookfile.specs.declared.mark.Form.TheVariants.{Stored}
use Rattle.bookfile.specs.Reading.{after}
use Rattle.bookfile.specs.Replies.{file_reply, over}
use Rattle.report.specs.Report.{refused_line}
use Rattle.converter.specs.Converting.{converted, output_checks, convert_reply, convert_out}
use Rattle.converter.proofs.First.{converts_first, converted_fits}
use Rattle.convert.specs.Printed.{Printed, printed_of, printed}

-- what the converter says where its output is long enough, by what is said of the file
unfoldable sized : List ℕ → Reply Counts → Reply ℕ
sized file (refused number place) = refused number place
sized file (answer counts) = answer (length (converted file))

module _ (file : List ℕ) where
  sized_same : convert_reply file 16384 ≡ sized file (file_reply Stored file)
  unfolding convert_reply after sized
  sized_same = go (file_reply Stored file) refl
    where
      go : (r : Reply Counts) → file_reply Stored file ≡ r →
          after r (reply (output_checks file 16384) (length (converted file))) ≡ sized file r
      go (refused number place) e = refl
      go (answer counts) e =
          accepting (output_checks file 16384) (length (converted file)) (le-ltb 16384 (length (converted file)) (converted_fits file counts e), tt)

  -- the converter refuses the file
  pub printed_refused : {number place : ℕ} → refused number place ≡ convert_reply file 16384 →
      printed file ≡ record { output = []; errors = refused_line number place; done = false }
  unfolding sized printed printed_of
  printed_refused {number} {place} said = go (file_reply Stored file) (said ∙ sized_same)
    where
      go : (r : Reply Counts) → refused number place ≡ sized file r →
          printed_of file r ≡ record { output = []; errors = refused_line number place; done = false }
      go (refused m p) e = cc
      go (answer counts) e = absurd (answer_not (sym e))

  -- the converter answers a length
  module _ {len : ℕ} (said : answer len ≡ convert_reply file 16384) where
    record Answered : Type 0 where
      printed_is : printed file ≡ record { output = converted file; errors = []; done = true }
      len_is : len ≡ length (converted file)
      inside : len ≤ 16384

    answered : Answered
    unfolding sized printed printed_of
    answered = go (file_reply Stored file) refl (said ∙ sized_same)
      where
        go : (r : Reply Counts) → file_reply Stored file ≡ r → answer len ≡ sized file r → Answered
        go (refused m p) e f = absurd (answer_not f)
        go (answer counts) e f =
            let n : len ≡ length (converted file) = cc in
            record { printed_is = rw e refl; len_is = n; inside = omega (arith, n, converted_fits file counts e) }

    pub room : len ≤ 16384
    room = answered.inside

    -- the buffer then begins with what is printed
    pub printed_answered : (before : List ℕ) {out : List ℕ} → length before ≡ 16384 → out ≡ convert_out file before →
        printed file ≡ record { output = take len out; errors = []; done = true }
    unfolding convert_out lent over
    printed_answered before n e =
        rw (e, n, ← said, take_at (converted file) (drop (length (converted file)) before) len (sym answered.len_is)) answered.printed_is

-- the first 16,384 bytes of a file are enough to tell what is printed of it
pub printed_first : (file : List ℕ) → printed (take 16384 file) ≡ printed file
printed_first file = go (convert_reply file 16384) refl
  where
    buffer : List ℕ
    buffer = replicate 16384 0

    size : length buffer ≡ 16384
    size = length-replicate {A = ℕ} 16384 0

    first : convert_reply (take 16384 file) 16384 ≡ convert_reply file 16384
    first = subst (λ (n : ℕ). convert_reply (take 16384 file) n ≡ convert_reply file n) size (converts_first file buffer).0

    go : (said : Reply ℕ) → convert_reply file 16384 ≡ said → printed (take 16384 file) ≡ printed file
    go (refused number place) e = printed_refused (take 16384 file) (sym (first ∙ e)) ∙ sym (printed_refused file (sym e))
    go (answer len) e =
        printed_answered (take 16384 file) (sym (first ∙ e)) buffer size (sym (converts_first file buffer).1)
        ∙ sym (printed_answered file (sym e) buffer size refl)

-- what a result says of the bytes that were read into a buffer, it says of the whole input
pub of_input : {A E : Type 0} (P : A → Printed → Type 0) (r : Result A E) (left : Option (List ℕ)) (got : ℕ) (buffer : List ℕ) →
    length buffer ≡ 16384 → IfSome left (λ xs. take got buffer ≡ take (length buffer) xs) →
    IfOk r (λ a. P a (printed (take got buffer))) → IfOk r (λ a. IfSome left (λ xs. P a (printed xs)))
of_input P (Err e) left got buffer n read p = tt
of_input P (Ok a) None got buffer n read p = tt
of_input P (Ok a) (Some xs) got buffer n read p =
    subst (P a) (ap printed (read ∙ ap (λ (k : ℕ). take k xs) n) ∙ printed_first xs) p
