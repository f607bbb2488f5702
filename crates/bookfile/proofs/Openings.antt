-- Two files that are the same up to where the rules of one begin have the same first record and the same latest times. Assumes nothing.
use mathlib.Core.Path.{◌≡◌, refl, sym, ap, ◌∙◌}
use mathlib.Core.Bool.{Bool, true, false}
use mathlib.Core.List.{List, [], ◌∷◌}
use Prim.Native.Nat.{ℕ, zero, suc, ◌+◌, ◌*◌, ◌≤◌}
use native.Mathlib.Omega.{arith}
use lib.ListN.{length, take}
use Rattle.maxatom.specs.Book.{most_jobs}
use Rattle.derivation.specs.Refusals.{answer, verdict}
use Rattle.derivation.proofs.Checks.{answer_not}
use Rattle.bookfile.specs.declared.mark.Form.{Form}
use Rattle.bookfile.specs.declared.reading.LatestTime.{LatestTime}
use Rattle.bookfile.specs.Numbers.{word}
use Rattle.bookfile.specs.Kinds.{decoded_latest, among}
use Rattle.bookfile.specs.Reading.{head_checks, latest_here, latest_record_reply, before, latest_from, read, end_of, latest_records, rules_begin}
use Rattle.bookfile.specs.Inner.{Listed}
use Rattle.bookfile.proofs.Latest.{times_more, times_end}
use Rattle.bookfile.proofs.Filling.{first_of, none_of}
use Rattle.bookfile.proofs.Prefix.{word_same, here_same, time_same, latest_same, head_same}

-- what is said of a part of a file is said of two files that have it
module _ (n : ℕ) (file new : List ℕ) (same : take n new ≡ take n file) where
  by_part : {A : Type 0} (say : List ℕ → A) → ((f : List ℕ) → say (take n f) ≡ say f) → say new ≡ say file
  by_part say part = sym (part new) ∙ ap say same ∙ part file

  -- latest times that end where the part does, and behind which no other begins
  times_from : (most jobs : ℕ) (given : List ℕ) (at : ℕ) (found : List LatestTime) → latest_here new n ≡ false →
      at + length found * 8 ≡ n → latest_from most jobs file given at ≡ answer found → latest_from most jobs new given at ≡ answer found
  unfolding latest_from before
  times_from zero jobs given at found last size e = absurd (answer_not (sym e))
  times_from (suc most) jobs given at found last size e =
      go (latest_here file at) refl (times_from most jobs ((decoded_latest file at).job ∷ given) (at + 8))
    where
      job : ℕ
      job = (decoded_latest file at).job

      go : (t : Bool) → latest_here file at ≡ t →
          ((others : List LatestTime) → latest_here new n ≡ false → at + 8 + length others * 8 ≡ n →
          latest_from most jobs file (job ∷ given) (at + 8) ≡ answer others →
          latest_from most jobs new (job ∷ given) (at + 8) ≡ answer others) →
          latest_from (suc most) jobs new given at ≡ answer found
      go true l f =
          let s = first_of most jobs file given at found e l in
          let h : at + 8 ≤ n = omega (arith, ap length s.is) in
          let here : latest_here new at ≡ true = by_part (λ b. latest_here b at) (λ b. here_same n b at h) ∙ l in
          let time : decoded_latest new at ≡ decoded_latest file at = by_part (λ b. decoded_latest b at) (λ b. time_same n b at h) in
          let said : latest_record_reply jobs new (among job given) at ≡ answer (decoded_latest file at) =
          by_part (λ b. latest_record_reply jobs b (among job given) at) (λ b. latest_same n b at h jobs (among job given)) ∙ s.taken in
          times_more most jobs new given at here
          ∙ rw (time, said, f s.others last (omega (arith, ap length s.is)) s.more) (ap answer (sym s.is))
      go false l f =
          let none = none_of most jobs file given at found e l in
          let here : at ≡ n = omega (arith, ap length none) in
          times_end most jobs new given at (rw here last) ∙ ap answer (sym none)

module _ (file new : List ℕ) (same : take (rules_begin file) new ≡ take (rules_begin file) file) where
  pub jobs_kept : word new 2 ≡ word file 2
  unfolding end_of
  jobs_kept = by_part (rules_begin file) file new same (λ (f : List ℕ). word f 2) (λ f. word_same (rules_begin file) f 2 (omega arith))

  pub head_kept : (form : Form) → verdict (head_checks form new) ≡ verdict (head_checks form file)
  unfolding end_of
  head_kept form =
      by_part (rules_begin file) file new same (λ (f : List ℕ). verdict (head_checks form f))
      (λ f. head_same (rules_begin file) f form (omega arith))

  pub times_kept : {form : Form} → Listed form file → latest_here new (rules_begin file) ≡ false → latest_records new ≡ latest_records file
  unfolding end_of
  times_kept l last =
      ap (λ (jobs : ℕ). latest_from (most_jobs + 1) jobs new [] 4) jobs_kept
      ∙ times_from (rules_begin file) file new same (most_jobs + 1) (word file 2) [] 4 (read (latest_records file)) last refl l.times
      ∙ sym l.times
