-- The reader's rules, stored entry by entry in the lent table. Assumes nothing.
use mathlib.Core.Path.{◌≡◌, refl, sym, ap, ◌∙◌}
use mathlib.Core.List.{List, [], ◌∷◌, ◌++◌, append_assoc, append-nil}
use Prim.Native.Nat.{ℕ, suc, ◌+◌, ◌<◌, ◌≤◌}
use native.Mathlib.Numerals.{add-one}
use native.Mathlib.Omega.{arith}
use lib.Seq.{get_or-drop, drop-cons, take-suc, length-take-le, set-append_seam, take_all}
use lib.ListN.{length, take, drop, set, get_or, get_or-map, length-map, drop_of_length-le}
use Rattle.maxatom.specs.declared.Rule.{Rule}
use Rattle.derivation.specs.Step.{no_rule}
use Rattle.bookfile.specs.declared.mark.Form.TheVariants.{Sent}
use Rattle.bookfile.specs.Kinds.{size_at, decoded_rule}
use Rattle.bookfile.specs.Reading.{entry, Placed, rules_begin, entries, rules_of_file}
use Rattle.bookfile.specs.Inner.{Listed, Begins}
use Rattle.bookfile.proofs.Walks.{Walked, walked_none, walked_begins, walked_next}

-- the first i rules of the file stand in the first i places, the other places are as they were, and the next record begins at byte `at`
pub record Stored (file : List ℕ) (places : List Rule) (at i : ℕ) (rules : List Rule) : Type 0 where
  pub walked : Walked Sent file at i
  pub is : rules ≡ take i (rules_of_file Sent file) ++ drop i places

pub stored_none : (file : List ℕ) (places : List Rule) → Listed Sent file → Stored file places (rules_begin file) 0 places
stored_none file places l = record { walked = walked_none Sent file l; is = refl }

-- the rule whose record begins at a byte is the rule of that number
rule_here : {file : List ℕ} {number at : ℕ} → Begins Sent file number at → get_or (rules_of_file Sent file) number no_rule ≡ decoded_rule file at
rule_here {file} {number} {at} b =
    let none : Placed = entry 0 no_rule in
    let es = entries Sent file in
    let here : get_or es number none ≡ entry at (decoded_rule file at) =
    sym
    (sym (ap (λ (l : List Placed). get_or l 0 none) b.here) ∙ (get_or-drop number es 0 none ∙ ap (λ (j : ℕ). get_or es j none) (omega arith))) in
    get_or-map (λ (q : Placed). q.rule) es number none ∙ ap (λ (q : Placed). q.rule) here

module _ {file : List ℕ} {places : List Rule} {at i : ℕ} {rules : List Rule} (s : Stored file places at i rules) where
  stored_next : i < length (entries Sent file) → i < length places →
      Stored file places (at + size_at file at) (i + 1) (set rules i (decoded_rule file at))
  stored_next h l =
      let fresh = rules_of_file Sent file in
      let r = decoded_rule file at in
      let many : length fresh ≡ length (entries Sent file) = length-map (entries Sent file) (λ (e : Placed). e.rule) in
      let size : length (take i fresh) ≡ i = length-take-le i fresh (omega arith) in
      let next : i + 1 ≡ suc i = add-one i in
      let more : take (i + 1) fresh ≡ take i fresh ++ (r ∷ []) =
      ap (λ (n : ℕ). take n fresh) next ∙ take-suc fresh i no_rule (omega arith)
      ∙ ap (λ (q : Rule). take i fresh ++ (q ∷ [])) (rule_here (walked_begins s.walked h)) in
      record {
        walked = walked_next s.walked h;
        is =
            ap (λ (q : List Rule). set q i r) (s.is ∙ ap (λ (q : List Rule). take i fresh ++ q) (drop-cons places i no_rule l))
            ∙ ap (λ (n : ℕ). set (take i fresh ++ (get_or places i no_rule ∷ drop (suc i) places)) n r) (sym size)
            ∙ set-append_seam (take i fresh) (get_or places i no_rule) (drop (suc i) places) r
            ∙ sym (append_assoc (take i fresh) (r ∷ []) (drop (suc i) places))
            ∙ ap (λ (q : List Rule). q ++ drop (suc i) places) (sym more)
            ∙ ap (λ (n : ℕ). take (i + 1) fresh ++ drop n places) (sym next);
      }

-- a table with a place for each rule: what a turn of the loop has, and the table after the last
module _ (file : List ℕ) (places : List Rule) (size : length places ≡ length (entries Sent file)) where
  module _ {at i : ℕ} {rules : List Rule} (s : Stored file places at i rules) where
    pub turn_inside : i < length places → at + size_at file at ≤ length file
    turn_inside h = (walked_begins s.walked (omega arith)).inside

    pub turn_next : i < length places → {next : ℕ} {r : Rule} → next ≡ at + size_at file at → r ≡ decoded_rule file at →
        Stored file places next (i + 1) (set rules i r)
    turn_next h e f = rw (e, f) (stored_next s (omega arith) h)

    pub stored_all : length places ≤ i → rules ≡ rules_of_file Sent file
    stored_all h =
        let fresh = rules_of_file Sent file in
        let whole : take i fresh ≡ fresh = take_all i fresh (omega (arith, length-map (entries Sent file) (λ (q : Placed). q.rule))) in
        let none : drop i places ≡ [] = drop_of_length-le places {i = i} h in
        s.is ∙ ap (λ (q : List Rule). q ++ drop i places) whole ∙ ap (λ (q : List Rule). fresh ++ q) none ∙ append-nil fresh
