-- A line cut at its first blank. Assumes nothing.
use mathlib.Core.Path.{◌≡◌, refl, ap, ◌∙◌}
use mathlib.Core.Bool.{Bool, true, false, cond}
use mathlib.Core.List.{List, [], ◌∷◌, ◌++◌}
use mathlib.Core.Logic.{◌⊎◌, inl, inr}
use Prim.Native.Nat.{ℕ, zero, suc, ◌+◌, ◌/◌, ◌%◌, ◌<◌, ◌≤◌}
use native.Mathlib.Omega.{arith}
use native.Mathlib.Numerals.{add-one}
use lib.Dec.{ltb, eqb}
use lib.IntN.{ℤ, pos, negsuc}
use lib.ListN.{length, take, drop, get_or, drop_of_length-le}
use lib.Seq.{drop-cons, take-append_seam}
use borrow.Author.Tests.{ltb-true, ltb-false, eqb-true, ne_eqb}
use Rattle.maxatom.proofs.Choose.{cond_no}
use Rattle.report.specs.Text.{decimal}
use Rattle.report.proofs.Texts.{decimal_last, decimal_more}
use Rattle.commands.specs.Reading.{blank, first_word, behind}
use Rattle.commands.proofs.Numbers.{signed_decimal}

-- the first blank, over the bytes before it
blank_here : (b : ℕ) (text : List ℕ) → b ≡ 32 → blank (b ∷ text) ≡ 0
unfolding blank
blank_here b text e = rw e refl

blank_later : (b : ℕ) (text : List ℕ) → (b ≡ 32 → ⊥) → blank (b ∷ text) ≡ suc (blank text)
unfolding blank
blank_later b text h = cond_no _ _ (ne_eqb b 32 h)

pub data Solid : List ℕ → Type 0 where
  none : Solid []
  more : {b : ℕ} {text : List ℕ} → (b ≡ 32 → ⊥) → Solid text → Solid (b ∷ text)

solid_append : {xs ys : List ℕ} → Solid xs → Solid ys → Solid (xs ++ ys)
solid_append none s = s
solid_append (more h r) s = more h (solid_append r s)

solid_by : (fuel n : ℕ) → n < fuel → Solid (decimal n)
solid_by zero n f = absurd (omega arith)
solid_by (suc fuel) n f = go (ltb n 10) refl (λ g. solid_by fuel (n / 10) (omega arith))
  where
    go : (b : Bool) → ltb n 10 ≡ b → (10 ≤ n → Solid (decimal (n / 10))) → Solid (decimal n)
    go true e r = rw (decimal_last n (ltb-true n 10 e)) (more {b = 48 + n} (λ e. omega (arith, e)) none)
    go false e r = rw (decimal_more n (ltb-false n 10 e)) (solid_append (r (ltb-false n 10 e)) (more {b = 48 + n % 10} (λ e. omega (arith, e)) none))

pub decimal_solid : (n : ℕ) → Solid (decimal n)
decimal_solid n = solid_by (suc n) n (omega arith)

pub signed_solid : (t : ℤ) → Solid (signed_decimal t)
unfolding signed_decimal
signed_solid (pos n) = decimal_solid n
signed_solid (negsuc n) = more {b = 45} (λ e. omega (arith, e)) (decimal_solid (suc n))

blank_behind : {word : List ℕ} (text : List ℕ) → Solid word → blank (word ++ (32 ∷ text)) ≡ length word
blank_behind text none = blank_here 32 text refl
blank_behind {word = b ∷ word} text (more h r) = blank_later b (word ++ (32 ∷ text)) h ∙ ap suc (blank_behind text r)

-- a word before a blank is the first one, and the text behind the blank is what is behind
pub first_is : {word : List ℕ} (text : List ℕ) → Solid word → first_word (word ++ (32 ∷ text)) ≡ word
unfolding first_word
first_is {word = word} text s = rw (blank_behind text s) (take-append_seam word (32 ∷ text))

pub behind_is : {word : List ℕ} (text : List ℕ) → Solid word → behind (word ++ (32 ∷ text)) ≡ text
unfolding behind
behind_is {word = word} text s = rw (blank_behind text s) (past word)
  where
    past : (word : List ℕ) → drop (suc (length word)) (word ++ (32 ∷ text)) ≡ text
    past [] = refl
    past (b ∷ word) = past word

-- and a text has a blank there, or nothing is behind
pub cut : (text : List ℕ) → (text ≡ first_word text ++ (32 ∷ behind text)) ⊎ (behind text ≡ [])
unfolding blank first_word behind
cut [] = inr refl
cut (b ∷ text) = go (eqb b 32) refl (cut text)
  where
    go : (p : Bool) → eqb b 32 ≡ p → (text ≡ first_word text ++ (32 ∷ behind text)) ⊎ (behind text ≡ []) →
        let at = cond p 0 (suc (blank text)) in
        (b ∷ text ≡ take at (b ∷ text) ++ (32 ∷ drop (suc at) (b ∷ text))) ⊎ (drop (suc at) (b ∷ text) ≡ [])
    go true p r = inl (ap (λ (k : ℕ). k ∷ text) (eqb-true b 32 p))
    go false p (inl e) = inl (ap (λ (l : List ℕ). b ∷ l) e)
    go false p (inr e) = inr e

-- the loop that looks for it
pub blank_step : (text : List ℕ) (i : ℕ) → i < length text → (get_or text i 0 ≡ 32 → ⊥) → blank text ≡ i + blank (drop i text) →
    blank text ≡ i + 1 + blank (drop (i + 1) text)
blank_step text i h g e =
    let f = blank_later (get_or text i 0) (drop (suc i) text) g in
    let here : blank (drop i text) ≡ suc (blank (drop (i + 1) text)) = rw (add-one, drop-cons text i 0 h) f in
    omega (arith, e, here)

pub blank_found : (text : List ℕ) (i : ℕ) → i < length text → get_or text i 0 ≡ 32 → blank text ≡ i + blank (drop i text) → i ≡ blank text
blank_found text i h g e =
    let here : blank (drop i text) ≡ 0 = rw (drop-cons text i 0 h) (blank_here (get_or text i 0) (drop (suc i) text) g) in
    omega (arith, e, here)

pub blank_end : (text : List ℕ) (i : ℕ) → length text ≤ i → i ≤ length text → blank text ≡ i + blank (drop i text) → length text ≡ blank text
unfolding blank
blank_end text i h g e =
    let none : blank (drop i text) ≡ 0 = rw (drop_of_length-le text {i = i} h) refl in
    omega (arith, e, none)
