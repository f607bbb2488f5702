-- A number's decimal is read as the number, and no other text is. Assumes nothing.
use mathlib.Core.Path.{◌≡◌, refl, sym, ap, ◌∙◌}
use mathlib.Core.Bool.{Bool, true, false, cond, not}
use mathlib.Core.List.{List, [], ◌∷◌, ◌++◌, append_assoc, append-nil}
use Prim.Native.Nat.{ℕ, zero, suc, ◌+◌, ◌-◌, ◌*◌, ◌/◌, ◌%◌, ◌^◌, ◌<◌, ◌≤◌}
use native.Mathlib.Omega.{arith}
use lib.Dec.{ltb, eqb}
use lib.IntN.{ℤ, pos, negsuc}
use lib.ListN.{length, take, drop, get_or, drop_of_length-le}
use Rattle.std.proofs.lemmas.List.{take_rest}
use lib.Seq.{drop-cons}
use mathlib.Core.Logic.{◌⊎◌, inl, inr}
use native.Mathlib.Numerals.{add-one}
use mir.Syntax.{w32}
use mir.Val.{SFits}
use borrow.Author.Tests.{lt-ltb, le-ltb, ltb-true, ltb-false, eqb-true, eqb-false, ne_eqb}
use Rattle.std.specs.Prelude.{Option, Some, None, option_map}
use Rattle.std.proofs.lemmas.Option.{none-some, same_Some}
use Rattle.maxatom.proofs.Choose.{cond_yes, cond_no}
use Rattle.report.specs.Text.{decimal, signed_field}
use Rattle.report.proofs.Texts.{decimal_last, decimal_more}
use Rattle.commands.specs.Reading.{value_of, begins, number, below_zero, time}

-- one more digit
digit_read : (most value d next : ℕ) (text : List ℕ) → d < 10 → next ≡ 10 * value + d → next ≤ most →
    value_of most value ((48 + d) ∷ text) ≡ value_of most next text
unfolding value_of
digit_read most value d next text h e g =
    let f : 10 * value + (48 + d - 48) ≡ next = omega (arith, e) in
    rw (le-ltb (48 + d) 48 (omega arith), le-ltb 57 (48 + d) (omega arith), f, le-ltb most next g) refl

read_by : (fuel most n : ℕ) (text : List ℕ) → n < fuel → n ≤ most → value_of most 0 (decimal n ++ text) ≡ value_of most n text
read_by zero most n text f h = absurd (omega arith)
read_by (suc fuel) most n text f h = go (ltb n 10) refl (λ g. read_by fuel most (n / 10) ((48 + n % 10) ∷ text) (omega arith) (omega arith))
  where
    go : (b : Bool) → ltb n 10 ≡ b →
        (10 ≤ n → value_of most 0 (decimal (n / 10) ++ ((48 + n % 10) ∷ text)) ≡ value_of most (n / 10) ((48 + n % 10) ∷ text)) →
        value_of most 0 (decimal n ++ text) ≡ value_of most n text
    go true e r = rw (decimal_last n (ltb-true n 10 e)) (digit_read most 0 n n text (ltb-true n 10 e) (omega arith) h)
    go false e r =
        rw (decimal_more n (ltb-false n 10 e), append_assoc (decimal (n / 10)) ((48 + n % 10) ∷ []) text)
        (r (ltb-false n 10 e) ∙ digit_read most (n / 10) (n % 10) n text (omega arith) (omega arith) h)

-- how a number begins
pub record Begun (low : ℕ) (text : List ℕ) : Type 0 where
  pub first : ℕ
  pub rest : List ℕ
  pub is : text ≡ first ∷ rest
  pub high : low ≤ first

begun : (fuel n : ℕ) → n < fuel → 1 ≤ n → Begun 49 (decimal n)
begun zero n f h = absurd (omega arith)
begun (suc fuel) n f h = go (ltb n 10) refl (λ g. begun fuel (n / 10) (omega arith) (omega arith))
  where
    go : (b : Bool) → ltb n 10 ≡ b → (10 ≤ n → Begun 49 (decimal (n / 10))) → Begun 49 (decimal n)
    go true e r = record { first = 48 + n; rest = []; is = decimal_last n (ltb-true n 10 e); high = omega arith }
    go false e r =
        let m = r (ltb-false n 10 e) in
        record {
          first = m.first;
          rest = m.rest ++ ((48 + n % 10) ∷ []);
          is = decimal_more n (ltb-false n 10 e) ∙ ap (λ (l : List ℕ). l ++ ((48 + n % 10) ∷ [])) m.is;
          high = m.high;
        }

pub decimal_begun : (n : ℕ) → Begun 48 (decimal n)
decimal_begun zero = record { first = 48; rest = []; is = decimal_last 0 (omega arith); high = omega arith }
decimal_begun (suc n) =
    let m = begun (suc (suc n)) (suc n) (omega arith) (omega arith) in
    record { first = m.first; rest = m.rest; is = m.is; high = omega (arith, m.high) }

decimal_begins : (n : ℕ) → begins (decimal n) ≡ true
unfolding begins
decimal_begins zero = rw (decimal_last 0 (omega arith)) refl
decimal_begins (suc n) = let m = begun (suc (suc n)) (suc n) (omega arith) (omega arith) in rw m.is (go m.first m.rest m.high)
  where
    go : (b : ℕ) (text : List ℕ) → 49 ≤ b → begins (b ∷ text) ≡ true
    go b [] h = refl
    go b (c ∷ text) h = ap not (ne_eqb b 48 (λ e. omega (arith, e, h)))

-- a number's decimal is read as the number,
pub number_read : (most n : ℕ) → n ≤ most → number most (decimal n) ≡ Some n
unfolding number value_of
number_read most n h =
    cond_yes _ _ (decimal_begins n) ∙ (ap (λ (l : List ℕ). value_of most 0 l) (sym (append-nil (decimal n))) ∙ read_by (suc n) most n [] (omega arith) h)

-- what was read when a digit was
record Digit (most value n b : ℕ) (text : List ℕ) : Type 0 where
  low : 48 ≤ b
  high : b ≤ 57
  small : 10 * value + (b - 48) ≤ most
  more : value_of most (10 * value + (b - 48)) text ≡ Some n

digit_sound : (most value n b : ℕ) (text : List ℕ) → value_of most value (b ∷ text) ≡ Some n → Digit most value n b text
unfolding value_of
digit_sound most value n b text e = go (ltb b 48) refl (ltb 57 b) refl (ltb most (10 * value + (b - 48))) refl e
  where
    go : (p : Bool) → ltb b 48 ≡ p → (q : Bool) → ltb 57 b ≡ q → (r : Bool) → ltb most (10 * value + (b - 48)) ≡ r →
        cond p None (cond q None (cond r None (value_of most (10 * value + (b - 48)) text))) ≡ Some n → Digit most value n b text
    go true p q u r w e = absurd (none-some n e)
    go false p true u r w e = absurd (none-some n e)
    go false p false u true w e = absurd (none-some n e)
    go false p false u false w e =
        record { low = ltb-false b 48 p; high = ltb-false 57 b u; small = ltb-false most (10 * value + (b - 48)) w; more = e }

joined : (value b : ℕ) → 1 ≤ value → 48 ≤ b → b ≤ 57 → decimal (10 * value + (b - 48)) ≡ decimal value ++ (b ∷ [])
joined value b h p q = go (10 * value + (b - 48)) (omega arith) (omega arith) (omega arith)
  where
    go : (n : ℕ) → 10 ≤ n → n / 10 ≡ value → 48 + n % 10 ≡ b → decimal n ≡ decimal value ++ (b ∷ [])
    go n more up last =
        decimal_more n more
        ∙ (ap (λ (k : ℕ). decimal k ++ ((48 + n % 10) ∷ [])) up ∙ ap (λ (k : ℕ). decimal value ++ (k ∷ [])) last)

value_sound : (most value n : ℕ) (text : List ℕ) → 1 ≤ value → value ≤ most → value_of most value text ≡ Some n →
    (decimal value ++ text ≡ decimal n) × (n ≤ most)
unfolding value_of
value_sound most value n [] h g e =
    let f = same_Some value n e in
    (append-nil (decimal value) ∙ ap decimal f, omega (arith, f))
value_sound most value n (b ∷ text) h g e =
    let d = digit_sound most value n b text e in
    let m = value_sound most (10 * value + (b - 48)) n text (omega arith) d.small d.more in
    let step = sym (append_assoc (decimal value) (b ∷ []) text) ∙ ap (λ (l : List ℕ). l ++ text) (sym (joined value b h d.low d.high)) in
    (step ∙ m.0, m.1)

-- and what is read as a number is the number's decimal
pub number_sound : (most n : ℕ) (text : List ℕ) → number most text ≡ Some n → (text ≡ decimal n) × (n ≤ most)
unfolding number begins value_of
number_sound most n [] e = absurd (none-some n e)
number_sound most n (b ∷ []) e =
    let d = digit_sound most 0 n b [] e in
    let f = same_Some (10 * 0 + (b - 48)) n d.more in
    let is : b ≡ 48 + n = let low = d.low in omega (arith, low, f) in
    let small : n < 10 = let high = d.high in omega (arith, high, is) in
    (ap (λ (k : ℕ). k ∷ []) is ∙ sym (decimal_last n small), let small = d.small in omega (arith, f, small))
number_sound most n (b ∷ c ∷ text) e = go (eqb b 48) refl e
  where
    go : (p : Bool) → eqb b 48 ≡ p → cond (not p) (value_of most 0 (b ∷ c ∷ text)) None ≡ Some n → (b ∷ c ∷ text ≡ decimal n) × (n ≤ most)
    go true p e = absurd (none-some n e)
    go false p e =
        let d = digit_sound most 0 n b (c ∷ text) e in
        let low = d.low in
        let high = d.high in
        let apart = eqb-false b 48 p in
        let above : 49 ≤ b = omega (arith, low, apart) in
        let is : b ≡ 48 + (10 * 0 + (b - 48)) = omega (arith, low) in
        let m = value_sound most (10 * 0 + (b - 48)) n (c ∷ text) (omega (arith, above)) d.small d.more in
        let one = decimal_last (10 * 0 + (b - 48)) (omega (arith, high)) in
        (ap (λ (k : ℕ). k ∷ c ∷ text) is ∙ (ap (λ (l : List ℕ). l ++ (c ∷ text)) (sym one) ∙ m.0), m.1)

-- a time's decimal, with its sign
unfoldable pub signed_decimal : ℤ → List ℕ
signed_decimal (pos n) = decimal n
signed_decimal (negsuc n) = 45 ∷ decimal (suc n)

pub signed_is : (t : ℤ) → signed_field t ≡ 32 ∷ signed_decimal t
unfolding signed_field signed_decimal
signed_is (pos n) = refl
signed_is (negsuc n) = refl

pub time_read : (t : ℤ) → SFits w32 t → time (signed_decimal t) ≡ Some t
unfolding time signed_decimal below_zero
time_read (pos n) h =
    let m = decimal_begun n in
    let f : n < 2 ^ 31 = h.sfits in
    rw m.is (cond_no _ _ (ne_eqb m.first 45 (λ e. let high = m.high in omega (arith, e, high)))
    ∙ ap (option_map pos) (ap (λ (l : List ℕ). number 2147483647 l) (sym m.is) ∙ number_read 2147483647 n (omega (arith, f))))
time_read (negsuc n) h =
    let f : n < 2 ^ 31 = h.sfits in
    ap below_zero (number_read 2147483648 (suc n) (omega (arith, f)))

below_sound : (o : Option ℕ) (t : ℤ) → below_zero o ≡ Some t → (n : ℕ) × (o ≡ Some (suc n)) × (negsuc n ≡ t)
unfolding below_zero
below_sound None t e = absurd (none-some t e)
below_sound (Some zero) t e = absurd (none-some t e)
below_sound (Some (suc n)) t e = (n, refl, same_Some (negsuc n) t e)

above_sound : (o : Option ℕ) (t : ℤ) → option_map pos o ≡ Some t → (n : ℕ) × (o ≡ Some n) × (pos n ≡ t)
above_sound None t e = absurd (none-some t e)
above_sound (Some n) t e = (n, refl, same_Some (pos n) t e)

pub time_sound : (t : ℤ) (text : List ℕ) → time text ≡ Some t → (text ≡ signed_decimal t) × SFits w32 t
unfolding time signed_decimal
time_sound t [] e = absurd (none-some t e)
time_sound t (b ∷ text) e = go (eqb b 45) refl e
  where
    go : (p : Bool) → eqb b 45 ≡ p → cond p (below_zero (number 2147483648 text)) (option_map pos (number 2147483647 (b ∷ text))) ≡ Some t →
        (b ∷ text ≡ signed_decimal t) × SFits w32 t
    go true p e =
        let (n, read, is) = below_sound (number 2147483648 text) t e in
        let (same, small) = number_sound 2147483648 (suc n) text read in
        rw (← is) (rw (eqb-true b 45 p) (ap (λ (l : List ℕ). 45 ∷ l) same), record { sfits = omega (arith, small) })
    go false p e =
        let (n, read, is) = above_sound (number 2147483647 (b ∷ text)) t e in
        let (same, small) = number_sound 2147483647 n (b ∷ text) read in
        rw (← is) (same, record { sfits = omega (arith, small) })

-- what the code finds before it looks at the digits
pub number_none : (most : ℕ) (text : List ℕ) → length text ≡ 0 → None ≡ number most text
unfolding number begins
number_none most [] h = refl
number_none most (b ∷ text) h = absurd (omega (arith, h))

pub number_zeros : (most : ℕ) (text : List ℕ) → 1 < length text → get_or text 0 0 ≡ 48 → None ≡ number most text
unfolding number begins
number_zeros most [] h e = absurd (omega (arith, h))
number_zeros most (b ∷ []) h e = absurd (omega (arith, h))
number_zeros most (b ∷ c ∷ text) h e = rw e refl

pub number_begins : (most : ℕ) (text : List ℕ) → (length text ≡ 0 → ⊥) →
    ((get_or text 0 0 ≡ 48) × (length text ≤ 1)) ⊎ (get_or text 0 0 ≡ 48 → ⊥) → value_of most 0 text ≡ number most text
unfolding number begins
number_begins most [] h e = absurd (h refl)
number_begins most (b ∷ []) h e = refl
number_begins most (b ∷ c ∷ text) h (inl e) = absurd (let f = e.1 in omega (arith, f))
number_begins most (b ∷ c ∷ text) h (inr e) = rw (ne_eqb b 48 e) refl

-- and at a digit
module _ (most value i : ℕ) (text : List ℕ) (inside : i < length text) (same : value_of most value (drop i text) ≡ number most text) where
  abbrev here : ℕ
  here = get_or text i 0

  at : value_of most value (here ∷ drop (i + 1) text) ≡ number most text
  at = rw (drop-cons text i 0 inside, ← add-one) at same

  pub value_other : (here < 48) ⊎ (57 < here) → None ≡ number most text
  unfolding value_of
  value_other (inl h) = rw (lt-ltb here 48 h) at at
  value_other (inr h) = go (ltb here 48) at
    where
      go : (p : Bool) → cond p None (cond (ltb 57 here) None
          (cond (ltb most (10 * value + (here - 48))) None (value_of most (10 * value + (here - 48)) (drop (i + 1) text)))) ≡ number most text →
          None ≡ number most text
      go true e = e
      go false e = rw (lt-ltb 57 here h) at e

  module _ (low : 48 ≤ here) (high : here ≤ 57) where
    pub value_past : most < 10 * value + (here - 48) → None ≡ number most text
    unfolding value_of
    value_past h = rw (le-ltb here 48 low, le-ltb 57 here high, lt-ltb most (10 * value + (here - 48)) h) at at

    pub value_step : 10 * value + (here - 48) ≤ most → value_of most (10 * value + (here - 48)) (drop (i + 1) text) ≡ number most text
    unfolding value_of
    value_step h = rw (le-ltb here 48 low, le-ltb 57 here high, le-ltb most (10 * value + (here - 48)) h) at at

pub value_end : (most value i : ℕ) (text : List ℕ) → length text ≤ i → value_of most value (drop i text) ≡ number most text → Some value ≡ number most text
unfolding value_of
value_end most value i text h same = rw (drop_of_length-le text {i = i} h) at same

-- and of a time
pub time_empty : (text : List ℕ) → length text ≡ 0 → None ≡ time text
unfolding time
time_empty [] h = refl
time_empty (b ∷ text) h = absurd (omega (arith, h))

pub time_below : (text : List ℕ) → (length text ≡ 0 → ⊥) → get_or text 0 0 ≡ 45 → below_zero (number 2147483648 (drop 1 text)) ≡ time text
unfolding time
time_below [] h e = absurd (h refl)
time_below (b ∷ text) h e = rw e refl

pub time_above : (text : List ℕ) → (length text ≡ 0 → ⊥) → (get_or text 0 0 ≡ 45 → ⊥) → option_map pos (number 2147483647 text) ≡ time text
unfolding time
time_above [] h e = absurd (h refl)
time_above (b ∷ text) h e = rw (ne_eqb b 45 e) refl

pub number_small : (most n : ℕ) (text : List ℕ) → Some n ≡ number most text → n ≤ most
number_small most n text e = (number_sound most n text (sym e)).1

-- what an optional number says of a time
pub time_below_of : (text : List ℕ) (o : Option ℕ) → (length text ≡ 0 → ⊥) → get_or text 0 0 ≡ 45 →
    o ≡ number 2147483648 (take (length text - 1) (drop 1 text)) → below_zero o ≡ time text
time_below_of text o h e f =
    ap below_zero (f ∙ ap (λ (l : List ℕ). number 2147483648 l) (take_rest text 1)) ∙ time_below text h e

pub time_above_of : (text : List ℕ) (o : Option ℕ) → (length text ≡ 0 → ⊥) → (get_or text 0 0 ≡ 45 → ⊥) →
    o ≡ number 2147483647 text → option_map pos o ≡ time text
time_above_of text o h e f = ap (option_map pos) f ∙ time_above text h e
