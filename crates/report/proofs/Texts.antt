-- Pieces of text, one after another, and numbers in decimal. Assumes nothing.
use mathlib.Core.Path.{◌≡◌, refl, sym, ap, ◌∙◌}
use mathlib.Core.Bool.{Bool, true, false, cond}
use mathlib.Core.List.{List, [], ◌∷◌, ◌++◌, append_assoc, append-nil}
use Prim.Native.Nat.{ℕ, zero, suc, ◌+◌, ◌/◌, ◌%◌, ◌^◌, ◌<◌, ◌≤◌}
use native.Mathlib.Nat.{pow-suc}
use native.Mathlib.Omega.{arith}
use lib.Dec.{ltb}
use lib.ListN.{length, take, drop, set, length-append}
use lib.IntN.{ℤ, pos, negsuc, nat_abs}
use lib.Signed.{lt_z}
use lib.Seq.{sets, sets-eq, take_at}
use borrow.Author.Tests.{lt-ltb, le-ltb, ltb-true, ltb-false}
use Rattle.maxatom.proofs.Choose.{cond_yes, cond_no, clash}
use Rattle.report.specs.Text.{Written, digits, decimal, field, signed_field}
use Rattle.report.specs.Inner.{Writes}
use Rattle.report.specs.declared.text.Text.{Text}

sets_append : (l : List ℕ) (i : ℕ) (xs ys : List ℕ) → sets l i (xs ++ ys) ≡ sets (sets l i xs) (i + length xs) ys
sets_append l i [] ys = ap (λ (k : ℕ). sets l k ys) (omega arith)
sets_append l i (x ∷ xs) ys = sets_append (set l i x) (suc i) xs ys ∙ ap (λ (k : ℕ). sets (sets (set l i x) (suc i) xs) k ys) (omega arith)

-- one piece after another
pub writes_then : {t u v : Text} {xs ys : List ℕ} → Writes t xs u → Writes u ys v → Writes t (xs ++ ys) v
writes_then {t = t} {u = u} {xs = xs} {ys = ys} a b =
    record {
      written = record {
        is = b.written.is ∙ (ap (λ (k : List ℕ). sets k u.end ys) a.written.is ∙ (ap (λ (k : ℕ). sets (sets t.out.now t.end xs) k ys) a.written.to ∙ sym (sets_append t.out.now t.end xs ys)));
        to = let e = a.written.to in let f = b.written.to in omega (arith, length-append xs ys);
      };
      same = b.same ∙ a.same;
    }

-- a text that was written at the start of a buffer
pub written_take : {before bytes after : List ℕ} {next : ℕ} → Written before 0 bytes after next → next ≤ length before → take next after ≡ bytes
written_take {before = before} {bytes = bytes} {next = next} w h =
    let to = w.to in
    rw (w.is, sets-eq bytes before 0 (omega (arith, to, h)))
    (take_at bytes (drop (0 + length bytes) before) next (omega (arith, to)))

-- any fuel above the number serves
fuel_enough : (k l n : ℕ) → n < k → n < l → digits k n ≡ digits l n
unfolding digits
fuel_enough zero l n h g = absurd (omega arith)
fuel_enough (suc k) zero n h g = absurd (omega arith)
fuel_enough (suc k) (suc l) n h g = go (ltb n 10) refl (λ q. fuel_enough k l (n / 10) (omega arith) (omega arith))
  where
    go : (b : Bool) → ltb n 10 ≡ b → (10 ≤ n → digits k (n / 10) ≡ digits l (n / 10)) →
        cond b ((48 + n) ∷ []) (digits k (n / 10) ++ ((48 + n % 10) ∷ [])) ≡ cond b ((48 + n) ∷ []) (digits l (n / 10) ++ ((48 + n % 10) ∷ []))
    go true e f = refl
    go false e f = ap (λ (r : List ℕ). r ++ ((48 + n % 10) ∷ [])) (f (ltb-false n 10 e))

pub decimal_last : (n : ℕ) → n < 10 → decimal n ≡ (48 + n) ∷ []
unfolding decimal digits
decimal_last n h = cond_yes _ _ (lt-ltb n 10 h)

pub decimal_more : (n : ℕ) → 10 ≤ n → decimal n ≡ decimal (n / 10) ++ ((48 + n % 10) ∷ [])
unfolding decimal digits
decimal_more n h = cond_no _ _ (le-ltb n 10 h) ∙ ap (λ (r : List ℕ). r ++ ((48 + n % 10) ∷ [])) (fuel_enough n (suc (n / 10)) (n / 10) (omega arith) (omega arith))

-- how long a number is
digits_length : (fuel k n : ℕ) → n < 10 ^ suc k → length (digits fuel n) ≤ suc k
unfolding digits
digits_length zero k n h = omega arith
digits_length (suc fuel) zero n h = go (ltb n 10) refl
  where
    go : (b : Bool) → ltb n 10 ≡ b → length (cond b ((48 + n) ∷ []) (digits fuel (n / 10) ++ ((48 + n % 10) ∷ []))) ≤ 1
    go true e = omega arith
    go false e = absurd (omega (arith, ltb-false n 10 e))
digits_length (suc fuel) (suc k) n h = go (ltb n 10) (digits_length fuel k (n / 10) less)
  where
    less : n / 10 < 10 ^ suc k
    less = omega (arith, pow-suc 10 (suc k))

    go : (b : Bool) → length (digits fuel (n / 10)) ≤ suc k → length (cond b ((48 + n) ∷ []) (digits fuel (n / 10) ++ ((48 + n % 10) ∷ []))) ≤ suc (suc k)
    go true f = omega arith
    go false f = omega (arith, length-append (digits fuel (n / 10)) ((48 + n % 10) ∷ []))

pub decimal_length : (n : ℕ) → n < 2 ^ 64 → length (decimal n) ≤ 20
unfolding decimal
decimal_length n h = digits_length (suc n) 19 n (omega arith)

-- a number with its sign
pub below_text : (t : ℤ) → lt_z t (pos 0) ≡ true → signed_field t ≡ 32 ∷ 45 ∷ decimal (nat_abs t)
unfolding signed_field
below_text (pos n) e = absurd (omega (arith, ltb-true n 0 e))
below_text (negsuc n) e = refl

pub above_text : (t : ℤ) → lt_z t (pos 0) ≡ false → signed_field t ≡ field (nat_abs t)
unfolding signed_field
above_text (pos n) e = refl
above_text (negsuc n) e = clash refl e

-- part of a text is written, and the rest is to come
pub record Listed (whole rest : List ℕ) (before after : Text) : Type 0 where
  pub bytes : List ℕ
  pub written : Writes before bytes after
  pub joined : bytes ++ rest ≡ whole

module _ {whole : List ℕ} {before after : Text} where
  pub listed_next : {xs rest rest' : List ℕ} {next : Text} → rest ≡ xs ++ rest' → Listed whole rest before after → Writes after xs next → Listed whole rest' before next
  listed_next {xs = xs} {rest' = rest'} e l w =
      record {
        bytes = l.bytes ++ xs;
        written = writes_then l.written w;
        joined = append_assoc l.bytes xs rest' ∙ (ap (λ (r : List ℕ). l.bytes ++ r) (sym e) ∙ l.joined);
      }

  pub listed_same : {rest rest' : List ℕ} → rest ≡ rest' → Listed whole rest before after → Listed whole rest' before after
  listed_same e l = record { bytes = l.bytes; written = l.written; joined = ap (λ (r : List ℕ). l.bytes ++ r) (sym e) ∙ l.joined }

  pub listed_all : {rest : List ℕ} → rest ≡ [] → Listed whole rest before after → Writes before whole after
  listed_all e l = rw (sym (append-nil l.bytes) ∙ (ap (λ (r : List ℕ). l.bytes ++ r) (sym e) ∙ l.joined)) at l.written
