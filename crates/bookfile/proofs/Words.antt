-- Numbers in bytes: which integers they are. Assumes nothing.
use mathlib.Core.Path.{◌≡◌, refl, sym, ap, ◌∙◌}
use mathlib.Core.Logic.{⊎_elim}
use mathlib.Core.Bool.{Bool, true, false}
use Prim.Native.Nat.{ℕ, suc, ◌+◌, ◌-◌, ◌*◌, ◌<◌, ◌≤◌, ◌^◌}
use native.Mathlib.Omega.{arith}
use borrow.Author.Tests.{lt-ltb, le-ltb}
use lib.Dec.{ltb}
use mathlib.Core.List.{List}
use lib.ListN.{get_or}
use lib.IntN.{ℤ, pos, negsuc, neg_ℤ, nat_abs, ◌+ℤ◌, ◌-ℤ◌, ◌*ℤ◌, pos-*ℤ-pos, pos-*ℤ-negsuc}
use native.Mathlib.Decide.{dec_lt}
use lib.Signed.{lt_z, ◌<ℤ◌, ◌≤ℤ◌}
use mir.Syntax.{Width, w16, w32}
use mir.Val.{SFits, bits, hbits, to_z, of_z}
use mir.Facts.{to_z_pos}
use Rattle.maxatom.specs.Book.{minus}
use Rattle.maxatom.proofs.Choose.{cond_yes, cond_no}
use Rattle.maxatom.proofs.Integers.{up, dn, eq_make, add_parts, neg_parts, one_part, abs_parts, minus_parts, le_make, le_read, lt_make, lt_read, true_lt, lt_true, false_lt, lt_false}
use Rattle.maxatom.proofs.Signed.{fits_make, fits_read}
use Rattle.bookfile.specs.Numbers.{word, long, signed, signed16, signed32, unsigned32}
use Rattle.derivation.specs.Refusals.{beyond}

pub signed_low : (half n : ℕ) → n < half → pos n ≡ signed half n
unfolding signed
signed_low half n h = sym (cond_yes _ _ (lt-ltb n half h))

pub signed_high : (half n : ℕ) → half ≤ n → pos n -ℤ pos (2 * half) ≡ signed half n
unfolding signed
signed_high half n h = sym (cond_no _ _ (le-ltb n half h))

-- a difference below zero
high_parts : (n m : ℕ) → n < m → (up (pos n -ℤ pos m) ≡ 0) × (dn (pos n -ℤ pos m) + n ≡ m)
high_parts n m h =
    ⊎_elim
    (λ u. omega (arith, add_parts (pos n) (neg_ℤ (pos m)), neg_parts (pos m)))
    (λ d. absurd (omega (arith, add_parts (pos n) (neg_ℤ (pos m)), neg_parts (pos m))))
    (one_part (pos n -ℤ pos m))

-- the bits of a number with sign, read back
pub signed_is : (w : Width) (n : ℕ) → n < 2 ^ bits w → 2 * 2 ^ hbits w ≡ 2 ^ bits w → to_z w n ≡ signed (2 ^ hbits w) n
signed_is w n h two = go (dec_lt n (2 ^ hbits w))
  where
    go : Dec (n < 2 ^ hbits w) → to_z w n ≡ signed (2 ^ hbits w) n
    go (yes l) = to_z_pos w {n = n} l ∙ signed_low (2 ^ hbits w) n l
    go (no l) =
        let e : ltb n (2 ^ hbits w) ≡ false = le-ltb n (2 ^ hbits w) (omega arith) in
        let z : to_z w n ≡ negsuc (2 ^ bits w - suc n) = rw e in
        let p = high_parts n (2 * 2 ^ hbits w) (omega arith) in
        z ∙ eq_make {a = negsuc (2 ^ bits w - suc n)} {b = pos n -ℤ pos (2 * 2 ^ hbits w)} (omega arith) ∙ signed_high (2 ^ hbits w) n (omega arith)

pub signed16_is : (n : ℕ) → n < 2 ^ 16 → to_z w16 n ≡ signed16 n
signed16_is n h = signed_is w16 n h refl

pub signed32_is : (n : ℕ) → n < 2 ^ 32 → to_z w32 n ≡ signed32 n
signed32_is n h = signed_is w32 n h refl

-- 60 minutes an hour
pub sixty_parts : (z : ℤ) → (up (pos 60 *ℤ z) ≡ 60 * up z) × (dn (pos 60 *ℤ z) ≡ 60 * dn z)
sixty_parts (pos n) = (ap up (pos-*ℤ-pos 60 n), ap dn (pos-*ℤ-pos 60 n))
sixty_parts (negsuc n) =
    let e = pos-*ℤ-negsuc 60 n in
    (omega (arith, ap up e, neg_parts (pos (60 * suc n))), omega (arith, ap dn e, neg_parts (pos (60 * suc n))))

pub sixty_fits : {z : ℤ} → SFits w16 z → SFits w32 (pos 60 *ℤ z)
sixty_fits {z = z} f = fits_make w32 (omega (arith, sixty_parts z, fits_read w16 f)) (omega (arith, sixty_parts z, fits_read w16 f))

-- two tests that hold together
pub lt_same : (a b c d : ℤ) → (a <ℤ b → c <ℤ d) → (b ≤ℤ a → d ≤ℤ c) → lt_z a b ≡ lt_z c d
lt_same a b c d f g = go (lt_z a b) refl
  where
    go : (t : Bool) → lt_z a b ≡ t → t ≡ lt_z c d
    go true e = sym (true_lt (f (lt_true e)))
    go false e = sym (false_lt (g (lt_false a b e)))

-- hours within bounds are minutes within bounds
pub sixty_beyond : (h : ℤ) → beyond 336 h ≡ beyond 20160 (pos 60 *ℤ h)
unfolding beyond
sixty_beyond h =
    let p = sixty_parts h in
    let l =
    lt_same h (minus 336) (pos 60 *ℤ h) (minus 20160) (λ q. lt_make (omega (arith, lt_read q, p, minus_parts 336, minus_parts 20160)))
    (λ q. le_make (omega (arith, le_read q, p, minus_parts 336, minus_parts 20160))) in
    let u =
    lt_same (pos 336) h (pos 20160) (pos 60 *ℤ h) (λ q. lt_make (omega (arith, lt_read q, p)))
    (λ q. le_make (omega (arith, le_read q, p))) in
    cc

-- the 32 bits of a number below zero, and of another
module _ (t : ℤ) (f : SFits w32 t) where
  abbrev raised : ℤ
  raised = t +ℤ pos 4294967296

  pub raised_parts : t <ℤ pos 0 → (dn raised ≡ 0) × (up raised + dn t ≡ 4294967296) × (1 ≤ dn t)
  raised_parts h =
      let p = add_parts t (pos 4294967296) in
      let l = lt_read h in
      let b = fits_read w32 f in
      let u : up t ≡ 0 = ⊎_elim (λ q. q) (λ q. absurd (omega arith)) (one_part t) in
      ⊎_elim (λ q. absurd (omega (arith, b.1))) (λ q. (q, omega arith, omega arith)) (one_part raised)

pub unsigned_raised : (t : ℤ) → lt_z t (pos 0) ≡ true → nat_abs (t +ℤ pos 4294967296) ≡ unsigned32 t
unfolding unsigned32
unsigned_raised t h = ap nat_abs (sym (cond_yes _ _ h))

pub unsigned_plain : (t : ℤ) → lt_z t (pos 0) ≡ false → nat_abs t ≡ unsigned32 t
unfolding unsigned32
unsigned_plain t h = ap nat_abs (sym (cond_no _ _ h))

-- and they are those that the machine holds
pub unsigned32_is : (t : ℤ) → SFits w32 t → of_z w32 t ≡ unsigned32 t
unsigned32_is (pos n) f = unsigned_plain (pos n) (le-ltb n 0 (omega arith))
unsigned32_is (negsuc n) f =
    let p = raised_parts (negsuc n) f (record { lt = tt }) in
    let e : 2 ^ 32 - suc n ≡ nat_abs (negsuc n +ℤ pos 4294967296) = omega (arith, p, abs_parts (negsuc n +ℤ pos 4294967296)) in
    e ∙ unsigned_raised (negsuc n) refl

-- four bytes, each by its place
module _ (bytes : List ℕ) (at : ℕ) where
  pub long_is : get_or bytes at 0 + get_or bytes (at + 1) 0 * 256 + get_or bytes (at + 2) 0 * 65536 + get_or bytes (at + 3) 0 * 16777216 ≡ long bytes at
  unfolding long word
  long_is = let e : at + 2 + 1 ≡ at + 3 = omega arith in rw e (omega arith)

  pub long_small : ((i : ℕ) → get_or bytes i 0 < 256) → long bytes at < 2 ^ 32
  unfolding long word
  long_small h = omega (arith, h at, h (at + 1), h (at + 2), h (at + 2 + 1))
