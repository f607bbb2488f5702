-- Lines: in repeated passes each time falls along a line, and two lines that keep their order at both ends keep it between. Assumes nothing.
use mathlib.Core.Path.{◌≡◌, refl}
use mathlib.Core.Bool.{Bool, true, false}
use mathlib.Core.List.{List}
use Prim.Native.Nat.{ℕ, ◌+◌, ◌*◌, ◌-◌, ◌≤◌}
use native.Mathlib.Nat.{mul-sub, mul-pos, mul-le-mul_left, mul-le-mul_right, le_of_mul-le-mul_left}
use native.Mathlib.Numerals.{add-one}
use native.Mathlib.Omega.{arith}
use lib.IntN.{ℤ, pos, ◌+ℤ◌}
use lib.Signed.{◌≤ℤ◌}
use lib.Dec.{leb}
use borrow.Author.Tests.{leb-true, leb-false}
use Rattle.maxatom.specs.Rule.{time_at}
use Rattle.maxatom.specs.Clauses.{Clause}
use Rattle.maxatom.specs.Passes.{LockstepPasses, Passing, Traced, Along, start, round}
use Rattle.maxatom.proofs.Integers.{le_read, le_make, eq_make, add_parts}
use Rattle.maxatom.proofs.Lockstep.{Aparts, Down, repeats}
use Rattle.maxatom.proofs.Walks.{walk_low}
use Rattle.maxatom.proofs.Components.{recounted, passing_low}

-- a time that starts, or does not fall, or counts from another time
pub along_start : {p minutes : ℕ} (b : ℤ) → Along p minutes b 0 b
along_start {minutes = minutes} b =
    record {
      periods = 0;
      begun = omega arith;
      ended = omega arith;
      below = le_make (omega (arith, add_parts b (pos (0 * minutes))));
      above = le_make (omega (arith, add_parts b (pos ((0 + 1) * minutes))));
    }

pub along_still : (i : ℕ) (b : ℤ) → Along 1 0 b i b
along_still i b =
    record {
      periods = i;
      begun = omega arith;
      ended = omega arith;
      below = le_make (omega (arith, add_parts b (pos (i * 0))));
      above = le_make (omega (arith, add_parts b (pos ((i + 1) * 0))));
    }

pub along_shift : {p minutes i : ℕ} {b v : ℤ} (k : ℤ) → Along p minutes b i v → Along p minutes (b +ℤ k) i (v +ℤ k)
along_shift {minutes = minutes} {b = b} {v = v} k l =
    let low = pos (l.periods * minutes) in
    let high = pos ((l.periods + 1) * minutes) in
    record {
      periods = l.periods;
      begun = l.begun;
      ended = l.ended;
      below = le_make (omega (arith, le_read l.below, add_parts v low, add_parts (v +ℤ k) low, add_parts v k, add_parts b k));
      above = le_make (omega (arith, le_read l.above, add_parts v high, add_parts (v +ℤ k) high, add_parts v k, add_parts b k));
    }

module _ {floor : ℤ} {cs : List Clause} {least : ℕ} {P : ℕ → Type 0} {passes : ℕ} {minutes : ℕ → ℕ} {b₀ : List ℤ} where
  -- part of a repetition more, after q of them
  pub along_rest : (q : ℕ) {m e : List ℤ} {k r s : ℕ} → Traced floor cs least P (λ job i v. Along passes (minutes job) (time_at b₀ job) i v) b₀ m (q * passes) k →
      Passing floor cs least m e r s → r ≤ passes → ((job : ℕ) → P job → time_at b₀ job ≡ time_at m job +ℤ pos (q * minutes job)) →
      ((job : ℕ) → P job → time_at b₀ job ≤ℤ (time_at e job +ℤ pos ((q + 1) * minutes job))) →
      Traced floor cs least P (λ job i v. Along passes (minutes job) (time_at b₀ job) i v) b₀ e (q * passes + r) (k + s)
  along_rest q t start few is above = recounted (omega arith) (omega arith) t
  along_rest q {m = m} {e = e} t (round {b' = b'} l w h) few is above =
      let high : (job : ℕ) → ℤ = λ job. pos ((q + 1) * minutes job) in
      let up_to_lem = along_rest q t l (omega arith) is
      (λ job i. le_make (omega (arith, le_read (above job i), le_read (walk_low w job), add_parts (time_at e job) (high job), add_parts (time_at b' job) (high job)))) in
      recounted (omega arith) (omega arith)
      (round up_to_lem w h
      (λ job i.
      record {
        periods = q;
        begun = omega arith;
        ended = omega arith;
        below = rw (is job i) (le_make (omega (
          arith,
          le_read (passing_low l job),
          le_read (walk_low w job),
          add_parts (time_at m job) (pos (q * minutes job)),
          add_parts (time_at e job) (pos (q * minutes job)),
        )));
        above = above job i;
      }))

-- the repetitions, traced
pub repeated_along : {floor : ℤ} {cs : List Clause} {b c near far : List ℤ} {passes s : ℕ} → LockstepPasses floor cs b c near far passes s → (t : ℕ) → 1 ≤ t →
    Aparts t b near c far → {P : ℕ → Type 0} (minutes : ℕ → ℕ) → ((job : ℕ) → P job → time_at b job ≡ time_at near job +ℤ pos (minutes job)) →
    Traced floor cs 1 P (λ job i v. Along passes (minutes job) (time_at b job) i v) b far ((t + 1) * passes) ((t + 1) * s)
repeated_along {floor = floor} {cs = cs} {b = b} {passes = passes} {s = s} r t some a {P = P} minutes is =
    recounted (omega arith) (omega arith)
    (repeats r t some a (λ q m. Traced floor cs 1 P (λ job i v. Along passes (minutes job) (time_at b job) i v) b m (q * passes) (q * s))
    (λ q m e h h' k g.
    recounted (omega arith) (omega arith)
    (along_rest q g k (omega arith) (λ job i. h.at job (minutes job) (is job i))
    (λ job i. rw (add-one q, h'.at job (minutes job) (is job i)) (le_make (omega arith)))))
    (recounted (omega arith) (omega arith) (start (λ job i. along_start (time_at b job)))))

-- and where it ends
pub repeated_ends : {floor : ℤ} {cs : List Clause} {b c near far : List ℤ} {passes s : ℕ} → LockstepPasses floor cs b c near far passes s → (t : ℕ) → 1 ≤ t →
    Aparts t b near c far → (job d : ℕ) → time_at b job ≡ time_at near job +ℤ pos d → time_at b job ≡ time_at far job +ℤ pos ((t + 1) * d)
repeated_ends {b = b} {near = near} r t some a job d e =
    let from : Down b near 0 b = record { at = λ j d e. eq_make (omega (arith, add_parts (time_at b j) (pos (0 * d)))) } in
    rw (add-one t) ((repeats r t some a (λ q m. Down b near q m) (λ q m e h h' k g. h') from).at job d e)

-- a linear bound that holds at 0 and at n holds between
linear : (a c e g n i : ℕ) → i ≤ n → c ≤ g → c + a * n ≤ g + e * n → c + a * i ≤ g + e * i
linear a c e g n i h first last = go (leb a e) refl
  where
    go : (t : Bool) → leb a e ≡ t → c + a * i ≤ g + e * i
    go true f = omega (arith, mul-le-mul_right i (leb-true a e f))
    go false f = omega (arith, mul-le-mul_right (n - i) (leb-false a e f), mul-sub a n i, mul-sub e n i, mul-le-mul_left a h, mul-le-mul_left e h)

-- y is not above x a pass later, where the lines leave room for that at pass 0 and at pass n
pub stays : (p q dx dy gap n : ℕ) {bx by : ℤ} → 1 ≤ p → 1 ≤ q → (by +ℤ pos gap) ≤ℤ bx →
    dx * (1 + p) * q + dy * p * q ≤ gap * p * q → dx * (n + 1 + p) * q + dy * p * q ≤ gap * p * q + dy * p * n →
    (i : ℕ) → i ≤ n → {vx vy : ℤ} → Along q dy by i vy → Along p dx bx (i + 1) vx → vy ≤ℤ vx
stays p q dx dy gap n {by = by} some-x some-y room first last i h {vx = vx} {vy = vy} y x =
    let enough : (x.periods + 1) * dx ≤ gap + y.periods * dy =
    le_of_mul-le-mul_left {k = p * q}
    (omega (
      arith,
      mul-le-mul_left (dx * q) x.begun,
      mul-le-mul_left (dy * p) y.ended,
      linear (dx * q) (dx * (1 + p) * q + dy * p * q) (dy * p) (gap * p * q) n i h first (omega arith),
    )) (mul-pos some-x some-y) in
    le_make (omega (
      arith,
      enough,
      le_read room,
      le_read y.below,
      le_read x.above,
      add_parts by (pos gap),
      add_parts vy (pos (y.periods * dy)),
      add_parts vx (pos ((x.periods + 1) * dx)),
    ))
