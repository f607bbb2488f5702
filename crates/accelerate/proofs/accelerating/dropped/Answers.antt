use Rattle.std.proofs.Common.{◌≡◌, ℕ, ℤ, pos, ◌+ℤ◌, below_more, rules, SFits, w32, to_z, of_z}
use mir.Facts.{to_z-of_z}
use Rattle.accelerate.proofs.accelerating.dropped.Goals as goal

-- what a test of two times says of them
told : {a b : ℤ} {m n : ℕ} → to_z w32 (of_z w32 a) ≡ to_z w32 (of_z w32 b) +ℤ pos m → m ≡ n → SFits w32 a → SFits w32 b → a ≡ b +ℤ pos n
told e q f g = rw (to_z-of_z f, to_z-of_z g, q) at e

pub loop-i-preserved : goal.loop-i-preserved
loop-i-preserved c =
    record {
      near_is = below_more _ _ c.loop-i.invariant.near_is (told (c.is_earlier.ensures c.if-not-is_earlier.false) c.from.ensures (search rules) (search rules));
      far_is = below_more _ _ c.loop-i.invariant.far_is
          (told (c.is_earlier-else-not-is_earlier.ensures c.if-not-is_earlier-2.false) c.product.ensures.0 (search rules) (search rules));
    }
