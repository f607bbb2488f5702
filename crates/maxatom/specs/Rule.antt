-- A rule (x, y, k → z) at an assignment of times, one a job.
use Rattle.std.specs.Prelude.{Bool, cond, ◌&&◌, List, ℕ, get_or, ℤ, pos, ◌+ℤ◌, ◌-ℤ◌, nat_abs}
use Rattle.std.specs.Int.Signed.{le_z, lt_z}
use Rattle.maxatom.specs.declared.Rule.{Rule}

-- the time of a job (an assignment is document 01's board)
abbrev pub time_at : List ℤ → ℕ → ℤ
time_at times job = get_or times job (pos 0)

-- the larger of two
unfoldable pub max_z : ℤ → ℤ → ℤ
max_z a b = cond (lt_z a b) b a

-- left side
unfoldable pub left_side : Rule → List ℤ → ℤ
left_side r times = max_z (time_at times r.x) (time_at times r.y) +ℤ r.k

-- kept; a rule that is not is broken
unfoldable pub satisfied : Rule → List ℤ → Bool
satisfied r times = le_z (time_at times r.z) (left_side r times)

unfoldable pub eq_z : ℤ → ℤ → Bool
eq_z a b = le_z a b && le_z b a

-- tight
unfoldable pub tight : Rule → List ℤ → Bool
tight r times = eq_z (left_side r times) (time_at times r.z)

-- the minutes that a time is lowered by
unfoldable pub minutes_off : ℤ → ℤ → ℕ
minutes_off before after = nat_abs (before -ℤ after)
