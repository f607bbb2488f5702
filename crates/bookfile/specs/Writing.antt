-- What is written: a rule's record; and a plan, from a byte the caller names.
use Rattle.std.specs.Prelude.{List, [], ◌∷◌, ◌++◌, ℕ, ◌+◌, ◌*◌, ltb, length, take, drop, ℤ}
use Rattle.derivation.specs.Refusals.{Check, check, verdict, lent, jobs_check}
use Rattle.maxatom.specs.declared.Rule.{Rule}
use Rattle.bookfile.specs.Numbers.{unsigned32, bytes_of}

-- 12 bytes: `RU` in ASCII, x, y and z (16 bits each), and k (32 bits signed)
unfoldable pub rule_record : Rule → List ℕ
rule_record r = 82 ∷ 85 ∷ bytes_of 2 r.x ++ bytes_of 2 r.y ++ bytes_of 2 r.z ++ bytes_of 4 (unsigned32 r.k)

-- 8 bytes a job: `PL` in ASCII, the job (16 bits) and its time (32 bits signed)
unfoldable pub plan_record : ℕ → ℤ → List ℕ
plan_record job time = 80 ∷ 76 ∷ bytes_of 2 job ++ bytes_of 4 (unsigned32 time)

-- per job in order, from a job on
unfoldable pub plan_from : ℕ → List ℤ → List ℕ
plan_from job [] = []
plan_from job (time ∷ times) = plan_record job time ++ plan_from (job + 1) times

-- the bytes of a plan
abbrev pub plan_bytes : List ℤ → List ℕ
plan_bytes times = plan_from 0 times

-- 4: any 1 to 256 times; 21: fewer than 8 bytes a job from the named byte
unfoldable pub plan_checks : List ℤ → List ℕ → ℕ → List Check
plan_checks times out at = jobs_check (length times) ∷ check (ltb (length out) (at + length times * 8)) 21 0 ∷ []

-- bytes before and after are untouched
unfoldable pub with_records : List ℤ → List ℕ → ℕ → List ℕ
with_records times out at = take at out ++ plan_bytes times ++ drop (at + length times * 8) out

-- the output after the plan writer: nothing lent changes where it is refused
unfoldable pub plan_out : List ℤ → List ℕ → ℕ → List ℕ
plan_out times out at = lent (verdict (plan_checks times out at)) out (with_records times out at)
