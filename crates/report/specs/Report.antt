-- The text that `latest` prints. One blank between fields, a line feed after each line.
use Rattle.std.specs.Prelude.{cond, List, [], ◌∷◌, ◌++◌, ℕ, ◌+◌, ℤ, length}
use Rattle.maxatom.specs.Rule.{tight}
use Rattle.maxatom.specs.Book.{total}
use Rattle.maxatom.specs.declared.Rule.{Rule}
use Rattle.maxatom.specs.declared.Slip.{Slip}
use Rattle.report.specs.Text.{field, signed_field}

-- BOOK has jobs, rules, K
unfoldable pub book_line : ℕ → ℕ → ℕ → List ℕ
book_line jobs rules k = (66 ∷ 79 ∷ 79 ∷ 75 ∷ []) ++ (field jobs ++ (field rules ++ (field k ++ (10 ∷ []))))

-- JOB its number and time
unfoldable pub job_line : ℕ → ℤ → List ℕ
job_line job time = (74 ∷ 79 ∷ 66 ∷ []) ++ (field job ++ (signed_field time ++ (10 ∷ [])))

unfoldable pub job_lines : ℕ → List ℤ → List ℕ
job_lines job [] = []
job_lines job (t ∷ times) = job_line job t ++ job_lines (job + 1) times

-- TIGHT the tight rules upward, or nothing
unfoldable pub tight_fields : ℕ → List Rule → List ℤ → List ℕ
tight_fields number [] times = []
tight_fields number (r ∷ rules) times =
    let rest = tight_fields (number + 1) rules times in
    cond (tight r times) (field number ++ rest) rest

unfoldable pub tight_line : List Rule → List ℤ → List ℕ
tight_line rules times = (84 ∷ 73 ∷ 71 ∷ 72 ∷ 84 ∷ []) ++ (tight_fields 0 rules times ++ (10 ∷ []))

-- STEPS the bench run's
unfoldable pub steps_line : ℕ → List ℕ
steps_line steps = (83 ∷ 84 ∷ 69 ∷ 80 ∷ 83 ∷ []) ++ (field steps ++ (10 ∷ []))

-- for none, NONE and the slip of the last step: the job, its time before and its time after
unfoldable pub none_line : Slip → List ℕ
none_line slip = (78 ∷ 79 ∷ 78 ∷ 69 ∷ []) ++ (field slip.job ++ (signed_field slip.before ++ (signed_field slip.after ++ (10 ∷ []))))

-- a refused file: REFUSED, number and byte only
unfoldable pub refused_line : ℕ → ℕ → List ℕ
refused_line number place = (82 ∷ 69 ∷ 70 ∷ 85 ∷ 83 ∷ 69 ∷ 68 ∷ []) ++ (field number ++ (field place ++ (10 ∷ [])))

-- a plan; for none, the NONE line replaces the JOB and TIGHT lines
unfoldable pub plan_text : List Rule → List ℤ → ℕ → List ℕ
plan_text rules times steps =
    book_line (length times) (length rules) (total rules) ++ (job_lines 0 times ++ (tight_line rules times ++ steps_line steps))

unfoldable pub none_text : ℕ → List Rule → Slip → ℕ → List ℕ
none_text jobs rules slip steps = book_line jobs (length rules) (total rules) ++ (none_line slip ++ steps_line steps)
