-- Taking a step back, on any arguments.
use Rattle.std.specs.Prelude.{Bool, not, ◌||◌, List, [], ◌∷◌, ◌++◌, ◌-◌, eqb, leb, set}
use Rattle.std.specs.Int.Signed.{le_z, lt_z}
use Rattle.maxatom.specs.Rule.{time_at, eq_z, minutes_off}
use Rattle.maxatom.specs.Book.{Book}
use Rattle.maxatom.specs.declared.Slip.{Slip}
use Rattle.derivation.specs.Refusals.{Check, check}
use Rattle.derivation.specs.Step.{State, fits, state_checks, Called, called_by}

-- the job stands at the time before again, one step leaves the tally, and so do the minutes
abbrev pub back_on : Slip → State → State
back_on slip state =
    record {
      times = set state.times slip.job slip.before;
      tally = record { steps = state.tally.steps - 1; minutes = state.tally.minutes - minutes_off slip.before slip.after };
    }

-- 28: the job isn't at the slip's time after, or the time before isn't above that or passes the job's latest
unfoldable pub slip_differs : Book → State → Slip → Bool
slip_differs b state slip =
    not (eq_z (time_at state.times slip.job) slip.after) || (le_z slip.before slip.after || lt_z (time_at b.latest slip.job) slip.before)

-- 29: the tally has no step, or would no longer fit
unfoldable pub tally_short : Book → State → Slip → Bool
tally_short b state slip = eqb state.tally.steps 0 || not (fits b.latest (back_on slip state).tally (back_on slip state).times)

-- the refusals of a step back for its slip; 27: the slip's job isn't in the book
abbrev pub slip_checks : Book → State → Slip → List Check
slip_checks b state slip =
    check (leb b.jobs slip.job) 27 0
    ∷ check (slip_differs b state slip) 28 0
    ∷ check (tally_short b state slip) 29 0
    ∷ []

-- the table, the latest times, the board and the tally are checked first
unfoldable pub back_checks : Book → State → Slip → List Check
back_checks b state slip = state_checks b state ++ slip_checks b state slip

-- taking a step back
unfoldable pub back_call : Book → State → Slip → Called (Unit {0})
back_call b state slip = called_by (back_checks b state slip) tt state (back_on slip state)
