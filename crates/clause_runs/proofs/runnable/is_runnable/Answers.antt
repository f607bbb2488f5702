use Rattle.std.proofs.Common.{rules, ◌<◌, length, map}
use lib.ListN.{length-map}
use mir.Facts.{to_z-of_z}
use mir.Syntax.{w32}
use mir.Val.{SFits}
use lib.IntN.{ℤ, pos, nat_abs}
use lib.Signed.{◌≤ℤ◌}
use Rattle.std.specs.Prelude.{◌≤◌, ◌^◌}
use Rattle.maxatom.specs.Book.{Each}
use Rattle.maxatom.specs.declared.Arm.{Arm}
use Rattle.maxatom.specs.Clauses.{arms_of}
use Rattle.maxatom.specs.Inner.{InJobs}
use Rattle.maxatom.proofs.Integers.{lt_false}
use Rattle.maxatom.proofs.Lists.{each_map, each_time}
use Rattle.clause_runs.specs.Sound.{SoundArm, SoundClause, Between}
use Rattle.clause_runs.proofs.runnable.is_runnable.Goals as goal

pub returns : goal.returns
returns g c e =
    let f : SFits w32 c.args.floor = search rules in
    let times = c.args.times.now in
    let jobs = length times in
    let cs = map g.C.AsClause.clause c.args.clauses.now in
    let sound : Each (SoundClause jobs) cs = c.are_clauses_sound.ensures e in
    let between : Each (Between c.args.floor) times = rw (to_z-of_z f) at (c.are_times_between.ensures c.if-not-are_times_between.false) in
    let low : c.args.floor ≤ℤ pos 0 = lt_false _ _ (rw (to_z-of_z f) at c.if-floor-gt0.false) in
    record {
      in_times = each_map (SoundClause jobs) (InJobs jobs) cs (λ d s. record { arms = each_map (SoundArm jobs) (λ (a : Arm). a.job < jobs) (arms_of d) (λ a h. h.job) s.arms; target = s.target }) sound;
      few = c.if-times-gt256.false;
      short = rw (length-map c.args.clauses.now g.C.AsClause.clause) c.if-clauses-gt1024.false;
      high = each_time (λ (t : ℤ). c.args.floor ≤ℤ t) times low (each_map (Between c.args.floor) (λ (t : ℤ). c.args.floor ≤ℤ t) times (λ t h. h.high) between);
      early = each_time (λ (t : ℤ). t ≤ℤ pos 0) times (search rules) (each_map (Between c.args.floor) (λ (t : ℤ). t ≤ℤ pos 0) times (λ t h. h.early) between);
      deep = lt_false _ _ (rw (to_z-of_z f) at c.if-floor-ltminus1073741824.false);
      offsets = each_map (SoundClause jobs) (λ d. Each (λ (a : Arm). nat_abs a.offset ≤ 2 ^ 30) (arms_of d)) cs (λ d s. each_map (SoundArm jobs) (λ (a : Arm). nat_abs a.offset ≤ 2 ^ 30) (arms_of d) (λ a h. h.offset) s.arms) sound;
    }
