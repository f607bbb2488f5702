use Rattle.std.proofs.Common.{◌≡◌, ℕ, ◌<◌, ◌/◌, length, map, get_or}
use Rattle.maxatom.specs.Inner.{arm_at}
use Rattle.clauses.specs.Bits.{HasBlock}
use Rattle.run.specs.Blocks.{ReadBefore}
use Rattle.run.proofs.blocks.index.Given as goal

abbrev pub invariant-loop-i : goal.invariant-loop-i
invariant-loop-i g l = record { size : length l.readers ≡ 256; before : ReadBefore l.i (map g.C.AsClause.clause l.clauses) l.readers }

abbrev pub invariant-loop-j : goal.invariant-loop-j
invariant-loop-j g l =
    record {
      size : length l.readers ≡ 256;
      before : ReadBefore l.i (map g.C.AsClause.clause l.clauses) l.readers;
      arms : (j : ℕ) → j < l.j → HasBlock (get_or l.readers (arm_at (g.C.AsClause.clause l.c) j).job 0) (l.i / 16);
    }
