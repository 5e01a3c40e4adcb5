-- `rounds::settle::leveled` meets its contract. Assumes nothing.
use Prim.Native.Nat.{◌-◌}
use Rattle.rounds.specs.Table.{pairs, graph}
use Rattle.rounds.proofs.Levels.{Leveling}
use Rattle.rounds.proofs.settle.leveled.Given as goal

abbrev pub invariant-loop-c : goal.invariant-loop-c
invariant-loop-c l =
    Leveling (graph (pairs l.rules)) l.c l.r

abbrev pub decreases-loop-c : goal.decreases-loop-c
decreases-loop-c l =
    512 - l.c
