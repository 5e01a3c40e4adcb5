-- `rounds::settle::settled` meets its contract. Assumes nothing.
use Rattle.rounds.specs.Table.{pairs}
use Rattle.rounds.proofs.Levels.{Settling, left}
use Rattle.rounds.proofs.settle.settled.Given as goal

abbrev pub invariant-loop : goal.invariant-loop
invariant-loop l =
    Settling (pairs l.rules) l.cap l.r

abbrev pub decreases-loop : goal.decreases-loop
decreases-loop l =
    left l.r
