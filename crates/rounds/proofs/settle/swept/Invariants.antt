-- `rounds::settle::swept` meets its contract. Assumes nothing.
use lib.ListN.{drop}
use Rattle.rounds.specs.Table.{pairs}
use Rattle.rounds.proofs.Sweeps.{Sweeping}
use Rattle.rounds.proofs.settle.swept.Given as goal

abbrev pub invariant-loop-size : goal.invariant-loop-size
invariant-loop-size l =
    Sweeping l.cap l.initial.r (pairs l.rules) (drop l.size-index l.rules.sizes.now) l.rest l.r l.changed
