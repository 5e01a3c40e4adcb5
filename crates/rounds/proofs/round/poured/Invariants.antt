-- `rounds::round::poured` meets its contract. Assumes nothing.
use Rattle.rounds.specs.Offers.{given}
use Rattle.rounds.specs.Table.{spots_in}
use lib.ListN.{drop}
use Rattle.rounds.proofs.Turns.{Pouring}
use Rattle.rounds.proofs.round.poured.Given as goal

abbrev pub invariant-loop-s : goal.invariant-loop-s
invariant-loop-s l =
    Pouring (given l.best l.t) l.initial.r (spots_in l.head) l.r l.changed (spots_in (drop l.s-index l.head))
