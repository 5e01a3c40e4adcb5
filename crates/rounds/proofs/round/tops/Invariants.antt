-- `rounds::round::tops` meets its contract. Assumes nothing.
use mathlib.Core.Path.{◌≡◌}
use Prim.Native.Nat.{max}
use lib.ListN.{drop}
use Rattle.rounds.specs.Table.{spots_in}
use Rattle.rounds.specs.Offers.{top}
use Rattle.rounds.proofs.round.tops.Given as goal

abbrev pub invariant-loop-s : goal.invariant-loop-s
invariant-loop-s l =
    max l.t (top l.best (spots_in (drop l.s-index l.head))) ≡ top l.best (spots_in l.head)
