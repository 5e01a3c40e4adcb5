-- `rounds::round::bests` meets its contract. Assumes nothing.
use mathlib.Core.Path.{◌≡◌}
use lib.ListN.{length, drop, replicate}
use Rattle.std.specs.Prelude.{None}
use Rattle.rounds.specs.Table.{spots_in}
use Rattle.rounds.specs.Offers.{lift}
use Rattle.rounds.proofs.round.bests.Given as goal

abbrev pub invariant-loop-s : goal.invariant-loop-s
invariant-loop-s l =
    (length l.best ≡ 16) × (lift l.best l.ranks (spots_in (drop l.s-index l.body)) ≡ lift (replicate 16 None) l.ranks (spots_in l.body))
