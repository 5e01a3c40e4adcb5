-- `rounds::words::finished` meets its contract. Assumes nothing.
use mathlib.Core.Path.{◌≡◌}
use mathlib.Core.List.{◌++◌, map}
use lib.ListN.{take, drop}
use Rattle.rounds.specs.Sweep.{word_from}
use Rattle.rounds.proofs.words.finished.Given as goal

abbrev pub invariant-loop-x : goal.invariant-loop-x
invariant-loop-x l =
    take l.x-index l.r ++ map (word_from l.c) (drop l.x-index l.r) ≡ map (word_from l.c) l.initial.r
