-- `ranks::table::atom_in` meets its contract. Assumes nothing.
use mathlib.Core.Path.{◌≡◌}
use mathlib.Core.List.{map, ◌++◌}
use Prim.Native.Nat.{◌≤◌, ◌+◌}
use lib.ListN.{drop}
use Rattle.arrayvec.specs.ArrayVec.{array_vec_len}
use Rattle.model.specs.Edges.{spots_from}
use Rattle.rules.specs.Rules.{term_of}
use Rattle.rounds.specs.Table.{spots_in}
use Rattle.ranks.specs.Packs.{atom_spots}
use Rattle.ranks.proofs.table.atom_in.Given as goal

abbrev pub invariant-loop-p : goal.invariant-loop-p
invariant-loop-p l =
    (array_vec_len l.all ≤ array_vec_len l.initial.all + l.p)
    × (spots_in l.all.items ++ spots_from (l.first + l.p) (map term_of (drop l.p l.term-items)) ≡ spots_in l.initial.all.items ++ atom_spots l.rule l.a)
