-- `ranks::table::atoms_in` meets its contract. Assumes nothing.
use mathlib.Core.Path.{◌≡◌}
use mathlib.Core.List.{◌++◌}
use Prim.Native.Nat.{◌≤◌, ◌*◌, ◌+◌, ◌-◌}
use Rattle.arrayvec.specs.ArrayVec.{array_vec_len}
use Rattle.model.specs.Edges.{spots}
use Rattle.rules.specs.Rules.{atoms}
use Rattle.rounds.specs.Table.{spots_in}
use Rattle.ranks.proofs.table.atoms_in.Given as goal

abbrev pub invariant-loop-place : goal.invariant-loop-place
invariant-loop-place l =
    (array_vec_len l.all ≤ array_vec_len l.initial.all + 8 * (l.place - l.a))
    × (spots_in l.all.items ++ spots (atoms l.rule l.place (l.a + l.k - l.place)) ≡ spots_in l.initial.all.items ++ spots (atoms l.rule l.a l.k))
