-- `ranks::table::pack` meets its contract. Assumes nothing.
use mathlib.Core.Path.{◌≡◌}
use mathlib.Core.List.{◌++◌}
use Prim.Native.Nat.{◌≤◌, ◌*◌}
use Rattle.arrayvec.specs.ArrayVec.{array_vec_len}
use Rattle.rules.specs.Rules.{rules_of}
use Rattle.rounds.specs.Table.{spots_in}
use Rattle.ranks.specs.Packs.{spots_of, sizes_of}
use Rattle.ranks.proofs.Packing.{left}
use Rattle.ranks.proofs.table.pack.Given as goal

abbrev pub invariant-loop-rule : goal.invariant-loop-rule
invariant-loop-rule l = record {
  place : array_vec_len l.all ≤ 128 * l.rule-index;
  counted : array_vec_len l.sizes ≡ l.rule-index;
  in_spots : spots_in l.all.items ++ spots_of (left l.rules l.rule-index) ≡ spots_of (rules_of l.rules);
  in_sizes : l.sizes.items ++ sizes_of (left l.rules l.rule-index) ≡ sizes_of (rules_of l.rules);
}
