-- `ranks::table::atoms_in` meets its contract. Assumes nothing.
use mathlib.Core.Path.{ap}
use mathlib.Core.List.{◌++◌}
use native.Mathlib.Omega.{arith}
use Prim.Native.Nat.{◌+◌}
use Rattle.rounds.specs.Table.{spots_in}
use Rattle.ranks.proofs.Packing.{grown, append_turn, append_end, atoms_start, atoms_turn, atoms_over, atom_few}
use Rattle.ranks.proofs.table.atoms_in.Goals as goal

pub loop-place-init : goal.loop-place-init
loop-place-init c = (omega arith, ap (λ l. spots_in c.args.all.now.items ++ l) (atoms_start c.args.rule.now c.args.a c.args.k))

pub atom_in-requires : goal.atom_in-requires
atom_in-requires c =
    (omega (arith, c.requires.0, c.loop-place-test.true), c.requires.1, omega (arith, c.requires.2, c.loop-place.invariant.0, c.loop-place.auto.place, c.loop-place-test.true))

pub loop-place-preserved : goal.loop-place-preserved
loop-place-preserved c =
    let loop = c.loop-place in
    let atom = c.atom_in.ensures in
    let rule = c.args.rule.now in (
      omega (arith, grown loop.all.items c.atom_in.new.all.items _ atom, atom_few rule c.requires.1 loop.place (omega arith)),
      append_turn _ _ _ _ _ _ atom (atoms_turn rule (c.args.a + c.args.k) loop.place c.loop-place-test.true) loop.invariant.1,
    )

pub returns : goal.returns
returns c =
    let loop = c.loop-place in
    append_end _ _ _ (atoms_over c.args.rule.now (c.args.a + c.args.k) loop.place c.loop-place-test.false) loop.invariant.1
