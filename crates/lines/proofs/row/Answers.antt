-- `lines::row` meets its contract. Assumes nothing.
use Prim.Native.Nat.{◌+◌, ◌-◌}
use native.Mathlib.Omega.{arith}
use mathlib.Core.Path.{◌≡◌}
use Rattle.lines.proofs.Rows.{row_short}
use Rattle.lines.proofs.row.Goals as goal

pub fact-requires : goal.fact-requires
fact-requires c =
    let e : c.from-arity.result + 1 - 1 ≡ c.from-arity.result = omega arith in
    rw (e, c.from-arity.ensures) (omega (arith, row_short c.args.nine.now c.args.arities.now 0 c.requires.row, c.requires.at_in_bounds))
