-- `lines::value` meets its contract. Assumes nothing.
use native.Mathlib.Omega.{arith}
use mathlib.Core.Path.{ap}
use lib.ListN.{length}
use Rattle.text.proofs.Writes.{writes_append}
use Rattle.lines.proofs.Text.{value_constant, value_blank}
use Rattle.lines.proofs.value.Goals as goal

pub number-requires : goal.number-requires
number-requires c = rw (c.from.ensures, ← value_constant c.args.v c.if-v-lt2147483648.true) c.requires

pub returns-then-v-lt2147483648 : goal.returns-then-v-lt2147483648
returns-then-v-lt2147483648 c = rw (value_constant c.args.v c.if-v-lt2147483648.true) (rw c.from.ensures at c.number.ensures)

pub byte-requires : goal.byte-requires
byte-requires c = omega (arith, c.requires, ap length (value_blank c.args.v c.if-v-lt2147483648.false))

pub number-requires-else-v-lt2147483648 : goal.number-requires-else-v-lt2147483648
number-requires-else-v-lt2147483648 c =
    rw c.from-else-v-lt2147483648.ensures (omega (arith, c.requires, ap length (value_blank c.args.v c.if-v-lt2147483648.false)))

pub returns-else-v-lt2147483648 : goal.returns-else-v-lt2147483648
returns-else-v-lt2147483648 c =
    rw (value_blank c.args.v c.if-v-lt2147483648.false)
    (writes_append c.byte.ensures (rw c.from-else-v-lt2147483648.ensures at c.number-else-v-lt2147483648.ensures))
