-- `lines::values` meets its contract. Assumes nothing.
use native.Mathlib.Omega.{arith}
use Rattle.model.specs.Lines.{values_text}
use Rattle.text.proofs.Writes.{writes_none, writes_append}
use Rattle.lines.proofs.Text.{values_more}
use Rattle.lines.proofs.values.Goals as goal

pub loop-v-init : goal.loop-v-init
unfolding values_text
loop-v-init c = writes_none c.args.w.now (omega (arith, c.requires))

pub loop-v-preserved : goal.loop-v-preserved
loop-v-preserved c =
    rw (values_more c.args.vs.now c.loop-v.v-index (omega arith))
    (writes_append c.loop-v.invariant (writes_append c.byte.ensures c.value.ensures))
