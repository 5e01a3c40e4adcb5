-- `lines::values` meets its contract: so many of the values are written. Assumes nothing.
use lib.ListN.{take}
use Rattle.model.specs.Lines.{values_text}
use Rattle.text.specs.Writes.{Writes}
use Rattle.lines.proofs.values.Given as goal

abbrev pub invariant-loop-v : goal.invariant-loop-v
invariant-loop-v l = Writes (values_text (take l.v-index l.vs)) l.initial.w l.w
