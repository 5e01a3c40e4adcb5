-- `print::listed` meets its contract. Assumes nothing.
use Rattle.text.proofs.Writes.{writes_append}
use Rattle.print.proofs.listed.Goals as goal

pub returns : goal.returns
returns c = writes_append (rw c.from.ensures at c.first_line.ensures) (writes_append (rw c.from-2.ensures at c.second_line.ensures) c.facts.ensures)
