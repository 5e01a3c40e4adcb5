-- `text::Writer::second_line` meets its contract. Assumes nothing.
use Rattle.text.specs.Listing.{second_line}
use Rattle.text.proofs.Writes.{writes_append}
use Rattle.text.proofs.Writer.second_line.Goals as goal

pub returns : goal.returns
unfolding second_line
returns c = writes_append (rw c.verdict.ensures at c.bytes.ensures) (writes_append c.behind.ensures c.byte.ensures)
