-- `text::Writer::first_line` meets its contract. Assumes nothing.
use Rattle.text.specs.Listing.{first_line}
use Rattle.text.proofs.Writes.{writes_append}
use Rattle.text.proofs.Writer.first_line.Goals as goal

pub returns : goal.returns
unfolding first_line
returns c =
    writes_append (rw c.word.ensures at c.bytes.ensures)
    (writes_append c.behind.ensures (writes_append c.behind-2.ensures (writes_append c.behind-3.ensures c.byte.ensures)))
