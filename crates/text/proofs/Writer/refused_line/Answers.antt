-- `text::Writer::refused_line` meets its contract. Assumes nothing.
use Rattle.text.proofs.Writes.{writes_append}
use Rattle.text.proofs.Writer.refused_line.Goals as goal

pub returns : goal.returns
returns c =
    writes_append c.bytes.ensures
    (writes_append c.behind.ensures (writes_append c.bytes-2.ensures (writes_append c.behind-2.ensures c.byte.ensures)))
