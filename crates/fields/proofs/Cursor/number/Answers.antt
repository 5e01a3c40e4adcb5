-- `fields::Cursor::number` meets its contract. Assumes nothing.
use mathlib.Core.Path.{◌∙◌}
use Rattle.model.specs.Job.{read_number}
use Rattle.fields.proofs.Laws.{from_zero}
use Rattle.fields.proofs.Cursor.number.Goals as goal

pub returns : goal.returns
unfolding read_number
returns c = c.within.ensures ∙ from_zero _ _ _ _ c.half.ensures
