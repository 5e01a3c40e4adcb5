-- `fields::Cursor::up_to` meets its contract. Assumes nothing.
use mathlib.Core.Path.{◌∙◌}
use Rattle.model.specs.Job.{read_up_to}
use Rattle.fields.proofs.Laws.{from_zero}
use Rattle.fields.proofs.Cursor.up_to.Goals as goal

pub returns : goal.returns
unfolding read_up_to
returns c = c.within.ensures ∙ from_zero _ _ _ _ c.word.ensures
