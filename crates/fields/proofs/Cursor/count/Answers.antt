-- `fields::Cursor::count` meets its contract. Assumes nothing.
use mathlib.Core.Path.{ap, ◌∙◌}
use Rattle.model.specs.Job.{read_count}
use Rattle.fields.specs.Means.{within}
use Rattle.fields.proofs.Cursor.count.Goals as goal

pub returns : goal.returns
unfolding read_count within
returns c = c.within.ensures ∙ ap (within _ _ _) c.byte.ensures
