-- `fields::Cursor::version` meets its contract. Assumes nothing.
use mathlib.Core.Path.{◌∙◌}
use borrow.Author.Tests.{eq-eqb, ne_eqb}
use Rattle.model.specs.Job.{read_version}
use Rattle.fields.proofs.Laws.{handed, short, goes, picked, passed}
use Rattle.fields.proofs.Cursor.version.Goals as goal

pub returns-in_default : goal.returns-in_default
unfolding read_version
returns-in_default c = handed _ _ _ _ (short _ _ _ _ c.unwrap_err.ensures c.half-half.ensures)

pub returns-then-v-eq1 : goal.returns-then-v-eq1
unfolding read_version
returns-then-v-eq1 c = picked _ _ _ (eq-eqb _ _ c.if-v-eq1.true) ∙ goes _ _ _ _ c.in-Ok.ensures

pub returns-else-v-eq1 : goal.returns-else-v-eq1
unfolding read_version
returns-else-v-eq1 c = rw c.refuse.ensures (passed _ _ _ (ne_eqb _ _ c.if-v-eq1.false) ∙ goes _ _ _ _ c.in-Ok.ensures)
