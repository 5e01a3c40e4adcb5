-- `fields::Cursor::end` meets its contract. Assumes nothing.
use borrow.Author.Tests.{eq-eqb, ne_eqb}
use Rattle.model.specs.Job.{read_end}
use Rattle.fields.proofs.Laws.{picked, passed}
use Rattle.fields.proofs.Cursor.end.Goals as goal

pub returns-then-self-s : goal.returns-then-self-s
unfolding read_end
returns-then-self-s c = picked _ _ _ (eq-eqb _ _ c.if-self-s.true)

pub returns-else-self-s : goal.returns-else-self-s
unfolding read_end
returns-else-self-s c = rw c.refuse.ensures (passed _ _ _ (ne_eqb _ _ c.if-self-s.false))
