-- Text put by a writer. Assumes nothing.
use Rattle.std.specs.Prelude.{ℕ, ◌≤◌, ◌≡◌, List, length}
use Rattle.text.specs.declared.Writer.{Writer}
use Rattle.text.specs.Puts.{Puts}

-- the same buffer, as long as before: the text stands from the writer's place on, no other byte is touched, and the next place is the one behind it,
-- within the buffer
pub record Writes (text : List ℕ) (w w' : Writer) : Type 0 where
  pub same : w'.lent.ghost_name ≡ w.lent.ghost_name
  pub size : length w'.lent.now ≡ length w.lent.now
  pub within : w'.at ≤ length w'.lent.now
  pub puts : Puts text w.at w.lent.now w'.at w'.lent.now
