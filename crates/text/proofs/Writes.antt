-- Laws of text put by a writer: pieces one after the other. Assumes nothing.
use Prim.Native.Nat.{ℕ, ◌≤◌}
use mathlib.Core.Path.{refl, ◌∙◌}
use mathlib.Core.List.{List, [], ◌++◌}
use lib.ListN.{length}
use Rattle.text.specs.declared.Writer.{Writer}
use Rattle.text.specs.Writes.{Writes}
use Rattle.text.proofs.Puts.{puts_none, puts_append}

-- no text leaves all as it is
pub writes_none : (w : Writer) → w.at ≤ length w.lent.now → Writes [] w w
writes_none w h = record { same = refl; size = refl; within = h; puts = puts_none w.lent.now w.at }

-- two pieces are one
pub writes_append : {a b : List ℕ} {w w' w'' : Writer} → Writes a w w' → Writes b w' w'' → Writes (a ++ b) w w''
writes_append p q = record { same = q.same ∙ p.same; size = q.size ∙ p.size; within = q.within; puts = puts_append p.puts q.puts }
