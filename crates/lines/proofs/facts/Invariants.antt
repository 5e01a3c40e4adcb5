-- `lines::facts` meets its contract: so many of the lines are written. Assumes nothing.
use Rattle.model.specs.Words.{facts_of}
use Rattle.model.specs.Lines.{lines}
use Rattle.text.specs.Writes.{Writes}
use Rattle.lines.specs.Rows.{arity_in}
use Rattle.lines.proofs.facts.Given as goal

abbrev pub invariant-loop-nine : goal.invariant-loop-nine
invariant-loop-nine l = Writes (lines (facts_of (arity_in l.arities) l.nine-index l.words)) l.initial.w l.w
