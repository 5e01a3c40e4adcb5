-- What the line writer promises. Assumes nothing.
use Rattle.std.specs.Prelude.{ℕ, ◌≡◌, List, Result, Ok, Err}
use Rattle.model.specs.Answer as paper
use Rattle.fields.specs.declared.Refusal.{Refusal}

-- the paper's refusal, or the count of the bytes set
abbrev pub of_written : Result ℕ Refusal → paper.Written
of_written (Err r) = paper.Written.refusal r.number r.place
of_written (Ok n) = paper.wrote n

-- nine words, an arity and a lent line leave one answer and one content of the line
pub record LineContract (words : List ℕ) (arity : ℕ) (lent : List ℕ) (answer : Result ℕ Refusal) (left : List ℕ) : Type 0 where
  pub answers : of_written answer ≡ paper.line_answer words arity lent
  pub leaves : left ≡ paper.line_after words arity lent
