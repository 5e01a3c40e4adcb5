-- What the exported functions leave: what the engine's and the line writer's contracts say, with the answer as numbers. Assumes nothing.
use Rattle.std.specs.Prelude.{ℕ, ◌≡◌, List, Result}
use Rattle.model.specs.Answer as paper
use Rattle.engine.specs.Demands.{Ran, Judged}
use Rattle.fields.specs.declared.Refusal.{Refusal}
use Rattle.lines.specs.Line.{of_written, LineContract}
use Rattle.embed.specs.Numbers.{run_numbers, verdict_numbers, line_numbers}

-- a run
pub record RunTold (job words ranks numbers words' ranks' : List ℕ) : Type 0 where
  pub answer : paper.Answer
  pub ran : Ran job words ranks answer words' ranks'
  pub told : numbers ≡ run_numbers answer

-- a verdict
pub record VerdictTold (job ranks numbers ranks' : List ℕ) : Type 0 where
  pub answer : paper.Verdict
  pub judged : Judged job ranks answer ranks'
  pub told : numbers ≡ verdict_numbers answer

-- a line
pub record LineTold (words : List ℕ) (arity : ℕ) (lent numbers lent' : List ℕ) : Type 0 where
  pub answer : Result ℕ Refusal
  pub written : LineContract words arity lent answer lent'
  pub told : numbers ≡ line_numbers (of_written answer)
