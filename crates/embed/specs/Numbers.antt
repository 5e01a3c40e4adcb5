-- The paper's answers as numbers: a refusal's number, 0 for none, and what stands behind it. Assumes nothing.
use Rattle.std.specs.Prelude.{ℕ, Bool, cond, List, [], ◌∷◌}
use Rattle.model.specs.Chase.{Outcome, done, failed, steps, room}
use Rattle.model.specs.Answer as paper

-- outcomes in the order in which they are tried
abbrev pub outcome_number : Outcome → ℕ
outcome_number done = 0
outcome_number failed = 1
outcome_number steps = 2
outcome_number room = 3

-- 1 for acyclic, 0 for cyclic
abbrev pub truth : Bool → ℕ
truth b = cond b 1 0

-- the refusal's number and place; or 0, outcome, steps, facts, next blank, verdict, generations
abbrev pub run_numbers : paper.Answer → List ℕ
run_numbers (paper.Answer.refusal n p) = n ∷ p ∷ 0 ∷ 0 ∷ 0 ∷ 0 ∷ 0 ∷ []
run_numbers (paper.ran o n m k v g) = 0 ∷ outcome_number o ∷ n ∷ m ∷ k ∷ truth v ∷ g ∷ []

-- the refusal's number and place; or 0, verdict, generations
abbrev pub verdict_numbers : paper.Verdict → List ℕ
verdict_numbers (paper.Verdict.refusal n p) = n ∷ p ∷ 0 ∷ []
verdict_numbers (paper.judges v g) = 0 ∷ truth v ∷ g ∷ []

-- the refusal's number and place; or 0 and the count of the bytes set
abbrev pub line_numbers : paper.Written → List ℕ
line_numbers (paper.Written.refusal n p) = n ∷ p ∷ []
line_numbers (paper.wrote n) = 0 ∷ n ∷ []
