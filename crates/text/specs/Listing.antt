-- The lines of the listing that are not a fact's. Assumes nothing.
use Rattle.std.specs.Prelude.{ℕ, Bool, List, [], ◌∷◌, ◌++◌}
use Rattle.model.specs.Chase as paper
use Rattle.model.specs.Answer.{outcome_text, verdict_text, behind}

-- first line: outcome, steps, facts, next blank
unfoldable pub first_line : paper.Outcome → ℕ → ℕ → ℕ → List ℕ
first_line o n m k = outcome_text o ++ (behind n ++ (behind m ++ (behind k ++ (0x0a ∷ []))))

-- second line: acyclic or cyclic, generations
unfoldable pub second_line : Bool → ℕ → List ℕ
second_line a g = verdict_text a ++ (behind g ++ (0x0a ∷ []))
