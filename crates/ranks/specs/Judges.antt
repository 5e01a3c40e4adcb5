-- What a judge of rules promises. Assumes nothing.
use Rattle.std.specs.Prelude.{ℕ, ◌≡◌, List, ◌++◌, drop}
use Rattle.model.specs.Edges.{edges}
use Rattle.model.specs.Ranks.{positions, rank_words, acyclic, generations}
use Rattle.rules.specs.Rules.{rules_of}
use Rattle.rules.specs.declared.Rule.{Rule}
use Rattle.ranks.specs.declared.Verdict.{Verdict}

-- the rules and the lent words leave one verdict and one content of the words
pub record Judges (rules : List Rule) (ranks : List ℕ) (v : Verdict) (ranks' : List ℕ) : Type 0 where
  pub acyclic_is : v.acyclic ≡ acyclic positions (edges (rules_of rules))
  pub generations_is : v.generations ≡ generations positions (edges (rules_of rules))
  pub leaves : ranks' ≡ rank_words (edges (rules_of rules)) ++ drop positions ranks
