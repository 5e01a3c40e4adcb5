-- `ranks::reading::finite` meets its contract. Assumes nothing.
use Rattle.std.proofs.Common.{ltb, refl, rules}
use Rattle.std.proofs.lemmas.List.Recursion.{and_is}
use Rattle.model.specs.Ranks.{all_below}
use Rattle.ranks.proofs.reading.finite.Goals as goal

pub returns : goal.returns
returns c =
    and_is (all_below 65535) (λ x. ltb x 65535) refl (λ _ _. refl) c.args.r.now 0 _ (search rules) (search rules)
