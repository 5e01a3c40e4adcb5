-- `ranks::judge` meets its contract. Assumes nothing.
use mathlib.Core.Path.{ap, ◌∙◌}
use mathlib.Core.List.{List, ◌++◌}
use Prim.Native.Nat.{ℕ}
use lib.ListN.{drop}
use Rattle.model.specs.Ranks.{rank_words, acyclic, generations, positions}
use Rattle.rules.specs.Rules.{rules_of}
use Rattle.rounds.specs.Table.{spots_in}
use Rattle.ranks.proofs.Packing.{packed_rules_lem}
use Rattle.ranks.proofs.judge.Goals as goal

pub invariant_of-packed : goal.invariant_of-packed
invariant_of-packed c =
    let spots = c.as_slice.ensures.value in
    let sizes = c.as_slice-2.ensures.value in
    record { enough = (packed_rules_lem (rules_of c.args.rules.now) c.as_slice.result.now c.as_slice-2.result.now (ap spots_in spots ∙ c.pack.ensures.spots) (sizes ∙ c.pack.ensures.sizes)).0 }

pub returns : goal.returns
returns c =
    let spots = c.as_slice.ensures.value in
    let sizes = c.as_slice-2.ensures.value in
    let e = (packed_rules_lem (rules_of c.args.rules.now) c.as_slice.result.now c.as_slice-2.result.now (ap spots_in spots ∙ c.pack.ensures.spots) (sizes ∙ c.pack.ensures.sizes)).1 in
    let judged = c.judged in
    record {
      acyclic_is = judged.ensures.acyclic ∙ ap (acyclic positions) e;
      generations_is = judged.ensures.generations ∙ ap (generations positions) e;
      leaves = ap (λ (l : List ℕ). l ++ drop 512 c.args.ranks.now) (judged.ensures.words ∙ ap rank_words e);
    }
