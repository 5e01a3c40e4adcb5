-- `ranks::reading::judged` meets its contract. Assumes nothing.
use mathlib.Core.Path.{ap, ◌∙◌}
use Rattle.model.specs.Ranks.{all_below, largest}
use Rattle.model.proofs.Generations.{acyclic_words, generations_words}
use Rattle.rounds.specs.Table.{pairs, graph}
use Rattle.ranks.proofs.reading.judged.Goals as goal

pub returns : goal.returns
returns c =
    let g = graph (pairs c.args.rules) in
    let e = c.ranked.ensures in
    record {
      words = e;
      acyclic = c.finite.ensures ∙ ap (all_below 65535) e ∙ acyclic_words g;
      generations = c.deepest.ensures ∙ ap (largest 65535) e ∙ generations_words g;
    }
