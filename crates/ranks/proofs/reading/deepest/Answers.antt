-- `ranks::reading::deepest` meets its contract. Assumes nothing.
use Rattle.std.proofs.Common.{◌≡◌, ℕ, rules, tests, ltb, max, unwrap_or, sym, ap, ◌∙◌}
use Rattle.std.specs.List.{filter, reduce}
use Rattle.std.proofs.lemmas.Iterator.{YieldsList-from_slice}
use Rattle.std.proofs.lemmas.Iterator.Adapters.{option_map_id}
use Rattle.std.proofs.lemmas.Iterator.Consumers.{YieldsList-from_copied, YieldsList-from_filter, max_from_yields_List}
use Rattle.ranks.proofs.Readings.{largest_filtered}
use Rattle.ranks.proofs.reading.deepest.Goals as goal

pub returns : goal.returns
returns c =
    let below = λ (x : ℕ). ltb x 65535 in
    let most : c.max.result ≡ reduce max (filter below c.args.r.now) =
    sym (option_map_id _)
    ∙ max_from_yields_List c.filter.result _ c.max.ensures.ran
    (YieldsList-from_filter _ below (YieldsList-from_copied (YieldsList-from_slice c.args.r.now cc)) (cc) (λ x b q k. search (rules, tests))) in
    c.unwrap_or.ensures ∙ ap (λ o. unwrap_or o 0) most ∙ largest_filtered 65535 c.args.r.now
