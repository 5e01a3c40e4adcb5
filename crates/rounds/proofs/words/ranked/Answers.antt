-- `rounds::words::ranked` meets its contract. Assumes nothing.
use borrow.Author.Rules.{rules}
use mathlib.Core.Path.{ap, ◌∙◌}
use Prim.Native.Nat.{ℕ}
use lib.ListN.{replicate}
use Rattle.rounds.specs.Table.{pairs, graph}
use Rattle.rounds.proofs.Sweeps.{pairs_placed}
use Rattle.rounds.proofs.Levels.{zeros_board}
use Rattle.rounds.proofs.Answers.{graph_within, answer}
use Rattle.rounds.proofs.words.ranked.Goals as goal

pub leveled-c-requires : goal.leveled-c-requires
leveled-c-requires c =
    zeros_board _ (c.fill.ensures.after (search rules) ∙ ap (λ (k : ℕ). replicate k 0) c.told-r)

pub returns : goal.returns
returns c =
    let all = pairs c.args.rules in
    let leveled = c.leveled-c in
    c.finished.ensures
    ∙ answer (graph all) (graph_within all (pairs_placed c.args.rules)) leveled.result _ leveled.ensures.0 leveled.ensures.1
