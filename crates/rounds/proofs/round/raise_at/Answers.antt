-- `rounds::round::raise_at` meets its contract. Assumes nothing.
use mathlib.Core.Path.{◌∙◌}
use borrow.Author.Tests.{lt-ltb, le-ltb}
use Rattle.model.specs.Ranks.{sum}
use Rattle.model.proofs.Raise.{raise_set, raise_none, grew, kept}
use Rattle.rounds.proofs.round.raise_at.Goals as goal

pub returns-then-up : goal.returns-then-up
returns-then-up c =
    let less = c.if-up.true in
    (raise_set c.args.r.now c.args.p c.args.v less, lt-ltb _ _ less ∙ grew c.args.r.now c.args.p c.args.v c.requires less)

pub returns-else-up : goal.returns-else-up
returns-else-up c =
    (raise_none c.args.r.now c.args.p c.args.v c.if-up.false, le-ltb _ _ c.if-up.false ∙ kept (sum c.args.r.now))
