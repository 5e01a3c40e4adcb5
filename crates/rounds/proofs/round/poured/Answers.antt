-- `rounds::round::poured` meets its contract. Assumes nothing.
use borrow.Author.Rules.{rules}
use Rattle.rounds.specs.Offers.{given}
use Rattle.rounds.specs.Table.{spots_in}
use Rattle.rounds.proofs.Turns.{spots_left, pouring_step}
use Rattle.rounds.proofs.round.poured.Goals as goal

pub loop-s-preserved : goal.loop-s-preserved
loop-s-preserved c =
    let loop = c.loop-s in
    let raised = c.raise_at-changed in
    let left = spots_left c.args.head.now loop.s-index c.s-item.result c.loop-s-test.true in
    pouring_step (given c.args.best.now c.args.t) c.args.r.now (spots_in c.args.head.now) loop.r loop.changed _ _ _ loop.invariant left raised.new.r raised.result (search rules) raised.ensures.1
