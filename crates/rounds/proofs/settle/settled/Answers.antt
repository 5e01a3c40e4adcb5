-- `rounds::settle::settled` meets its contract. Assumes nothing.
use Rattle.rounds.specs.Table.{pairs}
use Rattle.rounds.proofs.Sweeps.{pairs_placed}
use Rattle.rounds.proofs.Levels.{settling_step, settling_less, settling_end}
use Rattle.rounds.proofs.settle.settled.Goals as goal

pub loop-smaller : goal.loop-smaller
loop-smaller c =
    let swept = c.swept in
    settling_less (pairs c.args.rules) (pairs_placed c.args.rules) c.args.cap c.loop.r c.loop.invariant swept.new.r swept.result swept.ensures.0 swept.ensures.1 c.loop-test.true

pub loop-preserved : goal.loop-preserved
loop-preserved c =
    let swept = c.swept in
    settling_step (pairs c.args.rules) (pairs_placed c.args.rules) c.args.cap c.loop.r c.loop.invariant swept.new.r swept.result swept.ensures.0 swept.ensures.1

pub returns : goal.returns
returns c =
    let swept = c.swept in
    settling_end (pairs c.args.rules) (pairs_placed c.args.rules) c.args.cap c.loop.r c.loop.invariant swept.new.r swept.result swept.ensures.0 swept.ensures.1 c.loop-test.false
