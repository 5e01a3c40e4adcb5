-- `rounds::settle::leveled` meets its contract. Assumes nothing.
use Rattle.rounds.proofs.Levels.{leveling_start, leveling_board, leveling_step}
use Rattle.rounds.proofs.settle.leveled.Goals as goal

pub loop-c-init : goal.loop-c-init
loop-c-init c =
    leveling_start _ c.args.r.now c.requires

pub settled-requires : goal.settled-requires
settled-requires c =
    let loop = c.loop-c in
    let next = c.larger-c in
    (leveling_board _ loop.c next.result loop.r loop.invariant next.ensures.0 next.ensures.1, loop.invariant.sound)

pub loop-c-preserved : goal.loop-c-preserved
loop-c-preserved c =
    let settled = c.settled in
    leveling_step _ c.larger-c.result settled.new.r settled.ensures (c.goes.ensures.go c.if-not-goes.false)
