-- `rounds::settle::swept` meets its contract. Assumes nothing.
use native.Mathlib.Omega.{arith}
use borrow.Author.Rules.{rules}
use lib.Seq.{drop-drop}
use Rattle.rounds.specs.Table.{pairs}
use Rattle.rounds.proofs.Sweeps.{sweeping_start, sweeping_room, sweeping_ready, sweeping_step, sweeping_end}
use Rattle.rounds.proofs.settle.swept.Goals as goal

pub loop-size-init : goal.loop-size-init
loop-size-init c =
    sweeping_start c.args.cap c.args.r.now c.args.rules c.told-r c.requires

pub split_at-requires : goal.split_at-requires
split_at-requires c =
    let loop = c.loop-size in
    (sweeping_room c.args.cap c.args.r.now (pairs c.args.rules) loop.rest.now loop.r loop.changed c.args.rules.sizes.now loop.size-index c.loop-size-test.true loop.invariant _).0

pub split_at-requires-in-loop-size : goal.split_at-requires-in-loop-size
split_at-requires-in-loop-size c =
    let loop = c.loop-size in
    let room = sweeping_room c.args.cap c.args.r.now (pairs c.args.rules) loop.rest.now loop.r loop.changed c.args.rules.sizes.now loop.size-index c.loop-size-test.true loop.invariant (record { body = 0; head = 0 }) in
    omega (arith, c.split_at.ensures.back_len)

pub relaxed-changed-requires : goal.relaxed-changed-requires
relaxed-changed-requires c =
    let loop = c.loop-size in
    sweeping_ready c.args.cap c.args.r.now (pairs c.args.rules) loop.rest.now loop.r loop.changed _ loop.invariant c.requires.cap

pub loop-size-preserved : goal.loop-size-preserved
loop-size-preserved c =
    let loop = c.loop-size in
    let relaxed = c.relaxed-changed in
    sweeping_step c.args.cap c.args.r.now (pairs c.args.rules) loop.rest.now loop.r loop.changed c.args.rules.sizes.now loop.size-index c.loop-size-test.true loop.invariant _ _ _ _
    c.split_at.ensures.front (search rules) (search (rules, drop-drop)) _ _ relaxed.ensures.0 relaxed.ensures.1

pub returns : goal.returns
returns c =
    let loop = c.loop-size in
    (sweeping_end c.args.cap c.args.r.now (pairs c.args.rules) loop.rest.now loop.r loop.changed c.args.rules.sizes.now loop.size-index c.loop-size-test.false loop.invariant, loop.invariant.flag)
