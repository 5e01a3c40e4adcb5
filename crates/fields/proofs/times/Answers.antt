use mathlib.Core.Path.{ap}
use native.Mathlib.Omega.{arith}
use lib.ListN.{length}
use Rattle.std.proofs.lemmas.Result.{err_from_is_err_and}
use Rattle.fields.specs.InTurn.{TimesRead}
use Rattle.fields.proofs.InTurn.{none_read, one_more}
use Rattle.fields.proofs.times.Goals as goal

pub loop-init : goal.loop-init
loop-init g c = let e = c.new-made.ensures in record { many = ap length e; read = none_read (λ k r. g.F.Fn.post c.args.read (k, tt) r) c.args.from _ e }

pub returns-in_err-x : goal.returns-in_err-x
unfolding TimesRead
returns-in_err-x g c =
    let l = c.loop in
    let p = err_from_is_err_and c.from_residual.result c.from_residual.ensures.1 in
    rw (p.1, p.2) (l.made.items, l.cur, omega (arith, l.invariant.many), l.invariant.read, c.in_err-x.ensures)

pub push-requires : goal.push-requires
push-requires g c = omega (arith, c.loop.invariant.many)

pub loop-preserved : goal.loop-preserved
loop-preserved g c =
    let l = c.loop in
    record { many = omega (arith, c.push.ensures.len, l.invariant.many); read = one_more (λ k r. g.F.Fn.post c.args.read (k, tt) r) c.args.from l.made.items l.cur c.in_ok-x.x c.in_ok-x.next c.push.new.self.items l.invariant.read c.in_ok-x.ensures c.push.ensures.items }

pub returns : goal.returns
unfolding TimesRead
returns g c = (omega (arith, c.loop.invariant.many), c.loop.invariant.read)
