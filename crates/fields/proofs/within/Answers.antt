-- `fields::within` meets its contract. Assumes nothing.
use mathlib.Core.Path.{ap, ◌∙◌}
use borrow.Author.Rules.{rules}
use lib.Dec.{leb}
use Rattle.model.specs.Job.{got, refused, after, pick}
use borrow.Author.Tests.{le-leb, lt-leb}
use Rattle.fields.specs.Means.{of_read, within}
use Rattle.fields.proofs.Laws.{fails, on, kept, lost}
use Rattle.fields.proofs.within.Goals as goal

pub returns-in_default : goal.returns-in_default
unfolding within
returns-in_default c =
    let e = ap (of_read (λ x. x)) c.in_default.is in
    let handed = fails _ _ _ (λ x p. after (pick (leb c.args.low x) (got (tt {0}) p) (refused 6 c.args.start)) (λ u q. after (pick (leb x c.args.high) (got (tt {0}) q) (refused 6 c.args.start)) (λ v r. got x r))) e in
    search rules

pub returns-then-x-low : goal.returns-then-x-low
unfolding within
returns-then-x-low c =
    rw c.refuse.ensures (lost _ _ _ _ _ (lt-leb _ _ c.if-x-low.true) ∙ on _ _ _ _ (ap (of_read (λ x. x)) c.in-Ok.is))

pub returns-then-high-x : goal.returns-then-high-x
unfolding within
returns-then-high-x c =
    rw c.refuse-then-high-x.ensures
    (lost _ _ _ _ _ (lt-leb _ _ c.if-high-x.true)
    ∙ (kept _ _ _ _ _ (le-leb _ _ c.if-x-low.false)
    ∙ on _ _ _ _ (ap (of_read (λ x. x)) c.in-Ok.is)))

pub returns : goal.returns
unfolding within
returns c =
    kept _ _ _ _ _ (le-leb _ _ c.if-high-x.false)
    ∙ (kept _ _ _ _ _ (le-leb _ _ c.if-x-low.false)
    ∙ on _ _ _ _ (ap (of_read (λ x. x)) c.in-Ok.is))
