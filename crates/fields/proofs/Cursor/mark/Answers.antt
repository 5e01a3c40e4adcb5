-- `fields::Cursor::mark` meets its contract. Assumes nothing.
use mathlib.Core.Path.{sym, subst, ◌≡◌, ◌∙◌}
use mathlib.Core.Bool.{true, false}
use mathlib.Core.List.{[], ◌∷◌}
use lib.Dec.{eqb}
use lib.ListN.{take, drop}
use lib.Pointwise.{pointwise}
use borrow.Author.Tests.{le-leb}
use Rattle.std.proofs.lemmas.Result.{err_from_is_err_and}
use Rattle.model.specs.Job.{read_mark}
use Rattle.fields.proofs.Laws.{handed, kept, field_missing, field_inv, three, right, wrong}
use Rattle.fields.proofs.Cursor.mark.Goals as goal

pub returns-in_err-mark : goal.returns-in_err-mark
unfolding read_mark
returns-in_err-mark c =
    let p = err_from_is_err_and c.from_residual.result c.from_residual.ensures.1 in
    rw (p.1, p.2) (handed _ _ _ _ (field_missing 3 (λ b q. tt {0}) c.args.s.now c.args.self.at _ _ c.in_err-mark.ensures))

pub returns-then-eq : goal.returns-then-eq
unfolding read_mark
returns-then-eq c =
    let s = c.args.s.now in
    let at = c.args.self.at in
    let i = field_inv 3 (λ bs q. take 3 (drop q bs)) s at c.in_ok-mark.mark c.in_ok-mark.next.at c.in_ok-mark.ensures in
    let h = subst (λ x. pointwise eqb x (67 ∷ 72 ∷ 83 ∷ []) ≡ true) (i.1 ∙ three s at i.0) (sym c.eq.ensures ∙ c.if-eq.true) in
    rw i.2 (right at _ _ _ _ h ∙ kept _ _ _ _ _ (le-leb _ _ i.0))

pub returns-else-eq : goal.returns-else-eq
unfolding read_mark
returns-else-eq c =
    let s = c.args.s.now in
    let at = c.args.self.at in
    let i = field_inv 3 (λ bs q. take 3 (drop q bs)) s at c.in_ok-mark.mark c.in_ok-mark.next.at c.in_ok-mark.ensures in
    let h = subst (λ x. pointwise eqb x (67 ∷ 72 ∷ 83 ∷ []) ≡ false) (i.1 ∙ three s at i.0) (sym c.eq.ensures ∙ c.if-eq.false) in
    rw c.refuse.ensures (wrong at _ _ _ _ h ∙ kept _ _ _ _ _ (le-leb _ _ i.0))
