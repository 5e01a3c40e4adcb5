-- `lines::line` meets its contract. Assumes nothing.
use borrow.Author.Rules.{rules}
use native.Mathlib.Omega.{arith}
use Prim.Native.Nat.{◌+◌, ◌-◌, ◌≤◌}
use mathlib.Core.Path.{◌≡◌}
use mathlib.Core.Logic.{⊎_elim}
use Rattle.fields.specs.declared.Fault.TheVariants.{Short, Limit}
use Rattle.lines.proofs.Contract.{few_words, short_line, high_relation, no_arity, high_arity, accepted, refuses, writes, fits}
use Rattle.lines.proofs.line.Goals as goal

pub returns-then-words-lt9 : goal.returns-then-words-lt9
returns-then-words-lt9 c =
    let a = c.args in
    let w = a.words.now in
    let l = a.lent.now in
    rw c.refuse.ensures (refuses w l a.arity Short 0 (⊎_elim (few_words w l a.arity) (λ t. short_line w l a.arity t.0 t.1) c.then-words-lt9.either))

pub returns-then-relation-gt63 : goal.returns-then-relation-gt63
returns-then-relation-gt63 c =
    let a = c.args in
    let w = a.words.now in
    let l = a.lent.now in
    let h = c.if-words-lt9.false in
    let e = c.if-lent-lt128.false in
    rw c.refuse-then-relation-gt63.ensures (refuses w l a.arity Limit 0
    (⊎_elim (high_relation w l a.arity h e)
    (⊎_elim (λ t. no_arity w l a.arity h e t.0 t.1) (λ t. high_arity w l a.arity h e t.0 t.1 t.2))
    c.then-relation-gt63.either))

pub fact-requires : goal.fact-requires
fact-requires c =
    let a = c.args in
    let n : a.arity + 1 - 1 ≤ 8 = omega arith in
    let f = fits a.words.now a.lent.now (a.arity + 1 - 1) c.if-relation-gt63.false n c.if-lent-lt128.false in
    rw c.new-w.ensures.unchanged (omega (arith, f, c.new-w.ensures.start))

pub returns : goal.returns
returns c =
    let a = c.args in
    let w = a.words.now in
    let l = a.lent.now in
    let r = c.if-relation-gt63.false in
    let e = c.if-lent-lt128.false in
    let n : a.arity ≤ 8 = omega arith in
    let m : a.arity + 1 - 1 ≡ a.arity = omega arith in
    let f = rw m at c.fact.ensures in
    writes w l a.arity _ _ (accepted w l a.arity c.if-words-lt9.false e r c.if-arity-lt1.false n) (fits w l a.arity r n e) (search rules)
