-- `lines::facts` meets its contract. Assumes nothing.
use Prim.Native.Nat.{◌/◌, ◌<◌}
use native.Mathlib.Omega.{arith}
use mathlib.Core.Path.{◌≡◌, ap, ◌∙◌}
use mathlib.Core.List.{[]}
use lib.ListN.{length, length-take, get_or, take}
use Rattle.text.proofs.Writes.{writes_none, writes_append}
use Rattle.lines.proofs.Rows.{lines_none, lines_short, lines_more, nine_at, nine_row, nine_fact, rows_held}
use Rattle.lines.proofs.facts.Goals as goal

pub loop-nine-init : goal.loop-nine-init
loop-nine-init c = rw (lines_none c.args.words.now c.args.arities.now) (writes_none c.args.w.now (omega (arith, c.requires.n_in_bounds)))

pub row-requires-clause-row : goal.row-requires-clause-row
row-requires-clause-row c =
    let rows = c.as_chunks.result.0.now in
    let i = c.loop-nine.nine-index in
    let n = c.args.n in
    let words = c.args.words.now in
    let lt = rw length-take at c.loop-nine-test.true in
    let h : i < n = omega arith in
    let k : i < length words / 9 = omega (arith, c.as_chunks.ensures.front_len) in
    nine_row words c.args.arities.now _ i (ap (λ l. get_or (take n l) i []) c.as_chunks.ensures.front ∙ nine_at words (length words / 9) n i [] h k) (c.requires.rows i h)

pub row-requires-clause-at_in_bounds : goal.row-requires-clause-at_in_bounds
row-requires-clause-at_in_bounds c =
    let i = c.loop-nine.nine-index in
    let lt = rw length-take at c.loop-nine-test.true in
    let h : i < c.args.n = omega arith in
    let s = lines_short c.args.words.now c.args.arities.now i (λ k l. c.requires.rows k (omega arith)) in
    omega (arith, c.requires.n_in_bounds, c.loop-nine.invariant.puts.place)

pub loop-nine-preserved : goal.loop-nine-preserved
loop-nine-preserved c =
    let i = c.loop-nine.nine-index in
    let n = c.args.n in
    let words = c.args.words.now in
    let arities = c.args.arities.now in
    let lt = rw length-take at c.loop-nine-test.true in
    let h : i < n = omega arith in
    let k : i < length words / 9 = omega (arith, c.as_chunks.ensures.front_len) in
    let at = ap (λ l. get_or (take n l) i []) c.as_chunks.ensures.front ∙ nine_at words (length words / 9) n i [] h k in
    rw (lines_more words arities i) (writes_append c.loop-nine.invariant (rw (nine_fact words arities _ i at (c.requires.rows i h)) at c.row.ensures))

pub returns : goal.returns
returns c =
    let held = rows_held c.args.words.now c.args.arities.now c.args.n c.requires.rows in
    let ge = rw length-take at c.loop-nine-test.false in
    let le = rw length-take at c.loop-nine.auto.nine-index-end in
    let e : c.loop-nine.nine-index ≡ c.args.n = omega (arith, c.as_chunks.ensures.front_len) in
    rw e at c.loop-nine.invariant
