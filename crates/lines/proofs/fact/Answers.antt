-- `lines::fact` meets its contract. Assumes nothing.
use native.Mathlib.Omega.{arith}
use lib.ListN.{length-append}
use Rattle.text.proofs.Writes.{writes_append}
use Rattle.lines.proofs.Text.{line_pieces}
use Rattle.lines.proofs.fact.Goals as goal

pub number-requires : goal.number-requires
number-requires c =
    let v = c.args.vs.now in
    rw c.from.ensures
    (omega (arith, rw (line_pieces c.args.relation v, length-append) at c.requires))

pub values-requires : goal.values-requires
values-requires c =
    let v = c.args.vs.now in
    omega (arith, rw c.from.ensures at c.number.ensures.puts.place, rw (line_pieces c.args.relation v, length-append, length-append) at c.requires)

pub byte-requires : goal.byte-requires
byte-requires c =
    let v = c.args.vs.now in
    omega (arith, rw c.from.ensures at c.number.ensures.puts.place, rw (line_pieces c.args.relation v, length-append, length-append) at c.requires)

pub returns : goal.returns
returns c =
    rw (line_pieces c.args.relation c.args.vs.now)
    (writes_append (rw c.from.ensures at c.number.ensures) (writes_append c.values.ensures c.byte.ensures))
