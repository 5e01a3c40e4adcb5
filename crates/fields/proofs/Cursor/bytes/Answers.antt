-- `fields::Cursor::bytes` meets its contract. Assumes nothing.
use native.Mathlib.Omega.{arith}
use Rattle.std.specs.Prelude.{take, drop}
use Rattle.fields.proofs.Laws.{field_out, chunk}
use Rattle.fields.proofs.Cursor.bytes.Goals as goal

pub returns-in_default : goal.returns-in_default
returns-in_default g c =
    let h = c.in_default.ensures.lookup in
    rw c.refuse.ensures (field_out g.row.N (λ bs at. take g.row.N (drop at bs)) c.args.s.now c.args.self.at (omega arith))

pub returns-in_default-first_chunk : goal.returns-in_default-first_chunk
returns-in_default-first_chunk g c =
    let h = c.in_default-first_chunk.ensures.cases in
    let e = c.in-Some.ensures.lookup.0.3 in
    rw c.refuse-in_default-first_chunk.ensures (field_out g.row.N (λ bs at. take g.row.N (drop at bs)) c.args.s.now c.args.self.at (omega arith))

pub returns : goal.returns
returns g c =
    let h = c.in-Some-first_chunk.ensures.cases in
    let e = c.in-Some.ensures.lookup.0 in
    chunk g.row.N c.args.self.at c.args.s.now c.in-Some.rest.now _ e.2 e.3 h.enough h.same
