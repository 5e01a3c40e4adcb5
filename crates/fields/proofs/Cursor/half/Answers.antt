-- `fields::Cursor::half` meets its contract. Assumes nothing.
use mathlib.Core.Path.{ap, ◌∙◌}
use native.Mathlib.Omega.{arith}
use Prim.Native.Nat.{◌+◌, ◌*◌}
use lib.ListN.{get_or}
use Rattle.std.proofs.lemmas.Result.{err_from_is_err_and}
use Rattle.model.specs.Job.{got, half_at, read_half}
use Rattle.fields.proofs.Laws.{field_got, field_missing, first_byte, byte_of}
use Rattle.fields.proofs.Cursor.half.Goals as goal

pub returns-in_err-half : goal.returns-in_err-half
unfolding read_half
returns-in_err-half c =
    let p = err_from_is_err_and c.from_residual.result c.from_residual.ensures.1 in
    rw (p.1, p.2) (field_missing 2 half_at c.args.s.now c.args.self.at _ _ c.in_err-half.ensures)

pub returns : goal.returns
unfolding read_half
returns c =
    let s = c.args.s.now in
    let at = c.args.self.at in
    ap (λ v. got v c.in_ok-half.next.at) (c.from.ensures ∙ c.from_le_bytes.ensures)
    ∙ field_got 2 half_at s at (λ b. get_or b 0 0 + get_or b 1 0 * 256) _ _
    (simp (first_byte 2 s at (omega arith), byte_of 2 s at 1 (omega arith))) c.in_ok-half.ensures
