-- `fields::Cursor::byte` meets its contract. Assumes nothing.
use borrow.Author.Rules.{rules}
use native.Mathlib.Omega.{arith}
use lib.ListN.{get_or}
use Rattle.std.proofs.lemmas.Result.{err_from_is_err_and}
use Rattle.model.specs.Job.{byte_at, read_byte}
use Rattle.fields.proofs.Laws.{field_got, field_missing, first_byte}
use Rattle.fields.proofs.Cursor.byte.Goals as goal

pub returns-in_err-byte : goal.returns-in_err-byte
unfolding read_byte
returns-in_err-byte c =
    let p = err_from_is_err_and c.from_residual.result c.from_residual.ensures.1 in
    rw (p.1, p.2) (field_missing 1 byte_at c.args.s.now c.args.self.at _ _ c.in_err-byte.ensures)

pub returns : goal.returns
unfolding read_byte
returns c =
    let read = field_got 1 byte_at c.args.s.now c.args.self.at (λ b. get_or b 0 0) _ _ (first_byte 1 c.args.s.now c.args.self.at (omega arith)) c.in_ok-byte.ensures in
    search rules
