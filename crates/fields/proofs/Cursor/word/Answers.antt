-- `fields::Cursor::word` meets its contract. Assumes nothing.
use mathlib.Core.Path.{ap, ◌∙◌}
use native.Mathlib.Omega.{arith}
use Prim.Native.Nat.{◌+◌, ◌*◌}
use lib.ListN.{get_or}
use Rattle.std.proofs.lemmas.Result.{err_from_is_err_and}
use Rattle.model.specs.Job.{got, word_at, read_word}
use Rattle.fields.proofs.Laws.{field_got, field_missing, first_byte, byte_of}
use Rattle.fields.proofs.Cursor.word.Goals as goal

pub returns-in_err-word : goal.returns-in_err-word
unfolding read_word
returns-in_err-word c =
    let p = err_from_is_err_and c.from_residual.result c.from_residual.ensures.1 in
    rw (p.1, p.2) (field_missing 4 word_at c.args.s.now c.args.self.at _ _ c.in_err-word.ensures)

pub returns : goal.returns
unfolding read_word
returns c =
    let s = c.args.s.now in
    let at = c.args.self.at in
    ap (λ v. got v c.in_ok-word.next.at) c.from_le_bytes.ensures
    ∙ field_got 4 word_at s at (λ b. get_or b 0 0 + get_or b 1 0 * 256 + get_or b 2 0 * 65536 + get_or b 3 0 * 16777216) _ _
    (simp (first_byte 4 s at (omega arith), byte_of 4 s at 1 (omega arith), byte_of 4 s at 2 (omega arith), byte_of 4 s at 3 (omega arith))) c.in_ok-word.ensures
