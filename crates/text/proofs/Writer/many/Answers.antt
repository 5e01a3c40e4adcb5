-- `text::Writer::many` meets its contract. Assumes nothing.
use native.Mathlib.Omega.{arith}
use Rattle.text.proofs.Decimal.{last_ten}
use Rattle.text.proofs.Writer.many.Goals as goal

pub bytes-requires : goal.bytes-requires
bytes-requires c =
    let t = c.as_bytes-all.result.now in
    let e = last_ten c.args.x c.saturating_sub.result t (omega arith) (cc) (omega arith) in
    rw e c.requires

pub returns : goal.returns
returns c =
    let t = c.as_bytes-all.result.now in
    let e = last_ten c.args.x c.saturating_sub.result t (omega arith) (cc) (omega arith) in
    rw e at c.bytes.ensures
