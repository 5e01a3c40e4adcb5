-- `text::Writer::bytes` meets its contract. Assumes nothing.
use native.Mathlib.Omega.{arith}
use mathlib.Core.Path.{refl}
use Rattle.text.proofs.Puts.{puts_part, puts_length}
use Rattle.text.proofs.Writer.bytes.Goals as goal

pub returns : goal.returns
returns c =
    let a = c.args in
    let p = puts_part a.text.now a.self.now.lent.now a.self.now.at _ c.copy_from_slice.ensures.after c.requires in
    record { same = refl; size = puts_length p; within = omega (arith, c.requires, puts_length p); puts = p }
