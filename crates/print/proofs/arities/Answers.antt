-- `print::arities` meets its contract. Assumes nothing.
use Prim.Native.Nat.{ℕ, ◌+◌, ◌-◌, ◌≤◌}
use native.Mathlib.Omega.{arith}
use mathlib.Core.Path.{◌≡◌, sym, ap, ◌∙◌}
use mathlib.Core.List.{List, ◌++◌}
use lib.ListN.{length, length-drop, take, drop, replicate}
use lib.Seq.{length-take-le}
use Rattle.print.proofs.Laws.{padded_copy}
use Rattle.print.proofs.arities.Goals as goal

pub returns : goal.returns
returns c =
    let n : ℕ = c.args.n in
    let declared : List ℕ = drop 8 c.args.job.now in
    let e : 8 + n - 8 ≡ n = omega arith in
    let k : n ≤ length declared = rw length-drop (omega arith) in
    let l : length (take n declared) ≡ n = length-take-le n declared k in
    rw (c.copy_from_slice.ensures.after, e)
    (ap (λ i. take n declared ++ drop i (replicate 64 0)) (sym l) ∙ padded_copy 64 (take n declared) (omega arith))
