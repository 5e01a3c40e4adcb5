-- `text::Writer::number` meets its contract. Assumes nothing.
use Prim.Native.Nat.{◌<◌, ◌≤◌}
use native.Mathlib.Omega.{arith}
use mathlib.Core.Path.{ap}
use lib.ListN.{length}
use Rattle.text.proofs.Decimal.{decimal_one, decimal_two, decimal_three}
use Rattle.text.proofs.Writes.{writes_append}
use Rattle.text.proofs.Writer.number.Goals as goal

pub byte-requires : goal.byte-requires
byte-requires c =
    let h : c.args.x < 10 = omega arith in
    omega (arith, c.requires, ap length (decimal_one c.args.x h))

pub returns-then-x-lt10 : goal.returns-then-x-lt10
returns-then-x-lt10 c =
    let h : c.args.x < 10 = omega arith in
    rw (decimal_one c.args.x h) c.byte.ensures

pub two-requires : goal.two-requires
two-requires c =
    let h : 10 ≤ c.args.x = omega arith in
    let k : c.args.x < 100 = omega arith in
    (k, omega (arith, c.requires, ap length (decimal_two c.args.x h k)))

pub returns-then-x-lt100 : goal.returns-then-x-lt100
returns-then-x-lt100 c =
    let h : 10 ≤ c.args.x = omega arith in
    let k : c.args.x < 100 = omega arith in
    rw (decimal_two c.args.x h k) c.two.ensures

pub byte-requires-then-x-lt1000 : goal.byte-requires-then-x-lt1000
byte-requires-then-x-lt1000 c =
    let h : 100 ≤ c.args.x = omega arith in
    let k : c.args.x < 1000 = omega arith in
    omega (arith, c.requires, ap length (decimal_three c.args.x h k))

pub two-requires-then-x-lt1000 : goal.two-requires-then-x-lt1000
two-requires-then-x-lt1000 c =
    let h : 100 ≤ c.args.x = omega arith in
    let k : c.args.x < 1000 = omega arith in
    let w = c.byte-then-x-lt1000.ensures in
    (omega arith, omega (arith, c.requires, ap length (decimal_three c.args.x h k), w.size, w.puts.place))

pub returns-then-x-lt1000 : goal.returns-then-x-lt1000
returns-then-x-lt1000 c =
    let h : 100 ≤ c.args.x = omega arith in
    let k : c.args.x < 1000 = omega arith in
    rw (decimal_three c.args.x h k) (writes_append c.byte-then-x-lt1000.ensures c.two-then-x-lt1000.ensures)
