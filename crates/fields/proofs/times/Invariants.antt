-- `fields::times` meets its contract. Assumes nothing.
use mathlib.Core.Path.{◌≡◌}
use lib.ListN.{length}
use Rattle.fields.specs.InTurn.{ReadInTurn}
use Rattle.fields.proofs.times.Given as goal

-- what was read so far
abbrev pub invariant-loop : goal.invariant-loop
invariant-loop g l = record {
  many : length l.made.items ≡ l.counter;
  read : ReadInTurn (λ c r. g.F.Fn.post l.read (c, tt) r) l.fn.from l.made.items l.cur;
}
