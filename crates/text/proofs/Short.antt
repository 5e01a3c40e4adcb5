-- How long the pieces of the listing are at most, and how they make it up. Assumes nothing.
use Prim.Native.Nat.{ℕ, ◌≤◌}
use native.Mathlib.Omega.{arith}
use mathlib.Core.Path.{◌≡◌}
use mathlib.Core.Bool.{Bool, true, false}
use mathlib.Core.List.{List, ◌++◌, append_assoc}
use lib.ListN.{length, length-append}
use Rattle.model.specs.Lines.{lines}
use Rattle.model.specs.Facts.{Fact}
use Rattle.model.specs.Chase.{Outcome, done, failed, steps, room}
use Rattle.model.specs.Answer.{outcome_text, verdict_text, refused_text, ran, listing}
use Rattle.text.specs.Listing.{first_line, second_line}
use Rattle.text.proofs.Decimal.{decimal_many}

pub outcome_short : (o : Outcome) → length (outcome_text o) ≤ 7
outcome_short done = omega arith
outcome_short failed = omega arith
outcome_short steps = omega arith
outcome_short room = omega arith

pub verdict_short : (a : Bool) → length (verdict_text a) ≤ 7
verdict_short true = omega arith
verdict_short false = omega arith

-- what the pieces of a line take at most
pub ruleset short = (outcome_short, verdict_short, decimal_many)

-- each of these lines fits 128 bytes
pub first_line_short : (o : Outcome) (n m k : ℕ) → length (first_line o n m k) ≤ 41
unfolding first_line
first_line_short o n m k =
    simp length-append (omega (arith, outcome_short o, decimal_many n, decimal_many m, decimal_many k))

pub second_line_short : (a : Bool) (g : ℕ) → length (second_line a g) ≤ 19
unfolding second_line
second_line_short a g = simp length-append (omega (arith, verdict_short a, decimal_many g))

pub refused_short : (n p : ℕ) → length (refused_text n p) ≤ 33
refused_short n p = simp length-append (omega (arith, decimal_many n, decimal_many p))

pub ruleset short_lines = (first_line_short, second_line_short)

-- the listing is its first two lines and those of the facts
pub listing_ran : (o : Outcome) (n m k : ℕ) (a : Bool) (g : ℕ) (fs : List Fact)
    → listing (ran o n m k a g) fs ≡ first_line o n m k ++ (second_line a g ++ lines fs)
unfolding listing first_line second_line
listing_ran o n m k a g fs = simp append_assoc
