-- The listing of the rules paper's example and the longest line, computed. Assumes nothing.
use mathlib.Core.Path.{◌≡◌, refl}
use mathlib.Core.Bool.{false}
use mathlib.Core.List.{[], ◌∷◌}
use lib.ListN.{length, replicate}
use Rattle.model.specs.Values.{blank}
use Rattle.model.specs.Facts.{fact}
use Rattle.model.specs.Chase.{done}
use Rattle.model.specs.Lines.{digits, decimal, value_text, values_text, line, lines}
use Rattle.model.specs.Answer.{ran, listing}

pub example_listing : listing (ran done 2 4 1 false 0) (fact 0 (1 ∷ []) ∷ fact 1 (1 ∷ blank 0 ∷ []) ∷ fact 1 (2 ∷ 1 ∷ []) ∷ fact 2 (1 ∷ []) ∷ []) ≡
    0x64 ∷ 0x6f ∷ 0x6e ∷ 0x65 ∷ 0x20 ∷ 0x32 ∷ 0x20 ∷ 0x34 ∷ 0x20 ∷ 0x31 ∷ 0x0a ∷ 0x63 ∷ 0x79 ∷ 0x63 ∷ 0x6c ∷ 0x69 ∷ 0x63 ∷ 0x20 ∷ 0x30 ∷ 0x0a ∷ 0x30 ∷ 0x20 ∷ 0x31 ∷ 0x0a ∷ 0x31 ∷ 0x20 ∷ 0x31 ∷ 0x20 ∷ 0x23 ∷ 0x30 ∷ 0x0a ∷ 0x31 ∷ 0x20 ∷ 0x32 ∷ 0x20 ∷ 0x31 ∷ 0x0a ∷ 0x32 ∷ 0x20 ∷ 0x31 ∷ 0x0a ∷ []
unfolding listing lines line values_text value_text decimal digits
example_listing = refl

-- eight blanks with the largest word reach the 99 bytes
pub longest_line : length (line (fact 63 (replicate 8 4294967295))) ≡ 99
unfolding line values_text value_text decimal digits
longest_line = refl
