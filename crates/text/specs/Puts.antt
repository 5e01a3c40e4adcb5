-- Text put into a lent buffer from a place on. Assumes nothing.
use Rattle.std.specs.Prelude.{ℕ, ◌+◌, ◌≤◌, ◌≡◌, List, length}
use Rattle.std.proofs.lemmas.List.Edits.{sets}

-- the buffer has space for the text
abbrev pub Space : List ℕ → ℕ → List ℕ → Type 0
Space text at lent = at + length text ≤ length lent

-- the text's bytes stand in the buffer, no others are touched, and the next place is the one behind them
pub record Puts (text : List ℕ) (at : ℕ) (lent : List ℕ) (next : ℕ) (left : List ℕ) : Type 0 where
  pub place : next ≡ at + length text
  pub bytes : left ≡ sets lent at text
