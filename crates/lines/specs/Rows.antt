-- The facts that lent words hold, nine words each, with the arities of the relations. Assumes nothing.
use Rattle.std.specs.Prelude.{ℕ, ◌+◌, ◌*◌, ◌≤◌, ◌<◌, List, length, get_or, take, drop}
use Rattle.model.specs.Facts.{Fact, fact}

abbrev pub arity_in : List ℕ → ℕ → ℕ
arity_in arities r = get_or arities r 0

-- the fact at place i
abbrev pub fact_at : List ℕ → List ℕ → ℕ → Fact
fact_at arities words i = fact (get_or words (i * 9) 0) (take (arity_in arities (get_or words (i * 9) 0)) (drop (i * 9 + 1) words))

-- nine words at place i, with a relation below 64 whose arity is known and at most 8
pub record Row (words arities : List ℕ) (i : ℕ) : Type 0 where
  pub held : i * 9 + 9 ≤ length words
  pub known : get_or words (i * 9) 0 < length arities
  pub relation : get_or words (i * 9) 0 < 64
  pub arity : arity_in arities (get_or words (i * 9) 0) ≤ 8

-- so are the first n facts
abbrev pub Rows : List ℕ → List ℕ → ℕ → Type 0
Rows words arities n = (i : ℕ) → i < n → Row words arities i
