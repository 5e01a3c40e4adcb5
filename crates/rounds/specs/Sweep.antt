-- Rounds of all rules until nothing changes, and the number that then stands for 'no largest'. Assumes nothing.
use Rattle.std.specs.Prelude.{ℕ, ◌-◌, ◌≤◌, ◌<◌, ◌≡◌, ◌⊎◌, List, [], ◌∷◌, ltb, length}
use Rattle.model.specs.Order.{◌∈◌}
use Rattle.model.specs.Graph.{Edge, target, Reaches}
use Rattle.model.specs.Ranks.{value, offer, pick}
use Rattle.rounds.specs.Table.{Pair}
use Rattle.rounds.specs.Offers.{rule_round}

-- a round of each rule, one after the other
abbrev pub sweep : ℕ → List ℕ → List Pair → List ℕ
sweep c r [] = r
sweep c r (p ∷ ps) = sweep c (rule_round c r p.body p.head) ps

-- what a sweep asks
pub record Board (c : ℕ) (r : List ℕ) : Type 0 where
  pub cap : c ≤ 512
  pub capped : (v : ℕ) → value r v ≤ c

-- each number is reached by a path
abbrev pub Sound : List Edge → List ℕ → Type 0
Sound g r = (v : ℕ) → Reaches g v (value r v)

-- numbers that no round raises any more, where none goes beyond c: each is reached, and each edge has what it asks
pub record Settled (g : List Edge) (c : ℕ) (r : List ℕ) : Type 0 where
  pub cap : c ≤ 512
  pub sound : Sound g r
  pub closed : (e : Edge) → e ∈ g → offer c r e ≤ value r (target e)
  pub capped : (v : ℕ) → value r v ≤ c
  pub long : length r ≡ 512

-- no position has x
abbrev pub Free : List ℕ → ℕ → Type 0
Free r x = (v : ℕ) → v < 512 → value r v ≡ x → ⊥

-- what c stands for in r is 'no largest': c - 1 is free, or c is as many as there are positions
abbrev pub Enough : List ℕ → ℕ → Type 0
Enough r c = (0 < c) × (Free r (c - 1) ⊎ (c ≡ 512))

-- c as 'no largest' becomes 65,535
abbrev pub word_from : ℕ → ℕ → ℕ
word_from c x = pick (ltb x c) x 65535
