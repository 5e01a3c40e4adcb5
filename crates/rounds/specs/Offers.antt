-- One round of a rule: from the ranks at the body's positions what each variable offers, and then the offers at the head's positions. Assumes nothing.
use Rattle.std.specs.Prelude.{ℕ, suc, min, max, Option, Some, None, unwrap_or, List, [], ◌∷◌, replicate, get_or, slice_set}
use Rattle.model.specs.Edges.{Spot}
use Rattle.model.specs.Ranks.{value, raise}

-- at least x
abbrev pub at_least : Option ℕ → ℕ → Option ℕ
at_least None x = Some x
at_least (Some y) x = Some (max y x)

-- b with, for each variable, at least the ranks at its positions
abbrev pub lift : List (Option ℕ) → List ℕ → List Spot → List (Option ℕ)
lift b r [] = b
lift b r (s ∷ ss) = lift (slice_set b s.name (at_least (get_or b s.name None) (value r s.at))) r ss

-- one more than a rank, 0 for none
abbrev pub after : Option ℕ → ℕ
after None = 0
after (Some v) = suc v

-- the largest over the head's variables
abbrev pub top : List (Option ℕ) → List Spot → ℕ
top b [] = 0
top b (s ∷ ss) = max (after (get_or b s.name None)) (top b ss)

-- what a variable offers: the largest rank in the body, or t for an existential
abbrev pub given : List (Option ℕ) → ℕ → Spot → ℕ
given b t s = unwrap_or (get_or b s.name None) t

-- the offers, at the head's positions
abbrev pub pour : (Spot → ℕ) → List ℕ → List Spot → List ℕ
pour offer r [] = r
pour offer r (s ∷ ss) = pour offer (raise r s.at (offer s)) ss

abbrev pub offers : ℕ → List ℕ → List Spot → List Spot → Spot → ℕ
offers c r body head = let b = lift (replicate 16 None) r body in given b (min (top b head) c)

-- the round, where no number goes beyond c
unfoldable pub rule_round : ℕ → List ℕ → List Spot → List Spot → List ℕ
rule_round c r body head = pour (offers c r body head) r head
