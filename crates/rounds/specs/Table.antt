-- Packed rules: a spot for each variable of a rule, one rule after the other, body before head; and what they mean. Assumes nothing.
use Rattle.std.specs.Prelude.{List, [], ◌∷◌, ◌++◌, map, take, drop}
use Rattle.model.specs.Graph.{Edge}
use Rattle.model.specs.Edges.{fans}
use Rattle.model.specs.Edges as paper
use Rattle.rounds.specs.declared.packed.Spot.{Spot}
use Rattle.rounds.specs.declared.packed.Size.{Size}
use Rattle.rounds.specs.declared.packed.Packed.{Packed}

abbrev pub spot_of : Spot → paper.Spot
spot_of s = record { name = s.var; at = s.at }

abbrev pub spots_in : List Spot → List paper.Spot
spots_in ss = map spot_of ss

-- a rule as the variables with their positions, of its body and of its head
pub record Pair : Type 0 where
  pub body : List paper.Spot
  pub head : List paper.Spot

-- rules of these sizes
unfoldable pub table : List Size → List paper.Spot → List Pair
table [] ss = []
table (z ∷ zs) ss = record { body = take z.body ss; head = take z.head (drop z.body ss) } ∷ table zs (drop z.head (drop z.body ss))

abbrev pub pairs : Packed → List Pair
pairs rules = table rules.sizes.now (spots_in rules.spots.now)

-- the edges of the rules
abbrev pub graph : List Pair → List Edge
graph [] = []
graph (p ∷ ps) = fans p.body p.body p.head ++ graph ps
