-- Rules packed as spots and sizes, one rule after the other, body before head. Assumes nothing.
use Rattle.std.specs.Prelude.{ℕ, ◌*◌, List, [], ◌∷◌, ◌++◌, map, length}
use Rattle.model.specs.Rules as paper
use Rattle.model.specs.Edges.{Spot, spots_from, spots}
use Rattle.rules.specs.Rules.{term_of, shape_at, terms_at}
use Rattle.rules.specs.declared.Conclusion.{Conclusion}
use Rattle.rules.specs.declared.Conclusion.TheVariants.{Head, Sides}
use Rattle.rules.specs.declared.Rule.{Rule}
use Rattle.rounds.specs.declared.packed.Size.{Size}
use Rattle.rounds.specs.Table.{Pair}

-- the spots of a rule's atom at place a
abbrev pub atom_spots : Rule → ℕ → List Spot
atom_spots r a = spots_from (8 * (shape_at r a).rel) (map term_of (terms_at r a))

-- the head atoms that edges end at: none of an equation
abbrev pub heads_of : Conclusion → ℕ
heads_of (Head n) = n
heads_of (Sides x y) = 0

-- no edge ends at an equation
abbrev pub pair_of : paper.Rule → Pair
pair_of (paper.tuple body head) = record { body = spots body; head = spots head }
pair_of (paper.equation body x y) = record { body = spots body; head = [] }

-- the spots of all rules, and how many each body and each head has
unfoldable pub spots_of : List paper.Rule → List Spot
spots_of [] = []
spots_of (ρ ∷ ρs) = (pair_of ρ).body ++ ((pair_of ρ).head ++ spots_of ρs)

abbrev pub size_of : paper.Rule → Size
size_of ρ = record { body = length (pair_of ρ).body; head = length (pair_of ρ).head }

abbrev pub sizes_of : List paper.Rule → List Size
sizes_of ρs = map size_of ρs
