-- The dependency graph of a list of rules: the edges in the paper's words, and the list of them, computed. Assumes nothing.
use Rattle.std.specs.Prelude.{◌≡◌, Bool, true, false, ◌||◌, not, List, [], ◌∷◌, ◌++◌, ℕ, suc, ◌+◌, ◌*◌, eqb}
use Rattle.std.proofs.Math.Option.{some}
use Rattle.std.proofs.Math.ListN.{get_elem?}
use Rattle.model.specs.Order.{◌∈◌}
use Rattle.model.specs.Rules.{Term, var, con, Atom, atom, Rule, tuple, equation}
use Rattle.model.specs.Graph.{Edge, plain, special}

abbrev pub relation_in : Atom → ℕ
relation_in (atom r ts) = r

abbrev pub terms_in : Atom → List Term
terms_in (atom r ts) = ts

-- variable x stands at position p, place i of relation r, in one of the atoms
abbrev pub At : ℕ → ℕ → List Atom → Type 0
At x p ats = (a : Atom) × (i : ℕ) × (a ∈ ats) × (get_elem? (terms_in a) i ≡ some (var x)) × (p ≡ 8 * relation_in a + i)

-- from each body position of a variable that also occurs in the head: a plain edge to each head position of it
abbrev pub PlainEdge : Rule → ℕ → ℕ → Type 0
PlainEdge (tuple body head) p q = (x : ℕ) × At x p body × At x q head
PlainEdge (equation body x y) p q = ⊥

-- and a special edge to each head position of each existential
abbrev pub SpecialEdge : Rule → ℕ → ℕ → Type 0
SpecialEdge (tuple body head) p q =
    (x : ℕ) × (y : ℕ) × At x p body × ((o : ℕ) × At x o head) × At y q head × ((o : ℕ) → At y o body → ⊥)
SpecialEdge (equation body x y) p q = ⊥

-- a variable and a position where it stands
pub record Spot : Type 0 where
  pub name : ℕ
  pub at : ℕ

abbrev pub spots_from : ℕ → List Term → List Spot
spots_from p [] = []
spots_from p (var x ∷ ts) = record { name = x; at = p } ∷ spots_from (suc p) ts
spots_from p (con k ∷ ts) = spots_from (suc p) ts

abbrev pub spots : List Atom → List Spot
spots [] = []
spots (atom r ts ∷ ats) = spots_from (8 * r) ts ++ spots ats

abbrev pub occurs : ℕ → List Spot → Bool
occurs x [] = false
occurs x (s ∷ ss) = eqb x s.name || occurs x ss

abbrev pub when : Bool → List Edge → List Edge
when true es = es
when false es = []

-- the edges from one body position to the head's
abbrev pub fan : List Spot → Spot → List Spot → List Edge
fan body s [] = []
fan body s (t ∷ ts) =
    when (eqb s.name t.name) (plain s.at t.at ∷ [])
    ++ (when (not (occurs t.name body)) (special s.at t.at ∷ []) ++ fan body s ts)

abbrev pub fans : List Spot → List Spot → List Spot → List Edge
fans body [] head = []
fans body (s ∷ ss) head = when (occurs s.name head) (fan body s head) ++ fans body ss head

abbrev pub rule_edges : Rule → List Edge
rule_edges (tuple body head) = fans (spots body) (spots body) (spots head)
rule_edges (equation body x y) = []

abbrev pub edges : List Rule → List Edge
edges [] = []
edges (ρ ∷ ρs) = rule_edges ρ ++ edges ρs
