-- The places that the atoms of a match take, by which matches are compared, and the first active match. Assumes nothing.
use Rattle.std.specs.Prelude.{ℕ, zero, suc, ◌≡◌, ◌⊎◌, true, List, [], ◌∷◌}
use Rattle.std.proofs.Math.Option.{some}
use Rattle.model.specs.Facts.{Fact, earlier}
use Rattle.model.specs.Rules.{Atom, Rule, body_of}
use Rattle.model.specs.Match.{Env, nothing, value_of, fit}
use Rattle.model.specs.Keeps.{Active}

-- the fact stands at the place, counted from 0
abbrev pub At : List Fact → ℕ → Fact → Type 0
At [] i f = ⊥
At (g ∷ gs) zero f = f ≡ g
At (g ∷ gs) (suc i) f = At gs i f

-- from e on, the atoms take these places, left to right, and d has the values then
abbrev pub Take : List Fact → List Atom → List ℕ → Env → Env → Type 0
Take inst [] [] e d = d ≡ e
Take inst [] (i ∷ is) e d = ⊥
Take inst (a ∷ ats) [] e d = ⊥
Take inst (a ∷ ats) (i ∷ is) e d = (f : Fact) × (c : Env) × At inst i f × (fit a f e ≡ some c) × Take inst ats is c d

-- e is an active match of the rule, and no active match takes earlier places
pub record FirstActive (inst : List Fact) (rule : Rule) (e : Env) : Type 0 where
  pub places : List ℕ
  pub takes : Take inst (body_of rule) places nothing e
  pub active : Active inst rule (value_of e)
  pub first : (ps : List ℕ) (d : Env) → Take inst (body_of rule) ps nothing d → Active inst rule (value_of d) → (ps ≡ places) ⊎ (earlier places ps ≡ true)
