-- The first match that passes a test, found depth first: one atom after the other, one fact after the other. Assumes nothing.
use mathlib.Core.Path.{◌≡◌, refl}
use mathlib.Core.Bool.{Bool, true, false, cond}
use mathlib.Core.Option.{Option, none, some}
use mathlib.Core.List.{List, [], ◌∷◌, ◌++◌}
use Rattle.model.specs.Facts.{Fact}
use Rattle.model.specs.Rules.{Atom}
use Rattle.model.specs.Match.{Env, fit, consider, fits, gather, matches, first}

-- what the atoms find from e on, and what the first atom finds among the facts that are left
pub atoms_find : (Env → Bool) → List Fact → List Atom → Env → Option Env
atoms_find test inst ats e = first test (matches inst ats e)

pub facts_find : (Env → Bool) → List Fact → Atom → List Atom → List Fact → Env → Option Env
facts_find test inst a ats fs e = first test (gather (λ d. matches inst ats d) (fits a fs e))

pub or_else : Option Env → Option Env → Option Env
or_else none r = r
or_else (some e) r = some e

first_append : (test : Env → Bool) (es ds : List Env) → first test (es ++ ds) ≡ or_else (first test es) (first test ds)
unfolding first or_else
first_append test [] ds = refl
first_append test (e ∷ es) ds = go (test e) (first_append test es ds)
  where
    go : (b : Bool) → first test (es ++ ds) ≡ or_else (first test es) (first test ds)
        → cond b (some e) (first test (es ++ ds)) ≡ or_else (cond b (some e) (first test es)) (first test ds)
    go true ih = refl
    go false ih = ih

module _ (test : Env → Bool) (inst : List Fact) where
  -- an atom tries all the facts
  pub next_atom : (a : Atom) (ats : List Atom) (e : Env) → atoms_find test inst (a ∷ ats) e ≡ facts_find test inst a ats inst e
  unfolding atoms_find facts_find matches
  next_atom a ats e = refl

  -- a fact that fits hands on to the next atom, and the later facts are tried where that finds nothing
  pub hands_on : (a : Atom) (ats : List Atom) (f : Fact) (fs : List Fact) (e d : Env) → fit a f e ≡ some d
      → facts_find test inst a ats (f ∷ fs) e ≡ or_else (atoms_find test inst ats d) (facts_find test inst a ats fs e)
  unfolding facts_find atoms_find fits consider gather
  hands_on a ats f fs e d p = rw p (first_append test (matches inst ats d) (gather (λ c. matches inst ats c) (fits a fs e)))
