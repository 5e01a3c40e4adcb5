-- The search lists the matches in the order of the places that they take, so that the acting match is the first active one. Assumes nothing.
use Prim.Native.Nat.{ℕ, zero, suc, ◌+◌, ◌≤◌}
use mathlib.Core.Path.{◌≡◌, refl, sym, ◌∙◌, ap, ap₂, subst, fun_ext}
use mathlib.Core.Logic.{◌⊎◌, inl, inr}
use mathlib.Core.Bool.{Bool, true, false, cond}
use mathlib.Core.Option.{Option, none, some, none-ne-some, some-injective}
use mathlib.Core.List.Memᴰ.{append_cases as in-append}
use mathlib.Core.List.Memᴰ.{append_left as in_left}
use mathlib.Core.List.Memᴰ.{append_right as in_right}
use mathlib.Core.List.Memᴰ.{cast as cast-in}
use mathlib.Core.List.Memᴰ.{head as here}
use mathlib.Core.List.Memᴰ.{not-nil as not-in-nil}
use mathlib.Core.List.Memᴰ.{tail as there}
use mathlib.Core.List.{List, [], ◌∷◌, ◌++◌, map}
use lib.Dec.{ltb}
use native.Mathlib.Omega.{arith}
use borrow.Author.Tests.{lt-ltb, ltb-true}
use Rattle.model.specs.Order.{◌∈◌, Ordered}
use Rattle.model.specs.Facts.{Fact, earlier}
use Rattle.model.specs.Rules.{Atom, Rule, body_of}
use Rattle.model.specs.Match.{Env, nothing, fit, consider, fits, gather, matches, is_active, first, acting_match}
use Rattle.model.specs.Places.{At, Take, FirstActive}
use Rattle.model.proofs.Sets.{in_map, map_in, no_both}
use Rattle.model.proofs.Kept.{active_iff}
use Rattle.model.proofs.Facts.{lex_less, lex_same}

-- a match with the places that it takes
abbrev Spot : Type 0
Spot = List ℕ × Env

noted : ℕ → Option Env → List (ℕ × Env) → List (ℕ × Env)
noted i none r = r
noted i (some d) r = (i, d) ∷ r

fits_at : Atom → List Fact → ℕ → Env → List (ℕ × Env)
fits_at a [] i e = []
fits_at a (f ∷ fs) i e = noted i (fit a f e) (fits_at a fs (suc i) e)

from : ℕ → Spot → Spot
from i s = (i ∷ s.0, s.1)

spread : (Env → List Spot) → List (ℕ × Env) → List Spot
spread k [] = []
spread k (c ∷ cs) = map (from c.0) (k c.1) ++ spread k cs

pub spots : List Fact → List Atom → Env → List Spot
spots inst [] e = ([], e) ∷ []
spots inst (a ∷ ats) e = spread (λ d. spots inst ats d) (fits_at a inst 0 e)

-- their values are the matches, in this order
noted_values : (i : ℕ) (o : Option Env) (r : List (ℕ × Env)) → map (λ c. c.1) (noted i o r) ≡ consider o (map (λ c. c.1) r)
unfolding noted consider
noted_values i none r = refl
noted_values i (some d) r = refl

fits_values : (a : Atom) (fs : List Fact) (i : ℕ) (e : Env) → map (λ c. c.1) (fits_at a fs i e) ≡ fits a fs e
unfolding fits_at fits
fits_values a [] i e = refl
fits_values a (f ∷ fs) i e = noted_values i (fit a f e) (fits_at a fs (suc i) e) ∙ ap (consider (fit a f e)) (fits_values a fs (suc i) e)

from_values : (i : ℕ) (ss : List Spot) (rest : List Spot) → map (λ s. s.1) (map (from i) ss ++ rest) ≡ map (λ s. s.1) ss ++ map (λ s. s.1) rest
unfolding from
from_values i [] rest = refl
from_values i (s ∷ ss) rest = ap (λ es. s.1 ∷ es) (from_values i ss rest)

spread_values : (k : Env → List Spot) (cs : List (ℕ × Env)) → map (λ s. s.1) (spread k cs) ≡ gather (λ d. map (λ s. s.1) (k d)) (map (λ c. c.1) cs)
unfolding spread gather
spread_values k [] = refl
spread_values k (c ∷ cs) = from_values c.0 (k c.1) (spread k cs) ∙ ap (λ es. map (λ s. s.1) (k c.1) ++ es) (spread_values k cs)

pub spots_values : (inst : List Fact) (ats : List Atom) (e : Env) → map (λ s. s.1) (spots inst ats e) ≡ matches inst ats e
unfolding spots matches
spots_values inst [] e = refl
spots_values inst (a ∷ ats) e =
    spread_values (λ d. spots inst ats d) (fits_at a inst 0 e)
    ∙ ap₂ gather (fun_ext (λ d. spots_values inst ats d)) (fits_values a inst 0 e)

-- they are in the order of their places
abbrev ahead : Spot → Spot → Bool
ahead s t = earlier s.0 t.0

abbrev lower : ℕ × Env → ℕ × Env → Bool
lower c d = ltb c.0 d.0

noted_from : (i : ℕ) (o : Option Env) (r : List (ℕ × Env)) → ((c : ℕ × Env) → c ∈ r → suc i ≤ c.0) → Ordered lower r
    → ((c : ℕ × Env) → c ∈ noted i o r → i ≤ c.0) × Ordered lower (noted i o r)
unfolding noted
noted_from i none r h g = (λ c m. omega (arith, h c m), g)
noted_from i (some d) r h g = (low, (λ c m. lt-ltb i c.0 (h c m), g))
  where
    low : (c : ℕ × Env) → c ∈ (i, d) ∷ r → i ≤ c.0
    low c (here p) = omega (arith, ap (λ z. z.0) p)
    low c (there m) = omega (arith, h c m)

fits_ordered : (a : Atom) (fs : List Fact) (i : ℕ) (e : Env) → ((c : ℕ × Env) → c ∈ fits_at a fs i e → i ≤ c.0) × Ordered lower (fits_at a fs i e)
unfolding fits_at
fits_ordered a [] i e = (λ c m. absurd (not-in-nil m), tt)
fits_ordered a (f ∷ fs) i e = let (h, g) = fits_ordered a fs (suc i) e in noted_from i (fit a f e) (fits_at a fs (suc i) e) h g

append_ordered : (ss ts : List Spot) → Ordered ahead ss → Ordered ahead ts → ((s t : Spot) → s ∈ ss → t ∈ ts → ahead s t ≡ true) → Ordered ahead (ss ++ ts)
append_ordered [] ts o u f = u
append_ordered (s ∷ ss) ts o u f = (λ t m. side t (in-append ss m), append_ordered ss ts o.1 u (λ x y m n. f x y (there m) n))
  where
    side : (t : Spot) → (t ∈ ss) ⊎ (t ∈ ts) → ahead s t ≡ true
    side t (inl m) = o.0 t m
    side t (inr m) = f s t (here refl) m

from_ordered : (i : ℕ) (ss : List Spot) → Ordered ahead ss → Ordered ahead (map (from i) ss)
unfolding from earlier
from_ordered i [] o = tt
from_ordered i (s ∷ ss) o = (first_ahead, from_ordered i ss o.1)
  where
    first_ahead : (t : Spot) → t ∈ map (from i) ss → ahead (from i s) t ≡ true
    first_ahead t m =
        let (z, k, p) = map_in (from i) ss m in
        subst (λ w. ahead (from i s) w ≡ true) (sym p) (lex_same i i (earlier s.0 z.0) refl ∙ o.0 z k)

-- what is spread from the later candidates begins with a later place
spread_in : (k : Env → List Spot) (cs : List (ℕ × Env)) (t : Spot) → t ∈ spread k cs
    → (c : ℕ × Env) × (c ∈ cs) × ((s : Spot) × (s ∈ k c.1) × (t ≡ from c.0 s))
unfolding spread
spread_in k [] t m = absurd (not-in-nil m)
spread_in k (c ∷ cs) t m = go (in-append (map (from c.0) (k c.1)) m) (spread_in k cs t)
  where
    go : (t ∈ map (from c.0) (k c.1)) ⊎ (t ∈ spread k cs)
        → (t ∈ spread k cs → (b : ℕ × Env) × (b ∈ cs) × ((s : Spot) × (s ∈ k b.1) × (t ≡ from b.0 s)))
        → (b : ℕ × Env) × (b ∈ c ∷ cs) × ((s : Spot) × (s ∈ k b.1) × (t ≡ from b.0 s))
    go (inl n) ih = let (s, j, p) = map_in (from c.0) (k c.1) n in (c, here refl, (s, j, p))
    go (inr n) ih = let (b, j, r) = ih n in (b, there j, r)

in_spread : (k : Env → List Spot) (cs : List (ℕ × Env)) (c : ℕ × Env) (s : Spot) → c ∈ cs → s ∈ k c.1 → from c.0 s ∈ spread k cs
unfolding spread
in_spread k [] c s m n = absurd (not-in-nil m)
in_spread k (b ∷ cs) c s (here p) n =
    in_left (spread k cs) (subst (λ z. from c.0 s ∈ map (from z.0) (k z.1)) p (in_map (from c.0) n))
in_spread k (b ∷ cs) c s (there m) n = in_right (map (from b.0) (k b.1)) (in_spread k cs c s m n)

spread_ordered : (k : Env → List Spot) → ((d : Env) → Ordered ahead (k d)) → (cs : List (ℕ × Env)) → Ordered lower cs → Ordered ahead (spread k cs)
unfolding spread from earlier
spread_ordered k f [] o = tt
spread_ordered k f (c ∷ cs) o =
    append_ordered (map (from c.0) (k c.1)) (spread k cs) (from_ordered c.0 (k c.1) (f c.1)) (spread_ordered k f cs o.1) across
  where
    across : (s t : Spot) → s ∈ map (from c.0) (k c.1) → t ∈ spread k cs → ahead s t ≡ true
    across s t m n =
        let (x, i, p) = map_in (from c.0) (k c.1) m in
        let (b, j, r) = spread_in k cs t n in
        subst (λ z. ahead z t ≡ true) (sym p)
        (subst (λ z. ahead (from c.0 x) z ≡ true) (sym r.2)
        (lex_less c.0 b.0 (earlier x.0 r.0.0) (ltb-true c.0 b.0 (o.0 b j))))

pub spots_ordered : (inst : List Fact) (ats : List Atom) (e : Env) → Ordered ahead (spots inst ats e)
unfolding spots
spots_ordered inst [] e = (λ t m. absurd (not-in-nil m), tt)
spots_ordered inst (a ∷ ats) e = spread_ordered (λ d. spots inst ats d) (λ d. spots_ordered inst ats d) (fits_at a inst 0 e) (fits_ordered a inst 0 e).1

-- the spots are the matches with the places that the atoms take
noted_in : (i : ℕ) (o : Option Env) (r : List (ℕ × Env)) (c : ℕ × Env) → c ∈ noted i o r → ((c.0 ≡ i) × (o ≡ some c.1)) ⊎ (c ∈ r)
unfolding noted
noted_in i none r c m = inr m
noted_in i (some d) r c (here p) = inl (ap (λ z. z.0) p, ap (λ z. some z.1) (sym p))
noted_in i (some d) r c (there m) = inr m

in_noted : (i : ℕ) (o : Option Env) (r : List (ℕ × Env)) (d : Env) → o ≡ some d → (i, d) ∈ noted i o r
unfolding noted
in_noted i none r d p = absurd (none-ne-some d p)
in_noted i (some c) r d p = here (ap (λ z. (i, z)) (sym (some-injective c d p)))

noted_rest : (i : ℕ) (o : Option Env) (r : List (ℕ × Env)) {c : ℕ × Env} → c ∈ r → c ∈ noted i o r
unfolding noted
noted_rest i none r m = m
noted_rest i (some d) r m = there m

abbrev Fit : Atom → List Fact → ℕ → Env → ℕ × Env → Type 0
Fit a fs i e c = (k : ℕ) × (f : Fact) × (c.0 ≡ i + k) × At fs k f × (fit a f e ≡ some c.1)

fits_at_lem : (a : Atom) (fs : List Fact) (i : ℕ) (e : Env) (c : ℕ × Env) → c ∈ fits_at a fs i e → Fit a fs i e c
unfolding fits_at
fits_at_lem a [] i e c m = absurd (not-in-nil m)
fits_at_lem a (f ∷ fs) i e c m = go (noted_in i (fit a f e) (fits_at a fs (suc i) e) c m) (fits_at_lem a fs (suc i) e c)
  where
    go : ((c.0 ≡ i) × (fit a f e ≡ some c.1)) ⊎ (c ∈ fits_at a fs (suc i) e) → (c ∈ fits_at a fs (suc i) e → Fit a fs (suc i) e c) → Fit a (f ∷ fs) i e c
    go (inl p) ih = (0, f, omega (arith, p.0), refl, p.1)
    go (inr n) ih = let (k, g, p, h, q) = ih n in (suc k, g, omega (arith, p), h, q)

at_fits : (a : Atom) (fs : List Fact) (i k : ℕ) (f : Fact) (e d : Env) → At fs k f → fit a f e ≡ some d → (i + k, d) ∈ fits_at a fs i e
unfolding fits_at
at_fits a [] i k f e d h p = absurd h
at_fits a (g ∷ fs) i zero f e d h p =
    cast-in (ap (λ n. (n, d)) (omega arith)) (in_noted i (fit a g e) (fits_at a fs (suc i) e) d (ap (λ z. fit a z e) (sym h) ∙ p))
at_fits a (g ∷ fs) i (suc k) f e d h p =
    noted_rest i (fit a g e) (fits_at a fs (suc i) e) (cast-in (ap (λ n. (n, d)) (omega arith)) (at_fits a fs (suc i) k f e d h p))

pub spots_take : (inst : List Fact) (ats : List Atom) (e : Env) (s : Spot) → s ∈ spots inst ats e → Take inst ats s.0 e s.1
unfolding spots from
spots_take inst [] e s (here p) = subst (λ z. Take inst [] z.0 e z.1) (sym p) refl
spots_take inst [] e s (there m) = absurd (not-in-nil m)
spots_take inst (a ∷ ats) e s m =
    let (c, j, (t, n, p)) = spread_in (λ d. spots inst ats d) (fits_at a inst 0 e) s m in
    let (k, f, q, h, r) = fits_at_lem a inst 0 e c j in
    let z : c.0 ≡ k = omega (arith, q) in
    subst (λ z. Take inst (a ∷ ats) z.0 e z.1) (sym p) (f, c.1, subst (λ i. At inst i f) (sym z) h, r, spots_take inst ats c.1 t n)

pub take_spots : (inst : List Fact) (ats : List Atom) (ps : List ℕ) (e d : Env) → Take inst ats ps e d → (ps, d) ∈ spots inst ats e
unfolding spots from
take_spots inst [] [] e d p = here (ap (λ z. ([], z)) p)
take_spots inst [] (i ∷ ps) e d p = absurd p
take_spots inst (a ∷ ats) [] e d p = absurd p
take_spots inst (a ∷ ats) (i ∷ ps) e d (f, c, h, q, p) =
    let z : 0 + i ≡ i = omega arith in
    in_spread (λ d. spots inst ats d) (fits_at a inst 0 e) (i, c) (ps, d)
    (cast-in (ap (λ n. (n, c)) (sym z)) (at_fits a inst 0 i f e c h q)) (take_spots inst ats ps c d p)

-- the first that passes a test has the first places of all that pass it
record First (test : Env → Bool) (ss : List Spot) (e : Env) : Type 0 where
  places : List ℕ
  listed : (places, e) ∈ ss
  passes : test e ≡ true
  least : (t : Spot) → t ∈ ss → test t.1 ≡ true → (t.0 ≡ places) ⊎ (earlier places t.0 ≡ true)

first_least : (test : Env → Bool) (ss : List Spot) (e : Env) → Ordered ahead ss → first test (map (λ s. s.1) ss) ≡ some e → First test ss e
unfolding first
first_least test [] e o p = absurd (none-ne-some e p)
first_least test (s ∷ ss) e o p = go (test s.1) refl p (first_least test ss e o.1)
  where
    go : (b : Bool) → test s.1 ≡ b → cond b (some s.1) (first test (map (λ s. s.1) ss)) ≡ some e
        → (first test (map (λ s. s.1) ss) ≡ some e → First test ss e) → First test (s ∷ ss) e
    go true q p ih =
        record {
          places = s.0;
          listed = here (ap (λ z. (s.0, z)) (sym r));
          passes = subst (λ z. test z ≡ true) r q;
          least = least;
        }
      where
        r : s.1 ≡ e
        r = some-injective s.1 e p

        least : (t : Spot) → t ∈ s ∷ ss → test t.1 ≡ true → (t.0 ≡ s.0) ⊎ (earlier s.0 t.0 ≡ true)
        least t (here z) w = inl (ap (λ x. x.0) z)
        least t (there m) w = inr (o.0 t m)
    go false q p ih = on (ih p)
      where
        on : First test ss e → First test (s ∷ ss) e
        on r = record { places = r.places; listed = there r.listed; passes = r.passes; least = least }
          where
            least : (t : Spot) → t ∈ s ∷ ss → test t.1 ≡ true → (t.0 ≡ r.places) ⊎ (earlier r.places t.0 ≡ true)
            least t (here z) w = absurd (no_both (ap (λ x. test x.1) (sym z) ∙ w) q)
            least t (there m) w = r.least t m w

-- a match that takes places is found
take_found : (inst : List Fact) (ats : List Atom) (ps : List ℕ) (d : Env) → Take inst ats ps nothing d → d ∈ matches inst ats nothing
take_found inst ats ps d t = subst (λ es. d ∈ es) (spots_values inst ats nothing) (in_map (λ s. s.1) (take_spots inst ats ps nothing d t))

-- THE ACTING MATCH of a rule takes the first places of all active ones
pub acting_first : (inst : List Fact) (rule : Rule) (e : Env) → acting_match inst rule ≡ some e → FirstActive inst rule e
unfolding acting_match
acting_first inst rule e p = go (first_least (is_active inst rule) ss e (spots_ordered inst (body_of rule) nothing) (rw spots_values p))
  where
    ss : List Spot
    ss = spots inst (body_of rule) nothing

    go : First (is_active inst rule) ss e → FirstActive inst rule e
    go r =
        let t : Take inst (body_of rule) r.places nothing e = spots_take inst (body_of rule) nothing (r.places, e) r.listed in
        record {
          places = r.places;
          takes = t;
          active = (active_iff inst rule e (take_found inst (body_of rule) r.places e t)).0 r.passes;
          first =
              λ ps d u a.
              r.least (ps, d) (take_spots inst (body_of rule) ps nothing d u) ((active_iff inst rule d (take_found inst (body_of rule) ps d u)).1 a);
        }
