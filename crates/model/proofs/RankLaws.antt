-- The ranks that are computed are the ranks as published. Assumes nothing.
use mathlib.Core.Path.{◌≡◌, refl, sym, ap, ◌∙◌, subst}
use mathlib.Core.Logic.{◌⊎◌, inl, inr, ⊎_elim, ◌↔◌}
use mathlib.Core.Bool.{Bool, true, false}
use mathlib.Core.List.Memᴰ.{cases_cons}
use mathlib.Core.List.Memᴰ.{cast as cast-in}
use mathlib.Core.List.Memᴰ.{head as here}
use mathlib.Core.List.Memᴰ.{not-nil as not-in-nil}
use mathlib.Core.List.Memᴰ.{tail as there}
use mathlib.Core.List.{List, [], ◌∷◌}
use Prim.Native.Nat.{ℕ, zero, suc, ◌+◌, ◌*◌, ◌≤◌, ◌<◌, min, zero-le}
use native.Mathlib.Nat.{le_refl, le_trans, le_antisymm, not-suc-le-zero, add-zero, add-suc}
use native.Mathlib.Decide.{dec_lt}
use native.Mathlib.Omega.{arith}
use lib.Dec.{ltb}
use borrow.Author.Tests.{ltb-false, ltb-true}
use lib.ListN.{length, replicate, length-replicate}
use Rattle.laws.proofs.Zeros.{zeros_at}
use Rattle.laws.proofs.Members.{in_at}
use Rattle.laws.proofs.Pigeon.{cut, cut_length, cut_mem, gap, upto, upto_mem}
use Rattle.model.specs.Graph.{Edge, plain, special, source, target, Path, stay, along, across, WeaklyAcyclic, IsRank, Reaches, Infinite, Within}
use Rattle.model.specs.Ranks.{value, offer, relax, round, sum, settle, ranks, all_below, acyclic}
use Rattle.model.proofs.Raise.{raise_cases, raise_at, length_raise, Below, below_refl, below_trans, below_antisym, below_value, below_same, raise_below, sum_bound, below_all, all_below_lem}
use Rattle.model.specs.Order.{◌∈◌}

-- what holds of the numbers all the way

-- each number is reached by a path
abbrev pub Sound : List Edge → List ℕ → Type 0
Sound g r = (v : ℕ) → Reaches g v (value r v)

abbrev pub Capped : ℕ → List ℕ → Type 0
Capped c r = (v : ℕ) → value r v ≤ c

-- what an edge asks is reached at its target
offer_reaches : (g : List Edge) (c : ℕ) (r : List ℕ) (e : Edge) → Sound g r → e ∈ g → Reaches g (target e) (offer c r e)
offer_reaches g c r (plain a b) s i = let p = s a in (p.0, p.1, along p.2 i, p.3)
offer_reaches g c r (special a b) s i = let p = s a in let h = p.3 in (p.0, suc p.1, across p.2 i, omega arith)

offer_capped : (c : ℕ) (r : List ℕ) (e : Edge) → Capped c r → offer c r e ≤ c
offer_capped c r (plain a b) h = h a
offer_capped c r (special a b) h = omega arith

relax_sound : (g : List Edge) (c : ℕ) (r : List ℕ) (e : Edge) → e ∈ g → Sound g r → Sound g (relax c r e)
relax_sound g c r e i s v =
    ⊎_elim (λ q. subst (Reaches g v) (sym q) (s v))
    (λ q. subst (λ (w : ℕ). Reaches g w (value (relax c r e) v)) (sym q.0) (subst (Reaches g (target e)) (sym q.1) (offer_reaches g c r e s i)))
    (raise_cases r (target e) (offer c r e) v)

relax_capped : (c : ℕ) (r : List ℕ) (e : Edge) → Capped c r → Capped c (relax c r e)
relax_capped c r e h v =
    let k = offer_capped c r e h in
    let l = h v in
    ⊎_elim (λ q. omega arith) (λ q. omega arith) (raise_cases r (target e) (offer c r e) v)

pub round_sound : (g : List Edge) (c : ℕ) (h : List Edge) (r : List ℕ) → ((e : Edge) → e ∈ h → e ∈ g) → Sound g r → Sound g (round c r h)
round_sound g c [] r sub s = s
round_sound g c (e ∷ h) r sub s =
    round_sound g c h (relax c r e) (λ e' i. sub e' (there i)) (relax_sound g c r e (sub e (here refl)) s)

pub round_capped : (c : ℕ) (g : List Edge) (r : List ℕ) → Capped c r → Capped c (round c r g)
round_capped c [] r h = h
round_capped c (e ∷ g) r h = round_capped c g (relax c r e) (relax_capped c r e h)

pub round_length : (c : ℕ) (g : List Edge) (r : List ℕ) → length (round c r g) ≡ length r
round_length c [] r = refl
round_length c (e ∷ g) r = round_length c g (relax c r e) ∙ length_raise r (target e) (offer c r e)

pub round_below : (c : ℕ) (g : List Edge) (r : List ℕ) → Below r (round c r g)
round_below c [] r = below_refl r
round_below c (e ∷ g) r = below_trans (raise_below r (target e) (offer c r e)) (round_below c g (relax c r e))

-- where nothing changes

-- every edge has what it asks
abbrev pub Closed : ℕ → List Edge → List ℕ → Type 0
Closed c g r = (e : Edge) → e ∈ g → offer c r e ≤ value r (target e)

pub still_closed : (c : ℕ) (g : List Edge) (r : List ℕ) → ((e : Edge) → e ∈ g → target e < length r) → Below (round c r g) r → Closed c g r
still_closed c [] r w b e i = absurd (not-in-nil i)
still_closed c (e₀ ∷ g) r w b e i =
    let up = raise_below r (target e₀) (offer c r e₀) in
    let down = below_trans (round_below c g (relax c r e₀)) b in
    let same : relax c r e₀ ≡ r = below_antisym down up in
    let b' : Below (round c r g) r = subst (λ (s : List ℕ). Below (round c s g) r) same b in
    let at₀ : offer c r e₀ ≤ value r (target e₀) = le_trans (raise_at r (target e₀) (offer c r e₀) (w e₀ (here refl))) (below_value down (target e₀)) in
    ⊎_elim (λ q. subst (λ (e' : Edge). offer c r e' ≤ value r (target e')) (sym q) at₀)
    (λ i'. still_closed c g r (λ e' j. w e' (there j)) b' e i')
    (cases_cons i)

module _ (c : ℕ) (g : List Edge) (r : List ℕ) (closed : Closed c g r) where
  -- a path's special edges are counted at its end, up to c
  pub path_counted : {u v n : ℕ} → Path g u v n → min c n ≤ value r v
  path_counted stay = omega arith
  path_counted (along {v = a} {w = b} p i) = le_trans (path_counted p) (closed (plain a b) i)
  path_counted (across {v = a} {w = b} p i) = let h = path_counted p in let k = closed (special a b) i in omega arith

  -- below c: the rank
  pub finite : Sound g r → (v : ℕ) → value r v < c → IsRank g v (value r v)
  finite s v h = (((s v).0, subst (Path g (s v).0 v) same (s v).2), top)
    where
      top : (u m : ℕ) → Path g u v m → m ≤ value r v
      top u m p = let k = path_counted p in omega arith

      same : (s v).1 ≡ value r v
      same = let a = top (s v).0 (s v).1 (s v).2 in let b = (s v).3 in omega arith

  module _ (k : ℕ) (k≤c : k ≤ c) (free : (e : Edge) → e ∈ g → value r (source e) ≡ k → ⊥) where
    -- no source of an edge stands at k: whatever stands above k has a path with one special edge more
    more : (n : ℕ) → ((v : ℕ) → k < value r v → Reaches g v n) → {u v m : ℕ} → Path g u v m → k < m → Reaches g v (suc n)
    more n ih stay h = absurd (not-suc-le-zero h)
    more n ih (along {w = w} p i) h = let q = more n ih p h in (q.0, q.1, along q.2 i, q.3)
    more n ih (across {v = a} {w = b} p i) h =
        let l = path_counted p in
        let f = free (special a b) i in
        let lt : k < value r a = omega arith in
        let q = ih a lt in
        let le = q.3 in
        (q.0, suc q.1, across q.2 i, omega arith)

    pub endless : Sound g r → (n v : ℕ) → k < value r v → Reaches g v n
    endless s zero v h = ((s v).0, (s v).1, (s v).2, zero-le)
    endless s (suc n) v h = let le = (s v).3 in more n (λ w l. endless s n w l) (s v).2 (omega arith)

-- rounds until nothing changes

-- what is known of the numbers between rounds
pub record Good (c : ℕ) (g : List Edge) (r : List ℕ) : Type 0 where
  pub sound : Sound g r
  pub capped : Capped c r
  pub long : length r ≡ c

pub round_good : (c : ℕ) (g : List Edge) (r : List ℕ) → Good c g r → Good c g (round c r g)
round_good c g r w = record {
  sound = round_sound g c g r (λ e i. i) w.sound;
  capped = round_capped c g r w.capped;
  long = round_length c g r ∙ w.long;
}

pub settle_good : (c : ℕ) (g : List Edge) (f : ℕ) (b : Bool) (r : List ℕ) → Good c g r → Good c g (settle c g f b r)
settle_good c g zero b r w = w
settle_good c g (suc f) false r w = w
settle_good c g (suc f) true r w = settle_good c g f (ltb (sum r) (sum (round c r g))) (round c r g) (round_good c g r w)

settle_off : (c : ℕ) (g : List Edge) (f : ℕ) (r : List ℕ) → settle c g f false r ≡ r
settle_off c g zero r = refl
settle_off c g (suc f) r = refl

-- a round would raise nothing
abbrev pub Still : ℕ → List Edge → List ℕ → Type 0
Still c g r = Below (round c r g) r

-- enough fuel: the sum can't go beyond c * c
pub settle_still : (c : ℕ) (g : List Edge) (f : ℕ) (r : List ℕ) → Good c g r → c * c < sum r + f → Still c g (settle c g f true r)
settle_still c g zero r w h =
    let k = sum_bound r c w.capped in
    let e = ap (λ (n : ℕ). n * c) w.long in
    absurd (omega arith)
settle_still c g (suc f) r w h = go (λ l. settle_still c g f (round c r g) (round_good c g r w) l) (ltb (sum r) (sum (round c r g))) refl
  where
    s : List ℕ
    s = round c r g

    go : (c * c < sum s + f → Still c g (settle c g f true s)) → (b : Bool) → ltb (sum r) (sum s) ≡ b → Still c g (settle c g f b s)
    go ih true e = let l = ltb-true (sum r) (sum s) e in ih (omega arith)
    go ih false e =
        let same : r ≡ s = below_antisym (round_below c g r) (below_same (round_below c g r) (ltb-false (sum r) (sum s) e)) in
        rw settle_off (subst (Still c g) same (subst (λ (t : List ℕ). Below t r) same (below_refl r)))

start_good : (n : ℕ) (g : List Edge) → Good n g (replicate n 0)
start_good n g = record {
  sound = λ v. (v, 0, stay, let e = zeros_at n v in omega arith);
  capped = λ v. let e = zeros_at n v in omega arith;
  long = length-replicate n 0;
}

module _ (n : ℕ) (g : List Edge) (within : Within n g) where
  pub ranks_good : Good n g (ranks n g)
  unfolding ranks
  ranks_good = settle_good n g (suc (n * n)) true (replicate n 0) (start_good n g)

  pub ranks_closed : Closed n g (ranks n g)
  unfolding ranks
  ranks_closed =
      still_closed n g (ranks n g) (λ e i. let l = (within e i).1 in let k = ranks_good.long in omega arith)
      (settle_still n g (suc (n * n)) (replicate n 0) (start_good n g) (omega arith))

  -- a number up to n that no position has
  unused : (k : ℕ) × (k ≤ n) × ((w : ℕ) → w < n → value (ranks n g) w ≡ k → ⊥)
  unused =
      let k = gap (ranks n g) in
      let long = ranks_good.long in
      (k.0, omega (arith, k.1), λ w l e. k.2 (cast-in (sym e) (in_at (ranks n g) w 0 (omega arith))))

  -- below n stands the rank, and n stands where there is no largest
  pub ranks_right : (v : ℕ) → v < n → ((value (ranks n g) v < n) × IsRank g v (value (ranks n g) v)) ⊎ ((value (ranks n g) v ≡ n) × Infinite g v)
  ranks_right v h = go (dec_lt (value r v) n)
    where
      r : List ℕ
      r = ranks n g

      go : Dec (value r v < n) → ((value r v < n) × IsRank g v (value r v)) ⊎ ((value r v ≡ n) × Infinite g v)
      go (yes l) = inl (l, finite n g r ranks_closed ranks_good.sound v l)
      go (no l) =
          let q = ranks_good.capped v in
          let e : value r v ≡ n = omega arith in
          let (k, most, free) = unused in
          let f = free v h in
          let lt : k < value r v = omega arith in
          inr (e, λ m. endless n g r ranks_closed k (omega arith) (λ e' i. free (source e') (within e' i).0) ranks_good.sound m v lt)

-- the rank is one number, and finite ranks and infinite ones exclude each other

pub rank_unique : (g : List Edge) (v j k : ℕ) → IsRank g v j → IsRank g v k → j ≡ k
rank_unique g v j k p q = le_antisymm (q.1 p.0.0 j p.0.1) (p.1 q.0.0 k q.0.1)

pub rank_not_infinite : (g : List Edge) (v k : ℕ) → IsRank g v k → Infinite g v → ⊥
rank_not_infinite g v k p inf = let q = inf (suc k) in let l = p.1 q.0 q.1 q.2 in let m = q.3 in omega arith

-- cycles

pub append : {g : List Edge} {u v w n m : ℕ} → Path g u v n → Path g v w m → Path g u w (n + m)
append {g} {u} {v} {w} {n} p stay = subst (Path g u v) (sym (add-zero n)) p
append p (along q i) = along (append p q) i
append {g} {u} {v} {w} {n} p (across {w = b} {n = m} q i) = subst (Path g u b) (sym (add-suc n m)) (across (append p q) i)

-- round and round
pub pump : (g : List Edge) (u n : ℕ) → Path g u u (suc n) → Infinite g u
pump g u n p zero = (u, 0, stay, zero-le)
pump g u n p (suc k) = let q = pump g u n p k in let l = q.3 in (q.0, q.1 + suc n, append q.2 p, omega arith)

module _ (n : ℕ) (g : List Edge) (within : Within n g) where
  end_within : {u v m : ℕ} → Path g u v (suc m) → v < n
  end_within (along {v = a} {w = b} p i) = (within (plain a b) i).1
  end_within (across {v = a} {w = b} p i) = (within (special a b) i).1

  module _ (c : ℕ) (r : List ℕ) (closed : Closed c g r) (k : ℕ) (k≤c : k ≤ c) (free : (e : Edge) → e ∈ g → value r (source e) ≡ k → ⊥) where
    -- whatever stands above k has a special edge behind it that starts at such a place
    behind : {u v m : ℕ} → Path g u v m → k < m → (a : ℕ) × (j : ℕ) × (a < n) × (k < value r a) × Path g a v (suc j)
    behind stay h = absurd (not-suc-le-zero h)
    behind (along p i) h = let q = behind p h in (q.0, q.1, q.2, q.3, along q.4 i)
    behind (across {v = a} {w = b} p i) h =
        let l = path_counted c g r closed p in
        let f = free (special a b) i in
        (a, 0, (within (special a b) i).0, omega arith, across stay i)

    -- without a cycle there are fewer and fewer such places to go back to
    descend : WeaklyAcyclic g → Sound g r → (f : ℕ) (l : List ℕ) → length l ≤ f → (v : ℕ) → k < value r v
        → ((a j : ℕ) → a < n → k < value r a → Path g a v (suc j) → a ∈ l) → ⊥
    descend wa s zero l h v lt all =
        let q = behind (s v).2 (let le = (s v).3 in omega arith) in
        let i = all q.0 q.1 q.2 q.3 q.4 in
        let e = cut_length i in
        omega arith
    descend wa s (suc f) l h v lt all =
        let q = behind (s v).2 (let le = (s v).3 in omega arith) in
        let a = q.0 in
        let i = all a q.1 q.2 q.3 q.4 in
        let e = cut_length i in
        descend wa s f (cut i) (omega arith) a q.3
        (λ a' j' lt' h' p.
        cut_mem i (λ e'. wa a j' (subst (λ (x : ℕ). Path g x a (suc j')) e' p))
        (all a' (suc j' + q.1) lt' h' (subst (Path g a' v) (add-suc (suc j') q.1) (append p q.4))))

  -- no cycle with a special edge: no position without a largest number
  pub acyclic_finite : WeaklyAcyclic g → (v : ℕ) → v < n → value (ranks n g) v ≡ n → ⊥
  acyclic_finite wa v h top =
      let (k, most, free) = unused n g within in
      descend n (ranks n g) (ranks_closed n g within) k most (λ e i. free (source e) (within e i).0)
      wa (ranks_good n g within).sound (length (upto n)) (upto n) (le_refl (length (upto n))) v
      (let f = free v h in omega arith)
      (λ a j lt h' p. upto_mem n a lt)

  -- weakly acyclic: no position is infinite
  pub acyclic_iff : WeaklyAcyclic g ↔ ((v : ℕ) → v < n → Infinite g v → ⊥)
  acyclic_iff = (to, from)
    where
      to : WeaklyAcyclic g → (v : ℕ) → v < n → Infinite g v → ⊥
      to wa v h inf =
          ⊎_elim (λ p. rank_not_infinite g v (value (ranks n g) v) p.1 inf) (λ p. acyclic_finite wa v h p.0) (ranks_right n g within v h)

      from : ((v : ℕ) → v < n → Infinite g v → ⊥) → WeaklyAcyclic g
      from f u m p = f u (end_within p) (pump g u m p)

  -- the verdict that is computed is weak acyclicity
  pub verdict_right : (acyclic n g ≡ true) ↔ WeaklyAcyclic g
  unfolding acyclic
  verdict_right = (to, from)
    where
      to : all_below n (ranks n g) ≡ true → WeaklyAcyclic g
      to t = acyclic_iff.1 (λ v h inf. ⊎_elim (λ p. rank_not_infinite g v (value (ranks n g) v) p.1 inf) (λ p. let l = below_all n (ranks n g) t v (omega (arith, (ranks_good n g within).long)) in let e = p.0 in omega arith) (ranks_right n g within v h))

      from : WeaklyAcyclic g → all_below n (ranks n g) ≡ true
      from wa = all_below_lem n (ranks n g) (λ v h. ⊎_elim (λ p. p.0) (λ p. absurd (acyclic_finite wa v (omega (arith, (ranks_good n g within).long)) p.0)) (ranks_right n g within v (omega (arith, (ranks_good n g within).long))))
