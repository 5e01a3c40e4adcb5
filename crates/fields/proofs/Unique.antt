-- The contracts of fields leave one answer, refusals included. Assumes nothing.
use Prim.Native.Nat.{ℕ, zero, suc, ◌<◌}
use native.Mathlib.Omega.{arith}
use mathlib.Core.Path.{◌≡◌, sym, ap, ap₂, subst, ◌∙◌, refl}
use mathlib.Core.List.{List, [], ◌∷◌}
use lib.ListN.{length}
use Rattle.arrayvec.specs.ArrayVec.{ArrayVec}
use Rattle.std.specs.Prelude.{Result, Ok, Err}
use Rattle.model.specs.Job.{Got, got, refused}
use Rattle.fields.specs.declared.Cursor.{Cursor}
use Rattle.fields.specs.declared.Fault.{Fault}
use Rattle.fields.specs.declared.Fault.TheVariants.{Short, Long, Ends, Mark, Version, Limit, Kind, Relation, Side, Rest}
use Rattle.fields.specs.declared.Refusal.{Refusal}
use Rattle.fields.specs.InTurn.{ReadInTurn, TimesRead}
use Rattle.fields.specs.Means.{number_of, of_read, of_step}
use Rattle.fields.proofs.Laws.{never}

-- the fault with this number
fault_of : ℕ → Fault
fault_of zero = Short
fault_of (suc zero) = Short
fault_of (suc (suc zero)) = Long
fault_of (suc (suc (suc zero))) = Ends
fault_of (suc (suc (suc (suc zero)))) = Mark
fault_of (suc (suc (suc (suc (suc zero))))) = Version
fault_of (suc (suc (suc (suc (suc (suc zero)))))) = Limit
fault_of (suc (suc (suc (suc (suc (suc (suc zero))))))) = Kind
fault_of (suc (suc (suc (suc (suc (suc (suc (suc zero)))))))) = Relation
fault_of (suc (suc (suc (suc (suc (suc (suc (suc (suc zero))))))))) = Side
fault_of (suc (suc (suc (suc (suc (suc (suc (suc (suc (suc n)))))))))) = Rest

back : (f : Fault) → fault_of (number_of f) ≡ f
unfolding fault_of
back Short = refl
back Long = refl
back Ends = refl
back Mark = refl
back Version = refl
back Limit = refl
back Kind = refl
back Relation = refl
back Side = refl
back Rest = refl

-- two faults with one number are one
pub fault_one : (f g : Fault) → number_of f ≡ number_of g → f ≡ g
fault_one f g e = sym (back f) ∙ (ap fault_of e ∙ back g)

-- two refusals with one number and one place are one
pub same_refusal : (x y : Refusal) → x.number ≡ y.number → x.place ≡ y.place → x ≡ y
same_refusal x y p q = λ i. record { number = p i; place = q i }

pub refusal_same : {A : Type 0} (x y : Refusal) → ◌≡◌ {A = Got A} (refused x.number x.place) (refused y.number y.place) → x ≡ y
refusal_same x y e =
    let p : x.number ≡ y.number = cc in
    let q : x.place ≡ y.place = cc in
    same_refusal x y p q

-- `Cursor::byte`, `count`, `number`, `up_to`, and every other answer with a value that f tells apart
pub read_one : {A B : Type 0} (f : A → B) (inj : (x y : A) → f x ≡ f y → x ≡ y) (g : Got B) (r s : Result (A × Cursor) Refusal) →
    of_read f r ≡ g → of_read f s ≡ g → r ≡ s
read_one f inj g (Ok (x, c)) (Ok (y, d)) e e' =
    let h : got (f x) c.at ≡ got (f y) d.at = e ∙ sym e' in
    let v : f x ≡ f y = cc h in
    let p : x ≡ y = inj x y v in
    let q : c.at ≡ d.at = cc h in
    λ i. Ok (p i, record { at = q i })
read_one f inj g (Ok (x, c)) (Err y) e e' = absurd (never (f x) c.at y.number y.place (e ∙ sym e'))
read_one f inj g (Err x) (Ok (y, d)) e e' = absurd (never (f y) d.at x.number x.place (e' ∙ sym e))
read_one f inj g (Err x) (Err y) e e' = ap Err (refusal_same x y (e ∙ sym e'))

-- `Cursor::mark`, `version`, `end`, and every other step
pub step_one : {A : Type 0} (g : Got A) (r s : Result Cursor Refusal) (a b : A) → of_step r a ≡ g → of_step s b ≡ g → r ≡ s
step_one g (Ok c) (Ok d) a b e e' =
    let h : got a c.at ≡ got b d.at = e ∙ sym e' in
    let q : c.at ≡ d.at = cc h in
    λ i. Ok (record { at = q i })
step_one g (Ok c) (Err y) a b e e' = absurd (never a c.at y.number y.place (e ∙ sym e'))
step_one g (Err x) (Ok d) a b e e' = absurd (never b d.at x.number x.place (e' ∙ sym e))
step_one g (Err x) (Err y) a b e e' = ap Err (refusal_same x y (e ∙ sym e'))

ok_err : {A : Type 0} (x : A × Cursor) (e : Refusal) → ◌≡◌ {A = Result (A × Cursor) Refusal} (Ok x) (Err e) → ⊥
ok_err x e h = never 0 x.1.at e.number e.place (ap (λ r. of_read {B = ℕ} (λ y. 0) r) h)

-- `times`, where a call leaves one answer
module _ {A : Type 0} (R : Cursor → Result (A × Cursor) Refusal → Type 0) (one : (c : Cursor) (x y : Result (A × Cursor) Refusal) → R c x → R c y → x ≡ y) where
  moved : (c d : Cursor) (x y : A) (ys : List A) (e : Cursor) → ◌≡◌ {A = Result (A × Cursor) Refusal} (Ok (x, c)) (Ok (y, d)) → ReadInTurn R d ys e → ReadInTurn R c ys e
  moved c d x y ys e h k =
      let i : ◌≡◌ {A = A × Cursor} (x, c) (y, d) = cc h in
      let p = ap (λ z. z.1) i in
      subst (λ o. ReadInTurn R o ys e) (sym p) k

  -- what follows is a value or a refusal, not both
  clash : (c d : Cursor) (x : A × Cursor) (e : Refusal) → c ≡ d → R c (Ok x) → R d (Err e) → ⊥
  clash c d x e p h k = ok_err x e (one d (Ok x) (Err e) (subst (λ o. R o (Ok x)) p h) k)

  turn_one : (c : Cursor) (xs ys : List A) (d e : Cursor) → length xs ≡ length ys → ReadInTurn R c xs d → ReadInTurn R c ys e → (xs ≡ ys) × (d ≡ e)
  turn_one c [] [] d e l h k = (refl, sym h ∙ k)
  turn_one c [] (y ∷ ys) d e l h k = absurd (omega (arith, l))
  turn_one c (x ∷ xs) [] d e l h k = absurd (omega (arith, l))
  turn_one c (x ∷ xs) (y ∷ ys) d e l (p, r, h) (q, s, k) =
      let o = one c (Ok (x, p)) (Ok (y, q)) r s in
      let t : ◌≡◌ {A = A × Cursor} (x, p) (y, q) = cc o in
      let i = turn_one p xs ys d e (omega (arith, l)) h (moved p q x y ys e o k) in
      (ap₂ (λ z zs. z ∷ zs) (ap (λ z. z.0) t) i.0, i.1)

  turn_ends : (c : Cursor) (xs ys : List A) (d e : Cursor) (a : Refusal) → length xs < length ys → ReadInTurn R c xs d → R d (Err a) → ReadInTurn R c ys e → ⊥
  turn_ends c xs [] d e a l h r k = absurd (omega (arith, l))
  turn_ends c [] (y ∷ ys) d e a l h r (q, s, k) = clash c d (y, q) a h s r
  turn_ends c (x ∷ xs) (y ∷ ys) d e a l (p, u, h) r (q, s, k) =
      turn_ends p xs ys d e a (omega (arith, l)) h r (moved p q x y ys e (one c (Ok (x, p)) (Ok (y, q)) u s) k)

  refusal_one : (c : Cursor) (xs ys : List A) (d e : Cursor) (a b : Refusal) → ReadInTurn R c xs d → R d (Err a) → ReadInTurn R c ys e → R e (Err b) → a ≡ b
  refusal_one c [] [] d e a b h r k s =
      let o = one d (Err a) (Err b) r (subst (λ z. R z (Err b)) (sym k ∙ h) s) in
      cc o
  refusal_one c [] (y ∷ ys) d e a b h r (q, t, k) s = absurd (clash c d (y, q) a h t r)
  refusal_one c (x ∷ xs) [] d e a b (p, t, h) r k s = absurd (clash c e (x, p) b k t s)
  refusal_one c (x ∷ xs) (y ∷ ys) d e a b (p, t, h) r (q, u, k) s =
      refusal_one p xs ys d e a b h r (moved p q x y ys e (one c (Ok (x, p)) (Ok (y, q)) t u) k) s

  pub times_one : (c : Cursor) (n : ℕ) (u v : Result (ArrayVec A × Cursor) Refusal) → TimesRead R c n u → TimesRead R c n v → u ≡ v
  unfolding TimesRead
  times_one c n (Ok (x, d)) (Ok (y, e)) (l, h) (m, k) =
      let o = turn_one c x.items y.items d e (l ∙ sym m) h k in
      λ i. Ok (record { items = o.0 i }, o.1 i)
  times_one c n (Ok (x, d)) (Err b) (l, h) (ys, e, m, k, s) = absurd (turn_ends c ys x.items e d b (omega (arith, l, m)) k s h)
  times_one c n (Err a) (Ok (y, e)) (xs, d, l, h, r) (m, k) = absurd (turn_ends c xs y.items d e a (omega (arith, l, m)) h r k)
  times_one c n (Err a) (Err b) (xs, d, l, h, r) (ys, e, m, k, s) = ap Err (refusal_one c xs ys d e a b h r k s)
