-- Laws of what is read one after the other. Assumes nothing.
use Prim.Native.Nat.{ℕ, zero, suc, ◌<◌}
use native.Mathlib.Omega.{arith}
use mathlib.Core.Path.{◌≡◌, refl, sym, ap, subst, ◌∙◌}
use mathlib.Core.List.{List, [], ◌∷◌, ◌++◌, map, map-id}
use lib.ListN.{length, get_or}
use Rattle.std.specs.Prelude.{Result, Ok, Err, IfOk}
use Rattle.std.proofs.lemmas.Fn.{FoldsTo-push}
use Rattle.arrayvec.specs.ArrayVec.{ArrayVec}
use Rattle.model.specs.Job.{got, refused, Reader, times}
use Rattle.fields.specs.declared.Cursor.{Cursor}
use Rattle.fields.specs.declared.Refusal.{Refusal}
use Rattle.fields.specs.Means.{of_read}
use Rattle.fields.specs.InTurn.{ReadInTurn, TimesRead}
use Rattle.fields.proofs.Laws.{goes, handed}

module _ {A : Type 0} (R : Cursor → Result (A × Cursor) Refusal → Type 0) where
  pub none_read : (c : Cursor) (xs : List A) → xs ≡ [] → ReadInTurn R c xs c
  none_read c xs e = subst (λ ys. ReadInTurn R c ys c) (sym e) refl

  pub one_more : (c : Cursor) (xs : List A) (d : Cursor) (x : A) (q : Cursor) (ys : List A) → ReadInTurn R c xs d → R d (Ok (x, q)) → ys ≡ xs ++ (x ∷ []) →
      ReadInTurn R c ys q
  one_more c xs d x q ys h r e = subst (λ zs. ReadInTurn R c zs q) (sym e) (FoldsTo-push (λ p y u. R p (Ok (y, u))) c xs d x q h r)

  -- what holds of each that was read holds of all
  pub each_read : (P : A → Type 0) → ((c : Cursor) (x : A) (d : Cursor) → R c (Ok (x, d)) → P x) → (c : Cursor) (xs : List A) (d : Cursor) → ReadInTurn R c xs d →
      (z : A) (j : ℕ) → j < length xs → P (get_or xs j z)
  each_read P k c [] d h z j l = absurd (omega arith)
  each_read P k c (x ∷ xs) d (e, r, h) z zero l = k c x e r
  each_read P k c (x ∷ xs) d (e, r, h) z (suc j) l = each_read P k e xs d h z j (omega arith)

  -- where a call means what a reader of one gives, n calls mean what the reader of n gives
  module _ {B : Type 0} (f : A → B) (r : Reader B) (bs : List ℕ) (means : (c : Cursor) (x : Result (A × Cursor) Refusal) → R c x → of_read f x ≡ r bs c.at) where
    pub all_read : (c : Cursor) (xs : List A) (d : Cursor) → ReadInTurn R c xs d → got (map f xs) d.at ≡ times (length xs) r bs c.at
    unfolding times
    all_read c [] d h = ap (λ (q : Cursor). got [] q.at) (sym h)
    all_read c (x ∷ xs) d (e, k, h) =
        goes _ _ _ _ (all_read e xs d h) ∙ goes _ _ _ _ (means c (Ok (x, e)) k)

    pub next_refused : (c : Cursor) (xs : List A) (d : Cursor) (e : Refusal) (n : ℕ) → length xs < n → ReadInTurn R c xs d → R d (Err e) →
        refused e.number e.place ≡ times n r bs c.at
    unfolding times
    next_refused c xs d e zero l h k = absurd (omega arith)
    next_refused c [] d e (suc n) l h k =
        handed _ _ _ _ (means d (Err e) k ∙ ap (λ (q : Cursor). r bs q.at) (sym h))
    next_refused c (x ∷ xs) d e (suc n) l (q, j, h) k =
        handed _ _ _ _ (next_refused q xs d e n (omega arith) h k) ∙ goes _ _ _ _ (means c (Ok (x, q)) j)

    pub times_means : (c : Cursor) (n : ℕ) (u : Result (ArrayVec A × Cursor) Refusal) → TimesRead R c n u →
        of_read (λ v. map f v.items) u ≡ times n r bs c.at
    unfolding TimesRead
    times_means c n (Ok (v, d)) (m, h) = all_read c v.items d h ∙ ap (λ k. times k r bs c.at) m
    times_means c n (Err e) (xs, d, l, h, k) = next_refused c xs d e n l h k

  pub many_read : (c : Cursor) (n : ℕ) (v : ArrayVec A) (d : Cursor) → TimesRead R c n (Ok (v, d)) → length v.items ≡ n
  unfolding TimesRead
  many_read c n v d h = h.0

  -- and of all that n calls answer
  pub each_of : (P : A → Type 0) → ((c : Cursor) (x : A) (d : Cursor) → R c (Ok (x, d)) → P x) → (c : Cursor) (n : ℕ) (u : Result (ArrayVec A × Cursor) Refusal) →
      TimesRead R c n u → (z : A) → IfOk u (λ x. (j : ℕ) → j < length x.0.items → P (get_or x.0.items j z))
  unfolding TimesRead
  each_of P k c n (Ok (v, d)) (m, h) z = each_read P k c v.items d h z
  each_of P k c n (Err e) h z = tt

-- the same of readers that give what code holds
pub items_mean : {A : Type 0} (R : Cursor → Result (A × Cursor) Refusal → Type 0) (r : Reader A) (bs : List ℕ) →
    ((c : Cursor) (x : Result (A × Cursor) Refusal) → R c x → of_read (λ y. y) x ≡ r bs c.at) →
    (c : Cursor) (n : ℕ) (u : Result (ArrayVec A × Cursor) Refusal) → TimesRead R c n u → of_read (λ v. v.items) u ≡ times n r bs c.at
items_mean R r bs means c n (Ok (v, d)) h = ap (λ xs. got xs d.at) (sym (map-id v.items)) ∙ times_means R (λ y. y) r bs means c n (Ok (v, d)) h
items_mean R r bs means c n (Err e) h = times_means R (λ y. y) r bs means c n (Err e) h
