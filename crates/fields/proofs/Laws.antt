-- Laws of readers: what a field, a test, a choice and a loop make of the whole. Assumes nothing.
use Prim.Native.Nat.{ℕ, zero, suc, ◌+◌, ◌-◌, ◌<◌, ◌≤◌}
use native.Mathlib.Omega.{arith}
use mathlib.Core.Path.{◌≡◌, refl, sym, ap, ◌∙◌, subst, fun_ext}
use mathlib.Core.Bool.{Bool, true, false, ◌&&◌}
use mathlib.Core.List.{List, [], ◌∷◌, ◌++◌, append_assoc, append-nil}
use lib.ListN.{length, take, drop, get_or}
use Rattle.std.proofs.lemmas.List.{get_or-take, get_or-drop, length-drop}
use Rattle.std.specs.List.{slice_range}
use Rattle.std.proofs.Math.Seq.{take-length, drop-cons}
use lib.Dec.{leb}
use borrow.Author.Tests.{leb-true, le-leb, lt-leb}
use Rattle.model.specs.Job.{Got, got, refused, Reader, after, pick, times, field, read_byte, read_half, read_word, read_count, read_number, read_up_to}
use Rattle.std.specs.Prelude.{Result, Err}
use Rattle.fields.specs.declared.Cursor.{Cursor}
use Rattle.fields.specs.declared.Refusal.{Refusal}
use Rattle.fields.specs.Means.{of_read, within, held}

-- ---- a value is no refusal
pub never : {A : Type 0} (x : A) (p n q : ℕ) → got x p ≡ refused n q → ⊥
never x p n q e = let z : ◌≡◌ {A = ℕ} 0 1 = cc in omega arith

-- ---- a field that the job holds whole, and one that it ends in
module _ {A : Type 0} (n : ℕ) (v : List ℕ → ℕ → A) (bs : List ℕ) (at : ℕ) where
  pub field_in : at + n ≤ length bs → got (v bs at) (at + n) ≡ field n v bs at
  unfolding pick
  field_in h = simp (le-leb _ _ h)

  pub field_out : length bs < at + n → refused 3 at ≡ field n v bs at
  unfolding pick
  field_out h = simp (lt-leb _ _ h)

-- what n bytes mean, where f reads it off them
module _ {A : Type 0} (f : List ℕ → A) (b x : List ℕ) (y : A) (p q at : ℕ) where
  meant : (t : Bool) → f x ≡ y → got b p ≡ pick t (got x q) (refused 3 at) → got (f b) p ≡ pick t (got y q) (refused 3 at)
  unfolding pick
  meant true h e =
      let d : b ≡ x = cc in
      let c : p ≡ q = cc in
      rw (d, c, h)
  meant false h e = absurd (never b p 3 at e)

missing : {A : Type 0} (x : List ℕ) (y : A) (n p q at : ℕ) (t : Bool) → refused n p ≡ pick t (got x q) (refused 3 at) → refused n p ≡ pick t (got y q) (refused 3 at)
unfolding pick
missing x y n p q at true e = absurd (never x q n p (sym e))
missing x y n p q at false e =
    let c : n ≡ 3 = cc in
    let d : p ≡ at = cc in
    rw (c, d)

held_whole : {A : Type 0} (x y : A) (p q at : ℕ) (t : Bool) (P : Type 0) → (t ≡ true → P) → got x p ≡ pick t (got y q) (refused 3 at) → P × (x ≡ y) × (p ≡ q)
unfolding pick
held_whole x y p q at true P h e = (h refl, cc, cc)
held_whole x y p q at false P h e = absurd (never x p 3 at e)

module _ {A : Type 0} (n : ℕ) (v : List ℕ → ℕ → A) (bs : List ℕ) (at : ℕ) where
  pub field_got : (f : List ℕ → A) (b : List ℕ) (p : ℕ) → f (take n (drop at bs)) ≡ v bs at → got b p ≡ field n (λ cs q. take n (drop q cs)) bs at → got (f b) p ≡ field n v bs at
  field_got f b p h e = meant f b (take n (drop at bs)) (v bs at) p (at + n) at (leb (at + n) (length bs)) h e

  pub field_missing : (m p : ℕ) → refused m p ≡ field n (λ cs q. take n (drop q cs)) bs at → refused m p ≡ field n v bs at
  field_missing m p e = missing (take n (drop at bs)) (v bs at) m p (at + n) at (leb (at + n) (length bs)) e

  pub field_inv : (x : A) (p : ℕ) → got x p ≡ field n v bs at → (at + n ≤ length bs) × (x ≡ v bs at) × (p ≡ at + n)
  field_inv x p e = held_whole x (v bs at) p (at + n) at (leb (at + n) (length bs)) (at + n ≤ length bs) (leb-true _ _) e

-- the first n bytes from a place on
pub chunk : (n at : ℕ) (bs rest b : List ℕ) → rest ≡ slice_range bs at (length bs) → length rest + at ≡ length bs → n ≤ length rest → b ≡ take n rest →
    got b (at + n) ≡ field n (λ cs q. take n (drop q cs)) bs at
chunk n at bs rest b e l h d =
    let r : rest ≡ drop at bs = e ∙ (ap (λ k. take k (drop at bs)) (sym (length-drop at bs)) ∙ take-length (drop at bs)) in
    rw (d, r) (field_in n (λ cs q. take n (drop q cs)) bs at (omega arith))

-- byte i of n at a place
pub byte_of : (n : ℕ) (bs : List ℕ) (at i : ℕ) → i < n → get_or (take n (drop at bs)) i 0 ≡ get_or bs (at + i) 0
byte_of n bs at i h = get_or-take n (drop at bs) i 0 h ∙ get_or-drop at bs i 0

pub first_byte : (n : ℕ) (bs : List ℕ) (at : ℕ) → 0 < n → get_or (take n (drop at bs)) 0 0 ≡ get_or bs at 0
first_byte n bs at h =
    let e : at + 0 ≡ at = omega arith in
    byte_of n bs at 0 h ∙ ap (λ k. get_or bs k 0) e

-- the mark: all three bytes are right, or one is not
module _ (at p : ℕ) where
  pub right : (a b c : Bool) → (a && (b && (c && true))) ≡ true → got (tt {0}) p ≡ after (pick a (got (tt {0}) p) (refused 4 at)) (λ u q. after (pick b (got (tt {0}) q) (refused 4 at)) (λ v r. pick c (got (tt {0}) r) (refused 4 at)))
  unfolding after pick
  right true true true e = refl
  right true true false e = cc
  right true false c e = cc
  right false b c e = cc

  pub wrong : (a b c : Bool) → (a && (b && (c && true))) ≡ false → refused 4 at ≡ after (pick a (got (tt {0}) p) (refused 4 at)) (λ u q. after (pick b (got (tt {0}) q) (refused 4 at)) (λ v r. pick c (got (tt {0}) r) (refused 4 at)))
  unfolding after pick
  wrong true true true e = cc
  wrong true true false e = refl
  wrong true false c e = refl
  wrong false b c e = refl

-- the three bytes of a field, one by one
pub three : (bs : List ℕ) (at : ℕ) → at + 3 ≤ length bs → take 3 (drop at bs) ≡ get_or bs at 0 ∷ get_or bs (at + 1) 0 ∷ get_or bs (at + 2) 0 ∷ []
three bs at h =
    let a : at < length bs = omega arith in
    let b : suc at < length bs = omega arith in
    let c : suc (suc at) < length bs = omega arith in
    let e : suc at ≡ at + 1 = omega arith in
    let f : suc (suc at) ≡ at + 2 = omega arith in
    rw (drop-cons bs at 0 a, drop-cons bs (suc at) 0 b, drop-cons bs (suc (suc at)) 0 c) (cc)

-- ---- the parts of a reader, one after the other
module _ {A B : Type 0} (g : Got A) (k : A → ℕ → Got B) where
  -- a value that was read goes on to the rest
  pub goes : (a : A) (p : ℕ) → got a p ≡ g → k a p ≡ after g k
  unfolding after
  goes a p e = rw (← e)

  -- a refusal of a part is the refusal of the whole
  pub handed : (n p : ℕ) → refused n p ≡ g → refused n p ≡ after g k
  unfolding after
  handed n p e = rw (← e)

-- the refusal that an answer holds
pub short : {A B : Type 0} (f : A → B) (r : Result (A × Cursor) Refusal) (e : Refusal) (g : Got B) → r ≡ Err e → of_read f r ≡ g →
    refused e.number e.place ≡ g
short f r e g d h = ap (of_read f) (sym d) ∙ h

pub fails : {A B : Type 0} (g : Got A) (n p : ℕ) (k : A → ℕ → Got B) → g ≡ refused n p → refused n p ≡ after g k
unfolding after
fails g n p k e = rw e

pub on : {A B : Type 0} (g : Got A) (a : A) (p : ℕ) (k : A → ℕ → Got B) → g ≡ got a p → k a p ≡ after g k
unfolding after
on g a p k e = rw e

pub under : {A B : Type 0} (g h : Got A) (k : A → ℕ → Got B) → g ≡ h → after g k ≡ after h k
under g h k e = ap (λ x. after x k) e

-- a test that held, and one that did not
pub kept : {B : Type 0} (b : Bool) (n p at : ℕ) (k : Unit {0} → ℕ → Got B) → b ≡ true → k tt at ≡ after (pick b (got tt at) (refused n p)) k
unfolding after pick
kept b n p at k e = rw e

pub lost : {B : Type 0} (b : Bool) (n p at : ℕ) (k : Unit {0} → ℕ → Got B) → b ≡ false → refused n p ≡ after (pick b (got tt at) (refused n p)) k
unfolding after pick
lost b n p at k e = rw e

-- a number from zero on has one test
pub from_zero : (g h : Got ℕ) (hi start : ℕ) → g ≡ h →
    within 0 hi start g ≡ after h (λ x p. after (pick (leb x hi) (got (tt {0}) p) (refused 6 start)) (λ u q. got x q))
unfolding within after
from_zero (got x p) h hi start e = rw (← e) (sym (kept _ _ _ _ _ (le-leb 0 x (omega arith))))
from_zero (refused n p) h hi start e = rw (← e)

-- a choice
pub picked : {A : Type 0} (b : Bool) (x y : A) → b ≡ true → x ≡ pick b x y
unfolding pick
picked b x y e = rw e

pub passed : {A : Type 0} (b : Bool) (x y : A) → b ≡ false → y ≡ pick b x y
unfolding pick
passed b x y e = rw e

pub after_after : {A B C : Type 0} (g : Got A) (k : A → ℕ → Got B) (l : B → ℕ → Got C) → after (after g k) l ≡ after g (λ a p. after (k a p) l)
unfolding after
after_after (got a p) k l = refl
after_after (refused n p) k l = refl

pub after_got : {A B : Type 0} (a : A) (p : ℕ) (k : A → ℕ → Got B) → after (got a p) k ≡ k a p
unfolding after
after_got a p k = refl

-- ---- what an accepted whole says of its parts
pub after_inv : {A B : Type 0} (g : Got A) (k : A → ℕ → Got B) (x : B) (q : ℕ) → after g k ≡ got x q → (a : A) × (p : ℕ) × (g ≡ got a p) × (k a p ≡ got x q)
unfolding after
after_inv (got a p) k x q e = (a, p, refl, e)
after_inv (refused n p) k x q e = let z : ◌≡◌ {A = ℕ} 0 1 = cc in absurd (omega arith)

pub unless_inv : {B : Type 0} (b : Bool) (n p at : ℕ) (k : Unit {0} → ℕ → Got B) (x : B) (q : ℕ) →
    after (pick b (got tt at) (refused n p)) k ≡ got x q → (b ≡ true) × (k tt at ≡ got x q)
unfolding after pick
unless_inv true n p at k x q e = (refl, e)
unless_inv false n p at k x q e = let z : ◌≡◌ {A = ℕ} 0 1 = cc in absurd (omega arith)

pub map_inv : {A B : Type 0} (g : Got A) (f : A → B) (y : B) (q : ℕ) → got y q ≡ after g (λ a p. got (f a) p) → (a : A) × (g ≡ got a q) × (y ≡ f a)
unfolding after
map_inv (got a p) f y q e = (a, cc, cc)
map_inv (refused n p) f y q e = let z : ◌≡◌ {A = ℕ} 0 1 = cc in absurd (omega arith)

pub map_refused : {A B : Type 0} (g : Got A) (f : A → B) (n q : ℕ) → refused n q ≡ after g (λ a p. got (f a) p) → g ≡ refused n q
unfolding after
map_refused (got a p) f n q e = let z : ◌≡◌ {A = ℕ} 0 1 = cc in absurd (omega arith)
map_refused (refused m p) f n q e = cc

-- what was chosen
pub choose_inv : {A : Type 0} (P : A → Type 0) (b : Bool) (x y : Got A) (a : A) (q : ℕ) → (x ≡ got a q → P a) → (y ≡ got a q → P a) → pick b x y ≡ got a q → P a
unfolding pick
choose_inv P true x y a q f g e = f e
choose_inv P false x y a q f g e = g e

pub same_value : {A : Type 0} (x y : A) (p q : ℕ) → got x p ≡ got y q → x ≡ y
same_value x y p q e = cc

pub same_got : {A : Type 0} (x y : A) (p : ℕ) → x ≡ y → got x p ≡ got y p
same_got x y p e = ap (λ z. got z p) e

-- a number that was accepted is within its limits
up_to : (g : Got ℕ) (hi at x q : ℕ) → after g (λ a p. after (pick (leb a hi) (got (tt {0}) p) (refused 6 at)) (λ u r. got a r)) ≡ got x q → x ≤ hi
up_to g hi at x q e =
    let a = after_inv g _ x q e in
    let u = unless_inv _ _ _ _ _ x q a.3 in
    let i : a.0 ≡ x = cc u.1 in
    rw i at (leb-true a.0 hi u.0)

pub count_within : (lo hi : ℕ) (bs : List ℕ) (at x q : ℕ) → read_count lo hi bs at ≡ got x q → (lo ≤ x) × (x ≤ hi)
unfolding read_count
count_within lo hi bs at x q e =
    let a = after_inv (read_byte bs at) _ x q e in
    let u = unless_inv _ _ _ _ _ x q a.3 in
    let v = unless_inv _ _ _ _ _ x q u.1 in
    let i : a.0 ≡ x = cc v.1 in
    (rw i at (leb-true lo a.0 u.0), rw i at (leb-true a.0 hi v.0))

pub number_within : (hi : ℕ) (bs : List ℕ) (at x q : ℕ) → read_number hi bs at ≡ got x q → x ≤ hi
unfolding read_number
number_within hi bs at x q e = up_to (read_half bs at) hi at x q e

pub up_to_within : (hi : ℕ) (bs : List ℕ) (at x q : ℕ) → read_up_to hi bs at ≡ got x q → x ≤ hi
unfolding read_up_to
up_to_within hi bs at x q e = up_to (read_word bs at) hi at x q e

-- what is made of a number that was accepted
pub up_to_made : {A : Type 0} (P : A → Type 0) (make : ℕ → A) (hi : ℕ) (bs : List ℕ) (at : ℕ) (a : A) (q : ℕ) → ((x : ℕ) → x ≤ hi → P (make x)) →
    after (read_up_to hi bs at) (λ x p. got (make x) p) ≡ got a q → P a
up_to_made P make hi bs at a q f e =
    let r = after_inv (read_up_to hi bs at) _ a q e in
    subst P (same_value _ a _ q r.3) (f r.0 (up_to_within hi bs at r.0 r.1 r.2))

-- what is kept of it
module _ {A B : Type 0} (none : B) (f : A → B) (g : Got A) where
  pub held_got : (a : A) (p : ℕ) → got a p ≡ g → f a ≡ held none f g
  held_got a p e = ap (held none f) e

  pub held_none : (n p : ℕ) → refused n p ≡ g → none ≡ held none f g
  held_none n p e = ap (held none f) e

-- ---- the loops: n are left, and K is what becomes of the list of those
module _ {A B : Type 0} (r : Reader A) (bs : List ℕ) (at : ℕ) (K : List A → ℕ → Got B) where
  pub more : (n m : ℕ) (x : A) (q : ℕ) (K' : List A → ℕ → Got B) → n ≡ suc m → r bs at ≡ got x q → ((xs : List A) (p : ℕ) → K (x ∷ xs) p ≡ K' xs p) →
      after (times n r bs at) K ≡ after (times m r bs q) K'
  unfolding times after
  more n m x q K' h e d =
      rw (h, e) (after_after (times m r bs q) (λ xs p. got (x ∷ xs) p) K ∙ ap (after (times m r bs q)) (fun_ext (λ xs. fun_ext (d xs))))

  pub stop : (n : ℕ) (a b : ℕ) → 0 < n → r bs at ≡ refused a b → refused a b ≡ after (times n r bs at) K
  unfolding times after
  stop zero a b h e = absurd (omega arith)
  stop (suc m) a b h e = rw e

  pub last : (n : ℕ) → n ≤ 0 → K [] at ≡ after (times n r bs at) K
  unfolding times after
  last zero h = refl
  last (suc m) h = absurd (omega arith)

-- none is left: what is there is the whole
pub finish : {A : Type 0} (r : Reader A) (bs : List ℕ) (at n : ℕ) (g : Got (List A)) (made xs : List A) → n ≤ 0 →
    g ≡ after (times n r bs at) (λ ys p. got (made ++ ys) p) → xs ≡ made → got xs at ≡ g
finish r bs at n g made xs h e d =
    ap (λ z. got z at) (d ∙ sym (append-nil made)) ∙ (last r bs at (λ ys p. got (made ++ ys) p) n h ∙ sym e)

-- the list is put behind one that is there
pub behind : {A : Type 0} (done done' : List A) (x : A) → done' ≡ done ++ (x ∷ []) → (xs : List A) → done ++ (x ∷ xs) ≡ done' ++ xs
behind done done' x e xs = rw e (sym (append_assoc done (x ∷ []) xs))

-- nothing is there at the start
pub start : {A : Type 0} (g : Got (List A)) (l : List A) → l ≡ [] → g ≡ after g (λ xs p. got (l ++ xs) p)
unfolding after
start (got xs p) l e = rw e
start (refused n p) l e = refl

pub begin : {A : Type 0} (r : Reader A) (bs : List ℕ) (n at : ℕ) (l : List A) → l ≡ [] →
    times n r bs at ≡ after (times (n - 0) r bs at) (λ xs p. got (l ++ xs) p)
begin r bs n at l e =
    let h : n - 0 ≡ n = omega arith in
    rw h (start (times n r bs at) l e)

pub times_length : {A : Type 0} (r : Reader A) (bs : List ℕ) (n at : ℕ) (xs : List A) (q : ℕ) → times n r bs at ≡ got xs q → length xs ≡ n
unfolding times
times_length r bs zero at xs q e = let f : [] ≡ xs = cc in ap length (sym f)
times_length r bs (suc n) at xs q e =
    let a = after_inv (r bs at) _ xs q e in
    let b = after_inv (times n r bs a.1) _ xs q a.3 in
    let f : a.0 ∷ b.0 ≡ xs = cc b.3 in
    ap length (sym f) ∙ ap suc (times_length r bs n a.1 b.0 b.1 b.2)
