-- Where an accepted job's arities stand. Assumes nothing.
use Prim.Native.Nat.{ℕ, zero, suc, ◌+◌, ◌≤◌, ◌<◌}
use native.Mathlib.Omega.{arith}
use mathlib.Core.Path.{◌≡◌, refl, sym, ap, subst, ◌∙◌}
use mathlib.Core.Bool.{Bool, true, false}
use mathlib.Core.List.{List, ◌∷◌}
use lib.ListN.{length, get_or, take, drop}
use lib.Seq.{drop-cons}
use lib.Dec.{leb}
use borrow.Author.Tests.{leb-true}
use Rattle.model.specs.Job.{got, refused, pick, times, field, byte_at, half_at, read_byte, read_half, read_count, read_number, read_mark, read_version, read_rule, read_fact, read_end, Head, read_head, Job, read_job, judged}
use Rattle.fields.proofs.Laws.{after_inv, unless_inv, never, same_value, choose_inv, count_within}

-- a field that was read stands whole in the job, and the next place is behind it
pub record Stands {A : Type 0} (bs : List ℕ) (at n : ℕ) (v x : A) (q : ℕ) : Type 0 where
  pub held : at + n ≤ length bs
  pub value : x ≡ v
  pub place : q ≡ at + n

field_stands : {A : Type 0} (n : ℕ) (v : List ℕ → ℕ → A) (bs : List ℕ) (at : ℕ) (x : A) (q : ℕ) → field n v bs at ≡ got x q → Stands bs at n (v bs at) x q
unfolding pick
field_stands n v bs at x q e = go (leb (at + n) (length bs)) refl e
  where
    go : (b : Bool) → leb (at + n) (length bs) ≡ b → pick b (got (v bs at) (at + n)) (refused 3 at) ≡ got x q → Stands bs at n (v bs at) x q
    go true t d = record { held = leb-true (at + n) (length bs) t; value = cc; place = cc }
    go false t d = absurd (never x q 3 at (sym d))

count_stands : (lo hi : ℕ) (bs : List ℕ) (at x q : ℕ) → read_count lo hi bs at ≡ got x q → Stands bs at 1 (byte_at bs at) x q
unfolding read_count read_byte
count_stands lo hi bs at x q e =
    let a = after_inv (field 1 byte_at bs at) _ x q e in
    let l = unless_inv _ _ _ a.1 _ x q a.3 in
    let h = unless_inv _ _ _ a.1 _ x q l.1 in
    let s = field_stands 1 byte_at bs at a.0 a.1 a.2 in
    let i : a.0 ≡ x = cc h.1 in
    let j : a.1 ≡ q = cc h.1 in
    record { held = s.held; value = sym i ∙ s.value; place = sym j ∙ s.place }

half_place : (hi : ℕ) (bs : List ℕ) (at x q : ℕ) → read_number hi bs at ≡ got x q → q ≡ at + 2
unfolding read_number read_half
half_place hi bs at x q e =
    let a = after_inv (field 2 half_at bs at) _ x q e in
    let l = unless_inv _ _ _ a.1 _ x q a.3 in
    let j : a.1 ≡ q = cc l.1 in
    sym j ∙ (field_stands 2 half_at bs at a.0 a.1 a.2).place

-- a test alone keeps the place
test_place : (b : Bool) (n p at : ℕ) (x : Unit {0}) (q : ℕ) → pick b (got (tt {0}) at) (refused n p) ≡ got x q → q ≡ at
unfolding pick
test_place true n p at x q e = cc
test_place false n p at x q e = absurd (never x q n p (sym e))

version_place : (bs : List ℕ) (at : ℕ) (x : Unit {0}) (q : ℕ) → read_version bs at ≡ got x q → q ≡ at + 2
unfolding read_version read_half
version_place bs at x q e =
    let a = after_inv (field 2 half_at bs at) _ x q e in
    test_place _ _ _ a.1 x q a.3 ∙ (field_stands 2 half_at bs at a.0 a.1 a.2).place

mark_place : (bs : List ℕ) (at : ℕ) (x : Unit {0}) (q : ℕ) → read_mark bs at ≡ got x q → q ≡ at + 3
unfolding read_mark
mark_place bs at x q e =
    let a = after_inv (field 3 (λ b p. tt {0}) bs at) _ x q e in
    let l = unless_inv _ _ _ a.1 _ x q a.3 in
    let h = unless_inv _ _ _ a.1 _ x q l.1 in
    test_place _ _ _ a.1 x q h.1 ∙ (field_stands 3 (λ b p. tt {0}) bs at a.0 a.1 a.2).place

-- counts read one after the other are the bytes from there on
counts_stand : (lo hi n : ℕ) (bs : List ℕ) (at : ℕ) (xs : List ℕ) (q : ℕ) → times n (read_count lo hi) bs at ≡ got xs q
    → (0 < n → at + n ≤ length bs) × (xs ≡ take n (drop at bs))
unfolding times
counts_stand lo hi zero bs at xs q e = (λ h. absurd (omega arith), cc)
counts_stand lo hi (suc n) bs at xs q e =
    let a = after_inv (read_count lo hi bs at) _ xs q e in
    let b = after_inv (times n (read_count lo hi) bs a.1) _ xs q a.3 in
    let s = count_stands lo hi bs at a.0 a.1 a.2 in
    let r = counts_stand lo hi n bs a.1 b.0 b.1 b.2 in
    let d : xs ≡ a.0 ∷ b.0 = cc b.3 in
    let p : a.1 ≡ suc at = omega (arith, s.place) in
    let h : at < length bs = omega (arith, s.held) in (
      λ k. go n a.1 r.0 p h,
      d ∙ (ap (λ v. v ∷ b.0) s.value ∙ (ap (λ l. byte_at bs at ∷ l) (r.1 ∙ ap (λ m. take n (drop m bs)) p) ∙ ap (take (suc n)) (sym (drop-cons bs at 0 h)))),
    )
  where
    go : (n p : ℕ) → (0 < n → p + n ≤ length bs) → p ≡ suc at → at < length bs → at + suc n ≤ length bs
    go zero p f e h = omega arith
    go (suc n) p f e h = omega (arith, f (omega arith))

-- the arities of an accepted job are the bytes from 8 on, and byte 7 says how many
pub record Declared (bs ars : List ℕ) : Type 0 where
  pub few : get_or bs 7 0 ≤ 64
  pub held : 8 + get_or bs 7 0 ≤ length bs
  pub arities : ars ≡ take (get_or bs 7 0) (drop 8 bs)

head_declared : (bs : List ℕ) (h : Head) (q : ℕ) → read_head bs 0 ≡ got h q → Declared bs h.arities
unfolding read_head
head_declared bs h q e =
    let m = after_inv (read_mark bs 0) _ h q e in
    let v = after_inv (read_version bs m.1) _ h q m.3 in
    let b = after_inv (read_number 4096 bs v.1) _ h q v.3 in
    let n = after_inv (read_count 1 64 bs b.1) _ h q b.3 in
    let a = after_inv (times n.0 (read_count 1 8) bs n.1) _ h q n.3 in
    let s = count_stands 1 64 bs b.1 n.0 n.1 n.2 in
    let p : b.1 ≡ 7 =
    omega (arith, mark_place bs 0 m.0 m.1 m.2, version_place bs m.1 v.0 v.1 v.2, half_place 4096 bs v.1 b.0 b.1 b.2) in
    let w : n.1 ≡ 8 = omega (arith, s.place) in
    let x : n.0 ≡ get_or bs 7 0 = s.value ∙ ap (byte_at bs) p in
    let c = counts_stand 1 8 n.0 bs n.1 a.0 a.1 a.2 in
    let l = count_within 1 64 bs b.1 n.0 n.1 n.2 in
    let k : 0 < n.0 = omega (arith, l.0) in
    record {
      few = omega (arith, l.1, x);
      held = omega (arith, c.0 k, w, x);
      arities = sym (ap (λ (g : Head). g.arities) (same_value _ h _ q a.3)) ∙ (c.1 ∙ (ap (λ i. take i (drop n.1 bs)) x ∙ ap (λ i. take (get_or bs 7 0) (drop i bs)) w));
    }

job_declared : (bs : List ℕ) (j : Job) (q : ℕ) → read_job bs 0 ≡ got j q → Declared bs j.arities
unfolding read_job
job_declared bs j q e =
    let h = after_inv (read_head bs 0) _ j q e in
    let m = after_inv (read_count 0 64 bs h.1) _ j q h.3 in
    let ρs = after_inv (times m.0 (read_rule h.0.arities) bs m.1) _ j q m.3 in
    let k = after_inv (read_number 1024 bs ρs.1) _ j q ρs.3 in
    let fs = after_inv (times k.0 (read_fact h.0.arities) bs k.1) _ j q k.3 in
    let u = after_inv (read_end bs fs.1) _ j q fs.3 in
    subst (Declared bs) (ap (λ (x : Job). x.arities) (same_value _ j _ q u.3)) (head_declared bs h.0 h.1 h.2)

pub judged_declared : (short : Bool) (bs : List ℕ) (j : Job) (q : ℕ) → judged short bs ≡ got j q → Declared bs j.arities
unfolding judged
judged_declared short bs j q e =
    choose_inv (λ (j : Job). Declared bs j.arities) short _ _ j q
    (λ f. absurd (never j q _ _ (sym f)))
    (choose_inv (λ (j : Job). Declared bs j.arities) _ _ _ j q (λ f. absurd (never j q _ _ (sym f))) (job_declared bs j q)) e
