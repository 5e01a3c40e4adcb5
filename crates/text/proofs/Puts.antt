-- Laws of text put into a buffer: pieces one after the other. Assumes nothing.
use Prim.Native.Nat.{ℕ, ◌+◌, ◌-◌}
use native.Mathlib.Omega.{arith}
use mathlib.Core.Path.{◌≡◌, refl, sym, ap, ◌∙◌}
use mathlib.Core.List.{List, [], ◌++◌, append_assoc}
use lib.ListN.{length, length-append, take, drop}
use lib.Seq.{sets, length-sets, sets-eq}
use borrow.Rule.Slice.PartMut.{put_mid, Post-is}
use Rattle.laws.proofs.Stores.{sets_append}
use Rattle.text.specs.Puts.{Space, Puts}

-- a piece keeps the buffer's length
pub puts_length : {a l l' : List ℕ} {at next : ℕ} → Puts a at l next l' → length l' ≡ length l
puts_length {a} {l} {l'} {at} p = ap length p.bytes ∙ length-sets l at a

-- two pieces are one
pub puts_append : {a b l l' l'' : List ℕ} {at next last : ℕ} → Puts a at l next l' → Puts b next l' last l'' → Puts (a ++ b) at l last l''
puts_append {a} {b} {l} {l'} {l''} {at} {next} {last} p q =
    record {
      place = omega (arith, p.place, q.place, length-append a b);
      bytes = q.bytes ∙ (ap (λ k. sets l' k b) p.place ∙ (ap (λ r. sets r (at + length a) b) p.bytes ∙ sym (sets_append l at a b)));
    }

-- no text leaves all as it is
pub puts_none : (l : List ℕ) (at : ℕ) → Puts [] at l at l
puts_none l at = record { place = omega arith; bytes = refl }

-- the text in the place of as many bytes
pub puts_part : (text l : List ℕ) (at : ℕ) (part : List ℕ) → part ≡ text → Space text at l
    → Puts text at l (at + length text) (put_mid at (at + length text - at) l part)
puts_part text l at part e s =
    record {
      place = refl;
      bytes = rw e (ap (λ r. take at l ++ (text ++ r)) (Post-is at (at + length text) l (omega arith)) ∙ sym (sets-eq text l at s ∙ append_assoc (take at l) text (drop (at + length text) l)));
    }
