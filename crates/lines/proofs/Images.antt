-- The image of facts has a row for each of them. Assumes nothing.
use Prim.Native.Nat.{ℕ, zero, suc, ◌+◌, ◌*◌, ◌≤◌}
use native.Mathlib.Omega.{arith}
use mathlib.Core.Path.{◌≡◌, refl, ap, ◌∙◌}
use mathlib.Core.List.{List, [], ◌∷◌, ◌++◌, append_assoc, Memᴰ}
use lib.ListN.{length, length-append, get_or}
use lib.Seq.{get_or-append-add}
use Rattle.model.specs.Facts.{Fact, fact}
use Rattle.model.specs.Limits.{Shaped}
use Rattle.model.specs.Words.{nine, words_of, image}
use Rattle.model.proofs.Rows.{nine_length}
use Rattle.lines.specs.Rows.{Row, Rows, arity_in}

module _ (arities : List ℕ) where
  -- a row keeps its place behind nine words more
  row_shift : (a ws : List ℕ) (i : ℕ) → length a ≡ 9 → Row ws arities i → Row (a ++ ws) arities (suc i)
  row_shift a ws i h r =
      let k : suc i * 9 ≡ length a + i * 9 = omega arith in
      let e : get_or (a ++ ws) (suc i * 9) 0 ≡ get_or ws (i * 9) 0 = ap (λ m. get_or (a ++ ws) m 0) k ∙ get_or-append-add a ws (i * 9) 0 in
      record {
        held = omega (arith, r.held, length-append a ws);
        known = rw e r.known;
        relation = rw e r.relation;
        arity = rw e r.arity;
      }

  module _ (sized : length arities ≡ 64) (small : (r : ℕ) → arity_in arities r ≤ 8) where
    pub rows_of_words : (fs : List Fact) (rest : List ℕ) → ((f : Fact) → Memᴰ f fs → Shaped (arity_in arities) f) → Rows (words_of fs ++ rest) arities (length fs)
    unfolding words_of nine
    rows_of_words [] rest h i k = absurd (omega arith)
    rows_of_words (fact r vs ∷ fs) rest h zero k =
        let s = (h (fact r vs) (Memᴰ.head refl)).0 in
        record {
          held = omega (arith, length-append (words_of (fact r vs ∷ fs)) rest, length-append (nine (fact r vs)) (words_of fs), nine_length (fact r vs));
          known = omega arith;
          relation = s;
          arity = small r;
        }
    rows_of_words (f ∷ fs) rest h (suc i) k =
        rw append_assoc
        (row_shift (nine f) (words_of fs ++ rest) i (nine_length f) (rows_of_words fs rest (λ g m. h g (Memᴰ.tail m)) i (omega arith)))

    pub rows_of_image : (fs : List Fact) → ((f : Fact) → Memᴰ f fs → Shaped (arity_in arities) f) → Rows (image fs) arities (length fs)
    unfolding image
    rows_of_image fs h = rows_of_words fs _ h
