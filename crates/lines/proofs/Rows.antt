-- Laws of facts held in words: their lines, one after the other. Assumes nothing.
use Prim.Native.Nat.{ℕ, zero, suc, ◌+◌, ◌*◌, ◌/◌, ◌≤◌, ◌<◌}
use native.Mathlib.Omega.{arith}
use mathlib.Core.Path.{◌≡◌, refl, sym, ap, ◌∙◌}
use mathlib.Core.List.{List, [], ◌∷◌, ◌++◌, append-nil, append_assoc}
use lib.ListN.{length, length-take, length-append, get_or, take, drop}
use lib.Seq.{drop-drop, get_or-drop, get_or-take}
use Rattle.std.specs.Simd.{first_chunks}
use Rattle.std.proofs.lemmas.Nat.{le-div}
use Rattle.std.proofs.lemmas.List.{take-take, drop-take}
use Rattle.model.specs.Facts.{Fact, fact}
use Rattle.model.specs.Words.{facts_of, row}
use Rattle.model.proofs.Rows.{row_length, row_at}
use Rattle.model.specs.Lines.{line, lines}
use Rattle.lines.specs.Rows.{arity_in, fact_at, Row, Rows}
use Rattle.lines.proofs.Text.{line_short}

-- a row's line fits 99 bytes
pub row_short : (words arities : List ℕ) (i : ℕ) → Row words arities i → length (line (fact_at arities words i)) ≤ 99
row_short words arities i r =
    let a : ℕ = arity_in arities (get_or words (i * 9) 0) in
    let k : length (take a (drop (i * 9 + 1) words)) ≤ 8 = rw (length-take) (omega (arith, r.arity)) in
    line_short (get_or words (i * 9) 0) (take a (drop (i * 9 + 1) words)) (omega (arith, r.relation)) k

-- the words cut into nine each, as the library cuts them
chunk_at : (words : List ℕ) (m i : ℕ) (d : List ℕ) → i < m → get_or (first_chunks 9 m words) i d ≡ row words i
chunk_at words zero i d h = absurd (omega arith)
chunk_at words (suc m) zero d h = refl
chunk_at words (suc m) (suc i) d h =
    let e : 9 + i * 9 ≡ suc i * 9 = omega arith in
    chunk_at (drop 9 words) m i d (omega arith) ∙ ap (take 9) (drop-drop (i * 9) 9 words ∙ ap (λ k. drop k words) e)

pub nine_at : (words : List ℕ) (m n i : ℕ) (d : List ℕ) → i < n → i < m → get_or (take n (first_chunks 9 m words)) i d ≡ row words i
nine_at words m n i d h k = get_or-take n (first_chunks 9 m words) i d h ∙ chunk_at words m i d k

-- there are as many as the facts
pub rows_held : (words arities : List ℕ) (n : ℕ) → Rows words arities n → n ≤ length words / 9
rows_held words arities zero f = omega arith
rows_held words arities (suc n) f = let r = f n (omega arith) in let h = r.held in le-div (suc n) (length words) 9 (omega arith) (omega arith)

-- a row is its nine words
module _ (words arities r : List ℕ) (i : ℕ) (e : r ≡ row words i) (g : Row words arities i) where
  named : get_or r 0 0 ≡ get_or words (i * 9) 0
  named =
      let z : i * 9 + 0 ≡ i * 9 = omega arith in
      ap (λ l. get_or l 0 0) e ∙ row_at words i g.held 0 (omega arith) ∙ ap (λ k. get_or words k 0) z

  pub nine_row : Row r arities 0
  nine_row =
      let n = named in
      let l = ap length e ∙ row_length words i g.held in
      record { held = omega arith; known = rw n g.known; relation = rw n g.relation; arity = rw n g.arity }

  pub nine_fact : fact_at arities r 0 ≡ fact_at arities words i
  nine_fact =
      let a : ℕ = arity_in arities (get_or words (i * 9) 0) in
      let t : take a (drop 1 r) ≡ take a (drop (i * 9 + 1) words) =
      ap (λ l. take a (drop 1 l)) e
      ∙ ap (take a) (drop-take 1 8 (drop (i * 9) words) ∙ ap (take 8) (drop-drop 1 (i * 9) words))
      ∙ take-take a 8 (drop (i * 9 + 1) words) g.arity in
      ap (λ q. fact q (take (arity_in arities q) (drop 1 r))) named ∙ ap (fact (get_or words (i * 9) 0)) t

-- one fact more
facts_more : (arities words : List ℕ) (n : ℕ) → facts_of (arity_in arities) (n + 1) words ≡ facts_of (arity_in arities) n words ++ (fact_at arities words n ∷ [])
unfolding facts_of
facts_more arities words zero = refl
facts_more arities words (suc n) =
    let e : suc n + 1 ≡ suc (n + 1) = omega arith in
    let z : 9 + n * 9 ≡ suc n * 9 = omega arith in
    let y : 9 + (n * 9 + 1) ≡ suc n * 9 + 1 = omega arith in
    let t = facts_more arities (drop 9 words) n in
    let f : fact_at arities (drop 9 words) n ≡ fact_at arities words (suc n) = rw (get_or-drop 9 words (n * 9) 0, drop-drop (n * 9 + 1) 9 words, z, y) in
    rw (e, t, f)

lines_append : (fs gs : List Fact) → lines (fs ++ gs) ≡ lines fs ++ lines gs
unfolding lines
lines_append [] gs = refl
lines_append (f ∷ fs) gs = ap (λ t. line f ++ t) (lines_append fs gs) ∙ sym (append_assoc (line f) (lines fs) (lines gs))

pub lines_more : (words arities : List ℕ) (n : ℕ)
    → lines (facts_of (arity_in arities) (n + 1) words) ≡ lines (facts_of (arity_in arities) n words) ++ line (fact_at arities words n)
unfolding lines
lines_more words arities n =
    ap lines (facts_more arities words n) ∙ (lines_append (facts_of (arity_in arities) n words) (fact_at arities words n ∷ [])
    ∙ ap (λ t. lines (facts_of (arity_in arities) n words) ++ t) (append-nil (line (fact_at arities words n))))

pub lines_none : (words arities : List ℕ) → lines (facts_of (arity_in arities) 0 words) ≡ []
unfolding facts_of lines
lines_none words arities = refl

-- the lines of n facts have at most 99 bytes each
pub lines_short : (words arities : List ℕ) (n : ℕ) → Rows words arities n → length (lines (facts_of (arity_in arities) n words)) ≤ n * 99
lines_short words arities zero f = omega (arith, ap length (lines_none words arities))
lines_short words arities (suc n) f =
    let e : n + 1 ≡ suc n = omega arith in
    let t = rw e at (lines_more words arities n) in
    rw (t, length-append)
    (omega (arith, row_short words arities n (f n (omega arith)), lines_short words arities n (λ i h. f i (omega arith))))
