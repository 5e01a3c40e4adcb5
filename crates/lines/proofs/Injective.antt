-- The text of a line determines its fact. Assumes nothing.
use Prim.Native.Nat.{ℕ, ◌-◌, ◌≤◌, ◌<◌}
use native.Mathlib.Omega.{arith}
use mathlib.Core.Path.{◌≡◌, refl, sym, ap, ◌∙◌}
use mathlib.Core.Bool.{Bool, true, false}
use mathlib.Core.List.{List, [], ◌∷◌, ◌++◌, append_assoc, Memᴰ}
use lib.ListN.{length}
use lib.Dec.{ltb}
use borrow.Author.Tests.{ltb-true, ltb-false}
use Rattle.model.specs.Values.{blanks}
use Rattle.model.specs.Facts.{fact}
use Rattle.model.specs.Lines.{decimal, value_text, values_text, line}
use Rattle.text.proofs.Decimal.{ten_digits, decimal_bytes, decimal_some, decimal_injective}
use Rattle.lines.proofs.Text.{value_constant, value_blank, line_pieces}

-- digits lie above every byte that can follow them
abbrev Digits : List ℕ → Type 0
Digits ds = (d : ℕ) → Memᴰ d ds → 48 ≤ d

pub record Cut (a b u w : List ℕ) (p q : ℕ) : Type 0 where
  pub front : a ≡ b
  pub byte : p ≡ q
  pub back : u ≡ w

-- a text is cut at its first byte that is no digit
cut : (a b u w : List ℕ) (p q : ℕ) → Digits a → Digits b → p < 48 → q < 48 → a ++ (p ∷ u) ≡ b ++ (q ∷ w) → Cut a b u w p q
cut [] [] u w p q f g h k e = record { front = refl; byte = cc; back = cc }
cut [] (y ∷ b) u w p q f g h k e = let z : p ≡ y = cc in absurd (omega (arith, g y (Memᴰ.head refl)))
cut (x ∷ a) [] u w p q f g h k e = let z : x ≡ q = cc in absurd (omega (arith, f x (Memᴰ.head refl)))
cut (x ∷ a) (y ∷ b) u w p q f g h k e =
    let t : a ++ (p ∷ u) ≡ b ++ (q ∷ w) = cc in
    let z : x ≡ y = cc in
    let c = cut a b u w p q (λ d m. f d (Memᴰ.tail m)) (λ d m. g d (Memᴰ.tail m)) h k t in
    record { front = ap (λ v. v ∷ a) z ∙ ap (λ l. y ∷ l) c.front; byte = c.byte; back = c.back }

above : (x : ℕ) → Digits (decimal x)
above x d m = (decimal_bytes x d m).0

-- a number behind which stands no digit
numbers : (x y : ℕ) (u w : List ℕ) (p q : ℕ) → x < ten_digits → y < ten_digits → p < 48 → q < 48 → decimal x ++ (p ∷ u) ≡ decimal y ++ (q ∷ w)
    → (x ≡ y) × (p ∷ u ≡ q ∷ w)
numbers x y u w p q h k i j e =
    let c = cut (decimal x) (decimal y) u w p q (above x) (above y) i j e in
    (decimal_injective x y h k c.front, ap (λ b. b ∷ u) c.byte ∙ ap (λ l. q ∷ l) c.back)

-- a number is not empty
some : (x : ℕ) (u : List ℕ) (p q : ℕ) (w : List ℕ) → x < ten_digits → p < 48 → q < 48 → decimal x ++ (p ∷ u) ≡ q ∷ w → ⊥
some x u p q w h i j e =
    let c = cut (decimal x) [] u w p q (above x) (λ d m. absurd (elim m [ ])) i j e in
    omega (arith, decimal_some x h, ap length c.front)

abbrev Word : ℕ → Type 0
Word v = v < 4294967296

-- a value behind which stands no digit
values : (v w : ℕ) (u t : List ℕ) (p q : ℕ) → Word v → Word w → p < 48 → q < 48 → value_text v ++ (p ∷ u) ≡ value_text w ++ (q ∷ t)
    → (v ≡ w) × (p ∷ u ≡ q ∷ t)
values v w u t p q h k i j = go (ltb v blanks) (ltb w blanks) refl refl
  where
    go : (b c : Bool) → ltb v blanks ≡ b → ltb w blanks ≡ c → value_text v ++ (p ∷ u) ≡ value_text w ++ (q ∷ t) → (v ≡ w) × (p ∷ u ≡ q ∷ t)
    go true true b c e =
        let l = ltb-true v blanks b in
        let m = ltb-true w blanks c in
        numbers v w u t p q (omega arith) (omega arith) i j (rw (value_constant v l, value_constant w m) at e)
    go true false b c e =
        let l = ltb-true v blanks b in
        let m = ltb-false w blanks c in
        absurd (some v u p 0x23 (decimal (w - blanks) ++ (q ∷ t)) (omega arith) i (omega arith) (rw (value_constant v l, value_blank w m) at e))
    go false true b c e =
        let l = ltb-false v blanks b in
        let m = ltb-true w blanks c in
        absurd (some w t q 0x23 (decimal (v - blanks) ++ (p ∷ u)) (omega arith) j (omega arith) (sym (rw (value_blank v l, value_constant w m) at e)))
    go false false b c e =
        let l = ltb-false v blanks b in
        let m = ltb-false w blanks c in
        let d : 0x23 ∷ (decimal (v - blanks) ++ (p ∷ u)) ≡ 0x23 ∷ (decimal (w - blanks) ++ (q ∷ t)) = rw (value_blank v l, value_blank w m) at e in
        let r = numbers (v - blanks) (w - blanks) u t p q (omega arith) (omega arith) i j (cc) in
        (omega (arith, r.0), r.1)

-- what follows a number in a line: the values and the line feed
abbrev tail : List ℕ → List ℕ
tail vs = values_text vs ++ (0x0a ∷ [])

pub record Starts (l : List ℕ) : Type 0 where
  pub byte : ℕ
  pub rest : List ℕ
  pub whole : l ≡ byte ∷ rest
  pub low : byte < 48

tail_starts : (vs : List ℕ) → Starts (tail vs)
unfolding values_text
tail_starts [] = record { byte = 0x0a; rest = []; whole = refl; low = omega arith }
tail_starts (v ∷ vs) = record { byte = 0x20; rest = _; whole = refl; low = omega arith }

tails : (vs ws : List ℕ) → ((v : ℕ) → Memᴰ v vs → Word v) → ((w : ℕ) → Memᴰ w ws → Word w) → tail vs ≡ tail ws → vs ≡ ws
unfolding values_text
tails [] [] f g e = refl
tails [] (w ∷ ws) f g e = let z : ◌≡◌ {A = ℕ} 0x0a 0x20 = cc in absurd (omega arith)
tails (v ∷ vs) [] f g e = let z : ◌≡◌ {A = ℕ} 0x20 0x0a = cc in absurd (omega arith)
tails (v ∷ vs) (w ∷ ws) f g e =
    let a = tail_starts vs in
    let b = tail_starts ws in
    let d : (value_text v ++ values_text vs) ++ (0x0a ∷ []) ≡ (value_text w ++ values_text ws) ++ (0x0a ∷ []) = cc in
    let c : value_text v ++ (a.byte ∷ a.rest) ≡ value_text w ++ (b.byte ∷ b.rest) =
    ap (λ l. value_text v ++ l) (sym a.whole) ∙ (sym (append_assoc (value_text v) (values_text vs) (0x0a ∷ [])) ∙ (d ∙ (append_assoc (value_text w) (values_text ws) (0x0a ∷ []) ∙ ap (λ l. value_text w ++ l) b.whole))) in
    let r = values v w a.rest b.rest a.byte b.byte (f v (Memᴰ.head refl)) (g w (Memᴰ.head refl)) a.low b.low c in
    ap (λ x. x ∷ vs) r.0 ∙ ap (λ l. w ∷ l) (tails vs ws (λ x m. f x (Memᴰ.tail m)) (λ x m. g x (Memᴰ.tail m)) (a.whole ∙ (r.1 ∙ sym b.whole)))

-- two facts with the same line are the same
pub line_injective : (r s : ℕ) (vs ws : List ℕ) → r < ten_digits → s < ten_digits → ((v : ℕ) → Memᴰ v vs → Word v) → ((w : ℕ) → Memᴰ w ws → Word w)
    → line (fact r vs) ≡ line (fact s ws) → fact r vs ≡ fact s ws
line_injective r s vs ws h k f g e =
    let a = tail_starts vs in
    let b = tail_starts ws in
    let d : decimal r ++ (a.byte ∷ a.rest) ≡ decimal s ++ (b.byte ∷ b.rest) =
    ap (λ l. decimal r ++ l) (sym a.whole) ∙ (sym (line_pieces r vs) ∙ (e ∙ (line_pieces s ws ∙ ap (λ l. decimal s ++ l) b.whole))) in
    let n = numbers r s a.rest b.rest a.byte b.byte h k a.low b.low d in
    ap (λ x. fact x vs) n.0 ∙ ap (fact s) (tails vs ws f g (a.whole ∙ (n.1 ∙ sym b.whole)))
