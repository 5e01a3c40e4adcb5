-- Published examples with the verdict that their document gives them, and their ranks, by computing the definitions. Assumes nothing.
use Prim.Native.Nat.{ℕ, ◌-◌}
use mathlib.Core.Path.{◌≡◌, refl}
use mathlib.Core.Bool.{Bool, true, false}
use mathlib.Core.List.{List, [], ◌∷◌, ◌++◌, map}
use lib.ListN.{length, replicate}
use Rattle.model.specs.Rules.{var, Atom, atom, Rule, tuple, equation}
use Rattle.model.specs.Edges.{edges}
use Rattle.model.specs.Ranks.{acyclic, generations, positions, rank_words}

-- a verdict, its generations and the rank words
pub record Judged : Type 0 where
  pub verdict : Bool
  pub depth : ℕ
  pub words : List ℕ

abbrev pub judged : List Rule → Judged
judged rules = record { verdict = acyclic positions (edges rules); depth = generations positions (edges rules); words = rank_words (edges rules) }

-- what is expected: the words of relations 0, 1, .. and zeros past them
abbrev pub expect : Bool → ℕ → List ℕ → Judged
expect verdict depth words = record { verdict = verdict; depth = depth; words = words ++ replicate (positions - length words) 0 }

-- the eight words of a relation of one or two places
abbrev ones : ℕ → List ℕ
ones a = a ∷ replicate 7 0

abbrev twos : ℕ → ℕ → List ℕ
twos a b = a ∷ b ∷ replicate 6 0

abbrev endless : ℕ
endless = 65535

-- one- and two-place atoms over variables
abbrev one : ℕ → ℕ → Atom
one r x = atom r (var x ∷ [])

abbrev two : ℕ → ℕ → ℕ → Atom
two r x y = atom r (var x ∷ var y ∷ [])

-- N(x) → ∃y E(x,y), with N, E, S as relations 0, 1, 2
abbrev grows : Rule
grows = tuple (one 0 0 ∷ []) (two 1 0 1 ∷ [])

-- 1.1: and S(y), E(x,y) → N(y)
abbrev pub example_1_1 : List Rule
example_1_1 = grows ∷ tuple (one 2 1 ∷ two 1 0 1 ∷ []) (one 0 1 ∷ []) ∷ []

-- 1.3: and S(x), E(x,y) → N(y)
abbrev pub example_1_3 : List Rule
example_1_3 = grows ∷ tuple (one 2 0 ∷ two 1 0 1 ∷ []) (one 0 1 ∷ []) ∷ []

-- 1.4: and E(x,y) → N(y); N(x), N(y) → x = y
abbrev pub example_1_4 : List Rule
example_1_4 = grows ∷ tuple (two 1 0 1 ∷ []) (one 0 1 ∷ []) ∷ equation (one 0 0 ∷ one 0 1 ∷ []) 0 1 ∷ []

-- 3.10: E(x,y), E(y,x) → ∃z∃w E(y,z), E(z,w), E(w,x)
abbrev pub example_3_10 : List Rule
example_3_10 = tuple (two 0 0 1 ∷ two 0 1 0 ∷ []) (two 0 1 2 ∷ two 0 2 3 ∷ two 0 3 0 ∷ []) ∷ []

-- 3.11 without its first rule: N(x) → E(x,x); E(x,y), E(x,x) → N(x)
abbrev pub example_3_11 : List Rule
example_3_11 = tuple (one 0 0 ∷ []) (two 1 0 0 ∷ []) ∷ tuple (two 1 0 1 ∷ two 1 0 0 ∷ []) (one 0 0 ∷ []) ∷ []

-- 3.15: S(x), E(x,y), E(y,z) → ∃w E(w,x); E(x,y), E(y,z) → S(z), with S, E as relations 0, 1
abbrev pub example_3_15 : List Rule
example_3_15 = tuple (one 0 0 ∷ two 1 0 1 ∷ two 1 1 2 ∷ []) (two 1 3 0 ∷ []) ∷ tuple (two 1 0 1 ∷ two 1 1 2 ∷ []) (one 0 2 ∷ []) ∷ []

-- 3.17: S(x), E(x,y) → E(y,x); S(x), E(x,y) → ∃z E(y,z), E(z,x), with S, E as relations 0, 1
abbrev pub example_3_17 : List Rule
example_3_17 = tuple (one 0 0 ∷ two 1 0 1 ∷ []) (two 1 1 0 ∷ []) ∷ tuple (one 0 0 ∷ two 1 0 1 ∷ []) (two 1 1 2 ∷ two 1 2 0 ∷ []) ∷ []

-- D(x) → ∃y E(x,y); E(x,y) → ∃z F(y,z), with D, E, F as relations 0, 1, 2
abbrev pub example_chain : List Rule
example_chain = grows ∷ tuple (two 1 0 1 ∷ []) (two 2 1 2 ∷ []) ∷ []

pub record Example : Type 0 where
  pub rules : List Rule
  pub expected : Judged

abbrev is : List Rule → Judged → Example
is rules expected = record { rules = rules; expected = expected }

-- only the part of 3.11 and the chain are weakly acyclic
abbrev pub examples : List Example
examples =
    is example_1_1 (expect false 0 (ones endless ++ twos endless endless))
    ∷ is example_1_3 (expect false 0 (ones endless ++ twos endless endless))
    ∷ is example_1_4 (expect false 0 (ones endless ++ twos endless endless))
    ∷ is example_3_10 (expect false 0 (twos endless endless))
    ∷ is example_3_11 (expect true 0 [])
    ∷ is example_3_15 (expect false 0 (ones endless ++ twos endless endless))
    ∷ is example_3_17 (expect false 0 (ones 0 ++ twos endless endless))
    ∷ is example_chain (expect true 2 (ones 0 ++ (twos 0 1 ++ twos 1 2)))
    ∷ []

pub examples_hold : map (λ (x : Example). judged x.rules) examples ≡ map (λ (x : Example). x.expected) examples
unfolding acyclic generations rank_words
examples_hold = refl
