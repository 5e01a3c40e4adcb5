-- Ranks, verdict and generations of a graph, computed. Assumes nothing.
use Rattle.std.specs.Prelude.{Bool, true, false, ◌&&◌, List, [], ◌∷◌, map, ℕ, zero, suc, ◌+◌, ◌*◌, min, max, ltb, get_or, replicate}
use Rattle.model.specs.Graph.{Edge, plain, special, target}

abbrev pub value : List ℕ → ℕ → ℕ
value r v = get_or r v 0

-- r with at least x at b
abbrev pub raise : List ℕ → ℕ → ℕ → List ℕ
raise [] b x = []
raise (y ∷ ys) zero x = max y x ∷ ys
raise (y ∷ ys) (suc b) x = y ∷ raise ys b x

-- what an edge asks of its target, where no number goes beyond c
abbrev pub offer : ℕ → List ℕ → Edge → ℕ
offer c r (plain a b) = value r a
offer c r (special a b) = min c (suc (value r a))

abbrev pub relax : ℕ → List ℕ → Edge → List ℕ
relax c r e = raise r (target e) (offer c r e)

abbrev pub round : ℕ → List ℕ → List Edge → List ℕ
round c r [] = r
round c r (e ∷ g) = round c (relax c r e) g

abbrev pub sum : List ℕ → ℕ
sum [] = 0
sum (x ∷ xs) = x + sum xs

-- rounds while something changed, at most f of them
abbrev pub settle : ℕ → List Edge → ℕ → Bool → List ℕ → List ℕ
settle c g zero more r = r
settle c g (suc f) false r = r
settle c g (suc f) true r = let r' = round c r g in settle c g f (ltb (sum r) (sum r')) r'

-- the rank of each position below n; n stands for 'no largest'
unfoldable pub ranks : ℕ → List Edge → List ℕ
ranks n g = settle n g (suc (n * n)) true (replicate n 0)

-- all of them are finite
abbrev pub all_below : ℕ → List ℕ → Bool
all_below n [] = true
all_below n (x ∷ xs) = ltb x n && all_below n xs

-- the verdict
unfoldable pub acyclic : ℕ → List Edge → Bool
unfolding ranks
acyclic n g = all_below n (ranks n g)

abbrev pub pick : Bool → ℕ → ℕ → ℕ
pick true a b = a
pick false a b = b

-- the largest of those below n, 0 if there is none
abbrev pub largest : ℕ → List ℕ → ℕ
largest n [] = 0
largest n (x ∷ xs) = max (pick (ltb x n) x 0) (largest n xs)

unfoldable pub generations : ℕ → List Edge → ℕ
unfolding ranks
generations n g = largest n (ranks n g)

-- there are 64 relations of 8 places
abbrev pub positions : ℕ
positions = 512

-- a rank as a word: 65,535 if there is no largest
abbrev pub rank_word : ℕ → ℕ
rank_word x = pick (ltb x positions) x 65535

-- the rank words of all positions
unfoldable pub rank_words : List Edge → List ℕ
unfolding ranks
rank_words g = map rank_word (ranks positions g)
