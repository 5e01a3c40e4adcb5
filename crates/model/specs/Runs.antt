-- The twelve runs of the rules paper, as one table: how each ends, its verdict, generations and ranks. Assumes nothing.
use Rattle.std.specs.Prelude.{ℕ, ◌≡◌, Bool, true, false, List, [], ◌∷◌, ◌++◌, map, replicate}
use Rattle.model.specs.Values.{blank}
use Rattle.model.specs.Facts.{Fact, fact}
use Rattle.model.specs.Rules.{var, Atom, atom, Rule, tuple, equation}
use Rattle.model.specs.Step.{State}
use Rattle.model.specs.Edges.{edges}
use Rattle.model.specs.Ranks.{positions, acyclic, generations, rank_words}
use Rattle.model.specs.Chase.{done, failed, steps, Ended, ended, chase}

-- what a run shows: its end, the verdict, the generations and the rank words
pub record Shown : Type 0 where
  pub ends : Ended
  pub verdict : Bool
  pub gens : ℕ
  pub words : List ℕ

-- a run: rules, budget and facts, and what it has to show
pub record Run : Type 0 where
  pub rules : List Rule
  pub budget : ℕ
  pub facts : List Fact
  pub shows : Shown

-- the first of the rank words; the others are 0
abbrev zeros : ℕ → List ℕ → List ℕ
zeros n ws = ws ++ replicate n 0

abbrev shown : Ended → Bool → ℕ → List ℕ → Shown
shown e v g ws = record { ends = e; verdict = v; gens = g; words = ws }

abbrev given : List Rule → ℕ → List Fact → Shown → Run
given rules budget facts s = record { rules = rules; budget = budget; facts = facts; shows = s }

abbrev at : List Fact → ℕ → State
at facts next = record { facts = facts; next = next }

-- relations 0, 1 and 2: N, E and S; in the runs E to J relation 0 is R
abbrev N : ℕ → Fact
N a = fact 0 (a ∷ [])

abbrev E : ℕ → ℕ → Fact
E a b = fact 1 (a ∷ b ∷ [])

abbrev S : ℕ → Fact
S a = fact 2 (a ∷ [])

abbrev R : ℕ → ℕ → Fact
R a b = fact 0 (a ∷ b ∷ [])

-- one- and two-place atoms over variables
abbrev one : ℕ → ℕ → Atom
one r x = atom r (var x ∷ [])

abbrev two : ℕ → ℕ → ℕ → Atom
two r x y = atom r (var x ∷ var y ∷ [])

abbrev example11 : List Rule
example11 = tuple (one 0 0 ∷ []) (two 1 0 1 ∷ []) ∷ tuple (one 2 1 ∷ two 1 0 1 ∷ []) (one 0 1 ∷ []) ∷ []

abbrev endless : List Rule
endless = tuple (one 0 0 ∷ []) (two 1 0 1 ∷ []) ∷ tuple (two 1 0 1 ∷ []) (one 0 1 ∷ []) ∷ []

abbrev functional : List Rule
functional = equation (two 0 0 1 ∷ two 0 0 2 ∷ []) 1 2 ∷ []

abbrev again : List Rule
again = tuple (two 0 0 1 ∷ []) (two 0 0 2 ∷ []) ∷ []

abbrev chain : List Rule
chain = tuple (two 0 0 1 ∷ []) (two 0 1 2 ∷ []) ∷ []

abbrev seed : List Rule
seed = tuple [] (one 2 0 ∷ two 1 0 1 ∷ []) ∷ []

-- the rank words: all 0; N and E infinite and S 0; R 0 and 1; R infinite
abbrev flat_ranks : List ℕ
flat_ranks = zeros 512 []

abbrev ranks_ne : List ℕ
ranks_ne = zeros 502 (65535 ∷ 0 ∷ 0 ∷ 0 ∷ 0 ∷ 0 ∷ 0 ∷ 0 ∷ 65535 ∷ 65535 ∷ [])

abbrev ranks01 : List ℕ
ranks01 = zeros 510 (0 ∷ 1 ∷ [])

abbrev ranks_r : List ℕ
ranks_r = zeros 510 (65535 ∷ 65535 ∷ [])

abbrev pub twelve : List Run
twelve =
    given example11 10 (E 2 1 ∷ S 1 ∷ []) (shown (ended done 2 (at (N 1 ∷ E 1 (blank 0) ∷ E 2 1 ∷ S 1 ∷ []) 1)) false 0 ranks_ne)
    ∷ given example11 1 (E 2 1 ∷ S 1 ∷ []) (shown (ended steps 1 (at (N 1 ∷ E 2 1 ∷ S 1 ∷ []) 0)) false 0 ranks_ne)
    ∷ given example11 2 (E 2 1 ∷ S 1 ∷ []) (shown (ended done 2 (at (N 1 ∷ E 1 (blank 0) ∷ E 2 1 ∷ S 1 ∷ []) 1)) false 0 ranks_ne)
    ∷ given endless 4 (E 2 1 ∷ S 1 ∷ [])
    (shown (ended steps 4 (at (N 1 ∷ N (blank 0) ∷ E 1 (blank 0) ∷ E 2 1 ∷ E (blank 0) (blank 1) ∷ S 1 ∷ []) 2)) false 0 ranks_ne)
    ∷ given functional 10 (R 1 (blank 3) ∷ R 1 5 ∷ []) (shown (ended done 1 (at (R 1 5 ∷ []) 4)) true 0 flat_ranks)
    ∷ given functional 0 (R 1 5 ∷ R 1 6 ∷ []) (shown (ended failed 0 (at (R 1 5 ∷ R 1 6 ∷ []) 0)) true 0 flat_ranks)
    ∷ given functional 10 (R 1 (blank 4) ∷ R 1 (blank 3) ∷ []) (shown (ended done 1 (at (R 1 (blank 3) ∷ []) 5)) true 0 flat_ranks)
    ∷ given again 0 (R 1 2 ∷ []) (shown (ended done 0 (at (R 1 2 ∷ []) 0)) true 1 ranks01)
    ∷ given chain 2 (R 1 2 ∷ []) (shown (ended steps 2 (at (R 1 2 ∷ R 2 (blank 0) ∷ R (blank 0) (blank 1) ∷ []) 2)) false 0 ranks_r)
    ∷ given chain 10 (R 1 1 ∷ []) (shown (ended done 0 (at (R 1 1 ∷ []) 0)) false 0 ranks_r)
    ∷ given seed 10 [] (shown (ended done 1 (at (E (blank 0) (blank 1) ∷ S (blank 0) ∷ []) 2)) true 0 flat_ranks)
    ∷ given [] 10 [] (shown (ended done 0 (at [] 0)) true 0 flat_ranks)
    ∷ []

-- what the definitions make of a run
abbrev pub made : Run → Shown
made x =
    shown (chase x.rules x.budget x.facts) (acyclic positions (edges x.rules)) (generations positions (edges x.rules))
    (rank_words (edges x.rules))

-- every run shows what the paper says: A to L in order
abbrev pub TwelveRuns : Type 0
TwelveRuns = map made twelve ≡ map (λ (x : Run). x.shows) twelve
