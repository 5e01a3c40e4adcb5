-- A graph of plain and special edges over positions: paths, weak acyclicity, ranks and generations, as published. Assumes nothing.
use Rattle.std.specs.Prelude.{◌≡◌, ◌⊎◌, ℕ, suc, ◌≤◌, ◌<◌}
use mathlib.Core.List.{List, Memᴰ}

-- an edge from a position to a position, plain or special
pub data Edge : Type 0 where
  plain : ℕ → ℕ → Edge
  special : ℕ → ℕ → Edge

abbrev pub source : Edge → ℕ
source (plain a b) = a
source (special a b) = a

abbrev pub target : Edge → ℕ
target (plain a b) = b
target (special a b) = b

-- a path from u to v with n special edges
pub data Path (g : List Edge) (u : ℕ) : ℕ → ℕ → Type 0 where
  stay : Path g u u 0
  along : {v w n : ℕ} → Path g u v n → Memᴰ (plain v w) g → Path g u w n
  across : {v w n : ℕ} → Path g u v n → Memᴰ (special v w) g → Path g u w (suc n)

-- weakly acyclic: no cycle holds a special edge
abbrev pub WeaklyAcyclic : List Edge → Type 0
WeaklyAcyclic g = (u n : ℕ) → Path g u u (suc n) → ⊥

-- k is the largest number of special edges on a path that ends at v
abbrev pub IsRank : List Edge → ℕ → ℕ → Type 0
IsRank g v k = ((u : ℕ) × Path g u v k) × ((u m : ℕ) → Path g u v m → m ≤ k)

-- a path that ends at v with n special edges or more
abbrev pub Reaches : List Edge → ℕ → ℕ → Type 0
Reaches g v n = (u : ℕ) × (m : ℕ) × Path g u v m × (n ≤ m)

-- there is no largest number
abbrev pub Infinite : List Edge → ℕ → Type 0
Infinite g v = (n : ℕ) → Reaches g v n

-- every edge runs between positions below n
abbrev pub Within : ℕ → List Edge → Type 0
Within n g = (e : Edge) → Memᴰ e g → (source e < n) × (target e < n)

-- k is the largest finite rank of the positions below n, or 0 if no position has one
abbrev pub IsGenerations : ℕ → List Edge → ℕ → Type 0
IsGenerations n g k =
    ((v j : ℕ) → v < n → IsRank g v j → j ≤ k) × (((v : ℕ) × (v < n) × IsRank g v k) ⊎ ((k ≡ 0) × ((v : ℕ) → v < n → Infinite g v)))
