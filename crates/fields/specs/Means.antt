-- What each answer of a field reader means: the paper's value with the place after it, or the refusal. Assumes nothing.
use Rattle.std.specs.Prelude.{ℕ, Result, Ok, Err, leb}
use Rattle.model.specs.Job.{Got, got, refused, after, pick}
use Rattle.fields.specs.declared.Cursor.{Cursor}
use Rattle.fields.specs.declared.Fault.{Fault}
use Rattle.fields.specs.declared.Fault.TheVariants.{Short, Long, Ends, Mark, Version, Limit, Kind, Relation, Side, Rest}
use Rattle.fields.specs.declared.Refusal.{Refusal}

-- the paper's number of a fault
abbrev pub number_of : Fault → ℕ
number_of Short = 1
number_of Long = 2
number_of Ends = 3
number_of Mark = 4
number_of Version = 5
number_of Limit = 6
number_of Kind = 7
number_of Relation = 8
number_of Side = 9
number_of Rest = 10

abbrev pub refused_at : Fault → ℕ → Refusal
refused_at f p = record { number = number_of f; place = p }

-- what was read, as f says it, with the next place; or the refusal
abbrev pub of_read : {A B : Type 0} → (A → B) → Result (A × Cursor) Refusal → Got B
of_read f (Ok x) = got (f x.0) x.1.at
of_read f (Err r) = refused r.number r.place

-- what stands beside a step, with the next place; or the refusal
abbrev pub of_step : {A : Type 0} → Result Cursor Refusal → A → Got A
of_step (Ok c) a = got a c.at
of_step (Err r) a = refused r.number r.place

-- a number that was read, where it is from lo to hi: refusal 6 at its start otherwise
unfoldable pub within : ℕ → ℕ → ℕ → Got ℕ → Got ℕ
within lo hi start g =
    after g (λ x p. after (pick (leb lo x) (got (tt {0}) p) (refused 6 start)) (λ u q. after (pick (leb x hi) (got (tt {0}) q) (refused 6 start)) (λ v r. got x r)))

-- what is kept of an answer: a value of what was read, nothing where it was refused
abbrev pub held : {A B : Type 0} → B → (A → B) → Got A → B
held none f (got a p) = f a
held none f (refused n p) = none
