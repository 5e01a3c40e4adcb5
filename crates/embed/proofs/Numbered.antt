-- A refusal's number is 1 to 10, so the first of the numbers told is 0 only where the job was accepted. Assumes nothing.
use Prim.Native.Nat.{ℕ, zero, suc, ◌+◌}
use mathlib.Core.Path.{◌≡◌, refl, sym, ◌∙◌, subst}
use mathlib.Core.Bool.{Bool, true, false, ◌&&◌}
use mathlib.Core.List.{List}
use lib.ListN.{length, get_or}
use lib.Dec.{T, ltb, leb, eqb}
use Rattle.model.specs.Rules.{Atom, terms_of, variables, is_in}
use Rattle.model.specs.Job.{Got, got, refused, Reader, after, pick, unless, field, times, byte_at, half_at, word_at, Job, read_byte, read_half, read_word, read_count, read_number, read_up_to, read_variable, read_constant, read_term, read_relation, read_atom, read_side, read_tuple, read_equation, read_rule, read_blank, read_value, read_fact, read_mark, read_version, read_end, read_head, read_job, judged}
use Rattle.model.specs.Answer.{run_answer, run_job, verdict_answer, verdict_job}
use Rattle.embed.specs.Numbers.{run_numbers, verdict_numbers}
use Rattle.embed.specs.Told.{RunTold, VerdictTold}

-- a refusal has a number from 1 to 10
abbrev Numbered : {A : Type 0} → Got A → Type 0
Numbered (got a p) = Unit {0}
Numbered (refused n p) = T (leb 1 n && leb n 10)

abbrev Numbers : {A : Type 0} → Reader A → Type 0
Numbers r = (bs : List ℕ) (at : ℕ) → Numbered (r bs at)

-- the readers' forms keep that
next : {A B : Type 0} (g : Got A) (k : A → ℕ → Got B) → Numbered g → ((a : A) (p : ℕ) → Numbered (k a p)) → Numbered (after g k)
unfolding after
next (got a p) k h f = f a p
next (refused n p) k h f = h

either : {A : Type 0} (b : Bool) (x y : Got A) → Numbered x → Numbered y → Numbered (pick b x y)
unfolding pick
either true x y h k = h
either false x y h k = k

bytes : {A : Type 0} (n : ℕ) (v : List ℕ → ℕ → A) → Numbers (field n v)
bytes n v bs at = either (leb (at + n) (length bs)) (got (v bs at) (at + n)) (refused 3 at) tt tt

many : {A : Type 0} (n : ℕ) (r : Reader A) → Numbers r → Numbers (times n r)
unfolding times
many zero r h bs at = tt
many (suc n) r h bs at = next _ _ (h bs at) (λ x p. next _ _ (many n r h bs p) (λ xs q. tt))

test : (b : Bool) (n p : ℕ) → T (leb 1 n && leb n 10) → Numbers (unless b n p)
test b n p h bs at = either b (got tt at) (refused n p) tt h

-- each reader in turn
byte : Numbers read_byte
unfolding read_byte
byte = bytes 1 byte_at

half : Numbers read_half
unfolding read_half
half = bytes 2 half_at

word : Numbers read_word
unfolding read_word
word = bytes 4 word_at

count : (lo hi : ℕ) → Numbers (read_count lo hi)
unfolding read_count
count lo hi bs at =
    next _ _ (byte bs at) (λ x p. next _ _ (test (leb lo x) 6 at tt bs p) (λ u q. next _ _ (test (leb x hi) 6 at tt bs q) (λ v r. tt)))

number : (hi : ℕ) → Numbers (read_number hi)
unfolding read_number
number hi bs at = next _ _ (half bs at) (λ x p. next _ _ (test (leb x hi) 6 at tt bs p) (λ u q. tt))

up_to : (hi : ℕ) → Numbers (read_up_to hi)
unfolding read_up_to
up_to hi bs at = next _ _ (word bs at) (λ x p. next _ _ (test (leb x hi) 6 at tt bs p) (λ u q. tt))

term : Numbers read_term
unfolding read_term read_variable read_constant
term bs at =
    next _ _ (byte bs at) (λ tag p. either (eqb tag 0) _ _ (next _ _ (up_to 15 bs p) (λ x q. tt)) (either (eqb tag 1) _ _ (next _ _ (up_to 2147483647 bs p) (λ x q. tt)) tt))

relation : (ars : List ℕ) → Numbers (read_relation ars)
unfolding read_relation
relation ars bs at = next _ _ (byte bs at) (λ r p. next _ _ (test (ltb r (length ars)) 8 at tt bs p) (λ u q. tt))

atom : (ars : List ℕ) → Numbers (read_atom ars)
unfolding read_atom
atom ars bs at = next _ _ (relation ars bs at) (λ r p. next _ _ (many (get_or ars r 0) read_term term bs p) (λ ts q. tt))

side : (body : List Atom) → Numbers (read_side body)
unfolding read_side
side body bs at =
    next _ _ (count 0 15 bs at) (λ x p. next _ _ (test (is_in x (variables (terms_of body))) 9 at tt bs p) (λ u q. tt))

tuple : (ars : List ℕ) → Numbers (read_tuple ars)
unfolding read_tuple
tuple ars bs at =
    next _ _ (count 0 8 bs at) (λ b p. next _ _ (count 1 8 bs p) (λ h q. next _ _ (many b (read_atom ars) (atom ars) bs q) (λ body r. next _ _ (many h (read_atom ars) (atom ars) bs r) (λ head s. tt))))

equation : (ars : List ℕ) → Numbers (read_equation ars)
unfolding read_equation
equation ars bs at =
    next _ _ (count 1 8 bs at) (λ b p. next _ _ (many b (read_atom ars) (atom ars) bs p) (λ body q. next _ _ (side body bs q) (λ l r. next _ _ (side body bs r) (λ m s. tt))))

rule : (ars : List ℕ) → Numbers (read_rule ars)
unfolding read_rule
rule ars bs at =
    next _ _ (byte bs at) (λ k p. either (eqb k 1) _ _ (tuple ars bs p) (either (eqb k 2) _ _ (equation ars bs p) tt))

value : Numbers read_value
unfolding read_value read_blank
value bs at =
    next _ _ (byte bs at) (λ tag p. either (eqb tag 1) _ _ (up_to 2147483647 bs p) (either (eqb tag 2) _ _ (next _ _ (up_to 65535 bs p) (λ x q. tt)) tt))

fact : (ars : List ℕ) → Numbers (read_fact ars)
unfolding read_fact
fact ars bs at = next _ _ (relation ars bs at) (λ r p. next _ _ (many (get_or ars r 0) read_value value bs p) (λ vs q. tt))

mark : Numbers read_mark
unfolding read_mark
mark bs at =
    next _ _ (bytes 3 (λ b p. tt {0}) bs at) (λ m p. next _ _ (test (eqb (byte_at bs at) 0x43) 4 at tt bs p) (λ u q. next _ _ (test (eqb (byte_at bs (at + 1)) 0x48) 4 at tt bs q) (λ v r. test (eqb (byte_at bs (at + 2)) 0x53) 4 at tt bs r)))

version : Numbers read_version
unfolding read_version
version bs at = next _ _ (half bs at) (λ v p. test (eqb v 1) 5 at tt bs p)

end : Numbers read_end
unfolding read_end
end bs at = either (eqb at (length bs)) (got tt at) (refused 10 at) tt tt

head : Numbers read_head
unfolding read_head
head bs at =
    next _ _ (mark bs at) (λ m p. next _ _ (version bs p) (λ v q. next _ _ (number 4096 bs q) (λ b r. next _ _ (count 1 64 bs r) (λ n s. next _ _ (many n (read_count 1 8) (count 1 8) bs s) (λ ars t. tt)))))

job : Numbers read_job
unfolding read_job
job bs at =
    next _ _ (head bs at) (λ h p. next _ _ (count 0 64 bs p) (λ m q. next _ _ (many m (read_rule h.arities) (rule h.arities) bs q) (λ rs r. next _ _ (number 1024 bs r) (λ k s. next _ _ (many k (read_fact h.arities) (fact h.arities) bs s) (λ fs t. next _ _ (end bs t) (λ u v. tt))))))

pub judged_numbered : (short : Bool) (bs : List ℕ) → Numbered (judged short bs)
unfolding judged
judged_numbered short bs =
    either short (refused 1 0) _ tt (either (ltb 65535 (length bs)) (refused 2 0) _ tt (job bs 0))

-- 0 is told only where the job was accepted, if a refusal is told by its number
told_zero : (told : Got Job → ℕ) → ((n p : ℕ) → told (refused n p) ≡ n) → (g : Got Job) → Numbered g → told g ≡ 0 → (j : Job) × (p : ℕ) × (g ≡ got j p)
told_zero told by (got j p) h e = (j, p, refl)
told_zero told by (refused n p) h e = absurd (subst (λ (k : ℕ). T (leb 1 k && leb k 10)) (sym (by n p) ∙ e) h)

pub run_accepted : {job words ranks numbers words' ranks' : List ℕ} → RunTold job words ranks numbers words' ranks' → get_or numbers 0 0 ≡ 0
    → (j : Job) × (p : ℕ) × (run_job job words ranks ≡ got j p)
unfolding run_answer
run_accepted {job} {words} {ranks} t e =
    told_zero (λ g. get_or (run_numbers (run_answer g)) 0 0) (λ n p. refl) (run_job job words ranks) (judged_numbered _ job) (rw (sym t.ran.answers, sym t.told) e)

pub verdict_accepted : {job ranks numbers ranks' : List ℕ} → VerdictTold job ranks numbers ranks' → get_or numbers 0 0 ≡ 0
    → (j : Job) × (p : ℕ) × (verdict_job job ranks ≡ got j p)
unfolding verdict_answer
verdict_accepted {job} {ranks} t e =
    told_zero (λ g. get_or (verdict_numbers (verdict_answer g)) 0 0) (λ n p. refl) (verdict_job job ranks) (judged_numbered _ job) (rw (sym t.judged.answers, sym t.told) e)
