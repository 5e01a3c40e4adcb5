-- Laws of decimal digits: how they are made, how many there are, and that they read back as the number. Assumes nothing.
use Prim.Native.Nat.{ℕ, zero, suc, ◌+◌, ◌*◌, ◌-◌, ◌/◌, ◌%◌, ◌^◌, ◌≤◌, ◌<◌}
use native.Mathlib.Nat.{pow-succ'}
use native.Mathlib.Omega.{arith}
use mathlib.Core.Path.{◌≡◌, refl, sym, ap, ◌∙◌}
use mathlib.Core.Bool.{Bool, true, false}
use mathlib.Core.Logic.{⊎_elim}
use mathlib.Core.List.Memᴰ
use mathlib.Core.List.{List, [], ◌∷◌, ◌++◌, Memᴰ}
use lib.ListN.{length, length-append, take, drop, get_or, get_or-append}
use lib.Seq.{drop-length, drop-append-le}
use lib.Dec.{ltb}
use borrow.Author.Tests.{lt-ltb, le-ltb, ltb-true, ltb-false}
use Rattle.std.specs.Fmt as all
use Rattle.std.proofs.lemmas.Fmt.{decimal_digit, decimal_step}
use Rattle.std.proofs.lemmas.List.{take_rest}
use Rattle.model.specs.Lines.{digits, decimal}
use Rattle.text.specs.Reads.{value_from, value_of}

pub digits_one : (n x : ℕ) → x < 10 → digits (suc n) x ≡ (48 + x) ∷ []
unfolding digits
digits_one n x h = rw (lt-ltb x 10 h, digits)

pub digits_more : (n x : ℕ) → 10 ≤ x → digits (suc n) x ≡ digits n (x / 10) ++ ((48 + x % 10) ∷ [])
unfolding digits
digits_more n x h = rw (le-ltb x 10 h, digits)

-- what holds of a number below ten, and of a number if it holds of its tenth, holds of every number's digits
pub by_digits : (P : ℕ → ℕ → List ℕ → Type 0) → ((x : ℕ) → P 0 x []) → ((n x : ℕ) → x < 10 → P (suc n) x ((48 + x) ∷ []))
    → ((n x : ℕ) (ds : List ℕ) → 10 ≤ x → P n (x / 10) ds → P (suc n) x (ds ++ ((48 + x % 10) ∷ []))) → (n x : ℕ) → P n x (digits n x)
unfolding digits
by_digits P none one more zero x = none x
by_digits P none one more (suc n) x = go (ltb x 10) refl (by_digits P none one more n (x / 10))
  where
    go : (b : Bool) → ltb x 10 ≡ b → P n (x / 10) (digits n (x / 10)) → P (suc n) x (digits (suc n) x)
    go true e p = rw (digits_one n x (ltb-true x 10 e)) (one n x (ltb-true x 10 e))
    go false e p = rw (digits_more n x (ltb-false x 10 e)) (more n x (digits n (x / 10)) (ltb-false x 10 e) p)

tenth : (x n : ℕ) → x < 10 ^ suc n → x / 10 < 10 ^ n
tenth x n h = let e : 10 ^ suc n ≡ 10 * 10 ^ n = pow-succ' 10 n in omega arith

-- at most as many digits as are asked for
pub digits_many : (n x : ℕ) → length (digits n x) ≤ n
digits_many =
    by_digits (λ n x ds. length ds ≤ n) (λ x. omega arith) (λ n x h. omega arith)
    (λ n x ds h p. omega (arith, length-append ds ((48 + x % 10) ∷ [])))

-- and no more than the number needs
pub digits_few : (n x k : ℕ) → x < 10 ^ suc k → length (digits n x) ≤ suc k
digits_few =
    by_digits (λ n x ds. (k : ℕ) → x < 10 ^ suc k → length ds ≤ suc k) (λ x k h. omega arith) (λ n x h k b. omega arith) few
  where
    few : (n x : ℕ) (ds : List ℕ) → 10 ≤ x → ((k : ℕ) → x / 10 < 10 ^ suc k → length ds ≤ suc k) → (k : ℕ) → x < 10 ^ suc k
        → length (ds ++ ((48 + x % 10) ∷ [])) ≤ suc k
    few n x ds h p zero b = omega arith
    few n x ds h p (suc k) b = omega (arith, p k (tenth x (suc k) b), length-append ds ((48 + x % 10) ∷ []))

value_from_append : (y : ℕ) (ds : List ℕ) (d : ℕ) → value_from y (ds ++ (d ∷ [])) ≡ value_from y ds * 10 + (d - 48)
unfolding value_from
value_from_append y [] d = refl
value_from_append y (e ∷ ds) d = value_from_append (y * 10 + (e - 48)) ds d

-- the digits read back as the number
pub digits_value : (n x : ℕ) → x < 10 ^ n → value_of (digits n x) ≡ x
unfolding value_from
digits_value = by_digits (λ n x ds. x < 10 ^ n → value_of ds ≡ x) none one more
  where
    none : (x : ℕ) → x < 10 ^ 0 → value_of [] ≡ x
    none x b = omega arith

    one : (n x : ℕ) → x < 10 → x < 10 ^ suc n → value_of ((48 + x) ∷ []) ≡ x
    one n x h b = omega arith

    more : (n x : ℕ) (ds : List ℕ) → 10 ≤ x → (x / 10 < 10 ^ n → value_of ds ≡ x / 10) → x < 10 ^ suc n
        → value_of (ds ++ ((48 + x % 10) ∷ [])) ≡ x
    more n x ds h p b = omega (arith, value_from_append 0 ds (48 + x % 10), p (tenth x n b))

-- the first digit is 0 of the number 0 alone
pub digits_lead : (n x : ℕ) → 0 < n → x < 10 ^ n → (0 < length (digits n x)) × (get_or (digits n x) 0 0 ≡ 48 → x ≡ 0)
digits_lead =
    by_digits (λ n x ds. 0 < n → x < 10 ^ n → (0 < length ds) × (get_or ds 0 0 ≡ 48 → x ≡ 0)) (λ x h b. absurd (omega arith))
    (λ n x h k b. (omega arith, λ e. omega arith)) lead
  where
    lead : (n x : ℕ) (ds : List ℕ) → 10 ≤ x → (0 < n → x / 10 < 10 ^ n → (0 < length ds) × (get_or ds 0 0 ≡ 48 → x / 10 ≡ 0)) → 0 < suc n
        → x < 10 ^ suc n → (0 < length (ds ++ ((48 + x % 10) ∷ []))) × (get_or (ds ++ ((48 + x % 10) ∷ [])) 0 0 ≡ 48 → x ≡ 0)
    lead zero x ds h p k b = absurd (omega arith)
    lead (suc n) x ds h p k b =
        let q = p (omega arith) (tenth x (suc n) b) in
        (omega (arith, length-append ds ((48 + x % 10) ∷ [])), λ e. absurd (omega (arith, q.1 (sym (get_or-append ds ((48 + x % 10) ∷ []) 0 0 q.0) ∙ e))))

-- every digit is one of ten bytes
pub digits_bytes : (n x b : ℕ) → Memᴰ b (digits n x) → (48 ≤ b) × (b < 58)
digits_bytes =
    by_digits (λ n x ds. (b : ℕ) → Memᴰ b ds → (48 ≤ b) × (b < 58)) (λ x b m. absurd (Memᴰ.not-nil m))
    (λ n x h b m. ten x b h (Memᴰ.eq_of_singleton m))
    (λ n x ds h p b m. ⊎_elim (p b) (λ l. ten (x % 10) b (omega arith) (Memᴰ.eq_of_singleton l)) (Memᴰ.append_cases ds m))
  where
    ten : (d b : ℕ) → d < 10 → b ≡ 48 + d → (48 ≤ b) × (b < 58)
    ten d b h e = (omega arith, omega arith)

-- a number of at most ten digits
abbrev pub ten_digits : ℕ
ten_digits = 10000000000

pub decimal_many : (x : ℕ) → length (decimal x) ≤ 10
unfolding decimal
decimal_many x = digits_many 10 x

pub decimal_few : (x k : ℕ) → x < 10 ^ suc k → length (decimal x) ≤ suc k
unfolding decimal
decimal_few x k h = digits_few 10 x k h

pub decimal_value : (x : ℕ) → x < ten_digits → value_of (decimal x) ≡ x
unfolding decimal
decimal_value x h = digits_value 10 x h

-- two numbers with the same digits are the same
pub decimal_injective : (x y : ℕ) → x < ten_digits → y < ten_digits → decimal x ≡ decimal y → x ≡ y
decimal_injective x y h k e = sym (decimal_value x h) ∙ (ap value_of e ∙ decimal_value y k)

pub decimal_bytes : (x b : ℕ) → Memᴰ b (decimal x) → (48 ≤ b) × (b < 58)
unfolding decimal
decimal_bytes x b m = digits_bytes 10 x b m

pub decimal_some : (x : ℕ) → x < ten_digits → 0 < length (decimal x)
unfolding decimal
decimal_some x h = (digits_lead 10 x (omega arith) h).0

-- of one digit, of two and of three
pub decimal_one : (x : ℕ) → x < 10 → decimal x ≡ (48 + x) ∷ []
unfolding decimal
decimal_one x h = digits_one 9 x h

pub decimal_two : (x : ℕ) → 10 ≤ x → x < 100 → decimal x ≡ (48 + x / 10) ∷ (48 + x % 10) ∷ []
unfolding decimal
decimal_two x h k =
    let l : x / 10 < 10 = omega arith in
    digits_more 9 x h ∙ ap (λ ds. ds ++ ((48 + x % 10) ∷ [])) (digits_one 8 (x / 10) l)

pub decimal_three : (x : ℕ) → 100 ≤ x → x < 1000 → decimal x ≡ (48 + x / 100) ∷ (48 + x % 100 / 10) ∷ (48 + x % 100 % 10) ∷ []
unfolding decimal
decimal_three x h k =
    let m : 10 ≤ x = omega arith in
    let n : 10 ≤ x / 10 = omega arith in
    let l : x / 10 / 10 < 10 = omega arith in
    let hundreds : x / 10 / 10 ≡ x / 100 = omega arith in
    let tens : x / 10 % 10 ≡ x % 100 / 10 = omega arith in
    let ones : x % 10 ≡ x % 100 % 10 = omega arith in
    digits_more 9 x m
    ∙ (ap (λ ds. ds ++ ((48 + x % 10) ∷ [])) (digits_more 8 (x / 10) n ∙ ap (λ ds. ds ++ ((48 + x / 10 % 10) ∷ [])) (digits_one 7 (x / 10 / 10) l))
    ∙ rw (hundreds, tens, ones) refl)

-- they are the last ten of all its digits
last_digits : (n x : ℕ) → x < 2 ^ 64 → digits n x ≡ drop (length (all.decimal x) - n) (all.decimal x)
last_digits =
    by_digits (λ n x ds. x < 2 ^ 64 → ds ≡ drop (length (all.decimal x) - n) (all.decimal x)) (λ x h. let z : length (all.decimal x) - 0 ≡ length (all.decimal x) = omega arith in rw z (sym (drop-length (all.decimal x))))
    one more
  where
    one : (n x : ℕ) → x < 10 → x < 2 ^ 64 → (48 + x) ∷ [] ≡ drop (length (all.decimal x) - suc n) (all.decimal x)
    one n x h b = let z : 1 - suc n ≡ 0 = omega arith in rw (decimal_digit x h, z)

    more : (n x : ℕ) (ds : List ℕ) → 10 ≤ x → (x / 10 < 2 ^ 64 → ds ≡ drop (length (all.decimal (x / 10)) - n) (all.decimal (x / 10))) → x < 2 ^ 64
        → ds ++ ((48 + x % 10) ∷ []) ≡ drop (length (all.decimal x) - suc n) (all.decimal x)
    more n x ds h p b =
        let m : ℕ = length (all.decimal (x / 10)) in
        let e : length (all.decimal (x / 10) ++ ((48 + x % 10) ∷ [])) - suc n ≡ m - n = omega (arith, length-append (all.decimal (x / 10)) ((48 + x % 10) ∷ [])) in
        rw (decimal_step x h b, e, drop-append-le (m - n) (all.decimal (x / 10)) ((48 + x % 10) ∷ []) (omega arith)) (ap (λ l. l ++ ((48 + x % 10) ∷ [])) (p (omega arith)))

-- so is what the text of the whole number has from the place on that lies ten before its end
pub last_ten : (x k : ℕ) (text : List ℕ) → x < 2 ^ 64 → text ≡ all.decimal x → k ≡ length text - 10 → take (length text - k) (drop k text) ≡ decimal x
unfolding decimal
last_ten x k text h e f = take_rest text k ∙ (rw (f, e) (sym (last_digits 10 x h)))
