-- Functions from numbers, changed at one number, and sums over the numbers below a bound.
use Rattle.std.specs.Prelude.{ℕ, zero, suc, ◌+◌, ◌==◌, Bool, true, ◌&&◌, if◌then◌else◌}

-- the function that is x at p, and f elsewhere
abbrev pub upd : {X : Type 0} → (ℕ → X) → ℕ → X → ℕ → X
upd f p x q = if q == p then x else f q

-- 1 where the test passes, else 0
abbrev pub bit : Bool → ℕ
bit b = if b then 1 else 0

-- the sum of f over the numbers below n
abbrev pub sum_below : ℕ → (ℕ → ℕ) → ℕ
sum_below zero f = 0
sum_below (suc n) f = sum_below n f + f n

-- how many numbers below n pass the test
abbrev pub count_below : ℕ → (ℕ → Bool) → ℕ
count_below n test = sum_below n (λ k. bit (test k))

-- each number below n passes the test
abbrev pub all_below : ℕ → (ℕ → Bool) → Bool
all_below zero test = true
all_below (suc n) test = test n && all_below n test
