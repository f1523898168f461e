-- Functions from numbers, changed at one number, and sums over the numbers below a bound.
use Rattle.std.specs.Prelude.{ℕ, zero, suc, ◌+◌, ◌-◌, ◌==◌, min, if◌then◌else◌}

-- the function that is x at p, and f elsewhere
abbrev pub with_value_at : {X : Type 0} → (ℕ → X) → ℕ → X → ℕ → X
with_value_at f p x q = if q == p then x else f q

-- the sum of f over the numbers below n
abbrev pub sum_below : ℕ → (ℕ → ℕ) → ℕ
sum_below zero f = 0
sum_below (suc n) f = f n + sum_below n f

-- 1 where x is below n, else 0
abbrev pub one_if_below : ℕ → ℕ → ℕ
one_if_below x n = min 1 (n - x)
