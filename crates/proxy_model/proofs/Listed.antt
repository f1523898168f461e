-- What is counted in a list, as what is counted of its function from places.
use Rattle.std.proofs.Common.{◌≡◌, ℕ, zero, suc, ◌+◌, ◌≤◌, Bool, cond, count_by, List, ◌∷◌, [], ◌++◌, length, get_or, take, add-one, refl, sym, ap, arith, ◌∙◌}
use Rattle.std.proofs.lemmas.List.{take_more}
use Rattle.std.proofs.lemmas.List.Sums.{sum_by_push}
use Rattle.std.proofs.Math.Seq.{take-length}
use Rattle.proxy_laws.specs.Maps.{bit, count_below}

-- the first members
count_by-take : {X : Type 0} (test : X → Bool) (xs : List X) (d : X) (m : ℕ) → m ≤ length xs → count_by test (take m xs) ≡ count_below m (λ k. test (get_or xs k d))
count_by-take test xs d zero near = refl
count_by-take {X} test xs d (suc m) near =
    let more : take (suc m) xs ≡ take m xs ++ get_or xs m d ∷ [] = rw (← add-one m) (take_more xs m d (omega arith)) in
    ap (count_by test) more ∙ (sum_by_push (λ (x : X). cond (test x) 1 0) (take m xs) (get_or xs m d) ∙ ap (λ (n : ℕ). n + bit (test (get_or xs m d))) (count_by-take test xs d m (omega arith)))

pub count_by_places : {X : Type 0} (test : X → Bool) (xs : List X) (d : X) (n : ℕ) → length xs ≡ n → count_by test xs ≡ count_below n (λ k. test (get_or xs k d))
count_by_places test xs d n len =
    sym (ap (count_by test) (take-length xs)) ∙ (count_by-take test xs d (length xs) (omega arith) ∙ ap (λ (m : ℕ). count_below m (λ k. test (get_or xs k d))) len)
