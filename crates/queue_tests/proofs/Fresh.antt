-- Places at which there is nothing yet, and an owner that has taken no job.
use Rattle.std.proofs.Common.{◌≡◌, ℕ, zero, suc, List, [], replicate, refl, arith, sym, ap}
use Rattle.std.specs.Prelude.{if◌then◌else◌, slice_get}
use Rattle.std.proofs.lemmas.List.{length-replicate}
use Rattle.post_core.specs.declared.views.Held.{Held}
use Rattle.post_core.specs.Kept.{listed}
use Rattle.mailbox.specs.Holding.{HoldsActive, is_open}

module _ {X : Type 0} where
  pub none_listed : (n p : ℕ) → listed (replicate {A = List X} n []) p ≡ []
  none_listed zero p = refl
  none_listed (suc n) zero = refl
  none_listed (suc n) (suc p) = none_listed n p

module _ {M : Type 0} where
  pub fresh_holds : (target places : ℕ) → HoldsActive target places (replicate {A = List (Held M)} places []) []
  fresh_holds target places = record {
    wide = (let long = length-replicate {A = List (Held M)} places [] in omega (arith, long));
    kept = tt;
    once = λ p n. ap (λ row. if is_open (slice_get row n) then 1 else 0) (sym (none_listed places p));
  }
