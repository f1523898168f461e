-- What a step leaves of a world's sizes.
use Rattle.std.proofs.Common.{◌≡◌, ℕ, arith, ◌∙◌}
use Rattle.std.specs.Prelude.{count_by}
use Rattle.proxy_laws.specs.declared.records.Mark.{Mark}
use Rattle.proxy_laws.specs.Lists.{is_by}
use Rattle.proxy_laws.specs.Worlds.{WorldState}
use Rattle.post_core.specs.Rule.{IsSized}

-- a world with as many senders, places and marks
pub sized_like : {J M : Type 0} (meaning : J → M) (suits : ℕ → Mark → M → Type 0) (senders places : ℕ) (w w' : WorldState) → w'.places ≡ w.places → w'.senders ≡ w.senders → ((p s : ℕ) → count_by (is_by s) (w'.sent p) ≡ count_by (is_by s) (w.sent p)) → IsSized meaning suits senders places w → IsSized meaning suits senders places w'
sized_like meaning suits senders places w w' same_places same_senders same_marks o = record {
  places_are = same_places ∙ o.places_are;
  senders_are = same_senders ∙ o.senders_are;
  some_place = o.some_place;
  few_places = o.few_places;
  few_senders = o.few_senders;
  few_marks = λ p s. let few = o.few_marks p s in let same = same_marks p s in omega arith;
}
