-- Each step of a sender is its event, as the laws say it.
use Rattle.std.proofs.Common.{◌≡◌, ℕ, ◌+◌, ◌%◌, ◌^◌, [], ◌∷◌, length, slice_index, refl, arith, ap, sym, subst, ◌∙◌, append-nil}
use Rattle.std.proofs.lemmas.List.{length-map}
use mathlib.Core.Option.{some-ne-none}
use Rattle.atomic_table.specs.Table.{keeps, stepped}
use Rattle.proxy_laws.specs.declared.events.Event.TheVariants as event
use Rattle.proxy_laws.specs.declared.records.Mark.{Mark}
use Rattle.proxy_laws.proofs.Numbers.{free_of_word}
use Rattle.post_core.specs.declared.views.Entry.{Entry}
use Rattle.post_core.specs.declared.views.Fact.{Fact}
use Rattle.post_core.specs.declared.views.Fact.TheVariants as fact
use Rattle.post_core.specs.Kept.{listed}
use Rattle.post_core.specs.Rule.{IsEvent, IsSo}
use Rattle.post_core.specs.SendLaws.{AddsRef, DropsRef, GivesPlace, LoadsRefs, PutsJob, SwapsNote, TakesPlace}
use Rattle.post_core.specs.SendSteps.{none_seen}
use Rattle.post_core.specs.Views.{job_put, pass_of}
use Rattle.post_core.specs.Words.{put_at, refs_at}
use Rattle.post_core.proofs.Members.{one_at}
use Rattle.post_core.proofs.PutStep.{puts}
use Rattle.post_core.proofs.SendRefs.{adds_ref, drops_ref, few_refs, has_ref, loads_refs}
use Rattle.post_core.proofs.SendTurns.{gives_turn, takes_turn}
use Rattle.post_core.proofs.Sending.{swaps_note}

module _ {J M : Type 0} (meaning : J → M) (suits : ℕ → Mark → M → Type 0) where
  pub refs_are_loaded : LoadsRefs meaning suits
  refs_are_loaded senders places s r id v held at is idle = (
    (λ none. loads_refs meaning suits senders places s r id v held at is idle (slice_index s.words refs_at) refl (none_seen v) is.0 refl (fact.NoReferences ∷ []) refl
        (λ k f f_at. subst (λ (x : Fact M). IsSo r.world.places r.world.refs r.entries r.world.jobs x) (one_at fact.NoReferences k f f_at) (sym r.words.refs_is ∙ none))),
    (λ some_left. loads_refs meaning suits senders places s r id v held at is idle (slice_index s.words refs_at) refl v is.0 refl [] (sym (append-nil v.seen)) (λ k f f_at. absurd (some-ne-none f (sym f_at)))),
  )

  pub ref_is_added : AddsRef meaning suits
  ref_is_added senders places s r id v held at is idle some_left = adds_ref meaning suits senders places s r id v held at is idle (let a = r.words.refs_is in omega arith) _ (ap (λ n. n + 1) r.words.refs_is)

  pub ref_is_dropped : DropsRef meaning suits
  ref_is_dropped senders places s r id v held at is referenced = drops_ref meaning suits senders places s r id v held at is referenced _
      (let a = r.words.refs_is in let b = has_ref meaning suits senders places s r id v held at is referenced in let c = few_refs meaning suits senders places s r id v held at is in omega arith)

  pub place_is_taken : TakesPlace meaning suits
  place_is_taken senders places s r id v held at is p near referenced used hit =
      let free = free_of_word (r.world.turn p) (sym (r.words.turn_is p near) ∙ hit) in
      let h = r.slots.ring_is p near free in (h.0, h.1, takes_turn meaning suits senders places s r id p v held at is near referenced used free)

  pub job_is_put : PutsJob meaning suits
  job_is_put senders places s r id v held at is p tag meant near holding room suit =
      let found : slice_index s.words (put_at p) ≡ length (r.entries p) = r.words.put_is p near ∙ (ap length (sym (r.marks p)) ∙ length-map (r.entries p) (λ (x : Entry M). x.mark)) in
      let e : Entry M = record { mark = record { sender = (pass_of v).number; seq = length (listed (pass_of v).own p); tag = tag }; meaning = meant } in
      subst (λ n. IsEvent meaning suits senders places s r (event.Put (pass_of v).number p tag) (stepped s (put_at p) ((slice_index s.words (put_at p) + 1) % 2 ^ 64) id held (job_put p n e v) keeps)) (sym found)
      (puts meaning suits senders places s r id p tag meant v held at is near holding room suit)

  pub place_is_given : GivesPlace meaning suits
  place_is_given senders places s r id v held at is p ring near has holds = gives_turn meaning suits senders places s r id p v held at is near ring has holds

  pub note_is_swapped : SwapsNote meaning suits
  note_is_swapped senders places s r id v held at is p near owes = swaps_note meaning suits senders places s r id p v held at is near owes
