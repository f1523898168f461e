use Rattle.std.proofs.Common.{◌≡◌, ℕ, ◌<◌, ◌==◌, length, map, get_or, arith, ap, ◌∙◌}
use Rattle.std.specs.Prelude.{IsTrue}
use Rattle.std.specs.List.{list_any}
use Rattle.std.proofs.lemmas.List.{length-map}
use Rattle.proxy_laws.specs.declared.records.PostRecord.{PostRecord}
use Rattle.proxy_laws.specs.Fates.{jobs_of}
use Rattle.post_core.specs.Kept.{listed}
use Rattle.post_core.specs.Records.{held_record}
use Rattle.post_core.specs.SendParts.{pass_sender}
use Rattle.post_core.specs.Views.{owner_of}
use Rattle.post_core.proofs.Ended.{agrees, any_of_each, at_get, found, lawful, of_its_sender, record_is}
use Rattle.post_core.proofs.ending.close.Given as given
use Rattle.post_core.proofs.ending.close.Goals as goal

module _ (g : given.Over) (c : goal.After-discard g) where
  -- the owner's list has a member for each place
  wide : length c.args.emptied.hold.jobs.items ≡ c.args.post.places
  wide = let a = c.args.emptied.empty.1 in let b = ap (λ t. t.slots) c.requires.parts.owner in let d = c.args.post.sized.1 in omega arith

  wide_taken : length (map (λ place. place.taken) c.args.emptied.hold.jobs.items) ≡ c.args.post.places
  wide_taken = length-map c.args.emptied.hold.jobs.items (λ place. place.taken) ∙ wide

  count : length c.in-Ok.places.items ≡ c.args.post.places
  count = c.in-Ok.ensures.count ∙ wide

  each : (s : ℕ) → s < c.args.post.senders → IsTrue (list_any (λ pass. pass_sender pass == s) c.args.passes.items)
  each = any_of_each (λ pass. pass_sender pass) c.args.passes.items c.args.post.senders c.requires.parts.each

  abbrev r : PostRecord
  r = record { target = c.args.post.target; places = c.in-Ok.places }

  place_is : (p : ℕ) → p < c.args.post.places → jobs_of r p ≡ map held_record (listed (owner_of c.args.emptied.hold.seat.me.0).jobs p)
  place_is p near = c.in-Ok.ensures.each p (let e = count in omega arith)
      ∙ record_is (λ pass. pass.hold.seat.me.0) (λ pass. map (λ kept. kept.items) pass.hold.own.items) (λ pass. of_its_sender pass.is_pass) c.args.passes.items c.args.emptied.hold.seat.me.0 (map (λ place. place.started.items) c.args.emptied.hold.jobs.items) (map (λ place. place.taken) c.args.emptied.hold.jobs.items) c.args.emptied.is_emptied c.args.post.senders c.args.post.places each c.discard.ensures wide_taken p near

pub returns-in-Ok-clause-owner : goal.returns-in-Ok-clause-owner
returns-in-Ok-clause-owner g c p near = place_is g c p near

pub returns-in-Ok-clause-lawful : goal.returns-in-Ok-clause-lawful
returns-in-Ok-clause-lawful g c = lawful (λ pass. pass.hold.seat.me.0) (λ pass. map (λ kept. kept.items) pass.hold.own.items) (λ pass. of_its_sender pass.is_pass) c.args.passes.items c.args.emptied.hold.seat.me.0 (map (λ place. place.started.items) c.args.emptied.hold.jobs.items) (map (λ place. place.taken) c.args.emptied.hold.jobs.items) c.args.emptied.is_emptied c.args.post.senders c.args.post.places (each g c) c.discard.ensures (wide_taken g c) c.requires.settled (r g c) (count g c) (place_is g c)

pub returns-in-Ok-clause-passes : goal.returns-in-Ok-clause-passes
returns-in-Ok-clause-passes g c k d near = agrees (λ pass. pass.hold.seat.me.0) (λ pass. map (λ kept. kept.items) pass.hold.own.items) (λ pass. of_its_sender pass.is_pass) c.args.passes.items c.args.emptied.hold.seat.me.0 (map (λ place. place.started.items) c.args.emptied.hold.jobs.items) (map (λ place. place.taken) c.args.emptied.hold.jobs.items) c.args.emptied.is_emptied c.args.post.senders c.args.post.places (each g c) c.discard.ensures (wide_taken g c) c.requires.settled (r g c) (count g c) (place_is g c) k (get_or c.args.passes.items k d) (at_get c.args.passes.items k d near)

pub returns-in-Ok-clause-found : goal.returns-in-Ok-clause-found
returns-in-Ok-clause-found g c k d near = found (λ pass. pass.hold.seat.me.0) (λ pass. map (λ kept. kept.items) pass.hold.own.items) (λ pass. of_its_sender pass.is_pass) c.args.passes.items c.args.emptied.hold.seat.me.0 (map (λ place. place.started.items) c.args.emptied.hold.jobs.items) (map (λ place. place.taken) c.args.emptied.hold.jobs.items) c.args.emptied.is_emptied c.args.post.senders c.args.post.places (each g c) c.discard.ensures (wide_taken g c) c.requires.parts.each k (get_or c.args.passes.items k d) (at_get c.args.passes.items k d near)
