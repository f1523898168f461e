-- Each step of a messenger and of the owner is its event, as the laws say it.
use Rattle.std.proofs.Common.{◌≡◌, ℕ, ◌*◌, ◌%◌, ◌/◌, ◌^◌, slice_index, refl, arith, sym, subst, ◌∙◌, mod-eq_of_lt}
use Rattle.std.specs.Prelude.{bit_and, bit_or}
use Rattle.std.specs.Int.{bit_not, w64}
use Rattle.std.proofs.Math.Pow.{pow-lt}
use Rattle.atomic_table.specs.Table.{keeps, stepped}
use Rattle.proxy_laws.specs.declared.actors.Phase.TheVariants as phase
use Rattle.proxy_laws.specs.declared.events.Event.TheVariants as event
use Rattle.proxy_laws.specs.declared.records.FateMark.TheVariants as fate
use Rattle.proxy_laws.specs.declared.records.Mark.{Mark}
use Rattle.proxy_laws.proofs.Numbers.{free_of_word}
use Rattle.post_core.specs.declared.views.View.{View}
use Rattle.post_core.specs.MailSteps.{lowest_in, notice_found, notice_taken, word_empty}
use Rattle.post_core.specs.OwnerLaws.{AddsMail, BeginsDirect, DropsOwn, FinishesPlace, LooksClosed, LooksMail, LooksPlace, OwnerGivesPlace, OwnerTakesPlace, ReceivesNote, ResetsPlace, SettlesCancelled, SettlesFinished, TakesJob, TakesNotice, mail_bit}
use Rattle.post_core.specs.Rule.{IsEvent}
use Rattle.post_core.specs.Views.{at_phase, owner_of, pass_of}
use Rattle.post_core.specs.Words.{mail_at}
use Rattle.post_core.proofs.Allowed.{first_of}
use Rattle.post_core.proofs.ClosingEvents.{drops_own, finds_none, finds_some, own_counted}
use Rattle.post_core.proofs.Executed.{begins_directly, finishes, found_is, looks_place, receives, resets_place}
use Rattle.post_core.proofs.Mailed.{adds_mail, looks_empty, looks_found, takes_notice}
use Rattle.post_core.proofs.Owning.{takes_job}
use Rattle.post_core.proofs.Settled.{settles}
use Rattle.post_core.proofs.Turning.{gives_place, takes_place}

-- the bit of p is one that a shift gives
shifted_is : (p : ℕ) → 1 * 2 ^ (p % 64) % 2 ^ 64 ≡ mail_bit p
shifted_is p = mod-eq_of_lt (let below = pow-lt {i = p % 64} {j = 64} (omega arith) in omega arith) ∙ omega arith

module _ {J M : Type 0} (meaning : J → M) (suits : ℕ → Mark → M → Type 0) where
  pub mail_is_added : AddsMail meaning suits
  mail_is_added senders places s r id v held at is p near brings = subst
      (λ b. IsEvent meaning suits senders places s r (event.AddMail (pass_of v).number)
      (stepped s (mail_at (p / 64)) (bit_or (slice_index s.words (mail_at (p / 64))) b)
      id held (at_phase phase.Referenced v) keeps))
      (shifted_is p)
      (adds_mail meaning suits senders places s r id v held at is p near brings)

  pub mail_is_looked : LooksMail meaning suits
  mail_is_looked senders places s r id v held at is word found near may found_is bound = (
    (λ none. subst (looks (word_empty word v)) found_is
        (looks_empty meaning suits senders places s r id v held at is.1 may.0 may.1 word near (found_is ∙ none))),
    (λ some_bit. subst (looks (notice_found (lowest_in word found) v)) found_is
        (looks_found meaning suits senders places s r id v held at is.1 may.0 may.1 word near found found_is some_bit
        bound)),
  ) where
    looks : View M → ℕ → Type 0
    looks after n = IsEvent meaning suits senders places s r (event.LookMail word)
        (stepped s (mail_at word) n id held after keeps)

  pub notice_is_taken : TakesNotice meaning suits
  notice_is_taken senders places s r id v held at is p may found = subst
      (λ b. IsEvent meaning suits senders places s r (event.TakeNotice p)
      (stepped s (mail_at (p / 64)) (bit_and (slice_index s.words (mail_at (p / 64))) (bit_not w64 b))
      id held (notice_taken p v) keeps))
      (shifted_is p)
      (takes_notice meaning suits senders places s r id v held at is.1 may.0 may.1 p found)

  pub note_is_received : ReceivesNote meaning suits
  note_is_received senders places s r id v held at is p near got =
      receives meaning suits senders places s r id p v held at is.1 near got

  pub direct_is_begun : BeginsDirect meaning suits
  direct_is_begun senders places s r id v held at is p near away =
      begins_directly meaning suits senders places s r id p v held at is.1 near away

  pub place_is_taken : OwnerTakesPlace meaning suits
  place_is_taken senders places s r id v held at is p near idle works hit =
      let free = free_of_word (r.world.turn p) (sym (r.words.turn_is p near) ∙ hit) in
      let h = r.slots.ring_is p near free in
      (h.0, h.1, takes_place meaning suits senders places s r id p v at is.1 near held idle works free)

  pub job_is_taken : TakesJob meaning suits
  job_is_taken senders places s r id v held at is p turn works some_wait =
      let first = first_of (owner_of v).ring some_wait in
      takes_job meaning suits senders places s r id p v held at is.1 first.0 first.1 turn works first.2

  pub place_is_looked : LooksPlace meaning suits
  place_is_looked senders places s r id v held at is p near turn works none_waits = (
    found_is meaning suits senders places s r id p v held at is.1 near turn works none_waits,
    looks_place meaning suits senders places s r id p v held at is.1 near turn works none_waits,
  )

  pub place_is_given : OwnerGivesPlace meaning suits
  place_is_given senders places s r id v held at is p ring near turn holds =
      gives_place meaning suits senders places s r id p v at is.1 near ring held turn holds

  pub place_is_finished : FinishesPlace meaning suits
  place_is_finished senders places s r id v held at is p near no_turn seen =
      finishes meaning suits senders places s r id p v held at is.1 near seen no_turn _ refl

  pub job_is_finished : SettlesFinished meaning suits
  job_is_finished senders places s r id v held at is p n near can active = let h = active.1 in
      settles meaning suits senders places s r id p n fate.Finished v held at is.1 h.0 near active.0 h.1 h.2 can _

  pub job_is_cancelled : SettlesCancelled meaning suits
  job_is_cancelled senders places s r id v held at is p n near can active = let h = active.1 in
      settles meaning suits senders places s r id p n fate.Cancelled v held at is.1 h.0 near active.0 h.1 h.2 can _

  pub own_is_dropped : DropsOwn meaning suits
  own_is_dropped senders places s r id v held at is opened =
      drops_own meaning suits senders places s r id v held at is.1 opened _ (own_counted meaning suits senders places s r id v held at is.1 opened)

  pub closed_is_looked : LooksClosed meaning suits
  closed_is_looked senders places s r id v held at is count closes found_is = (
    (λ none. finds_none meaning suits senders places s r id v held at is.1 closes count (sym found_is) none),
    (λ some_refs. finds_some meaning suits senders places s r id v held at is.1 closes count (sym found_is) some_refs),
  )

  pub place_is_reset : ResetsPlace meaning suits
  place_is_reset senders places s r id v held at is p near closed turn works none_waits =
      resets_place meaning suits senders places s r id p v held at is.1 near turn works none_waits closed
