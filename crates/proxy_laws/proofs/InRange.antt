-- What is said of a world reads only its own senders and places.
use Rattle.std.proofs.Common.{◌≡◌, ℕ, ◌<◌, ◌==◌, Bool, length, arith, ap, subst, ◌∙◌}
use Rattle.std.specs.Prelude.{not}
use Rattle.proxy_laws.specs.declared.actors.Look.{Look}
use Rattle.proxy_laws.specs.declared.actors.Phase.{Phase}
use Rattle.proxy_laws.specs.Laws.{WorldsAreReadInRange}
use Rattle.proxy_laws.specs.Maps.{bit, count_below}
use Rattle.proxy_laws.specs.Phases.{is_idle, owes_note_at, is_messenger_at, is_notifying, looks_at}
use Rattle.proxy_laws.specs.Sound.{Sound, IsAnnounced, IsBorne}
use Rattle.proxy_laws.specs.Worlds.{WorldState, IsWellFormed, SayTheSame}
use Rattle.proxy_laws.proofs.Maps.{sum_same}

module _ (w v : WorldState) (same : SayTheSame w v) where
  -- the first world with what the second says of each place and each sender
  abbrev mixed : WorldState
  mixed = record w {
    sent = v.sent;
    jobs = v.jobs;
    note = v.note;
    life = v.life;
    turn = v.turn;
    serving = v.serving;
    mail = v.mail;
    phase = v.phase;
    uses = v.uses;
    look = v.look;
  }

  mixed_is : mixed ≡ v
  mixed_is = λ i. record v {
    senders = same.senders i;
    places = same.places i;
    refs = same.refs i;
    owner = same.owner i;
    mail_note = same.mail_note i;
    got = same.got i;
  }

  by_phase : (t : Phase → Bool) → count_below w.senders (λ s. t (w.phase s)) ≡ count_below w.senders (λ s. t (v.phase s))
  by_phase t = sum_same w.senders (λ s. bit (t (w.phase s))) (λ s. bit (t (v.phase s))) (λ s near. ap (λ ph. bit (t ph)) (same.phase s near))

  by_look : (t : Look → Bool) → count_below w.senders (λ s. t (w.look s)) ≡ count_below w.senders (λ s. t (v.look s))
  by_look t = sum_same w.senders (λ s. bit (t (w.look s))) (λ s. bit (t (v.look s))) (λ s near. ap (λ l. bit (t l)) (same.look s near))

  announced : (p : ℕ) → p < w.places → Sound w → IsAnnounced w.senders v.phase (v.sent p) (v.jobs p) (v.note p) (v.serving p) p
  announced p at o = rw (← same.sent p at, ← same.jobs p at, ← same.note p at, ← same.serving p at) still where
    still : IsAnnounced w.senders v.phase (w.sent p) (w.jobs p) (w.note p) (w.serving p) p
    still waits = let told = o.announced p at waits in let owing = by_phase (owes_note_at p) in omega arith

  borne : (p : ℕ) → p < w.places → Sound w → IsBorne w.senders w.owner v.phase (v.sent p) (v.jobs p) (v.mail p) (v.note p) (v.serving p) p
  borne p at o = rw (← same.sent p at, ← same.jobs p at, ← same.mail p, ← same.note p at, ← same.serving p at) still where
    still : IsBorne w.senders w.owner v.phase (w.sent p) (w.jobs p) (w.mail p) (w.note p) (w.serving p) p
    still = record {
      open_once = λ not_closed. let once = (o.borne p at).open_once not_closed in let bringing = by_phase (is_messenger_at p) in omega arith;
      closed = (o.borne p at).closed;
    }

  mixed_sound : Sound w → Sound mixed
  mixed_sound o = record {
    refs = let count = o.refs in let busy = by_phase (λ ph. not (is_idle ph)) in omega arith;
    engaged = λ s p near at. rw (← same.phase s near, ← same.uses s p near at) (o.engaged s p near at);
    announced = λ p at. announced p at o;
    borne = λ p at. borne p at o;
    served = λ p at. rw (← same.note p at, ← same.serving p at) (o.served p at);
    closed = o.closed;
    jobs = record {
      taken = λ p at. rw (← same.sent p at, ← same.jobs p at) (o.jobs.taken p at);
      each = λ p at. rw (← same.jobs p at, ← same.serving p at) (o.jobs.each p at);
      in_order = λ p at. rw (← same.jobs p at) (o.jobs.in_order p at);
      one_place = λ p q k at_p at_q is_p is_q. o.jobs.one_place p q k at_p at_q (rw (same.jobs p at_p, same.serving p at_p) is_p) (rw (same.jobs q at_q, same.serving q at_q) is_q);
      phase_got = λ p k at is. o.jobs.phase_got p k at (rw (same.serving p at) is);
    };
    lives = record {
      used = λ p at. let uses = sum_same w.senders (λ s. w.uses s p) (λ s. v.uses s p) (λ s near. same.uses s p near at) in let life = same.life p at in let was = o.lives.used p at in omega arith;
      looked = λ p at. let looks = by_look (looks_at p) in let two = ap (λ n. bit (n == 2)) (same.life p at) in let was = o.lives.looked p at in omega arith;
      free = λ p at dead. rw (← same.sent p at, ← same.jobs p at, ← same.note p at) (o.lives.free p at (same.life p at ∙ dead));
      saw_none = λ s p near at saw. rw (← same.sent p at, ← same.jobs p at, ← same.note p at) (o.lives.saw_none s p near at (rw (same.look s near) saw));
      one_user = λ s t p near_s near_t at ne of_s of_t. o.lives.one_user s t p near_s near_t at ne (rw (same.uses s p near_s at) of_s) (rw (same.uses t p near_t at) of_t);
    };
    mail = λ p at is. o.mail p at (rw (same.mail p) is);
    turns = record {
      held = λ s p near at has. rw (← same.turn p at) (o.turns.held s p near at (rw (same.phase s near) has));
      numbered = λ p at. rw (← same.sent p at) (o.turns.numbered p at);
    };
    notices =
        let mailed = sum_same w.places (λ p. bit (w.mail p)) (λ p. bit (v.mail p)) (λ p at. ap bit (same.mail p)) in
        let notifying = by_phase is_notifying in
        let marks = sum_same w.places (λ p. length (w.sent p)) (λ p. length (v.sent p)) (λ p at. ap (λ ms. length ms) (same.sent p at)) in
        let few = o.notices in omega arith;
  }

  mixed_formed : IsWellFormed w → IsWellFormed mixed
  mixed_formed o = record {
    phases = λ s p near is. o.phases s p near (rw (same.phase s near) is);
    looks = λ s p near is. o.looks s p near (rw (same.look s near) is);
    turns = λ p s at is. o.turns p s at (same.turn p at ∙ is);
    notices = λ p is. o.notices p (rw (same.mail p) is);
    marks = λ p s at some. o.marks p s at (rw (same.sent p at) some);
  }

pub worlds_are_read_in_range : WorldsAreReadInRange
worlds_are_read_in_range = record {
  sound = λ w v same o. subst Sound (mixed_is w v same) (mixed_sound w v same o);
  formed = λ w v same o. subst (λ (u : WorldState). IsWellFormed u) (mixed_is w v same) (mixed_formed w v same o);
}
