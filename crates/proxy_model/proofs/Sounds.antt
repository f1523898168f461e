-- The invariant of a world holds where its parts hold of each place.
use Rattle.std.proofs.Common.{ℕ, ◌<◌}
use Rattle.proxy_laws.specs.Sound.{Sound}
use Rattle.proxy_laws.specs.Worlds.{WorldState}
use Rattle.proxy_model.specs.Parts.{AreTotalsSound, IsPlaceSound}

pub sound_from_parts : (w : WorldState) → AreTotalsSound w → ((p : ℕ) → p < w.places → IsPlaceSound w p) → Sound w
sound_from_parts w totals each = record {
  refs = totals.refs;
  engaged = λ s p near at. ((each p at).senders s near).engaged;
  announced = λ p at. (each p at).notes.announced;
  borne = λ p at. (each p at).notes.borne;
  served = λ p at. (each p at).notes.served;
  closed = totals.closed;
  jobs = record {
    taken = λ p at. (each p at).jobs.taken;
    each = λ p at. (each p at).jobs.each;
    in_order = λ p at. (each p at).jobs.in_order;
    one_place = λ p q k at_p at_q. (each p at_p).jobs.apart q at_q k;
    phase_got = λ p k at. (each p at).jobs.phase_got k;
  };
  lives = record {
    used = λ p at. (each p at).life.used;
    looked = λ p at. (each p at).life.looked;
    free = λ p at. (each p at).life.free;
    saw_none = λ s p near at. ((each p at).senders s near).saw_none;
    one_user = λ s t p near_s near_t at. ((each p at).senders s near_s).only_user t near_t;
  };
  mail = λ p at. (each p at).notes.mailed;
  turns = record {
    held = λ s p near at. ((each p at).senders s near).held;
    numbered = λ p at. (each p at).jobs.numbered;
  };
  notices = totals.notices;
}

pub place_from_sound : (w : WorldState) (p : ℕ) → Sound w → p < w.places → IsPlaceSound w p
place_from_sound w p sound at = record {
  notes = record { announced = sound.announced p at; borne = sound.borne p at; served = sound.served p at; mailed = sound.mail p at };
  jobs = record {
    taken = sound.jobs.taken p at;
    each = sound.jobs.each p at;
    in_order = sound.jobs.in_order p at;
    apart = λ q at_q k. sound.jobs.one_place p q k at at_q;
    phase_got = λ k. sound.jobs.phase_got p k at;
    numbered = sound.turns.numbered p at;
  };
  life = record { used = sound.lives.used p at; looked = sound.lives.looked p at; free = sound.lives.free p at };
  senders = λ s near. record {
    engaged = sound.engaged s p near at;
    held = sound.turns.held s p near at;
    saw_none = sound.lives.saw_none s p near at;
    only_user = λ t near_t. sound.lives.one_user s t p near near_t at;
  };
}

pub totals_from_sound : (w : WorldState) → Sound w → AreTotalsSound w
totals_from_sound w sound = record { refs = sound.refs; closed = sound.closed; notices = sound.notices }
