-- The worlds worked out by hand break the invariant.
use Rattle.std.proofs.Common.{◌≡◌, Some, refl, arith}
use Rattle.proxy_laws.specs.declared.actors.Actor.TheVariants as actor
use Rattle.proxy_laws.specs.declared.actors.OwnerState.TheVariants as owner
use Rattle.proxy_laws.specs.declared.records.Started.TheVariants as started
use Rattle.proxy_laws.specs.Unsound.{UnsoundWorlds, small, mark_of, finished_job, cancelled_job}
use Rattle.proxy_laws.proofs.Inductive.{opening_is_sound}
use Rattle.proxy_laws.proofs.Moved.{turned}

open_is_not_closed : owner.Open ≡ owner.Closed → ⊥
open_is_not_closed e = cc

pub unsound_worlds : UnsoundWorlds
unsound_worlds = record {
  refs_miscounted = λ o. let count = o.refs in absurd (omega arith);
  no_use = λ o. let engaged = o.engaged 0 1 (omega arith) (omega arith) in absurd (omega arith);
  unannounced = λ o. let told = o.announced 0 (omega arith) (omega arith) in absurd (omega arith);
  unborne = λ o. let once = (o.borne 0 (omega arith)).open_once open_is_not_closed in absurd (omega arith);
  borne_twice = λ o. let once = (o.borne 0 (omega arith)).open_once open_is_not_closed in absurd (omega arith);
  received_away = λ o. let is = (o.served 0 (omega arith)).received refl in cc;
  closed_referenced = λ o. let none = o.closed refl in absurd (omega arith);
  cancelled_open = λ o. open_is_not_closed ((o.jobs.each 0 (omega arith) 0 (cancelled_job started.Direct) (omega arith)).cancelled refl);
  shared_notice = λ o. let same = o.jobs.one_place 0 1 1 (omega arith) (omega arith) refl refl in absurd (omega arith);
  closing_finished = λ o. (o.jobs.each 0 (omega arith) 0 (finished_job started.Closing) (omega arith)).unfinished refl refl;
  life_too_long = λ o. let uses = o.lives.used 0 (omega arith) in absurd (omega arith);
  live_looked_at = λ o. let looks = o.lives.looked 0 (omega arith) in absurd (omega arith);
  mail_unannounced = λ o. let told = o.mail 0 (omega arith) refl in cc;
  holding_without_turn = λ o. let held = o.turns.held 0 0 (omega arith) (omega arith) refl in cc;
  mark_misnumbered = λ o. let seq = o.turns.numbered 0 (omega arith) 0 (mark_of 5) (omega arith) in absurd (omega arith);
  notice_without_mark = λ o. let few = o.notices in absurd (omega arith);
  idle_with_turn = turned small 0 (Some (actor.Sender 0)) (λ r near has. absurd (cc)) (opening_is_sound 2 2 (omega arith));
}
