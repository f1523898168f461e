use Rattle.std.proofs.Common.{sym, subst}
use Rattle.proxy_laws.specs.Sound.{Sound}
use Rattle.proxy_laws.proofs.Inductive.{opening_is_sound}
use Rattle.proxy_model.proofs.Opened.{same_length, lives_wide, uses_wide, phases_opened, looks_opened, turns_opened, marks_opened, opened}
use Rattle.proxy_model.proofs.worlds.World.opening.Goals as goal

pub invariant_of-result : goal.invariant_of-result
invariant_of-result c = record {
  has_places = record {
    sent_len = same_length _ _ _ c.in_ok-sent.ensures;
    jobs_len = same_length _ _ _ c.in_ok-jobs.ensures;
    notes_len = same_length _ _ _ c.in_ok-notes.ensures;
    lives_len = lives_wide _ _ _ c.in_ok-lives.ensures;
    turns_len = same_length _ _ _ c.in_ok-turns.ensures;
    serving_len = same_length _ _ _ c.in_ok-serving.ensures;
    mail_len = same_length _ _ _ c.in_ok-mail.ensures;
  };
  has_senders = record {
    phases_len = same_length _ _ _ c.in_ok-phases.ensures;
    uses_len = same_length _ _ _ c.in_ok-uses.ensures;
    looks_len = same_length _ _ _ c.in_ok-looks.ensures;
    by_place = uses_wide _ _ _ c.in_ok-uses.ensures;
  };
  phases_in_range = phases_opened _ _ _ c.in_ok-phases.ensures;
  looks_in_range = looks_opened _ _ _ c.in_ok-looks.ensures;
  turns_in_range = turns_opened _ _ _ c.in_ok-turns.ensures;
  marks_in_range = marks_opened _ _ _ c.in_ok-sent.ensures;
}

pub returns-clause-opened : goal.returns-clause-opened
returns-clause-opened c =
    opened _ _ _ _ _ _ _ _ _ _ _ _ c.requires.some_places c.in_ok-sent.ensures c.in_ok-jobs.ensures c.in_ok-notes.ensures (rw c.from.ensures at c.in_ok-lives.ensures) c.in_ok-turns.ensures c.in_ok-serving.ensures c.in_ok-mail.ensures c.in_ok-phases.ensures c.in_ok-uses.ensures c.in_ok-looks.ensures

pub returns-clause-sound : goal.returns-clause-sound
returns-clause-sound c = subst Sound (sym (returns-clause-opened c)) (opening_is_sound c.args.senders c.args.places c.requires.some_senders)
