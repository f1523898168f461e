-- The world that a `World` shows.
use Rattle.std.specs.Prelude.{[], slice_index_or, None, false}
use Rattle.proxy_laws.specs.declared.actors.Look.TheVariants as look
use Rattle.proxy_laws.specs.declared.actors.Note.TheVariants as note
use Rattle.proxy_laws.specs.declared.actors.Phase.TheVariants as phase
use Rattle.proxy_laws.specs.declared.actors.Serving.TheVariants as serving
use Rattle.proxy_laws.specs.Worlds.{WorldState}
use Rattle.proxy_model.specs.declared.worlds.World.{World}

-- what a world's lists say of each place and of each sender
abbrev pub world_of : World → WorldState
world_of w = record {
  senders = w.senders;
  places = w.places;
  refs = w.refs;
  owner = w.owner;
  sent = λ p. slice_index_or w.sent.items p [];
  jobs = λ p. slice_index_or w.jobs.items p [];
  note = λ p. slice_index_or w.notes.items p note.None;
  life = λ p. slice_index_or w.lives.items p 0;
  turn = λ p. slice_index_or w.turns.items p None;
  serving = λ p. slice_index_or w.serving.items p serving.Away;
  mail = λ p. slice_index_or w.mail.items p false;
  mail_note = w.mail_note;
  got = w.got;
  phase = λ s. slice_index_or w.phases.items s phase.Idle;
  uses = λ s p. slice_index_or (slice_index_or w.uses.items s []) p 0;
  look = λ s. slice_index_or w.looks.items s look.Nowhere;
}
