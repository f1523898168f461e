-- The parts of the invariant that `sound` tests: of the whole world, and of each place.
use Rattle.std.specs.Prelude.{◌≡◌, ◌≢◌, ℕ, ◌<◌, ◌≤◌, ◌-◌, ◌==◌, IsTrue, Some, All, length}
use Rattle.proxy_laws.specs.declared.actors.Actor.TheVariants as actor
use Rattle.proxy_laws.specs.declared.actors.Note.TheVariants as note
use Rattle.proxy_laws.specs.declared.actors.Serving.{Serving}
use Rattle.proxy_laws.specs.declared.records.Started.{Started}
use Rattle.proxy_laws.specs.Maps.{bit, sum_below, count_below}
use Rattle.proxy_laws.specs.Phases.{names, has_turn_at, is_under, looks_at, saw_none_at}
use Rattle.proxy_laws.specs.Sound.{RefsAreCounted, ClosedHasNone, NoticesAreFew, IsAnnounced, IsBorne, IsServed, IsLawfulJob, IsQuiet, uses_notice}
use Rattle.proxy_laws.specs.Starts.{is_notice, AreInOrder, AreNumbered}
use Rattle.proxy_laws.specs.Worlds.{WorldState}

-- what the invariant says of the whole world
pub record AreTotalsSound (w : WorldState) : Type 0 where
  pub refs : RefsAreCounted w.senders w.refs w.owner w.phase
  pub closed : ClosedHasNone w.owner w.refs
  pub notices : NoticesAreFew w.senders w.places w.got w.mail w.phase w.sent

-- the notes and notices of p
pub record AreNotesSound (w : WorldState) (p : ℕ) : Type 0 where
  pub announced : IsAnnounced w.senders w.phase (w.sent p) (w.jobs p) (w.note p) (w.serving p) p
  pub borne : IsBorne w.senders w.owner w.phase (w.sent p) (w.jobs p) (w.mail p) (w.note p) (w.serving p) p
  pub served : IsServed w.owner (w.note p) (w.serving p)
  pub mailed : IsTrue (w.mail p) → w.mail_note ≡ note.Pending

-- places p and q share no notice
abbrev pub AreApart : WorldState → ℕ → ℕ → Type 0
AreApart w p q = (k : ℕ) → IsTrue (uses_notice k (w.jobs p) (w.serving p)) → IsTrue (uses_notice k (w.jobs q) (w.serving q)) → p ≡ q

-- the start was not under a notice of p
abbrev pub IsStartApart : WorldState → Started → ℕ → Type 0
IsStartApart w start p = (k : ℕ) → IsTrue (is_notice k start) → IsTrue (uses_notice k (w.jobs p) (w.serving p)) → ⊥

-- what the owner does is not under a notice of p
abbrev pub IsPhaseApart : WorldState → Serving → ℕ → Type 0
IsPhaseApart w at_place p = (k : ℕ) → IsTrue (is_under k at_place) → IsTrue (uses_notice k (w.jobs p) (w.serving p)) → ⊥

-- the owner is at p under a notice that it got
abbrev pub IsPhaseGot : WorldState → ℕ → Type 0
IsPhaseGot w p = (k : ℕ) → IsTrue (is_under k (w.serving p)) → k ≤ w.got

-- the marks and jobs of p
pub record AreJobsSound (w : WorldState) (p : ℕ) : Type 0 where
  pub taken : length (w.jobs p) ≤ length (w.sent p)
  pub each : All (IsLawfulJob w.owner w.got (w.serving p)) (w.jobs p)
  pub in_order : AreInOrder (λ job. job.started) (w.jobs p)
  pub apart : (q : ℕ) → q < w.places → AreApart w p q
  pub phase_got : IsPhaseGot w p
  pub numbered : AreNumbered (w.sent p)

-- the life of p
pub record IsLifeSound (w : WorldState) (p : ℕ) : Type 0 where
  pub used : sum_below w.senders (λ s. w.uses s p) ≡ w.life p - 2
  pub looked : count_below w.senders (λ s. looks_at p (w.look s)) ≡ bit (w.life p == 2)
  pub free : w.life p ≡ 0 → IsQuiet w.owner (w.sent p) (w.jobs p) (w.note p)

-- senders s and t are one where both use p, unless it is place 0
abbrev pub IsOneUser : WorldState → ℕ → ℕ → ℕ → Type 0
IsOneUser w s t p = p ≢ 0 → 0 < w.uses s p → 0 < w.uses t p → s ≡ t

-- the sender s at p
pub record IsSenderSound (w : WorldState) (s p : ℕ) : Type 0 where
  pub engaged : bit (names p (w.phase s)) ≤ w.uses s p
  pub held : IsTrue (has_turn_at p (w.phase s)) → w.turn p ≡ Some (actor.Sender s)
  pub saw_none : IsTrue (saw_none_at p (w.look s)) → IsQuiet w.owner (w.sent p) (w.jobs p) (w.note p)
  pub only_user : (t : ℕ) → t < w.senders → IsOneUser w s t p

-- all that the invariant says of p
pub record IsPlaceSound (w : WorldState) (p : ℕ) : Type 0 where
  pub notes : AreNotesSound w p
  pub jobs : AreJobsSound w p
  pub life : IsLifeSound w p
  pub senders : (s : ℕ) → s < w.senders → IsSenderSound w s p
