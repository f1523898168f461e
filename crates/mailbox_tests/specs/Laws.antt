-- The relation's laws.
use Rattle.std.proofs.Common.{ℕ, List, [], ◌++◌, map, sym, ap, ◌∙◌, append_assoc}
use Rattle.std.proofs.lemmas.List.{append-nil}
use mathlib.Core.List.{map-append}
use Rattle.mailbox.specs.declared.calls.RunCall.{RunCall}
use Rattle.mailbox_tests.specs.declared.events.Event.{Event}
use Rattle.mailbox_tests.specs.declared.events.Left.{Left}
use Rattle.mailbox_tests.specs.declared.recorder.Recorder.{Recorder}
use Rattle.mailbox_tests.specs.Recorded.{Recorded, event_of}

pub recorded_none : (r : Recorder) → Recorded r [] r
recorded_none r whole = (whole, sym (append-nil r.log.items))

pub recorded_on : (a b c : Recorder) (xs ys : List (RunCall ℕ Left)) → Recorded a xs b → Recorded b ys c → Recorded a (xs ++ ys) c
recorded_on a b c xs ys s t whole = let u = t whole in let v = s u.0 in (
  v.0,
  u.1 ∙ (ap (λ (es : List Event). es ++ map event_of ys) v.1 ∙ (append_assoc a.log.items (map event_of xs) (map event_of ys) ∙ ap (λ (es : List Event). a.log.items ++ es) (sym (map-append event_of xs ys)))),
)
