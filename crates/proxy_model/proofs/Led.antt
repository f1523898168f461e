-- A run grows by one event at its end, and is one by enabled events.
use Rattle.std.proofs.Common.{◌≡◌, List, [], ◌∷◌, ◌++◌, ℕ, ◌<◌, ◌+◌, length, take, get_or, sym, ap, subst, ◌∙◌}
use Rattle.std.proofs.lemmas.List.{get_or_default, take_more}
use Rattle.proxy_laws.specs.declared.events.Event.{Event}
use Rattle.proxy_laws.specs.Events.{world_after}
use Rattle.proxy_laws.specs.Runs.{LeadsBy}
use Rattle.proxy_laws.specs.Worlds.{WorldState}
use Rattle.proxy_model.specs.declared.refusals.StepRefusal.{StepRefusal}
use Rattle.proxy_model.specs.Refusals.{CanStep, IsRefusal}
use Rattle.proxy_model.specs.Runs.{StepsBy, StepsLead, StopsAt}

LeadsBy-push : (w : WorldState) (es : List Event) (middle : WorldState) (e : Event) (end : WorldState) → LeadsBy CanStep w es middle → StepsBy middle e end → LeadsBy CanStep w (es ++ e ∷ []) end
LeadsBy-push w [] middle e end led by = (subst (λ (m : WorldState). CanStep m e) led by.can, by.after ∙ ap (λ (m : WorldState). world_after m e) led)
LeadsBy-push w (first ∷ es) middle e end led by = (led.0, LeadsBy-push (world_after w first) es middle e end led.1 by)

-- one event more
pub leads_on : (old middle new : WorldState) (events : List Event) (n : ℕ) (d : Event) → n < length events → LeadsBy CanStep old (take n events) middle → StepsBy middle (get_or events n d) new → LeadsBy CanStep old (take (n + 1) events) new
leads_on old middle new events n d near led by = rw (take_more events n d near) (LeadsBy-push old (take n events) middle (get_or events n d) new led by)

-- the next event is refused
pub stops : (old middle new : WorldState) (events : List Event) (n : ℕ) (d : Event) (r : StepRefusal) → n < length events → LeadsBy CanStep old (take n events) middle → new ≡ middle → IsRefusal middle (get_or events n d) r → StopsAt old events n r new
stops old middle new events n d r near led same refused = record {
  in_range = near;
  before = subst (λ (m : WorldState). LeadsBy CanStep old (take n events) m) (sym same) led;
  refused = λ e. subst (λ (m : WorldState). IsRefusal m (get_or events n e) r) (sym same) (rw (get_or_default events n e d near) refused);
}

pub steps_lead : StepsLead
steps_lead w [] end led = led
steps_lead w (e ∷ es) end led = (led.0.enabled, steps_lead (world_after w e) es end led.1)
