-- When an event can step a world, and why it is refused where it cannot.
use Rattle.std.specs.Prelude.{◌≡◌, ℕ, zero, suc, ◌^◌, ◌-◌, ◌==◌, Bool, true, false, ◌||◌, IsTrue, List, [], ◌∷◌, count_by}
use Rattle.proxy_laws.specs.declared.events.Event.{Event}
use Rattle.proxy_laws.specs.declared.events.Event.TheVariants as event
use Rattle.proxy_laws.specs.Events.{Condition, Enabled, IsThere, conditions}
use Rattle.proxy_laws.specs.Lists.{is_by}
use Rattle.proxy_laws.specs.Worlds.{WorldState, put, taken}
use Rattle.proxy_model.specs.declared.refusals.StepRefusal.{StepRefusal}
use Rattle.proxy_model.specs.declared.refusals.StepRefusal.TheVariants as refusal

-- The first of these conditions that fails is the one of this number, counted from 1, and its word holds this value.
abbrev pub FailsAt : List Condition → ℕ → ℕ → Type 0
FailsAt [] part value = ⊥
FailsAt (c ∷ cs) zero value = ⊥
FailsAt (c ∷ cs) (suc zero) value = (c.holds → ⊥) × (value ≡ c.value)
FailsAt (c ∷ cs) (suc (suc n)) value = c.holds × FailsAt cs (suc n) value

-- The event is not enabled: part 0 says that the world has no such sender or place, and part n that the n-th of its
-- conditions is the first that fails.
abbrev pub IsNotEnabled : WorldState → Event → ℕ → ℕ → Type 0
IsNotEnabled w e zero value = (IsThere w e → ⊥) × (value ≡ 0)
IsNotEnabled w e (suc n) value = IsThere w e × FailsAt (conditions w e) (suc n) value

-- the greatest value of a counter
abbrev pub last_count : ℕ
last_count = 2 ^ 64 - 1

-- a counter that the event raises is at its end
abbrev pub is_at_last : WorldState → Event → Bool
is_at_last w (event.AddRef s) = w.refs == last_count
is_at_last w (event.Put s p tag) = (put w p == last_count) || (count_by (is_by s) (w.sent p) == last_count)
is_at_last w (event.TakeNotice p) = w.got == last_count
is_at_last w (event.TakeJob p) = taken w p == last_count
is_at_last w (event.Create s p) = w.uses s p == last_count
is_at_last w (event.CloneUse s p) = (w.life p == last_count) || (w.uses s p == last_count)
is_at_last w _ = false

-- the event is enabled, and no counter that it raises is at its end
pub record CanStep (w : WorldState) (e : Event) : Type 0 where
  pub enabled : Enabled w e
  pub room : is_at_last w e ≡ false

-- a list of the world grows with the event
abbrev pub takes_memory : Event → Bool
takes_memory (event.Put s p tag) = true
takes_memory (event.TakeJob p) = true
takes_memory _ = false

-- the refusal is the right one; only want of memory may meet an event that can step
abbrev pub IsRefusal : WorldState → Event → StepRefusal → Type 0
IsRefusal w e (refusal.NotEnabled why) = IsNotEnabled w e why.part why.value
IsRefusal w e refusal.AtLast = Enabled w e × (is_at_last w e ≡ true)
IsRefusal w e refusal.NoMemory = CanStep w e × IsTrue (takes_memory e)
