-- Runs: lists of events, each of which can come in the world that those before it leave.
use Rattle.std.specs.Prelude.{◌≡◌, List, [], ◌∷◌}
use Rattle.proxy_laws.specs.declared.events.Event.{Event}
use Rattle.proxy_laws.specs.Events.{Enabled, world_after}
use Rattle.proxy_laws.specs.Worlds.{WorldState}

-- each event may come where it comes, and they lead from one world to the other
abbrev pub LeadsBy : (WorldState → Event → Type 0) → WorldState → List Event → WorldState → Type 0
LeadsBy may w [] end = end ≡ w
LeadsBy may w (e ∷ es) end = may w e × LeadsBy may (world_after w e) es end

-- the events, each of which is enabled, lead from one world to the other
abbrev pub Leads : WorldState → List Event → WorldState → Type 0
Leads = LeadsBy Enabled
