use Rattle.std.proofs.Common.{◌≡◌, ℕ, ◌<◌, false, get_or, take, vec_capacity}
use Rattle.std.specs.Mem.Slots.{slots_items, slots_filled, slots_len}
use Rattle.std.specs.Mem.Slots.Ownership.{Filled}
use Rattle.turn_cell.proofs.closing.empty.Given as goal

abbrev pub invariant-loop-i : goal.invariant-loop-i
invariant-loop-i g l = record {
  taken : l.records.items ≡ take l.i (slots_items l.closed.slots);
  same : slots_items l.closed.slots ≡ slots_items l.initial.closed.slots;
  count : slots_len l.closed.slots ≡ slots_len l.initial.closed.slots;
  full : Filled (slots_filled l.closed.slots) l.i (slots_len l.closed.slots);
  gone : (k : ℕ) → k < l.i → get_or (slots_filled l.closed.slots) k false ≡ false;
  room : vec_capacity l.records ≡ vec_capacity l.initial.records;
}
