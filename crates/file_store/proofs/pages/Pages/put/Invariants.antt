use Rattle.std.proofs.Common.{◌≡◌, ℕ, ◌+◌, length}
use Rattle.file_store.specs.Pages.{byte_at, overlay_byte, AreReadyFor}
use Rattle.file_store.proofs.pages.Pages.put.Given as goal

-- what is left, written over what stands there, gives the whole
abbrev pub invariant-loop-rest : goal.invariant-loop-rest
invariant-loop-rest l = record {
  fits : l.at + length l.rest ≡ l.fn.offset + length l.fn.bytes;
  ready : AreReadyFor l.self l.at l.rest;
  all : (i : ℕ) → overlay_byte (byte_at l.self) l.at l.rest i ≡ overlay_byte (byte_at l.fn.self) l.fn.offset l.fn.bytes i;
}

abbrev pub decreases-loop-rest : goal.decreases-loop-rest
decreases-loop-rest l = length l.rest
