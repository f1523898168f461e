use Rattle.std.proofs.Common.{◌≡◌, ℕ, ◌+◌, ◌-◌, ◌<◌, ◌≤◌, vec_len, get_or}
use Rattle.file_store.specs.Pages.{byte_at}
use Rattle.file_store.proofs.contents.Contents.read.Given as goal

-- the bytes so far are those from the offset on
abbrev pub invariant-loop-self : goal.invariant-loop-self
invariant-loop-self l = record {
  within : vec_len l.bytes ≤ l.length;
  read : (j : ℕ) → j < vec_len l.bytes → get_or l.bytes.items j 0 ≡ byte_at l.self-inside.pages (l.offset + j);
}

abbrev pub decreases-loop-self : goal.decreases-loop-self
decreases-loop-self l = l.length - vec_len l.bytes
