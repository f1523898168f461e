use Rattle.std.proofs.Common.{◌≡◌, ◌+◌, ◌*◌, ◌≤◌, ◌++◌, length}
use Rattle.name_store.specs.TreeLines.{tree_lines}
use Rattle.name_store.proofs.Pending.{pending}
use Rattle.name_store.proofs.directories.Directories.lines.Given as goal

-- the lines so far and those to come are all
abbrev pub invariant-loop-entries : goal.invariant-loop-entries
invariant-loop-entries l = record {
  all : l.lines.items ++ pending l.self 0 l.way.items ≡ tree_lines l.self;
  deep : length l.way.items ≤ length l.self;
}

-- each turn adds a line or closes a directory
abbrev pub decreases-loop-entries : goal.decreases-loop-entries
decreases-loop-entries l = 2 * length (pending l.self 0 l.way.items) + length l.way.items
