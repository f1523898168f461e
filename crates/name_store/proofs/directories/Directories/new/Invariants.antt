use Rattle.std.proofs.Common.{◌≡◌, fold}
use Rattle.name_store.specs.NameTrees.{empty_in, with_mount}
use Rattle.name_store.proofs.directories.Directories.new.Given as goal

-- the mounts so far are in the root
abbrev pub invariant-loop-name : goal.invariant-loop-name
invariant-loop-name l = l.root ≡ fold with_mount (empty_in 0) l.yielded
