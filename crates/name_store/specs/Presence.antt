-- The directories that a change needs. No public clause cites this module.
use Rattle.std.specs.Prelude.{ℕ, Option, None, Some, IsSome}
use Rattle.name_store.specs.NameTrees.{Tree, dir_at}

-- the directory that is given, where one is, is there
abbrev pub IsThere : Tree → Option ℕ → Type 0
IsThere tree None = Unit {0}
IsThere tree (Some id) = IsSome (dir_at tree id)

-- the directories between which an entry moves are there, and so are the one that moves and the one that is replaced
pub record AreThere (tree : Tree) (from to : ℕ) (moved replaced : Option ℕ) : Type 0 where
  pub source : IsSome (dir_at tree from)
  pub target : IsSome (dir_at tree to)
  pub child : IsThere tree moved
  pub over : IsThere tree replaced
