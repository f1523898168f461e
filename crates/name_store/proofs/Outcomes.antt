-- What holds of an outcome, shown by the cases that its definition has.
use Rattle.std.proofs.Common.{◌≡◌, Bool, true, false, if◌then◌else◌, Option, None, Some, refl}
use Rattle.wf_core.specs.declared.errno.Errno.{Errno}
use Rattle.name_store.specs.declared.operation.NameAnswer.TheVariants.{Gone, Same, Fault}
use Rattle.name_store.specs.NameTrees.{Tree, Listing, NamesOutcome, outcome_of, unless_gone, unless_refused}

module _ (Holds : NamesOutcome → Type 0) (tree : Tree) where
  -- the directory is not there, or is
  pub in_there : (directory : Option Listing) (outcome : Listing → NamesOutcome) → Holds (outcome_of tree Gone) → ((there : Listing) → directory ≡ Some there → Holds (outcome there)) → Holds (unless_gone tree directory outcome)
  in_there None outcome gone h = gone
  in_there (Some there) outcome gone h = h there refl

  -- there is a fault, or none
  pub in_allowed : (fault : Option Errno) (outcome : NamesOutcome) → ((error : Errno) → fault ≡ Some error → Holds (outcome_of tree (Fault error))) → (fault ≡ None → Holds outcome) → Holds (unless_refused fault tree outcome)
  in_allowed (Some error) outcome refused h = refused error refl
  in_allowed None outcome refused h = h refl

  -- both names are one entry, or not
  pub in_apart : (same : Bool) (outcome : NamesOutcome) → (same ≡ true → Holds (outcome_of tree Same)) → (same ≡ false → Holds outcome) → Holds (if same then outcome_of tree Same else outcome)
  in_apart true outcome one h = one refl
  in_apart false outcome one h = h refl
