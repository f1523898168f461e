use Rattle.std.proofs.Common.{◌≡◌, ℕ, ◌<◌, length}
use Rattle.file_store.specs.Pages.{kept_page, AreWhole}
use Rattle.file_store.proofs.pages.Pages.drop_from.Given as goal

-- no page below the number was given up
abbrev pub invariant-loop-page : goal.invariant-loop-page
invariant-loop-page l = record {
  kept : (k : ℕ) → k < l.first → kept_page l.self-inside.pages.entries k ≡ kept_page l.fn.self k;
  whole : AreWhole l.self-inside.pages.entries;
}

abbrev pub decreases-loop-page : goal.decreases-loop-page
decreases-loop-page l = length l.self-inside.pages.entries
