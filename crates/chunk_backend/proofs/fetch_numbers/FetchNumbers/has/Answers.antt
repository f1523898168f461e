use Rattle.std.proofs.Common.{ℕ, ◌==◌, List, ◌∙◌, ap, subst}
use Rattle.std.specs.List.{list_any}
use Rattle.std.specs.List.Sorted.{IsBinarySearchResult}
use Rattle.std.specs.Ordering.{nat_cmp}
use Rattle.chunk_backend.proofs.Searching.{found}
use Rattle.chunk_backend.proofs.fetch_numbers.FetchNumbers.has.Goals as goal

pub returns : goal.returns
returns c =
    let told = subst (λ (ys : List ℕ). IsBinarySearchResult (λ y. nat_cmp y c.args.number) ys c.binary_search.result) c.deref.ensures.value c.binary_search.ensures.position in
    c.is_ok.ensures.value
    ∙ found c.self.inside.given.value.items c.self.inside.sorted.items c.args.number c.binary_search.result c.self.invariant.0 c.self.invariant.1 told
    ∙ ap (λ (ns : List ℕ). list_any (λ other. other == c.args.number) ns) c.self.view_is
