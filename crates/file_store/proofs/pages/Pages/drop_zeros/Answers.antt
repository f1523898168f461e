use Rattle.std.proofs.Common.{◌∙◌, ◌/◌, ◌%◌, List, ℕ, not, length, get_or, ap, rules, tests}
use Rattle.std.proofs.lemmas.Map.Made.{filter_same_pairs}
use Rattle.file_store.specs.FileBytes.{all_zero}
use Rattle.file_store.specs.Pages.{PageEntries, byte_at}
use Rattle.file_store.proofs.PagesLemmas.{page_after, tight_after}
use Rattle.file_store.proofs.pages.Pages.drop_zeros.Goals as goal

pub invariant_of-self : goal.invariant_of-self
invariant_of-self c =
    let kept = filter_same_pairs _ (λ (e : ℕ × List ℕ). not (all_zero e.1)) _ (λ k v b w f t. search (rules, tests)) _ _ c.retain.ensures.filtered in
    λ page. ap length (page_after _ _ c.retain.ensures.was_ordered kept page (c.self.invariant page)) ∙ c.self.invariant page

pub returns-clause-same : goal.returns-clause-same
returns-clause-same c =
    let kept = filter_same_pairs _ (λ (e : ℕ × List ℕ). not (all_zero e.1)) _ (λ k v b w f t. search (rules, tests)) _ _ c.retain.ensures.filtered in
    λ i. ap (λ (bytes : List ℕ). get_or bytes (i % 4096) 0) (page_after _ _ c.retain.ensures.was_ordered kept (i / 4096) (c.self.invariant (i / 4096)))
    ∙ ap (λ (pages : PageEntries). byte_at pages i) c.self.view_is

pub returns-clause-tight : goal.returns-clause-tight
returns-clause-tight c =
    let kept = filter_same_pairs _ (λ (e : ℕ × List ℕ). not (all_zero e.1)) _ (λ k v b w f t. search (rules, tests)) _ _ c.retain.ensures.filtered in
    tight_after _ _ c.retain.ensures.was_ordered kept
