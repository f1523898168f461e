use Rattle.std.proofs.Common.{List, ℕ, nat_cmp, ap, ap₂, ◌∙◌}
use Rattle.std.specs.BTreeMap.{is_at}
use Rattle.std.specs.Map.{remove_entry}
use Rattle.file_store.specs.declared.file.Description.{Description}
use Rattle.file_store.specs.Tables.{Table}
use Rattle.file_store.proofs.TableLemmas.{undone}
use Rattle.file_store.proofs.description_table.DescriptionTable.undo_add.Goals as goal

pub invariant_of-self : goal.invariant_of-self
invariant_of-self c =
    let r = c.requires in
    let entries = c.remove.ensures.entries ∙ ap (λ (n : ℕ). remove_entry (is_at (nat_cmp n)) c.self.inside.descriptions.entries) c.number-id.ensures ∙ ap (λ (t : Table Description). remove_entry (is_at (nat_cmp c.args.id)) t.entries) c.self.view_is ∙ undone c.args.self.now c.args.id r.0 r.1 r.2 r.3 r.4 in
    λ id some. rw (c.number-id.ensures, r.3) (r.2 id (rw entries at some))

pub returns : goal.returns
returns c = λ before description fresh e added_to.
    let entries = c.remove.ensures.entries ∙ ap (λ (n : ℕ). remove_entry (is_at (nat_cmp n)) c.self.inside.descriptions.entries) c.number-id.ensures ∙ ap (λ (t : Table Description). remove_entry (is_at (nat_cmp c.args.id)) t.entries) c.self.view_is ∙ undone c.args.self.now c.args.id before description fresh e added_to in
    ap₂ (λ (es : List (ℕ × Description)) (n : ℕ). record { entries = es; next = n }) entries (c.number-id.ensures ∙ e)
