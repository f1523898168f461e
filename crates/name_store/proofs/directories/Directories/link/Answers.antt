use Rattle.std.proofs.Common.{refl, ◌∙◌}
use Rattle.name_store.specs.declared.operation.Node.TheVariants.{Link}
use Rattle.name_store.proofs.PresenceLemmas.{within}
use Rattle.name_store.proofs.Slots.{grew}
use Rattle.name_store.proofs.directories.Directories.link.Goals as goal

pub returns-clause-ok : goal.returns-clause-ok
returns-clause-ok c =
    grew c.args.self.now c.reserve.new.self.items _ c.args.id c.number.result c.new-made.result c.args.name (λ id. Link id c.args.text) _ _ _ _
    c.number.ensures
    (c.in_ok-reserve.ensures.items ∙ c.self.view_is)
    (c.new-made.ensures ∙ c.next_id.ensures)
    (within c.args.self.now c.args.id c.requires)
    c.index_mut.ensures.value
    c.in_ok-enter_slot.ensures.ok
    refl
    c.push_reserved.ensures.items
