use Rattle.std.proofs.Common.{sym, subst, ◌∙◌}
use Rattle.geos_model.specs.Document.{is_heap, IsTyped}
use Rattle.chunk_edits.specs.declared.direction.Direction.{Direction}
use Rattle.chunk_edits.specs.declared.direction.Direction.TheVariants.{Forwards, Backwards}
use Rattle.vm_blocks.specs.InMemory.{IsReversible}
use Rattle.vm_blocks.specs.declared.change.Change.{Change}
use Rattle.vm_blocks.proofs.Reversing.{attributes_reverse, attributes_reverse_back, part_reverses, same_attributes}
use Rattle.vm_blocks.proofs.in_memory.is_reversible.Goals as goal

pub returns-in-Part-clause-yes : goal.returns-in-Part-clause-yes
returns-in-Part-clause-yes g c = λ yes.
    subst (λ (x : Change). IsReversible c.args.direction x c.args.blocks.now) (sym c.in-Part.is)
    (part_reverses c.args.direction c.in-Part.handle c.in-Part.part c.args.blocks.now (c.is_reversible_part.ensures.yes yes))

pub returns-in-Forwards-clause-yes : goal.returns-in-Forwards-clause-yes
returns-in-Forwards-clause-yes g c = λ yes.
    let s = c.args.blocks.now in
    let a = c.in-Attributes in
    let is = sym c.attributes.ensures.value ∙ same_attributes c.attributes.result a.old c.eq.result c.eq.ensures yes in
    subst (λ (d : Direction). IsReversible d c.args.change.now s) (sym c.in-Forwards.is)
    (subst (λ (x : Change). IsReversible Forwards x s) (sym a.is)
    (attributes_reverse a.handle a.old a.new s (rw (c.in-Forwards.is, a.is) at c.requires) (subst (IsTyped (is_heap s.document a.handle.0)) c.attributes.ensures.value c.attributes.ensures.typed) is))

pub returns-in-Backwards-clause-yes : goal.returns-in-Backwards-clause-yes
returns-in-Backwards-clause-yes g c = λ yes.
    let s = c.args.blocks.now in
    let a = c.in-Attributes in
    let is = sym c.attributes-in-Backwards.ensures.value ∙ same_attributes c.attributes-in-Backwards.result a.new c.eq-in-Backwards.result c.eq-in-Backwards.ensures yes in
    subst (λ (d : Direction). IsReversible d c.args.change.now s) (sym c.in-Backwards.is)
    (subst (λ (x : Change). IsReversible Backwards x s) (sym a.is)
    (attributes_reverse_back a.handle a.old a.new s (rw (c.in-Backwards.is, a.is) at c.requires) (subst (IsTyped (is_heap s.document a.handle.0)) c.attributes-in-Backwards.ensures.value c.attributes-in-Backwards.ensures.typed) is))
