use Rattle.std.proofs.Common.{ℕ, ◌∷◌, [], ◌==◌, refl, sym, subst}
use Rattle.std.specs.BTreeMap.{get}
use Rattle.std.specs.Ordering.{nat_cmp}
use Rattle.document_stat.specs.Counted.{if_so}
use Rattle.document_stat.specs.Tallies.{AddsItems, AddsIfAny}
use Rattle.document_stat.specs.declared.tally.Subject.TheVariants as subjects
use Rattle.document_stat.specs.declared.tally.Item.{Item}
use Rattle.document_stat.proofs.Adding.{heap_adds}
use Rattle.document_stat.proofs.blocks.BlockStat.add_heap.Goals as goal

pub returns : goal.returns
returns c attributes typed =
    let item : ℕ → Item = λ n. record { subject = subjects.Block c.args.block; size = n } in
    let old = c.args.self.now in
    heap_adds c.args.block.0 attributes c.args.heap.now.chunks old _ refl (subst (λ (n : ℕ). AddsItems (item n ∷ []) old.heaps c.with-self.result) c.need.ensures c.with-self.ensures)
    (λ t.
    subst (λ (n : ℕ). AddsIfAny (if_so (attributes.heap_type == t) (item n)) (get nat_cmp old.types t) (get nat_cmp c.add_type.new.types t)) c.need.ensures
    (subst (λ (k : ℕ). AddsIfAny (if_so (k == t) (item c.need.result)) (get nat_cmp old.types t) (get nat_cmp c.add_type.new.types t)) (sym typed) (c.in_ok-add_type.ensures t)))
    c.with_heap-self.ensures
