use Rattle.std.proofs.Common.{◌≡◌, Err, Ok, ap, sym, ◌∙◌}
use Rattle.geos_model.specs.Machine.{needs_of_scope}
use Rattle.geos_model.specs.Scope.{Block, Heap, scope_of}
use Rattle.geos_model.specs.Targets.{new_chunk}
use Rattle.vm_blocks.specs.Keeping.{IsEnvironmentFault}
use Rattle.doc_edits.proofs.Loading.{heap_brought}
use Rattle.doc_edits.proofs.Planned.{plans_brought, plans_missed}
use Rattle.doc_edits.proofs.Targets.{heap_scope}
use Rattle.doc_edits.proofs.planning.plan_in_heap.Goals as goal

pub returns-in_err-load_heap : goal.returns-in_err-load_heap
returns-in_err-load_heap g c =
    let a = c.args.blocks.now in let b = c.load_heap.new.self in let h = c.args.handle in let edit = new_chunk h c.args.new in let scope = heap_scope h c.args.new in
    let load = c.in_err-load_heap.ensures in let fault = c.in_err-load_heap.field-0.0 in
    plans_missed g.S.Store.facts edit h (ap needs_of_scope scope) a b load.keeps fault (heap_brought (IsEnvironmentFault g.S.Store.facts a.disk.store b.disk.store) edit a b h (Err fault) scope load.early load.shut load.err load.already) c.from_residual.result c.from_residual.ensures.1

pub returns : goal.returns
returns g c =
    let a = c.args.blocks.now in let b = c.load_heap.new.self in let h = c.args.handle in let edit = new_chunk h c.args.new in let scope = heap_scope h c.args.new in
    let load = c.in_ok-load_heap.ensures in
    plans_brought g.S.Store.facts edit h (ap needs_of_scope scope) a b load.keeps (heap_brought (IsEnvironmentFault g.S.Store.facts a.disk.store b.disk.store) edit a b h (Ok tt) scope load.early load.shut load.err load.already) c.in_ok-load_heap.ensures.ok.0
    c.plan_new_chunk.result c.plan_new_chunk.ensures (λ x is. let no : Heap h ≡ Block x = sym scope ∙ ap scope_of is in absurd (cc no))
