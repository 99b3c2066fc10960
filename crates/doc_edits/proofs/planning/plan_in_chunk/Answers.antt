use Rattle.std.proofs.Common.{Err, MatchResult, Ok, ap, sym, subst}
use Rattle.geos_model.specs.Machine.{needs_of_scope}
use Rattle.geos_model.specs.Targets.{chunk_edit}
use Rattle.geos_model.specs.declared.target.ChunkEdit.{ChunkEdit}
use Rattle.geos_model.specs.declared.target.ChunkEdit.TheVariants as chunk_edits
use Rattle.vm_blocks.specs.State.{CacheState}
use Rattle.vm_blocks.specs.Keeping.{IsEnvironmentFault}
use Rattle.doc_edits.specs.Planning.{Plans, PlansEdit, RefusesInMemory}
use Rattle.doc_edits.proofs.Loading.{chunk_brought}
use Rattle.doc_edits.proofs.Planned.{plans_chunk, plans_missed}
use Rattle.doc_edits.proofs.Targets.{chunk_scope}
use Rattle.doc_edits.proofs.planning.plan_in_chunk.Goals as goal

pub returns-in_err-load_heap : goal.returns-in_err-load_heap
returns-in_err-load_heap g c =
    let a = c.args.blocks.now in let b = c.load_heap.new.self in let h = c.args.handle in let k = c.args.chunk in let load = c.in_err-load_heap.ensures in let fault = c.in_err-load_heap.field-0.0 in
    plans_missed g.S.Store.facts (chunk_edit h k c.args.edit) h (ap needs_of_scope (chunk_scope h k c.args.edit)) a b load.keeps fault (chunk_brought (IsEnvironmentFault g.S.Store.facts a.disk.store b.disk.store) (chunk_edit h k c.args.edit) a b h (Err fault) k (chunk_scope h k c.args.edit) load.early load.shut load.err load.already) c.from_residual.result c.from_residual.ensures.1

pub returns-in-Free : goal.returns-in-Free
returns-in-Free g c =
    let a = c.args.blocks.now in let b = c.load_heap.new.self in let h = c.args.handle in let k = c.args.chunk in let load = c.in_ok-load_heap.ensures in let r = c.plan_free_chunk.result in
    subst (λ (e : ChunkEdit). PlansEdit g.S.Store.facts a b (chunk_edit h k e) r) (sym c.in-Free.is)
    (plans_chunk g.S.Store.facts h k chunk_edits.Free a b load.keeps (chunk_brought (IsEnvironmentFault g.S.Store.facts a.disk.store b.disk.store) (chunk_edit h k chunk_edits.Free) a b h (Ok tt) k (chunk_scope h k chunk_edits.Free) load.early load.shut load.err load.already) load.ok.0 r c.plan_free_chunk.ensures)

pub returns-in-Bytes : goal.returns-in-Bytes
returns-in-Bytes g c =
    let a = c.args.blocks.now in let b = c.load_heap.new.self in let h = c.args.handle in let k = c.args.chunk in let load = c.in_ok-load_heap.ensures in let r = c.plan_bytes.result in let edit : ChunkEdit = chunk_edits.Bytes c.in-Bytes.edit in
    subst (λ (e : ChunkEdit). PlansEdit g.S.Store.facts a b (chunk_edit h k e) r) (sym c.in-Bytes.is)
    (plans_chunk g.S.Store.facts h k edit a b load.keeps (chunk_brought (IsEnvironmentFault g.S.Store.facts a.disk.store b.disk.store) (chunk_edit h k edit) a b h (Ok tt) k (chunk_scope h k edit) load.early load.shut load.err load.already) load.ok.0 r c.plan_bytes.ensures)

-- the test leaves the blocks as they are
pub returns-in-Array : goal.returns-in-Array
returns-in-Array g c =
    let a = c.args.blocks.now in let b = c.load_heap.new.self in let h = c.args.handle in let k = c.args.chunk in let load = c.in_ok-load_heap.ensures in let r = c.plan_array.result in let edit : ChunkEdit = chunk_edits.Array c.in-Array.edit in let same = c.test_edited.ensures in
    let planned = subst (λ (x : CacheState g.row.S.Denot). MatchResult r (λ p. Plans (chunk_edit h k edit) x.document p.0 p.1) (RefusesInMemory (chunk_edit h k edit) x.document)) same c.plan_array.ensures in
    subst (λ (e : ChunkEdit). PlansEdit g.S.Store.facts a c.test_edited.new.blocks (chunk_edit h k e) r) (sym c.in-Array.is)
    (subst (λ (x : CacheState g.row.S.Denot). PlansEdit g.S.Store.facts a x (chunk_edit h k edit) r) (sym same)
    (plans_chunk g.S.Store.facts h k edit a b load.keeps (chunk_brought (IsEnvironmentFault g.S.Store.facts a.disk.store b.disk.store) (chunk_edit h k edit) a b h (Ok tt) k (chunk_scope h k edit) load.early load.shut load.err load.already) load.ok.0 r planned))
