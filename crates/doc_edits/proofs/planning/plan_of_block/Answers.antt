use Rattle.std.proofs.Common.{Err, Ok, ap}
use Rattle.geos_model.specs.Machine.{needs_of_scope}
use Rattle.geos_model.specs.Targets.{block_edit}
use Rattle.vm_blocks.specs.Keeping.{IsEnvironmentFault}
use Rattle.doc_edits.proofs.Loading.{block_brought}
use Rattle.doc_edits.proofs.Planned.{plans_brought, plans_missed}
use Rattle.doc_edits.proofs.Targets.{block_scope}
use Rattle.doc_edits.proofs.planning.plan_of_block.Goals as goal

pub returns-in_err-load : goal.returns-in_err-load
returns-in_err-load g c =
    let a = c.args.blocks.now in let b = c.load.new.self in let h = c.args.handle in let edit = block_edit h c.args.edit in let scope = block_scope h c.args.edit in
    let load = c.in_err-load.ensures in let fault = c.in_err-load.field-0.0 in
    plans_missed g.S.Store.facts edit h (ap needs_of_scope scope) a b load.keeps fault (block_brought (IsEnvironmentFault g.S.Store.facts a.disk.store b.disk.store) edit a b h (Err fault) scope load.dead load.shut load.err load.already) c.from_residual.result c.from_residual.ensures.1

pub returns : goal.returns
returns g c =
    let a = c.args.blocks.now in let b = c.load.new.self in let h = c.args.handle in let edit = block_edit h c.args.edit in let scope = block_scope h c.args.edit in
    let load = c.in_ok-load.ensures in
    plans_brought g.S.Store.facts edit h (ap needs_of_scope scope) a b load.keeps (block_brought (IsEnvironmentFault g.S.Store.facts a.disk.store b.disk.store) edit a b h (Ok tt) scope load.dead load.shut load.err load.already) c.in_ok-load.ensures.ok
    c.plan_block.result c.plan_block.ensures.planned c.plan_block.ensures.alone
