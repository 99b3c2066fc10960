use Rattle.std.proofs.Common.{◌≡◌, Err, Ok, ap, sym, ◌∙◌}
use Rattle.geos_model.specs.Machine.{needs_of_scope}
use Rattle.geos_model.specs.Scope.{Block, Raw, scope_of}
use Rattle.geos_model.specs.Targets.{raw_edit}
use Rattle.vm_blocks.specs.Keeping.{IsEnvironmentFault}
use Rattle.doc_edits.proofs.Loading.{raw_brought}
use Rattle.doc_edits.proofs.Planned.{plans_brought, plans_missed}
use Rattle.doc_edits.proofs.Targets.{raw_scope}
use Rattle.doc_edits.proofs.planning.plan_in_raw.Goals as goal

pub returns-in_err-load_raw : goal.returns-in_err-load_raw
returns-in_err-load_raw g c =
    let a = c.args.blocks.now in let b = c.load_raw.new.self in let h = c.args.handle in let edit = raw_edit h c.args.edit in let scope = raw_scope h c.args.edit in
    let load = c.in_err-load_raw.ensures in let fault = c.in_err-load_raw.field-0.0 in
    plans_missed g.S.Store.facts edit h (ap needs_of_scope scope) a b load.keeps fault (raw_brought (IsEnvironmentFault g.S.Store.facts a.disk.store b.disk.store) edit a b h (Err fault) scope load.early load.shut load.err load.already) c.from_residual.result c.from_residual.ensures.1

pub returns : goal.returns
returns g c =
    let a = c.args.blocks.now in let b = c.load_raw.new.self in let h = c.args.handle in let edit = raw_edit h c.args.edit in let scope = raw_scope h c.args.edit in
    let load = c.in_ok-load_raw.ensures in
    plans_brought g.S.Store.facts edit h (ap needs_of_scope scope) a b load.keeps (raw_brought (IsEnvironmentFault g.S.Store.facts a.disk.store b.disk.store) edit a b h (Ok tt) scope load.early load.shut load.err load.already) c.in_ok-load_raw.ensures.ok.0
    c.plan_raw.result c.plan_raw.ensures (λ x is. let no : Raw h ≡ Block x = sym scope ∙ ap scope_of is in absurd (cc no))
