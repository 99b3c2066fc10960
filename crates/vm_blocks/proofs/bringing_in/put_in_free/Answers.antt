use Rattle.std.proofs.Common.{ℕ, List, Err, refl, sym, ap, subst, ◌∙◌}
use Rattle.std.specs.Prelude.{Result, IfErr}
use Rattle.std.specs.List.{list_any}
use Rattle.std.proofs.lemmas.Bool.{true≢false}
use Rattle.std.proofs.lemmas.Result.{err_from_is_err_and}
use Rattle.geos_model.specs.Document.{Block, handles_of, is_live, with_blocks}
use Rattle.document_file.specs.Members.{imaged_blocks}
use Rattle.vm_blocks.proofs.Marking.{on_err_always}
use Rattle.vm_blocks.specs.Incoming.{IsObstacle}
use Rattle.vm_blocks.specs.declared.in_memory.Obstacle.{Obstacle}
use Rattle.vm_blocks.proofs.BringingIn.{brought_by, free_names, lacks_put, none_live, stays_by}
use Rattle.vm_blocks.proofs.KeepingLaws.{keeps-refl}
use Rattle.vm_blocks.proofs.bringing_in.put_in_free.Goals as goal

-- one of the handles is live

pub returns-then-has_live-clause-err : goal.returns-then-has_live-clause-err
returns-then-has_live-clause-err g c = keeps-refl g.S.Store.facts c.args.blocks.now

pub returns-then-has_live-clause-sure : goal.returns-then-has_live-clause-sure
returns-then-has_live-clause-sure g c = λ none.
    let live = λ (ps : List (ℕ × Block)). list_any (is_live c.args.blocks.now.document) (handles_of ps) in
    absurd (true≢false (sym c.if-has_live.true ∙ c.has_live.ensures ∙ ap live none))

-- none is

pub put_in-requires : goal.put_in-requires
put_in-requires g c =
    let d = c.args.blocks.now.document in
    let hs = handles_of (imaged_blocks c.args.members.now.list.items) in
    free_names (g.S.Store.facts c.args.blocks.now.disk.store).honest d c.reveal_invariant.ensures.listed hs (record { handles = c.requires.handles; distinct = c.requires.distinct })
    (none_live d hs (sym c.has_live.ensures ∙ c.if-has_live.false))

pub returns-in_err-put_in-clause-err : goal.returns-in_err-put_in-clause-err
returns-in_err-put_in-clause-err g c = on_err_always c.from_residual.result c.in_err-put_in.ensures.turns.err

pub returns-in_err-put_in-clause-refusals : goal.returns-in_err-put_in-clause-refusals
returns-in_err-put_in-clause-refusals g c =
    let facts = g.S.Store.facts in
    let old = c.args.blocks.now in
    let new = c.put_in.new.self in
    let e = err_from_is_err_and c.from_residual.result c.from_residual.ensures.1 in
    subst (λ (r : Result (Unit {0}) Obstacle). IfErr r (IsObstacle facts old.disk.store new.disk.store)) (sym (e.1 ∙ ap Err e.2))
    (lacks_put facts old c.args.members.now new c.in_err-put_in.field-0.0 c.in_err-put_in.ensures.turns.refusals)

pub returns-in_err-put_in-clause-sure : goal.returns-in_err-put_in-clause-sure
returns-in_err-put_in-clause-sure g c = λ none. absurd (cc (c.in_err-put_in.ensures.turns.sure none tt tt).0)

pub returns-clause-ok : goal.returns-clause-ok
returns-clause-ok g c =
    let old = c.args.blocks.now in
    let hs = handles_of (imaged_blocks c.args.members.now.list.items) in
    brought_by g.S.Store.facts old c.args.members.now c.put_in.new.self c.reveal_invariant.ensures.listed (record { handles = c.requires.handles; distinct = c.requires.distinct })
    (none_live old.document hs (sym c.has_live.ensures ∙ c.if-has_live.false)) c.in_ok-put_in.ensures.turns.ok

pub returns-clause-sure : goal.returns-clause-sure
returns-clause-sure g c = λ none.
    let old = c.args.blocks.now in
    let still = c.in_ok-put_in.ensures.turns.sure none tt tt in
    (refl, stays_by g.S.Store.facts old c.put_in.new.self still.1 (still.2 ∙ ap (with_blocks old.document) none) c.put_in.ensures.resident)
