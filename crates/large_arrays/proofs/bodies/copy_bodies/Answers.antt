use Rattle.std.proofs.Common.{◌≡◌, false, [], ℕ, List, Vec, Global, take, sym, subst, subst₂, inl, arith}
use Rattle.std.proofs.lemmas.List.{length-map}
use Rattle.geos_model.specs.Document.{is_raw}
use Rattle.geos_model.specs.declared.fault.Fault.TheVariants.{Memory}
use Rattle.vm_blocks.specs.Keeping.{IsEnvironmentFault}
use Rattle.vm_blocks.proofs.KeepingLaws.{keeps-trans, lacks-memory}
use Rattle.vm_chains.proofs.Loading.{carried, carried_so, still_room}
use Rattle.vm_chains.proofs.StepLemmas.{refused_then}
use Rattle.vm_chains.specs.Walking.{Stops}
use Rattle.large_arrays.specs.Spots.{link_handles}
use Rattle.large_arrays.proofs.CopiedBodies.{Copied, copied-none, copied-more, raw-missing, stops_any, uncopied}
use Rattle.large_arrays.proofs.Marking.{handle_at, handles-next, no_link}
use Rattle.large_arrays.proofs.bodies.copy_bodies.Goals as goal

pub loop-link-init : goal.loop-link-init
loop-link-init g c =
    let a = c.args.blocks.now in
    subst (λ (vs : List (Vec ℕ Global)). Copied g.S.Store.facts a a [] vs) (sym c.new-bodies.ensures.items) (copied-none g.S.Store.facts a)

pub copy_body-requires : goal.copy_body-requires
copy_body-requires g c = record { room = still_room g.S.Store.facts c.args.blocks.now c.loop-link.blocks c.loop-link.invariant.keeps c.requires.room }

pub returns-in_err-copy_body-clause-keeps : goal.returns-in_err-copy_body-clause-keeps
returns-in_err-copy_body-clause-keeps g c = keeps-trans g.S.Store.facts c.args.blocks.now c.loop-link.blocks c.copy_body.new.blocks c.loop-link.invariant.keeps c.copy_body.ensures.keeps

pub returns-in_err-copy_body-clause-value : goal.returns-in_err-copy_body-clause-value
returns-in_err-copy_body-clause-value g c = λ steady.
    let a = c.args.blocks.now in let b = c.loop-link.blocks in let e = c.copy_body.new.blocks in let links = c.args.links.now in let i : ℕ = c.loop-link.link-index in
    let lacks = IsEnvironmentFault g.S.Store.facts b.disk.store e.disk.store in let fault = c.in_err-copy_body.field-0.0 in
    let long = length-map links (λ l. l.handle.0) in let low = c.loop-link-test.true in
    let here = subst (λ (h : ℕ). Stops lacks (is_raw e.document h ≡ false) fault) (sym (handle_at links i no_link low)) c.in_err-copy_body.ensures.value in
    carried c.from_residual.result fault _ _ c.from_residual.ensures.1
    (uncopied g.S.Store.facts a b e (take i (link_handles links)) c.loop-link.bodies.items c.loop-link.invariant c.copy_body.ensures.keeps (link_handles links) fault
    (raw-missing lacks e.document (link_handles links) i fault (omega (arith, long, low)) here))

pub returns-in_err-copy_body-clause-refusals : goal.returns-in_err-copy_body-clause-refusals
returns-in_err-copy_body-clause-refusals g c =
    let a = c.args.blocks.now in let b = c.loop-link.blocks in let e = c.copy_body.new.blocks in
    carried_so c.from_residual.result c.in_err-copy_body.field-0.0 _ c.from_residual.ensures.1
    (refused_then g.S.Store.facts a b e c.in_err-copy_body.field-0.0 c.loop-link.invariant.keeps
    (stops_any (IsEnvironmentFault g.S.Store.facts b.disk.store e.disk.store) _ c.in_err-copy_body.field-0.0 c.in_err-copy_body.ensures.value))

pub returns-in_err-push-clause-keeps : goal.returns-in_err-push-clause-keeps
returns-in_err-push-clause-keeps g c = keeps-trans g.S.Store.facts c.args.blocks.now c.loop-link.blocks c.copy_body.new.blocks c.loop-link.invariant.keeps c.copy_body.ensures.keeps

pub returns-in_err-push-clause-value : goal.returns-in_err-push-clause-value
returns-in_err-push-clause-value g c = λ steady.
    carried c.from_residual-in_err-push.result Memory _ _ c.from_residual-in_err-push.ensures.1 (inl (lacks-memory g.S.Store.facts c.args.blocks.now.disk.store c.copy_body.new.blocks.disk.store))

pub returns-in_err-push-clause-refusals : goal.returns-in_err-push-clause-refusals
returns-in_err-push-clause-refusals g c =
    carried_so c.from_residual-in_err-push.result Memory _ c.from_residual-in_err-push.ensures.1 (inl (lacks-memory g.S.Store.facts c.args.blocks.now.disk.store c.copy_body.new.blocks.disk.store))

pub loop-link-preserved : goal.loop-link-preserved
loop-link-preserved g c =
    let a = c.args.blocks.now in let b = c.loop-link.blocks in let e = c.copy_body.new.blocks in let links = c.args.links.now in let i : ℕ = c.loop-link.link-index in
    subst₂ (λ (hs : List ℕ) (vs : List (Vec ℕ Global)). Copied g.S.Store.facts a e hs vs) (sym (handles-next links i no_link c.loop-link-test.true)) (sym c.in_ok-push.ensures.items)
    (copied-more g.S.Store.facts a b e (take i (link_handles links)) c.loop-link.bodies.items c.loop-link.invariant c.copy_body.ensures.keeps _ c.in_ok-copy_body.field-0
    c.in_ok-copy_body.ensures.value c.in_ok-copy_body.ensures.short)
