use Rattle.std.proofs.Common.{◌≡◌, ◌⊎◌, None, Some, inl, inr}
use Rattle.geos_model.specs.Chain.{chain}
use Rattle.geos_model.specs.Document.{IsValid}
use Rattle.geos_model.specs.declared.fault.Fault.TheVariants.{Memory}
use Rattle.vm_blocks.proofs.KeepingLaws.{keeps-refl, keeps-steady, keeps-trans, lacks-memory, steady-honest}
use Rattle.vm_chains.specs.Numbers.{numbers}
use Rattle.vm_chains.specs.Comparing.{AreCompared}
use Rattle.vm_chains.specs.Stepping.{IsAlong}
use Rattle.vm_chains.proofs.Loading.{carried, carried_so, still_room}
use Rattle.vm_chains.proofs.PairedWalks.{both_at_root, equal_if, still_in, stops_later}
use Rattle.vm_chains.proofs.StepLemmas.{refused_then}
use Rattle.vm_chains.proofs.comparing.have_same_shape.Goals as goal

pub returns-in_err-first-clause-keeps : goal.returns-in_err-first-clause-keeps
returns-in_err-first-clause-keeps g c = keeps-refl g.S.Store.facts c.args.blocks.now

pub returns-in_err-first-clause-value : goal.returns-in_err-first-clause-value
returns-in_err-first-clause-value g c = λ steady. carried c.from_residual.result Memory _ _ c.from_residual.ensures.1 (inl (lacks-memory g.S.Store.facts c.args.blocks.now.disk.store c.args.blocks.now.disk.store))

pub returns-in_err-first-clause-refusals : goal.returns-in_err-first-clause-refusals
returns-in_err-first-clause-refusals g c = carried_so c.from_residual.result Memory _ c.from_residual.ensures.1 (inl (lacks-memory g.S.Store.facts c.args.blocks.now.disk.store c.args.blocks.now.disk.store))

pub returns-in_err-second-clause-keeps : goal.returns-in_err-second-clause-keeps
returns-in_err-second-clause-keeps g c = keeps-refl g.S.Store.facts c.args.blocks.now

pub returns-in_err-second-clause-value : goal.returns-in_err-second-clause-value
returns-in_err-second-clause-value g c = λ steady. carried c.from_residual-in_err-second.result Memory _ _ c.from_residual-in_err-second.ensures.1 (inl (lacks-memory g.S.Store.facts c.args.blocks.now.disk.store c.args.blocks.now.disk.store))

pub returns-in_err-second-clause-refusals : goal.returns-in_err-second-clause-refusals
returns-in_err-second-clause-refusals g c = carried_so c.from_residual-in_err-second.result Memory _ c.from_residual-in_err-second.ensures.1 (inl (lacks-memory g.S.Store.facts c.args.blocks.now.disk.store c.args.blocks.now.disk.store))

pub returns-in_err-same-clause-value : goal.returns-in_err-same-clause-value
returns-in_err-same-clause-value g c = λ steady.
    let a = c.args.blocks.now in let f = c.args.first_root.0 in let s = c.args.second_root.0 in
    carried c.from_residual-in_err-same.result c.in_err-same.field-0.0 _ _ c.from_residual-in_err-same.ensures.1
    (c.in_err-same.ensures.value f s steady (both_at_root a.document f s c.in_ok-first.first c.in_ok-second.second c.in_ok-first.ensures c.in_ok-second.ensures))

pub returns-in_err-same-clause-refusals : goal.returns-in_err-same-clause-refusals
returns-in_err-same-clause-refusals g c = carried_so c.from_residual-in_err-same.result c.in_err-same.field-0.0 _ c.from_residual-in_err-same.ensures.1 c.in_err-same.ensures.refusals

pub finish-requires : goal.finish-requires
finish-requires g c = record { room = still_room g.S.Store.facts c.args.blocks.now c.are_alike.new.blocks c.are_alike.ensures.keeps c.requires.room }

pub returns-in_err-finish-clause-keeps : goal.returns-in_err-finish-clause-keeps
returns-in_err-finish-clause-keeps g c = keeps-trans g.S.Store.facts c.args.blocks.now c.are_alike.new.blocks c.finish.new.blocks c.are_alike.ensures.keeps c.finish.ensures.keeps

pub returns-in_err-finish-clause-value : goal.returns-in_err-finish-clause-value
returns-in_err-finish-clause-value g c = λ steady.
    let a = c.args.blocks.now in let b = c.are_alike.new.blocks in let e = c.finish.new.blocks in let f = c.args.first_root.0 in let s = c.args.second_root.0 in
    let compared = c.in_ok-same.ensures.value f s steady (both_at_root a.document f s c.in_ok-first.first c.in_ok-second.second c.in_ok-first.ensures c.in_ok-second.ensures) in
    let fault = c.in_err-finish.field-0.0 in
    carried c.from_residual-in_err-finish.result fault _ _ c.from_residual-in_err-finish.ensures.1
    (stops_later g.S.Store.facts a b c.are_alike.ensures.keeps e (chain e.document f ≡ None) ((chain e.document f ≡ None) ⊎ (chain e.document s ≡ None)) fault (λ none. inl none)
    (c.in_err-finish.ensures.value f (keeps-steady g.S.Store.facts a b c.are_alike.ensures.keeps steady) compared.first_along))

pub returns-in_err-finish-clause-refusals : goal.returns-in_err-finish-clause-refusals
returns-in_err-finish-clause-refusals g c =
    carried_so c.from_residual-in_err-finish.result c.in_err-finish.field-0.0 _ c.from_residual-in_err-finish.ensures.1
    (refused_then g.S.Store.facts c.args.blocks.now c.are_alike.new.blocks c.finish.new.blocks c.in_err-finish.field-0.0 c.are_alike.ensures.keeps c.in_err-finish.ensures.refusals)

pub finish-requires-2 : goal.finish-requires-2
finish-requires-2 g c =
    let a = c.args.blocks.now in let b = c.are_alike.new.blocks in let e = c.finish.new.blocks in
    record { room = still_room g.S.Store.facts a e (keeps-trans g.S.Store.facts a b e c.are_alike.ensures.keeps c.finish.ensures.keeps) c.requires.room }

pub returns-in_err-finish-2-clause-keeps : goal.returns-in_err-finish-2-clause-keeps
returns-in_err-finish-2-clause-keeps g c =
    let a = c.args.blocks.now in let b = c.are_alike.new.blocks in let u = c.finish.new.blocks in
    keeps-trans g.S.Store.facts a u c.finish-2.new.blocks (keeps-trans g.S.Store.facts a b u c.are_alike.ensures.keeps c.finish.ensures.keeps) c.finish-2.ensures.keeps

pub returns-in_err-finish-2-clause-value : goal.returns-in_err-finish-2-clause-value
returns-in_err-finish-2-clause-value g c = λ steady.
    let a = c.args.blocks.now in let b = c.are_alike.new.blocks in let u = c.finish.new.blocks in let e = c.finish-2.new.blocks in let f = c.args.first_root.0 in let s = c.args.second_root.0 in
    let compared = c.in_ok-same.ensures.value f s steady (both_at_root a.document f s c.in_ok-first.first c.in_ok-second.second c.in_ok-first.ensures c.in_ok-second.ensures) in
    let fault = c.in_err-finish-2.field-0.0 in let then = keeps-trans g.S.Store.facts a b u c.are_alike.ensures.keeps c.finish.ensures.keeps in
    let along = still_in g.S.Store.facts b u c.finish.ensures.keeps (λ d. IsAlong d s c.are_alike.new.second) (keeps-steady g.S.Store.facts a b c.are_alike.ensures.keeps steady) compared.second_along in
    carried c.from_residual-in_err-finish-2.result fault _ _ c.from_residual-in_err-finish-2.ensures.1
    (stops_later g.S.Store.facts a u then e (chain e.document s ≡ None) ((chain e.document f ≡ None) ⊎ (chain e.document s ≡ None)) fault (λ none. inr none)
    (c.in_err-finish-2.ensures.value s (keeps-steady g.S.Store.facts a u then steady) along))

pub returns-in_err-finish-2-clause-refusals : goal.returns-in_err-finish-2-clause-refusals
returns-in_err-finish-2-clause-refusals g c =
    let a = c.args.blocks.now in let b = c.are_alike.new.blocks in let u = c.finish.new.blocks in
    carried_so c.from_residual-in_err-finish-2.result c.in_err-finish-2.field-0.0 _ c.from_residual-in_err-finish-2.ensures.1
    (refused_then g.S.Store.facts a u c.finish-2.new.blocks c.in_err-finish-2.field-0.0 (keeps-trans g.S.Store.facts a b u c.are_alike.ensures.keeps c.finish.ensures.keeps) c.in_err-finish-2.ensures.refusals)

pub returns-clause-keeps : goal.returns-clause-keeps
returns-clause-keeps g c =
    let a = c.args.blocks.now in let b = c.are_alike.new.blocks in let u = c.finish.new.blocks in
    keeps-trans g.S.Store.facts a u c.finish-2.new.blocks (keeps-trans g.S.Store.facts a b u c.are_alike.ensures.keeps c.finish.ensures.keeps) c.finish-2.ensures.keeps

pub returns-clause-value : goal.returns-clause-value
returns-clause-value g c = λ steady.
    let facts = g.S.Store.facts in
    let a = c.args.blocks.now in let b = c.are_alike.new.blocks in let u = c.finish.new.blocks in let e = c.finish-2.new.blocks in let f = c.args.first_root.0 in let s = c.args.second_root.0 in
    let then = keeps-trans facts a b u c.are_alike.ensures.keeps c.finish.ensures.keeps in
    let at_b = keeps-steady facts a b c.are_alike.ensures.keeps steady in let at_u = keeps-steady facts a u then steady in
    let later = keeps-trans facts b u e c.finish.ensures.keeps c.finish-2.ensures.keeps in
    let compared = c.in_ok-same.ensures.value f s steady (both_at_root a.document f s c.in_ok-first.first c.in_ok-second.second c.in_ok-first.ensures c.in_ok-second.ensures) in
    let along = still_in facts b u c.finish.ensures.keeps (λ d. IsAlong d s c.are_alike.new.second) at_b compared.second_along in
    let valid = still_in facts a e (keeps-trans facts a u e then c.finish-2.ensures.keeps) (λ d. IsValid d) steady (c.reveal_invariant.ensures.document (steady-honest facts a.disk.store steady)) in
    equal_if e.document f s c.in_ok-same.same c.are_alike.new.first c.are_alike.new.second (numbers c.in_ok-finish.field-0.items) (numbers c.in_ok-finish-2.field-0.items) valid
    (still_in facts b e later (λ d. AreCompared d f s c.in_ok-same.same c.are_alike.new.first c.are_alike.new.second) at_b compared)
    (still_in facts u e c.finish-2.ensures.keeps (λ d. chain d f ≡ Some (numbers c.in_ok-finish.field-0.items)) at_u (c.in_ok-finish.ensures.value f at_b compared.first_along))
    (c.in_ok-finish-2.ensures.value s at_u along)
