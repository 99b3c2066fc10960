use Rattle.std.proofs.Common.{◌≡◌, ◌∙◌, ◌∷◌, ℕ, List, refl, sym, ap, subst, inl, inr, arith}
use Rattle.geos_model.specs.Document.{Document}
use Rattle.geos_model.specs.ElementArray.{all_distinct}
use Rattle.geos_model.specs.declared.fault.Fault.TheVariants.{Memory}
use Rattle.vm_blocks.specs.Keeping.{IsEnvironmentFault}
use Rattle.vm_blocks.proofs.KeepingLaws.{keeps-steady, keeps-trans, lacks-later, lacks-memory}
use Rattle.vm_chains.proofs.Loading.{carried, carried_so, still_room}
use Rattle.geos_model.specs.LargeLayout.{Root}
use Rattle.large_arrays.specs.Spots.{link_handles}
use Rattle.large_arrays.specs.LargeRuns.{IsReadable, IsRunRefused, IsReadSpot}
use Rattle.large_arrays.specs.declared.spot.BranchLink.{BranchLink}
use Rattle.large_arrays.proofs.ElementAnswers.{at-end}
use Rattle.large_arrays.proofs.RunAnswers.{IsFoundRun, root-before-run, read-refused, read-nothing, found-within, found-same, answered-run, run-refusal, copy-refusal, stopped-later}
use Rattle.large_arrays.proofs.runs.read_run.Goals as goal

pub returns-in_err-load_root-clause-value : goal.returns-in_err-load_root-clause-value
returns-in_err-load_root-clause-value g c = λ steady.
    let e = c.load_root.new.blocks in
    carried c.from_residual.result c.in_err-load_root.field-0.0 _ _ c.from_residual.ensures.1
    (elim c.in_err-load_root.ensures.value [
      | inl lack ↦ inl lack
      | inr first ↦ inr (root-before-run e.document c.args.root.0 c.args.i c.args.n c.in_err-load_root.field-0.0 first)
    ])

pub returns-in_err-load_root-clause-refusals : goal.returns-in_err-load_root-clause-refusals
returns-in_err-load_root-clause-refusals g c = carried_so c.from_residual.result c.in_err-load_root.field-0.0 _ c.from_residual.ensures.1 (inl (inl c.in_err-load_root.ensures.refusals))

pub returns-in_err-test_run-clause-value : goal.returns-in_err-test_run-clause-value
returns-in_err-test_run-clause-value g c = λ steady.
    let m = c.load_root.new.blocks in let there = c.in_ok-load_root.ensures.value.1 in let fault = c.in_err-test_run.field-0.0 in
    carried c.from_residual-in_err-test_run.result fault _ _ c.from_residual-in_err-test_run.ensures.1
    (inr (read-refused m.document c.args.root.0 there.root there.raw c.args.i c.args.n fault (subst (λ (r : Root). IsRunRefused r c.args.i c.args.n fault) c.loaded_root.ensures c.in_err-test_run.ensures)))

pub returns-in_err-test_run-clause-refusals : goal.returns-in_err-test_run-clause-refusals
returns-in_err-test_run-clause-refusals g c =
    let a = c.args.blocks.now in let m = c.load_root.new.blocks in let fault = c.in_err-test_run.field-0.0 in
    carried_so c.from_residual-in_err-test_run.result fault _ c.from_residual-in_err-test_run.ensures.1
    (run-refusal (IsEnvironmentFault g.S.Store.facts a.disk.store m.disk.store) c.loaded_root.result a.document c.args.root.0 c.args.i c.args.n fault c.in_err-test_run.ensures)

pub returns-then-n-eq0-clause-value : goal.returns-then-n-eq0-clause-value
returns-then-n-eq0-clause-value g c = λ steady.
    let m = c.load_root.new.blocks in let there = c.in_ok-load_root.ensures.value.1 in
    let nothing = read-nothing m.document c.args.root.0 there.root there.raw c.args.i c.args.n (subst (λ (r : Root). IsReadable r c.args.i c.args.n) c.loaded_root.ensures c.in_ok-test_run.ensures) c.if-n-eq0.true in
    (nothing.0, c.new.ensures.items ∙ nothing.1)

pub returns-in_err-spot-clause-value : goal.returns-in_err-spot-clause-value
returns-in_err-spot-clause-value g c = λ steady.
    carried c.from_residual-in_err-spot.result Memory _ _ c.from_residual-in_err-spot.ensures.1 (inl (lacks-memory g.S.Store.facts c.args.blocks.now.disk.store c.load_root.new.blocks.disk.store))

pub returns-in_err-spot-clause-refusals : goal.returns-in_err-spot-clause-refusals
returns-in_err-spot-clause-refusals g c =
    carried_so c.from_residual-in_err-spot.result Memory _ c.from_residual-in_err-spot.ensures.1 (inl (inl (inl (lacks-memory g.S.Store.facts c.args.blocks.now.disk.store c.load_root.new.blocks.disk.store))))

pub returns-in_err-are_distinct-clause-value : goal.returns-in_err-are_distinct-clause-value
returns-in_err-are_distinct-clause-value g c = λ steady.
    carried c.from_residual-in_err-are_distinct.result Memory _ _ c.from_residual-in_err-are_distinct.ensures.1 (inl (lacks-memory g.S.Store.facts c.args.blocks.now.disk.store c.load_root.new.blocks.disk.store))

pub returns-in_err-are_distinct-clause-refusals : goal.returns-in_err-are_distinct-clause-refusals
returns-in_err-are_distinct-clause-refusals g c =
    carried_so c.from_residual-in_err-are_distinct.result Memory _ c.from_residual-in_err-are_distinct.ensures.1 (inl (inl (inl (lacks-memory g.S.Store.facts c.args.blocks.now.disk.store c.load_root.new.blocks.disk.store))))

pub returns-then-not-branch-clause-value : goal.returns-then-not-branch-clause-value
returns-then-not-branch-clause-value g c = λ steady.
    let a = c.args.blocks.now in let m = c.load_root.new.blocks in let b : ℕ = c.args.root.0 in let there = c.in_ok-load_root.ensures.value.1 in let s = c.in_ok-spot.spot in
    let has : IsFoundRun m.document b c.args.i c.args.n s = record {
      raw = there.raw;
      is = there.root;
      readable = subst (λ (r : Root). IsReadable r c.args.i c.args.n) c.loaded_root.ensures c.in_ok-test_run.ensures;
      some = (let other = c.if-n-eq0.false in omega (arith, other));
      spot = subst (λ (r : Root). IsReadSpot r c.args.i c.args.n s) c.loaded_root-2.ensures c.in_ok-spot.ensures;
    } in
    let distinct : c.in_ok-are_distinct.field-0 ≡ all_distinct (b ∷ link_handles s.links.items) = c.in_ok-are_distinct.ensures ∙ ap (λ (ls : List BranchLink). all_distinct (b ∷ link_handles ls)) c.deref.ensures.value in
    inr (found-same m.document b c.args.i c.args.n s has (sym distinct ∙ c.if-not-branch.true))

pub returns-then-not-branch-clause-refusals : goal.returns-then-not-branch-clause-refusals
returns-then-not-branch-clause-refusals g c = inl (inr (inr refl))

pub copy_run-requires-clause-room : goal.copy_run-requires-clause-room
copy_run-requires-clause-room g c = still_room g.S.Store.facts c.args.blocks.now c.load_root.new.blocks c.load_root.ensures.keeps c.requires.room

pub copy_run-requires-clause-within : goal.copy_run-requires-clause-within
copy_run-requires-clause-within g c =
    let a = c.args.blocks.now in let m = c.load_root.new.blocks in let b : ℕ = c.args.root.0 in let there = c.in_ok-load_root.ensures.value.1 in let s = c.in_ok-spot.spot in
    let has : IsFoundRun m.document b c.args.i c.args.n s = record {
      raw = there.raw;
      is = there.root;
      readable = subst (λ (r : Root). IsReadable r c.args.i c.args.n) c.loaded_root.ensures c.in_ok-test_run.ensures;
      some = (let other = c.if-n-eq0.false in omega (arith, other));
      spot = subst (λ (r : Root). IsReadSpot r c.args.i c.args.n s) c.loaded_root-2.ensures c.in_ok-spot.ensures;
    } in
    found-within m.document b c.args.i c.args.n s has

pub returns-clause-keeps : goal.returns-clause-keeps
returns-clause-keeps g c = keeps-trans g.S.Store.facts c.args.blocks.now c.load_root.new.blocks c.copy_run.new.blocks c.load_root.ensures.keeps c.copy_run.ensures.keeps

pub returns-clause-value : goal.returns-clause-value
returns-clause-value g c = λ steady.
    let a = c.args.blocks.now in let m = c.load_root.new.blocks in let b : ℕ = c.args.root.0 in let there = c.in_ok-load_root.ensures.value.1 in let s = c.in_ok-spot.spot in
    let has : IsFoundRun m.document b c.args.i c.args.n s = record {
      raw = there.raw;
      is = there.root;
      readable = subst (λ (r : Root). IsReadable r c.args.i c.args.n) c.loaded_root.ensures c.in_ok-test_run.ensures;
      some = (let other = c.if-n-eq0.false in omega (arith, other));
      spot = subst (λ (r : Root). IsReadSpot r c.args.i c.args.n s) c.loaded_root-2.ensures c.in_ok-spot.ensures;
    } in
    let e = c.copy_run.new.blocks in
    let distinct : c.in_ok-are_distinct.field-0 ≡ all_distinct (b ∷ link_handles s.links.items) = c.in_ok-are_distinct.ensures ∙ ap (λ (ls : List BranchLink). all_distinct (b ∷ link_handles ls)) c.deref.ensures.value in
    answered-run (λ bytes. bytes.items) (IsEnvironmentFault g.S.Store.facts a.disk.store e.disk.store) e.document b c.args.i c.args.n s c.copy_run.result
    (at-end g.S.Store.facts a m e c.load_root.ensures.keeps c.copy_run.ensures.keeps (λ (d : Document). IsFoundRun d b c.args.i c.args.n s) steady has)
    (sym distinct ∙ c.if-not-branch.false)
    (stopped-later (IsEnvironmentFault g.S.Store.facts m.disk.store e.disk.store) (IsEnvironmentFault g.S.Store.facts a.disk.store e.disk.store) _ _ c.copy_run.result
    (λ fault lack. lacks-later g.S.Store.facts a m e.disk.store fault c.load_root.ensures.keeps lack) (c.copy_run.ensures.value (keeps-steady g.S.Store.facts a m c.load_root.ensures.keeps steady)))

pub returns-clause-refusals : goal.returns-clause-refusals
returns-clause-refusals g c =
    let a = c.args.blocks.now in let m = c.load_root.new.blocks in let e = c.copy_run.new.blocks in
    copy-refusal (IsEnvironmentFault g.S.Store.facts a.disk.store e.disk.store) (IsEnvironmentFault g.S.Store.facts m.disk.store e.disk.store) a.document c.args.root.0 c.copy_run.result
    (λ fault lack. lacks-later g.S.Store.facts a m e.disk.store fault c.load_root.ensures.keeps lack) c.copy_run.ensures.refusals
