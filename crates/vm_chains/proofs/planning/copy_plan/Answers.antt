use Rattle.std.proofs.Common.{◌≡◌, ◌⊎◌, ◌<◌, ◌≤◌, ℕ, List, Some, min, true, false, nat_lt, length, length-take, sym, ap, subst, ◌∙◌, inl, inr, arith}
use Rattle.std.proofs.lemmas.Bool.{le-ltb, lt-ltb}
use Rattle.std.proofs.lemmas.List.{length-map}
use Rattle.std.proofs.lemmas.Result.{IfOk-weaker}
use Rattle.geos_model.specs.Chain.{chain, chain_blocks, copies_of, copy_conditions, free_handles, new_handles, renamed_blocks}
use Rattle.geos_model.specs.Document.{Document, is_raw}
use Rattle.geos_model.specs.declared.fault.Fault.TheVariants.{Memory, NoHandles}
use Rattle.geos_model.specs.declared.handle.VmHandle.{VmHandle}
use Rattle.vm_blocks.specs.Keeping.{IsEnvironmentFault}
use Rattle.vm_blocks.specs.Kinds.{IsWrongBlock}
use Rattle.document_file.specs.Members.{imaged_blocks}
use Rattle.vm_blocks.proofs.KeepingLaws.{keeps-unless_corrupt, keeps-refl, keeps-same, keeps-trans, lacks-memory}
use Rattle.vm_chains.specs.Answers.{IsChainFault}
use Rattle.vm_chains.specs.Numbers.{numbers}
use Rattle.vm_chains.specs.Walking.{AreBlocks}
use Rattle.vm_chains.proofs.Carrying.{copy_applies, copy_some}
use Rattle.vm_chains.proofs.ChainLemmas.{blocks_are}
use Rattle.vm_chains.proofs.Loading.{carried, carried_so, still_room}
use Rattle.vm_chains.proofs.Refusals.{by_handles, copy_refused}
use Rattle.vm_chains.proofs.Walked.{members_on, read_on, refused_on}
use Rattle.vm_chains.proofs.planning.copy_plan.Goals as goal

-- how many free handles there are, by as many as were found
many_free : (d : Document) (wanted : ℕ) (new : List VmHandle) → numbers new ≡ new_handles d wanted → length new ≡ min wanted (length (free_handles d))
many_free d wanted new found = sym (length-map new (λ h. h.0)) ∙ ap (λ (xs : List ℕ). length xs) found ∙ length-take wanted (free_handles d)

many_met : (d : Document) (root : ℕ) (hs : List VmHandle) → chain d root ≡ Some (numbers hs) → length (chain_blocks d root) ≡ length hs
many_met d root hs is = ap (λ (xs : List ℕ). length xs) (blocks_are d root (numbers hs) is) ∙ length-map hs (λ h. h.0)

too_few : (d : Document) (root wanted : ℕ) (hs new : List VmHandle) → chain d root ≡ Some (numbers hs) → numbers new ≡ new_handles d wanted → wanted ≡ length hs → length new < length hs → nat_lt (length (free_handles d)) (length (chain_blocks d root)) ≡ true
too_few d root wanted hs new is found all few =
    let free : length (free_handles d) < length (chain_blocks d root) = omega (arith, many_free d wanted new found, many_met d root hs is, all, few) in
    lt-ltb (length (free_handles d)) (length (chain_blocks d root)) free

enough : (d : Document) (root wanted : ℕ) (hs new : List VmHandle) → chain d root ≡ Some (numbers hs) → numbers new ≡ new_handles d wanted → wanted ≡ length hs → length hs ≤ length new → nat_lt (length (free_handles d)) (length (chain_blocks d root)) ≡ false
enough d root wanted hs new is found all many =
    let free : length (chain_blocks d root) ≤ length (free_handles d) = omega (arith, many_free d wanted new found, many_met d root hs is, all, many) in
    le-ltb (length (free_handles d)) (length (chain_blocks d root)) free

pub returns-in_err-handles-clause-value : goal.returns-in_err-handles-clause-value
returns-in_err-handles-clause-value g c = λ steady.
    carried c.from_residual.result c.in_err-handles.field-0.0 _ _ c.from_residual.ensures.1
    (copy_refused c.walk.new.blocks.document c.args.root.0 (IsEnvironmentFault g.S.Store.facts c.args.blocks.now.disk.store c.walk.new.blocks.disk.store) c.in_err-handles.field-0.0 (c.in_err-handles.ensures.value steady))

pub returns-in_err-handles-clause-refusals : goal.returns-in_err-handles-clause-refusals
returns-in_err-handles-clause-refusals g c =
    let fault = c.in_err-handles.field-0.0 in
    carried_so c.from_residual.result fault _ c.from_residual.ensures.1
    (elim c.in_err-handles.ensures.refusals as (λ _. IsEnvironmentFault g.S.Store.facts c.args.blocks.now.disk.store c.walk.new.blocks.disk.store fault ⊎ IsChainFault (IsWrongBlock is_raw c.args.blocks.now.document c.args.root.0) fault ⊎ (fault ≡ NoHandles)) [
      | inl lacks ↦ inl lacks
      | inr of_chain ↦ inr (inl of_chain)
    ])

pub returns-in_err-new-clause-value : goal.returns-in_err-new-clause-value
returns-in_err-new-clause-value g c = λ steady. carried c.from_residual-in_err-new.result Memory _ _ c.from_residual-in_err-new.ensures.1 (inl (lacks-memory g.S.Store.facts c.args.blocks.now.disk.store c.walk.new.blocks.disk.store))

pub returns-in_err-new-clause-refusals : goal.returns-in_err-new-clause-refusals
returns-in_err-new-clause-refusals g c = carried_so c.from_residual-in_err-new.result Memory _ c.from_residual-in_err-new.ensures.1 (inl (lacks-memory g.S.Store.facts c.args.blocks.now.disk.store c.walk.new.blocks.disk.store))

pub copies-requires-clause-live : goal.copies-requires-clause-live
copies-requires-clause-live g c = subst (AreBlocks c.walk.new.blocks.document) (sym c.deref.ensures.value) c.in_ok-handles.ensures.live

pub copies-requires-clause-members : goal.copies-requires-clause-members
copies-requires-clause-members g c =
    members_on g.S.Store.facts c.args.blocks.now c.walk.new.blocks c.walk.new.blocks c.walk.ensures.keeps (keeps-refl g.S.Store.facts c.walk.new.blocks) c.args.root.0 c.in_ok-handles.handles.items c.deref.result.now c.deref.ensures.value c.in_ok-handles.ensures.members

pub returns-clause-keeps : goal.returns-clause-keeps
returns-clause-keeps g c = keeps-trans g.S.Store.facts c.args.blocks.now c.walk.new.blocks c.copies.new.blocks c.walk.ensures.keeps c.copies.ensures.keeps

pub returns-clause-value : goal.returns-clause-value
returns-clause-value g c =
    let b = c.walk.new.blocks in let e = c.copies.new.blocks in let root = c.args.root.0 in
    let hs = c.in_ok-handles.handles.items in let new = c.in_ok-new.new.items in
    let wanted : c.len.result ≡ length hs = omega (arith, c.len.ensures, c.in_ok-handles.handles.ok.0) in
    let many : length hs ≤ length new = omega (arith, wanted, c.in_ok-new.new.ok.0) in
    let here : c.len.result ≡ length (numbers c.deref.result.now) = wanted ∙ sym (ap (λ (xs : List VmHandle). length (numbers xs)) c.deref.ensures.value ∙ length-map hs (λ h. h.0)) in
    read_on g.S.Store.facts c.args.blocks.now b e c.walk.ensures.keeps c.copies.ensures.keeps root hs c.deref.result.now c.deref.ensures.value
    (λ d. copy_conditions d root) (λ d xs plan. imaged_blocks plan.list.items ≡ copies_of d xs) c.copies.result
    (λ steady. by_handles b.document root false (enough b.document root c.len.result hs new (c.in_ok-handles.ensures.value steady).1 c.in_ok-new.ensures wanted many) (c.in_ok-handles.ensures.value steady).0)
    (λ steady. (c.in_ok-handles.ensures.value steady).1)
    (λ steady. IfOk-weaker c.copies.result (λ plan. imaged_blocks plan.list.items ≡ renamed_blocks e.document (numbers c.deref.result.now) (numbers c.deref-2.result.now)) (λ plan. imaged_blocks plan.list.items ≡ copies_of e.document (numbers c.deref.result.now))
    (λ plan is. is ∙ ap (λ (xs : List ℕ). renamed_blocks e.document (numbers c.deref.result.now) xs)
    (ap numbers c.deref-2.ensures.value ∙ c.in_ok-new.ensures ∙ (λ j. let back = sym (keeps-same g.S.Store.facts b e c.copies.ensures.keeps steady) in new_handles (back j) (here j))))
    (c.copies.ensures.value steady))
    c.copies.ensures.refusals

pub returns-clause-applies : goal.returns-clause-applies
returns-clause-applies g c =
    let b = c.walk.new.blocks in let e = c.copies.new.blocks in let new = c.deref-2.result.now in
    let found : numbers new ≡ new_handles b.document c.len.result = ap numbers c.deref-2.ensures.value ∙ c.in_ok-new.ensures in
    let many : c.len.result ≤ length new = omega (arith, c.len.ensures, c.in_ok-new.new.ok.0, ap (λ (xs : List VmHandle). length xs) c.deref-2.ensures.value) in
    copy_applies (g.S.Store.facts b.disk.store).honest b.document e.document c.len.result new c.copies.result (keeps-unless_corrupt g.S.Store.facts b e c.copies.ensures.keeps) found many c.copies.ensures.handles

pub returns-clause-some : goal.returns-clause-some
returns-clause-some g c =
    let hs = c.in_ok-handles.handles.items in let new = c.deref-2.result.now in
    let many : length hs ≤ length new = omega (arith, c.len.ensures, c.in_ok-handles.handles.ok.0, c.in_ok-new.new.ok.0, ap (λ (xs : List VmHandle). length xs) c.deref-2.ensures.value) in
    copy_some c.args.root.0 hs new c.copies.result c.in_ok-handles.ensures.root many c.copies.ensures.handles

pub returns-clause-refusals : goal.returns-clause-refusals
returns-clause-refusals g c =
    refused_on g.S.Store.facts c.args.blocks.now c.walk.new.blocks c.copies.new.blocks c.walk.ensures.keeps c.copies.ensures.keeps (λ fault. IsChainFault (IsWrongBlock is_raw c.args.blocks.now.document c.args.root.0) fault ⊎ (fault ≡ NoHandles)) c.copies.result c.copies.ensures.refusals
