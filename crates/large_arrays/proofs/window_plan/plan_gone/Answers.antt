use Rattle.std.proofs.Common.{◌≡◌, ◌≤◌, ◌∷◌, ◌++◌, ◌<◌, ◌∙◌, [], ℕ, List, true, length, take, get_or, Some, Vec, Global, sym, ap, subst, arith}
use Rattle.std.proofs.lemmas.List.{get_or-map, length-map, map-append, take_all}
use Rattle.std.proofs.lemmas.List.Elements.{Contains-get_or}
use Rattle.std.proofs.lemmas.Result.{IfOk-weaker}
use Rattle.std.specs.List.{All, Contains}
use Rattle.std.specs.FinMap.{get}
use Rattle.geos_model.specs.Document.{Block, Document, handles_of, is_live}
use Rattle.geos_model.specs.declared.handle.VmHandle.{VmHandle}
use Rattle.document_file.specs.Members.{imaged_block, imaged_blocks}
use Rattle.document_file.specs.declared.member.Member.{Member}
use Rattle.vm_chains.specs.Numbers.{numbers}
use Rattle.vm_chains.proofs.Planned.{handles_more}
use Rattle.vm_blocks.specs.Preparing.{CanRemoveByHandle}
use Rattle.large_arrays.specs.HandleLists.{old_handles}
use Rattle.large_arrays.specs.ChangePlans.{ArePlanned, ArePlannedByHandle}
use Rattle.large_arrays.proofs.GoneBlocks.{gone-all, live-few, stand_more}
use Rattle.large_arrays.proofs.window_plan.plan_gone.Goals as goal

abbrev no_handle : VmHandle
no_handle = record { 0 = 0 }

-- the blocks that were put together are those that go
all_gone : (ms : List Member) (freed : List VmHandle) (k : ℕ) → handles_of (imaged_blocks ms) ≡ numbers (take k freed) → length freed ≤ k → handles_of (imaged_blocks ms) ≡ numbers freed
all_gone ms freed k so_far past = so_far ∙ ap (λ (hs : List VmHandle). numbers hs) (take_all k freed past)

many_gone : (ms : List Member) (freed : List VmHandle) → handles_of (imaged_blocks ms) ≡ numbers freed → length ms ≡ length (numbers freed)
many_gone ms freed are =
    sym (length-map ms (λ (m : Member). (m.handle.0, imaged_block m.block))) ∙ sym (length-map (imaged_blocks ms) (λ (p : ℕ × Block). p.0)) ∙ ap (λ (hs : List ℕ). length hs) are

-- the block of a member stands under its handle
member_stands : (d : Document) (m : Member) (h : VmHandle) → m.handle ≡ h → get d.blocks h.0 ≡ Some (imaged_block m.block) → get d.blocks m.handle.0 ≡ Some (imaged_block m.block)
member_stands d m h is stands = ap (λ (x : VmHandle). get d.blocks x.0) is ∙ stands

pub gone_block-requires : goal.gone_block-requires
gone_block-requires g c =
    let d = c.args.blocks.now.document in
    let freed = c.args.freed.now in
    let k = c.loop-handle.handle-index in
    let low : k < length freed = omega arith in
    let long = length-map freed (λ (h : VmHandle). h.0) in
    let within : k < length (numbers freed) = omega (arith, long, low) in
    let at : get_or (numbers freed) k 0 ≡ (get_or freed k no_handle).0 = get_or-map (λ (h : VmHandle). h.0) freed k no_handle 0 low in
    record {
      live = subst (λ (h : ℕ). is_live d h ≡ true) at (c.requires.gone.can.live k 0 within);
      old = subst (Contains (old_handles c.args.gathered.now.olds.items)) at (c.requires.gone.olds (get_or (numbers freed) k 0) (Contains-get_or (numbers freed) k 0 within));
      bodies = c.requires.bodies;
      short = c.requires.short;
    }

pub loop-handle-preserved : goal.loop-handle-preserved
loop-handle-preserved g c =
    let d = c.args.blocks.now.document in
    let ms = c.loop-handle.gone.items in
    let m = c.in_ok-gone_block.field-0 in
    let freed = c.args.freed.now in
    let k = c.loop-handle.handle-index in
    let pushed : c.push.new.self.items ≡ ms ++ m ∷ [] = c.in_ok-push.ensures.items in
    record {
      handles =
          ap (λ (xs : List Member). handles_of (imaged_blocks xs)) pushed
          ∙ handles_more ms m k freed no_handle (omega arith) c.in_ok-gone_block.ensures.handle c.loop-handle.invariant.handles;
      stand = λ all.
          subst (λ (xs : List Member). All (λ p. get d.blocks p.0 ≡ Some p.1) (imaged_blocks xs)) (sym pushed)
          (subst (All (λ p. get d.blocks p.0 ≡ Some p.1)) (sym (map-append (λ (x : Member). (x.handle.0, imaged_block x.block)) ms (m ∷ [])))
          (stand_more d (imaged_blocks ms) (m.handle.0, imaged_block m.block) (c.loop-handle.invariant.stand all)
          (member_stands d m (get_or freed k no_handle) c.in_ok-gone_block.ensures.handle (c.in_ok-gone_block.ensures.stands all))));
    }

pub new-requires : goal.new-requires
new-requires g c =
    let d = c.args.blocks.now.document in
    let ms = c.loop-handle.gone.items in
    let freed = c.args.freed.now in
    let are = all_gone ms freed c.loop-handle.handle-index c.loop-handle.invariant.handles (omega arith) in
    let few = live-few d (numbers freed) c.reveal_invariant.ensures.listed.handles c.requires.gone.can in
    let many = many_gone ms freed are in
    omega arith

pub returns-clause-planned : goal.returns-clause-planned
returns-clause-planned g c =
    let d = c.args.blocks.now.document in
    let ms = c.loop-handle.gone.items in
    let freed = c.args.freed.now in
    let are = all_gone ms freed c.loop-handle.handle-index c.loop-handle.invariant.handles (omega arith) in
    let same = ap (λ (v : Vec Member Global). imaged_blocks v.items) c.new.ensures in
    IfOk-weaker c.plan_freeing.result _ _ (λ changes planned all.
    subst (λ (hs : List ℕ). ArePlanned changes.items d hs []) (ap handles_of same ∙ are)
    (planned d (gone-all d (imaged_blocks c.new.result.list.items)
    (subst (All (λ p. get d.blocks p.0 ≡ Some p.1)) (sym same) (c.loop-handle.invariant.stand all))
    (subst (CanRemoveByHandle d) (sym (ap handles_of same ∙ are)) c.requires.gone.can))))
    c.plan_freeing.ensures.planned

pub returns-clause-listed : goal.returns-clause-listed
returns-clause-listed g c =
    let ms = c.loop-handle.gone.items in
    let freed = c.args.freed.now in
    let are = all_gone ms freed c.loop-handle.handle-index c.loop-handle.invariant.handles (omega arith) in
    let same = ap (λ (v : Vec Member Global). handles_of (imaged_blocks v.items)) c.new.ensures in
    IfOk-weaker c.plan_freeing.result _ _ (λ changes listed d can.
    subst (λ (hs : List ℕ). ArePlannedByHandle changes.items d hs []) (same ∙ are) (listed d (subst (CanRemoveByHandle d) (sym (same ∙ are)) can)))
    c.plan_freeing.ensures.listed
