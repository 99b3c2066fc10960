use Rattle.std.proofs.Common.{◌≡◌, ◌⊎◌, ◌==◌, ◌∷◌, ◌∙◌, [], ℕ, List, Bool, true, false, length, sym, ap, subst, inl, inr, arith}
use Rattle.std.proofs.lemmas.List.{length-map}
use Rattle.std.specs.List.{AllZip, list_any, zip}
use Rattle.geos_model.specs.Document.{Document}
use Rattle.geos_model.specs.ElementArray.{all_distinct}
use Rattle.geos_model.specs.declared.fault.Fault.{Fault}
use Rattle.geos_model.specs.declared.fault.Fault.TheVariants.{IsMap, Memory, NoHandles}
use Rattle.geos_model.specs.declared.handle.VmHandle.{VmHandle}
use Rattle.geos_model.proofs.BlockLists.{distinct-rest}
use Rattle.vm_blocks.proofs.KeepingLaws.{keeps-refl, keeps-same, keeps-unless_corrupt, lacks-memory}
use Rattle.vm_chains.specs.Numbers.{numbers}
use Rattle.vm_chains.proofs.Loading.{carried, carried_so}
use Rattle.vm_blocks.specs.Keeping.{IsEnvironmentFault}
use Rattle.vm_blocks.specs.Preparing.{CanRemoveByHandle}
use Rattle.geos_model.specs.LargeLayout.{root_bytes}
use Rattle.geos_model.specs.LargeWindow.{window}
use Rattle.geos_model.specs.LargeBlocks.{root_at}
use Rattle.large_arrays.specs.HandleLists.{ShareNoHandle, old_handles}
use Rattle.large_arrays.specs.ChangePlans.{ArePlanned, ArePlannedByHandle, piece_bodies}
use Rattle.large_arrays.specs.Gathering.{AreGathered, HasOldBody}
use Rattle.large_arrays.specs.WindowPlans.{AreGone, AreHomes, ArePieceHandles, HasGatheredRoot, RefusesWindow, gathered_root, lacks_places}
use Rattle.large_arrays.specs.declared.handles.OldBranch.{OldBranch}
use Rattle.geos_model.proofs.Layouts.{raw-live}
use Rattle.large_arrays.proofs.PieceBlocks.{handles-few, handles-many, piece-homes, freed-apart, freed-gone, root-untouched, root-apart, homes-drift, gone-drift, olds-drift}
use Rattle.large_arrays.proofs.PlannedBlocks.{among, freed-so, refuses-map, refuses-places, window-planned}
use Rattle.large_arrays.proofs.window_plan.plan_window.Goals as goal

pub freed_handles-requires : goal.freed_handles-requires
freed_handles-requires g c =
    ap (λ (os : List OldBranch). all_distinct (old_handles os)) c.as_slice.ensures.value
    ∙ distinct-rest c.args.root.0 (old_handles c.args.gathered.now.olds.items) c.requires.gathered.once

pub returns-then-is_among-clause-keeps : goal.returns-then-is_among-clause-keeps
returns-then-is_among-clause-keeps g c = keeps-refl g.S.Store.facts c.args.blocks.now

pub returns-in_err-freed-clause-keeps : goal.returns-in_err-freed-clause-keeps
returns-in_err-freed-clause-keeps g c = keeps-refl g.S.Store.facts c.args.blocks.now

pub returns-in_err-handles-clause-keeps : goal.returns-in_err-handles-clause-keeps
returns-in_err-handles-clause-keeps g c = keeps-refl g.S.Store.facts c.args.blocks.now

pub returns-in_err-changes-clause-keeps : goal.returns-in_err-changes-clause-keeps
returns-in_err-changes-clause-keeps g c = keeps-refl g.S.Store.facts c.args.blocks.now

pub returns-then-is_among-clause-value : goal.returns-then-is_among-clause-value
returns-then-is_among-clause-value g c = λ honest i j new order is.
    let d = c.args.blocks.now.document in
    let gathered = c.args.gathered.now in
    let freed = c.in_ok-freed.freed.items in
    inr (refuses-map d c.args.root.0 i j c.args.branches new gathered c.requires.gathered is (numbers freed)
    (freed-so gathered c.as_slice.result.now c.len.result (numbers freed) c.as_slice.ensures.value c.len.ensures.value c.in_ok-freed.ensures)
    (sym (among freed c.map_block.result.0 d.map_block c.map_block.ensures)
    ∙ ap (list_any (λ (h : VmHandle). h.0 == c.map_block.result.0)) (sym c.deref.ensures.value) ∙ sym c.is_among.ensures ∙ c.if-is_among.true))

-- what `piece_handles` is refused for
refused : (lacks Q : Fault → Type 0) (fault : Fault) (none : Type 0) → lacks Memory → (none → Q NoHandles) → (fault ≡ Memory) ⊎ ((fault ≡ NoHandles) × none) → lacks fault ⊎ Q fault
refused lacks Q fault none memory so (inl is) = inl (subst lacks (sym is) memory)
refused lacks Q fault none memory so (inr bad) = inr (subst Q (sym bad.0) (so bad.1))

-- what isn't among them
not_among : (hs : List VmHandle) (read : List VmHandle) (wanted h : ℕ) (found : Bool) → read ≡ hs → wanted ≡ h → found ≡ list_any (λ x. x.0 == wanted) read → found ≡ false
    → list_any (λ x. x == h) (numbers hs) ≡ false
not_among hs read wanted h found same is tested none =
    sym (among hs wanted h is) ∙ ap (list_any (λ (x : VmHandle). x.0 == wanted)) (sym same) ∙ sym tested ∙ none

pub returns-in_err-handles-clause-value : goal.returns-in_err-handles-clause-value
returns-in_err-handles-clause-value g c = λ honest i j new order is.
    let f = g.S.Store.facts in
    let a = c.args.blocks.now in
    let d : Document = a.document in
    let gathered = c.args.gathered.now in
    let freed = c.in_ok-freed.freed.items in
    let fault = c.in_err-handles.field-0.0 in
    let has = c.requires.root honest in
    carried c.from_residual-in_err-handles.result fault _ _ c.from_residual-in_err-handles.ensures.1
    (refused (IsEnvironmentFault f a.disk.store a.disk.store) (RefusesWindow d c.args.root.0 (window d c.args.root.0 i j new)) fault
    (lacks_places d c.args.branches gathered ≡ true) (lacks-memory f a.disk.store a.disk.store)
    (refuses-places d c.args.root.0 i j c.args.branches new gathered c.requires.gathered is (numbers freed)
    (freed-so gathered c.as_slice.result.now c.len.result (numbers freed) c.as_slice.ensures.value c.len.ensures.value c.in_ok-freed.ensures)
    has.found order has.many
    (not_among freed c.deref.result.now c.map_block.result.0 d.map_block c.is_among.result c.deref.ensures.value c.map_block.ensures c.is_among.ensures c.if-is_among.false))
    c.in_err-handles.ensures)

pub returns-in_err-plan_root-clause-value : goal.returns-in_err-plan_root-clause-value
returns-in_err-plan_root-clause-value g c = λ honest i j new order is.
    carried c.from_residual-in_err-plan_root.result c.in_err-plan_root.field-0.0 _ _ c.from_residual-in_err-plan_root.ensures.1 (inl c.in_err-plan_root.ensures.refusals)

pub returns-in_err-plan_root-clause-refusals : goal.returns-in_err-plan_root-clause-refusals
returns-in_err-plan_root-clause-refusals g c =
    carried_so c.from_residual-in_err-plan_root.result c.in_err-plan_root.field-0.0 _ c.from_residual-in_err-plan_root.ensures.1 (inl c.in_err-plan_root.ensures.refusals)

pub returns-clause-listed : goal.returns-clause-listed
returns-clause-listed g c =
    let f = g.S.Store.facts in
    let a = c.args.blocks.now in
    let e = c.plan_root.new.blocks in
    let b = c.args.root.0 in
    let gathered = c.args.gathered.now in
    let olds = gathered.olds.items in
    let freed = numbers c.in_ok-freed.freed.items in
    let hs = numbers c.in_ok-handles.handles.items in
    let go = freed-so gathered c.as_slice.result.now c.len.result freed c.as_slice.ensures.value c.len.ensures.value c.in_ok-freed.ensures in
    let are = c.in_ok-handles.ensures in
    let drift = keeps-unless_corrupt f a e c.plan_root.ensures.keeps in
    let honest : Bool = (f a.disk.store).honest in
    let no_map = not_among c.in_ok-freed.freed.items c.deref.result.now c.map_block.result.0 a.document.map_block c.is_among.result c.deref.ensures.value c.map_block.ensures c.is_among.ensures c.if-is_among.false in
    let gone = freed-gone a.document b c.args.branches gathered c.requires.gathered freed go hs are no_map in
    let begun = ap numbers c.deref-2.ensures.value in
    let rooted = ap numbers c.deref-3.ensures.value in
    let placed = ap numbers c.deref-4.ensures.value in
    let r = root_at e.document b in
    let size = gathered.pieces.size in
    let root : ArePlannedByHandle c.plan_root.new.changes.items e.document freed ((b, root_bytes (gathered_root r gathered hs)) ∷ []) =
    subst (λ (xs : List ℕ). ArePlannedByHandle c.plan_root.new.changes.items e.document freed ((b, root_bytes (gathered_root r gathered xs)) ∷ [])) rooted
    (c.in_ok-plan_root.ensures.listed freed
    (subst (λ (xs : List ℕ). ArePlannedByHandle c.in_ok-changes.changes.items e.document xs []) begun
    (c.in_ok-changes.ensures.listed e.document (subst (CanRemoveByHandle e.document) (sym begun) (gone-drift honest a.document e.document drift freed gone.can))))
    (root-untouched a.document b c.args.branches gathered c.requires.gathered freed go hs are)) in
    (c.in_ok-plan_pieces.ensures.listed e.document freed ((b, root_bytes (gathered_root r gathered hs)) ∷ []) root
    (olds-drift honest a.document e.document drift olds c.requires.gathered.live)
    (subst (AreHomes e.document (old_handles olds)) (sym placed)
    (homes-drift honest a.document e.document drift (old_handles olds) hs (piece-homes a.document b c.args.branches gathered c.requires.gathered freed go hs are)))
    (subst (ShareNoHandle freed) (sym placed) (freed-apart a.document b c.args.branches gathered c.requires.gathered freed go hs are))
    (subst (ShareNoHandle (b ∷ [])) (sym placed)
    (root-apart a.document b c.args.branches gathered c.requires.gathered freed go hs are (sym (drift.live b) ∙ raw-live e.document b c.in_ok-plan_root.ensures.raw)))).applies

pub returns-clause-value : goal.returns-clause-value
returns-clause-value g c = λ honest i j new order is.
    let f = g.S.Store.facts in
    let a = c.args.blocks.now in
    let e = c.plan_root.new.blocks in
    let d : Document = e.document in
    let b = c.args.root.0 in
    let gt = c.args.gathered.now in
    let olds = gt.olds.items in
    let freed = numbers c.in_ok-freed.freed.items in
    let hs = numbers c.in_ok-handles.handles.items in
    let go = freed-so gt c.as_slice.result.now c.len.result freed c.as_slice.ensures.value c.len.ensures.value c.in_ok-freed.ensures in
    let same : d ≡ a.document = keeps-same f a e c.plan_root.ensures.keeps honest in
    let gathered : AreGathered d b gt = subst (λ (x : Document). AreGathered x b gt) (sym same) c.requires.gathered in
    let has : HasGatheredRoot d b c.args.branches gt = subst (λ (x : Document). HasGatheredRoot x b c.args.branches gt) (sym same) (c.requires.root honest) in
    let are : ArePieceHandles d c.args.branches gt hs = subst (λ (x : Document). ArePieceHandles x c.args.branches gt hs) (sym same) c.in_ok-handles.ensures in
    let no_map : list_any (λ h. h == d.map_block) freed ≡ false =
    subst (λ (x : Document). list_any (λ h. h == x.map_block) freed ≡ false) (sym same)
    (not_among c.in_ok-freed.freed.items c.deref.result.now c.map_block.result.0 a.document.map_block c.is_among.result c.deref.ensures.value c.map_block.ensures c.is_among.ensures c.if-is_among.false) in
    let begun = ap numbers c.deref-2.ensures.value in
    let rooted = ap numbers c.deref-3.ensures.value in
    let placed = ap numbers c.deref-4.ensures.value in
    let r = root_at d b in
    let size = gt.pieces.size in
    let gone : ArePlanned c.in_ok-changes.changes.items d freed [] =
    subst (λ (xs : List ℕ). ArePlanned c.in_ok-changes.changes.items d xs []) begun
    (subst (λ (x : Document). AllZip (λ old body. HasOldBody x old.handle.0 body.items) olds gt.bodies.items → ArePlanned c.in_ok-changes.changes.items x (numbers c.deref-2.result.now) []) (sym same)
    c.in_ok-changes.ensures.planned is.bodies) in
    let root : ArePlanned c.plan_root.new.changes.items d freed ((b, root_bytes (gathered_root r gt hs)) ∷ []) =
    subst (λ (xs : List ℕ). ArePlanned c.plan_root.new.changes.items d freed ((b, root_bytes (gathered_root r gt xs)) ∷ [])) rooted
    (c.in_ok-plan_root.ensures.planned freed gone (root-untouched d b c.args.branches gt gathered freed go hs are)) in
    window-planned d b i j c.args.branches new gt gathered is freed go has.found order has.many no_map hs c.plan_pieces.new.changes.items are
    (subst (λ (xs : List ℕ). ArePlanned c.plan_pieces.new.changes.items d freed ((b, root_bytes (gathered_root r gt hs)) ∷ piece_bodies size (zip xs gt.pieces.pieces))) placed
    (c.in_ok-plan_pieces.ensures.planned d freed ((b, root_bytes (gathered_root r gt hs)) ∷ []) root is.bodies
    (subst (AreHomes d (old_handles olds)) (sym placed) (piece-homes d b c.args.branches gt gathered freed go hs are))
    (subst (ShareNoHandle freed) (sym placed) (freed-apart d b c.args.branches gt gathered freed go hs are))
    (subst (ShareNoHandle (b ∷ [])) (sym placed) (root-apart d b c.args.branches gt gathered freed go hs are (raw-live d b has.raw)))))

pub plan_gone-requires : goal.plan_gone-requires
plan_gone-requires g c =
    let a = c.args.blocks.now in
    let gt = c.args.gathered.now in
    let freed = numbers c.in_ok-freed.freed.items in
    let go = freed-so gt c.as_slice.result.now c.len.result freed c.as_slice.ensures.value c.len.ensures.value c.in_ok-freed.ensures in
    let no_map = not_among c.in_ok-freed.freed.items c.deref.result.now c.map_block.result.0 a.document.map_block c.is_among.result c.deref.ensures.value c.map_block.ensures c.is_among.ensures c.if-is_among.false in
    record {
      gone =
          subst (AreGone a.document gt) (sym (ap numbers c.deref-2.ensures.value))
          (freed-gone a.document c.args.root.0 c.args.branches gt c.requires.gathered freed go (numbers c.in_ok-handles.handles.items) c.in_ok-handles.ensures no_map);
      bodies = c.requires.gathered.bodies;
      short = c.requires.gathered.short;
    }

-- Memory ran out.

pub returns-in_err-freed-clause-value : goal.returns-in_err-freed-clause-value
returns-in_err-freed-clause-value g c = λ honest i j new order is.
    carried c.from_residual.result Memory _ _ c.from_residual.ensures.1 (inl (lacks-memory g.S.Store.facts c.args.blocks.now.disk.store c.args.blocks.now.disk.store))

pub returns-in_err-freed-clause-refusals : goal.returns-in_err-freed-clause-refusals
returns-in_err-freed-clause-refusals g c =
    carried_so c.from_residual.result Memory _ c.from_residual.ensures.1 (inl (lacks-memory g.S.Store.facts c.args.blocks.now.disk.store c.args.blocks.now.disk.store))

pub returns-in_err-changes-clause-value : goal.returns-in_err-changes-clause-value
returns-in_err-changes-clause-value g c = λ honest i j new order is.
    carried c.from_residual-in_err-changes.result Memory _ _ c.from_residual-in_err-changes.ensures.1 (inl (lacks-memory g.S.Store.facts c.args.blocks.now.disk.store c.args.blocks.now.disk.store))

pub returns-in_err-changes-clause-refusals : goal.returns-in_err-changes-clause-refusals
returns-in_err-changes-clause-refusals g c =
    carried_so c.from_residual-in_err-changes.result Memory _ c.from_residual-in_err-changes.ensures.1 (inl (lacks-memory g.S.Store.facts c.args.blocks.now.disk.store c.args.blocks.now.disk.store))

pub returns-in_err-plan_pieces-clause-value : goal.returns-in_err-plan_pieces-clause-value
returns-in_err-plan_pieces-clause-value g c = λ honest i j new order is.
    carried c.from_residual-in_err-plan_pieces.result Memory _ _ c.from_residual-in_err-plan_pieces.ensures.1 (inl (lacks-memory g.S.Store.facts c.args.blocks.now.disk.store c.plan_root.new.blocks.disk.store))

pub returns-in_err-plan_pieces-clause-refusals : goal.returns-in_err-plan_pieces-clause-refusals
returns-in_err-plan_pieces-clause-refusals g c =
    carried_so c.from_residual-in_err-plan_pieces.result Memory _ c.from_residual-in_err-plan_pieces.ensures.1 (inl (lacks-memory g.S.Store.facts c.args.blocks.now.disk.store c.plan_root.new.blocks.disk.store))

-- what the blocks of the pieces are refused for, over any store
refused_so : (lacks : Fault → Type 0) (fault : Fault) (none : Type 0) → lacks Memory → (fault ≡ Memory) ⊎ ((fault ≡ NoHandles) × none) → lacks fault ⊎ ((fault ≡ IsMap) ⊎ (fault ≡ NoHandles))
refused_so lacks fault none memory (inl is) = inl (subst lacks (sym is) memory)
refused_so lacks fault none memory (inr bad) = inr (inr bad.0)

pub returns-in_err-handles-clause-refusals : goal.returns-in_err-handles-clause-refusals
returns-in_err-handles-clause-refusals g c =
    let a = c.args.blocks.now in
    let fault = c.in_err-handles.field-0.0 in
    carried_so c.from_residual-in_err-handles.result fault _ c.from_residual-in_err-handles.ensures.1
    (refused_so (IsEnvironmentFault g.S.Store.facts a.disk.store a.disk.store) fault (lacks_places a.document c.args.branches c.args.gathered.now ≡ true) (lacks-memory g.S.Store.facts a.disk.store a.disk.store) c.in_err-handles.ensures)

pub plan_root-requires : goal.plan_root-requires
plan_root-requires g c =
    let a = c.args.blocks.now in
    let gt = c.args.gathered.now in
    let handles = c.in_ok-handles.handles.items in
    let freed = numbers c.in_ok-freed.freed.items in
    let go = freed-so gt c.as_slice.result.now c.len.result freed c.as_slice.ensures.value c.len.ensures.value c.in_ok-freed.ensures in
    let many = handles-many a.document c.args.root.0 c.args.branches gt c.requires.gathered freed go (numbers handles) c.in_ok-handles.ensures in
    let few = handles-few a.document c.args.root.0 c.args.branches gt c.requires.gathered freed go (numbers handles) c.in_ok-handles.ensures in
    let read = ap (λ (hs : List VmHandle). length hs) c.deref-3.ensures.value in
    let long = length-map handles (λ (h : VmHandle). h.0) in
    record {
      room = c.requires.room;
      root = c.requires.root;
      many = omega (arith, read, long, many);
      few = omega (arith, read, long, few);
    }

pub plan_pieces-requires : goal.plan_pieces-requires
plan_pieces-requires g c =
    let a = c.args.blocks.now in
    let gt = c.args.gathered.now in
    let handles = c.in_ok-handles.handles.items in
    let freed = numbers c.in_ok-freed.freed.items in
    let go = freed-so gt c.as_slice.result.now c.len.result freed c.as_slice.ensures.value c.len.ensures.value c.in_ok-freed.ensures in
    let many = handles-many a.document c.args.root.0 c.args.branches gt c.requires.gathered freed go (numbers handles) c.in_ok-handles.ensures in
    let read = ap (λ (hs : List VmHandle). length hs) c.deref-4.ensures.value in
    let long = length-map handles (λ (h : VmHandle). h.0) in
    record {
      many = omega (arith, read, long, many);
      bodies = c.requires.gathered.bodies;
      short = c.requires.gathered.short;
    }
