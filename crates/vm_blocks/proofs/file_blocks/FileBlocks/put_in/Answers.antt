use Rattle.std.proofs.Common.{◌≡◌, false, List, All, refl, sym, ap, subst, ◌∙◌}
use Rattle.std.proofs.lemmas.List.Elements.{All-weaker}
use Rattle.geos_model.specs.Document.{IsValid, handles_of}
use Rattle.document_file.specs.Calls.{IsPut, put_all}
use Rattle.document_file.specs.Disk.{FileState}
use Rattle.document_file.specs.Members.{imaged_blocks}
use Rattle.document_file.specs.declared.member.Member.{Member}
use Rattle.vm_blocks.specs.Changes.{AreFree}
use Rattle.vm_blocks.specs.Frames.{frame_of, shown}
use Rattle.vm_blocks.specs.Preparing.{AppliesChange}
use Rattle.vm_blocks.specs.State.{CacheState, is_resident}
use Rattle.vm_blocks.specs.declared.change.Change.TheVariants as changes
use Rattle.vm_blocks.proofs.Blocks.{IsAway}
use Rattle.vm_blocks.proofs.BlocksPutUnderFrames.{puts_under, puts_kept}
use Rattle.vm_blocks.proofs.ChangeLaws.{change_back}
use Rattle.vm_blocks.proofs.ChangeOutcomes.{away, put_in_turns}
use Rattle.vm_blocks.proofs.ManyBlocks.{in_handles}
use Rattle.vm_blocks.proofs.OrderOfUse.{none_held, resident_is}
use Rattle.vm_blocks.proofs.StateValidity.{sound_put}
use Rattle.vm_blocks.proofs.file_blocks.FileBlocks.put_in.Goals as goal

pub put_blocks-requires-clause-puts : goal.put_blocks-requires-clause-puts
put_blocks-requires-clause-puts g c =
    subst (All IsPut) (sym c.deref.ensures.value) (λ i m within. (in_handles c.args.self.now.document c.args.members.now.list.items c.requires i m within).handle)

pub invariant_of-self : goal.invariant_of-self
invariant_of-self g c =
    let facts = g.S.Store.facts in
    let s = c.self.inside in
    let es = s.frames.entries in
    let ms = c.args.members.now in
    let puts = c.deref.result.now in
    let old = shown s.file es s.frames.cap in
    let out = subst (All (λ (m : Member). is_resident c.args.self.now.resident m.handle.0 ≡ false)) (sym c.deref.ensures.value) (away facts c.args.self.now ms.list.items c.requires c.reveal_invariant.ensures.resident) in
    let far : All (IsAway es) puts = All-weaker _ (IsAway es) (λ p gone. none_held (frame_of es p.handle.0) (sym (resident_is p.handle.0 es) ∙ ap (λ t. is_resident t.resident p.handle.0) c.self.view_is ∙ gone)) puts out in
    let free = subst (λ (s : CacheState g.row.S.Denot). AreFree s.document (handles_of (imaged_blocks ms.list.items))) (sym c.self.view_is) c.requires in (
      record {
        kept = puts_kept facts s.file c.put_blocks.new.self es puts c.put_blocks.result far c.self.invariant.0.kept c.put_blocks.ensures.keeps;
        state = sound_put facts old (shown c.put_blocks.new.self es s.frames.cap) (put_all puts old.document) c.put_blocks.result c.self.invariant.0.state
            (λ valid. subst (λ (xs : List Member). IsValid (put_all xs old.document)) (sym c.deref.ensures.value) (change_back (changes.BlocksIn ms) old.document valid free).0)
            (puts_under facts s.file c.put_blocks.new.self es puts c.put_blocks.result far c.self.invariant.0.kept c.put_blocks.ensures.keeps) (refl, refl);
      },
      c.self.invariant.1,
    )

pub returns-clause-turns : goal.returns-clause-turns
returns-clause-turns g c =
    let facts = g.S.Store.facts in
    let s = c.self.inside in
    let es = s.frames.entries in
    let ms = c.args.members.now in
    let puts = c.deref.result.now in
    let new = shown c.put_blocks.new.self es s.frames.cap in
    let out = subst (All (λ (m : Member). is_resident c.args.self.now.resident m.handle.0 ≡ false)) (sym c.deref.ensures.value) (away facts c.args.self.now ms.list.items c.requires c.reveal_invariant.ensures.resident) in
    let far : All (IsAway es) puts = All-weaker _ (IsAway es) (λ p gone. none_held (frame_of es p.handle.0) (sym (resident_is p.handle.0 es) ∙ ap (λ t. is_resident t.resident p.handle.0) c.self.view_is ∙ gone)) puts out in
    subst (λ (t : CacheState g.row.S.Denot). AppliesChange facts (changes.BlocksIn ms) t new c.put_blocks.result)
    c.self.view_is
    (put_in_turns facts ms puts (shown s.file es s.frames.cap) new c.deref.ensures.value (refl, refl) c.put_blocks.result
    (puts_under facts s.file c.put_blocks.new.self es puts c.put_blocks.result far c.self.invariant.0.kept c.put_blocks.ensures.keeps) c.put_blocks.ensures.fails
    (λ none. let alone = c.put_blocks.ensures.removals_alone none in (alone.0, ap (λ (x : FileState g.row.S.Denot). shown x es s.frames.cap) alone.1)))

pub returns-clause-resident : goal.returns-clause-resident
returns-clause-resident g c = ap (λ (s : CacheState g.row.S.Denot). s.resident) c.self.view_is
