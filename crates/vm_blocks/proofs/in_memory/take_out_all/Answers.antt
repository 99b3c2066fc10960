use Rattle.std.proofs.Common.{◌≡◌, ◌∷◌, ◌≤◌, ◌+◌, List, length, reverse, refl, sym, ap, subst, ◌∙◌, arith}
use Rattle.std.proofs.lemmas.List.{length_push}
use Rattle.std.proofs.lemmas.Iterator.Adapters.{YieldsList-from_rev_slice}
use Rattle.std.proofs.lemmas.Iterator.Consumers.{YieldsList-turn, YieldsList-end}
use Rattle.geos_model.specs.Document.{Document, without_blocks}
use Rattle.vm_blocks.proofs.Locks.{keeps_refl}
use Rattle.vm_blocks.specs.Changes.{directed, directed_all}
use Rattle.vm_blocks.specs.InMemory.{CanTakeOut, all_outgoing, outgoing}
use Rattle.vm_blocks.specs.declared.change.Change.{Change}
use Rattle.vm_blocks.proofs.ChangingAll.{left, left_more, left_none}
use Rattle.vm_blocks.proofs.InMemory.{without_append}
use Rattle.vm_blocks.proofs.in_memory.take_out_all.Goals as goal

pub loop-change-init : goal.loop-change-init
loop-change-init g c = record { leave = c.requires.leave; document = refl; disk = refl; frames = refl; locks = keeps_refl c.args.blocks.now.resident }

pub take_out-requires-clause-leave : goal.take_out-requires-clause-leave
take_out-requires-clause-leave g c =
    let l = c.loop-change in
    let t = YieldsList-turn (YieldsList-from_rev_slice c.args.changes.now cc) l.yielded _ l.yielded_by _ _ c.in-Some.change c.in-Some.is c.next.ensures.steps in
    (subst (λ (xs : List Change). CanTakeOut xs l.blocks.document) (left_more c.args.direction c.args.changes.now (length l.yielded) c.in-Some.change.now t) l.invariant.leave).0

pub take_out-requires-clause-unlocked : goal.take_out-requires-clause-unlocked
take_out-requires-clause-unlocked g c = c.loop-change.invariant.locks.count ∙ c.requires.unlocked

pub loop-change-preserved : goal.loop-change-preserved
loop-change-preserved g c =
    let l = c.loop-change in
    let n = length l.yielded in
    let one = directed c.args.direction c.in-Some.change.now in
    let rest = left c.args.direction c.args.changes.now (n + 1) in
    let t = YieldsList-turn (YieldsList-from_rev_slice c.args.changes.now cc) l.yielded _ l.yielded_by _ _ c.in-Some.change c.in-Some.is c.next.ensures.steps in
    let more : left c.args.direction c.args.changes.now n ≡ one ∷ rest = left_more c.args.direction c.args.changes.now n c.in-Some.change.now t in
    let leave = subst (λ (xs : List Change). CanTakeOut xs l.blocks.document) more l.invariant.leave in
    let document = subst (λ (xs : List Change). without_blocks l.blocks.document (all_outgoing xs) ≡ without_blocks c.args.blocks.now.document (all_outgoing (directed_all c.args.direction c.args.changes.now))) more l.invariant.document in
    let now : left c.args.direction c.args.changes.now (length l.yielded + 1) ≡ rest = refl in
    record {
      leave = subst (λ m. CanTakeOut (left c.args.direction c.args.changes.now m) c.take_out.new.blocks.document) (sym (length_push l.yielded c.in-Some.change))
          (subst (λ (d : Document). CanTakeOut rest d) (sym c.take_out.ensures.document) leave.1);
      document = ap (λ m. without_blocks c.take_out.new.blocks.document (all_outgoing (left c.args.direction c.args.changes.now m))) (length_push l.yielded c.in-Some.change)
          ∙ ap (λ (d : Document). without_blocks d (all_outgoing rest)) c.take_out.ensures.document
          ∙ sym (without_append (outgoing one) (all_outgoing rest) l.blocks.document) ∙ document;
      disk = c.take_out.ensures.disk ∙ l.invariant.disk;
      frames = c.take_out.ensures.frames ∙ l.invariant.frames;
      locks = record { each = λ h. c.take_out.ensures.locks.each h ∙ l.invariant.locks.each h; count = c.take_out.ensures.locks.count ∙ l.invariant.locks.count };
    }

pub returns : goal.returns
returns g c =
    let l = c.loop-change in
    let t = YieldsList-end (YieldsList-from_rev_slice c.args.changes.now cc) l.yielded _ l.yielded_by _ _ c.in-None.is c.next.ensures.steps in
    let most : length (reverse c.args.changes.now) ≤ length l.yielded = omega (arith, t.1) in
    record {
      disk = l.invariant.disk;
      document = ap (λ (xs : List Change). without_blocks l.blocks.document (all_outgoing xs)) (sym (left_none c.args.direction c.args.changes.now (length l.yielded) most)) ∙ l.invariant.document;
      frames = l.invariant.frames;
      locks = l.invariant.locks;
    }
