use Rattle.std.proofs.Common.{List, length, sym, ap, subst, ◌∙◌}
use Rattle.std.specs.Prelude.{Result, Err, IfErr}
use Rattle.std.proofs.lemmas.List.{length_push}
use Rattle.std.proofs.lemmas.Result.{err_from_is_err_and}
use Rattle.std.proofs.lemmas.Iterator.Adapters.{YieldsList-from_rev_slice}
use Rattle.std.proofs.lemmas.Iterator.Consumers.{YieldsList-turn}
use Rattle.geos_model.specs.declared.fault.Fault.{Fault}
use Rattle.vm_blocks.specs.Changes.{directed}
use Rattle.vm_blocks.specs.Keeping.{IsEnvironmentFault}
use Rattle.vm_blocks.specs.Preparing.{AreInMemory}
use Rattle.vm_blocks.specs.declared.change.Change.{Change}
use Rattle.vm_blocks.proofs.ChangingAll.{left, left_more}
use Rattle.vm_blocks.proofs.KeepingLaws.{keeps-locks, keeps-refl, keeps-trans, lacks-later}
use Rattle.vm_blocks.proofs.Reversing.{in_memory_stays, stays_refl, stays_trans}
use Rattle.vm_blocks.proofs.in_memory.load_all.Goals as goal

pub loop-change-init : goal.loop-change-init
loop-change-init g c = record { keeps = keeps-refl g.S.Store.facts c.args.blocks.now; sure = λ here. (stays_refl c.args.blocks.now, here) }

pub load_for-requires : goal.load_for-requires
load_for-requires g c = record { unlocked = (keeps-locks g.S.Store.facts c.args.blocks.now c.loop-change.blocks c.loop-change.invariant.keeps).count ∙ c.requires.unlocked }

pub loop-change-preserved : goal.loop-change-preserved
loop-change-preserved g c =
    let l = c.loop-change in
    let n = length l.yielded in
    let one = directed c.args.direction c.in-Some.change.now in
    let t = YieldsList-turn (YieldsList-from_rev_slice c.args.changes.now cc) l.yielded _ l.yielded_by _ _ c.in-Some.change c.in-Some.is c.next.ensures.steps in
    let more = left_more c.args.direction c.args.changes.now n c.in-Some.change.now t in
    record {
      keeps = keeps-trans g.S.Store.facts c.args.blocks.now l.blocks c.load_for.new.blocks l.invariant.keeps c.load_for.ensures.keeps;
      sure = λ here.
          let p = l.invariant.sure here in
          let next = subst (λ (xs : List Change). AreInMemory xs c.args.blocks.now) more p.1 in
          let done = c.load_for.ensures.sure (in_memory_stays one c.args.blocks.now l.blocks p.0 next.0) in (
            stays_trans c.args.blocks.now l.blocks c.load_for.new.blocks p.0 done.1,
            subst (λ m. AreInMemory (left c.args.direction c.args.changes.now m) c.args.blocks.now) (sym (length_push l.yielded c.in-Some.change)) next.1,
          );
    }

pub returns-in_err-load_for : goal.returns-in_err-load_for
returns-in_err-load_for g c =
    let l = c.loop-change in
    let facts = g.S.Store.facts in
    let e = err_from_is_err_and c.from_residual.result c.from_residual.ensures.1 in
    record {
      keeps = keeps-trans facts c.args.blocks.now l.blocks c.load_for.new.blocks l.invariant.keeps c.in_err-load_for.ensures.keeps;
      err = subst (λ (r : Result (Unit {0}) Fault). IfErr r (IsEnvironmentFault facts c.args.blocks.now.disk.store c.load_for.new.blocks.disk.store)) (sym (e.1 ∙ ap Err e.2))
          (lacks-later facts c.args.blocks.now l.blocks c.load_for.new.blocks.disk.store c.in_err-load_for.field-0.0 l.invariant.keeps c.in_err-load_for.ensures.err);
      sure = λ here.
          let p = l.invariant.sure here in
          let t = YieldsList-turn (YieldsList-from_rev_slice c.args.changes.now cc) l.yielded _ l.yielded_by _ _ c.in-Some.change c.in-Some.is c.next.ensures.steps in
          let next = subst (λ (xs : List Change). AreInMemory xs c.args.blocks.now) (left_more c.args.direction c.args.changes.now (length l.yielded) c.in-Some.change.now t) p.1 in
          let done = c.in_err-load_for.ensures.sure (in_memory_stays (directed c.args.direction c.in-Some.change.now) c.args.blocks.now l.blocks p.0 next.0) in
          absurd (cc done.0);
    }
