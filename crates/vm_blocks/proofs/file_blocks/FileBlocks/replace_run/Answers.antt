use Rattle.std.proofs.Common.{◌≡◌, Err, refl, subst, sym, ◌∙◌}
use Rattle.geos_model.specs.Document.{is_heap}
use Rattle.geos_model.specs.declared.fault.Fault.TheVariants.{NoBlock, WrongKind}
use Rattle.vm_blocks.specs.InPlace.{used_last}
use Rattle.vm_blocks.proofs.LoadedRuns.{agree, differ, loads_again, loads_dead, loads_other, not_loaded, replaced}
use Rattle.vm_blocks.proofs.file_blocks.FileBlocks.replace_run.Goals as goal

pub returns-in_default : goal.returns-in_default
returns-in_default g c =
    let facts = g.S.Store.facts in let run = c.args.run in let old = c.args.self.now in
    not_loaded facts g.R.Recorder.records g.R.Recorder.keeps run old c.args.recorder.now old NoBlock (loads_dead facts run.chunk run.block.0 old c.in_default.ensures) (Err NoBlock) refl

-- it is of another kind
pub returns-then-is_heap-is_some : goal.returns-then-is_heap-is_some
returns-then-is_heap-is_some g c =
    let facts = g.S.Store.facts in let run = c.args.run in let old = c.args.self.now in
    not_loaded facts g.R.Recorder.records g.R.Recorder.keeps run old c.args.recorder.now old WrongKind
    (loads_other facts run.chunk run.block.0 old c.in-Some.ensures.0 (differ _ _ _ c.in-Some.ensures.1 c.is_some.ensures c.if-is_heap-is_some.true)) (Err WrongKind) refl

-- it is in memory
pub returns-in-Some-replace_resident : goal.returns-in-Some-replace_resident
returns-in-Some-replace_resident g c =
    let facts = g.S.Store.facts in let run = c.args.run in let old = c.args.self.now in let h = run.block.0 in let done = c.in-Some-replace_resident.ensures in
    replaced facts g.R.Recorder.records g.R.Recorder.keeps run old c.args.recorder.now (used_last old h) c.replace_resident.new.self c.replace_resident.new.recorder
    (loads_again facts run.chunk h old c.in-Some.ensures.0 (agree _ _ _ c.in-Some.ensures.1 c.is_some.ensures c.if-is_heap-is_some.false) c.reveal_invariant.ensures.few done.tries.0)
    c.in-Some-replace_resident.tried done.tries.1 (done.valid refl)
