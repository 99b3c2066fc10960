use Rattle.std.proofs.Common.{Err, ap, ◌∙◌}
use Rattle.std.proofs.lemmas.Result.{err_from_is_err_and}
use Rattle.std.specs.FinMap.{get}
use Rattle.vm_blocks.proofs.KeepingLaws.{keeps-unless_corrupt, loaded-live}
use Rattle.vm_blocks.proofs.LoadedRuns.{kind_of_live, loads, not_loaded, replaced}
use Rattle.vm_blocks.proofs.file_blocks.FileBlocks.bring_and_replace.Goals as goal

pub returns-in_err-load_live : goal.returns-in_err-load_live
returns-in_err-load_live g c =
    let facts = g.S.Store.facts in let run = c.args.run in let old = c.args.self.now in let mid = c.load_live.new.self in
    let load = c.in_err-load_live.ensures in let fault = c.in_err-load_live.field-0.0 in
    let p = err_from_is_err_and c.from_residual.result c.from_residual.ensures.1 in
    not_loaded facts g.R.Recorder.records g.R.Recorder.keeps run old c.args.recorder.now mid fault
    (loads facts run.chunk run.block.0 old c.requires.live c.requires.kind mid load.keeps (Err fault) load.ok load.err load.already load.shut)
    c.from_residual.result (p.1 ∙ ap Err p.2)

pub replace_loaded-requires-clause-kind : goal.replace_loaded-requires-clause-kind
replace_loaded-requires-clause-kind g c =
    let mid = c.load_live.new.self in let h = c.args.run.block.0 in let load = c.in_ok-load_live.ensures in
    let same = keeps-unless_corrupt g.S.Store.facts c.args.self.now mid load.keeps in
    kind_of_live (get mid.document.blocks h) (loaded-live mid h load.ok) ∙ same.kinds h ∙ c.requires.kind

pub returns : goal.returns
returns g c =
    let facts = g.S.Store.facts in let run = c.args.run in let old = c.args.self.now in let mid = c.load_live.new.self in let load = c.in_ok-load_live.ensures in
    replaced facts g.R.Recorder.records g.R.Recorder.keeps run old c.args.recorder.now mid c.replace_loaded.new.self c.replace_loaded.new.recorder
    (loads facts run.chunk run.block.0 old c.requires.live c.requires.kind mid load.keeps _ load.ok load.err load.already load.shut)
    c.replace_loaded.result c.replace_loaded.ensures.tries c.replace_loaded.ensures.valid
