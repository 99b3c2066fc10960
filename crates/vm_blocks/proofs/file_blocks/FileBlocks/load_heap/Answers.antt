use Rattle.std.proofs.Common.{◌≡◌, true, ◌∙◌}
use Rattle.std.proofs.lemmas.Result.{on_ok_weaker}
use Rattle.geos_model.specs.Document.{is_heap}
use Rattle.vm_blocks.proofs.KeepingLaws.{keeps-refl, keeps-unless_corrupt}
use Rattle.vm_blocks.proofs.file_blocks.FileBlocks.load_heap.Goals as goal

pub returns-in_default-clause-keeps : goal.returns-in_default-clause-keeps
returns-in_default-clause-keeps g c = keeps-refl g.S.Store.facts c.args.self.now

pub returns-then-not-is_heap-clause-keeps : goal.returns-then-not-is_heap-clause-keeps
returns-then-not-is_heap-clause-keeps g c = keeps-refl g.S.Store.facts c.args.self.now

pub returns-clause-ok : goal.returns-clause-ok
returns-clause-ok g c =
    let h = c.args.handle.0 in
    let new = c.load_live.new.self.document in
    let unless_corrupt = keeps-unless_corrupt g.S.Store.facts c.args.self.now c.load_live.new.self c.load_live.ensures.keeps in
    let kind : is_heap new h ≡ true = unless_corrupt.kinds h ∙ c.in-Some.ensures.1 ∙ c.if-not-is_heap.false in
    on_ok_weaker c.load_live.result (λ loaded. (loaded, kind)) c.load_live.ensures.ok
