use Rattle.std.proofs.Common.{◌≡◌, ℕ, subst, arith}
use Rattle.document_file.proofs.StoredDocumentsLemmas.{OnlyReadsDocuments-refl, OnlyReadsDocuments-trans}
use Rattle.document_dump.specs.Versions.{new_in, old_in}
use Rattle.document_dump.proofs.Stages.{still_honest, old_same, new_same}
use Rattle.document_dump.proofs.Went.{Went, went_none, went_next, went_all}
use Rattle.document_dump.proofs.dumping.write_blocks.Goals as goal

pub loop-i-init : goal.loop-i-init
loop-i-init g c = record {
  reads = OnlyReadsDocuments-refl g.S.Store.facts c.args.file.now;
  holes = omega (arith, c.requires);
  went = λ so. went_none (old_in c.args.stage c.args.file.now) (new_in c.args.stage c.args.file.now) c.args.first (g.W.Write.contents c.args.writer.now);
}

pub loop-i-preserved : goal.loop-i-preserved
loop-i-preserved g c =
    let facts = g.S.Store.facts in
    let reads = c.loop-i.invariant.reads in
    record {
      reads = OnlyReadsDocuments-trans facts _ _ _ (g.met.S.Store.timely c.args.file.now.store) reads c.write_block.ensures.reads;
      holes = omega (arith, c.loop-i.invariant.holes, c.in_ok-step.ensures.holes);
      went = λ so.
          rw c.either-some.ensures (went_next (old_in c.args.stage c.args.file.now) (new_in c.args.stage c.args.file.now) (old_in c.args.stage c.loop-i.file) (new_in c.args.stage c.loop-i.file) c.args.first c.loop-i.progress
          c.in_ok-step.step.progress c.loop-i.i (g.W.Write.contents c.args.writer.now) (g.W.Write.contents c.loop-i.writer) (g.W.Write.contents c.write_block.new.writer) c.loop-i.some c.in_ok-step.step.some
          (old_same facts _ _ reads so c.args.stage) (new_same facts _ _ reads so c.args.stage) (omega arith) (c.loop-i.invariant.went so) (c.in_ok-step.ensures.ok (still_honest facts _ _ reads so)));
    }

pub returns-in_err-step-clause-reads : goal.returns-in_err-step-clause-reads
returns-in_err-step-clause-reads g c = OnlyReadsDocuments-trans g.S.Store.facts _ _ _ (g.met.S.Store.timely c.args.file.now.store) c.loop-i.invariant.reads c.write_block.ensures.reads

pub returns-clause-ok : goal.returns-clause-ok
returns-clause-ok g c = λ so.
    let end : c.loop-i.i ≡ 8192 = omega arith in
    let old = old_in c.args.stage c.args.file.now in
    let new = new_in c.args.stage c.args.file.now in
    let from = g.W.Write.contents c.args.writer.now in
    let to = g.W.Write.contents c.loop-i.writer in
    went_all old new c.args.first c.loop-i.progress from to c.loop-i.some (subst (λ (i : ℕ). Went old new c.args.first c.loop-i.progress i from to c.loop-i.some) end (c.loop-i.invariant.went so))
