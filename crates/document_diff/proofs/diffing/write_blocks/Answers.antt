use Rattle.std.proofs.Common.{◌≡◌, arith}
use Rattle.geos_model.specs.Document.{most_blocks}
use Rattle.document_file.proofs.StoredDocumentsLemmas.{OnlyReadsDocuments-refl, OnlyReadsDocuments-trans}
use Rattle.document_diff.specs.Differences.{compared_at}
use Rattle.document_diff.specs.Diffs.{document_by}
use Rattle.std.proofs.lemmas.Result.{err_from_is_err_and}
use Rattle.document_diff.proofs.Files.{refused_later, still_honest, same_document}
use Rattle.document_diff.proofs.Went.{went_none, went_next, went_all}
use Rattle.document_diff.proofs.diffing.write_blocks.Goals as goal

pub loop-i-init : goal.loop-i-init
loop-i-init g c = record {
  reads_old = OnlyReadsDocuments-refl g.S.Store.facts c.args.old.now;
  reads_new = OnlyReadsDocuments-refl g.T.Store.facts c.args.new.now;
  went = λ so too. went_none (compared_at (document_by c.args.version c.args.old.now) (document_by c.args.version c.args.new.now)) (g.W.Write.contents c.args.writer.now);
}

pub loop-i-preserved : goal.loop-i-preserved
loop-i-preserved g c =
    let old_facts = g.S.Store.facts in
    let new_facts = g.T.Store.facts in
    let of_old = c.loop-i.invariant.reads_old in
    let of_new = c.loop-i.invariant.reads_new in
    let version = c.args.version in
    record {
      reads_old = OnlyReadsDocuments-trans old_facts _ _ _ (g.met.S.Store.timely c.args.old.now.store) of_old c.write_block.ensures.reads_old;
      reads_new = OnlyReadsDocuments-trans new_facts _ _ _ (g.met.T.Store.timely c.args.new.now.store) of_new c.write_block.ensures.reads_new;
      went = λ so too.
          rw c.both-none.ensures (went_next (document_by version c.args.old.now) (document_by version c.args.new.now) (document_by version c.loop-i.old) (document_by version c.loop-i.new) c.loop-i.i
          (g.W.Write.contents c.args.writer.now) (g.W.Write.contents c.loop-i.writer) (g.W.Write.contents c.write_block.new.writer) c.loop-i.none c.in_ok-step.step
          (same_document old_facts _ _ of_old so version) (same_document new_facts _ _ of_new too version) (c.loop-i.invariant.went so too)
          (c.in_ok-step.ensures.ok (still_honest old_facts _ _ of_old so) (still_honest new_facts _ _ of_new too)));
    }

pub returns-in_err-step-clause-reads_old : goal.returns-in_err-step-clause-reads_old
returns-in_err-step-clause-reads_old g c = OnlyReadsDocuments-trans g.S.Store.facts _ _ _ (g.met.S.Store.timely c.args.old.now.store) c.loop-i.invariant.reads_old c.write_block.ensures.reads_old

pub returns-in_err-step-clause-reads_new : goal.returns-in_err-step-clause-reads_new
returns-in_err-step-clause-reads_new g c = OnlyReadsDocuments-trans g.T.Store.facts _ _ _ (g.met.T.Store.timely c.args.new.now.store) c.loop-i.invariant.reads_new c.write_block.ensures.reads_new

pub returns-clause-ok : goal.returns-clause-ok
returns-clause-ok g c = λ so too.
    let end : c.loop-i.i ≡ most_blocks = omega arith in
    went_all (document_by c.args.version c.args.old.now) (document_by c.args.version c.args.new.now) c.loop-i.i (g.W.Write.contents c.args.writer.now) (g.W.Write.contents c.loop-i.writer) c.loop-i.none end
    (c.loop-i.invariant.went so too)

pub returns-in_err-step-clause-fails : goal.returns-in_err-step-clause-fails
returns-in_err-step-clause-fails g c =
    let old_facts = g.S.Store.facts in
    let new_facts = g.T.Store.facts in
    let p = err_from_is_err_and c.from_residual.result c.from_residual.ensures.1 in
    rw (p.1, p.2)
    (refused_later (old_facts c.args.old.now.store) (old_facts c.loop-i.old.store) (old_facts c.write_block.new.old.store) (new_facts c.args.new.now.store) (new_facts c.loop-i.new.store) (new_facts c.write_block.new.new.store) _
    c.loop-i.invariant.reads_old.store c.loop-i.invariant.reads_new.store c.in_err-step.ensures.fails)
