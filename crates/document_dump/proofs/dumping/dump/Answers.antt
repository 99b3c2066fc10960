use Rattle.document_file.proofs.StoredDocumentsLemmas.{OnlyReadsDocuments-trans}
use Rattle.document_dump.proofs.Dumped.{dumped_saved, dumped_both}
use Rattle.document_dump.proofs.Stages.{still_honest}
use Rattle.document_dump.proofs.dumping.dump.Goals as goal

pub returns-in-Saved-clause-ok : goal.returns-in-Saved-clause-ok
returns-in-Saved-clause-ok g c = λ so.
    rw c.in-Saved.is (dumped_saved c.args.file.now.updated c.args.file.now.saved (g.W.Write.contents c.args.writer.now) (g.W.Write.contents c.dump_saved.new.writer) (c.in_ok-dump_saved.ensures.ok so))

pub returns-in_err-dump_open-in-Both-clause-reads : goal.returns-in_err-dump_open-in-Both-clause-reads
returns-in_err-dump_open-in-Both-clause-reads g c = OnlyReadsDocuments-trans g.S.Store.facts _ _ _ (g.met.S.Store.timely c.args.file.now.store) c.dump_saved.ensures.reads c.dump_open.ensures.reads

pub returns-in_ok-dump_open-in-Both-clause-reads : goal.returns-in_ok-dump_open-in-Both-clause-reads
returns-in_ok-dump_open-in-Both-clause-reads g c = OnlyReadsDocuments-trans g.S.Store.facts _ _ _ (g.met.S.Store.timely c.args.file.now.store) c.dump_saved.ensures.reads c.dump_open.ensures.reads

pub returns-in_ok-dump_open-in-Both-clause-ok : goal.returns-in_ok-dump_open-in-Both-clause-ok
returns-in_ok-dump_open-in-Both-clause-ok g c = λ so.
    let reads = c.dump_saved.ensures.reads in
    rw c.in-Both.is
    (dumped_both c.args.file.now.updated c.args.file.now.saved c.dump_saved.new.file.updated c.dump_saved.new.file.saved (g.W.Write.contents c.args.writer.now) (g.W.Write.contents c.dump_saved.new.writer) (g.W.Write.contents c.dump_open.new.writer)
    (reads.updated.same so) (reads.saved.same so) (c.in_ok-dump_saved.ensures.ok so) (c.in_ok-dump_open-in-Both.ensures.ok (still_honest g.S.Store.facts _ _ reads so)))
