use Rattle.std.proofs.Common.{◌≡◌, ℕ, List, subst, sym, arith}
use Rattle.file_format.proofs.LooksLemmas.{OnlyReadsStore-refl, OnlyReadsStore-trans, still, same_bytes_then, still_holds}
use Rattle.geos_model.specs.Document.{empty_document}
use Rattle.document_dump.specs.Changes.{first_progress}
use Rattle.document_dump.specs.Entries.{HasBlocks, IsListedAs}
use Rattle.document_dump.proofs.Went.{Went, went_none, went_more, went_all}
use Rattle.document_dump.proofs.entries.write_all_listed.Goals as goal

pub loop-i-init : goal.loop-i-init
loop-i-init g c = record {
  reads = OnlyReadsStore-refl (g.S.Store.facts c.args.store.now);
  holes = omega arith;
  went = λ so map_block d is. went_none empty_document d (first_progress 0) (g.W.Write.contents c.args.writer.now);
}

pub loop-i-preserved : goal.loop-i-preserved
loop-i-preserved g c =
    let a = g.S.Store.facts c.args.store.now in
    let b = g.S.Store.facts c.loop-i.store in
    let reads = c.loop-i.invariant.reads in
    record {
      reads = OnlyReadsStore-trans a b _ (g.met.S.Store.timely c.args.store.now) reads c.write_listed.ensures.reads;
      holes = omega (arith, c.loop-i.invariant.holes, c.in_ok-step.ensures.holes);
      went = λ so map_block d is.
          let now : IsListedAs b.content map_block c.args.entries.now d = subst (λ (bytes : List ℕ). IsListedAs bytes map_block c.args.entries.now d) (sym (same_bytes_then a b reads so)) is in
          let step = c.in_ok-step.ensures.ok (still a b reads so) map_block d now in
          rw c.either-some.ensures (went_more empty_document d (first_progress 0) c.loop-i.progress c.in_ok-step.step.progress c.loop-i.i (g.W.Write.contents c.args.writer.now) (g.W.Write.contents c.loop-i.writer)
          (g.W.Write.contents c.write_listed.new.writer) c.loop-i.some c.in_ok-step.step.some (omega arith) (c.loop-i.invariant.went so map_block d is) step.0 step.1 step.2);
    }

pub write_listed-requires-clause-whole : goal.write_listed-requires-clause-whole
write_listed-requires-clause-whole g c = still_holds (λ (bytes : List ℕ). HasBlocks bytes c.args.entries.now) (g.S.Store.facts c.args.store.now) (g.S.Store.facts c.loop-i.store) c.loop-i.invariant.reads c.requires

pub returns-in_err-step-clause-reads : goal.returns-in_err-step-clause-reads
returns-in_err-step-clause-reads g c = OnlyReadsStore-trans (g.S.Store.facts c.args.store.now) (g.S.Store.facts c.loop-i.store) _ (g.met.S.Store.timely c.args.store.now) c.loop-i.invariant.reads c.write_listed.ensures.reads

pub returns-clause-ok : goal.returns-clause-ok
returns-clause-ok g c = λ so map_block d is.
    let end : c.loop-i.i ≡ 8192 = omega arith in
    let from = g.W.Write.contents c.args.writer.now in
    let to = g.W.Write.contents c.loop-i.writer in
    went_all empty_document d (first_progress 0) c.loop-i.progress from to c.loop-i.some
    (subst (λ (i : ℕ). Went empty_document d (first_progress 0) c.loop-i.progress i from to c.loop-i.some) end (c.loop-i.invariant.went so map_block d is))
