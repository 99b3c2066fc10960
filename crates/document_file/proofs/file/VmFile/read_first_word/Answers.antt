use Rattle.std.proofs.Common.{◌≡◌, IsTrue, ap, subst, ◌∙◌}
use Rattle.std.specs.Prelude.{IfOk, IfErr}
use Rattle.std.proofs.lemmas.Result.{IfOk-weaker}
use Rattle.vm_store.specs.Facts.{FailedSince}
use Rattle.geos_model.specs.Document.{is_heap, is_live, raw_bytes_of}
use Rattle.geos_model.specs.declared.fault.Fault.TheVariants.{File}
use Rattle.document_file.specs.Fronts.{first_word}
use Rattle.document_file.specs.Sums.{has_sums}
use Rattle.document_file.proofs.EffectsLemmas.{view_reads}
use Rattle.document_file.proofs.SoundLemmas.{file_rested}
use Rattle.document_file.proofs.file.VmFile.read_first_word.Goals as goal

pub read_first_word-requires-clause-live : goal.read_first_word-requires-clause-live
read_first_word-requires-clause-live g c = ap (λ s. is_live s.document c.args.block.0) c.self.view_is ∙ c.requires.live

pub read_first_word-requires-clause-raw : goal.read_first_word-requires-clause-raw
read_first_word-requires-clause-raw g c = ap (λ s. is_heap s.document c.args.block.0) c.self.view_is ∙ c.requires.raw

pub read_first_word-requires-clause-images : goal.read_first_word-requires-clause-images
read_first_word-requires-clause-images g c = λ so. (c.self.invariant.sound.whole so).images

pub invariant_of-self : goal.invariant_of-self
invariant_of-self g c =
    let i = c.self.inside in
    file_rested (g.S.Store.facts i.store) (g.S.Store.facts c.read_first_word.new.store) i.live i.slots i.space i.bounds c.self.invariant c.read_first_word.ensures.looks

pub returns-clause-reads : goal.returns-clause-reads
returns-clause-reads g c =
    let i = c.self.inside in let store = c.read_first_word.new.store in
    view_reads g.S.Store.facts i.store store i.live i.slots c.self.invariant.sound (λ so. (g.met.S.Store.timely store so).now) c.args.self.now c.self.view_is c.read_first_word.ensures.looks

pub returns-clause-word : goal.returns-clause-word
returns-clause-word g c =
    let i = c.self.inside in
    subst (λ s. IfOk c.read_first_word.result (λ word. IsTrue (g.S.Store.facts s.disk.store).honest → word ≡ first_word s.disk.checksums (raw_bytes_of s.document c.args.block.0))) c.self.view_is
    (IfOk-weaker c.read_first_word.result _ _ (λ word is so. is (has_sums i.slots.next_version) so (c.self.invariant.sound.whole so).sums) c.read_first_word.ensures.word)

pub returns-clause-fails : goal.returns-clause-fails
returns-clause-fails g c =
    let facts = g.S.Store.facts in
    subst (λ s. IfErr c.read_first_word.result (λ fault. (fault ≡ File) × FailedSince (facts s.disk.store) (facts c.read_first_word.new.store))) c.self.view_is c.read_first_word.ensures.fails
