use Rattle.std.proofs.Common.{◌≡◌, ◌<◌, ◌++◌, ◌∷◌, [], ℕ, Err, None, Some, length, get_or, take, arith, refl, sym, ◌∙◌, ap}
use Rattle.std.proofs.lemmas.List.{take_more, take_all}
use Rattle.std.proofs.lemmas.Result.{err_from_is_err_and}
use Rattle.geos_model.specs.Document.{Block}
use Rattle.file_format.specs.File.{block_of, blocks_of_entries}
use Rattle.geos_model.specs.declared.fault.Fault.TheVariants.{Damaged}
use Rattle.file_format.proofs.Files.{no_entry}
use Rattle.file_format.proofs.LooksLemmas.{OnlyReadsStore-refl, OnlyReadsStore-trans, held_before}
use Rattle.document_file.proofs.OpenedDirectoryLemmas.{no_blocks}
use Rattle.document_stat.proofs.Adding.{adds_no_block, counted_more}
use Rattle.document_stat.proofs.ValidBlocks.{blocks_more}
use Rattle.document_stat.proofs.documents.count_blocks.Goals as goal

pub loop-entry-init : goal.loop-entry-init
loop-entry-init g c = record {
  looks = OnlyReadsStore-refl _;
  counted = λ so. ([], refl, record { first = c.new-stat.result; none = c.new-stat.ensures; adds = adds_no_block c.new-stat.result });
}

pub loop-entry-preserved : goal.loop-entry-preserved
loop-entry-preserved g c =
    let es = c.args.entries.now in
    let i = c.loop-entry.entry-index in
    let e = get_or es i no_entry in
    let inside : i < length es = omega arith in
    let file = (g.S.Store.facts c.args.store.now).content in
    let was = c.loop-entry.invariant in
    let b : ℕ × Block = (e.handle.0, record { attributes = e.attributes; body = c.in_ok-image.image }) in
    let block = held_before (λ f. block_of f e ≡ Some b) _ _ was.looks c.in_ok-image.ensures.ok in
    record {
      looks = OnlyReadsStore-trans _ _ _ (λ so. g.met.S.Store.timely c.args.store.now so) was.looks c.in_ok-image.ensures.looks;
      counted = λ so.
          let before = was.counted so in (
            before.0 ++ b ∷ [],
            ap (blocks_of_entries file) (take_more es i no_entry inside) ∙ blocks_more file (take i es) e before.0 b before.1 (block so),
            counted_more before.0 (b ∷ []) c.loop-entry.stat c.add.new.self before.2 c.in_ok-add.ensures.ok,
          );
    }

pub returns-clause-looks : goal.returns-clause-looks
returns-clause-looks g c = c.loop-entry.invariant.looks

pub returns-clause-ok : goal.returns-clause-ok
returns-clause-ok g c = λ so.
    let es = c.args.entries.now in
    let all = c.loop-entry.invariant.counted so in
    (all.0, ap (blocks_of_entries (g.S.Store.facts c.args.store.now).content) (sym (take_all c.loop-entry.entry-index es (omega arith))) ∙ all.1, all.2)

pub returns-in_err-image-clause-damaged : goal.returns-in_err-image-clause-damaged
returns-in_err-image-clause-damaged g c =
    let es = c.args.entries.now in
    let i = c.loop-entry.entry-index in
    let inside : i < length es = omega arith in
    let file = (g.S.Store.facts c.args.store.now).content in
    let p = err_from_is_err_and c.from_residual.result c.from_residual.ensures.1 in
    rw (p.1, p.2) (λ err so.
    let was : c.in_err-image.field-0.0 ≡ Damaged = (cc) in
    no_blocks file es i no_entry inside (held_before (λ f. block_of f (get_or es i no_entry) ≡ None) _ _ c.loop-entry.invariant.looks (c.in_err-image.ensures.damaged (ap (λ f. Err f) was)) so))
