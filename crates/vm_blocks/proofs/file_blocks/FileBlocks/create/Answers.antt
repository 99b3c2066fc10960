use Rattle.std.proofs.Common.{ℕ, ap₂, sym, subst, ap}
use Rattle.geos_model.specs.Document.{IsValid}
use Rattle.file_format.specs.File.{counting_slot}
use Rattle.geos_model.proofs.Validity.{empty_document-valid}
use Rattle.lru.specs.LruCache.{LruCache}
use Rattle.document_file.specs.Documents.{is_for_both}
use Rattle.vm_blocks.specs.Frames.{with_frames, residents}
use Rattle.vm_blocks.specs.Sound.{AreBlocksOf}
use Rattle.vm_blocks.specs.Opening.{IsMadeIn}
use Rattle.vm_blocks.specs.declared.frame.Frame.{Frame}
use Rattle.vm_blocks.proofs.StateValidity.{blocks_bare}
use Rattle.vm_blocks.specs.State.{locked_count}
use Rattle.vm_blocks.proofs.file_blocks.FileBlocks.create.Goals as goal

pub returns-clause-made : goal.returns-clause-made
returns-clause-made g c =
    let made = c.in_ok-file.ensures in
    subst (λ (x : LruCache ℕ Frame). IsMadeIn g.S.Store.facts c.args.store c.args.checksums (with_frames c.in_ok-file.file x.entries)) (sym c.in-Ok.ensures)
    (record { follows = made.store; document = made.made.0; new_file = made.made.1; bytes = made.bytes; size = made.size; one_directory = λ so. ap₂ (λ first second. is_for_both (counting_slot first second)) (made.first so) (made.second so); checksums = made.checksums })

pub invariant_of-result : goal.invariant_of-result
invariant_of-result g c =
    let made = c.in_ok-file.ensures.made.0 in (
      subst (λ (x : LruCache ℕ Frame). AreBlocksOf g.S.Store.facts c.in_ok-file.file x.entries x.cap) (sym c.in-Ok.ensures)
          (blocks_bare g.S.Store.facts c.in_ok-file.file c.args.frames c.requires (λ so. subst IsValid (sym made) empty_document-valid)),
      sym (ap (λ (x : LruCache ℕ Frame). locked_count (residents x.entries)) (c.in-Ok.ensures)),
    )
