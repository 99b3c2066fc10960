-- A document that is marked in the file under its frames.
use Rattle.std.proofs.Common.{◌≡◌, ℕ, Bool, List, refl, ap, subst}
use Rattle.std.specs.Prelude.{Option, None, Some, Result, Ok, Err, OnErr}
use Rattle.vm_store.specs.Facts.{StoreFacts}
use Rattle.geos_model.specs.Document.{Document}
use Rattle.document_file.specs.Disk.{FileState, KeepsCommitted, SameUnlessCorrupt, MarkSameUnlessCorrupt}
use Rattle.document_file.proofs.PassingLemmas.{SameUnlessCorrupt-trans}
use Rattle.vm_blocks.specs.State.{Marks}
use Rattle.vm_blocks.specs.Frames.{overlay, shown, AreClean, KeepsOverlay}
use Rattle.vm_blocks.specs.declared.frame.Frame.{Frame}
use Rattle.vm_blocks.proofs.DocumentUnderFrames.{bare}

-- where no document is marked, none is after calls that commit nothing
pub none_marked : (honest : Bool) (old new : Option Document) → old ≡ None → MarkSameUnlessCorrupt honest old new → new ≡ None
none_marked honest old new none unless_corrupt = subst (λ (m : Option Document). MarkSameUnlessCorrupt honest m new) none unless_corrupt

pub on_err_always : {A E P : Type 0} (r : Result A E) → P → OnErr r P
on_err_always (Ok x) p = tt
on_err_always (Err e) p = p

module _ {S : Type 0} (facts : S → StoreFacts) where
  -- the file with its document marked
  abbrev pub with_mark : FileState S → FileState S
  with_mark a = record { disk = record a.disk { marked = Some a.document }; document = a.document }

  -- once no frame is changed the file has what they show
  pub marks_by : (a : FileState S) (es : List (ℕ × Frame)) (cap : ℕ) (b : FileState S) (fs : List (ℕ × Frame)) (cap' : ℕ) → a.disk.marked ≡ None → KeepsOverlay facts a es b fs → AreClean fs → cap' ≡ cap
      → Marks facts (shown a es cap) (shown (with_mark b) fs cap')
  marks_by a es cap b fs cap' none moves clean same =
      let was : (facts b.disk.store).honest ≡ (facts a.disk.store).honest = moves.passes.honest in
      let still : b.disk.marked ≡ None = none_marked (facts a.disk.store).honest a.disk.marked b.disk.marked none moves.passes.marked in
      let under : SameUnlessCorrupt (facts a.disk.store).honest (overlay fs b.document) b.document = subst (λ (t : Bool). SameUnlessCorrupt t (overlay fs b.document) b.document) was (bare (facts b.disk.store).honest fs b.document moves.kept clean.each) in
      record {
        passes = subst (KeepsCommitted facts a.disk) (ap (λ (m : Option Document). record b.disk { marked = m }) still) moves.passes;
        document = moves.unless_corrupt;
        marked = (b.document, refl, SameUnlessCorrupt-trans (facts a.disk.store).honest (overlay es a.document) (overlay fs b.document) b.document moves.unless_corrupt under);
        frames = same;
      }
