-- What always holds of the blocks of a file stays so.
use Rattle.std.proofs.Common.{◌≡◌, ◌≢◌, ◌≤◌, ℕ, Bool, List, IsTrue, true, false, [], Some, sym, ap, subst, ◌∙◌, arith}
use Rattle.std.specs.Prelude.{Result, Ok, Err, IfOk, MatchResult, nat_eq}
use Rattle.std.specs.Option.{option_map}
use Rattle.std.specs.Map.{remove_entry}
use Rattle.std.specs.FinMap.{get}
use Rattle.geos_model.specs.Document.{Block, Document, IsValid, block_at, is_live, is_valid_body, empty_document, with_body, with_attributes, without_block, is_heap, is_heap_body, attributes_of, FitAttributes, IsTyped}
use Rattle.geos_model.specs.declared.command.Body.{Body}
use Rattle.geos_model.specs.declared.fault.Fault.{Fault}
use Rattle.geos_model.proofs.Validity.{attributes-typed, empty_document-valid, with_body-valid, with_attributes-valid, without_block-valid}
use Rattle.geos_model.specs.declared.block.Attributes.{Attributes}
use Rattle.vm_store.specs.Facts.{StoreFacts}
use Rattle.document_file.specs.Disk.{FileState, IsFileDocument, SameUnlessCorrupt}
use Rattle.document_file.specs.Documents.{Documents}
use Rattle.document_file.specs.Effects.{IsCommit, LeavesDocument}
use Rattle.vm_blocks.specs.Frames.{frame_of, residents, overlay, shown, with_frames, AreFramesOf, KeepsOverlay}
use Rattle.vm_blocks.specs.SavingAs.{IsSavedAs, IsNotSavedAs}
use Rattle.vm_blocks.specs.State.{CacheState, as_file, is_resident}
use Rattle.vm_blocks.specs.Parts.{AllowsPart, body_after_part}
use Rattle.vm_blocks.specs.Sound.{IsValidState, AreBlocksOf}
use Rattle.vm_blocks.specs.declared.frame.Frame.{Frame}
use Rattle.vm_blocks.specs.declared.change.PartChange.{PartChange}
use Rattle.vm_blocks.proofs.DocumentUnderFrames.{bare_kept, overlay_live}
use Rattle.vm_blocks.proofs.OrderOfUse.{frame_by, resident_is}
use Rattle.vm_blocks.proofs.KindLemmas.{kind_there}
use Rattle.vm_blocks.proofs.PartLemmas.{part_kind, part_valid}
use Rattle.vm_blocks.proofs.Preparing.{body_of_option, live_there, takes_body}

-- a block in memory is live
pub seen_live : (honest : Bool) (es : List (ℕ × Frame)) (d : Document) → AreFramesOf honest d es → (h : ℕ) → is_resident (residents es) h ≡ true → is_live (overlay es d) h ≡ true
seen_live honest es d kept h there =
    let f = frame_by (frame_of es h) (sym (resident_is h es) ∙ there) in
    overlay_live honest es d h kept ∙ (kept.each h f.0 f.1).live

-- a document of a file that is valid
pub listed_valid : (honest : Bool) (d : Document) → IsFileDocument false d → (IsTrue honest → IsValid d) → IsFileDocument honest d
listed_valid honest d listed valid = record {
  handles = listed.handles;
  map_block = listed.map_block;
  typed = listed.typed;
  bodies = λ so h live. ((valid so).blocks h (block_at d h) (live_there d h live)).body;
}

module _ {S : Type 0} (facts : S → StoreFacts) where
  -- no frame is taken
  pub blocks_bare : (a : FileState S) (cap : ℕ) → 1 ≤ cap → (IsTrue (facts a.disk.store).honest → IsValid a.document) → AreBlocksOf facts a [] cap
  blocks_bare a cap some valid = record { kept = bare_kept (facts a.disk.store).honest a.document; state = record { valid = valid; room = some } }

  -- other frames, under which callers see the same document
  pub blocks_shown : (a : FileState S) (es : List (ℕ × Frame)) (cap : ℕ) (fs : List (ℕ × Frame)) (cap' : ℕ) → AreBlocksOf facts a es cap → AreFramesOf (facts a.disk.store).honest a.document fs → overlay fs a.document ≡ overlay es a.document → cap' ≡ cap → AreBlocksOf facts a fs cap'
  blocks_shown a es cap fs cap' sound kept same frames = record {
    kept = kept;
    state = record { valid = λ so. subst IsValid (sym same) (sound.state.valid so); room = subst (λ n. 1 ≤ n) (sym frames) sound.state.room };
  }

  pub sound_made : (frames : ℕ) (state : CacheState S) → 1 ≤ frames → state.document ≡ empty_document → (state.resident ≡ []) × (state.frames ≡ frames) → IsValidState facts state
  sound_made frames state some document empty = record {
    valid = λ so. subst IsValid (sym document) empty_document-valid;
    room = let same = empty.1 in omega (arith, some, same);
  }

  module _ (old new : CacheState S) (sound : IsValidState facts old) where
    -- where the document drifts at most
    pub sound_drifts : (facts new.disk.store).honest ≡ (facts old.disk.store).honest → SameUnlessCorrupt (facts old.disk.store).honest old.document new.document
        → new.frames ≡ old.frames → IsValidState facts new
    sound_drifts honest unless_corrupt frames = record {
      valid = λ so. let before : IsTrue (facts old.disk.store).honest = subst IsTrue honest so in subst IsValid (sym (unless_corrupt.same before)) (sound.valid before);
      room = let some = sound.room in omega (arith, some, frames);
    }

  -- frames over a file that drift at most
  pub blocks_drift : (a : FileState S) (es : List (ℕ × Frame)) (cap : ℕ) (b : FileState S) (fs : List (ℕ × Frame)) (cap' : ℕ) → AreBlocksOf facts a es cap → KeepsOverlay facts a es b fs → cap' ≡ cap → AreBlocksOf facts b fs cap'
  blocks_drift a es cap b fs cap' sound moves same = record { kept = moves.kept; state = sound_drifts (shown a es cap) (shown b fs cap') sound.state moves.passes.honest moves.unless_corrupt same }

  -- a document was committed, or not
  pub sound_commit : (old new : CacheState S) (pair : Documents) (d : Document) (r : Result (Unit {0}) Fault) → IsValidState facts old → (IsTrue (facts old.disk.store).honest → IsValid d) → IsCommit facts pair d (as_file old) (as_file new) r → new.frames ≡ old.frames → IsValidState facts new
  sound_commit old new pair d (Ok done) sound valid commit same = record {
    valid = λ so. let before : IsTrue (facts old.disk.store).honest = subst IsTrue commit.commits.honest so in subst IsValid (sym (commit.document.same before)) (valid before);
    room = let some = sound.room in omega (arith, some, same);
  }
  sound_commit old new pair d (Err fault) sound valid commit same = sound_drifts old new sound commit.commits.honest commit.document same

  pub blocks_commit : (a : FileState S) (es : List (ℕ × Frame)) (cap : ℕ) (b : FileState S) (fs : List (ℕ × Frame)) (cap' : ℕ) (pair : Documents) (d : Document) (r : Result (Unit {0}) Fault) → AreBlocksOf facts a es cap → AreFramesOf (facts b.disk.store).honest b.document fs
      → (IsTrue (facts a.disk.store).honest → IsValid d) → IsCommit facts pair d (with_frames a es) (with_frames b fs) r → cap' ≡ cap → AreBlocksOf facts b fs cap'
  blocks_commit a es cap b fs cap' pair d r sound kept valid commit same = record { kept = kept; state = sound_commit (shown a es cap) (shown b fs cap') pair d r sound.state valid commit same }

  -- other documents of the same blocks
  module _ (state : CacheState S) where
    sound_with : (d : Document) → (IsValid state.document → IsValid d) → IsValidState facts state → IsValidState facts (record state { document = d })
    sound_with d valid sound = record { valid = λ so. valid (sound.valid so); room = sound.room }

    pub sound_map : (h : ℕ) → (h ≢ 0 → is_live state.document h ≡ true) → IsValidState facts state → IsValidState facts (record state { document = record state.document { map_block = h } })
    sound_map h live sound = sound_with (record state.document { map_block = h }) (λ valid. record { blocks = valid.blocks; map_block = live }) sound

    pub sound_attributes : (h : ℕ) (attributes : Attributes) → FitAttributes attributes → IsTyped (is_heap state.document h) attributes → IsValidState facts state → IsValidState facts (record state { document = with_attributes state.document h attributes })
    sound_attributes h attributes fit typed sound = sound_with (with_attributes state.document h attributes) (λ valid. with_attributes-valid state.document h attributes valid fit typed) sound

    -- a block was taken out
    pub sound_taken : (h : ℕ) → (state.document.map_block ≡ h → ⊥) → IsValidState facts state → IsValidState facts (record state { document = without_block state.document h; resident = remove_entry (nat_eq h) state.resident })
    sound_taken h other sound = record {
      valid = λ so. without_block-valid state.document h (sound.valid so) other;
      room = sound.room;
    }

  -- blocks were put in, or not
  pub sound_put : (old new : CacheState S) (d : Document) (r : Result (Unit {0}) Fault) → IsValidState facts old → (IsValid old.document → IsValid d)
      → MatchResult r (λ _. LeavesDocument facts d (as_file old) (as_file new)) (λ _. LeavesDocument facts old.document (as_file old) (as_file new)) → (new.resident ≡ old.resident) × (new.frames ≡ old.frames) → IsValidState facts new
  sound_put old new d (Ok done) sound valid keeps same = record {
    valid = λ so. let before : IsTrue (facts old.disk.store).honest = subst IsTrue keeps.passes.honest so in subst IsValid (sym (keeps.document.same before)) (valid (sound.valid before));
    room = let some = sound.room in let frames = same.1 in omega (arith, some, frames);
  }
  sound_put old new d (Err fault) sound valid keeps same = sound_drifts old new sound keeps.passes.honest keeps.document same.1

  -- the file was saved under another store, or not
  pub sound_saved_as : {E : Type 0} (fault : E → Fault) (back : E → S) (target : S) (old new : CacheState S) (r : Result S E) → IsValidState facts old
      → IfOk r (λ _. IsTrue (facts new.disk.store).honest → IsValid new.document)
      → MatchResult r (λ store. IsSavedAs facts target store (as_file old) (as_file new)) (λ e. IsNotSavedAs facts target (back e) (as_file old) (as_file new) (fault e))
      → (new.resident ≡ old.resident) × (new.frames ≡ old.frames) → IsValidState facts new
  sound_saved_as fault back target old new (Ok store) sound valid saved same =
      record { valid = valid; room = let some = sound.room in let frames = same.1 in omega (arith, some, frames) }
  sound_saved_as fault back target old new (Err e) sound valid saved same =
      sound_drifts old new sound saved.commits.honest saved.document same.1

  -- the body of a block was changed
  module _ (state : CacheState S) (h : ℕ) (p : PartChange) (body made : Body) (there : option_map (λ (b : Block). b.body) (get state.document.blocks h) ≡ Some body) (takes : AllowsPart p (block_at state.document h).body) (is : made ≡ body_after_part p body) where
    taken : AllowsPart p body
    taken = takes_body state.document h p body there takes

    made_valid : IsValid state.document → is_live state.document h ≡ true → is_valid_body made ≡ true
    made_valid valid live =
        let good : is_valid_body body ≡ true = subst (λ (b : Body). is_valid_body b ≡ true) (body_of_option (get state.document.blocks h) body there) (valid.blocks h (block_at state.document h) (live_there state.document h live)).body in
        ap is_valid_body is ∙ part_valid p body good taken

    made_typed : IsValid state.document → IsTyped (is_heap_body made) (attributes_of state.document h)
    made_typed valid = λ raw. attributes-typed state.document h valid (kind_there state.document h body there ∙ sym (part_kind p body taken) ∙ sym (ap is_heap_body is) ∙ raw)

    pub sound_part : is_live state.document h ≡ true → IsValidState facts state → IsValidState facts (record state { document = with_body state.document h made })
    sound_part live sound = record {
      valid = λ so. let valid = sound.valid so in with_body-valid state.document h made valid live (made_typed valid) (made_valid valid live);
      room = sound.room;
    }
