-- The saved document, where it gets a directory with sums.
use Rattle.std.proofs.Common.{◌≡◌, ℕ, suc, ◌≤◌, List, [], ◌∷◌, Option, None, Some, All, length, refl, sym, ap, subst, ◌∙◌, arith, inl, inr}
use Rattle.std.specs.Prelude.{IfSome}
use Rattle.std.proofs.lemmas.List.Elements.{All-cons}
use Rattle.vm_store.specs.Facts.{Torn}
use Rattle.document_file.specs.Ranges.{IsPlaced, start_of, end_of, IsOut, IsClear}
use Rattle.document_file.specs.Slots.{block_extents, stored_extents, pair_extents, referenced_extents}
use Rattle.document_file.specs.Documents.{document_in, IsStored}
use Rattle.document_file.specs.Sound.{IsBlockTable, IsFormed, IsTurning}
use Rattle.document_file.specs.Sums.{IsResummed}
use Rattle.document_file.specs.PendingDirectories.{IsPendingDirectory, IsSavedAnew, IsSpared, reverted}
use Rattle.document_file.specs.declared.directory.PendingDirectory.{PendingDirectory}
use Rattle.document_file.specs.declared.table.BlockTable.{BlockTable}
use Rattle.document_file.specs.declared.table.DocumentRef.{DocumentRef}
use Rattle.document_file.specs.declared.slot.Slots.{Slots}
use Rattle.document_file.proofs.CopiesLemmas.{copy_document, copy_formed}
use Rattle.document_file.proofs.DocumentsLemmas.{stored_again, stored_within}
use Rattle.document_file.proofs.RangesLemmas.{all_right, keeps_itself, torn_keeps}
use Rattle.document_file.proofs.SoundLemmas.{kept_pair}
use Rattle.document_file.proofs.TurningLemmas.{resummed_document, resummed_extents, resummed_table}

-- what lies apart from what is torn is stored as before
pub apart_stored : (version at n : ℕ) (file c : List ℕ) (s : DocumentRef) → Torn at n file c → IsClear at n (stored_extents s) → IsStored version file s
    → IsStored version c s × (document_in c s.table.value ≡ document_in file s.table.value)
apart_stored version at n file c s torn apart stored =
    let within = stored_within version file s stored in
    let all = All-cons (λ e. end_of e ≤ length file) s.directory (block_extents s.table.value.places.items) within.0 within.1 in
    stored_again version file c s stored (torn_keeps at n (stored_extents s) file file c apart torn (keeps_itself (stored_extents s) file all))

-- what is known of one that is there
pub given_some : (P : PendingDirectory → Type 0) (o : Option PendingDirectory) (pending : PendingDirectory) → o ≡ Some pending → IfSome o P → P pending
given_some P o pending is holds = subst (λ x. IfSome x P) is holds

-- the extents of the live document with its directory
pub pending_extents : (live : BlockTable) (slots : Slots) (pending : PendingDirectory) → IsFormed live slots → IsPendingDirectory live slots pending → All IsPlaced (stored_extents pending.document)
pending_extents live slots pending formed is =
    All-cons IsPlaced pending.document.directory (block_extents pending.document.table.value.places.items) is.placed (subst (λ ps. All IsPlaced (block_extents ps)) (sym is.table.places) formed.placed)

-- those of the saved one
saved_extents : (P : _ → Type 0) (slots : Slots) → All P (pair_extents slots.committed) → All P (block_extents slots.committed.saved.table.value.places.items)
saved_extents P slots all =
    let saved = slots.committed.saved in
    let both = all_right P (stored_extents slots.committed.updated) (stored_extents saved) all in
    λ k x inside. both (suc k) x (omega (arith, inside))

module _ (live : BlockTable) (slots : Slots) (formed : IsFormed live slots) (pending : PendingDirectory) (anew : IsSavedAnew slots pending) where
  abbrev table : BlockTable
  table = anew.table

  abbrev saved : BlockTable
  saved = slots.committed.saved.table.value

  alike : IsResummed table saved
  alike = subst (IsTurning slots) anew.given formed.turning

  -- its blocks lie where they did
  pub anew_extents : block_extents pending.document.table.value.places.items ≡ block_extents saved.places.items
  unfolding alike
  anew_extents = ap block_extents anew.made.table_is.places ∙ resummed_extents table saved alike

  pub anew_table : IsBlockTable pending.document.table.value
  unfolding alike
  anew_table = copy_formed pending.document.table.value table anew.made.table_is (resummed_table table saved alike formed.committed.saved)

  pub anew_document : (file : List ℕ) → document_in file pending.document.table.value ≡ document_in file saved
  unfolding alike
  anew_document file = copy_document file pending.document.table.value table anew.made.table_is ∙ resummed_document table saved alike file

  pub anew_placed : IsSpared live slots pending → All IsPlaced (stored_extents pending.document)
  anew_placed spared =
      All-cons IsPlaced pending.document.directory (block_extents pending.document.table.value.places.items) spared.placed
      (subst (All IsPlaced) (sym anew_extents) (saved_extents IsPlaced slots (kept_pair IsPlaced slots formed.kept)))

  -- the directory of the live document lies apart from it
  pub anew_apart : (other : PendingDirectory) → IsPendingDirectory live slots other → IsClear (start_of pending.document.directory) pending.document.directory.length (other.document.directory ∷ [])
      → IsClear (start_of other.document.directory) other.document.directory.length (stored_extents pending.document)
  anew_apart other is apart =
      let e = other.document.directory in
      let d = pending.document.directory in
      let P : _ → Type 0 = λ x. IsOut (start_of e) e.length (start_of x) (end_of x) in
      let one : IsOut (start_of d) d.length (start_of e) (end_of e) = apart 0 e (omega arith) in
      let back : P d = elim one as (λ _. P d) [ inl before ↦ inr (omega (arith, before)) | inr behind ↦ inl (omega (arith, behind)) ] in
      let kept = all_right P (block_extents live.places.items) (referenced_extents slots) is.clear in
      All-cons P d (block_extents pending.document.table.value.places.items) back (subst (All P) (sym anew_extents) (saved_extents P slots (kept_pair P slots kept)))

-- What a revert commits.

module _ (live : BlockTable) (slots : Slots) (formed : IsFormed live slots) where
  pub reverted_table : (o : Option PendingDirectory) → IfSome o (IsSavedAnew slots) → IsBlockTable (reverted slots o).table.value
  reverted_table None anew = formed.committed.saved
  reverted_table (Some pending) anew = anew_table live slots formed pending anew

  pub reverted_placed : (o : Option PendingDirectory) → IfSome o (IsSavedAnew slots) → IfSome o (IsSpared live slots) → All IsPlaced (stored_extents (reverted slots o))
  reverted_placed None anew spared = all_right IsPlaced (stored_extents slots.committed.updated) (stored_extents slots.committed.saved) (kept_pair IsPlaced slots formed.kept)
  reverted_placed (Some pending) anew spared = anew_placed live slots formed pending anew spared

  pub reverted_document : (file : List ℕ) (o : Option PendingDirectory) → IfSome o (IsSavedAnew slots) → document_in file (reverted slots o).table.value ≡ document_in file slots.committed.saved.table.value
  reverted_document file None anew = refl
  reverted_document file (Some pending) anew = anew_document live slots formed pending anew file
