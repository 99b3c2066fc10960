-- What comes of bringing into memory what an edit looks into.
use Rattle.std.proofs.Common.{◌≡◌, ◌⊎◌, ◌∷◌, ℕ, Bool, true, false, Some, Result, Err, IsOk, IfOk, IfErr, refl, sym, ap, subst, ◌∙◌}
use Rattle.std.specs.Result.{IsErrAnd}
use Rattle.geos_model.specs.Document.{Document, is_heap, is_live, is_raw}
use Rattle.geos_model.specs.Machine.{Needs, OneBody, edit_needs, needs_of_scope}
use Rattle.geos_model.specs.Meaning.{conditions}
use Rattle.geos_model.specs.Scope.{Scope, Block, Raw, Heap, Chunk, scope_of}
use Rattle.geos_model.specs.Refusal.{first_refusal}
use Rattle.geos_model.specs.declared.command.Edit.{Edit}
use Rattle.geos_model.specs.declared.fault.Fault.{Fault}
use Rattle.geos_model.specs.declared.fault.Fault.TheVariants.{CacheFull, NoBlock}
use Rattle.geos_model.specs.declared.handle.ChunkHandle.{ChunkHandle}
use Rattle.geos_model.specs.declared.handle.VmHandle.{VmHandle}
use Rattle.vm_blocks.specs.State.{CacheState}
use Rattle.vm_blocks.specs.Keeping.{IsCacheFull, is_loaded, has_no_frame_for}
use Rattle.vm_blocks.specs.Kinds.{IsWrongBlock}
use Rattle.doc_edits.specs.Planning.{RefusesEdit}
use Rattle.doc_edits.specs.Room.{lacks_frames, IsRefusedUnseen, ReadsNothing}
use Rattle.doc_edits.proofs.FirstConditions.{FirstOfScope, heap_begins, scope_first}
use Rattle.doc_edits.proofs.RoomLemmas.{LooksFor, early_dead, err_dead, err_of, kept_unseen, looks_for_any, looks_for_heap, looks_for_raw, unchanged, room_of, shut_of}

-- With the room it has, the block was brought in, or the edit is refused first of all.
pub record IsBrought {S : Type 0} (lacks : Fault → Type 0) (edit : Edit) (a b : CacheState S) (result : Result (Unit {0}) Fault) : Type 0 where
  pub room : IfOk result (λ _. lacks_frames a (edit_needs edit) ≡ false)
  pub shut : lacks_frames a (edit_needs edit) ≡ true → (b ≡ a) × IfErr result (λ fault. first_refusal ((CacheFull, true) ∷ conditions edit a.document) ≡ Some fault)
  pub err : IfErr result (RefusesEdit lacks (lacks_frames a (edit_needs edit)) edit b.document)
  pub unseen : IsRefusedUnseen (conditions edit a.document) → (b ≡ a) × IsErrAnd result (λ fault. first_refusal (conditions edit a.document) ≡ Some fault)
  pub already : ReadsNothing a (edit_needs edit) (conditions edit a.document)
      → (b.disk ≡ a.disk) × (b.document ≡ a.document)
      × IfErr result (λ fault. first_refusal (conditions edit a.document) ≡ Some fault)

module _ {S : Type 0} (lacks : Fault → Type 0) (edit : Edit) (a b : CacheState S) (h : VmHandle) (result : Result (Unit {0}) Fault) where
  module _ (is_kind : Document → ℕ → Bool) (scope : Scope) (is : scope_of edit ≡ scope) (body : needs_of_scope scope ≡ OneBody h.0) (looks : LooksFor is_kind h.0 (conditions edit))
      (early : (fault : Fault) → IsWrongBlock is_kind a.document h.0 fault → (result ≡ Err fault) × (b ≡ a)) (shut : is_kind a.document h.0 ≡ true → has_no_frame_for a h.0 ≡ true → (result ≡ Err CacheFull) × (b ≡ a))
      (err : IfErr result (λ fault. lacks fault ⊎ (IsWrongBlock is_kind b.document h.0 fault ⊎ IsCacheFull a h.0 fault)))
      (already : is_loaded a h.0 ≡ true → is_kind a.document h.0 ≡ true → IsOk result × (b.disk ≡ a.disk) × (b.document ≡ a.document)) where
    needs : edit_needs edit ≡ OneBody h.0
    needs = ap needs_of_scope is ∙ body

    same : lacks_frames a (edit_needs edit) ≡ has_no_frame_for a h.0
    same = ap (lacks_frames a) needs

    brought : IsBrought lacks edit a b result
    brought = record {
      room = subst (λ (out : Bool). IfOk result (λ _. out ≡ false)) (sym same) (room_of is_kind a b h.0 result early shut (conditions edit) looks);
      shut = λ out. shut_of is_kind a b h.0 result early shut (conditions edit) looks (sym same ∙ out);
      err = subst (λ (out : Bool). IfErr result (RefusesEdit lacks out edit b.document)) (sym same) (err_of is_kind a b h.0 result early shut (conditions edit) looks lacks err);
      unseen = kept_unseen is_kind a b h.0 result early (conditions edit) looks;
      already = λ nothing. unchanged is_kind a b h.0 result early shut (conditions edit) looks already (subst (λ (n : Needs). ReadsNothing a n (conditions edit a.document)) needs nothing);
    }

  pub block_brought : scope_of edit ≡ Block h → (is_live a.document h.0 ≡ false → (result ≡ Err NoBlock) × (b ≡ a)) → (is_live a.document h.0 ≡ true → has_no_frame_for a h.0 ≡ true → (result ≡ Err CacheFull) × (b ≡ a))
      → IfErr result (λ fault. lacks fault ⊎ (((fault ≡ NoBlock) × (is_live b.document h.0 ≡ false)) ⊎ IsCacheFull a h.0 fault))
      → (is_loaded a h.0 ≡ true → IsOk result × (b.disk ≡ a.disk) × (b.document ≡ a.document)) → IsBrought lacks edit a b result
  block_brought is dead shut err already =
      brought is_live (Block h) is refl (looks_for_any h.0 (conditions edit) (subst (FirstOfScope edit) is (scope_first edit))) (early_dead a b h.0 result dead) shut (err_dead a b h.0 lacks result err) (λ loaded live. already loaded)

  pub raw_brought : scope_of edit ≡ Raw h → ((fault : Fault) → IsWrongBlock is_raw a.document h.0 fault → (result ≡ Err fault) × (b ≡ a)) → (is_raw a.document h.0 ≡ true → has_no_frame_for a h.0 ≡ true → (result ≡ Err CacheFull) × (b ≡ a))
      → IfErr result (λ fault. lacks fault ⊎ (IsWrongBlock is_raw b.document h.0 fault ⊎ IsCacheFull a h.0 fault))
      → (is_loaded a h.0 ≡ true → is_raw a.document h.0 ≡ true → IsOk result × (b.disk ≡ a.disk) × (b.document ≡ a.document)) → IsBrought lacks edit a b result
  raw_brought is early shut err already = brought is_raw (Raw h) is refl (looks_for_raw h.0 (conditions edit) (subst (FirstOfScope edit) is (scope_first edit))) early shut err already

  -- a heap, for a new chunk or one of its own

  pub heap_brought : scope_of edit ≡ Heap h → ((fault : Fault) → IsWrongBlock is_heap a.document h.0 fault → (result ≡ Err fault) × (b ≡ a)) → (is_heap a.document h.0 ≡ true → has_no_frame_for a h.0 ≡ true → (result ≡ Err CacheFull) × (b ≡ a))
      → IfErr result (λ fault. lacks fault ⊎ (IsWrongBlock is_heap b.document h.0 fault ⊎ IsCacheFull a h.0 fault))
      → (is_loaded a h.0 ≡ true → is_heap a.document h.0 ≡ true → IsOk result × (b.disk ≡ a.disk) × (b.document ≡ a.document)) → IsBrought lacks edit a b result
  heap_brought is early shut err already = brought is_heap (Heap h) is refl (looks_for_heap h.0 (conditions edit) (subst (FirstOfScope edit) is (scope_first edit))) early shut err already

  pub chunk_brought : (c : ChunkHandle) → scope_of edit ≡ Chunk h c → ((fault : Fault) → IsWrongBlock is_heap a.document h.0 fault → (result ≡ Err fault) × (b ≡ a)) → (is_heap a.document h.0 ≡ true → has_no_frame_for a h.0 ≡ true → (result ≡ Err CacheFull) × (b ≡ a))
      → IfErr result (λ fault. lacks fault ⊎ (IsWrongBlock is_heap b.document h.0 fault ⊎ IsCacheFull a h.0 fault))
      → (is_loaded a h.0 ≡ true → is_heap a.document h.0 ≡ true → IsOk result × (b.disk ≡ a.disk) × (b.document ≡ a.document)) → IsBrought lacks edit a b result
  chunk_brought c is early shut err already =
      brought is_heap (Chunk h c) is refl (looks_for_heap h.0 (conditions edit) (heap_begins h.0 c.0 (conditions edit) (subst (FirstOfScope edit) is (scope_first edit)))) early shut err already
