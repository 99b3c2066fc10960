-- What is first looked for in an edit: the block, its kind, and the chunk.
use Rattle.std.proofs.Common.{◌∷◌, [], ◌+◌, ◌==◌, ◌||◌, ℕ, Bool, true, false, List, nat_lt, not, is_none, if◌then◌else◌, refl}
use Rattle.std.specs.FinMap.{contains_key}
use Rattle.geos_model.specs.Document.{Document, chunks_of, raw_bytes_of}
use Rattle.geos_model.specs.LargeBlocks.{root_at}
use Rattle.geos_model.specs.LargeEdits.{element_count, ends_within_element, is_too_long, on_run, on_window, set_large_conditions}
use Rattle.geos_model.specs.LargeLayout.{root_of, total_count}
use Rattle.geos_model.specs.Meaning.{conditions, on_block, on_raw, on_heap, on_chunk}
use Rattle.geos_model.specs.Refusal.{Conditions}
use Rattle.geos_model.specs.Scope.{Scope, Plain, New, Block, Raw, Heap, Chunk, Chain, Large, scope_of}
use Rattle.geos_model.specs.declared.command.Edit.{Edit}
use Rattle.geos_model.specs.declared.command.Edit.TheVariants as edits
use Rattle.geos_model.specs.declared.fault.Fault.TheVariants.{NoChunk, NotArray, NoElement, Range, TooBig}
use Rattle.doc_edits.specs.Found.{AreLate}
use Rattle.doc_edits.proofs.RoomLemmas.{Begins}

-- of large arrays whose elements vary in size or don't
late_either : (vary : Bool) (x y : Conditions) → AreLate x → AreLate y → AreLate (if vary then x else y)
late_either true x y mine other = mine
late_either false x y mine other = other

set_begins : (b i : ℕ) (bytes : List ℕ) → Begins on_raw b (λ d. set_large_conditions d b i bytes)
set_begins b i bytes = λ d.
    let r = root_at d b in
    let past = nat_lt (total_count r) (i + element_count r.size bytes) in
    let uneven = ends_within_element r.size bytes in
    let long = is_too_long r.size bytes in
    let window = on_window (not (past || long)) d b i (i + 1) (bytes ∷ []) in
    let run = on_run (not (past || uneven)) d b i (element_count r.size bytes) in (
      (NotArray, is_none (root_of (raw_bytes_of d b))) ∷ (NoElement, past) ∷ (Range, uneven) ∷ (TooBig, long) ∷ (if r.size == 0 then window else run),
      late_either (r.size == 0) window run refl refl,
      refl,
    )

-- the block of which an edit is, its kind and the chunk are looked for first

abbrev pub FirstOfScope : Edit → Scope → Type 0
FirstOfScope edit Plain = Unit {0}
FirstOfScope edit New = Unit {0}
FirstOfScope edit (Block b) = Begins on_block b.0 (conditions edit)
FirstOfScope edit (Raw b) = Begins on_raw b.0 (conditions edit)
FirstOfScope edit (Heap b) = Begins on_heap b.0 (conditions edit)
FirstOfScope edit (Chunk b c) = Begins (λ d h. on_chunk d h c.0) b.0 (conditions edit)
FirstOfScope edit (Chain b) = Unit {0}
FirstOfScope edit (Large b) = Begins on_raw b.0 (conditions edit)

pub scope_first : (edit : Edit) → FirstOfScope edit (scope_of edit)
scope_first (edits.NewRaw uid size) = tt
scope_first (edits.NewHeap uid) = tt
scope_first (edits.SetUserId b uid) = tt
scope_first (edits.SetType b heap_type) = tt
scope_first (edits.SetMap b) = tt
scope_first (edits.CopyChain b) = tt
scope_first (edits.FreeChain b) = tt
scope_first (edits.CreateLarge uid size) = tt
scope_first (edits.SetLarge b i bytes) = set_begins b.0 i.0 bytes
scope_first _ = λ d. (_, refl, refl)

-- of a chunk its heap is looked for before
pub heap_begins : (h c : ℕ) (conditions : Document → Conditions) → Begins (λ d h. on_chunk d h c) h conditions → Begins on_heap h conditions
heap_begins h c conditions begins = λ d. let first = begins d in ((NoChunk, not (contains_key (chunks_of d h) c)) ∷ first.0, first.1, first.2)
