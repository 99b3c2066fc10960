-- What is built for an edit of a chunk's bytes: of an array a patch, and else a splice.
use Rattle.std.proofs.Common.{◌≡◌, ◌≤◌, ◌+◌, ◌-◌, ◌*◌, ◌/◌, ℕ, List, [], ◌∷◌, ◌++◌, Bool, true, false, not, cond, Option, Some, None, Result, Ok, Err, MatchResult, length, max, nat_lt, refl, sym, ap, subst, ◌∙◌, inl, inr, arith}
use Rattle.std.proofs.lemmas.Bool.{leb-true, le-ltb, lt-ltb, cases_lt, cases_Bool}
use Rattle.std.specs.Result.{IfOk}
use Rattle.std.specs.FinMap.{empty, get, insert, contains_key}
use Rattle.std.specs.Option.{option_map_or}
use Rattle.geos_model.specs.ArrayEdits.{too_long}
use Rattle.geos_model.specs.Cost.{cost, both_lengths}
use Rattle.geos_model.specs.Document.{Block, Document, chunks_of, chunks_of_body, attributes_of}
use Rattle.geos_model.specs.Heap.{ChunkMap, chunk_bytes, fits, fits_with, is_heap_map, need, capacity, longest_chunk}
use Rattle.geos_model.specs.Machine.{kind_of}
use Rattle.geos_model.specs.Places.{array_places, at_elements, places_of}
use Rattle.geos_model.specs.Meaning.{conditions, effect, chunk_at, with_chunk, on_chunk, on_new_bytes, no_room}
use Rattle.geos_model.specs.Refusal.{Conditions, first_refusal}
use Rattle.geos_model.specs.Targets.{byte_edit}
use Rattle.geos_model.proofs.Table.{table_map}
use Rattle.geos_model.specs.declared.command.Body.TheVariants.{Heap}
use Rattle.geos_model.specs.declared.command.Done.{Done}
use Rattle.geos_model.specs.declared.command.Done.TheVariants as done
use Rattle.geos_model.specs.declared.command.Edit.{Edit}
use Rattle.geos_model.specs.declared.command.Kind.TheVariants.{In}
use Rattle.geos_model.specs.declared.fault.Fault.{Fault}
use Rattle.geos_model.specs.declared.fault.Fault.TheVariants.{Full}
use Rattle.geos_model.specs.declared.handle.ChunkHandle.{ChunkHandle}
use Rattle.geos_model.specs.declared.handle.VmHandle.{VmHandle}
use Rattle.geos_model.specs.declared.place.Place.TheVariants as place
use Rattle.geos_model.specs.declared.target.ByteEdit.{ByteEdit}
use Rattle.geos_model.proofs.HeapTables.{heap_map-table, live_handle, is_chunk_handle-parts, trimmed-put, chunk_length_le, fits_with-fewer}
use Rattle.geos_model.proofs.ChunkLengths.{in_heap}
use Rattle.geos_model.proofs.HeapEdits.{get-put_same}
use Rattle.geos_model.proofs.Tables.{put_at, slot_at-put_same, table_map-put}
use Rattle.chunk_arrays.specs.Replacing.{Replaces, ReplacesAt, RefusesToReplace}
use Rattle.chunk_edits.specs.Patching.{PatchPiece, patched, total_given, total_taken}
use Rattle.chunk_edits.specs.Runs.{LiesAt, runs_places}
use Rattle.chunk_edits.specs.Splicing.{Splice, Builds, RefusesToBuild, forwards}
use Rattle.chunk_edits.specs.declared.runs.ArrayPatch.{ArrayPatch}
use Rattle.chunk_edits.proofs.PatchingLemmas.{patched_length, pieces_length}
use Rattle.lmem_heap.proofs.PlacedLemmas.{slot_from_live}
use Rattle.vm_blocks.proofs.RoomLemmas.{bytes-put}
use Rattle.vm_blocks.specs.ChangePlaces.{run_of}
use Rattle.vm_blocks.specs.declared.change.PartChange.TheVariants as parts
use Rattle.doc_edits.specs.Found.{AreOwn, IsHeapAt, IsChunkAt}
use Rattle.doc_edits.specs.Building.{silently, MakesPart, MakesSplice}
use Rattle.doc_edits.specs.Planning.{RefusesInMemory}
use Rattle.doc_edits.proofs.Order.{more_refused, more_accepted, has_room}
use Rattle.doc_edits.proofs.Refusals.{past_chunk}

-- In the place of which elements of an array so many others are put.
pub record Elements : Type 0 where
  pub from : ℕ
  pub to : ℕ
  pub others : ℕ

-- one in the place of one
abbrev pub one_at : ℕ → Elements
one_at t = record { from = t; to = t + 1; others = 1 }

-- An edit of the array in a chunk: its own refusals of its bytes, what it makes of them, by replacing which elements,
-- and what it answers.
pub record EditsChunk (edit : Edit) (d : Document) (b : VmHandle) (c : ChunkHandle) (own : List ℕ → Conditions) (to : List ℕ → List ℕ) (at : List ℕ → Elements) (done : Done) : Type 0 where
  pub are_own : (bytes : List ℕ) → AreOwn (own bytes)
  pub refusals : let old = chunk_at d b.0 c.0 in conditions edit d ≡ on_new_bytes d b.0 c.0 (own old) (to old)
  pub does : effect edit d ≡ (with_chunk d b.0 c.0 (to (chunk_at d b.0 c.0)), done)
  pub kind : kind_of edit ≡ In b
  pub cost : (after : Document) → cost edit d after ≡ both_lengths d after b.0 c.0
  pub places : let e = at (chunk_at d b.0 c.0) in places_of edit d ≡ at_elements edit d b c e.from e.to e.others

-- What an edit of an array builds for these bytes: nothing of its own refuses it, and what it makes of them is no
-- longer than any chunk.
abbrev pub BuildsFor : ArrayPatch → List ℕ → (List ℕ → Conditions) → (List ℕ → List ℕ) → (List ℕ → Elements) → Type 0
BuildsFor p bytes own to at = ReplacesAt (own bytes) bytes (to bytes) (at bytes).from (at bytes).to (at bytes).others p

-- no heap has room for more bytes than these in a chunk
pub fits_short : (m : ChunkMap) (h : ℕ) (bytes : List ℕ) → is_heap_map m ≡ true → contains_key m h ≡ true → fits_with m h bytes ≡ true → length bytes ≤ longest_chunk
unfolding fits_with fits
fits_short m h bytes heap live fit =
    let shown = heap_map-table m heap in
    let t = shown.0 in
    let i : ℕ = (h - 16) / 2 in
    let parts = is_chunk_handle-parts h (live_handle m h heap live) in
    let at : 16 + 2 * i ≡ h = omega (arith, parts.0, parts.2) in
    let is : table_map 2 16 (put_at t i bytes) ≡ insert m h bytes = table_map-put (omega arith) 16 t i bytes ∙ ap (λ (k : ℕ). insert (table_map 2 16 t) k bytes) at ∙ ap (λ (x : ChunkMap). insert x h bytes) (sym shown.2) in
    let most : need (insert m h bytes) ≤ capacity = leb-true _ _ fit in
    chunk_length_le (put_at t i bytes) (trimmed-put t i bytes shown.1) (omega (arith, most, ap need is)) i bytes (slot_at-put_same t i bytes)

long_full : (m : ChunkMap) (h : ℕ) (bytes : List ℕ) → is_heap_map m ≡ true → contains_key m h ≡ true → nat_lt longest_chunk (length bytes) ≡ true → not (fits_with m h bytes) ≡ true
long_full m h bytes heap live long = elim (cases_Bool (fits_with m h bytes)) [
  | inl fit ↦ let no : false ≡ true = sym (le-ltb longest_chunk (length bytes) (fits_short m h bytes heap live fit)) ∙ long in cc
  | inr full ↦ rw full refl
]

-- the bytes that a chunk was given
pub chunk_with : (d : Document) (b c : ℕ) (bytes : List ℕ) → chunk_at (with_chunk d b c bytes) b c ≡ bytes
chunk_with d b c bytes =
    ap (λ (o : Option Block). chunk_bytes (option_map_or (λ (k : Block). chunks_of_body k.body) o empty) c) (get-put_same d.blocks b (record { attributes = attributes_of d b; body = Heap (insert (chunks_of d b) c bytes) }) b refl)
    ∙ bytes-put (chunks_of d b) c bytes

short_by : (n k : ℕ) → k ≡ n → nat_lt longest_chunk n ≡ false → k ≤ longest_chunk
short_by n k same e = elim (cases_lt longest_chunk n) [
  | inl l ↦ let no : false ≡ true = sym e ∙ lt-ltb longest_chunk n l in cc
  | inr l ↦ omega arith
]

module _ (edit : Edit) (d : Document) (b : VmHandle) (c : ChunkHandle) (own : List ℕ → Conditions) (to : List ℕ → List ℕ) (at : List ℕ → Elements) (done : Done) (means : EditsChunk edit d b c own to at done) where
  abbrev old : List ℕ
  old = chunk_at d b.0 c.0

  abbrev m : ChunkMap
  m = chunks_of d b.0

  module _ (bytes : List ℕ) (there : IsChunkAt d b.0 c.0 bytes) where
    past : first_refusal (conditions edit d) ≡ first_refusal (own old ++ no_room m c.0 (to old))
    past = ap first_refusal means.refusals ∙ past_chunk d b.0 c.0 m (own old ++ no_room m c.0 (to old)) there.heap there.live

    -- the builder refuses it
    pub refuses_built : (fault : Fault) → RefusesToReplace (own bytes) (to bytes) fault → RefusesInMemory edit d fault
    refuses_built fault (inl memory) = inl memory
    refuses_built fault (inr first) =
        let here : first_refusal (own old ++ too_long (to old)) ≡ Some fault = subst (λ (x : List ℕ). first_refusal (own x ++ too_long (to x)) ≡ Some fault) there.value first in
        inr (past ∙ more_refused (own old) (means.are_own old) (nat_lt longest_chunk (length (to old))) (not (fits_with m c.0 (to old))) fault (long_full m c.0 (to old) there.valid there.live) here)

    -- the chunk after it
    becomes : chunk_at (effect edit d).0 b.0 c.0 ≡ to old
    becomes = ap (λ (p : Document × Done). chunk_at p.0 b.0 c.0) means.does ∙ chunk_with d b.0 c.0 (to old)

    module _ (ps : List PatchPiece) (builds : Replaces (own old) old (to old) ps) where
      refusal_is : first_refusal (conditions edit d) ≡ cond (fits_with m c.0 (patched ps old)) None (Some Full)
      refusal_is =
          past ∙ more_accepted (own old) (means.are_own old) (nat_lt longest_chunk (length (to old))) (not (fits_with m c.0 (to old))) builds.accepted
          ∙ turned (fits_with m c.0 (to old)) ∙ ap (λ (x : List ℕ). cond (fits_with m c.0 x) None (Some Full)) (sym builds.leads.gives)
        where
          turned : (fit : Bool) → cond (not fit) (Some Full) None ≡ cond fit None (Some Full)
          turned true = refl
          turned false = refl

      -- it is charged for the bytes before and after it
      lengths_are : total_taken ps + total_given ps ≡ length old + length (to old)
      lengths_are = omega (arith, pieces_length ps old builds.leads.stands, patched_length ps old builds.leads.stands, ap length builds.leads.gives)

      cost_is : total_taken ps + total_given ps ≡ cost edit d (effect edit d).0
      cost_is = lengths_are ∙ ap (λ (x : List ℕ). length old + length x) (sym becomes) ∙ sym (means.cost (effect edit d).0)

    -- it changes its chunk where it is told, as no chunk has more bytes than a word counts
    runs_are : (p : ArrayPatch) → BuildsFor p old own to at → runs_places b c p.runs ≡ places_of edit d
    runs_are p builds =
        let short : length old ≤ longest_chunk = in_heap m c.0 old there.valid (slot_from_live (get m c.0) there.live) in
        let e = at old in
        builds.runs (omega (arith, short)) b c ∙ ap (λ (x : List ℕ). array_places b c old x e.from e.to e.others) (sym becomes) ∙ sym means.places

    array_made : (p : ArrayPatch) → BuildsFor p old own to at → MakesPart edit d b c (parts.Patch c p.patch p.runs) done
    array_made p builds =
        let leads = builds.replaces.leads in
        record {
          chunk = refl;
          built = record {
            stands = record { stands = leads.stands; gives = refl; peak = leads.peak ∙ ap (λ (x : List ℕ). max (length old) (length x)) (sym leads.gives) };
            short = short_by (length (to old)) (length (patched p.patch old)) (ap length leads.gives) (has_room (own old) (means.are_own old) (nat_lt longest_chunk (length (to old))) builds.replaces.accepted);
          };
          refusal = refusal_is p.patch builds.replaces;
          document = ap (with_chunk d b.0 c.0) leads.gives ∙ ap (λ p. p.0) (sym means.does);
          answer = ap (λ p. p.1) (sym means.does);
          kind = means.kind;
          cost = cost_is p.patch builds.replaces;
          places = runs_are p builds;
        }

    pub patch_built : (p : ArrayPatch) → BuildsFor p bytes own to at → MakesPart edit d b c (parts.Patch c p.patch p.runs) done
    patch_built p builds = array_made p (subst (λ (x : List ℕ). BuildsFor p x own to at) there.value builds)

    -- what a builder answers
    pub built : (r : Result ArrayPatch Fault) → MatchResult r (λ p. BuildsFor p bytes own to at) (RefusesToReplace (own bytes) (to bytes))
        → MatchResult r (λ p. MakesPart edit d b c (parts.Patch c p.patch p.runs) done) (RefusesInMemory edit d)
    built (Ok p) builds = patch_built p builds
    built (Err fault) refuses = refuses_built fault refuses

-- the run of a splice
pub lies_there : (b : VmHandle) (c : ChunkHandle) (s : Splice) (at before after : ℕ) → LiesAt s at before after → run_of b c s ∷ [] ≡ place.Run b c at before after ∷ []
lies_there b c s at before after lies = λ i. place.Run b c (lies.starts i) (lies.goes i) (lies.comes i) ∷ []

-- An edit that isn't one of an array.
module _ (edit : Edit) (d : Document) (b : VmHandle) (c : ChunkHandle) (rest : Conditions) (to : List ℕ) (held : ℕ) (heap : IsHeapAt d b.0 (chunks_of d b.0)) (live : contains_key (chunks_of d b.0) c.0 ≡ true) (valid : is_heap_map (chunks_of d b.0) ≡ true)
    (refusals : conditions edit d ≡ on_chunk d b.0 c.0 ++ rest) (does : effect edit d ≡ (with_chunk d b.0 c.0 to, done.Nothing)) (kind : kind_of edit ≡ In b) (costs : held ≡ cost edit d (effect edit d).0)
    (at before after : ℕ) (places : places_of edit d ≡ place.Run b c at before after ∷ []) where
  plain_past : first_refusal (conditions edit d) ≡ first_refusal rest
  plain_past = ap first_refusal refusals ∙ past_chunk d b.0 c.0 (chunks_of d b.0) rest heap live

  plain_made : (s : Splice) → Builds rest s (chunk_at d b.0 c.0) to held → fits_with (chunks_of d b.0) c.0 to ≡ true → LiesAt s at before after → MakesSplice edit d b c s
  plain_made s builds fit lies =
      let fits_then : fits_with (chunks_of d b.0) c.0 (forwards s (chunk_at d b.0 c.0)) ≡ true = ap (fits_with (chunks_of d b.0) c.0) builds.leads.gives ∙ fit in
      record {
        part = record {
          chunk = refl;
          built = record { stands = builds.leads.stands; short = fits_short (chunks_of d b.0) c.0 _ valid live fits_then };
          refusal = plain_past ∙ builds.accepted ∙ ap (λ (t : Bool). cond t None (Some Full)) (sym fits_then);
          document = ap (with_chunk d b.0 c.0) builds.leads.gives ∙ ap (λ p. p.0) (sym does);
          answer = ap (λ p. p.1) (sym does);
          kind = kind;
          cost = builds.leads.holds ∙ costs;
          places = lies_there b c s at before after lies ∙ sym places;
        };
        fits = fits_then;
      }

  plain_refuses : (fault : Fault) → RefusesToBuild rest fault → RefusesInMemory edit d fault
  plain_refuses fault (inl memory) = inl memory
  plain_refuses fault (inr first) = inr (plain_past ∙ first)

  pub plain_built : (r : Result Splice Fault) → MatchResult r (λ s. Builds rest s (chunk_at d b.0 c.0) to held) (RefusesToBuild rest) → IfOk r (λ s. fits_with (chunks_of d b.0) c.0 to ≡ true)
      → IfOk r (λ s. LiesAt s at before after) → MatchResult r (λ s. MakesSplice edit d b c s) (RefusesInMemory edit d)
  plain_built (Ok s) builds fit lies = plain_made s builds fit lies
  plain_built (Err fault) refuses fit lies = plain_refuses fault refuses

  -- what is no longer than the chunk finds room
  no_longer_fits : (r : Result Splice Fault) → IfOk r (λ s. length to ≤ length (chunk_at d b.0 c.0)) → IfOk r (λ s. fits_with (chunks_of d b.0) c.0 to ≡ true)
  no_longer_fits (Ok s) no_longer = fits_with-fewer (chunks_of d b.0) c.0 to valid live no_longer
  no_longer_fits (Err fault) no_longer = tt

  pub no_longer_built : (r : Result Splice Fault) → MatchResult r (λ s. Builds rest s (chunk_at d b.0 c.0) to held) (RefusesToBuild rest) → IfOk r (λ s. length to ≤ length (chunk_at d b.0 c.0))
      → IfOk r (λ s. LiesAt s at before after) → MatchResult r (λ s. MakesSplice edit d b c s) (RefusesInMemory edit d)
  no_longer_built r builds no_longer lies = plain_built r builds (no_longer_fits r no_longer) lies

-- What a builder answers: of the bytes of a chunk as such,

abbrev pub SplicesOf : ChunkMap → ChunkHandle → List ℕ → Result Splice Fault → ByteEdit → Type 0
SplicesOf m c bytes r edit = (d : Document) (b : VmHandle) → IsHeapAt d b.0 m → IsChunkAt d b.0 c.0 bytes → MatchResult r (λ s. MakesSplice (byte_edit b c edit) d b c s) (RefusesInMemory (byte_edit b c edit) d)

-- and of an array, whichever chunk it is.

abbrev pub PatchesOf : List ℕ → Done → Result ArrayPatch Fault → (VmHandle → ChunkHandle → Edit) → Type 0
PatchesOf bytes done r edit = (d : Document) (b : VmHandle) (c : ChunkHandle) → IsChunkAt d b.0 c.0 bytes → MatchResult r (λ p. MakesPart (edit b c) d b c (parts.Patch c p.patch p.runs) done) (RefusesInMemory (edit b c) d)

abbrev pub AnswersOf : List ℕ → Result (ArrayPatch × Done) Fault → (VmHandle → ChunkHandle → Edit) → Type 0
AnswersOf bytes r edit = (d : Document) (b : VmHandle) (c : ChunkHandle) → IsChunkAt d b.0 c.0 bytes → MatchResult r (λ built. MakesPart (edit b c) d b c (parts.Patch c built.0.patch built.0.runs) built.1) (RefusesInMemory (edit b c) d)

module _ (bytes : List ℕ) (edit : VmHandle → ChunkHandle → Edit) where
  pub array_built : (own : List ℕ → Conditions) (to : List ℕ → List ℕ) (at : List ℕ → Elements) (done : Done) → ((d : Document) (b : VmHandle) (c : ChunkHandle) → EditsChunk (edit b c) d b c own to at done) → (r : Result ArrayPatch Fault)
      → MatchResult r (λ p. BuildsFor p bytes own to at) (RefusesToReplace (own bytes) (to bytes)) → PatchesOf bytes done r edit
  array_built own to at done means r builds = λ d b c there. built (edit b c) d b c own to at done (means d b c) bytes there r builds

  pub silent_built : (r : Result ArrayPatch Fault) → PatchesOf bytes done.Nothing r edit → AnswersOf bytes (silently r) edit
  silent_built (Ok p) builds = builds
  silent_built (Err fault) builds = builds
