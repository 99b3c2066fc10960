-- Plans of edits that replace a run of bytes.
use Rattle.std.proofs.Common.{◌≡◌, ◌≢◌, ◌≤◌, ◌+◌, ◌⊎◌, ℕ, List, [], ◌∷◌, ◌++◌, Bool, true, false, not, Option, Some, None, Result, Ok, Err, MatchResult, is_some, unwrap_or, length, take, drop, nat_lt, refl, sym, ap, subst, ◌∙◌, inl, inr, arith, length-drop, rules}
use Rattle.std.proofs.lemmas.Bool.{cases_lt, le-ltb, leb-true, lt-ltb}
use Rattle.std.specs.FinMap.{get, contains_key}
use Rattle.std.specs.Option.{option_map, option_map_or}
use Rattle.geos_model.specs.Bytes.{spliced}
use Rattle.geos_model.specs.Cost.{cost}
use Rattle.geos_model.specs.Document.{Block, Document, block_at, chunks_of, is_heap_body, is_live, is_valid_body, no_block, raw_bytes_of, with_body}
use Rattle.geos_model.specs.Heap.{ChunkMap, capacity, chunk_bytes, fits_with}
use Rattle.geos_model.specs.Machine.{OneBody, edit_needs, kind_of, needs_of_scope}
use Rattle.geos_model.specs.Meaning.{chunk_at, conditions, effect, no_room, on_chunk, on_raw, past_end, too_big, with_chunk}
use Rattle.geos_model.specs.Places.{places_of, raw_run}
use Rattle.geos_model.specs.Refusal.{Conditions, first_refusal}
use Rattle.geos_model.specs.Scope.{Scope, scope_of}
use Rattle.geos_model.specs.Scope as scopes
use Rattle.geos_model.specs.declared.command.Body.{Body}
use Rattle.geos_model.specs.declared.command.Body.TheVariants.{Heap, Raw}
use Rattle.geos_model.specs.declared.command.Done.{Done}
use Rattle.geos_model.specs.declared.command.Done.TheVariants as done
use Rattle.geos_model.specs.declared.command.Edit.{Edit}
use Rattle.geos_model.specs.declared.command.Edit.TheVariants as edits
use Rattle.geos_model.specs.declared.command.Kind.TheVariants.{In}
use Rattle.geos_model.specs.declared.fault.Fault.{Fault}
use Rattle.geos_model.specs.declared.fault.Fault.TheVariants.{Full, Memory, NoChunk, Range, TooBig}
use Rattle.geos_model.specs.declared.handle.ChunkHandle.{ChunkHandle}
use Rattle.geos_model.specs.declared.handle.VmHandle.{VmHandle}
use Rattle.geos_model.specs.declared.place.Place.TheVariants as place
use Rattle.geos_model.proofs.HeapTables.{fits_with-fewer}
use Rattle.chunk_edits.specs.Splicing.{Splice}
use Rattle.vm_store.specs.Facts.{StoreFacts}
use Rattle.vm_blocks.specs.ByteChanges.{part_in}
use Rattle.vm_blocks.specs.Keeping.{IsEnvironmentFault, KeepsBlocks, is_loaded}
use Rattle.vm_blocks.specs.LoadedRuns.{LoadsAndReplaces, LoadsKind, is_kind_of_run}
use Rattle.vm_blocks.specs.Runs.{AllowsRunAt, IsKindOfRun, RefusesRunAt, TriesRun, bytes_with_run, run_change}
use Rattle.vm_blocks.specs.State.{CacheState}
use Rattle.vm_blocks.specs.declared.change.Change.{Change}
use Rattle.vm_blocks.specs.declared.change.Change.TheVariants as changes
use Rattle.vm_blocks.specs.declared.run.Run.{Run}
use Rattle.vm_blocks.proofs.KeepingLaws.{loaded-live}
use Rattle.vm_blocks.proofs.RunLemmas.{gone, length_after}
use Rattle.doc_edits.specs.Found.{AreLate, IsChunkAt, IsChunkLive, IsHeapAt, IsRawAt}
use Rattle.doc_edits.specs.Planning.{Plans, PlansEdit, RefusesInMemory}
use Rattle.doc_edits.specs.RunPlans.{IsRun, ReplacesRun, TriesEdit, planned_as}
use Rattle.doc_edits.proofs.ChunkParts.{plain_built}
use Rattle.doc_edits.proofs.ChunkPlans as plans
use Rattle.doc_edits.proofs.Documents.{body_at, chunks_are}
use Rattle.doc_edits.proofs.Loading.{IsBrought, chunk_brought, raw_brought}
use Rattle.doc_edits.proofs.Planned.{plans_brought, plans_missed}
use Rattle.doc_edits.proofs.Refusals.{no_chunk}

-- in which part of the document a run lies
abbrev pub scope_of_run : VmHandle → Option ChunkHandle → Scope
scope_of_run b None = scopes.Raw b
scope_of_run b (Some c) = scopes.Chunk b c

at_scope : (run : Run) (b : VmHandle) (c : Option ChunkHandle) (at n : ℕ) (new : List ℕ) → IsRun run b c at n new → scope_of_run b c ≡ scope_of_run run.block run.chunk
at_scope run b c at n new is = sym (λ i. scope_of_run (is.block i) (is.chunk i))

pub run_scope : (edit : Edit) (run : Run) → ReplacesRun edit run → scope_of edit ≡ scope_of_run run.block run.chunk
run_scope (edits.WriteRaw b at bytes) run is = at_scope run b None at (length bytes) bytes is
run_scope (edits.SpliceRaw b at n bytes) run is = at_scope run b None at n bytes is
run_scope (edits.Delete b c at n) run is = at_scope run b (Some c) at n [] is
run_scope (edits.Write b c at bytes) run is = at_scope run b (Some c) at (length bytes) bytes is
run_scope (edits.Splice b c at n bytes) run is = at_scope run b (Some c) at n bytes is
run_scope _ run is = absurd is

-- what is tested of a run is a plan of its change

pub planned_so : (change : Change) (edit : Edit) (d : Document) (r : Result (Unit {0}) Fault) → MatchResult r (λ _. Plans edit d change done.Nothing) (RefusesInMemory edit d)
    → MatchResult (planned_as change r) (λ p. Plans edit d p.0 p.1) (RefusesInMemory edit d)
planned_so change edit d (Ok x) is = is
planned_so change edit d (Err fault) is = is

-- the run that these numbers tell
abbrev pub change_at : VmHandle → Option ChunkHandle → ℕ → ℕ → List ℕ → Document → Change
change_at b c at n new d = changes.Part b (part_in c (record { at = at; old = take n (drop at (bytes_with_run d b c)); new = new }))

pub change_is : (run : Run) (b : VmHandle) (c : Option ChunkHandle) (at n : ℕ) (new : List ℕ) → IsRun run b c at n new → (d : Document) → change_at b c at n new d ≡ run_change run d
change_is run b c at n new is d = sym (λ i. change_at (is.block i) (is.chunk i) (is.at i) (is.count i) (is.new i) d)

-- Of a chunk: what a test of these bytes tells.

abbrev pub Tests : ChunkMap → ℕ → List ℕ → ℕ → ℕ → List ℕ → Result (Unit {0}) Fault → Type 0
Tests m c bytes at n new r =
    MatchResult r (λ _. (at + n ≤ length bytes) × (fits_with m c (spliced bytes at n new) ≡ true))
    (λ fault. first_refusal (past_end bytes (at + n) ++ no_room m c (spliced bytes at n new)) ≡ Some fault)

-- where what fits within the end finds room, room refuses nothing
only_past : (past full : Bool) → (past ≡ false → full ≡ false) → first_refusal ((Range, past) ∷ (Full, full) ∷ []) ≡ first_refusal ((Range, past) ∷ [])
only_past true true holds = refl
only_past true false holds = refl
only_past false true holds = let no : true ≡ false = holds refl in absurd (cc no)
only_past false false holds = refl

module _ (d : Document) (b : VmHandle) (c : ChunkHandle) (bytes : List ℕ) (there : IsChunkAt d b.0 c.0 bytes) (at n : ℕ) (new : List ℕ) where
  abbrev old : List ℕ
  old = chunk_at d b.0 c.0

  abbrev made : Splice
  made = record { at = at; old = take n (drop at old); new = new }

  abbrev room : Conditions
  room = no_room (chunks_of d b.0) c.0 (spliced old at n new)

  no_longer : length new ≤ n → nat_lt (length old) (at + n) ≡ false → not (fits_with (chunks_of d b.0) c.0 (spliced old at n new)) ≡ false
  no_longer fewer within = elim (cases_lt (length old) (at + n)) [
    | inl far ↦ let no : false ≡ true = sym within ∙ lt-ltb (length old) (at + n) far in absurd (cc no)
    | inr near ↦ ap not (fits_with-fewer (chunks_of d b.0) c.0 (spliced old at n new) there.valid there.live (omega (arith, fewer, near, length_after old new at n near)))
  ]

  -- an edit with these refusals that does this
  module _ (edit : Edit) (rest : Conditions) (same : first_refusal rest ≡ first_refusal (past_end old (at + n) ++ room)) (refusals : conditions edit d ≡ on_chunk d b.0 c.0 ++ rest)
      (does : effect edit d ≡ (with_chunk d b.0 c.0 (spliced old at n new), done.Nothing)) (kind : kind_of edit ≡ In b) (costs : n + length new ≡ cost edit d (effect edit d).0)
      (places : places_of edit d ≡ place.Run b c at n (length new) ∷ []) where
    pub run_tested : (r : Result (Unit {0}) Fault) → Tests (chunks_of d b.0) c.0 old at n new r → MatchResult r (λ _. Plans edit d (change_at b (Some c) at n new d) done.Nothing) (RefusesInMemory edit d)
    run_tested (Ok x) tested =
        let within : at + n ≤ length old = tested.0 in
        let size = gone old at n within in
        let accepted : first_refusal rest ≡ None = same ∙ rw (tested.1, le-ltb (length old) (at + n) within) refl in
        plans.spliced edit d b c (chunks_of d b.0) there.heap bytes there made
        (plain_built edit d b c rest (spliced old at n new) (n + length new) there.heap there.live there.valid refusals does kind costs at n (length new) places (Ok made)
        (record {
          accepted = accepted;
          leads = record {
            stands = record { within = omega (arith, within, size); same = ap (λ (k : ℕ). take k (drop at old)) size };
            gives = ap (λ (k : ℕ). spliced old at k new) size;
            holds = ap (λ (k : ℕ). k + length new) size;
          };
        }) tested.1 (record { starts = refl; goes = size; comes = refl }))
    run_tested (Err fault) tested =
        plain_built edit d b c rest (spliced old at n new) (n + length new) there.heap there.live there.valid refusals does kind costs at n (length new) places (Err fault) (inr (same ∙ tested)) tt tt

-- So of the edit that replaces a run in a chunk.
module _ (d : Document) (r : Result (Unit {0}) Fault) where
  abbrev TestedIn : VmHandle → ChunkHandle → ℕ → ℕ → List ℕ → Type 0
  TestedIn b c at n new = (bytes : List ℕ) → IsChunkAt d b.0 c.0 bytes → Tests (chunks_of d b.0) c.0 (chunk_at d b.0 c.0) at n new r

  splice_tested : (b : VmHandle) (c : ChunkHandle) (at n : ℕ) (new bytes : List ℕ) → IsChunkAt d b.0 c.0 bytes → Tests (chunks_of d b.0) c.0 (chunk_at d b.0 c.0) at n new r
      → MatchResult r (λ _. Plans (edits.Splice b c at n new) d (change_at b (Some c) at n new d) done.Nothing) (RefusesInMemory (edits.Splice b c at n new) d)
  splice_tested b c at n new bytes there tested = run_tested d b c bytes there at n new (edits.Splice b c at n new) _ refl refl refl refl refl refl r tested

  write_tested : (b : VmHandle) (c : ChunkHandle) (at : ℕ) (new bytes : List ℕ) → IsChunkAt d b.0 c.0 bytes → Tests (chunks_of d b.0) c.0 (chunk_at d b.0 c.0) at (length new) new r
      → MatchResult r (λ _. Plans (edits.Write b c at new) d (change_at b (Some c) at (length new) new d) done.Nothing) (RefusesInMemory (edits.Write b c at new) d)
  write_tested b c at new bytes there tested =
      run_tested d b c bytes there at (length new) new (edits.Write b c at new) _ (sym (only_past _ _ (no_longer d b c bytes there at (length new) new (omega arith)))) refl refl refl (omega arith) refl r tested

  delete_tested : (b : VmHandle) (c : ChunkHandle) (at n : ℕ) (bytes : List ℕ) → IsChunkAt d b.0 c.0 bytes → Tests (chunks_of d b.0) c.0 (chunk_at d b.0 c.0) at n [] r
      → MatchResult r (λ _. Plans (edits.Delete b c at n) d (change_at b (Some c) at n [] d) done.Nothing) (RefusesInMemory (edits.Delete b c at n) d)
  delete_tested b c at n bytes there tested =
      run_tested d b c bytes there at n [] (edits.Delete b c at n) _ (sym (only_past _ _ (no_longer d b c bytes there at n [] (omega arith)))) refl refl refl (omega arith) refl r tested

  -- that the chunk of a run is there, and what was tested
  abbrev IsTested : VmHandle → Option ChunkHandle → ℕ → ℕ → List ℕ → Type 0
  IsTested b o at n new = (c : ChunkHandle) → o ≡ Some c → IsChunkLive d b.0 c.0 × Tests (chunks_of d b.0) c.0 (chunk_at d b.0 c.0) at n new r

  tested_here : (b : VmHandle) (o : Option ChunkHandle) (k : ChunkHandle) → o ≡ Some k → (at n : ℕ) (new : List ℕ) → (m : ChunkMap) → IsHeapAt d b.0 m → (bytes : List ℕ) → IsChunkAt d b.0 k.0 bytes → Tests m k.0 bytes at n new r → IsTested b o at n new
  tested_here b o k here at n new m live bytes there tested = λ c is.
      let same : k ≡ c = cc (sym here ∙ is) in
      let found : IsChunkLive d b.0 k.0 = record { heap = there.heap; live = there.live; valid = there.valid; value = refl } in
      subst (λ (x : ChunkHandle). IsChunkLive d b.0 x.0 × Tests (chunks_of d b.0) x.0 (chunk_at d b.0 x.0) at n new r) same
      (found, subst (λ (x : ChunkMap). Tests x k.0 (chunk_at d b.0 k.0) at n new r) (sym (chunks_are d b.0 m live)) (subst (λ (x : List ℕ). Tests m k.0 x at n new r) there.value tested))

  moved : (run : Run) (b : VmHandle) (o : Option ChunkHandle) (at n : ℕ) (new : List ℕ) → IsRun run b o at n new → IsTested run.block run.chunk run.at run.count run.new.now → IsTested b o at n new
  moved run b o at n new is tested =
      subst (λ (p : VmHandle × (Option ChunkHandle × (ℕ × (ℕ × List ℕ)))). IsTested p.0 p.1.0 p.1.1.0 p.1.1.1.0 p.1.1.1.1) (λ i. (is.block i, (is.chunk i, (is.at i, (is.count i, is.new i))))) tested

  plans_run : (edit : Edit) (run : Run) (b : VmHandle) (o : Option ChunkHandle) (at n : ℕ) (new : List ℕ) → IsRun run b o at n new → MatchResult r (λ _. Plans edit d (change_at b o at n new d) done.Nothing) (RefusesInMemory edit d)
      → MatchResult r (λ _. Plans edit d (run_change run d) done.Nothing) (RefusesInMemory edit d)
  plans_run edit run b o at n new is planned = subst (λ (change : Change). MatchResult r (λ _. Plans edit d change done.Nothing) (RefusesInMemory edit d)) (change_is run b o at n new is d) planned

  replaced : (edit : Edit) (run : Run) (k : ChunkHandle) → run.chunk ≡ Some k → ReplacesRun edit run → IsTested run.block run.chunk run.at run.count run.new.now
      → MatchResult r (λ _. Plans edit d (run_change run d) done.Nothing) (RefusesInMemory edit d)
  replaced (edits.Splice b c at n new) run k here is tested =
      let w = moved run b (Some c) at n new is tested c refl in plans_run (edits.Splice b c at n new) run b (Some c) at n new is (splice_tested b c at n new _ w.0 w.1)
  replaced (edits.Write b c at new) run k here is tested =
      let w = moved run b (Some c) at (length new) new is tested c refl in plans_run (edits.Write b c at new) run b (Some c) at (length new) new is (write_tested b c at new _ w.0 w.1)
  replaced (edits.Delete b c at n) run k here is tested =
      let w = moved run b (Some c) at n [] is tested c refl in plans_run (edits.Delete b c at n) run b (Some c) at n [] is (delete_tested b c at n _ w.0 w.1)
  replaced (edits.WriteRaw b at new) run k here is tested = let no : None ≡ Some k = sym is.chunk ∙ here in absurd (cc no)
  replaced (edits.SpliceRaw b at n new) run k here is tested = let no : None ≡ Some k = sym is.chunk ∙ here in absurd (cc no)
  replaced _ run k here is tested = absurd is

  pub chunk_tested : (edit : Edit) (run : Run) (k : ChunkHandle) → run.chunk ≡ Some k → ReplacesRun edit run → (m : ChunkMap) → IsHeapAt d run.block.0 m → (bytes : List ℕ) → IsChunkAt d run.block.0 k.0 bytes
      → Tests m k.0 bytes run.at run.count run.new.now r → MatchResult r (λ _. Plans edit d (run_change run d) done.Nothing) (RefusesInMemory edit d)
  chunk_tested edit run k here is m live bytes there tested =
      replaced edit run k here is (tested_here run.block run.chunk k here run.at run.count run.new.now m live bytes there tested)

-- Of a raw body: what a test of it tells.

abbrev TestsRaw : List ℕ → ℕ → ℕ → List ℕ → Result (Unit {0}) Fault → Type 0
TestsRaw bytes at n new r =
    MatchResult r (λ _. (at + n ≤ length bytes) × (length (spliced bytes at n new) ≤ capacity))
    (λ fault. first_refusal (past_end bytes (at + n) ++ too_big (length (spliced bytes at n new))) ≡ Some fault)

past_raw : (d : Document) (h : ℕ) (bytes : List ℕ) (rest : Conditions) → IsRawAt d h bytes → first_refusal (on_raw d h ++ rest) ≡ first_refusal rest
past_raw d h bytes rest live = rw live refl

-- where what stays within the end isn't too big, size refuses nothing
only_long : (past big : Bool) → (past ≡ false → big ≡ false) → first_refusal ((Range, past) ∷ (TooBig, big) ∷ []) ≡ first_refusal ((Range, past) ∷ [])
only_long true true holds = refl
only_long true false holds = refl
only_long false true holds = let no : true ≡ false = holds refl in absurd (cc no)
only_long false false holds = refl

module _ (d : Document) (b : VmHandle) (bytes : List ℕ) (live : IsRawAt d b.0 bytes) (at n : ℕ) (new : List ℕ) where
  abbrev all : List ℕ
  all = raw_bytes_of d b.0

  all_is : all ≡ bytes
  all_is = rw live refl

  -- an edit with these refusals that does this
  module _ (edit : Edit) (rest : Conditions) (same : first_refusal rest ≡ first_refusal (past_end all (at + n) ++ too_big (length (spliced all at n new)))) (refusals : conditions edit d ≡ on_raw d b.0 ++ rest)
      (does : effect edit d ≡ (with_body d b.0 (Raw (spliced all at n new)), done.Nothing)) (kind : kind_of edit ≡ In b) (costs : n + length new ≡ cost edit d (effect edit d).0)
      (places : places_of edit d ≡ raw_run b at n (length new)) where
    first : first_refusal (conditions edit d) ≡ first_refusal (past_end all (at + n) ++ too_big (length (spliced all at n new)))
    first = ap first_refusal refusals ∙ past_raw d b.0 bytes rest live ∙ same

    raw_planned : (r : Result (Unit {0}) Fault) → TestsRaw all at n new r → MatchResult r (λ _. Plans edit d (change_at b None at n new d) done.Nothing) (RefusesInMemory edit d)
    raw_planned (Ok x) tested =
        let within : at + n ≤ length all = tested.0 in let size = gone all at n within in
        record {
          accepted = first ∙ rw (le-ltb (length all) (at + n) within, le-ltb capacity (length (spliced all at n new)) tested.1) refl;
          applies = record {
            raw = rw live refl;
            stands = record { within = omega (arith, within, size); same = ap (λ (k : ℕ). take k (drop at all)) size };
            fits = subst (λ (k : ℕ). length (spliced all at k new) ≤ capacity) (sym size) tested.1;
          };
          document = ap (λ (k : ℕ). with_body d b.0 (Raw (spliced all at k new))) size ∙ sym (ap (λ (p : Document × Done). p.0) does);
          answer = sym (ap (λ (p : Document × Done). p.1) does);
          kind = sym kind;
          cost = ap (λ (k : ℕ). k + length new) size ∙ costs;
          places = ap (λ (k : ℕ). raw_run b at k (length new)) size ∙ sym places;
        }
    raw_planned (Err fault) tested = inr (first ∙ tested)

-- So of the edit that replaces a run in a raw block.

no_bigger : (bytes new : List ℕ) (at : ℕ) → length bytes ≤ capacity → nat_lt (length bytes) (at + length new) ≡ false → nat_lt capacity (length (spliced bytes at (length new) new)) ≡ false
no_bigger bytes new at short within = elim (cases_lt (length bytes) (at + length new)) [
  | inl far ↦ let no : false ≡ true = sym within ∙ lt-ltb (length bytes) (at + length new) far in absurd (cc no)
  | inr near ↦ le-ltb capacity (length (spliced bytes at (length new) new)) (omega (arith, short, near, length_after bytes new at (length new) near))
]

module _ (d : Document) (r : Result (Unit {0}) Fault) where
  splice_raw : (b : VmHandle) (at n : ℕ) (new bytes : List ℕ) → IsRawAt d b.0 bytes → TestsRaw (raw_bytes_of d b.0) at n new r
      → MatchResult r (λ _. Plans (edits.SpliceRaw b at n new) d (change_at b None at n new d) done.Nothing) (RefusesInMemory (edits.SpliceRaw b at n new) d)
  splice_raw b at n new bytes live tested = raw_planned d b bytes live at n new (edits.SpliceRaw b at n new) _ refl refl refl refl refl refl r tested

  write_raw : (b : VmHandle) (at : ℕ) (new bytes : List ℕ) → IsRawAt d b.0 bytes → length (raw_bytes_of d b.0) ≤ capacity → TestsRaw (raw_bytes_of d b.0) at (length new) new r
      → MatchResult r (λ _. Plans (edits.WriteRaw b at new) d (change_at b None at (length new) new d) done.Nothing) (RefusesInMemory (edits.WriteRaw b at new) d)
  write_raw b at new bytes live short tested =
      raw_planned d b bytes live at (length new) new (edits.WriteRaw b at new) _ (sym (only_long _ _ (no_bigger (raw_bytes_of d b.0) new at short))) refl refl refl (omega arith) refl r tested

  -- what was tested of a run there
  abbrev IsTestedRaw : VmHandle → ℕ → ℕ → List ℕ → Type 0
  IsTestedRaw b at n new = ((bytes : List ℕ) × IsRawAt d b.0 bytes) × ((length (raw_bytes_of d b.0) ≤ capacity) × TestsRaw (raw_bytes_of d b.0) at n new r)

  moved_raw : (run : Run) (b : VmHandle) (o : Option ChunkHandle) (at n : ℕ) (new : List ℕ) → IsRun run b o at n new → IsTestedRaw run.block run.at run.count run.new.now → IsTestedRaw b at n new
  moved_raw run b o at n new is tested =
      subst (λ (p : VmHandle × (ℕ × (ℕ × List ℕ))). IsTestedRaw p.0 p.1.0 p.1.1.0 p.1.1.1) (λ i. (is.block i, (is.at i, (is.count i, is.new i)))) tested

  raw_tested : (edit : Edit) (run : Run) → run.chunk ≡ None → ReplacesRun edit run → IsTestedRaw run.block run.at run.count run.new.now
      → MatchResult r (λ _. Plans edit d (run_change run d) done.Nothing) (RefusesInMemory edit d)
  raw_tested (edits.SpliceRaw b at n new) run here is tested =
      let w = moved_raw run b None at n new is tested in plans_run d r (edits.SpliceRaw b at n new) run b None at n new is (splice_raw b at n new w.0.0 w.0.1 w.1.1)
  raw_tested (edits.WriteRaw b at new) run here is tested =
      let w = moved_raw run b None at (length new) new is tested in plans_run d r (edits.WriteRaw b at new) run b None at (length new) new is (write_raw b at new w.0.0 w.0.1 w.1.0 w.1.1)
  raw_tested (edits.Splice b c at n new) run here is tested = let no : Some c ≡ None = sym is.chunk ∙ here in absurd (cc no)
  raw_tested (edits.Write b c at new) run here is tested = let no : Some c ≡ None = sym is.chunk ∙ here in absurd (cc no)
  raw_tested (edits.Delete b c at n) run here is tested = let no : Some c ≡ None = sym is.chunk ∙ here in absurd (cc no)
  raw_tested _ run here is tested = absurd is

-- What replacing a run in memory comes to is the plan of the edit.

live_there : (o : Option Block) → is_some o ≡ true → option_map (λ (b : Block). b.body) o ≡ Some (unwrap_or o no_block).body
live_there None live = absurd (cc live)
live_there (Some block) live = refl

abbrev Tried : Option ChunkHandle → Body → Run → Result (Unit {0}) Fault → Type 0
Tried o body run r = MatchResult r (λ _. AllowsRunAt o body run) (λ fault. (fault ≡ Memory) ⊎ RefusesRunAt o body run fault)

module _ (edit : Edit) (run : Run) (is : ReplacesRun edit run) (d : Document) where
  abbrev Judged : Result (Unit {0}) Fault → Type 0
  Judged r = MatchResult r (λ _. Plans edit d (run_change run d) done.Nothing) (RefusesInMemory edit d)

  -- a chunk that isn't there
  absent : (k : ChunkHandle) → run.chunk ≡ Some k → (m : ChunkMap) → IsHeapAt d run.block.0 m → contains_key m k.0 ≡ false → first_refusal (conditions edit d) ≡ Some NoChunk
  absent k here m live gone =
      plans.chunk_refused edit d run.block k (run_scope edit run is ∙ ap (scope_of_run run.block) here) NoChunk (λ rest late. no_chunk d run.block.0 k.0 m rest live gone late)

  in_heap : (k : ChunkHandle) → run.chunk ≡ Some k → (m : ChunkMap) → IsHeapAt d run.block.0 m → is_valid_body (Heap m) ≡ true → contains_key m k.0 ≡ true
      → (r : Result (Unit {0}) Fault) → Tests m k.0 (chunk_bytes m k.0) run.at run.count run.new.now r → Judged r
  in_heap k here m live valid there r tested =
      let same : m ≡ chunks_of d run.block.0 = sym (chunks_are d run.block.0 m live) in
      chunk_tested d r edit run k here is m live (chunk_bytes m k.0)
      (record {
        heap = subst (IsHeapAt d run.block.0) same live;
        live = subst (λ (x : ChunkMap). contains_key x k.0 ≡ true) same there;
        valid = subst (λ (x : ChunkMap). is_valid_body (Heap x) ≡ true) same valid;
        value = ap (λ (x : ChunkMap). chunk_bytes x k.0) same;
      }) tested

  in_raw : run.chunk ≡ None → (bytes : List ℕ) → IsRawAt d run.block.0 bytes → is_valid_body (Raw bytes) ≡ true
      → (r : Result (Unit {0}) Fault) → TestsRaw bytes run.at run.count run.new.now r → Judged r
  in_raw here bytes live valid r tested =
      let same : bytes ≡ raw_bytes_of d run.block.0 = rw live refl in
      raw_tested d r edit run here is
      ((bytes, live), (subst (λ (x : List ℕ). length x ≤ capacity) same (leb-true _ _ valid), subst (λ (x : List ℕ). TestsRaw x run.at run.count run.new.now r) same tested))

  judged_at : (o : Option ChunkHandle) → run.chunk ≡ o → (body : Body) → option_map (λ (b : Block). b.body) (get d.blocks run.block.0) ≡ Some body → is_valid_body body ≡ true → IsKindOfRun run body
      → (r : Result (Unit {0}) Fault) → Tried o body run r → Judged r
  judged_at None here (Raw bytes) there valid kind (Ok x) tried = in_raw here bytes (body_at d run.block.0 (Raw bytes) there) valid (Ok x) (tried.within, tried.room)
  judged_at None here (Raw bytes) there valid kind (Err fault) (inl lacks) = inl lacks
  judged_at None here (Raw bytes) there valid kind (Err fault) (inr refused) = in_raw here bytes (body_at d run.block.0 (Raw bytes) there) valid (Err fault) refused
  judged_at (Some k) here (Heap m) there valid kind (Ok x) tried = in_heap k here m (body_at d run.block.0 (Heap m) there) valid tried.0 (Ok x) (tried.1.within, tried.1.room)
  judged_at (Some k) here (Heap m) there valid kind (Err fault) (inl lacks) = inl lacks
  judged_at (Some k) here (Heap m) there valid kind (Err fault) (inr (inl none)) =
      inr (absent k here m (body_at d run.block.0 (Heap m) there) none.1 ∙ ap (λ (x : Fault). Some x) (sym none.0))
  judged_at (Some k) here (Heap m) there valid kind (Err fault) (inr (inr refused)) = in_heap k here m (body_at d run.block.0 (Heap m) there) valid refused.0 (Err fault) refused.1
  judged_at (Some k) here (Raw bytes) there valid kind r tried = let no : false ≡ true = kind ∙ ap is_some here in absurd (cc no)
  judged_at None here (Heap m) there valid kind r tried = let no : true ≡ false = kind ∙ ap is_some here in absurd (cc no)

  pub judged : is_live d run.block.0 ≡ true → is_valid_body (block_at d run.block.0).body ≡ true → IsKindOfRun run (block_at d run.block.0).body
      → (r : Result (Unit {0}) Fault) → Tried run.chunk (block_at d run.block.0).body run r → Judged r
  judged live valid kind r tried = judged_at run.chunk refl (block_at d run.block.0).body (live_there (get d.blocks run.block.0) live) valid kind r tried

-- the kind of a block that was brought in

pub kind_raw : (o : Option Block) → option_map_or (λ (b : Block). not (is_heap_body b.body)) o false ≡ true → is_heap_body (unwrap_or o no_block).body ≡ false
kind_raw None raw = absurd (cc raw)
kind_raw (Some block) raw = by_kind (is_heap_body block.body) raw
  where
    by_kind : (b : Bool) → not b ≡ true → b ≡ false
    by_kind true is = absurd (cc is)
    by_kind false is = refl

pub kind_heap : (o : Option Block) → option_map_or (λ (b : Block). is_heap_body b.body) o false ≡ true → is_heap_body (unwrap_or o no_block).body ≡ true
kind_heap None heap = absurd (cc heap)
kind_heap (Some block) heap = heap

-- What replacing a run in a block that was brought in comes to is what making its edit comes to.
module _ {S R : Type 0} (facts : S → StoreFacts) (records : R → Change → R → Type 0) (keeps : R → R → Type 0) (edit : Edit) (run : Run) (a b new : CacheState S) (log log' : R) where
  abbrev change : Change
  change = run_change run b.document

  tried_so : (r : Result (Unit {0}) Fault) → TriesRun facts records keeps run b new log log' r → Tried run.chunk (block_at b.document run.block.0).body run r
  tried_so (Ok x) tries = tries.allows
  tried_so (Err fault) (same, inl lacks) = inl lacks.0
  tried_so (Err fault) (same, inr refused) = inr refused.1

  made_so : (r : Result (Unit {0}) Fault) → PlansEdit facts a b edit (planned_as change r) → TriesRun facts records keeps run b new log log' r → TriesEdit facts records keeps edit a new log log' r
  made_so (Ok x) plans tries = record {
    loaded = b;
    change = change;
    plans = plans;
    makes = tries.makes;
    disk = ap (λ (s : CacheState S). s.disk) tries.document;
    document = ap (λ (s : CacheState S). s.document) tries.document;
    recorded = tries.recorded;
  }
  made_so (Err fault) plans (same, inl lacks) = (subst (λ (s : CacheState S). PlansEdit facts a s edit (Err fault)) (sym same) plans, inr lacks.1)
  made_so (Err fault) plans (same, inr refused) = (subst (λ (s : CacheState S). PlansEdit facts a s edit (Err fault)) (sym same) plans, inl refused.0)

  module _ (is : ReplacesRun edit run) (kept : KeepsBlocks facts a b) (loaded : is_loaded b run.block.0 ≡ true) (brought : IsBrought (IsEnvironmentFault facts a.disk.store b.disk.store) edit a b (Ok tt))
      (kind : IsKindOfRun run (block_at b.document run.block.0).body) (needs : edit_needs edit ≡ OneBody run.block.0) (r : Result (Unit {0}) Fault)
      (tries : TriesRun facts records keeps run b new log log' r) (valid : is_valid_body (block_at b.document run.block.0).body ≡ true) where
    tested : MatchResult r (λ _. Plans edit b.document change done.Nothing) (RefusesInMemory edit b.document)
    tested = judged edit run is b.document (loaded-live b run.block.0 loaded) valid kind r (tried_so r tries)

    pub replaced_in : TriesEdit facts records keeps edit a new log log' r
    replaced_in =
        made_so r
        (plans_brought facts edit run.block needs a b kept brought loaded (planned_as change r) (planned_so change edit b.document r tested)
        (λ x freed. absurd (subst (λ (e : Edit). ReplacesRun e run) freed is))) tries

-- What replacing it comes to in any block, which is brought in for it or isn't, is that.
module _ {S R : Type 0} (facts : S → StoreFacts) (records : R → Change → R → Type 0) (keeps : R → R → Type 0) (edit : Edit) (run : Run) (a new : CacheState S) (log log' : R) (is : ReplacesRun edit run)
    (r : Result (Unit {0}) Fault) where
  abbrev block : VmHandle
  block = run.block

  abbrev Replaces : CacheState S → Result (Unit {0}) Fault → Type 0
  Replaces b load =
      MatchResult load (λ _. TriesRun facts records keeps run b new log log' r × (is_valid_body (block_at b.document block.0).body ≡ true))
      (λ fault. (r ≡ Err fault) × (new ≡ b) × (log' ≡ log))

  missed : (b : CacheState S) (fault : Fault) → PlansEdit facts a b edit (Err fault) → Replaces b (Err fault) → TriesEdit facts records keeps edit a new log log' r
  missed b fault plans (err, same, kept) =
      subst (λ (x : Result (Unit {0}) Fault). TriesEdit facts records keeps edit a new log log' x) (sym err) (subst (λ (s : CacheState S). PlansEdit facts a s edit (Err fault)) (sym same) plans, inl kept)

  in_kind : (o : Option ChunkHandle) → run.chunk ≡ o → (b : CacheState S) (load : Result (Unit {0}) Fault) → LoadsKind facts (is_kind_of_run o) block.0 a b load → Replaces b load
      → TriesEdit facts records keeps edit a new log log' r
  in_kind None here b (Ok x) loads (tries, valid) =
      let scope : scope_of edit ≡ scopes.Raw block = run_scope edit run is ∙ ap (scope_of_run block) here in
      replaced_in facts records keeps edit run a b new log log' is loads.keeps loads.ok.0
      (raw_brought (IsEnvironmentFault facts a.disk.store b.disk.store) edit a b block (Ok tt) scope loads.early loads.shut loads.err loads.already)
      (kind_raw (get b.document.blocks block.0) loads.ok.1 ∙ sym (ap is_some here)) (ap needs_of_scope scope) r tries valid
  in_kind None here b (Err fault) loads replaces =
      let scope : scope_of edit ≡ scopes.Raw block = run_scope edit run is ∙ ap (scope_of_run block) here in
      missed b fault
      (plans_missed facts edit block (ap needs_of_scope scope) a b loads.keeps fault
      (raw_brought (IsEnvironmentFault facts a.disk.store b.disk.store) edit a b block (Err fault) scope loads.early loads.shut loads.err loads.already) (Err fault) refl)
      replaces
  in_kind (Some k) here b (Ok x) loads (tries, valid) =
      let scope : scope_of edit ≡ scopes.Chunk block k = run_scope edit run is ∙ ap (scope_of_run block) here in
      replaced_in facts records keeps edit run a b new log log' is loads.keeps loads.ok.0
      (chunk_brought (IsEnvironmentFault facts a.disk.store b.disk.store) edit a b block (Ok tt) k scope loads.early loads.shut loads.err loads.already)
      (kind_heap (get b.document.blocks block.0) loads.ok.1 ∙ sym (ap is_some here)) (ap needs_of_scope scope) r tries valid
  in_kind (Some k) here b (Err fault) loads replaces =
      let scope : scope_of edit ≡ scopes.Chunk block k = run_scope edit run is ∙ ap (scope_of_run block) here in
      missed b fault
      (plans_missed facts edit block (ap needs_of_scope scope) a b loads.keeps fault
      (chunk_brought (IsEnvironmentFault facts a.disk.store b.disk.store) edit a b block (Err fault) k scope loads.early loads.shut loads.err loads.already) (Err fault) refl)
      replaces

  pub tried_edit : LoadsAndReplaces facts records keeps run a new log log' r → TriesEdit facts records keeps edit a new log log' r
  tried_edit all = in_kind run.chunk refl all.loaded all.load all.loads all.replaces
