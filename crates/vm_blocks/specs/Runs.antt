-- A run of bytes that is replaced: its change is made of where it lies and of what comes, with no bytes of its own.
use Rattle.std.specs.Prelude.{◌≡◌, ◌≤◌, ◌+◌, ◌++◌, ◌⊎◌, ℕ, true, false, List, MatchResult, Option, None, Result, Some, is_some, length, take, drop}
use Rattle.std.specs.FinMap.{contains_key}
use Rattle.geos_model.specs.Bytes.{spliced}
use Rattle.geos_model.specs.Document.{Document, block_at, bytes_of_body, chunks_of_body, is_heap_body, raw_bytes_of}
use Rattle.geos_model.specs.Heap.{capacity, chunk_bytes, fits_with}
use Rattle.geos_model.specs.Meaning.{chunk_at, no_room, past_end, too_big}
use Rattle.geos_model.specs.Refusal.{Conditions, first_refusal}
use Rattle.geos_model.specs.declared.command.Body.{Body}
use Rattle.geos_model.specs.declared.fault.Fault.{Fault}
use Rattle.geos_model.specs.declared.fault.Fault.TheVariants.{Memory, NoChunk}
use Rattle.geos_model.specs.declared.handle.ChunkHandle.{ChunkHandle}
use Rattle.geos_model.specs.declared.handle.VmHandle.{VmHandle}
use Rattle.vm_store.specs.Facts.{StoreFacts}
use Rattle.vm_blocks.specs.Bodies.{body_value}
use Rattle.vm_blocks.specs.ByteChanges.{part_in}
use Rattle.vm_blocks.specs.Changes.{after_change}
use Rattle.vm_blocks.specs.Parts.{AllowsPart, body_after_part}
use Rattle.vm_blocks.specs.Preparing.{IsApplied}
use Rattle.vm_blocks.specs.State.{CacheState}
use Rattle.vm_blocks.specs.declared.change.Change.{Change}
use Rattle.vm_blocks.specs.declared.change.Change.TheVariants as changes
use Rattle.vm_blocks.specs.declared.change.PartChange.{PartChange}
use Rattle.vm_blocks.specs.declared.frame.Frame.{Frame}
use Rattle.vm_blocks.specs.declared.run.Run.{Run}

-- the bytes of a raw block, or of a chunk of a heap
abbrev pub bytes_with_run : Document → VmHandle → Option ChunkHandle → List ℕ
bytes_with_run d b None = raw_bytes_of d b.0
bytes_with_run d b (Some c) = chunk_at d b.0 c.0

-- the part that replaces so many of these bytes
abbrev pub part_of_run : Run → List ℕ → PartChange
part_of_run run bytes = part_in run.chunk (record {
  at = run.at;
  old = take run.count (drop run.at bytes);
  new = run.new.now;
})

-- the change that replaces the bytes which the run has in a document
abbrev pub run_change : Run → Document → Change
run_change run d = changes.Part run.block (part_of_run run (bytes_with_run d run.block run.chunk))

-- so of a body by itself

abbrev pub bytes_in_body : Option ChunkHandle → Body → List ℕ
bytes_in_body None body = bytes_of_body body
bytes_in_body (Some c) body = chunk_bytes (chunks_of_body body) c.0

abbrev pub run_part : Run → Body → PartChange
run_part run body = part_of_run run (bytes_in_body run.chunk body)

-- the body is of the kind in which the run lies
abbrev pub IsKindOfRun : Run → Body → Type 0
IsKindOfRun run body = is_heap_body body ≡ is_some run.chunk

-- The run ends within the bytes, and there is room for what comes in its place, in a raw body or in the heap of its
-- chunk, which is live.

pub record AllowsRunIn (bytes : List ℕ) (run : Run) (fits : List ℕ → Type 0) : Type 0 where
  pub within : run.at + run.count ≤ length bytes
  pub room : fits (spliced bytes run.at run.count run.new.now)

abbrev pub AllowsRunAt : Option ChunkHandle → Body → Run → Type 0
AllowsRunAt None body run = AllowsRunIn (bytes_of_body body) run (λ bytes. length bytes ≤ capacity)
AllowsRunAt (Some c) body run = (contains_key (chunks_of_body body) c.0 ≡ true)
    × AllowsRunIn (chunk_bytes (chunks_of_body body) c.0) run (λ bytes. fits_with (chunks_of_body body) c.0 bytes ≡ true)

abbrev pub AllowsRun : Run → Body → Type 0
AllowsRun run body = AllowsRunAt run.chunk body run

-- or else it is refused: for its chunk, then for its end, and then for want of room

abbrev pub RefusesRunIn : List ℕ → Run → (List ℕ → Conditions) → Fault → Type 0
RefusesRunIn bytes run full fault =
    first_refusal (past_end bytes (run.at + run.count) ++ full (spliced bytes run.at run.count run.new.now)) ≡ Some fault

abbrev pub RefusesRunAt : Option ChunkHandle → Body → Run → Fault → Type 0
RefusesRunAt None body run fault = RefusesRunIn (bytes_of_body body) run (λ bytes. too_big (length bytes)) fault
RefusesRunAt (Some c) body run fault =
    ((fault ≡ NoChunk) × (contains_key (chunks_of_body body) c.0 ≡ false))
    ⊎ ((contains_key (chunks_of_body body) c.0 ≡ true)
    × RefusesRunIn (chunk_bytes (chunks_of_body body) c.0) run (no_room (chunks_of_body body) c.0) fault)

abbrev pub RefusesRun : Run → Body → Fault → Type 0
RefusesRun run body fault = RefusesRunAt run.chunk body run fault

-- Why a run isn't replaced: there is no memory for its record, or it is refused before it is recorded.
abbrev pub IsRunRefused : {R : Type 0} → (R → R → Type 0) → Run → Body → R → R → Fault → Type 0
IsRunRefused keeps run body old new fault =
    ((fault ≡ Memory) × keeps old new) ⊎ ((new ≡ old) × RefusesRun run body fault)

-- A body took the change of a part.
pub record TakesPart (part : PartChange) (old new : Body) : Type 0 where
  pub allows : AllowsPart part old
  pub body : new ≡ body_after_part part old

-- that of a run, which is allowed
abbrev pub TakesRun : Run → Body → Body → Type 0
TakesRun run old new = AllowsRun run old × TakesPart (run_part run old) old new

-- The body of a frame took the change of a part, and is marked as changed.
pub record PutsPart (part : PartChange) (old new : Frame) : Type 0 where
  pub allows : AllowsPart part (body_value old.body)
  pub body : body_value new.body ≡ body_after_part part (body_value old.body)
  pub marks : (new.changed ≡ true) × (new.locks ≡ old.locks)

-- that of a run, which is allowed
abbrev pub PutsRun : Run → Frame → Frame → Type 0
PutsRun run old new = AllowsRun run (body_value old.body) × PutsPart (run_part run (body_value old.body)) old new

-- A run of a block in memory was replaced: its change was recorded, and made.
pub record IsRunReplaced {S R : Type 0} (facts : S → StoreFacts) (records : R → Change → R → Type 0) (run : Run)
    (old new : CacheState S) (log log' : R) : Type 0 where
  pub allows : AllowsRun run (block_at old.document run.block.0).body
  pub recorded : records log (run_change run old.document) log'
  pub document : new ≡ record old { document = after_change (run_change run old.document) old.document }
  pub makes : IsApplied facts (run_change run old.document) old new

-- what replacing it comes to: where it isn't replaced, no block changes
abbrev pub TriesRun : {S R : Type 0} → (S → StoreFacts) → (R → Change → R → Type 0) → (R → R → Type 0) → Run
    → CacheState S → CacheState S → R → R → Result (Unit {0}) Fault → Type 0
TriesRun facts records keeps run old new log log' result =
    MatchResult result
    (λ _. IsRunReplaced facts records run old new log log')
    (λ fault. (new ≡ old) × IsRunRefused keeps run (block_at old.document run.block.0).body log log' fault)
