-- The frames over the document of the file.
use Rattle.std.specs.Prelude.{◌≡◌, ◌≤◌, ℕ, Bool, true, false, IsTrue, nat_eq, List, [], ◌∷◌, map, Option, Some}
use Rattle.std.specs.Option.{option_map_or}
use Rattle.std.specs.FinMap.{empty}
use Rattle.std.specs.List.{filter}
use Rattle.std.specs.Map.{keys_of, lookup, set_value}
use Rattle.vm_store.specs.Facts.{StoreFacts}
use Rattle.geos_model.specs.Document.{Document, block_at, bytes_of_body, chunks_of_body, is_heap, is_heap_body, is_live, with_body}
use Rattle.geos_model.specs.Heap.{ChunkMap}
use Rattle.document_file.specs.Disk.{FileState, KeepsCommitted, SameUnlessCorrupt}
use Rattle.vm_blocks.specs.Bodies.{body_value}
use Rattle.vm_blocks.specs.State.{CacheState, ResidentBlock}
use Rattle.vm_blocks.specs.declared.body.BlockBody.{BlockBody}
use Rattle.vm_blocks.specs.declared.frame.Frame.{Frame}

-- the frame of a block
abbrev pub frame_of : List (ℕ × Frame) → ℕ → Option Frame
frame_of es h = lookup (nat_eq h) es

-- the chunks of a heap in memory, none of another block
abbrev pub chunks_in_frames : List (ℕ × Frame) → ℕ → ChunkMap
chunks_in_frames es h = option_map_or (λ f. chunks_of_body (body_value f.body)) (frame_of es h) empty

-- the bytes of a raw block in memory, none of another block
abbrev pub bytes_in_frames : List (ℕ × Frame) → ℕ → List ℕ
bytes_in_frames es h = option_map_or (λ f. bytes_of_body (body_value f.body)) (frame_of es h) []

-- what callers see of the frames
abbrev pub residents : List (ℕ × Frame) → List ResidentBlock
residents es = map (λ e. (e.0, e.1.locks)) es

-- the document with the frames' bodies in place of the file's
abbrev pub overlay : List (ℕ × Frame) → Document → Document
overlay [] d = d
overlay (e ∷ es) d = with_body (overlay es d) e.0 (body_value e.1.body)

-- with another frame of a block, if it has one
abbrev pub with_frame : List (ℕ × Frame) → ℕ → (Frame → Frame) → List (ℕ × Frame)
with_frame es b g = option_map_or (λ f. set_value (nat_eq b) es (g f)) (frame_of es b) es

abbrev pub is_changed_in : List (ℕ × Frame) → ℕ → Bool
is_changed_in es h = option_map_or (λ f. f.changed) (frame_of es h) false

-- the blocks in memory that are changed, in the order of their use
abbrev pub changed_in : List (ℕ × Frame) → List ℕ
changed_in es = keys_of (filter (λ e. e.1.changed) es)

-- no block in memory is changed
pub record AreClean (es : List (ℕ × Frame)) : Type 0 where
  pub each : (h : ℕ) → is_changed_in es h ≡ false

-- the block is in memory and changed, with this body
pub record IsChangedBody (es : List (ℕ × Frame)) (h : ℕ) (body : BlockBody) : Type 0 where
  pub frame : Frame
  pub here : frame_of es h ≡ Some frame
  pub changed : frame.changed ≡ true
  pub same : frame.body ≡ body

-- A frame is of a block of the file and of its kind, also where its body is changed, and is locked 255 times at most.
-- An unchanged one over an honest store has the file's body.
pub record IsFrameOf (honest : Bool) (file : Document) (h : ℕ) (f : Frame) : Type 0 where
  pub live : is_live file h ≡ true
  pub few : f.locks ≤ 255
  pub kind : is_heap_body (body_value f.body) ≡ is_heap file h
  pub clean : IsTrue honest → f.changed ≡ false → (block_at file h).body ≡ body_value f.body

pub record AreFramesOf (honest : Bool) (file : Document) (es : List (ℕ × Frame)) : Type 0 where
  pub each : (h : ℕ) (f : Frame) → frame_of es h ≡ Some f → IsFrameOf honest file h f

-- what callers see of a file under so many frames
abbrev pub shown : {S : Type 0} → FileState S → List (ℕ × Frame) → ℕ → CacheState S
shown file es cap =
    record { disk = file.disk; document = overlay es file.document; resident = residents es; frames = cap }

-- the file under its frames, as a file whose document is the one over which they lie
abbrev pub with_frames : {S : Type 0} → FileState S → List (ℕ × Frame) → FileState S
with_frames file es = record { disk = file.disk; document = overlay es file.document }

-- The document stays, or drifts as the store does, whatever is written or read.
pub record KeepsOverlay {S : Type 0} (facts : S → StoreFacts) (file : FileState S) (frames : List (ℕ × Frame))
    (file' : FileState S) (frames' : List (ℕ × Frame)) : Type 0 where
  pub passes : KeepsCommitted facts file.disk file'.disk
  pub unless_corrupt : SameUnlessCorrupt (facts file.disk.store).honest (overlay frames file.document)
      (overlay frames' file'.document)
  pub kept : AreFramesOf (facts file'.disk.store).honest file'.document frames'
