-- What a look-up may answer of a document, and what it leaves of it.
use Rattle.std.specs.Prelude.{◌≡◌, ◌⊎◌, ⊤, ℕ, List, [], Bool, true, false, ◌∷◌, Option, None, Some, Result, Ok, Err, IfErr, MatchResult}
use Rattle.std.specs.Option.{option_map_or}
use Rattle.std.specs.Borrow.{follows_so, Fml, RattleType, MutBor}
use Rattle.geos_model.specs.Refusal.{first_refusal}
use Rattle.geos_model.specs.Document.{Document, is_heap, is_raw}
use Rattle.geos_model.specs.LookUps.{array_look_up}
use Rattle.geos_model.specs.Machine.{OneBody, look_up_needs}
use Rattle.geos_model.specs.Reply.{Reply, AreEqual, BytesAre, NumberIs, Refused, blocks_are, chunks_are, info_is, look_up_conditions, look_up}
use Rattle.geos_model.specs.declared.fault.Fault.{Fault}
use Rattle.geos_model.specs.declared.fault.Fault.TheVariants.{CacheFull, Memory, NotArray, NoElement, Range}
use Rattle.geos_model.specs.declared.command.Command.{Command}
use Rattle.geos_model.specs.declared.command.Command.TheVariants as commands
use Rattle.geos_model.specs.declared.handle.ChunkHandle.{ChunkHandle}
use Rattle.geos_model.specs.declared.handle.VmHandle.{VmHandle}
use Rattle.vm_store.specs.Facts.{StoreFacts}
use Rattle.vm_blocks.specs.State.{CacheState}
use Rattle.vm_blocks.specs.Keeping.{KeepsBlocks, IsEnvironmentFault, IsHonest, is_full, is_loaded, has_no_frame_for}
use Rattle.vm_blocks.specs.Kinds.{IsWrongBlock}
use Rattle.vm_chains.specs.Answers.{IsWrongRoot}
use Rattle.large_arrays.specs.LargeLookUps.{IsElementLoaded, placed_bytes}
use Rattle.doc_edits.specs.Found.{IsChunkAt, IsChunkLive, is_among}
use Rattle.doc_edits.specs.Room.{lacks_frames, IsChainRefusal, ReadsNothing}
use Rattle.doc_edits.specs.declared.look_ups.Lists.{Lists}
use Rattle.doc_edits.specs.declared.look_ups.Prepared.{Prepared}
use Rattle.doc_edits.specs.declared.look_ups.Prepared.TheVariants as prepared
use mathlib.Core.Option.{none}

-- the first refusal of a look-up, for which there may be no room, or what it answers where nothing refuses it
abbrev pub answer_of : Bool → Command → Document → Option Reply
answer_of no_room command d =
    option_map_or (λ fault. Some (Refused fault)) (first_refusal ((CacheFull, no_room) ∷ look_up_conditions command d))
    (look_up command d)

-- it answers so, or, where there is room, a fault of what the call may lack
abbrev pub LooksUp : (Fault → Type 0) → Bool → Command → Document → Reply → Type 0
LooksUp lacks no_room command d reply =
    ((fault : Fault) × lacks fault × (reply ≡ Refused fault) × (no_room ≡ false))
    ⊎ (answer_of no_room command d ≡ Some reply)

-- the block and the chunk into which a look-up looks
abbrev pub chunk_asked : Command → Option (VmHandle × ChunkHandle)
chunk_asked (commands.Read b c) = Some (b, c)
chunk_asked (commands.ArrayCount b c) = Some (b, c)
chunk_asked (commands.ArrayElement b c i) = Some (b, c)
chunk_asked (commands.ElementReferences b c t) = Some (b, c)
chunk_asked (commands.ElementBytes b c t) = Some (b, c)
chunk_asked (commands.ElementsUsed b c) = Some (b, c)
chunk_asked (commands.TokenOfUsed b c k) = Some (b, c)
chunk_asked (commands.UsedOfToken b c t) = Some (b, c)
chunk_asked (commands.NameFind b c text) = Some (b, c)
chunk_asked (commands.NameReferences b c t) = Some (b, c)
chunk_asked (commands.NameText b c t) = Some (b, c)
chunk_asked (commands.NamePart b c t) = Some (b, c)
chunk_asked command = None

-- So is each look-up into the chunk refused.
abbrev pub RefusesChunk : (Fault → Type 0) → Bool → Document → VmHandle → ChunkHandle → Fault → Type 0
RefusesChunk lacks no_room d b c fault =
    (command : Command) → chunk_asked command ≡ Some (b, c) → LooksUp lacks no_room command d (Refused fault)

-- whether a look-up into one block makes a list, for which memory may run out though the block is there
abbrev pub makes_list : Command → Bool
makes_list (commands.Chunks b) = true
makes_list command = false

-- it answers by its rules alone, but for lack of memory for a list
abbrev pub LooksUpInMemory : Command → Document → Reply → Type 0
LooksUpInMemory command d reply =
    LooksUp (λ fault. (fault ≡ Memory) × (makes_list command ≡ true)) false command d reply

-- What a look-up into one block comes to: the file is kept, and the document as it is held from then on is looked up,
-- as far as there was room for the block. Where no body has to be read no store is called, and the answer is that of
-- the document before.
pub record AnswersFromBlocks {S : Type 0} (facts : S → StoreFacts) (old new : CacheState S) (command : Command)
    (reply : Reply)
    : Type 0 where
  pub keeps : KeepsBlocks facts old new
  pub value : LooksUp (IsEnvironmentFault facts old.disk.store new.disk.store)
      (lacks_frames old (look_up_needs command)) command new.document reply
  pub already : ReadsNothing old (look_up_needs command) (look_up_conditions command old.document)
      → (new.disk ≡ old.disk) × (new.document ≡ old.document) × LooksUpInMemory command old.document reply

-- What a look-up of a large array is refused for by its root: for what handles and kinds tell, or for one of these.
abbrev pub IsArrayRootFault : List Fault → Document → ℕ → Fault → Type 0
IsArrayRootFault faults d b fault = IsWrongBlock is_raw d b fault ⊎ (is_among faults fault ≡ true)

-- What a look-up along chains or of a large array is refused for by their roots: of chains for what handles and kinds
-- tell, and of an array also where its bytes are no root, or have too few elements for what is asked, or those of
-- another kind.
abbrev pub IsRootFaultOf : Command → Document → Fault → Type 0
IsRootFaultOf (commands.Walk b) d = IsWrongBlock is_raw d b.0
IsRootFaultOf (commands.ChainSize b) d = IsWrongBlock is_raw d b.0
IsRootFaultOf (commands.ChainEqual b other) d = IsWrongRoot d b.0 other.0
IsRootFaultOf (commands.LargeCount b) d = IsArrayRootFault (NotArray ∷ []) d b.0
IsRootFaultOf (commands.LargeElement b i) d = IsArrayRootFault (NotArray ∷ NoElement ∷ []) d b.0
IsRootFaultOf (commands.LargeRun b i n) d = IsArrayRootFault (NotArray ∷ NoElement ∷ Range ∷ []) d b.0
IsRootFaultOf command d = λ fault. ⊥

-- What a look-up along chains or of a large array comes to: the file is kept, and, if the store gives back what it has,
-- the document as it is held from then on is looked up. Where each frame has a locked block nothing changes, and the
-- document before is.
pub record AnswersChainFromBlocks {S : Type 0} (facts : S → StoreFacts) (old new : CacheState S) (command : Command)
    (reply : Reply) : Type 0 where
  pub keeps : KeepsBlocks facts old new
  pub value : IsHonest facts old.disk.store
      → LooksUp (IsEnvironmentFault facts old.disk.store new.disk.store) (is_full old) command new.document reply
  pub shut : is_full old ≡ true → (new ≡ old) × (answer_of true command old.document ≡ Some reply)
  pub refusals : (fault : Fault) → reply ≡ Refused fault
      → IsChainRefusal (IsEnvironmentFault facts old.disk.store new.disk.store)
      (IsRootFaultOf command old.document) (is_full old) fault

-- A chunk is looked for without the store where no body has to be read for a look-up into it, which is then refused by
-- the rules alone.
abbrev pub FindsInMemory : {S T : Type 0} → CacheState S → CacheState S → VmHandle → ChunkHandle → Result T Fault
    → Type 0
FindsInMemory old new b c result =
    (command : Command) → chunk_asked command ≡ Some (b, c)
    → ReadsNothing old (OneBody b.0) (look_up_conditions command old.document)
    → (new.disk ≡ old.disk) × (new.document ≡ old.document)
    × IfErr result (λ fault. first_refusal (look_up_conditions command old.document) ≡ Some fault)

-- What comes of looking for a chunk whose block may have to be brought into memory: the file is kept, and the chunk is
-- live, or each look-up into it is refused.
pub record FindsChunk {S T : Type 0} (facts : S → StoreFacts) (old new : CacheState S) (b : VmHandle) (c : ChunkHandle)
    (result : Result T Fault) : Type 0 where
  pub keeps : KeepsBlocks facts old new
  pub found : MatchResult result (λ _. (has_no_frame_for old b.0 ≡ false) × IsChunkLive new.document b.0 c.0)
      (RefusesChunk (IsEnvironmentFault facts old.disk.store new.disk.store)
      (has_no_frame_for old b.0) new.document b c)
  pub in_memory : FindsInMemory old new b c result

-- What is behind a `&mut` is again what the call left there, once what was lent of it is given back, and this holds of
-- that.
abbrev pub AfterLoan : (R : RattleType) → MutBor R.Denot → (R.Denot → Type 0) → Fml
AfterLoan R s P = follows_so R R s.ghost_name none (λ _ _. ⊤) P

-- These bytes answer a look-up into a chunk so, wherever they stand.
abbrev pub AnswersInChunk : List ℕ → (VmHandle → ChunkHandle → Command) → Reply → Type 0
AnswersInChunk bytes asks reply =
    (d : Document) (b : VmHandle) (c : ChunkHandle) → IsChunkAt d b.0 c.0 bytes
    → answer_of false (asks b c) d ≡ Some reply

-- the block in which the answer stands is in memory
abbrev pub IsPreparedLookUp : {S : Type 0} → Prepared → CacheState S → Type 0
IsPreparedLookUp (prepared.Raw b) s = (is_loaded s b.0 ≡ true) × (is_raw s.document b.0 ≡ true)
IsPreparedLookUp (prepared.Chunk b c) s = (is_loaded s b.0 ≡ true) × (is_heap s.document b.0 ≡ true)
IsPreparedLookUp (prepared.Array b c asked) s = (is_loaded s b.0 ≡ true) × IsChunkLive s.document b.0 c.0
IsPreparedLookUp (prepared.Element place) s = IsElementLoaded s place
IsPreparedLookUp _ s = ⊤

-- it is a list
abbrev pub is_list : Prepared → Bool
is_list prepared.Blocks = true
is_list prepared.Chunks = true
is_list prepared.Bytes = true
is_list _ = false

-- what is answered of what was prepared: it, a list, or what the document answers
abbrev pub Shows : {S : Type 0} → Prepared → CacheState S → Lists → Reply → Type 0
Shows (prepared.Info info) s lists reply = reply ≡ info_is info
Shows (prepared.Number n) s lists reply = reply ≡ NumberIs n
Shows (prepared.Equal equal) s lists reply = reply ≡ AreEqual equal
Shows prepared.Blocks s lists reply = reply ≡ blocks_are lists.blocks.items
Shows prepared.Chunks s lists reply = reply ≡ chunks_are lists.chunks.items
Shows prepared.Bytes s lists reply = reply ≡ BytesAre lists.bytes.items
Shows (prepared.Raw b) s lists reply = answer_of false (commands.ReadRaw b) s.document ≡ Some reply
Shows (prepared.Chunk b c) s lists reply = answer_of false (commands.Read b c) s.document ≡ Some reply
Shows (prepared.Array b c asked) s lists reply = answer_of false (array_look_up b c asked) s.document ≡ Some reply
Shows (prepared.Element place) s lists reply = reply ≡ BytesAre (placed_bytes s.document place)

-- or why nothing was prepared
abbrev pub ShowsOrRefuses : {S : Type 0} → Result Prepared Fault → CacheState S → Lists → Reply → Type 0
ShowsOrRefuses (Ok prepared) s lists reply = Shows prepared s lists reply
ShowsOrRefuses (Err fault) s lists reply = reply ≡ Refused fault
