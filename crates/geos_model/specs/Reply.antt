-- What a command answers, and how look-ups answer of a document.
use Rattle.std.specs.Prelude.{ℕ, List, [], Bool, ◌++◌, ◌==◌, ◌&&◌, nat_lt, length, map, find, get_or, Option, Some, None, unwrap_or, Result, Ok, Err}
use Rattle.std.specs.FinMap.{get, keys, entries}
use Rattle.std.specs.Option.{option_map}
use Rattle.geos_model.specs.Refusal.{Conditions}
use Rattle.geos_model.specs.ArrayEdits.{array_in, on_array, on_element}
use Rattle.geos_model.specs.ElementEdits.{elements_in, count_at, bytes_at, used_in, used_from, used_below, on_elements, on_token, on_used}
use Rattle.geos_model.specs.NameEdits.{names_in, token_of_text, text_at, part_at, on_name_token, find_conditions}
use Rattle.geos_model.specs.Chain.{chain_blocks, chain_bytes, same_shape, on_chain, on_chains}
use Rattle.geos_model.specs.LargeEdits.{on_root, get_large_conditions, read_large_conditions, large_count, large_element, large_run}
use Rattle.geos_model.specs.Heap.{need}
use Rattle.geos_model.specs.Document.{Document, chunks_of, raw_bytes_of, heap_type_of}
use Rattle.geos_model.specs.Meaning.{on_block, on_raw, on_heap, on_chunk, chunk_at}
use Rattle.geos_model.specs.declared.fault.Fault.{Fault}
use Rattle.geos_model.specs.declared.command.Body.{Body}
use Rattle.geos_model.specs.declared.command.Body.TheVariants.{Raw, Heap}
use Rattle.geos_model.specs.declared.command.Done.{Done}
use Rattle.geos_model.specs.declared.command.Done.TheVariants as done
use Rattle.geos_model.specs.declared.command.Info.{Info}
use Rattle.geos_model.specs.declared.command.Info.TheVariants as infos
use Rattle.geos_model.specs.declared.reply.Reply.{Reply as GivenReply}
use Rattle.geos_model.specs.declared.reply.Reply.TheVariants as replies
use Rattle.geos_model.specs.declared.handle.VmHandle.{VmHandle}
use Rattle.geos_model.specs.declared.place.Place.{Place}
use Rattle.geos_model.specs.declared.handle.ChunkHandle.{ChunkHandle}
use Rattle.geos_model.specs.declared.command.Command.{Command}
use Rattle.geos_model.specs.declared.command.Command.TheVariants as commands

pub data Reply : Type 0 where
  Accepted : Reply
  Refused : (fault : Fault) → Reply
  BlockIs : (handle : ℕ) → Reply
  ChunkIs : (handle : ℕ) → Reply
  TokenIs : (token : ℕ) → Reply
  NumberIs : (n : ℕ) → Reply
  BytesAre : (bytes : List ℕ) → Reply
  BlocksAre : (handles : List ℕ) → Reply
  ChunksAre : (handles : List ℕ) → Reply
  PlacesAre : (places : List Place) → Reply
  RawIs : (user_id size : ℕ) → Reply
  HeapIs : (user_id size : ℕ) → Reply
  AreEqual : (equal : Bool) → Reply

abbrev pub reply_of_done : Done → Reply
reply_of_done done.Nothing = Accepted
reply_of_done (done.Block b) = BlockIs b.0
reply_of_done (done.Chunk c) = ChunkIs c.0
reply_of_done (done.Token t) = TokenIs t.0

-- the refusals of a look-up; none of a command that is no look-up
abbrev pub look_up_conditions : Command → Document → Conditions
look_up_conditions (commands.Info b) d = on_block d b.0
look_up_conditions (commands.ReadRaw b) d = on_raw d b.0
look_up_conditions (commands.Chunks b) d = on_heap d b.0
look_up_conditions (commands.Read b c) d = on_chunk d b.0 c.0
look_up_conditions (commands.ArrayCount b c) d = on_chunk d b.0 c.0 ++ on_array (chunk_at d b.0 c.0)
look_up_conditions (commands.ArrayElement b c i) d = on_chunk d b.0 c.0 ++ on_element (chunk_at d b.0 c.0) i
look_up_conditions (commands.ElementReferences b c t) d = on_chunk d b.0 c.0 ++ on_token (chunk_at d b.0 c.0) t.0
look_up_conditions (commands.ElementBytes b c t) d = on_chunk d b.0 c.0 ++ on_token (chunk_at d b.0 c.0) t.0
look_up_conditions (commands.ElementsUsed b c) d = on_chunk d b.0 c.0 ++ on_elements (chunk_at d b.0 c.0)
look_up_conditions (commands.TokenOfUsed b c k) d = on_chunk d b.0 c.0 ++ on_used (chunk_at d b.0 c.0) k
look_up_conditions (commands.UsedOfToken b c t) d = on_chunk d b.0 c.0 ++ on_token (chunk_at d b.0 c.0) t.0
look_up_conditions (commands.NameFind b c text) d = on_chunk d b.0 c.0 ++ find_conditions (chunk_at d b.0 c.0) text
look_up_conditions (commands.NameReferences b c t) d = on_chunk d b.0 c.0 ++ on_name_token (chunk_at d b.0 c.0) t.0
look_up_conditions (commands.NameText b c t) d = on_chunk d b.0 c.0 ++ on_name_token (chunk_at d b.0 c.0) t.0
look_up_conditions (commands.NamePart b c t) d = on_chunk d b.0 c.0 ++ on_name_token (chunk_at d b.0 c.0) t.0
look_up_conditions (commands.Walk b) d = on_chain d b.0
look_up_conditions (commands.ChainSize b) d = on_chain d b.0
look_up_conditions (commands.ChainEqual b other) d = on_chains d b.0 other.0
look_up_conditions (commands.LargeCount b) d = on_root d b.0
look_up_conditions (commands.LargeElement b i) d = get_large_conditions d b.0 i.0
look_up_conditions (commands.LargeRun b i n) d = read_large_conditions d b.0 i.0 n.0
look_up_conditions (commands.HeapType b) d = on_heap d b.0
look_up_conditions commands.List d = []
look_up_conditions (commands.Find uid start) d = []
look_up_conditions commands.MapBlock d = []
look_up_conditions commands.Undos d = []
look_up_conditions commands.Redos d = []
look_up_conditions commands.Modified d = []
look_up_conditions commands.UndoName d = []
look_up_conditions commands.RedoName d = []
look_up_conditions commands.Touched d = []
look_up_conditions commands.UndoPlaces d = []
look_up_conditions commands.RedoPlaces d = []
look_up_conditions commands.AbandonPlaces d = []
look_up_conditions commands.Blank d = []
look_up_conditions (commands.Edit e) d = []
look_up_conditions commands.Undo d = []
look_up_conditions commands.Redo d = []
look_up_conditions commands.Begin d = []
look_up_conditions commands.End d = []
look_up_conditions commands.Abandon d = []
look_up_conditions commands.Join d = []
look_up_conditions (commands.Forget most) d = []
look_up_conditions (commands.Name name) d = []
look_up_conditions commands.Update d = []
look_up_conditions commands.Save d = []
look_up_conditions commands.Revert d = []
look_up_conditions commands.SaveAs d = []
look_up_conditions (commands.Lock b) d = []
look_up_conditions (commands.Unlock b) d = []
look_up_conditions (commands.Dirty b) d = []
look_up_conditions (commands.Locks b) d = on_block d b.0

-- of a raw block the size of its body, of a heap the bytes that it needs
abbrev pub body_info : ℕ → Body → Reply
body_info uid (Raw bytes) = RawIs uid (length bytes)
body_info uid (Heap m) = HeapIs uid (need m)

-- the least handle above the start that has this user ID
abbrev pub found : Document → ℕ → ℕ → Option ℕ
found d uid start =
    option_map (λ e. e.0) (find (λ e. nat_lt start e.0 && (e.1.attributes.user_id == uid)) (entries d.blocks))

-- what a look-up that nothing refuses answers of the document; what is no look-up, or asks of more than the document,
-- has no answer here
abbrev pub look_up : Command → Document → Option Reply
look_up (commands.Info b) d = option_map (λ block. body_info block.attributes.user_id block.body) (get d.blocks b.0)
look_up (commands.HeapType b) d = Some (NumberIs (heap_type_of d b.0))
look_up commands.List d = Some (BlocksAre (keys d.blocks))
look_up (commands.Find uid start) d = Some (BlockIs (unwrap_or (found d uid start.0) 0))
look_up commands.MapBlock d = Some (BlockIs d.map_block)
look_up (commands.ReadRaw b) d = Some (BytesAre (raw_bytes_of d b.0))
look_up (commands.Chunks b) d = Some (ChunksAre (keys (chunks_of d b.0)))
look_up (commands.Read b c) d = Some (BytesAre (chunk_at d b.0 c.0))
look_up (commands.ArrayCount b c) d = Some (NumberIs (length (array_in (chunk_at d b.0 c.0)).elements))
look_up (commands.ArrayElement b c i) d = Some (BytesAre (get_or (array_in (chunk_at d b.0 c.0)).elements i []))
look_up (commands.ElementReferences b c t) d = Some (NumberIs (count_at (elements_in (chunk_at d b.0 c.0)) t.0))
look_up (commands.ElementBytes b c t) d = Some (BytesAre (bytes_at (elements_in (chunk_at d b.0 c.0)) t.0))
look_up (commands.ElementsUsed b c) d = Some (NumberIs (used_in (elements_in (chunk_at d b.0 c.0))))
look_up (commands.TokenOfUsed b c k) d =
    Some (TokenIs (get_or (used_from 0 (elements_in (chunk_at d b.0 c.0)).slots) k 0))
look_up (commands.UsedOfToken b c t) d = Some (NumberIs (used_below (elements_in (chunk_at d b.0 c.0)) t.0))
look_up (commands.NameFind b c text) d = option_map TokenIs (token_of_text (names_in (chunk_at d b.0 c.0)) text)
look_up (commands.NameReferences b c t) d = Some (NumberIs (count_at (names_in (chunk_at d b.0 c.0)).names t.0))
look_up (commands.NameText b c t) d = Some (BytesAre (text_at (names_in (chunk_at d b.0 c.0)) t.0))
look_up (commands.NamePart b c t) d = Some (BytesAre (part_at (names_in (chunk_at d b.0 c.0)) t.0))
look_up (commands.Walk b) d = Some (BlocksAre (chain_blocks d b.0))
look_up (commands.ChainSize b) d = Some (NumberIs (chain_bytes d (chain_blocks d b.0)))
look_up (commands.ChainEqual b other) d = Some (AreEqual (same_shape d (chain_blocks d b.0) (chain_blocks d other.0)))
look_up (commands.LargeCount b) d = Some (NumberIs (large_count d b.0))
look_up (commands.LargeElement b i) d = Some (BytesAre (large_element d b.0 i.0))
look_up (commands.LargeRun b i n) d = Some (BytesAre (large_run d b.0 i.0 n.0))
look_up commands.Undos d = None
look_up commands.Redos d = None
look_up commands.Modified d = None
look_up commands.UndoName d = None
look_up commands.RedoName d = None
look_up commands.Touched d = None
look_up commands.UndoPlaces d = None
look_up commands.RedoPlaces d = None
look_up commands.AbandonPlaces d = None
look_up commands.Blank d = None
look_up (commands.Edit e) d = None
look_up commands.Undo d = None
look_up commands.Redo d = None
look_up commands.Begin d = None
look_up commands.End d = None
look_up commands.Abandon d = None
look_up commands.Join d = None
look_up (commands.Forget most) d = None
look_up (commands.Name name) d = None
look_up commands.Update d = None
look_up commands.Save d = None
look_up commands.Revert d = None
look_up commands.SaveAs d = None
look_up (commands.Lock b) d = None
look_up (commands.Unlock b) d = None
look_up (commands.Dirty b) d = None
look_up (commands.Locks b) d = None

-- what a call of a session answers, as a reply
abbrev pub reply_by : {T : Type 0} → (T → Reply) → Result T Fault → Reply
reply_by f (Ok x) = f x
reply_by f (Err fault) = Refused fault

abbrev pub info_is : Info → Reply
info_is (infos.Raw uid size) = RawIs uid size
info_is (infos.Heap uid size) = HeapIs uid size

abbrev pub blocks_are : List VmHandle → Reply
blocks_are handles = BlocksAre (map (λ h. h.0) handles)

abbrev pub chunks_are : List ChunkHandle → Reply
chunks_are handles = ChunksAre (map (λ h. h.0) handles)

-- what the code's reply to an accepted command tells
abbrev pub reply_of : GivenReply → Reply
reply_of replies.Accepted = Accepted
reply_of (replies.Block b) = BlockIs b.0
reply_of (replies.Chunk c) = ChunkIs c.0
reply_of (replies.Token t) = TokenIs t.0
reply_of (replies.Number n) = NumberIs n
reply_of (replies.Bytes bytes) = BytesAre bytes.now
reply_of (replies.Blocks handles) = blocks_are handles.now
reply_of (replies.Chunks handles) = chunks_are handles.now
reply_of (replies.Places places) = PlacesAre places.now
reply_of (replies.Info info) = info_is info
reply_of (replies.Equal equal) = AreEqual equal
