-- A script: lines of words, the command that a line is, the text of a reply, and what a run writes.
use Rattle.std.specs.Prelude.{◌≡◌, ℕ, List, [], ◌∷◌, ◌++◌, ◌+◌, ◌*◌, ◌-◌, ◌/◌, ◌%◌, Bool, true, false, ◌==◌, ◌&&◌, ◌||◌, nat_le, length, map, filter, fold, if◌then◌else◌, Option, Some, None, Result, Ok, Err, codes}
use Rattle.std.specs.List.{flat_map, list_all}
use Rattle.std.specs.Option.{option_and_then, option_map}
use Rattle.std.specs.Fmt.{decimal}
use Rattle.hex.specs.Hex.{encode_lower, decode_of}
use Rattle.hex.specs.declared.error.FromHexError.{FromHexError}
use Rattle.geos_model.specs.declared.handle.VmHandle.{VmHandle}
use Rattle.geos_model.specs.declared.handle.ChunkHandle.{ChunkHandle}
use Rattle.geos_model.specs.declared.handle.Token.{Token}
use Rattle.geos_model.specs.declared.element_count.ElementCount.{ElementCount}
use Rattle.geos_model.specs.declared.place.Place.{Place}
use Rattle.geos_model.specs.declared.place.Place.TheVariants as place
pub use Rattle.geos_model.specs.Bytes.{same_bytes}
use Rattle.geos_model.specs.Refusal.{number_of_fault, name_of_fault}
use Rattle.geos_model.specs.Reply.{Reply, Accepted, Refused, BlockIs, ChunkIs, TokenIs, NumberIs, BytesAre, BlocksAre, ChunksAre, PlacesAre, RawIs, HeapIs, AreEqual}
use Rattle.geos_model.specs.Machine.{Machine, Request, Call, failed_calls, Run}
use Rattle.geos_model.specs.declared.command.Edit.TheVariants as edits
use Rattle.geos_model.specs.declared.command.Command.{Command}
use Rattle.geos_model.specs.declared.command.Command.TheVariants as commands

abbrev pub line_feed : ℕ
line_feed = 10

-- x goes before the first of these lines
abbrev pub begin_line : ℕ → List (List ℕ) → List (List ℕ)
begin_line x [] = (x ∷ []) ∷ []
begin_line x (line ∷ lines) = (x ∷ line) ∷ lines

-- the lines of a script, each ended by a line feed or by the end; an empty rest is no line
abbrev pub lines : List ℕ → List (List ℕ)
lines [] = []
lines (x ∷ xs) = if x == line_feed then [] ∷ lines xs else begin_line x (lines xs)

-- a space, a tab or a carriage return
abbrev pub is_blank : ℕ → Bool
is_blank x = x == 32 || x == 9 || x == 13

-- x goes before the first of these words where no blank lies between, and else is a word of its own
abbrev pub begin_word : ℕ → List ℕ → List (List ℕ) → List (List ℕ)
begin_word x [] words = (x ∷ []) ∷ words
begin_word x (y ∷ ys) [] = (x ∷ []) ∷ []
begin_word x (y ∷ ys) (word ∷ words) = if is_blank y then (x ∷ []) ∷ word ∷ words else (x ∷ word) ∷ words

-- the longest runs of bytes that aren't blanks
abbrev pub words : List ℕ → List (List ℕ)
words [] = []
words (x ∷ xs) = if is_blank x then words xs else begin_word x xs (words xs)

-- Operands. Each is the value that a word spells, if it spells one.

abbrev pub is_digit : ℕ → Bool
is_digit x = nat_le 48 x && nat_le x 57

-- a number with one more digit behind it
abbrev pub with_digit : ℕ → ℕ → ℕ
with_digit n x = 10 * n + (x - 48)

-- 1 to so many decimal digits
abbrev pub number_within : ℕ → List ℕ → Option ℕ
number_within most word =
    if nat_le 1 (length word) && nat_le (length word) most && list_all is_digit word then Some (fold with_digit 0 word)
    else None

-- a number has 7 at most
abbrev pub number : List ℕ → Option ℕ
number word = number_within 7 word

-- and one of elements of a large array 9
abbrev pub element_number : List ℕ → Option ElementCount
element_number word = option_map (λ n. record { 0 = n }) (number_within 9 word)

-- such digits for a number of two bytes
abbrev pub user_id : List ℕ → Option ℕ
user_id word = option_and_then (λ n. if nat_le n 65535 then Some n else None) (number word)

-- a type is spelled so too
abbrev pub heap_type : List ℕ → Option ℕ
heap_type word = user_id word

-- the bytes that pairs of hexadecimal digits spell
abbrev pub if_spelled : Result (List ℕ) FromHexError → Option (List ℕ)
if_spelled (Ok bytes) = Some bytes
if_spelled (Err e) = None

-- a dash for no bytes, or two hexadecimal digits for each byte, at least one
abbrev pub bytes : List ℕ → Option (List ℕ)
bytes word =
    if same_bytes word (codes "-") then Some [] else if length word == 0 then None else if_spelled (decode_of word)

abbrev pub two_bytes : List ℕ → Option ℕ
two_bytes (high ∷ low ∷ []) = Some (256 * high + low)
two_bytes _ = None

-- exactly four hexadecimal digits
abbrev pub handle : List ℕ → Option ℕ
handle word = option_and_then two_bytes (if_spelled (decode_of word))

abbrev pub block : List ℕ → Option VmHandle
block word = option_map (λ n. record { 0 = n }) (handle word)

abbrev pub chunk : List ℕ → Option ChunkHandle
chunk word = option_map (λ n. record { 0 = n }) (handle word)

abbrev pub token : List ℕ → Option Token
token word = option_map (λ n. record { 0 = n }) (handle word)

-- whether a part is set or kept
abbrev pub is_set : List ℕ → Option Bool
is_set word =
    if same_bytes word (codes "set") then Some true else if same_bytes word (codes "keep") then Some false else None

-- A command of so many operands, each spelled by one word.

abbrev pub with_none : Command → List (List ℕ) → Option Command
with_none c [] = Some c
with_none c (w ∷ ws) = None

abbrev pub operand : {A : Type 0} → (List ℕ → Option A) → (A → List (List ℕ) → Option Command) → List (List ℕ)
    → Option Command
operand p f [] = None
operand p f (w ∷ ws) = option_and_then (λ a. f a ws) (p w)

abbrev pub with_1 : {A : Type 0} → (List ℕ → Option A) → (A → Command) → List (List ℕ) → Option Command
with_1 p f = operand p (λ a. with_none (f a))

abbrev pub with_2 : {A B : Type 0} → (List ℕ → Option A) → (List ℕ → Option B) → (A → B → Command) → List (List ℕ)
    → Option Command
with_2 p q f = operand p (λ a. with_1 q (f a))

abbrev pub with_3 : {A B C : Type 0} → (List ℕ → Option A) → (List ℕ → Option B) → (List ℕ → Option C)
    → (A → B → C → Command) → List (List ℕ) → Option Command
with_3 p q r f = operand p (λ a. with_2 q r (f a))

abbrev pub with_4 : {A B C D : Type 0} → (List ℕ → Option A) → (List ℕ → Option B) → (List ℕ → Option C)
    → (List ℕ → Option D) → (A → B → C → D → Command) → List (List ℕ) → Option Command
with_4 p q r s f = operand p (λ a. with_3 q r s (f a))

abbrev pub with_5 : {A B C D E : Type 0} → (List ℕ → Option A) → (List ℕ → Option B) → (List ℕ → Option C)
    → (List ℕ → Option D) → (List ℕ → Option E) → (A → B → C → D → E → Command) → List (List ℕ) → Option Command
with_5 p q r s t f = operand p (λ a. with_4 q r s t (f a))

-- each command by its name, with what its operands make of it
abbrev pub commands_by_name : List (List ℕ × (List (List ℕ) → Option Command))
commands_by_name =
    (codes "newraw", with_2 user_id number (λ u n. commands.Edit (edits.NewRaw u n)))
    ∷ (codes "newheap", with_1 user_id (λ u. commands.Edit (edits.NewHeap u)))
    ∷ (codes "vfree", with_1 block (λ b. commands.Edit (edits.FreeBlock b)))
    ∷ (codes "vcopy", with_1 block (λ b. commands.Edit (edits.CopyBlock b)))
    ∷ (codes "vwrite", with_3 block number bytes (λ b at bs. commands.Edit (edits.WriteRaw b at bs)))
    ∷ (codes "vsplice", with_4 block number number bytes (λ b at n bs. commands.Edit (edits.SpliceRaw b at n bs)))
    ∷ (codes "attach", with_2 block bytes (λ b bs. commands.Edit (edits.Attach b bs)))
    ∷ (codes "uid", with_2 block user_id (λ b u. commands.Edit (edits.SetUserId b u)))
    ∷ (codes "settype", with_2 block heap_type (λ b t. commands.Edit (edits.SetType b t)))
    ∷ (codes "map", with_1 block (λ b. commands.Edit (edits.SetMap b)))
    ∷ (codes "alloc", with_2 block number (λ b n. commands.Edit (edits.Alloc b n)))
    ∷ (codes "free", with_2 block chunk (λ b c. commands.Edit (edits.Free b c)))
    ∷ (codes "resize", with_3 block chunk number (λ b c n. commands.Edit (edits.Resize b c n)))
    ∷ (codes "insert", with_4 block chunk number number (λ b c at n. commands.Edit (edits.Insert b c at n)))
    ∷ (codes "delete", with_4 block chunk number number (λ b c at n. commands.Edit (edits.Delete b c at n)))
    ∷ (codes "write", with_4 block chunk number bytes (λ b c at bs. commands.Edit (edits.Write b c at bs)))
    ∷ (
      codes "splice",
      with_5 block chunk number number bytes (λ b c at n bs. commands.Edit (edits.Splice b c at n bs)),
    )
    ∷ (codes "acreate", with_3 block number number (λ b e x. commands.Edit (edits.CreateArray b e x)))
    ∷ (codes "ainsert", with_4 block chunk number bytes (λ b c i bs. commands.Edit (edits.InsertElement b c i bs)))
    ∷ (codes "aset", with_4 block chunk number bytes (λ b c i bs. commands.Edit (edits.SetElement b c i bs)))
    ∷ (codes "aresize", with_4 block chunk number number (λ b c i n. commands.Edit (edits.ResizeElement b c i n)))
    ∷ (codes "adelete", with_4 block chunk number number (λ b c i k. commands.Edit (edits.DeleteElements b c i k)))
    ∷ (codes "azero", with_2 block chunk (λ b c. commands.Edit (edits.ZeroArray b c)))
    ∷ (codes "ecreate", with_2 block number (λ b e. commands.Edit (edits.CreateElementArray b e)))
    ∷ (codes "eadd", with_3 block chunk bytes (λ b c bs. commands.Edit (edits.AddElement b c bs)))
    ∷ (codes "eref", with_3 block chunk token (λ b c t. commands.Edit (edits.AddReference b c t)))
    ∷ (codes "eunref", with_3 block chunk token (λ b c t. commands.Edit (edits.RemoveReference b c t)))
    ∷ (codes "edelete", with_3 block chunk token (λ b c t. commands.Edit (edits.DeleteElement b c t)))
    ∷ (codes "echange", with_4 block chunk token bytes (λ b c t bs. commands.Edit (edits.ChangeElement b c t bs)))
    ∷ (codes "ncreate", with_2 block number (λ b d. commands.Edit (edits.CreateNameArray b d)))
    ∷ (
      codes "nadd",
      with_5 block chunk bytes bytes is_set
          (λ b c name part replace. commands.Edit (edits.AddName b c name part replace)),
    )
    ∷ (codes "nname", with_4 block chunk token bytes (λ b c t name. commands.Edit (edits.ChangeName b c t name)))
    ∷ (codes "nset", with_4 block chunk token bytes (λ b c t part. commands.Edit (edits.SetNamePart b c t part)))
    ∷ (codes "nunref", with_3 block chunk token (λ b c t. commands.Edit (edits.RemoveName b c t)))
    ∷ (codes "chcopy", with_1 block (λ b. commands.Edit (edits.CopyChain b)))
    ∷ (codes "chfree", with_1 block (λ b. commands.Edit (edits.FreeChain b)))
    ∷ (codes "hcreate", with_2 user_id number (λ u e. commands.Edit (edits.CreateLarge u e)))
    ∷ (codes "hinsert", with_3 block element_number bytes (λ b i bs. commands.Edit (edits.InsertLarge b i bs)))
    ∷ (codes "hset", with_3 block element_number bytes (λ b i bs. commands.Edit (edits.SetLarge b i bs)))
    ∷ (codes "hdelete", with_3 block element_number element_number (λ b i n. commands.Edit (edits.DeleteLarge b i n)))
    ∷ (codes "undo", with_none commands.Undo)
    ∷ (codes "redo", with_none commands.Redo)
    ∷ (codes "begin", with_none commands.Begin)
    ∷ (codes "end", with_none commands.End)
    ∷ (codes "abandon", with_none commands.Abandon)
    ∷ (codes "join", with_none commands.Join)
    ∷ (codes "forget", with_1 number (λ n. commands.Forget n))
    ∷ (codes "name", with_1 bytes (λ name. commands.Name name))
    ∷ (codes "update", with_none commands.Update)
    ∷ (codes "save", with_none commands.Save)
    ∷ (codes "revert", with_none commands.Revert)
    ∷ (codes "saveas", with_none commands.SaveAs)
    ∷ (codes "info", with_1 block (λ b. commands.Info b))
    ∷ (codes "gettype", with_1 block (λ b. commands.HeapType b))
    ∷ (codes "list", with_none commands.List)
    ∷ (codes "find", with_2 user_id block (λ u b. commands.Find u b))
    ∷ (codes "mapblock", with_none commands.MapBlock)
    ∷ (codes "vread", with_1 block (λ b. commands.ReadRaw b))
    ∷ (codes "chunks", with_1 block (λ b. commands.Chunks b))
    ∷ (codes "read", with_2 block chunk (λ b c. commands.Read b c))
    ∷ (codes "acount", with_2 block chunk (λ b c. commands.ArrayCount b c))
    ∷ (codes "aget", with_3 block chunk number (λ b c i. commands.ArrayElement b c i))
    ∷ (codes "ecount", with_3 block chunk token (λ b c t. commands.ElementReferences b c t))
    ∷ (codes "edata", with_3 block chunk token (λ b c t. commands.ElementBytes b c t))
    ∷ (codes "eused", with_2 block chunk (λ b c. commands.ElementsUsed b c))
    ∷ (codes "etoken", with_3 block chunk number (λ b c k. commands.TokenOfUsed b c k))
    ∷ (codes "eindex", with_3 block chunk token (λ b c t. commands.UsedOfToken b c t))
    ∷ (codes "nfind", with_3 block chunk bytes (λ b c name. commands.NameFind b c name))
    ∷ (codes "ncount", with_3 block chunk token (λ b c t. commands.NameReferences b c t))
    ∷ (codes "ntext", with_3 block chunk token (λ b c t. commands.NameText b c t))
    ∷ (codes "ndata", with_3 block chunk token (λ b c t. commands.NamePart b c t))
    ∷ (codes "walk", with_1 block (λ b. commands.Walk b))
    ∷ (codes "chsize", with_1 block (λ b. commands.ChainSize b))
    ∷ (codes "chequal", with_2 block block (λ b other. commands.ChainEqual b other))
    ∷ (codes "hcount", with_1 block (λ b. commands.LargeCount b))
    ∷ (codes "hget", with_2 block element_number (λ b i. commands.LargeElement b i))
    ∷ (codes "hread", with_3 block element_number element_number (λ b i n. commands.LargeRun b i n))
    ∷ (codes "lock", with_1 block (λ b. commands.Lock b))
    ∷ (codes "unlock", with_1 block (λ b. commands.Unlock b))
    ∷ (codes "dirty", with_1 block (λ b. commands.Dirty b))
    ∷ (codes "locks", with_1 block (λ b. commands.Locks b))
    ∷ (codes "undos", with_none commands.Undos)
    ∷ (codes "redos", with_none commands.Redos)
    ∷ (codes "modified", with_none commands.Modified)
    ∷ (codes "undoname", with_none commands.UndoName)
    ∷ (codes "redoname", with_none commands.RedoName)
    ∷ (codes "touched", with_none commands.Touched)
    ∷ (codes "undoplaces", with_none commands.UndoPlaces)
    ∷ (codes "redoplaces", with_none commands.RedoPlaces)
    ∷ (codes "abandonplaces", with_none commands.AbandonPlaces)
    ∷ []

abbrev pub by_name : List ℕ → List (List ℕ) → List (List ℕ × (List (List ℕ) → Option Command)) → Option Command
by_name name operands [] = None
by_name name operands (c ∷ cs) = if same_bytes name c.0 then c.1 operands else by_name name operands cs

-- a line with no word, and one whose first word begins with #, is blank
abbrev pub command_of_words : List (List ℕ) → Option Command
command_of_words [] = Some commands.Blank
command_of_words ([] ∷ operands) = None
command_of_words ((x ∷ name) ∷ operands) =
    if x == 35 then Some commands.Blank else by_name (x ∷ name) operands commands_by_name

abbrev pub longest_line : ℕ
longest_line = 140000

-- The command that a line is, or None for a bad one; a line that is too long is bad, whatever it begins with.
unfoldable pub command : List ℕ → Option Command
command line = if nat_le (length line) longest_line then command_of_words (words line) else None

abbrev pub gets_reply : Request → Bool
gets_reply (Some commands.Blank) = false
gets_reply _ = true

-- what the lines ask
abbrev pub requests : List (List ℕ) → List Request
requests lines = map command lines

-- The text of a reply.

abbrev pub four_digits : ℕ → List ℕ
four_digits n = encode_lower (n / 256 ∷ n % 256 ∷ [])

abbrev pub listed : List ℕ → List ℕ
listed handles = flat_map (λ h. 32 ∷ four_digits h) handles

abbrev pub hex_text : List ℕ → List ℕ
hex_text [] = codes "-"
hex_text (x ∷ xs) = encode_lower (x ∷ xs)

abbrev pub place_text : Place → List ℕ
place_text place.All = codes " all"
place_text place.MapBlock = codes " map"
place_text (place.Attributes b) = codes " attributes " ++ four_digits b.0
place_text (place.Block b) = codes " block " ++ four_digits b.0
place_text (place.Chunk b c) = codes " chunk " ++ four_digits b.0 ++ 32 ∷ four_digits c.0
place_text (place.Run b c at before after) =
    codes " run " ++ four_digits b.0 ++ 32 ∷ four_digits c.0 ++ 32 ∷ decimal at ++ 32 ∷ decimal before
    ++ 32 ∷ decimal after

unfoldable pub reply_text : Reply → List ℕ
reply_text Accepted = codes "ok"
reply_text (Refused fault) = codes "no " ++ decimal (number_of_fault fault) ++ 32 ∷ name_of_fault fault
reply_text (BlockIs h) = codes "block " ++ four_digits h
reply_text (ChunkIs h) = codes "chunk " ++ four_digits h
reply_text (TokenIs t) = codes "token " ++ four_digits t
reply_text (NumberIs n) = codes "number " ++ decimal n
reply_text (BytesAre bytes) = codes "bytes " ++ hex_text bytes
reply_text (BlocksAre hs) = codes "blocks" ++ listed hs
reply_text (ChunksAre hs) = codes "chunks" ++ listed hs
reply_text (PlacesAre ps) = codes "places" ++ flat_map place_text ps
reply_text (RawIs uid size) = codes "raw " ++ decimal uid ++ 32 ∷ decimal size
reply_text (HeapIs uid size) = codes "heap " ++ decimal uid ++ 32 ∷ decimal size
reply_text (AreEqual true) = codes "same"
reply_text (AreEqual false) = codes "differ"

abbrev pub reply_line : Reply → List ℕ
reply_line reply = reply_text reply ++ line_feed ∷ []

-- one line for each reply, in order
abbrev pub output : List Reply → List ℕ
output replies = flat_map reply_line replies

-- From old, this may be written for what is asked, and lead to new, the store failing in so many of the calls. What
-- gets no reply is passed over.
pub record Answered (old : Machine) (asked : List Request) (written : List ℕ) (failed : ℕ) (new : Machine)
    : Type 0 where
  pub calls : List Call
  pub asks : map (λ c. c.request) calls ≡ filter gets_reply asked
  pub run : Run old calls new
  pub text : written ≡ output (map (λ c. c.reply) calls)
  pub fails : failed_calls calls ≡ failed

-- x goes before the first of these lines, if there is one
abbrev pub begin_finished : ℕ → List (List ℕ) → List (List ℕ)
begin_finished x [] = []
begin_finished x (line ∷ lines) = (x ∷ line) ∷ lines

-- the lines that a line feed ends
abbrev pub finished_lines : List ℕ → List (List ℕ)
finished_lines [] = []
finished_lines (x ∷ xs) = if x == line_feed then [] ∷ finished_lines xs else begin_finished x (finished_lines xs)

-- The first ones of these lines are answered, and no other, the store failing in so many of the calls.
pub record Stopped (old : Machine) (lines : List (List ℕ)) (written : List ℕ) (failed : ℕ) : Type 0 where
  pub answered : List (List ℕ)
  pub others : List (List ℕ)
  pub parts : lines ≡ answered ++ others
  pub new : Machine
  pub run : Answered old (requests answered) written failed new
