-- How a command is printed, and which ones a line can spell.
use Rattle.std.specs.Prelude.{◌^◌, ◌<◌, ◌≤◌, ℕ, Bool, true, false, List, [], ◌∷◌, ◌++◌, codes, length}
use Rattle.std.specs.List.{AllByRecursion, flat_map}
use Rattle.std.specs.Fmt.{decimal}
use Rattle.hex.specs.Hex.{IsBytes}
use Rattle.geos_model.specs.Script.{four_digits, hex_text, longest_line}
use Rattle.geos_model.specs.declared.command.Edit.{Edit}
use Rattle.geos_model.specs.declared.command.Edit.TheVariants as edits
use Rattle.geos_model.specs.declared.command.Command.{Command}
use Rattle.geos_model.specs.declared.command.Command.TheVariants as commands
use Rattle.geos_script.specs.declared.word.Word.{Word}
use Rattle.geos_script.specs.declared.word.Word.TheVariants as words

-- what stands behind a name; a short number is a user ID or a type, and a long one is of elements of a large array
pub data Operand : Type 0 where
  Handle : (h : ℕ) → Operand
  Number : (n : ℕ) → Operand
  ShortNumber : (n : ℕ) → Operand
  LongNumber : (n : ℕ) → Operand
  Bytes : (bytes : List ℕ) → Operand
  Flag : (is_set : Bool) → Operand

abbrev pub flag_text : Bool → List ℕ
flag_text true = codes "set"
flag_text false = codes "keep"

abbrev pub operand_text : Operand → List ℕ
operand_text (Handle h) = four_digits h
operand_text (Number n) = decimal n
operand_text (ShortNumber n) = decimal n
operand_text (LongNumber n) = decimal n
operand_text (Bytes bytes) = hex_text bytes
operand_text (Flag is_set) = flag_text is_set

-- what a word can spell: of a number up to seven digits, of a long one up to nine
abbrev pub IsInRange : Operand → Type 0
IsInRange (Handle h) = h < 2 ^ 16
IsInRange (Number n) = n < 10 ^ 7
IsInRange (ShortNumber n) = n < 2 ^ 16
IsInRange (LongNumber n) = n < 10 ^ 9
IsInRange (Bytes bytes) = IsBytes bytes
IsInRange (Flag is_set) = Unit {0}

-- a name, and what stands behind it
pub record Spelling : Type 0 where
  pub name : List ℕ
  pub operands : List Operand

abbrev pub spelled : List ℕ → List Operand → Spelling
spelled name operands = record { name = name; operands = operands }

-- each operand behind a space
abbrev pub spelling_text : Spelling → List ℕ
spelling_text s = s.name ++ flat_map (λ o. 32 ∷ operand_text o) s.operands

abbrev pub edit_spelling : Edit → Spelling
edit_spelling (edits.NewRaw uid n) = spelled (codes "newraw") (ShortNumber uid ∷ Number n ∷ [])
edit_spelling (edits.NewHeap uid) = spelled (codes "newheap") (ShortNumber uid ∷ [])
edit_spelling (edits.FreeBlock b) = spelled (codes "vfree") (Handle b.0 ∷ [])
edit_spelling (edits.CopyBlock b) = spelled (codes "vcopy") (Handle b.0 ∷ [])
edit_spelling (edits.WriteRaw b at bytes) = spelled (codes "vwrite") (Handle b.0 ∷ Number at ∷ Bytes bytes ∷ [])
edit_spelling (edits.SpliceRaw b at n bytes) = spelled (codes "vsplice") (Handle b.0 ∷ Number at ∷ Number n ∷ Bytes bytes ∷ [])
edit_spelling (edits.Attach b bytes) = spelled (codes "attach") (Handle b.0 ∷ Bytes bytes ∷ [])
edit_spelling (edits.SetUserId b uid) = spelled (codes "uid") (Handle b.0 ∷ ShortNumber uid ∷ [])
edit_spelling (edits.SetType b heap_type) = spelled (codes "settype") (Handle b.0 ∷ ShortNumber heap_type ∷ [])
edit_spelling (edits.SetMap b) = spelled (codes "map") (Handle b.0 ∷ [])
edit_spelling (edits.Alloc b n) = spelled (codes "alloc") (Handle b.0 ∷ Number n ∷ [])
edit_spelling (edits.Free b c) = spelled (codes "free") (Handle b.0 ∷ Handle c.0 ∷ [])
edit_spelling (edits.Resize b c n) = spelled (codes "resize") (Handle b.0 ∷ Handle c.0 ∷ Number n ∷ [])
edit_spelling (edits.Insert b c at n) = spelled (codes "insert") (Handle b.0 ∷ Handle c.0 ∷ Number at ∷ Number n ∷ [])
edit_spelling (edits.Delete b c at n) = spelled (codes "delete") (Handle b.0 ∷ Handle c.0 ∷ Number at ∷ Number n ∷ [])
edit_spelling (edits.Write b c at bytes) = spelled (codes "write") (Handle b.0 ∷ Handle c.0 ∷ Number at ∷ Bytes bytes ∷ [])
edit_spelling (edits.Splice b c at n bytes) = spelled (codes "splice") (Handle b.0 ∷ Handle c.0 ∷ Number at ∷ Number n ∷ Bytes bytes ∷ [])
edit_spelling (edits.CreateArray b e x) = spelled (codes "acreate") (Handle b.0 ∷ Number e ∷ Number x ∷ [])
edit_spelling (edits.InsertElement b c i bytes) = spelled (codes "ainsert") (Handle b.0 ∷ Handle c.0 ∷ Number i ∷ Bytes bytes ∷ [])
edit_spelling (edits.SetElement b c i bytes) = spelled (codes "aset") (Handle b.0 ∷ Handle c.0 ∷ Number i ∷ Bytes bytes ∷ [])
edit_spelling (edits.ResizeElement b c i n) = spelled (codes "aresize") (Handle b.0 ∷ Handle c.0 ∷ Number i ∷ Number n ∷ [])
edit_spelling (edits.DeleteElements b c i k) = spelled (codes "adelete") (Handle b.0 ∷ Handle c.0 ∷ Number i ∷ Number k ∷ [])
edit_spelling (edits.ZeroArray b c) = spelled (codes "azero") (Handle b.0 ∷ Handle c.0 ∷ [])
edit_spelling (edits.CreateElementArray b e) = spelled (codes "ecreate") (Handle b.0 ∷ Number e ∷ [])
edit_spelling (edits.AddElement b c bytes) = spelled (codes "eadd") (Handle b.0 ∷ Handle c.0 ∷ Bytes bytes ∷ [])
edit_spelling (edits.AddReference b c t) = spelled (codes "eref") (Handle b.0 ∷ Handle c.0 ∷ Handle t.0 ∷ [])
edit_spelling (edits.RemoveReference b c t) = spelled (codes "eunref") (Handle b.0 ∷ Handle c.0 ∷ Handle t.0 ∷ [])
edit_spelling (edits.DeleteElement b c t) = spelled (codes "edelete") (Handle b.0 ∷ Handle c.0 ∷ Handle t.0 ∷ [])
edit_spelling (edits.ChangeElement b c t bytes) = spelled (codes "echange") (Handle b.0 ∷ Handle c.0 ∷ Handle t.0 ∷ Bytes bytes ∷ [])
edit_spelling (edits.CreateNameArray b d) = spelled (codes "ncreate") (Handle b.0 ∷ Number d ∷ [])
edit_spelling (edits.AddName b c name part replace) = spelled (codes "nadd") (Handle b.0 ∷ Handle c.0 ∷ Bytes name ∷ Bytes part ∷ Flag replace ∷ [])
edit_spelling (edits.ChangeName b c t name) = spelled (codes "nname") (Handle b.0 ∷ Handle c.0 ∷ Handle t.0 ∷ Bytes name ∷ [])
edit_spelling (edits.SetNamePart b c t part) = spelled (codes "nset") (Handle b.0 ∷ Handle c.0 ∷ Handle t.0 ∷ Bytes part ∷ [])
edit_spelling (edits.RemoveName b c t) = spelled (codes "nunref") (Handle b.0 ∷ Handle c.0 ∷ Handle t.0 ∷ [])
edit_spelling (edits.CopyChain b) = spelled (codes "chcopy") (Handle b.0 ∷ [])
edit_spelling (edits.FreeChain b) = spelled (codes "chfree") (Handle b.0 ∷ [])
edit_spelling (edits.CreateLarge uid e) = spelled (codes "hcreate") (ShortNumber uid ∷ Number e ∷ [])
edit_spelling (edits.InsertLarge b i bytes) = spelled (codes "hinsert") (Handle b.0 ∷ LongNumber i.0 ∷ Bytes bytes ∷ [])
edit_spelling (edits.SetLarge b i bytes) = spelled (codes "hset") (Handle b.0 ∷ LongNumber i.0 ∷ Bytes bytes ∷ [])
edit_spelling (edits.DeleteLarge b i n) = spelled (codes "hdelete") (Handle b.0 ∷ LongNumber i.0 ∷ LongNumber n.0 ∷ [])

-- a blank line is spelled by no byte
abbrev pub command_spelling : Command → Spelling
command_spelling commands.Blank = spelled [] []
command_spelling (commands.Edit e) = edit_spelling e
command_spelling commands.Undo = spelled (codes "undo") []
command_spelling commands.Redo = spelled (codes "redo") []
command_spelling commands.Begin = spelled (codes "begin") []
command_spelling commands.End = spelled (codes "end") []
command_spelling commands.Abandon = spelled (codes "abandon") []
command_spelling commands.Join = spelled (codes "join") []
command_spelling (commands.Forget most) = spelled (codes "forget") (Number most ∷ [])
command_spelling (commands.Name name) = spelled (codes "name") (Bytes name ∷ [])
command_spelling commands.Update = spelled (codes "update") []
command_spelling commands.Save = spelled (codes "save") []
command_spelling commands.Revert = spelled (codes "revert") []
command_spelling commands.SaveAs = spelled (codes "saveas") []
command_spelling (commands.Info b) = spelled (codes "info") (Handle b.0 ∷ [])
command_spelling (commands.HeapType b) = spelled (codes "gettype") (Handle b.0 ∷ [])
command_spelling commands.List = spelled (codes "list") []
command_spelling (commands.Find uid b) = spelled (codes "find") (ShortNumber uid ∷ Handle b.0 ∷ [])
command_spelling commands.MapBlock = spelled (codes "mapblock") []
command_spelling (commands.ReadRaw b) = spelled (codes "vread") (Handle b.0 ∷ [])
command_spelling (commands.Chunks b) = spelled (codes "chunks") (Handle b.0 ∷ [])
command_spelling (commands.Read b c) = spelled (codes "read") (Handle b.0 ∷ Handle c.0 ∷ [])
command_spelling (commands.ArrayCount b c) = spelled (codes "acount") (Handle b.0 ∷ Handle c.0 ∷ [])
command_spelling (commands.ArrayElement b c i) = spelled (codes "aget") (Handle b.0 ∷ Handle c.0 ∷ Number i ∷ [])
command_spelling (commands.ElementReferences b c t) = spelled (codes "ecount") (Handle b.0 ∷ Handle c.0 ∷ Handle t.0 ∷ [])
command_spelling (commands.ElementBytes b c t) = spelled (codes "edata") (Handle b.0 ∷ Handle c.0 ∷ Handle t.0 ∷ [])
command_spelling (commands.ElementsUsed b c) = spelled (codes "eused") (Handle b.0 ∷ Handle c.0 ∷ [])
command_spelling (commands.TokenOfUsed b c k) = spelled (codes "etoken") (Handle b.0 ∷ Handle c.0 ∷ Number k ∷ [])
command_spelling (commands.UsedOfToken b c t) = spelled (codes "eindex") (Handle b.0 ∷ Handle c.0 ∷ Handle t.0 ∷ [])
command_spelling (commands.NameFind b c name) = spelled (codes "nfind") (Handle b.0 ∷ Handle c.0 ∷ Bytes name ∷ [])
command_spelling (commands.NameReferences b c t) = spelled (codes "ncount") (Handle b.0 ∷ Handle c.0 ∷ Handle t.0 ∷ [])
command_spelling (commands.NameText b c t) = spelled (codes "ntext") (Handle b.0 ∷ Handle c.0 ∷ Handle t.0 ∷ [])
command_spelling (commands.NamePart b c t) = spelled (codes "ndata") (Handle b.0 ∷ Handle c.0 ∷ Handle t.0 ∷ [])
command_spelling (commands.Walk b) = spelled (codes "walk") (Handle b.0 ∷ [])
command_spelling (commands.ChainSize b) = spelled (codes "chsize") (Handle b.0 ∷ [])
command_spelling (commands.ChainEqual b other) = spelled (codes "chequal") (Handle b.0 ∷ Handle other.0 ∷ [])
command_spelling (commands.LargeCount b) = spelled (codes "hcount") (Handle b.0 ∷ [])
command_spelling (commands.LargeElement b i) = spelled (codes "hget") (Handle b.0 ∷ LongNumber i.0 ∷ [])
command_spelling (commands.LargeRun b i n) = spelled (codes "hread") (Handle b.0 ∷ LongNumber i.0 ∷ LongNumber n.0 ∷ [])
command_spelling (commands.Lock b) = spelled (codes "lock") (Handle b.0 ∷ [])
command_spelling (commands.Unlock b) = spelled (codes "unlock") (Handle b.0 ∷ [])
command_spelling (commands.Dirty b) = spelled (codes "dirty") (Handle b.0 ∷ [])
command_spelling (commands.Locks b) = spelled (codes "locks") (Handle b.0 ∷ [])
command_spelling commands.Undos = spelled (codes "undos") []
command_spelling commands.Redos = spelled (codes "redos") []
command_spelling commands.Modified = spelled (codes "modified") []
command_spelling commands.UndoName = spelled (codes "undoname") []
command_spelling commands.RedoName = spelled (codes "redoname") []
command_spelling commands.Touched = spelled (codes "touched") []
command_spelling commands.UndoPlaces = spelled (codes "undoplaces") []
command_spelling commands.RedoPlaces = spelled (codes "redoplaces") []
command_spelling commands.AbandonPlaces = spelled (codes "abandonplaces") []

unfoldable pub edit_text : Edit → List ℕ
edit_text e = spelling_text (edit_spelling e)

unfoldable pub command_text : Command → List ℕ
command_text c = spelling_text (command_spelling c)

-- Some line spells the command: each operand is in its range, and all of them aren't too long together.
pub record IsSpellable (c : Command) : Type 0 where
  pub in_range : AllByRecursion IsInRange (command_spelling c).operands
  pub fits : length (command_text c) ≤ longest_line

-- a word as it is handed over
abbrev pub operand_of : Word → Operand
operand_of (words.Handle h) = Handle h
operand_of (words.Number n) = Number n
operand_of (words.Bytes bytes) = Bytes bytes.now
operand_of (words.Flag is_set) = Flag is_set

abbrev pub word_text : Word → List ℕ
word_text w = operand_text (operand_of w)
