-- In which form a look-up is answered, so that its reply can be taken apart.
use Rattle.std.specs.Prelude.{Bool, true, false}
use Rattle.geos_model.specs.Reply.{Reply, AreEqual, BlockIs, BlocksAre, BytesAre, ChunksAre, HeapIs, NumberIs, PlacesAre, RawIs, Refused, TokenIs}
use Rattle.geos_model.specs.declared.command.Command.{Command}
use Rattle.geos_model.specs.declared.command.Command.TheVariants as commands

pub data Form : Type 0 where
  Number : Form
  Name : Form  -- of a block, or of an element
  Names : Form  -- of blocks, or of chunks
  Bytes : Form
  Info : Form
  Equal : Form
  Places : Form
  Nothing : Form

-- that which a look-up asks for; none of a command that is no look-up
abbrev pub form_asked : Command → Form
form_asked (commands.HeapType b) = Number
form_asked commands.List = Names
form_asked (commands.Find uid start) = Name
form_asked commands.MapBlock = Name
form_asked (commands.Locks b) = Number
form_asked commands.Undos = Number
form_asked commands.Redos = Number
form_asked commands.Modified = Number
form_asked commands.UndoName = Bytes
form_asked commands.RedoName = Bytes
form_asked commands.Touched = Places
form_asked commands.UndoPlaces = Places
form_asked commands.RedoPlaces = Places
form_asked commands.AbandonPlaces = Places
form_asked (commands.Info b) = Info
form_asked (commands.ReadRaw b) = Bytes
form_asked (commands.Chunks b) = Names
form_asked (commands.Read b c) = Bytes
form_asked (commands.ArrayCount b c) = Number
form_asked (commands.ArrayElement b c i) = Bytes
form_asked (commands.ElementReferences b c t) = Number
form_asked (commands.ElementBytes b c t) = Bytes
form_asked (commands.ElementsUsed b c) = Number
form_asked (commands.TokenOfUsed b c k) = Name
form_asked (commands.UsedOfToken b c t) = Number
form_asked (commands.NameFind b c text) = Name
form_asked (commands.NameReferences b c t) = Number
form_asked (commands.NameText b c t) = Bytes
form_asked (commands.NamePart b c t) = Bytes
form_asked (commands.Walk b) = Names
form_asked (commands.ChainSize b) = Number
form_asked (commands.ChainEqual b other) = Equal
form_asked (commands.LargeCount b) = Number
form_asked (commands.LargeElement b i) = Bytes
form_asked (commands.LargeRun b i n) = Bytes
form_asked command = Nothing

-- a reply of this form, or a refusal
abbrev pub has_form : Reply → Form → Bool
has_form (Refused fault) form = true
has_form (NumberIs n) Number = true
has_form (BlockIs b) Name = true
has_form (TokenIs t) Name = true
has_form (BlocksAre handles) Names = true
has_form (ChunksAre handles) Names = true
has_form (BytesAre bytes) Bytes = true
has_form (RawIs uid size) Info = true
has_form (HeapIs uid size) Info = true
has_form (AreEqual equal) Equal = true
has_form (PlacesAre places) Places = true
has_form reply form = false
