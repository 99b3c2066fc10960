-- The commands that only ask, and the command that is seen as a look-up. It is all that is said of the view: what is
-- said of a look-up, each layer says of the command, and its match is over the view.
use Rattle.std.specs.Prelude.{Bool, true, false}
use Rattle.geos_model.specs.declared.command.Command.{Command}
use Rattle.geos_model.specs.declared.command.Command.TheVariants as commands
use Rattle.geos_model.specs.declared.handle.ChunkHandle.{ChunkHandle}
use Rattle.geos_model.specs.declared.handle.VmHandle.{VmHandle}
use Rattle.geos_model.specs.declared.look_up.ArrayLookUp.{ArrayLookUp}
use Rattle.geos_model.specs.declared.look_up.ArrayLookUp.TheVariants as array_look_ups
use Rattle.geos_model.specs.declared.look_up.BlockLookUp.{BlockLookUp}
use Rattle.geos_model.specs.declared.look_up.BlockLookUp.TheVariants as block_look_ups
use Rattle.geos_model.specs.declared.look_up.ChainLookUp.{ChainLookUp}
use Rattle.geos_model.specs.declared.look_up.ChainLookUp.TheVariants as chain_look_ups
use Rattle.geos_model.specs.declared.look_up.ChunkArrayLookUp.{ChunkArrayLookUp}
use Rattle.geos_model.specs.declared.look_up.ChunkArrayLookUp.TheVariants as chunk_array_look_ups
use Rattle.geos_model.specs.declared.look_up.ChunkLookUp.{ChunkLookUp}
use Rattle.geos_model.specs.declared.look_up.ChunkLookUp.TheVariants as chunk_look_ups
use Rattle.geos_model.specs.declared.look_up.ElementArrayLookUp.{ElementArrayLookUp}
use Rattle.geos_model.specs.declared.look_up.ElementArrayLookUp.TheVariants as element_array_look_ups
use Rattle.geos_model.specs.declared.look_up.LookUp.{LookUp}
use Rattle.geos_model.specs.declared.look_up.LookUp.TheVariants as look_ups
use Rattle.geos_model.specs.declared.look_up.NameArrayLookUp.{NameArrayLookUp}
use Rattle.geos_model.specs.declared.look_up.NameArrayLookUp.TheVariants as name_array_look_ups
use Rattle.geos_model.specs.declared.look_up.PlacesLookUp.{PlacesLookUp}
use Rattle.geos_model.specs.declared.look_up.PlacesLookUp.TheVariants as places_look_ups
use Rattle.geos_model.specs.declared.look_up.PlainLookUp.{PlainLookUp}
use Rattle.geos_model.specs.declared.look_up.PlainLookUp.TheVariants as plain_look_ups
use Rattle.geos_model.specs.declared.look_up.StepNameLookUp.{StepNameLookUp}
use Rattle.geos_model.specs.declared.look_up.StepNameLookUp.TheVariants as step_name_look_ups

-- a command that asks of a chunk
abbrev pub asks_chunk : Command → Bool
asks_chunk (commands.Read b c) = true
asks_chunk (commands.ArrayCount b c) = true
asks_chunk (commands.ArrayElement b c i) = true
asks_chunk (commands.ElementReferences b c t) = true
asks_chunk (commands.ElementBytes b c t) = true
asks_chunk (commands.ElementsUsed b c) = true
asks_chunk (commands.TokenOfUsed b c k) = true
asks_chunk (commands.UsedOfToken b c t) = true
asks_chunk (commands.NameFind b c t) = true
asks_chunk (commands.NameReferences b c t) = true
asks_chunk (commands.NameText b c t) = true
asks_chunk (commands.NamePart b c t) = true
asks_chunk _ = false

-- a command that only asks
abbrev pub is_look_up : Command → Bool
is_look_up (commands.Info b) = true
is_look_up (commands.HeapType b) = true
is_look_up commands.List = true
is_look_up (commands.Find uid start) = true
is_look_up commands.MapBlock = true
is_look_up (commands.ReadRaw b) = true
is_look_up (commands.Chunks b) = true
is_look_up (commands.Locks b) = true
is_look_up (commands.Walk b) = true
is_look_up (commands.ChainSize b) = true
is_look_up (commands.ChainEqual b other) = true
is_look_up (commands.LargeCount b) = true
is_look_up (commands.LargeElement b i) = true
is_look_up (commands.LargeRun b i n) = true
is_look_up commands.Undos = true
is_look_up commands.Redos = true
is_look_up commands.Modified = true
is_look_up commands.UndoName = true
is_look_up commands.RedoName = true
is_look_up commands.Touched = true
is_look_up commands.UndoPlaces = true
is_look_up commands.RedoPlaces = true
is_look_up commands.AbandonPlaces = true
is_look_up command = asks_chunk command

abbrev pub plain_look_up : PlainLookUp → Command
plain_look_up (plain_look_ups.HeapType b) = commands.HeapType b
plain_look_up (plain_look_ups.Find uid start) = commands.Find uid start
plain_look_up plain_look_ups.MapBlock = commands.MapBlock
plain_look_up (plain_look_ups.Locks b) = commands.Locks b
plain_look_up plain_look_ups.Undos = commands.Undos
plain_look_up plain_look_ups.Redos = commands.Redos
plain_look_up plain_look_ups.Modified = commands.Modified

abbrev pub step_name_look_up : StepNameLookUp → Command
step_name_look_up step_name_look_ups.Undo = commands.UndoName
step_name_look_up step_name_look_ups.Redo = commands.RedoName

abbrev pub places_look_up : PlacesLookUp → Command
places_look_up places_look_ups.Touched = commands.Touched
places_look_up places_look_ups.Undo = commands.UndoPlaces
places_look_up places_look_ups.Redo = commands.RedoPlaces
places_look_up places_look_ups.Abandon = commands.AbandonPlaces

abbrev pub chunk_array_look_up : VmHandle → ChunkHandle → ChunkArrayLookUp → Command
chunk_array_look_up b c chunk_array_look_ups.Count = commands.ArrayCount b c
chunk_array_look_up b c (chunk_array_look_ups.Element i) = commands.ArrayElement b c i

abbrev pub element_array_look_up : VmHandle → ChunkHandle → ElementArrayLookUp → Command
element_array_look_up b c (element_array_look_ups.References t) = commands.ElementReferences b c t
element_array_look_up b c (element_array_look_ups.Bytes t) = commands.ElementBytes b c t
element_array_look_up b c element_array_look_ups.Used = commands.ElementsUsed b c
element_array_look_up b c (element_array_look_ups.TokenOfUsed k) = commands.TokenOfUsed b c k
element_array_look_up b c (element_array_look_ups.UsedOfToken t) = commands.UsedOfToken b c t

abbrev pub name_array_look_up : VmHandle → ChunkHandle → NameArrayLookUp → Command
name_array_look_up b c (name_array_look_ups.Find name) = commands.NameFind b c name.now
name_array_look_up b c (name_array_look_ups.References t) = commands.NameReferences b c t
name_array_look_up b c (name_array_look_ups.Text t) = commands.NameText b c t
name_array_look_up b c (name_array_look_ups.Part t) = commands.NamePart b c t

abbrev pub array_look_up : VmHandle → ChunkHandle → ArrayLookUp → Command
array_look_up b c (array_look_ups.Chunk asked) = chunk_array_look_up b c asked
array_look_up b c (array_look_ups.Element asked) = element_array_look_up b c asked
array_look_up b c (array_look_ups.Name asked) = name_array_look_up b c asked

abbrev pub chunk_look_up : VmHandle → ChunkHandle → ChunkLookUp → Command
chunk_look_up b c chunk_look_ups.Read = commands.Read b c
chunk_look_up b c (chunk_look_ups.Array asked) = array_look_up b c asked

abbrev pub block_look_up : VmHandle → BlockLookUp → Command
block_look_up b block_look_ups.Info = commands.Info b
block_look_up b block_look_ups.ReadRaw = commands.ReadRaw b
block_look_up b block_look_ups.Chunks = commands.Chunks b
block_look_up b (block_look_ups.InChunk c asked) = chunk_look_up b c asked

abbrev pub chain_look_up : ChainLookUp → Command
chain_look_up (chain_look_ups.Walk b) = commands.Walk b
chain_look_up (chain_look_ups.Size b) = commands.ChainSize b
chain_look_up (chain_look_ups.Equal b other) = commands.ChainEqual b other
chain_look_up (chain_look_ups.LargeCount b) = commands.LargeCount b
chain_look_up (chain_look_ups.LargeElement b i) = commands.LargeElement b i
chain_look_up (chain_look_ups.LargeRun b i n) = commands.LargeRun b i n

abbrev pub command_of : LookUp → Command
command_of look_ups.List = commands.List
command_of (look_ups.Plain asked) = plain_look_up asked
command_of (look_ups.StepName asked) = step_name_look_up asked
command_of (look_ups.Places asked) = places_look_up asked
command_of (look_ups.InBlock b asked) = block_look_up b asked
command_of (look_ups.AlongChain asked) = chain_look_up asked
