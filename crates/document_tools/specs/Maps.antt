-- What is told of a file as a picture.
use Rattle.std.specs.Prelude.{◌≡◌, ℕ, List, IsTrue, Option, Result, Ok, Err, ⊤}
use Rattle.vm_store.specs.Facts.{StoreFacts}
use Rattle.document_file.specs.Opened.{OnlyReadsStore}
use Rattle.geos_shell.specs.Streams.{StopsWriting, WriteCalls}
use Rattle.file_map.specs.Drawn.{IsDrawn, svg_of, map_text}
use Rattle.file_map.specs.declared.fault.MapFault.{MapFault}
use Rattle.file_map.specs.declared.fault.MapFault.TheVariants as map_faults
use Rattle.file_map.specs.declared.part.Part.{Part}
use Rattle.document_tools.specs.Endings.{IsRefusedFor}
use Rattle.document_tools.specs.Looks.{IsUnlookedAt}
use Rattle.document_tools.specs.Views.{LooksAt, Views}
use Rattle.document_tools.specs.declared.ending.Ending.{Ending}
use Rattle.document_tools.specs.declared.ending.Ending.TheVariants as endings
use Rattle.document_commands.specs.declared.requested.MapFormat.{MapFormat}
use Rattle.document_commands.specs.declared.requested.MapFormat.TheVariants.{Text, Svg}
use Rattle.document_tools.specs.declared.obstacle.Obstacle.TheVariants.{Unopened, Unread, Unviewed}

abbrev pub picture_of : MapFormat → List ℕ → List Part → List Part → ℕ → List ℕ
picture_of Text = map_text
picture_of Svg = svg_of

-- what comes of a drawing: it is written, or it isn't, or not whole
abbrev pub EndsMap : List ℕ → Result (Unit {0}) MapFault → Ending → Type 0
EndsMap file (Ok v) ending = ending ≡ endings.Done
EndsMap file (Err map_faults.Memory) ending = ending ≡ endings.Memory
EndsMap file (Err map_faults.File) ending = IsRefusedFor file Unread ending
EndsMap file (Err (map_faults.Unopened fault)) ending = IsRefusedFor file (Unopened fault) ending
EndsMap file (Err map_faults.Write) ending = ending ≡ endings.WriteFault

-- What comes of the drawing of a store: the picture is written, or it isn't, or not whole. A write fault is told only
-- where the last write failed.
abbrev pub MapsStore : {W : Type 0} → (W → Option (List ℕ)) → WriteCalls W → List ℕ → MapFormat → StoreFacts
    → StoreFacts → W
    → W → Ending → Type 0
MapsStore contents writes file picture from to old new endings.Done =
    IsTrue from.honest → IsDrawn (picture_of picture) from.content (contents old) (contents new)
MapsStore contents writes file picture from to old new (endings.Refused line) = IsUnlookedAt file from to line
MapsStore contents writes file picture from to old new endings.Memory = ⊤
MapsStore contents writes file picture from to old new endings.WriteFault = ∥ StopsWriting writes new ∥₁
MapsStore contents writes file picture from to old new ending = ⊥

-- What comes of it for the file of a name: it is opened to be read alone, and drawn, and nothing is written to it.
abbrev pub MapsFile : {V S W : Type 0} → Views V S → (S → StoreFacts) → (W → Option (List ℕ)) → WriteCalls W → List ℕ
    → MapFormat → V → V → W → W → Ending → Type 0
MapsFile {V} {S} views facts contents writes file picture old new from to ending =
    LooksAt views file old new (λ cause. IsRefusedFor file (Unviewed cause) ending × (to ≡ from))
    (λ store. (left : S) × OnlyReadsStore (facts store) (facts left)
    × MapsStore contents writes file picture (facts store) (facts left) from to ending)
