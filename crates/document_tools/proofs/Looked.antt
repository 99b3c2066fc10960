-- What a look at a file comes to, by what its parts do.
use Rattle.std.proofs.Common.{◌≡◌, ◌≢◌, ◌⊎◌, ℕ, List, [], ◌++◌, Bool, true, false, Option, None, Some, Result, Ok, Err, IfErr, IsErrOf, OnOk, IsTrue, refl, sym, ◌∙◌, subst, ap, inl, inr}
use Rattle.std.proofs.Math.Logic.{∥∥₁_map}
use Rattle.std.proofs.KnownBytes.{Appends-kept}
use Rattle.std.proofs.lemmas.List.{append-nil}
use Rattle.std.specs.Io.KnownBytes.{Appends, Keeps, append_known}
use Rattle.geos_model.specs.Document.{Document}
use Rattle.geos_model.specs.declared.fault.Fault.{Fault}
use Rattle.geos_model.specs.declared.fault.Fault.TheVariants as faults
use Rattle.vm_store.specs.Facts.{StoreFacts, FailedSince}
use Rattle.document_file.specs.Calls.{IsResourceFault}
use Rattle.geos_shell.specs.Streams.{StopsWriting, WriteCalls}
use Rattle.document_file.specs.Opened.{OnlyReadsStore}
use Rattle.document_file.specs.StoredDocuments.{StoredState}
use Rattle.file_format.proofs.LooksLemmas.{raised_later, still}
use Rattle.document_dump.specs.Dumps.{dump_text}
use Rattle.document_dump.specs.Faults.{IsDumpRefusal}
use Rattle.document_dump.specs.declared.dumping.Which.{Which}
use Rattle.document_dump.specs.declared.fault.DumpFault.{DumpFault}
use Rattle.document_dump.specs.declared.fault.DumpFault.TheVariants as dump_faults
use Rattle.document_stat.specs.Files.{IsFileStat}
use Rattle.document_stat.specs.declared.file_stat.FileStat.{FileStat}
use Rattle.file_map.specs.Drawn.{IsDrawn}
use Rattle.file_map.specs.Faults.{IsMapRefusal}
use Rattle.file_map.specs.declared.fault.MapFault.{MapFault}
use Rattle.file_map.specs.declared.fault.MapFault.TheVariants as map_faults
use Rattle.file_map.specs.declared.part.Part.{Part}
use Rattle.document_tools.specs.DumpedFiles.{DumpsOpen, DumpsStood, EndsDump}
use Rattle.document_tools.specs.Endings.{IsEndOfPieces, IsRefusedFor}
use Rattle.document_tools.specs.Looks.{EndsUnopened}
use Rattle.document_tools.specs.Maps.{EndsMap, MapsStore, picture_of}
use Rattle.document_tools.specs.Obstacles.{refusal_line}
use Rattle.document_tools.specs.Stats.{StatsStore, PrintsStat}
use Rattle.document_tools.specs.declared.ending.Ending.{Ending}
use Rattle.document_tools.specs.declared.ending.Ending.TheVariants as endings
use Rattle.document_commands.specs.declared.requested.MapFormat.{MapFormat}
use Rattle.document_tools.specs.declared.obstacle.Obstacle.{Obstacle}
use Rattle.document_tools.specs.declared.obstacle.Obstacle.TheVariants.{Changed, Unopened, Unread}
use Rattle.document_commands.specs.declared.requested.Form.{Form}

-- a refusal is told by its line, or there is no memory for it
pub refused_or_memory : (P : Ending → Type 0) (file : List ℕ) (obstacle : Obstacle)
    → ((line : List ℕ) → line ≡ refusal_line file obstacle → P (endings.Refused line)) → P endings.Memory → (ending : Ending) → IsRefusedFor file obstacle ending → P ending
refused_or_memory P file obstacle by_line memory endings.Done is = absurd is
refused_or_memory P file obstacle by_line memory endings.Unsound is = absurd is
refused_or_memory P file obstacle by_line memory (endings.Refused line) is = by_line line is
refused_or_memory P file obstacle by_line memory endings.Memory is = memory
refused_or_memory P file obstacle by_line memory endings.ReadFault is = absurd is
refused_or_memory P file obstacle by_line memory endings.WriteFault is = absurd is
refused_or_memory P file obstacle by_line memory endings.Different is = absurd is
refused_or_memory P file obstacle by_line memory (endings.Uncompared trouble) is = absurd is

pub opens_so : (stood : List ℕ → Result (Document × Document) Fault) (old : StoreFacts) (fault : Fault) → (fault ≡ faults.Memory → ⊥) → (fault ≡ faults.File → ⊥)
    → IsResourceFault fault ⊎ (stood old.content ≡ Err fault) → stood old.content ≡ Err fault
opens_so stood old fault no_memory no_file (inl (inl e)) = absurd (no_memory e)
opens_so stood old fault no_memory no_file (inl (inr e)) = absurd (no_file e)
opens_so stood old fault no_memory no_file (inr e) = e

-- of what isn't opened it is told why, by what the bytes stand for, or there is no memory
pub unlooked_at : (stood : List ℕ → Result (Document × Document) Fault) (P : Ending → Type 0) (file : List ℕ) (old new : StoreFacts) (fault : Fault) (obstacle : Obstacle) (ending : Ending)
    → ((line : List ℕ) → line ≡ refusal_line file Unread → FailedSince old new → P (endings.Refused line))
    → ((line : List ℕ) → line ≡ refusal_line file obstacle → (IsTrue old.honest → stood old.content ≡ Err fault) → P (endings.Refused line)) → P endings.Memory
    → (fault ≡ faults.File → FailedSince old new) → (IsTrue old.honest → IsResourceFault fault ⊎ (stood old.content ≡ Err fault))
    → EndsUnopened file fault obstacle ending → P ending
unlooked_at stood P file old new fault obstacle ending unread unopened memory failed so (inl ends) = rw ends.1 memory
unlooked_at stood P file old new fault obstacle ending unread unopened memory failed so (inr (inl ends)) =
    refused_or_memory P file Unread (λ line is. unread line is (failed ends.0)) memory ending ends.1
unlooked_at stood P file old new fault obstacle ending unread unopened memory failed so (inr (inr ends)) =
    refused_or_memory P file obstacle (λ line is. unopened line is (λ honest. opens_so stood old fault ends.0 ends.1 (so honest))) memory ending ends.2

-- what was counted is told, or there is no memory for it, or the write of it failed
pub stated : {W : Type 0} (writes : WriteCalls W) (file : List ℕ) (form : Form) (old new : StoreFacts) (s : FileStat) (from to : W) (ending : Ending)
    → (IsTrue old.honest → IsFileStat old.content s) → PrintsStat writes form s from to ending → StatsStore writes file form old new from to ending
stated writes file form old new s from to endings.Done so told = (s, so, told)
stated writes file form old new s from to endings.Unsound so told = absurd told
stated writes file form old new s from to (endings.Refused line) so told = absurd told
stated writes file form old new s from to endings.Memory so told = told
stated writes file form old new s from to endings.ReadFault so told = absurd told
stated writes file form old new s from to endings.WriteFault so told = (s, so, told)
stated writes file form old new s from to endings.Different so told = absurd told
stated writes file form old new s from to (endings.Uncompared trouble) so told = absurd told

-- the pieces of a picture that is drawn reach the writer below
pub drawn_through : (picture : List ℕ → List Part → List Part → ℕ → List ℕ) (file : List ℕ) (from first mid to : Option (List ℕ)) → first ≡ from → Keeps mid to → IsDrawn picture file first mid
    → IsDrawn picture file from to
drawn_through picture file from first mid to begun keeps d =
    subst (λ (known : Option (List ℕ)). IsDrawn picture file known to) begun (record {
      usages = d.usages;
      list = d.list;
      drawn = record { by_handle = d.drawn.by_handle; are = d.drawn.are; appends = Appends-kept first mid to _ d.drawn.appends keeps };
    })

pub on_ok : {E : Type 0} (P Q : Type 0) (result : Result (Unit {0}) E) → (P → Q) → OnOk result P → OnOk result Q
on_ok P Q (Ok v) makes so = makes so
on_ok P Q (Err fault) makes so = tt

-- that it couldn't be written is told only where the last write failed
pub caused_by_write : {T F : Type 0} (A : Type 0) (memory write : F) (done result : Result T F) (failed : Bool) → memory ≢ write → ∥ (failed ≡ true → A) ∥₁ → IsEndOfPieces memory write done failed result
    → IsErrOf result write → ∥ A ∥₁
caused_by_write A memory write done (Ok value) failed other cause ends is = absurd (cc (is))
caused_by_write A memory write done (Err fault) failed other cause (inl e) is = let told : fault ≡ write = cc (is) in absurd (other (sym e ∙ told))
caused_by_write A memory write done (Err fault) failed other cause (inr (inl e)) is = ∥∥₁_map cause (λ so. so e.1)
caused_by_write A memory write done (Err fault) failed other cause (inr (inr e)) is = let told : fault ≡ write = cc (is) in absurd (e.0 told)

-- all is drawn only where the drawing went well, and so did the last write
pub all_drawn : (P : Type 0) (drawn result : Result (Unit {0}) MapFault) (failed : Bool) → IsEndOfPieces map_faults.Memory map_faults.Write drawn failed result → OnOk drawn (failed ≡ false → P) → OnOk result P
all_drawn P (Ok w) (Ok v) failed ends so = so ends.1
all_drawn P (Err fault) (Ok v) failed ends so = absurd (cc (ends.0))
all_drawn P drawn (Err fault) failed ends so = tt

-- a drawing that is told, or why there is none
pub mapped_store : {W : Type 0} (contents : W → Option (List ℕ)) (writes : WriteCalls W) (file : List ℕ) (picture : MapFormat) (old new : StoreFacts) (from to : W) (drawn : Result (Unit {0}) MapFault)
    (ending : Ending)
    → OnOk drawn (IsTrue old.honest → IsDrawn (picture_of picture) old.content (contents from) (contents to)) → (drawn ≡ Err map_faults.File → FailedSince old new) → IfErr drawn (IsMapRefusal old)
    → (IsErrOf drawn map_faults.Write → ∥ StopsWriting writes to ∥₁) → EndsMap file drawn ending → MapsStore contents writes file picture old new from to ending
mapped_store contents writes file picture old new from to (Ok v) ending text failed refusal cause ends = rw ends text
mapped_store contents writes file picture old new from to (Err map_faults.Memory) ending text failed refusal cause ends = rw ends tt
mapped_store contents writes file picture old new from to (Err map_faults.File) ending text failed refusal cause ends =
    refused_or_memory (MapsStore contents writes file picture old new from to) file Unread (λ line is. inl (is, failed refl)) tt ending ends
mapped_store contents writes file picture old new from to (Err (map_faults.Unopened fault)) ending text failed refusal cause ends =
    refused_or_memory (MapsStore contents writes file picture old new from to) file (Unopened fault) (λ line is. inr (fault, is, refusal)) tt ending ends
mapped_store contents writes file picture old new from to (Err map_faults.Write) ending text failed refusal cause ends = rw ends (cause refl)

-- a writer with nothing gathered for it
pub known_empty : (known : Option (List ℕ)) (gathered : List ℕ) → gathered ≡ [] → append_known known gathered ≡ known
known_empty None gathered none = refl
known_empty (Some xs) gathered none = ap Some (ap (λ (l : List ℕ). xs ++ l) none ∙ append-nil xs)

-- documents that are open, and their dump, or why there is none
pub dumped_open : {S W : Type 0} (facts : S → StoreFacts) (contents : W → Option (List ℕ)) (writes : WriteCalls W) (name : List ℕ) (which : Which) (from to : StoredState S) (old new : W)
    (dumped : Result (Unit {0}) DumpFault) (ending : Ending)
    → OnOk dumped (IsTrue (facts from.store).honest → Appends (contents old) (contents new) (dump_text which from.updated from.saved))
    → IfErr dumped (IsDumpRefusal (facts from.store) (facts to.store)) → (IsErrOf dumped dump_faults.Write → ∥ StopsWriting writes new ∥₁) → EndsDump name dumped ending
    → DumpsOpen facts contents writes name which from to old new ending
dumped_open facts contents writes name which from to old new (Ok v) ending text refusal cause ends = rw ends text
dumped_open facts contents writes name which from to old new (Err dump_faults.Memory) ending text refusal cause ends = rw ends tt
dumped_open facts contents writes name which from to old new (Err dump_faults.File) ending text refusal cause ends =
    refused_or_memory (DumpsOpen facts contents writes name which from to old new) name Unread (λ line is. inl (is, refusal)) tt ending ends
dumped_open facts contents writes name which from to old new (Err dump_faults.Damaged) ending text refusal cause ends =
    refused_or_memory (DumpsOpen facts contents writes name which from to old new) name Changed (λ line is. inr (is, refusal)) tt ending ends
dumped_open facts contents writes name which from to old new (Err dump_faults.Write) ending text refusal cause ends = rw ends (cause refl)

-- a store that was opened, and then dumped
pub dumped_stood : {S W : Type 0} (facts : S → StoreFacts) (contents : W → Option (List ℕ)) (writes : WriteCalls W) (name : List ℕ) (which : Which) (stood : List ℕ → Result (Document × Document) Fault) (told : Fault → Obstacle)
    (store : S) (from to : StoredState S) (old new : W) (ending : Ending)
    → OnlyReadsStore (facts store) (facts from.store) → (IsTrue (facts store).honest → stood (facts store).content ≡ Ok (from.updated, from.saved))
    → DumpsOpen facts contents writes name which from to old new ending
    → DumpsStood contents writes name which stood told (facts store) (facts to.store) old new ending
dumped_stood facts contents writes name which stood told store from to old new endings.Done opened so dumps = λ honest. (
  from.updated,
  from.saved,
  so honest,
  dumps (still (facts store) (facts from.store) opened honest),
)
dumped_stood facts contents writes name which stood told store from to old new endings.Unsound opened so dumps = absurd dumps
dumped_stood facts contents writes name which stood told store from to old new (endings.Refused line) opened so (inl dumps) =
    inl (dumps.0, raised_later (facts store) (facts from.store) (facts to.store) opened dumps.1)
dumped_stood facts contents writes name which stood told store from to old new (endings.Refused line) opened so (inr dumps) =
    inr (inr (dumps.0, λ honest. dumps.1 (still (facts store) (facts from.store) opened honest)))
dumped_stood facts contents writes name which stood told store from to old new endings.Memory opened so dumps = tt
dumped_stood facts contents writes name which stood told store from to old new endings.ReadFault opened so dumps = absurd dumps
dumped_stood facts contents writes name which stood told store from to old new endings.WriteFault opened so dumps = dumps
dumped_stood facts contents writes name which stood told store from to old new endings.Different opened so dumps = absurd dumps
dumped_stood facts contents writes name which stood told store from to old new (endings.Uncompared trouble) opened so dumps = absurd dumps
