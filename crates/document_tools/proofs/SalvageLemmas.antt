-- What a salvage comes to, by what its parts do.
use Rattle.std.proofs.Common.{◌≡◌, ◌⊎◌, ℕ, List, Bool, true, false, Option, None, Some, Result, Ok, Err, IfErr, IfOk, IsErrOf, IsTrue, refl, sym, ap, subst, ◌∙◌, arith, inl, inr}
use Rattle.std.proofs.KnownBytes.{Appends-kept}
use Rattle.std.specs.Io.KnownBytes.{Appends, Keeps}
use Rattle.geos_model.specs.Document.{Document}
use Rattle.file_format.specs.File.{stands}
use Rattle.geos_model.specs.declared.fault.Fault.{Fault}
use Rattle.geos_model.specs.declared.fault.Fault.TheVariants as faults
use Rattle.vm_store.specs.Facts.{StoreFacts, FailedSince}
use Rattle.document_file.specs.Calls.{IsResourceFault}
use Rattle.document_file.specs.Opened.{OnlyReadsStore}
use Rattle.document_file.specs.StoredDocuments.{StoredState}
use Rattle.file_format.proofs.LooksLemmas.{raised_later, same_bytes_then, still}
use Rattle.geos_shell.specs.Streams.{StopsWriting, WriteCalls}
use Rattle.document_dump.specs.Dumps.{dump_text}
use Rattle.document_dump.specs.Faults.{IsDumpRefusal}
use Rattle.document_dump.specs.declared.dumping.Which.TheVariants.{Both}
use Rattle.document_dump.specs.declared.fault.DumpFault.{DumpFault}
use Rattle.document_dump.specs.declared.fault.DumpFault.TheVariants as dump_faults
use Rattle.file_salvage.specs.Salvaged.{IsSalvage, salvage_text}
use Rattle.document_tools.specs.DumpedFiles.{DumpsOpen}
use Rattle.document_tools.specs.Endings.{IsEndOfPieces}
use Rattle.document_tools.specs.Salvages.{EndsSalvage, HasSalvage, Salvages, SalvagesUnopened, dump_or, file_script}
use Rattle.document_tools.specs.declared.ending.Ending.{Ending}
use Rattle.document_tools.specs.declared.ending.Ending.TheVariants as endings
use Rattle.document_tools.specs.declared.obstacle.Obstacle.TheVariants.{Changed, Unread, Unsalvaged}
use Rattle.document_tools.proofs.Looked.{refused_or_memory}

-- the pieces of a script reach the writer below
pub salvaged_through : (o : Option (List ℕ)) (some : Bool) (from first mid to : Option (List ℕ)) → first ≡ from → Keeps mid to → IsSalvage o some first mid → HasSalvage o some from to
salvaged_through None some from first mid to begun keeps s = s.0
salvaged_through (Some script) some from first mid to begun keeps s = (s.0, subst (λ (known : Option (List ℕ)). Appends known to script) begun (Appends-kept first mid to script s.1 keeps))

-- all is written only where the salvage went well, and so did the last write
pub all_salvaged : (P : Bool → Type 0) (salvaged result : Result Bool DumpFault) (failed : Bool) → IsEndOfPieces dump_faults.Memory dump_faults.Write salvaged failed result → IfOk salvaged (λ some. failed ≡ false → P some) → IfOk result P
all_salvaged P (Ok some) (Ok other) failed ends so = let same : some ≡ other = cc (ends.0) in subst P same (so ends.1)
all_salvaged P (Err fault) (Ok other) failed ends so = absurd (cc (ends.0))
all_salvaged P salvaged (Err fault) failed ends so = tt

some_script : (o : Option (List ℕ)) (from to : Option (List ℕ)) → HasSalvage o true from to → (text : List ℕ) × (o ≡ Some text) × Appends from to text
some_script None from to s = absurd (cc s)
some_script (Some text) from to s = (text, refl, s.1)

no_script : (o : Option (List ℕ)) (from to : Option (List ℕ)) → HasSalvage o false from to → o ≡ None
no_script None from to s = refl
no_script (Some text) from to s = absurd (cc (s.0))

-- what is salvaged, or why nothing is
pub salvaged_told : {W : Type 0} (contents : W → Option (List ℕ)) (writes : WriteCalls W) (name : List ℕ) (all : Bool) (from to : StoreFacts) (old new : W) (salvaged : Result Bool DumpFault) (ending : Ending)
    → IfOk salvaged (λ some. IsTrue from.honest → HasSalvage (salvage_text all from.content) some (contents old) (contents new)) → IfErr salvaged (IsDumpRefusal from to)
    → (IsErrOf salvaged dump_faults.Write → ∥ StopsWriting writes new ∥₁) → EndsSalvage name salvaged ending → Salvages contents writes name (salvage_text all) from to old new ending
salvaged_told contents writes name all from to old new (Ok true) ending text refusal cause ends = rw ends (λ so. some_script (salvage_text all from.content) (contents old) (contents new) (text so))
salvaged_told contents writes name all from to old new (Ok false) ending text refusal cause ends =
    refused_or_memory (Salvages contents writes name (salvage_text all) from to old new) name Unsalvaged (λ line is. inr (inl (is, λ so. no_script (salvage_text all from.content) (contents old) (contents new) (text so)))) tt ending ends
salvaged_told contents writes name all from to old new (Err dump_faults.Memory) ending text refusal cause ends = rw ends tt
salvaged_told contents writes name all from to old new (Err dump_faults.File) ending text refusal cause ends =
    refused_or_memory (Salvages contents writes name (salvage_text all) from to old new) name Unread (λ line is. inl (is, refusal)) tt ending ends
salvaged_told contents writes name all from to old new (Err dump_faults.Damaged) ending text refusal cause ends =
    refused_or_memory (Salvages contents writes name (salvage_text all) from to old new) name Changed (λ line is. inr (inr (is, refusal))) tt ending ends
salvaged_told contents writes name all from to old new (Err dump_faults.Write) ending text refusal cause ends = rw ends (cause refl)

-- the dump of documents that are open is the script of their file
pub opened_script : {S W : Type 0} (facts : S → StoreFacts) (contents : W → Option (List ℕ)) (writes : WriteCalls W) (name : List ℕ) (all : Bool) (store : S) (from to : StoredState S) (old new : W) (ending : Ending)
    → OnlyReadsStore (facts store) (facts from.store) → (IsTrue (facts store).honest → stands (facts store).content ≡ Ok (from.updated, from.saved)) → DumpsOpen facts contents writes name Both from to old new ending
    → Salvages contents writes name (file_script all) (facts store) (facts to.store) old new ending
opened_script facts contents writes name all store from to old new endings.Done opened so dumps = λ honest. (
  dump_text Both from.updated from.saved,
  ap (λ (r : Result (Document × Document) Fault). dump_or r (salvage_text all (facts store).content)) (so honest),
  dumps (still (facts store) (facts from.store) opened honest),
)
opened_script facts contents writes name all store from to old new endings.Unsound opened so dumps = absurd dumps
opened_script facts contents writes name all store from to old new (endings.Refused line) opened so (inl dumps) =
    inl (dumps.0, raised_later (facts store) (facts from.store) (facts to.store) opened dumps.1)
opened_script facts contents writes name all store from to old new (endings.Refused line) opened so (inr dumps) =
    inr (inr (dumps.0, λ honest. dumps.1 (still (facts store) (facts from.store) opened honest)))
opened_script facts contents writes name all store from to old new endings.Memory opened so dumps = tt
opened_script facts contents writes name all store from to old new endings.ReadFault opened so dumps = absurd dumps
opened_script facts contents writes name all store from to old new endings.WriteFault opened so dumps = dumps
opened_script facts contents writes name all store from to old new endings.Different opened so dumps = absurd dumps
opened_script facts contents writes name all store from to old new (endings.Uncompared trouble) opened so dumps = absurd dumps

-- what is salvaged of a file that doesn't open is its script
pub refused_script : {W : Type 0} (contents : W → Option (List ℕ)) (writes : WriteCalls W) (name : List ℕ) (all : Bool) (a b c : StoreFacts) (fault : Fault) (old new : W) (ending : Ending) → OnlyReadsStore a b
    → (IsTrue a.honest → stands a.content ≡ Err fault) → Salvages contents writes name (salvage_text all) b c old new ending → Salvages contents writes name (file_script all) a c old new ending
refused_script contents writes name all a b c fault old new ending reads so salvages = by_ending ending salvages
  where
    is : IsTrue a.honest → file_script all a.content ≡ salvage_text all b.content
    is honest = ap (λ (r : Result (Document × Document) Fault). dump_or r (salvage_text all a.content)) (so honest) ∙ ap (salvage_text all) (sym (same_bytes_then a b reads honest))

    by_ending : (e : Ending) → Salvages contents writes name (salvage_text all) b c old new e → Salvages contents writes name (file_script all) a c old new e
    by_ending endings.Done s = λ honest. (let t = s (still a b reads honest) in (t.0, is honest ∙ t.1, t.2))
    by_ending endings.Unsound s = absurd s
    by_ending (endings.Refused line) (inl s) = inl (s.0, raised_later a b c reads s.1)
    by_ending (endings.Refused line) (inr (inl s)) = inr (inl (s.0, λ honest. is honest ∙ s.1 (still a b reads honest)))
    by_ending (endings.Refused line) (inr (inr s)) = inr (inr (s.0, λ honest. s.1 (still a b reads honest)))
    by_ending endings.Memory s = tt
    by_ending endings.ReadFault s = absurd s
    by_ending endings.WriteFault s = s
    by_ending endings.Different s = absurd s
    by_ending (endings.Uncompared trouble) s = absurd s

pub why_refused : (a : StoreFacts) (fault : Fault) → (fault ≡ faults.Memory → ⊥) → (fault ≡ faults.File → ⊥) → (IsTrue a.honest → IsResourceFault fault ⊎ (stands a.content ≡ Err fault)) → IsTrue a.honest → stands a.content ≡ Err fault
why_refused a fault no_memory no_file so honest = elim (so honest) as (λ _. stands a.content ≡ Err fault) [
  | inl (inl e) ↦ absurd (no_memory e)
  | inl (inr e) ↦ absurd (no_file e)
  | inr e ↦ e
]

-- what comes of a store that doesn't open is what comes of its script
pub unopened_script : {W : Type 0} (contents : W → Option (List ℕ)) (writes : WriteCalls W) (name : List ℕ) (all : Bool) (a b c : StoreFacts) (fault : Fault) (old new : W) (ending : Ending) → OnlyReadsStore a b → OnlyReadsStore b c
    → (fault ≡ faults.File → FailedSince a b) → (IsTrue a.honest → IsResourceFault fault ⊎ (stands a.content ≡ Err fault)) → SalvagesUnopened contents writes name all fault b c old new ending
    → Salvages contents writes name (file_script all) a c old new ending
unopened_script contents writes name all a b c fault old new ending reads later failed so (inl none) = rw none.1 tt
unopened_script contents writes name all a b c fault old new ending reads later failed so (inr (inl none)) =
    refused_or_memory (Salvages contents writes name (file_script all) a c old new) name Unread (λ line is. inl (is, (let raised = failed none.0 in omega (arith, raised, later.failures)))) tt ending none.1
unopened_script contents writes name all a b c fault old new ending reads later failed so (inr (inr none)) =
    refused_script contents writes name all a b c fault old new ending reads (why_refused a fault none.0 none.1 so) none.2
