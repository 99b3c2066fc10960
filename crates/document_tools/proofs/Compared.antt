-- What a comparison of two files comes to, by what its parts do.
use Rattle.std.proofs.Common.{◌≡◌, ◌⊎◌, ℕ, List, Bool, true, false, Option, Result, Ok, Err, IfOk, IfErr, IsErrOf, IsTrue, refl, sym, ◌∙◌, inl, inr}
use Rattle.std.specs.Io.KnownBytes.{Appends}
use Rattle.file_format.specs.File.{stands}
use Rattle.geos_model.specs.declared.fault.Fault.{Fault}
use Rattle.geos_model.specs.declared.fault.Fault.TheVariants as faults
use Rattle.vm_store.specs.Facts.{StoreFacts, FailedSince}
use Rattle.document_file.specs.Calls.{IsResourceFault}
use Rattle.document_file.specs.Opened.{OnlyReadsStore}
use Rattle.document_file.specs.StoredDocuments.{StoredState}
use Rattle.geos_shell.specs.Streams.{StopsWriting, WriteCalls}
use Rattle.file_format.proofs.LooksLemmas.{raised_later, still}
use Rattle.document_diff.specs.Diffs.{TellsSame, diff_text, document_by}
use Rattle.document_diff.specs.Faults.{IsDiffRefusal}
use Rattle.document_diff.specs.declared.fault.DiffFault.{DiffFault}
use Rattle.document_diff.specs.declared.fault.DiffFault.TheVariants as diff_faults
use Rattle.document_diff.specs.declared.fault.Side.TheVariants as sides
use Rattle.document_diff.specs.declared.version.Version.{Version}
use Rattle.document_diff.specs.declared.version.Version.TheVariants as versions
use Rattle.document_tools.specs.Comparisons.{ComparesOpen, ComparesStored, ComparesStores, EndsComparison, EndsUncompared, IsUnreadOpen, IsUnreadStored, chosen_document}
use Rattle.document_tools.specs.Endings.{IsUncomparedFor}
use Rattle.document_tools.specs.Obstacles.{refusal_line}
use Rattle.document_tools.specs.declared.ending.Ending.{Ending}
use Rattle.document_tools.specs.declared.ending.Ending.TheVariants as endings
use Rattle.document_tools.specs.declared.ending.Trouble.TheVariants as troubles
use Rattle.document_tools.specs.declared.obstacle.Obstacle.{Obstacle}
use Rattle.document_tools.specs.declared.obstacle.Obstacle.TheVariants.{Changed, Unopened, Unread}
use Rattle.document_tools.proofs.Looked.{opens_so}

-- a refusal is told by its line, or there is no memory for it
pub uncompared_or_memory : (P : Ending → Type 0) (file : List ℕ) (obstacle : Obstacle)
    → ((line : List ℕ) → line ≡ refusal_line file obstacle → P (endings.Uncompared (troubles.Refused line))) → P (endings.Uncompared troubles.Memory) → (ending : Ending)
    → IsUncomparedFor file obstacle ending → P ending
uncompared_or_memory P file obstacle by_line memory endings.Done is = absurd is
uncompared_or_memory P file obstacle by_line memory endings.Unsound is = absurd is
uncompared_or_memory P file obstacle by_line memory (endings.Refused line) is = absurd is
uncompared_or_memory P file obstacle by_line memory endings.Memory is = absurd is
uncompared_or_memory P file obstacle by_line memory endings.ReadFault is = absurd is
uncompared_or_memory P file obstacle by_line memory endings.WriteFault is = absurd is
uncompared_or_memory P file obstacle by_line memory endings.Different is = absurd is
uncompared_or_memory P file obstacle by_line memory (endings.Uncompared (troubles.Refused line)) is = by_line line is
uncompared_or_memory P file obstacle by_line memory (endings.Uncompared troubles.Memory) is = memory
uncompared_or_memory P file obstacle by_line memory (endings.Uncompared troubles.WriteFault) is = absurd is

false_isnt : (same : Bool) → same ≡ false → same ≡ true → ⊥
false_isnt same never always = let wrong : true ≡ false = sym always ∙ never in cc (wrong)

-- documents that are open, and what differs, or why that isn't known
pub compared_open : {S W : Type 0} (facts : S → StoreFacts) (contents : W → Option (List ℕ)) (writes : WriteCalls W) (first second : List ℕ) (version : Version) (a a_left b b_left : StoredState S) (old new : W)
    (compared : Result Bool DiffFault) (ending : Ending)
    → IfOk compared (λ same. IsTrue (facts a.store).honest → IsTrue (facts b.store).honest → Appends (contents old) (contents new) (diff_text (document_by version a) (document_by version b)) × TellsSame (document_by version a) (document_by version b) same)
    → IfErr compared (IsDiffRefusal (facts a.store) (facts a_left.store) (facts b.store) (facts b_left.store)) → (IsErrOf compared diff_faults.Write → ∥ StopsWriting writes new ∥₁)
    → EndsComparison first second compared ending → ComparesOpen facts contents writes first second version a a_left b b_left old new ending
compared_open facts contents writes first second version a a_left b b_left old new (Ok true) ending text refusal cause ends =
    rw ends (λ so too. ((text so too).0, (text so too).1.only refl))
compared_open facts contents writes first second version a a_left b b_left old new (Ok false) ending text refusal cause ends =
    rw ends (λ so too. ((text so too).0, λ same. false_isnt false refl ((text so too).1.whenever same)))
compared_open facts contents writes first second version a a_left b b_left old new (Err diff_faults.Memory) ending text refusal cause ends = rw ends tt
compared_open facts contents writes first second version a a_left b b_left old new (Err (diff_faults.File sides.Old)) ending text refusal cause ends =
    uncompared_or_memory (ComparesOpen facts contents writes first second version a a_left b b_left old new) first Unread (λ line is. inl (inl (is, refusal))) tt ending ends
compared_open facts contents writes first second version a a_left b b_left old new (Err (diff_faults.File sides.New)) ending text refusal cause ends =
    uncompared_or_memory (ComparesOpen facts contents writes first second version a a_left b b_left old new) second Unread (λ line is. inr (inl (is, refusal))) tt ending ends
compared_open facts contents writes first second version a a_left b b_left old new (Err (diff_faults.Damaged sides.Old)) ending text refusal cause ends =
    uncompared_or_memory (ComparesOpen facts contents writes first second version a a_left b b_left old new) first Changed (λ line is. inl (inr (is, refusal))) tt ending ends
compared_open facts contents writes first second version a a_left b b_left old new (Err (diff_faults.Damaged sides.New)) ending text refusal cause ends =
    uncompared_or_memory (ComparesOpen facts contents writes first second version a a_left b b_left old new) second Changed (λ line is. inr (inr (is, refusal))) tt ending ends
compared_open facts contents writes first second version a a_left b b_left old new (Err diff_faults.Write) ending text refusal cause ends = rw ends (cause refl)

-- a file that was opened, and a block of which can't be read then
unread_then : (file line : List ℕ) (a b c : StoreFacts) → OnlyReadsStore a b → IsUnreadOpen file b c line → IsUnreadStored file a c line
unread_then file line a b c opened (inl failed) = inl (failed.0, raised_later a b c opened failed.1)
unread_then file line a b c opened (inr changed) = inr (inr (changed.0, λ so. changed.1 (still a b opened so)))

version_is : {S : Type 0} (version : Version) (file : StoredState S) → document_by version file ≡ chosen_document version file.updated file.saved
version_is versions.Updated file = refl
version_is versions.Saved file = refl

-- a store that was opened as the second, and then compared
pub compared_stored : {S W : Type 0} (facts : S → StoreFacts) (contents : W → Option (List ℕ)) (writes : WriteCalls W) (first second : List ℕ) (version : Version) (store : S) (a a_left from to : StoredState S)
    (old new : W) (ending : Ending)
    → OnlyReadsStore (facts store) (facts from.store) → (IsTrue (facts store).honest → stands (facts store).content ≡ Ok (from.updated, from.saved))
    → ComparesOpen facts contents writes first second version a a_left from to old new ending
    → ComparesStored contents writes first second version (facts a.store) (facts a_left.store) (document_by version a) (facts store) (facts to.store) old new ending
compared_stored facts contents writes first second version store a a_left from to old new endings.Done opened so told = λ honest too.
    (document_by version from, (from.updated, from.saved, so too, version_is version from), told honest (still (facts store) (facts from.store) opened too))
compared_stored facts contents writes first second version store a a_left from to old new endings.Different opened so told = λ honest too.
    (document_by version from, (from.updated, from.saved, so too, version_is version from), told honest (still (facts store) (facts from.store) opened too))
compared_stored facts contents writes first second version store a a_left from to old new (endings.Uncompared (troubles.Refused line)) opened so (inl told) = inl told
compared_stored facts contents writes first second version store a a_left from to old new (endings.Uncompared (troubles.Refused line)) opened so (inr told) =
    inr (unread_then second line (facts store) (facts from.store) (facts to.store) opened told)
compared_stored facts contents writes first second version store a a_left from to old new (endings.Uncompared troubles.Memory) opened so told = tt
compared_stored facts contents writes first second version store a a_left from to old new (endings.Uncompared troubles.WriteFault) opened so told = told
compared_stored facts contents writes first second version store a a_left from to old new endings.Unsound opened so told = absurd told
compared_stored facts contents writes first second version store a a_left from to old new (endings.Refused line) opened so told = absurd told
compared_stored facts contents writes first second version store a a_left from to old new endings.Memory opened so told = absurd told
compared_stored facts contents writes first second version store a a_left from to old new endings.ReadFault opened so told = absurd told
compared_stored facts contents writes first second version store a a_left from to old new endings.WriteFault opened so told = absurd told

-- and one as the first
pub compared_stores : {S W : Type 0} (facts : S → StoreFacts) (contents : W → Option (List ℕ)) (writes : WriteCalls W) (first second : List ℕ) (version : Version) (store : S) (from to : StoredState S)
    (b b_left : StoreFacts) (old new : W) (ending : Ending)
    → OnlyReadsStore (facts store) (facts from.store) → (IsTrue (facts store).honest → stands (facts store).content ≡ Ok (from.updated, from.saved))
    → ComparesStored contents writes first second version (facts from.store) (facts to.store) (document_by version from) b b_left old new ending
    → ComparesStores contents writes first second version (facts store) (facts to.store) b b_left old new ending
compared_stores facts contents writes first second version store from to b b_left old new endings.Done opened so told = λ honest too.
    let known = told (still (facts store) (facts from.store) opened honest) too in record {
      before = document_by version from;
      after = known.0;
      first_stands = (from.updated, from.saved, so honest, version_is version from);
      second_stands = known.1;
      appends = known.2.0;
      is = known.2.1;
    }
compared_stores facts contents writes first second version store from to b b_left old new endings.Different opened so told = λ honest too.
    let known = told (still (facts store) (facts from.store) opened honest) too in record {
      before = document_by version from;
      after = known.0;
      first_stands = (from.updated, from.saved, so honest, version_is version from);
      second_stands = known.1;
      appends = known.2.0;
      is = known.2.1;
    }
compared_stores facts contents writes first second version store from to b b_left old new (endings.Uncompared (troubles.Refused line)) opened so (inl told) =
    inl (unread_then first line (facts store) (facts from.store) (facts to.store) opened told)
compared_stores facts contents writes first second version store from to b b_left old new (endings.Uncompared (troubles.Refused line)) opened so (inr told) = inr told
compared_stores facts contents writes first second version store from to b b_left old new (endings.Uncompared troubles.Memory) opened so told = tt
compared_stores facts contents writes first second version store from to b b_left old new (endings.Uncompared troubles.WriteFault) opened so told = told
compared_stores facts contents writes first second version store from to b b_left old new endings.Unsound opened so told = absurd told
compared_stores facts contents writes first second version store from to b b_left old new (endings.Refused line) opened so told = absurd told
compared_stores facts contents writes first second version store from to b b_left old new endings.Memory opened so told = absurd told
compared_stores facts contents writes first second version store from to b b_left old new endings.ReadFault opened so told = absurd told
compared_stores facts contents writes first second version store from to b b_left old new endings.WriteFault opened so told = absurd told

-- a file that doesn't open
pub unread_one : (P : Ending → Type 0) (file : List ℕ) (old new : StoreFacts) (fault : Fault) (ending : Ending)
    → ((line : List ℕ) → IsUnreadStored file old new line → P (endings.Uncompared (troubles.Refused line))) → P (endings.Uncompared troubles.Memory)
    → (fault ≡ faults.File → FailedSince old new) → (IsTrue old.honest → IsResourceFault fault ⊎ (stands old.content ≡ Err fault)) → EndsUncompared file fault ending → P ending
unread_one P file old new fault ending by_line memory failed so (inl ends) = rw ends.1 memory
unread_one P file old new fault ending by_line memory failed so (inr (inl ends)) =
    uncompared_or_memory P file Unread (λ line is. by_line line (inl (is, failed ends.0))) memory ending ends.1
unread_one P file old new fault ending by_line memory failed so (inr (inr ends)) =
    uncompared_or_memory P file (Unopened fault) (λ line is. by_line line (inr (inl (fault, is, λ honest. opens_so stands old fault ends.0 ends.1 (so honest))))) memory ending ends.2
