-- A slot that is whole but for its gate: with the gate open, a file that a crash leaves stands for what the slot leads
-- to.
use Rattle.std.proofs.Common.{◌≡◌, ◌≢◌, ℕ, ◌+◌, ◌*◌, List, [], ◌∷◌, All, refl, ap, subst, ◌∙◌, arith}
use Rattle.vm_store.specs.Facts.{StoreFacts, byte}
use Rattle.vm_store.specs.Bytes.{writes-after_write, torn-after_write}
use Rattle.document_file.specs.Ranges.{IsPlaced}
use Rattle.document_file.specs.Slots.{prepared_extents, spare_of, LeadsTo, IsBeside, Outcome, CrashLeavesSlots}
use Rattle.document_file.specs.Documents.{Documents, documents_in, attempted_in}
use Rattle.document_file.specs.Disk.{with_gate_open, IsOneGateAway}
use Rattle.document_file.specs.declared.table.Pair.{Pair}
use Rattle.document_file.specs.declared.slot.SpareSlot.{SpareSlot}
use Rattle.document_file.specs.declared.slot.SpareSlot.TheVariants.{Shut, Stale, Prepared}
use Rattle.document_file.specs.declared.slot.Slots.{Slots}
use Rattle.document_file.proofs.SoundLemmas.{kept_pair, kept_prepared}
use Rattle.document_file.proofs.SlotsLemmas.{one_each, spares_gate, outcome_torn}
use Rattle.document_file.proofs.StandsLemmas.{AreReadable, IsPreparedReadable, FitsPair, fits_pair, prepared_beats, prepared_numbered}

module _ (slots : Slots) (pair : Pair) (file : List ℕ) (is : slots.spare ≡ Prepared pair) (are : AreReadable slots file) where
  slot : ℕ
  slot = spare_of slots

  isnt : slots.spare ≢ Shut
  isnt shut = cc (is, shut)

  fits : FitsPair slots.version slots.sequence slots.committed
  fits = fits_pair slots.version slots.sequence file slots.committed are.versioned are.some are.in_range are.tables are.committed (kept_pair IsPlaced slots are.placed)

  held : IsPreparedReadable slots.next_version file slots.sequence (Prepared pair)
  held = subst (IsPreparedReadable slots.next_version file slots.sequence) is are.prepared

  fits_prepared : FitsPair slots.next_version (slots.sequence + 1) pair
  unfolding held
  fits_prepared = fits_pair slots.next_version (slots.sequence + 1) file pair are.next_versioned (omega arith) held.1.1 held.1.0 held.0 (subst (λ o. All IsPlaced (prepared_extents o)) is (kept_prepared IsPlaced slots are.placed))

  module _ (c : List ℕ) (was : Outcome slots file c) where
    opened : List ℕ
    opened = with_gate_open (spare_of slots) c

    outcome : Outcome slots file opened
    unfolding opened isnt
    outcome = outcome_torn (512 * spare_of slots + 4) 1 slots file c opened are.placed (spares_gate slots are.placed isnt) (torn-after_write (512 * spare_of slots + 4) (1 ∷ []) c) was

    gate : byte opened (512 * spare_of slots + 4) ≡ 1
    unfolding opened
    gate =
        let here : 512 * spare_of slots + 4 ≡ 512 * spare_of slots + 4 + 0 = omega arith in
        ap (byte opened) here ∙ (writes-after_write (512 * spare_of slots + 4) (1 ∷ []) c).each 0 (omega arith)

    leads : LeadsTo (spare_of slots) slots.next_version (slots.sequence + 1) pair file opened
    unfolding opened outcome
    leads = subst (λ o. IsBeside slots.next_version o (spare_of slots) slots.sequence file opened) is outcome.beside

  -- one gate away
  pub held_away : (store : StoreFacts) → CrashLeavesSlots store slots file → IsOneGateAway store (slots.sequence + 1) (documents_in file pair)
  unfolding opened outcome gate leads fits held fits_prepared
  held_away store leaves = record {
    slot = spare_of slots;
    is_slot = (let each = one_each slots in omega arith);
    stands_for = λ c left.
        let was = leaves c left in
        let now = outcome c was in
        prepared_beats slots.second slots.version slots.next_version slots.sequence slots.committed pair file (opened c was) fits fits_prepared held.0 now.gate now.counts (gate c was) (leads c was);
    numbered = λ c left.
        let was = leaves c left in
        let now = outcome c was in
        prepared_numbered slots.second slots.version slots.next_version slots.sequence slots.committed pair file (opened c was) fits fits_prepared now.gate now.counts (gate c was) (leads c was);
  }

away_of : (spare : SpareSlot) (store : StoreFacts) (slots : Slots) (file : List ℕ) (d : Documents) → slots.spare ≡ spare → attempted_in file spare ≡ d ∷ [] → AreReadable slots file → CrashLeavesSlots store slots file → IsOneGateAway store (slots.sequence + 1) d
away_of Shut store slots file d is one are leaves = absurd (cc one)
away_of Stale store slots file d is one are leaves = absurd (cc one)
away_of (Prepared pair) store slots file d is one are leaves =
    let same : documents_in file pair ≡ d = cc one in
    subst (IsOneGateAway store (slots.sequence + 1)) same (held_away slots pair file is are store leaves)

-- the pair of a commit that failed in its last step
pub attempted_away : (store : StoreFacts) (slots : Slots) (file : List ℕ) (d : Documents) → attempted_in file slots.spare ≡ d ∷ [] → AreReadable slots file → CrashLeavesSlots store slots file → IsOneGateAway store (slots.sequence + 1) d
attempted_away store slots file d one are leaves = away_of slots.spare store slots file d refl one are leaves
