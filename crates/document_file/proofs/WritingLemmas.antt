-- Images that are written one by one.
use Rattle.std.proofs.Common.{◌≡◌, ℕ, ◌+◌, ◌<◌, ◌≤◌, IsTrue, List, ◌++◌, All, length, get_or, refl, sym, subst, ◌∙◌, arith, inl, inr, ◌⊎◌, ap}
use Rattle.std.proofs.lemmas.Bool.{cases_eq}
use Rattle.std.proofs.lemmas.List.{get_or_default}
use Rattle.vm_store.specs.Facts.{StoreFacts, Torn, Holds}
use Rattle.geos_model.specs.Image.{image}
use Rattle.file_format.specs.declared.file.Extent.{Extent}
use Rattle.document_file.specs.Ranges.{start_of, end_of, IsOut, IsClear, KeepsAll}
use Rattle.document_file.specs.Slots.{CrashLeavesSlots, Outlives, block_extents, pair_extents, prepared_extents, referenced_extents, marked_extents, Outcome}
use Rattle.document_file.specs.Writing.{AreFor, Fills, AreWritten, SparesExtents}
use Rattle.document_file.specs.Sums.{has_sums}
use Rattle.document_file.specs.declared.member.Member.{Member}
use Rattle.document_file.specs.declared.slot.Slots.{Slots}
use Rattle.document_file.proofs.RangesLemmas.{keeps_itself, torn_same, torn_keeps, torn_holds, keeps_within}
use Rattle.document_file.proofs.SlotsLemmas.{Outlives-refl, Outlives-trans, outcome_keeps, leaves_rebased}
use Rattle.document_file.specs.Documents.{Documents, documents_in, attempted_in, AreStored, IsPreparedStored}
use Rattle.document_file.specs.Disk.{recoverable, StandsForOne, KeepsCommitted}
use Rattle.document_file.specs.Sound.{IsFormed, IsSound, disk_of}
use Rattle.document_file.specs.declared.table.BlockTable.{BlockTable}
use Rattle.document_file.proofs.DocumentsLemmas.{pair_again, prepared_again}
use Rattle.document_file.proofs.TurningLemmas.{turning_same}
use Rattle.document_file.proofs.GateAwayLemmas.{attempted_away}
use Rattle.document_file.proofs.SoundLemmas.{EndsIn, marked_imaged, marked_drifts, live_and_marked, marked_summed, AreRight}
use Rattle.document_file.proofs.StandsLemmas.{outcome_stands, sound_readable, outcome_numbered}

-- the first n images are written
pub record Writes (slots : Slots) (extents : List Extent) (puts : List Member) (n : ℕ) (old new : StoreFacts) : Type 0 where
  pub honest : new.honest ≡ old.honest
  pub failures : old.failures ≤ new.failures
  pub fills : IsTrue old.honest → Fills slots extents old new
  pub written : IsTrue old.honest → AreWritten n puts extents new.content

pub Writes-none : (slots : Slots) (extents : List Extent) (puts : List Member) (a : StoreFacts) → Writes slots extents puts 0 a a
Writes-none slots extents puts a = record {
  honest = refl;
  failures = omega arith;
  fills = λ so. record { keeps = λ e aside within. record { within = within; bytes = λ i from to. refl }; leaves = λ file was. was; crash = λ file was. Outlives-refl a file (λ s. s ≡ slots) };
  written = λ so k e p low. absurd (omega arith);
}

-- A step: one of the extents is written.
module _ (slots : Slots) (extents : List Extent) (puts : List Member) (old mid new : StoreFacts) (i : ℕ) (e : Extent) (inside : i < length extents) (is : e ≡ get_or extents i e) (torn : Torn (start_of e) e.length mid.content new.content) where
  pub fills_more : ((file : List ℕ) → CrashLeavesSlots mid slots file → CrashLeavesSlots new slots file) → ((file : List ℕ) → CrashLeavesSlots mid slots file → Outlives mid new file (λ s. s ≡ slots)) → Fills slots extents old mid → Fills slots extents old new
  fills_more leaves crash was = record {
    keeps = λ x aside within.
        let out = aside i e inside in
        let apart : IsOut (start_of e) e.length (start_of x) (end_of x) = subst (λ y. IsOut (start_of y) y.length (start_of x) (end_of x)) (sym is) out in
        torn_same (start_of e) e.length x old.content mid.content new.content apart torn (was.keeps x aside within);
    leaves = λ file first. leaves file (was.leaves file first);
    crash = λ file first. Outlives-trans old mid new file (λ s. s ≡ slots) (was.crash file first) (crash file (was.leaves file first));
  }

  pub written_more : (taken : List Extent) → AreFor taken puts (length puts) extents → i < length puts → (bytes : List ℕ) → ((p : Member) → bytes ≡ image (get_or puts i p).block.image) → Holds new.content (start_of e) bytes → AreWritten i puts extents mid.content → AreWritten (i + 1) puts extents new.content
  written_more taken are low bytes is_image holds was k d p below = elim (cases_eq k i) as (λ _. Holds new.content (start_of (get_or extents k d)) (image (get_or puts k p).block.image)) [
    | inl same ↦
        let place : get_or extents i d ≡ e = get_or_default extents i d e inside ∙ sym is in
        subst (λ j. Holds new.content (start_of (get_or extents j d)) (image (get_or puts j p).block.image)) (sym same) (subst (λ x. Holds new.content (start_of x) (image (get_or puts i p).block.image)) (sym place) (subst (Holds new.content (start_of e)) (is_image p) holds))
    | inr other ↦
        let under : k < i = omega (arith, other) in
        let one = get_or extents k d in
        let apart : IsOut (start_of e) e.length (start_of one) (end_of one) = subst (λ x. IsOut (start_of x) x.length (start_of one) (end_of one)) (get_or_default extents i d e inside ∙ sym is) (are.apart k i d under low) in
        let size = are.sizes k d p (omega arith) in
        torn_holds (start_of e) e.length (start_of one) (end_of one) (image (get_or puts k p).block.image) mid.content new.content (omega (arith, size)) apart torn (was k d p under)
  ]

-- apart from fewer extents too
pub for_fewer : (taken fewer : List Extent) (puts : List Member) (n : ℕ) (extents : List Extent) → ((P : Extent → Type 0) → All P taken → All P fewer) → AreFor taken puts n extents → AreFor fewer puts n extents
for_fewer taken fewer puts n extents less was = record {
  count = was.count;
  sizes = was.sizes;
  placed = was.placed;
  clear = λ k d inside. let e = get_or extents k d in less (λ x. IsOut (start_of e) e.length (start_of x) (end_of x)) (was.clear k d inside);
  apart = was.apart;
}

-- what is written apart from extents keeps them
pub spared_by : (slots : Slots) (kept extents : List Extent) (puts : List Member) (n : ℕ) (old new : StoreFacts) → AreFor kept puts n extents → Fills slots extents old new → SparesExtents kept slots old new
spared_by slots kept extents puts n old new are fills = record {
  keeps = λ within k d inside. fills.keeps (get_or kept k d)
      (λ j x low. are.clear j x low k d inside)
      (within k d inside);
  leaves = fills.leaves;
  crash = fills.crash;
}

-- the live table's images and the marked ones, where what is written is apart from them and from all that the slots
-- stand on
pub spared_images : (slots : Slots) (live : List Extent) (puts : List Member) (images : List Extent) (a b : StoreFacts) → AreFor (live ++ referenced_extents slots) puts (length puts) images
    → Fills slots images a b → SparesExtents (live ++ marked_extents slots.marked) slots a b
spared_images slots live puts images a b found fills =
    spared_by slots (live ++ marked_extents slots.marked) images puts (length puts) a b
    (for_fewer (live ++ referenced_extents slots) (live ++ marked_extents slots.marked) puts (length puts) images (λ P all. live_and_marked P slots live all) found) fills

-- so does one that is written alone
pub one_spared : (slots : Slots) (live : List Extent) (e : Extent) (a b : StoreFacts) → IsClear (start_of e) e.length (live ++ referenced_extents slots) → Torn (start_of e) e.length a.content b.content
    → ((file : List ℕ) → CrashLeavesSlots a slots file → CrashLeavesSlots b slots file) → ((file : List ℕ) → CrashLeavesSlots a slots file → Outlives a b file (λ s. s ≡ slots)) → SparesExtents (live ++ marked_extents slots.marked) slots a b
one_spared slots live e a b clear torn leaves crash =
    let kept = live ++ marked_extents slots.marked in
    record {
      keeps = λ within. torn_keeps (start_of e) e.length kept a.content a.content b.content (live_and_marked (λ x. IsOut (start_of e) e.length (start_of x) (end_of x)) slots live clear) torn (keeps_itself kept a.content within);
      leaves = leaves;
      crash = crash;
    }

pub spared_same : (kept : List Extent) (slots : Slots) (a : StoreFacts) → SparesExtents kept slots a a
spared_same kept slots a = record { keeps = λ within. keeps_itself kept a.content within; leaves = λ file was. was; crash = λ file was. Outlives-refl a file (λ s. s ≡ slots) }

-- Calls that write nothing that the slots stand on: what they stand for is carried on to the store as it is then.

module _ {S : Type 0} (facts : S → StoreFacts) (a b : S) (live : BlockTable) (slots : Slots) (sound : IsSound (facts a) live slots) (honest : (facts b).honest ≡ (facts a).honest)
    (now : IsTrue (facts b).honest → (facts b).may_leave (facts b).content)
    (leaves : IsTrue (facts a).honest → CrashLeavesSlots (facts b) slots (facts a).content)
    (marked : IsTrue (facts a).honest → KeepsAll (marked_extents slots.marked) (facts a).content (facts b).content) where
  kept : IsTrue (facts a).honest → KeepsAll (pair_extents slots.committed) (facts a).content (facts b).content × KeepsAll (prepared_extents slots.spare) (facts a).content (facts b).content
  kept so = outcome_keeps slots (facts a).content (facts b).content (leaves so (facts b).content (now (subst IsTrue (sym honest) so)))

  committed : IsTrue (facts a).honest → AreStored slots.version (facts b).content slots.committed × (documents_in (facts b).content slots.committed ≡ documents_in (facts a).content slots.committed)
  committed so = pair_again slots.version (facts a).content (facts b).content slots.committed (sound.whole so).committed (kept so).0

  in_doubt : IsTrue (facts a).honest → IsPreparedStored slots.next_version (facts b).content slots.spare × (attempted_in (facts b).content slots.spare ≡ attempted_in (facts a).content slots.spare)
  in_doubt so = prepared_again slots.next_version (facts a).content (facts b).content slots.spare (sound.whole so).prepared (kept so).1

  pub call_passes : (facts a).failures ≤ (facts b).failures → (IsTrue (facts a).honest → Outlives (facts a) (facts b) (facts a).content (λ s. s ≡ slots)) → KeepsCommitted facts (disk_of facts a slots) (disk_of facts b slots)
  call_passes failures outlives = record {
    honest = honest;
    failures = failures;
    updated = λ so. ap (λ (d : Documents). d.0) (committed so).1;
    saved = λ so. ap (λ (d : Documents). d.1) (committed so).1;
    in_doubt = λ so. (in_doubt so).1;
    tried = λ so pair was. record {
      in_doubt = (in_doubt so).1 ∙ was.in_doubt;
      gate = attempted_away (facts b) slots (facts a).content pair was.in_doubt (sound_readable (facts a) live slots sound.formed (sound.whole so)) (leaves so);
    };
    sequence = refl;
    marked = marked_drifts (facts a).honest (facts a).content (facts b).content slots.marked (λ so. (sound.whole so).marked_within) marked;
    numbered = λ so none is c left. outcome_numbered slots (facts a).content c (sound_readable (facts a) live slots sound.formed (sound.whole so)) none (leaves so c left);
    crash = λ so. record {
      later = (outlives so).later;
      each = λ t c le left. elim ((outlives so).each t c le left) as (λ _. (facts a).left_since t c ⊎ StandsForOne (recoverable (disk_of facts a slots)) c) [
        | inl earlier ↦ inl earlier
        | inr one ↦ inr (outcome_stands slots (facts a).content c (sound_readable (facts a) live slots sound.formed (sound.whole so)) (subst (λ s. Outcome s (facts a).content c) one.1 one.2))
      ];
    };
    checksums = refl;
  }

  pub call_sound : (new : BlockTable) → IsFormed new slots → (IsTrue (facts a).honest → AreRight slots.next_version (facts b).content new.places.items × All (EndsIn (facts b).content) (block_extents new.places.items)) → IsSound (facts b) new slots
  call_sound new formed images = record {
    formed = formed;
    whole = λ so.
        let was : IsTrue (facts a).honest = subst IsTrue honest so in
        record {
          images = (images was).0.0;
          sums = (images was).0.1;
          within = (images was).1;
          committed = (committed was).0;
          prepared = (in_doubt was).0;
          marked = marked_imaged (facts a).content (facts b).content slots.marked (sound.whole was).marked_within (marked was) (sound.whole was).marked;
          marked_sums = marked_summed (has_sums slots.next_version) (facts a).content (facts b).content slots.marked (sound.whole was).marked_within (marked was) (sound.whole was).marked_sums;
          marked_within = keeps_within (marked_extents slots.marked) (facts a).content (facts b).content (marked was);
          saved_sums = turning_same (has_sums slots.next_version) (facts a).content (facts b).content slots sound.formed.turning (sound.whole was).committed (kept was).0 (sound.whole was).saved_sums;
          leaves = leaves_rebased slots (facts a).content (facts b) (now so) (leaves was);
        };
  }
