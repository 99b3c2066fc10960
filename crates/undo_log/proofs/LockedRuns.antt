-- A block of a large array is found, and locked so that elements of it are lent.
use Rattle.std.proofs.Common.{◌≡◌, ◌⊎◌, ◌∷◌, ◌≤◌, ◌<◌, ◌+◌, ◌&&◌, ℕ, Bool, true, not, map, length, Some, Result, Ok, Err, inl, inr, refl, sym, ap, subst, ◌∙◌, arith}
use Rattle.std.specs.Result.{IsErrAnd}
use Rattle.std.proofs.lemmas.Bool.{cases_eq, cond-true, ne_eqb, true≢false}
use Rattle.geos_model.specs.Document.{Document, is_raw, raw_bytes_of}
use Rattle.geos_model.specs.ElementArray.{all_distinct}
use Rattle.geos_model.specs.LargeBlocks.{root_at}
use Rattle.geos_model.specs.Machine.{is_locked, locked_raw}
use Rattle.geos_model.specs.declared.fault.Fault.{Fault}
use Rattle.geos_model.specs.declared.fault.Fault.TheVariants.{LockLimit}
use Rattle.geos_model.specs.Refusal.{first_refusal}
use Rattle.geos_model.specs.LargeEdits.{read_large_conditions}
use Rattle.geos_model.specs.declared.fault.Fault.TheVariants.{CacheFull}
use Rattle.document_file.proofs.PassingLemmas.{KeepsCommitted-trans, SameUnlessCorrupt-trans}
use Rattle.document_file.specs.Disk.{SameUnlessCorrupt}
use Rattle.vm_store.specs.Facts.{StoreFacts}
use Rattle.vm_blocks.specs.State.{CacheState, KeepsDocument, locks_of}
use Rattle.vm_blocks.specs.Keeping.{KeepsBlocks, IsEnvironmentFault, is_full, is_loaded}
use Rattle.vm_blocks.specs.Locking.{CantLock, GainsLock}
use Rattle.vm_blocks.proofs.KeepingLaws.{honest-steady, keeps-full, keeps-locks, keeps-same, keeps-shut, keeps-stays, keeps-trans, keeps-unless_corrupt, lacks-later, loaded-live, open-shut}
use Rattle.doc_edits.specs.LentRuns.{FindsRun}
use Rattle.large_arrays.specs.LentRuns.{IsRunPlace, element_branch}
use Rattle.large_arrays.specs.declared.lent_runs.RunPlace.{RunPlace}
use Rattle.undo_log.specs.LockedRuns.{LocksRun}
use Rattle.undo_log.specs.Logging.{Log}
use Rattle.undo_log.specs.Sessions.{SessionState, machine_of}
use Rattle.undo_log.proofs.Locking.{lock_is}
use Rattle.undo_log.proofs.Locks.{is_locked-is}
use Rattle.undo_log.proofs.LookUps.{same_session, session_with}

module _ {S : Type 0} (facts : S → StoreFacts) (a m : CacheState S) (log : Log) (b i : ℕ) where
  -- the block isn't found
  pub run_unfound : (fault : Fault) → FindsRun facts a m b i (Err fault) → LocksRun facts b i (session_with a log) (session_with m log) (Err fault)
  run_unfound fault found = record {
    ok = tt;
    err = record { blocks = found.keeps; log = refl };
    rules = λ so.
        let steady = honest-steady facts a.disk.store so in
        elim (found.value steady) [
          | inl lack ↦ inl lack
          | inr first ↦ inr (inl (ap (λ (d : Document). first_refusal ((CacheFull, is_full a) ∷ read_large_conditions d b i 1)) (sym (keeps-same facts a m found.keeps steady)) ∙ first))
        ];
    refusals = inl found.refusals;
    shut = λ full. let kept = found.shut full in (same_session a m log log kept.0 refl, kept.1);
    unseen = λ unread. let kept = found.unseen unread in (same_session a m log log kept.0 refl, kept.1);
  }

  -- It is found.
  module _ (e : CacheState S) (p : RunPlace) (found : FindsRun facts a m b i (Ok p)) where
    abbrev h : ℕ
    h = p.block.0

    -- why it isn't locked: for what the call lacks, or for its locks
    unlocked : (fault : Fault) → IsEnvironmentFault facts m.disk.store e.disk.store fault ⊎ CantLock m h fault
        → IsEnvironmentFault facts a.disk.store e.disk.store fault ⊎ ((fault ≡ LockLimit) × (locks_of m.resident h ≡ 255))
    unlocked fault (inl lacks) = inl (lacks-later facts a m e.disk.store fault found.keeps lacks)
    unlocked fault (inr (inl dead)) = absurd (true≢false (sym (loaded-live m h found.ready.loaded) ∙ dead.1))
    unlocked fault (inr (inr (inl most))) = inr (most.0, most.2)
    unlocked fault (inr (inr (inr full))) = absurd (true≢false (sym full.1.1 ∙ open-shut m h (keeps-full facts a m found.keeps ∙ found.room)))

    pub run_unlocked : (fault : Fault) → KeepsBlocks facts m e → IsEnvironmentFault facts m.disk.store e.disk.store fault ⊎ CantLock m h fault
        → LocksRun facts b i (session_with a log) (session_with e log) (Err fault)
    run_unlocked fault keeps cant = record {
      ok = tt;
      err = record { blocks = keeps-trans facts a m e found.keeps keeps; log = refl };
      rules = λ so.
          let steady = honest-steady facts a.disk.store so in
          elim (unlocked fault cant) [
            | inl lack ↦ inl lack
            | inr most ↦
                let home : h ≡ element_branch (root_at a.document b) i = (found.value steady).block ∙ ap (λ (d : Document). element_branch (root_at d b) i) (keeps-same facts a m found.keeps steady) in
                inr (inr (most.0, ap (locks_of a.resident) (sym home) ∙ sym ((keeps-locks facts a m found.keeps).each h) ∙ most.1))
          ];
      refusals = elim (unlocked fault cant) [
        | inl lack ↦ inl (inl (inl lack))
        | inr most ↦ inr most.0
      ];
      shut = λ full. absurd (true≢false (sym full ∙ found.room));
      unseen = λ unread. absurd (found.unseen unread).1;
    }

    -- what keeps it from being locked did so before it was found
    cant_later : (fault : Fault) → CantLock a h fault → CantLock m h fault
    cant_later fault (inl dead) = inl (dead.0, (keeps-unless_corrupt facts a m found.keeps).live h ∙ dead.1)
    cant_later fault (inr (inl most)) = inr (inl (most.0, (keeps-unless_corrupt facts a m found.keeps).live h ∙ most.1, (keeps-locks facts a m found.keeps).each h ∙ most.2))
    cant_later fault (inr (inr full)) = inr (inr ((keeps-unless_corrupt facts a m found.keeps).live h ∙ full.0, (full.1.0, keeps-shut facts a m found.keeps h ∙ full.1.1)))

    stays_later : KeepsDocument facts m e → KeepsDocument facts a e
    stays_later stays =
        let first = keeps-stays facts a m found.keeps in
        record {
          file = record {
            passes = KeepsCommitted-trans facts a.disk m.disk e.disk first.file.passes stays.file.passes;
            document = SameUnlessCorrupt-trans _ _ _ _ first.file.document (subst (λ (t : Bool). SameUnlessCorrupt t m.document e.document) first.file.passes.honest stays.file.document);
          };
          frames = stays.frames ∙ first.frames;
        }

    gains_later : GainsLock facts h m e → GainsLock facts h a e
    gains_later gains =
        let locks = keeps-locks facts a m found.keeps in
        record {
          stays = stays_later gains.stays;
          loaded = gains.loaded;
          one = gains.one ∙ ap (λ (n : ℕ). n + 1) (locks.each h);
          others = λ k other. gains.others k other ∙ locks.each k;
        }

    -- it is locked
    module _ (distinct : all_distinct (map (λ s. s.0) a.resident) ≡ true) (counts : (k : ℕ) → locks_of m.resident k ≤ 255) (gains : GainsLock facts h m e)
        (early : (fault : Fault) → CantLock m h fault → (◌≡◌ {A = Result (Unit {0}) Fault} (Ok tt) (Err fault)) × (e ≡ m))
        (already : is_loaded m h ≡ true → locks_of m.resident h < 255 → (e.disk ≡ m.disk) × (e.document ≡ m.document)) where
      few : locks_of m.resident h < 255
      few = elim (cases_eq (locks_of m.resident h) 255) as (λ _. locks_of m.resident h < 255) [
        | inl most ↦ let wrong : ◌≡◌ {A = Result (Unit {0}) Fault} (Ok tt) (Err LockLimit) = (early LockLimit (inr (inl (refl, loaded-live m h found.ready.loaded, most)))).0 in absurd (cc wrong)
        | inr other ↦ let low = counts h in omega (arith, other, low)
      ]

      same : e.document ≡ m.document
      same = (already found.ready.loaded few).1

      lent : (target : Bool) → locked_raw (machine_of target (session_with e log)) h ≡ Some (raw_bytes_of e.document h)
      lent target =
          let locked : is_locked (machine_of target (session_with e log)) h ≡ true =
          is_locked-is (session_with e log) target h ∙ ap not (ne_eqb (locks_of e.resident h) 0 (λ none. (let one = gains.one in absurd (omega (arith, none, one))))) in
          let raw : is_raw e.document h ≡ true = ap (λ (d : Document). is_raw d h) same ∙ found.ready.raw in
          cond-true (is_locked (machine_of target (session_with e log)) h && is_raw e.document h) (Some (raw_bytes_of e.document h)) _ (λ j. locked j && raw j)

      pub run_locked : LocksRun facts b i (session_with a log) (session_with e log) (Ok p)
      run_locked = record {
        ok = record {
          step = lock_is facts (session_with a log) (session_with e log) p.block distinct (Ok tt) (gains_later gains) tt tt (λ fault cant. (early fault (cant_later fault cant)).0) refl;
          gains = gains_later gains;
          log = refl;
          lent = lent;
          within = subst (λ (d : Document). p.start ≤ length (raw_bytes_of d h)) (sym same) found.ready.within;
          place = λ so. subst (λ (d : Document). IsRunPlace d b i p) (sym same) (found.value (honest-steady facts a.disk.store so));
        };
        err = tt;
        rules = λ so. tt;
        refusals = tt;
        shut = λ full. absurd (true≢false (sym full ∙ found.room));
        unseen = λ unread. absurd (found.unseen unread).1;
      }

-- The fault that `?` hands on, of a session that is seen to be another one.
pub handed_on : {S : Type 0} (facts : S → StoreFacts) (b i : ℕ) (old new : SessionState S) {s : SessionState S} → old ≡ s → (fault : Fault) (r : Result RunPlace Fault) → IsErrAnd r (λ x. x ≡ fault)
    → LocksRun facts b i old new (Err fault) → LocksRun facts b i s new r
handed_on facts b i old new is fault (Ok p) never locks = absurd never
handed_on {S} facts b i old new is fault (Err e) same locks =
    subst (λ (x : SessionState S). LocksRun facts b i x new (Err e)) is (subst (λ (f : Fault). LocksRun facts b i old new (Err f)) (sym same) locks)
