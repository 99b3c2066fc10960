-- What a call that keeps a session leaves, and when it gives up.
use Rattle.std.proofs.Common.{◌≡◌, ℕ, Bool, true, IsTrue, List, Option, Some, None, inl, inr, refl, sym, ap, subst, ◌∙◌}
use Rattle.std.specs.Ordering.{nat_cmp}
use Rattle.std.specs.FinMap.{FinMap}
use Rattle.std.specs.Option.{option_map}
use Rattle.std.proofs.lemmas.Bool.{le-leb}
use Rattle.geos_model.specs.Document.{Document}
use Rattle.geos_model.specs.Machine.{Machine, Request, Answers, Step, next, takes_memory, calls_store}
use Rattle.geos_model.specs.Reply.{Reply, Refused}
use Rattle.geos_model.specs.declared.command.Command.{Command}
use Rattle.geos_model.specs.declared.fault.Fault.{Fault}
use Rattle.geos_model.specs.declared.fault.Fault.TheVariants.{Memory, File}
use Rattle.vm_store.specs.Facts.{StoreFacts, FailedSince, raised}
use Rattle.document_file.specs.Disk.{SameUnlessCorrupt, MarkSameUnlessCorrupt, KeepsCommitted}
use Rattle.vm_blocks.specs.State.{CacheState, KeepsLocks}
use Rattle.vm_blocks.specs.Keeping.{KeepsBlocks, IsEnvironmentFault}
use Rattle.vm_blocks.specs.declared.change.Change.{Change}
use Rattle.chunk_edits.specs.declared.direction.Direction.TheVariants.{Forwards, Backwards}
use Rattle.vm_blocks.proofs.KeepingLaws.{keeps-refl, keeps-passes, keeps-unless_corrupt, keeps-frames, keeps-locks, lacks-cases}
use Rattle.undo_log.specs.Logging.{Log, before, entry_steps, group_of, to_redo, to_undo}
use Rattle.undo_log.specs.Sessions.{SessionState, cache_of, locks_in, machine_of, failed_since, CanApplyBothByHandle, AreSteps, IsExact, KeepsSession}
use Rattle.undo_log.proofs.Listing.{drifted, are_listed_alike}
use Rattle.undo_log.proofs.Locks.{kept_locks}

-- The machine of a session, from its parts.
pub machine_is : {S : Type 0} (target : Bool) (d updated saved : Document) (log : Log) (locks : FinMap nat_cmp ℕ) (frames sequence : ℕ) (new : SessionState S)
    → d ≡ new.document → log ≡ new.log → updated ≡ new.disk.updated → saved ≡ new.disk.saved → locks ≡ locks_in new.resident → frames ≡ new.frames → sequence ≡ new.disk.sequence
    → ◌≡◌ {A = Machine} (record {
      document = d;
      past = entry_steps Backwards log.undo (before log.group d);
      future = entry_steps Forwards log.redo d;
      past_names = log.undo_names;
      future_names = log.redo_names;
      group = option_map (group_of d) log.group;
      updated = updated;
      saved = saved;
      updated_at = log.updated_at;
      saved_at = log.saved_at;
      touched = log.touched;
      undo_limit = log.limit;
      locks = locks;
      frames = frames;
      target = target;
      sequence = sequence;
    }) (machine_of target new)
machine_is target d updated saved log locks frames sequence new p q u v l f n = λ i. record {
  document = p i;
  past = entry_steps Backwards (q i).undo (before (q i).group (p i));
  future = entry_steps Forwards (q i).redo (p i);
  past_names = (q i).undo_names;
  future_names = (q i).redo_names;
  group = option_map (group_of (p i)) (q i).group;
  updated = u i;
  saved = v i;
  updated_at = (q i).updated_at;
  saved_at = (q i).saved_at;
  touched = (q i).touched;
  undo_limit = (q i).limit;
  locks = l i;
  frames = f i;
  target = target;
  sequence = n i;
}

-- the machine with this document and this log
abbrev pub machine_with : Machine → Document → Log → Machine
machine_with m d log = record m {
  document = d;
  past = entry_steps Backwards log.undo (before log.group d);
  future = entry_steps Forwards log.redo d;
  past_names = log.undo_names;
  future_names = log.redo_names;
  group = option_map (group_of d) log.group;
  updated_at = log.updated_at;
  saved_at = log.saved_at;
  touched = log.touched;
  undo_limit = log.limit;
}

-- An answer between machines that are the same.
pub answers_on : (m m' n n' : Machine) (request : Request) (reply : Reply) → m ≡ m' → n ≡ n' → Answers m' request reply n' → Answers m request reply n
answers_on m m' n n' request reply p q is = ap (next request) p ∙ is ∙ ap (λ (x : Machine). Some (reply, x)) (sym q)

pub failed_true : (a b : StoreFacts) → FailedSince a b → failed_since a b ≡ true
failed_true a b more = le-leb (raised a.failures) b.failures more

module _ {S : Type 0} (facts : S → StoreFacts) where
  -- What no rule decides stands in place of the answer.
  pub gives_up : (a b : S) (m new : Machine) (c : Command) (fault : Fault) → IsTrue (facts a).honest → IsEnvironmentFault facts a b fault → new ≡ m → takes_memory c m ≡ true → calls_store c m ≡ true
      → Step (failed_since (facts a) (facts b)) m (Some c) (Refused fault) new
  gives_up a b m new c fault so lacks stays takes calls = elim (lacks-cases facts a b fault lacks) as (λ _. Step (failed_since (facts a) (facts b)) m (Some c) (Refused fault) new) [
    | inl memory ↦ inr (record { fault = Memory; may = takes; says = ap Refused memory; stays = stays })
    | inr (inl failed) ↦ inr (record { fault = File; may = rw (failed_true (facts a) (facts b) failed.1, calls) refl; says = ap Refused failed.0; stays = stays })
    | inr (inr damage) ↦ absurd (damage.1 so)
  ]

  module _ (old new : SessionState S) where
    -- Over an honest store, with the same document and log.
    -- or a log of the same changes
    pub same_changes : (facts new.disk.store).honest ≡ (facts old.disk.store).honest → new.document ≡ old.document → (to_undo new.log ≡ to_undo old.log) × (to_redo new.log ≡ to_redo old.log) → IsExact facts old → IsExact facts new
    same_changes honest document lists exact = record {
      honest = subst IsTrue (sym honest) exact.honest;
      steps = subst (λ (d : Document). AreSteps Backwards d (to_undo new.log) (to_redo new.log)) (sym document)
          (subst (λ (cs : List Change). AreSteps Backwards old.document cs (to_redo new.log)) (sym lists.0) (subst (λ (cs : List Change). AreSteps Backwards old.document (to_undo old.log) cs) (sym lists.1) exact.steps));
    }

    pub same_exact : (facts new.disk.store).honest ≡ (facts old.disk.store).honest → new.document ≡ old.document → new.log ≡ old.log → IsExact facts old → IsExact facts new
    same_exact honest document log exact = record {
      honest = subst IsTrue (sym honest) exact.honest;
      steps = subst (λ (d : Document). AreSteps Backwards d (to_undo new.log) (to_redo new.log)) (sym document)
          (subst (λ (l : Log). AreSteps Backwards old.document (to_undo l) (to_redo l)) (sym log) exact.steps);
    }

    -- the machine after a call that commits nothing
    pub passed_machine : (target : Bool) → IsTrue (facts old.disk.store).honest → KeepsCommitted facts old.disk new.disk → new.frames ≡ old.frames → KeepsLocks old.resident new.resident
        → machine_of target new ≡ machine_with (machine_of target old) new.document new.log
    passed_machine target so passes frames locks = sym (machine_is target new.document old.disk.updated old.disk.saved new.log (locks_in old.resident) old.frames old.disk.sequence new
        refl refl (sym (passes.updated so)) (sym (passes.saved so)) (sym (kept_locks old.resident new.resident locks)) (sym frames) (sym passes.sequence))

    module _ (keeps : KeepsSession facts old new) where
      pub kept_passes : KeepsCommitted facts old.disk new.disk
      kept_passes = keeps-passes facts (cache_of old) (cache_of new) keeps.blocks

      pub kept_drifts : SameUnlessCorrupt (facts old.disk.store).honest old.document new.document
      kept_drifts = keeps-unless_corrupt facts (cache_of old) (cache_of new) keeps.blocks

      pub kept_frames : new.frames ≡ old.frames
      kept_frames = keeps-frames facts (cache_of old) (cache_of new) keeps.blocks

      pub kept_locked : KeepsLocks old.resident new.resident
      kept_locked = keeps-locks facts (cache_of old) (cache_of new) keeps.blocks

      pub kept_document : IsTrue (facts old.disk.store).honest → new.document ≡ old.document
      kept_document so = kept_drifts.same so

      pub kept_exact : IsExact facts old → IsExact facts new
      kept_exact exact = same_exact kept_passes.honest (kept_document exact.honest) keeps.log exact

      pub kept_machine : (target : Bool) → IsExact facts old → machine_of target new ≡ machine_of target old
      kept_machine target exact =
          sym (machine_is target old.document old.disk.updated old.disk.saved old.log (locks_in old.resident) old.frames old.disk.sequence new (sym (kept_document exact.honest)) (sym keeps.log)
          (sym (kept_passes.updated exact.honest)) (sym (kept_passes.saved exact.honest)) (sym (kept_locks old.resident new.resident kept_locked)) (sym kept_frames) (sym kept_passes.sequence))

  pub keeps_refl : (s : SessionState S) → KeepsSession facts s s
  keeps_refl s = record { blocks = keeps-refl facts (cache_of s); log = refl }

-- The invariant stays with the log, in a document that drifts.
pub drifted_listed : (honest : Bool) (a b : Document) (log : Log) → SameUnlessCorrupt honest a b → CanApplyBothByHandle Backwards a (to_undo log) (to_redo log) → CanApplyBothByHandle Backwards b (to_undo log) (to_redo log)
drifted_listed honest a b log unless_corrupt are = are_listed_alike Backwards a b (to_undo log) (to_redo log) (drifted honest a b unless_corrupt) are

-- No document is marked where none was.
pub none_marked : (honest : Bool) (old new : Option Document) → old ≡ None → MarkSameUnlessCorrupt honest old new → new ≡ None
none_marked honest None new none unless_corrupt = unless_corrupt
none_marked honest (Some d) new none unless_corrupt = absurd (cc none)

-- what a session keeps true of its blocks and its log
abbrev pub Holds : {S : Type 0} → CacheState S → Log → Type 0
Holds blocks log = CanApplyBothByHandle Backwards blocks.document (to_undo log) (to_redo log) × (blocks.disk.marked ≡ None)

-- A call that commits nothing keeps it.
pub kept_invariant : {S : Type 0} (facts : S → StoreFacts) (old new : CacheState S) (log : Log) → KeepsBlocks facts old new → Holds old log → Holds new log
kept_invariant facts old new log keeps holds = (
  drifted_listed _ old.document new.document log (keeps-unless_corrupt facts old new keeps) holds.0,
  none_marked _ old.disk.marked new.disk.marked holds.1 (keeps-passes facts old new keeps).marked,
)
