-- A call leaves as many frames as there were, over any store.
use Rattle.std.proofs.Common.{◌≡◌, ℕ, List, Result, Ok, Err, IfOk, IfErr, OnOk, OnErr, inl, inr, ap}
use Rattle.std.specs.Prelude.{MatchResult}
use Rattle.geos_model.specs.declared.command.Done.{Done}
use Rattle.geos_model.specs.declared.command.Edit.{Edit}
use Rattle.geos_model.specs.declared.fault.Fault.{Fault}
use Rattle.chunk_edits.specs.declared.direction.Direction.{Direction}
use Rattle.vm_store.specs.Facts.{StoreFacts}
use Rattle.vm_blocks.specs.State.{CacheState}
use Rattle.vm_blocks.specs.Locking.{GainsLock}
use Rattle.undo_log.specs.Logging.{Log}
use Rattle.undo_log.specs.Sessions.{SessionState, KeepsSession, PushesEdit, cache_of}
use Rattle.undo_log.specs.Turning.{Abandons, IsEntryApplied, MovesEntry}
use Rattle.undo_log.specs.Entries.{LogEntry}
use Rattle.undo_log.specs.Entries as entries
use Rattle.undo_log.proofs.Keeping.{kept_frames}

module _ {S : Type 0} (facts : S → StoreFacts) where
  frames_entry : (direction : Direction) (entry : LogEntry) (old new : CacheState S) → IsEntryApplied facts direction entry old new → new.frames ≡ old.frames
  frames_entry direction (entries.One c) old new made = made.frames
  frames_entry direction (entries.Group cs) old new made = made.frames

  module _ (old new : SessionState S) where
    -- of an edit
    pub frames_edit : (e : Edit) (r : Result Done Fault) → IfOk r (λ done. PushesEdit facts e done old new) → OnErr r (KeepsSession facts old new) → new.frames ≡ old.frames
    frames_edit e (Ok done) (inl pushes) keeps = pushes.made.makes.frames
    frames_edit e (Ok done) (inr pushes) keeps = pushes.made.makes.frames
    frames_edit e (Err fault) pushes keeps = kept_frames facts old new keeps

    -- of an undo or a redo
    pub frames_turn : (direction : Direction) (from to from' to' : List LogEntry) (r : Result (Unit {0}) Fault)
        → OnOk r (MovesEntry facts direction (cache_of old) (cache_of new) from to from' to') → OnErr r (KeepsSession facts old new) → new.frames ≡ old.frames
    frames_turn direction from to from' to' (Ok x) moves keeps = frames_entry direction moves.entry (cache_of old) (cache_of new) moves.makes
    frames_turn direction from to from' to' (Err fault) moves keeps = kept_frames facts old new keeps

    -- of an abandon
    pub frames_abandon : (r : Result (Unit {0}) Fault) → OnOk r (Abandons facts old new) → OnErr r (KeepsSession facts old new) → new.frames ≡ old.frames
    frames_abandon (Ok x) abandons keeps = abandons.makes.frames
    frames_abandon (Err fault) abandons keeps = kept_frames facts old new keeps

    -- of a lock
    pub frames_lock : (h : ℕ) (r : Result (Unit {0}) Fault) → OnOk r (GainsLock facts h (cache_of old) (cache_of new)) → OnErr r (KeepsSession facts old new) → new.frames ≡ old.frames
    frames_lock h (Ok x) gains keeps = gains.stays.frames
    frames_lock h (Err fault) gains keeps = kept_frames facts old new keeps

    -- of what changes the log alone
    pub frames_log : (P Q : Type 0) (wrong : Fault) (log : Log) (r : Result (Unit {0}) Fault) → OnOk r (P × (new ≡ record old { log = log })) → IfErr r (λ fault. (fault ≡ wrong) × Q × (new ≡ old))
        → new.frames ≡ old.frames
    frames_log P Q wrong log (Ok x) ok err = ap (λ (s : SessionState S). s.frames) ok.1
    frames_log P Q wrong log (Err fault) ok err = ap (λ (s : SessionState S). s.frames) err.2

    -- of a join or a name
    pub frames_logged : (log : Log) (r : Result (Unit {0}) Fault) → MatchResult r (λ _. new ≡ record old { log = log }) (λ _. new ≡ old) → new.frames ≡ old.frames
    frames_logged log (Ok x) done = ap (λ (s : SessionState S). s.frames) done
    frames_logged log (Err fault) done = ap (λ (s : SessionState S). s.frames) done

-- of what changes nothing but which blocks are in memory
pub frames_same : {S : Type 0} (old new : SessionState S) → new ≡ record old { resident = new.resident } → new.frames ≡ old.frames
frames_same {S} old new same = ap (λ (s : SessionState S). s.frames) same
