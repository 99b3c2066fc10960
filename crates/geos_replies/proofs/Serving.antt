-- How what is held serves a command.
use Rattle.std.proofs.Common.{◌≡◌, ◌≢◌, ◌||◌, ℕ, Bool, true, false, Option, Some, None, is_some, IsTrue, Result, Ok, Err, IfErr, refl, sym, ap, subst, inl, inr}
use Rattle.std.specs.Prelude.{IsErrOf, IsOk, MatchResult, OnOk, OnErr}
use Rattle.std.specs.Option.{option_map_or}
use Rattle.geos_model.specs.Reply.{Reply, Accepted, Refused, reply_by}
use Rattle.geos_model.specs.Machine.{Machine, Request, Step, may_give_up}
use Rattle.geos_model.specs.declared.fault.Fault.{Fault}
use Rattle.geos_model.specs.declared.fault.Fault.TheVariants.{File}
use Rattle.geos_model.specs.declared.command.Command.{Command}
use Rattle.geos_model.specs.declared.command.Command.TheVariants as commands
use Rattle.vm_store.specs.Facts.{StoreFacts, FailedSince}
use Rattle.document_file.specs.Disk.{Disk, MayCommit, KeepsCommitted}
use Rattle.document_file.specs.Effects.{IsNewFile, SameStore}
use Rattle.document_file.specs.Documents.{Documents}
use Rattle.vm_blocks.specs.Locking.{GainsLock}
use Rattle.undo_log.specs.Logging.{Log}
use Rattle.undo_log.specs.Sessions.{SessionState, IsExact, IsStep, KeepsSession, cache_of, machine_of, failed_since}
use Rattle.undo_log.proofs.Keeping.{kept_passes}
use Rattle.geos_replies.specs.Holdings.{AreExact, CommitsAsReplied, CommitsNothing, IsTakenIfSure, LeavesFiles, ServesRequest, SameFiles, CommitsOrKeeps, failed_with, holding, result_of_reply}

-- Where more stores may have failed, no less may be given up.

may_more : (a b : Bool) (c : Command) (m : Machine) (fault : Fault) → may_give_up a c m fault ≡ true → may_give_up (a || b) c m fault ≡ true
may_more true b c m File h = h
may_more false b c m File h = cc
may_more a b c m fault h = h

asked_more : (a b : Bool) (request : Request) (m : Machine) (fault : Fault)
    → option_map_or (λ c. may_give_up a c m fault) request false ≡ true → option_map_or (λ c. may_give_up (a || b) c m fault) request false ≡ true
asked_more a b None m fault h = h
asked_more a b (Some c) m fault h = may_more a b c m fault h

step_more : (a b : Bool) (old new : Machine) (request : Request) (reply : Reply) → Step a old request reply new → Step (a || b) old request reply new
step_more a b old new request reply (inl answers) = inl answers
step_more a b old new request reply (inr gives) =
    inr (record { fault = gives.fault; may = asked_more a b request old gives.fault gives.may; says = gives.says; stays = gives.stays })

-- a step in which no store failed
pub step_any : (failed : Bool) (old new : Machine) (request : Request) (reply : Reply) → Step false old request reply new → Step failed old request reply new
step_any failed old new request reply step = step_more false failed old new request reply step

-- what was done is told as accepted
pub told_as_accepted : {A : Type 0} (result : Result A Fault) → IsOk result → reply_by (λ _. Accepted) result ≡ Accepted
told_as_accepted (Ok x) so = refl
told_as_accepted (Err fault) so = cc

-- a step in which the target stays
step_kept : {S : Type 0} (facts : S → StoreFacts) (target : Option S) (failed : Bool) (old new : Machine) (request : Request) (reply : Reply)
    → Step failed old request reply new → Step (failed_with failed facts target target) old request reply new
step_kept facts None failed old new request reply step = step
step_kept facts (Some t) failed old new request reply step = step_more failed (failed_since (facts t) (facts t)) old new request reply step

module _ {S : Type 0} (facts : S → StoreFacts) where
  -- a block that is locked was brought into memory at most
  pub lock_passes : (h : ℕ) (old new : SessionState S) (result : Result (Unit {0}) Fault) → OnOk result (GainsLock facts h (cache_of old) (cache_of new))
      → OnErr result (KeepsSession facts old new) → KeepsCommitted facts old.disk new.disk
  lock_passes h old new (Ok x) gains keeps = gains.stays.file.passes
  lock_passes h old new (Err fault) gains keeps = kept_passes facts old new keeps

  -- whether a session is exact doesn't depend on which blocks are in memory
  exact_still : (old new : SessionState S) → new ≡ record old { resident = new.resident } → IsExact facts old → IsExact facts new
  exact_still old new same exact = rw same (record { honest = exact.honest; steps = exact.steps })

  -- a call that commits nothing
  pub serves_passing : (old new : SessionState S) (target former : Option S) (c : Command) (reply : Reply) → KeepsCommitted facts old.disk new.disk → IsStep facts old new c reply
      → (CommitsNothing facts (holding old target former) (holding new target former) → LeavesFiles facts (holding old target former) (Some c) reply (holding new target former))
      → IsTakenIfSure facts old (Some c) reply new
      → AreExact facts (holding old target former) → ServesRequest facts (holding old target former) (Some c) reply (holding new target former)
  serves_passing old new target former c reply passes step leaves sure exact =
      let went = step exact.0 in
      record {
        exact = (went.0, exact.1);
        step = step_kept facts target (failed_since (facts old.disk.store) (facts new.disk.store)) _ _ (Some c) reply (went.1 (is_some target));
        files = leaves (record { passes = passes; target = refl; former = refl });
        sure = sure;
      }

  -- a call that calls no store
  pub serves_staying : (old new : SessionState S) (target former : Option S) (c : Command) (reply : Reply) → new.disk ≡ old.disk → (IsExact facts old → IsExact facts new)
      → ((left : Bool) → Step false (machine_of left old) (Some c) reply (machine_of left new))
      → (SameFiles (holding old target former) (holding new target former) → LeavesFiles facts (holding old target former) (Some c) reply (holding new target former))
      → IsTakenIfSure facts old (Some c) reply new
      → AreExact facts (holding old target former) → ServesRequest facts (holding old target former) (Some c) reply (holding new target former)
  serves_staying old new target former c reply same still step leaves sure exact =
      record {
        exact = (still exact.0, exact.1);
        step = step_any _ _ _ (Some c) reply (step (is_some target));
        files = leaves (record { disk = same; target = refl; former = refl });
        sure = sure;
      }

  -- one that is a step where the session is exact, and leaves it so
  pub serves_logging : (old new : SessionState S) (target former : Option S) (c : Command) (reply : Reply) → new.disk ≡ old.disk → IsStep facts old new c reply
      → (SameFiles (holding old target former) (holding new target former) → LeavesFiles facts (holding old target former) (Some c) reply (holding new target former))
      → IsTakenIfSure facts old (Some c) reply new
      → AreExact facts (holding old target former) → ServesRequest facts (holding old target former) (Some c) reply (holding new target former)
  serves_logging old new target former c reply same step leaves sure exact =
      let went = step exact.0 in
      record {
        exact = (went.0, exact.1);
        step = step_kept facts target (failed_since (facts old.disk.store) (facts new.disk.store)) _ _ (Some c) reply (went.1 (is_some target));
        files = leaves (record { disk = same; target = refl; former = refl });
        sure = sure;
      }

  -- one that changes nothing but locks
  pub serves_at_rest : (old new : SessionState S) (target former : Option S) (c : Command) (reply : Reply) → new ≡ record old { resident = new.resident }
      → ((left : Bool) → Step false (machine_of left old) (Some c) reply (machine_of left new))
      → (SameFiles (holding old target former) (holding new target former) → LeavesFiles facts (holding old target former) (Some c) reply (holding new target former))
      → IsTakenIfSure facts old (Some c) reply new
      → AreExact facts (holding old target former) → ServesRequest facts (holding old target former) (Some c) reply (holding new target former)
  serves_at_rest old new target former c reply same step leaves sure exact =
      serves_staying old new target former c reply (ap (λ (s : SessionState S). s.disk) same) (exact_still old new same) step leaves sure exact

  -- one that changes nothing but the log, and nothing at all where it is refused
  pub disk_kept : (P Q : Type 0) (wrong : Fault) (old new : SessionState S) (log : Log) (result : Result (Unit {0}) Fault)
      → OnOk result (P × (new ≡ record old { log = log })) → IfErr result (λ fault. (fault ≡ wrong) × Q × (new ≡ old)) → new.disk ≡ old.disk
  disk_kept P Q wrong old new log (Ok x) ok err = ap (λ (s : SessionState S). s.disk) ok.1
  disk_kept P Q wrong old new log (Err fault) ok err = ap (λ (s : SessionState S). s.disk) err.2

  pub disk_logged : (old new : SessionState S) (log : Log) (result : Result (Unit {0}) Fault) → MatchResult result (λ _. new ≡ record old { log = log }) (λ _. new ≡ old) → new.disk ≡ old.disk
  disk_logged old new log (Ok x) done = ap (λ (s : SessionState S). s.disk) done
  disk_logged old new log (Err fault) done = ap (λ (s : SessionState S). s.disk) done

  -- how a commit tries a pair, in the words of its reply
  tries : (pair : Documents) (old new : Disk S) (result : Result (Unit {0}) Fault) → MayCommit facts pair old new result
      → IfErr result (λ fault. fault ≢ File → KeepsCommitted facts old new) → (IsErrOf result File → FailedSince (facts old.store) (facts new.store))
      → CommitsOrKeeps facts pair old new (result_of_reply (reply_by (λ _. Accepted) result))
  tries pair old new (Ok x) commits passes file = record { commits = commits; passes = tt }
  tries pair old new (Err fault) commits passes file =
      record { commits = commits; passes = λ unless. passes (λ is. unless is (file (ap Err is))) }

  -- a commit
  pub serves_commit : (old new : SessionState S) (target former : Option S) (c : Command) (pair : Documents) (result : Result (Unit {0}) Fault)
      → MayCommit facts pair old.disk new.disk result → IfErr result (λ fault. fault ≢ File → KeepsCommitted facts old.disk new.disk)
      → (IsErrOf result File → FailedSince (facts old.disk.store) (facts new.disk.store))
      → IsStep facts old new c (reply_by (λ _. Accepted) result)
      → (CommitsAsReplied facts pair (holding old target former) (reply_by (λ _. Accepted) result) (holding new target former)
      → LeavesFiles facts (holding old target former) (Some c) (reply_by (λ _. Accepted) result) (holding new target former))
      → IsTakenIfSure facts old (Some c) (reply_by (λ _. Accepted) result) new
      → AreExact facts (holding old target former) → ServesRequest facts (holding old target former) (Some c) (reply_by (λ _. Accepted) result) (holding new target former)
  serves_commit old new target former c pair result commits passes file step leaves sure exact =
      let went = step exact.0 in
      record {
        exact = (went.0, exact.1);
        step = step_kept facts target (failed_since (facts old.disk.store) (facts new.disk.store)) _ _ (Some c) _ (went.1 (is_some target));
        files = leaves (record { tries = tries pair old.disk new.disk result commits passes file; target = refl; former = refl });
        sure = sure;
      }

  -- a save-as that was refused, after which the target is there again
  pub serves_refused : (old new : SessionState S) (target back : S) (former : Option S) (fault : Fault)
      → (IsExact facts old → IsExact facts new × Step (failed_since (facts old.disk.store) (facts new.disk.store) || failed_since (facts target) (facts back)) (machine_of true old) (Some commands.SaveAs) (Refused fault) (machine_of true new))
      → MayCommit facts (old.disk.saved, old.disk.saved) old.disk new.disk (Err fault)
      → ((fault ≡ File → FailedSince (facts old.disk.store) (facts new.disk.store) → ⊥) → KeepsCommitted facts old.disk new.disk)
      → SameStore facts target back
      → AreExact facts (holding old (Some target) former) → ServesRequest facts (holding old (Some target) former) (Some commands.SaveAs) (Refused fault) (holding new (Some back) former)
  serves_refused old new target back former fault step commits passes follows exact =
      let went = step exact.0 in
      record {
        exact = (went.0, subst IsTrue (sym follows.honest) exact.1);
        step = went.1;
        files = record { tries = record { commits = commits; passes = passes }; back = back; target = refl; failures = follows.failures; former = refl };
        sure = tt;
      }

  -- a save-as that was accepted, after which the store so far is put aside
  pub serves_accepted : (old new : SessionState S) (target store : S) (former : Option S)
      → (IsExact facts old → IsTrue (facts target).honest → IsExact facts new × Step false (machine_of true old) (Some commands.SaveAs) Accepted (machine_of false new))
      → (disk : Disk S) × (disk.store ≡ store) × MayCommit facts (old.disk.saved, old.disk.saved) old.disk disk (Ok tt)
      → IsNewFile facts new.disk.updated new.disk → new.disk.checksums ≡ old.disk.checksums → SameStore facts target new.disk.store
      → AreExact facts (holding old (Some target) former) → ServesRequest facts (holding old (Some target) former) (Some commands.SaveAs) Accepted (holding new None (Some store))
  serves_accepted old new target store former step commits new_file checksums follows exact =
      let went = step exact.0 exact.1 in
      record {
        exact = (went.0, tt);
        step = went.1;
        files = record {
          disk = commits.0;
          commits = commits.2;
          former = ap Some (sym commits.1);
          target = refl;
          failures = follows.failures;
          new_file = (new_file.in_doubt, new_file.sequence);
          numbered = new_file.numbered went.0.honest;
          checksums = checksums;
          crash_consistent = new_file.crash_consistent;
        };
        sure = tt;
      }
