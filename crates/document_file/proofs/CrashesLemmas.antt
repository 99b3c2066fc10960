-- The crash law.
use Rattle.std.proofs.Common.{◌≡◌, ℕ, IsTrue, List, [], ◌∷◌, ◌++◌, Option, Some, None, sym, subst, inl, inr}
use Rattle.vm_store.specs.Facts.{StoreFacts, IsTimely}
use Rattle.document_file.specs.Documents.{Documents}
use Rattle.document_file.specs.Disk.{Disk, recoverable, StandsForOne, IsCrashConsistent, Crash}
use Rattle.document_file.specs.Crashes.{DiskCall, DiskCalls, pairs_tried, CrashLaw}
use Rattle.document_file.proofs.PassingLemmas.{Crash-refl, Crash-trans, Crash-more, Crash-since, same_readable, fewer_readable, commit_readable, settled_after}

-- one of more
one_later : (xs ys : List Documents) (c : List ℕ) → StandsForOne ys c → StandsForOne (xs ++ ys) c
one_later [] ys c one = one
one_later (x ∷ xs) ys c one = inr (one_later xs ys c one)

-- one of what stands before, or of more behind
one_of : (xs ys zs : List Documents) (c : List ℕ) → (StandsForOne ys c → StandsForOne zs c) → StandsForOne (xs ++ ys) c → StandsForOne (xs ++ zs) c
one_of [] ys zs c more one = more one
one_of (x ∷ xs) ys zs c more (inl here) = inl here
one_of (x ∷ xs) ys zs c more (inr later) = inr (one_of xs ys zs c more later)

-- a pair in front instead of in between
one_moved : (x : Documents) (xs ys : List Documents) (c : List ℕ) → StandsForOne (xs ++ (x ∷ ys)) c → StandsForOne (x ∷ (xs ++ ys)) c
one_moved x [] ys c one = one
one_moved x (y ∷ xs) ys c (inl here) = inr (inl here)
one_moved x (y ∷ xs) ys c (inr later) = elim (one_moved x xs ys c later) as (λ _. StandsForOne (x ∷ (y ∷ (xs ++ ys))) c) [ inl here ↦ inl here | inr more ↦ inr (inr more) ]

-- with the pair that a call adds, if any
abbrev with_added : Option Documents → List Documents → List Documents
with_added None pairs = pairs
with_added (Some pair) pairs = pair ∷ pairs

module _ {S : Type 0} (facts : S → StoreFacts) (timely : (store : S) → IsTrue (facts store).honest → IsTimely (facts store)) where
  -- what a call may leave, what may be read after it, and that it settles
  record Leaves (pairs : List Documents) (old new : Disk S) : Type 0 where
    honest : IsTrue (facts new.store).honest
    crash : Crash (facts old.store) (facts new.store) pairs
    reads : (c : List ℕ) → StandsForOne (recoverable new) c → StandsForOne pairs c
    crash_consistent : IsCrashConsistent facts new

  call_leaves : (adds : Option Documents) (old new : Disk S) → IsTrue (facts old.store).honest → IsCrashConsistent facts old → DiskCall facts adds old new → Leaves (with_added adds (recoverable old)) old new
  call_leaves None old new so crash_consistent (inl passes) = record {
    honest = subst IsTrue (sym passes.honest) so;
    crash = passes.crash so;
    reads = λ c one. subst (λ ds. StandsForOne ds c) (same_readable facts old new passes so) one;
    crash_consistent = settled_after facts timely old new passes crash_consistent;
  }
  call_leaves None old new so crash_consistent (inr (pair, fault, commits, nothing)) = record {
    honest = subst IsTrue (sym commits.honest) so;
    crash = nothing.crash;
    reads = λ c one. fewer_readable facts old new c (commits.err so) nothing.in_doubt one;
    crash_consistent = commits.crash_consistent;
  }
  call_leaves (Some pair) old new so crash_consistent (result, commits) = record {
    honest = subst IsTrue (sym commits.honest) so;
    crash = commits.crash so;
    reads = λ c one. commit_readable facts pair old new result c commits so one;
    crash_consistent = commits.crash_consistent;
  }

  -- what calls in turn add stands in front of what might be read before them
  with_all : (adds : Option Documents) (next : Disk S) (calls : List (Option Documents × Disk S)) (pairs : List Documents) (c : List ℕ) → StandsForOne (pairs_tried calls ++ with_added adds pairs) c → StandsForOne (pairs_tried ((adds, next) ∷ calls) ++ pairs) c
  with_all None next calls pairs c one = one
  with_all (Some pair) next calls pairs c one = one_moved pair (pairs_tried calls) pairs c one

  pub calls_leave : (old : Disk S) (calls : List (Option Documents × Disk S)) (new : Disk S) → IsTrue (facts old.store).honest → IsCrashConsistent facts old → DiskCalls facts old calls new → Crash (facts old.store) (facts new.store) (pairs_tried calls ++ recoverable old) × IsCrashConsistent facts new
  calls_leave old [] new so crash_consistent same =
      let P : Disk S → Type 0 = λ d. Crash (facts old.store) (facts d.store) (recoverable old) × IsCrashConsistent facts d in
      subst P (sym same) (Crash-refl (facts old.store) (recoverable old), crash_consistent)
  calls_leave old ((adds, next) ∷ calls) new so crash_consistent (call, rest) =
      let first = call_leaves adds old next so crash_consistent call in
      let more = calls_leave next calls new first.honest first.crash_consistent rest in
      let front = with_added adds (recoverable old) in
      let all = pairs_tried ((adds, next) ∷ calls) ++ recoverable old in (
        Crash-trans (facts old.store) (facts next.store) (facts new.store) all
            (Crash-more (facts old.store) (facts next.store) front all (λ c one. with_all adds next calls (recoverable old) c (one_later (pairs_tried calls) front c one)) first.crash)
            (Crash-more (facts next.store) (facts new.store) (pairs_tried calls ++ recoverable next) all (λ c one. with_all adds next calls (recoverable old) c (one_of (pairs_tried calls) (recoverable next) front c (first.reads c) one)) more.0),
        more.1,
      )

  since : (old new : Disk S) (calls : List (Option Documents × Disk S)) → IsTrue (facts old.store).honest → IsCrashConsistent facts old → DiskCalls facts old calls new → (c : List ℕ) → (facts new.store).left_since (facts old.store).moment c → StandsForOne (pairs_tried calls ++ recoverable old) c
  since old new calls so crash_consistent are c left =
      Crash-since (facts old.store) (facts new.store) (pairs_tried calls ++ recoverable old) (timely old.store so) (λ d may. one_later (pairs_tried calls) (recoverable old) d (crash_consistent so d may)) (calls_leave old calls new so crash_consistent are).0 c left

  pub crash_law : CrashLaw facts
  unfolding since
  crash_law = record {
    since = since;
    acknowledged = λ pair old next new calls so commits are c left.
        let now : IsTrue (facts next.store).honest = subst IsTrue (sym commits.honest) so in
        let is = commits.ok so in
        let same : recoverable next ≡ pair ∷ [] = λ i. is.0 i ∷ is.1 i in
        subst (λ ds. StandsForOne (pairs_tried calls ++ ds) c) same (since next new calls now commits.crash_consistent are c left);
    now = λ old new calls so crash_consistent are. (calls_leave old calls new so crash_consistent are).1;
  }
