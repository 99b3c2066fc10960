-- How the promises of a document file are passed on.
use Rattle.std.proofs.Common.{◌≡◌, ◌⊎◌, ℕ, Bool, IsTrue, List, [], ◌∷◌, Option, None, Some, is_some, true, refl, sym, ap, subst, ◌∙◌, arith, inl, inr}
use Rattle.std.specs.Prelude.{◌+◌, Result, Ok, Err, MatchResult}
use Rattle.std.proofs.lemmas.Result.{on_ok_weaker, on_err_weaker}
use Rattle.vm_store.specs.Facts.{StoreFacts, IsTimely}
use Rattle.geos_model.specs.Document.{Document}
use Rattle.geos_model.specs.declared.fault.Fault.{Fault}
use Rattle.document_file.specs.Documents.{Documents}
use Rattle.document_file.specs.Disk.{Disk, recoverable, StandsForOne, CrashLeavesOne, IsCrashConsistent, HasSequence, Crash, SameUnlessCorrupt, MarkSameUnlessCorrupt, unmarked, IsInDoubt, KeepsCommitted, LeavesNoTrace, MayCommit}
use Rattle.document_file.specs.Passing.{PassingLaw}
use Rattle.document_file.proofs.ResultLemmas.{on_ok_both, on_err_both}

pub SameUnlessCorrupt-refl : (honest : Bool) (d : Document) → SameUnlessCorrupt honest d d
SameUnlessCorrupt-refl honest d = record { live = λ h. refl; attributes = λ h. refl; kinds = λ h. refl; map_block = refl; same = λ _. refl }

pub SameUnlessCorrupt-trans : (honest : Bool) (a b c : Document) → SameUnlessCorrupt honest a b → SameUnlessCorrupt honest b c → SameUnlessCorrupt honest a c
SameUnlessCorrupt-trans honest a b c p q = record {
  live = λ h. q.live h ∙ p.live h;
  attributes = λ h. q.attributes h ∙ p.attributes h;
  kinds = λ h. q.kinds h ∙ p.kinds h;
  map_block = q.map_block ∙ p.map_block;
  same = λ so. q.same so ∙ p.same so;
}

-- the marked document
pub MarkSameUnlessCorrupt-refl : (honest : Bool) (marked : Option Document) → MarkSameUnlessCorrupt honest marked marked
MarkSameUnlessCorrupt-refl honest None = refl
MarkSameUnlessCorrupt-refl honest (Some d) = (d, refl, SameUnlessCorrupt-refl honest d)

pub MarkSameUnlessCorrupt-trans : (honest : Bool) (a b c : Option Document) → MarkSameUnlessCorrupt honest a b → MarkSameUnlessCorrupt honest b c → MarkSameUnlessCorrupt honest a c
MarkSameUnlessCorrupt-trans honest None b c p q = let then : MarkSameUnlessCorrupt honest None c = subst (λ m. MarkSameUnlessCorrupt honest m c) p q in then
MarkSameUnlessCorrupt-trans honest (Some d) b c (e, is, p) q =
    let then : MarkSameUnlessCorrupt honest (Some e) c = subst (λ m. MarkSameUnlessCorrupt honest m c) is q in
    (then.0, then.1, SameUnlessCorrupt-trans honest d e then.0 p then.2)

-- it is still there
pub still_marked : (honest : Bool) (a b : Option Document) → MarkSameUnlessCorrupt honest a b → is_some a ≡ true → is_some b ≡ true
still_marked honest None b unless_corrupt some = absurd (cc some)
still_marked honest (Some d) b (e, is, unless_corrupt) some = ap is_some is

-- and is brought back as it was
pub brought_back : (honest : Bool) (d e : Document) (b : Option Document) → MarkSameUnlessCorrupt honest (Some d) b → Some e ≡ b → SameUnlessCorrupt honest d e
brought_back honest d e b (f, is, unless_corrupt) back = let same : f ≡ e = cc (is, back) in subst (SameUnlessCorrupt honest d) same unless_corrupt

pub Crash-refl : (a : StoreFacts) (pairs : List Documents) → Crash a a pairs
Crash-refl a pairs = record { later = omega arith; each = λ t c le left. inl left }

-- the same pairs all along
pub Crash-trans : (a b c : StoreFacts) (pairs : List Documents) → Crash a b pairs → Crash b c pairs → Crash a c pairs
Crash-trans a b c pairs p q = record {
  later = omega (arith, p.later, q.later);
  each = λ t f le left. elim (q.each t f (omega (arith, p.later)) left) as (λ _. a.left_since t f ⊎ StandsForOne pairs f) [ inl before ↦ p.each t f le before | inr now ↦ inr now ];
}

-- more pairs
pub Crash-more : (a b : StoreFacts) (xs ys : List Documents) → ((c : List ℕ) → StandsForOne xs c → StandsForOne ys c) → Crash a b xs → Crash a b ys
Crash-more a b xs ys more p = record {
  later = p.later;
  each = λ t f le left. elim (p.each t f le left) as (λ _. a.left_since t f ⊎ StandsForOne ys f) [ inl before ↦ inl before | inr now ↦ inr (more f now) ];
}

-- since a moment at which a crash left one of these
pub Crash-since : (a b : StoreFacts) (pairs : List Documents) → IsTimely a → CrashLeavesOne a pairs → Crash a b pairs → (c : List ℕ) → b.left_since a.moment c → StandsForOne pairs c
Crash-since a b pairs timely crash_consistent p c left =
    elim (p.each a.moment c (omega arith) left) as (λ _. StandsForOne pairs c) [ inl before ↦ crash_consistent c (timely.only_now c before) | inr now ↦ now ]

module _ {S : Type 0} (facts : S → StoreFacts) where
  tried_unmarked : (pair : Documents) (a : Disk S) → IsInDoubt facts pair a → IsInDoubt facts pair (unmarked a)
  tried_unmarked pair a is = record { in_doubt = is.in_doubt; gate = is.gate }

  pub KeepsCommitted-refl : (a : Disk S) → KeepsCommitted facts a a
  KeepsCommitted-refl a = record { honest = refl; failures = omega arith; updated = λ _. refl; saved = λ _. refl; in_doubt = λ _. refl; tried = λ so pair is. is; sequence = refl; marked = MarkSameUnlessCorrupt-refl _ a.marked; numbered = λ so none is. is; crash = λ _. Crash-refl _ _; checksums = refl }

  -- the mark left aside
  pub KeepsCommitted-unmarked : (a b : Disk S) → KeepsCommitted facts a b → KeepsCommitted facts (unmarked a) (unmarked b)
  KeepsCommitted-unmarked a b p = record {
    honest = p.honest;
    failures = p.failures;
    updated = p.updated;
    saved = p.saved;
    in_doubt = p.in_doubt;
    tried = λ so pair is. tried_unmarked pair b (p.tried so pair (record { in_doubt = is.in_doubt; gate = is.gate }));
    sequence = p.sequence;
    marked = refl;
    numbered = p.numbered;
    crash = p.crash;
    checksums = p.checksums;
  }

  pub MayCommit-unmarked : (a b : Disk S) (pair : Documents) (result : Result (Unit {0}) Fault) → MayCommit facts pair a b result → MayCommit facts pair (unmarked a) (unmarked b) result
  MayCommit-unmarked a b pair result p = record {
    honest = p.honest;
    failures = p.failures;
    crash = p.crash;
    crash_consistent = p.crash_consistent;
    ok = p.ok;
    err = p.err;
    adds = on_err_weaker result (λ given so. elim (given so) as (λ _. IsInDoubt facts pair (unmarked b) ⊎ LeavesNoTrace facts (unmarked a) (unmarked b)) [
      | inl tried ↦ inl (tried_unmarked pair b tried)
      | inr none ↦ inr (record { crash = none.crash; in_doubt = none.in_doubt })
    ]) p.adds;
    numbered = p.numbered;
    still_numbered = p.still_numbered;
    sequence = p.sequence;
    marked = refl;
    checksums = p.checksums;
  }

  pub same_readable : (a b : Disk S) → KeepsCommitted facts a b → IsTrue (facts a.store).honest → recoverable b ≡ recoverable a
  same_readable a b p so = λ i. (p.updated so i, p.saved so i) ∷ p.in_doubt so i

  both_drift : (a b c : Disk S) → (facts b.store).honest ≡ (facts a.store).honest → MarkSameUnlessCorrupt (facts a.store).honest a.marked b.marked → MarkSameUnlessCorrupt (facts b.store).honest b.marked c.marked → MarkSameUnlessCorrupt (facts a.store).honest a.marked c.marked
  both_drift a b c same p q = MarkSameUnlessCorrupt-trans _ a.marked b.marked c.marked p (subst (λ t. MarkSameUnlessCorrupt t b.marked c.marked) same q)

  still : (a b : Disk S) → (facts b.store).honest ≡ (facts a.store).honest → IsTrue (facts a.store).honest → IsTrue (facts b.store).honest
  still a b same so = subst IsTrue (sym same) so

  pub KeepsCommitted-trans : (a b c : Disk S) → KeepsCommitted facts a b → KeepsCommitted facts b c → KeepsCommitted facts a c
  KeepsCommitted-trans a b c p q = record {
    honest = q.honest ∙ p.honest;
    failures = omega (arith, p.failures, q.failures);
    updated = λ so. q.updated (still a b p.honest so) ∙ p.updated so;
    saved = λ so. q.saved (still a b p.honest so) ∙ p.saved so;
    in_doubt = λ so. q.in_doubt (still a b p.honest so) ∙ p.in_doubt so;
    tried = λ so pair is. q.tried (still a b p.honest so) pair (p.tried so pair is);
    sequence = q.sequence ∙ p.sequence;
    marked = both_drift a b c p.honest p.marked q.marked;
    numbered = λ so none is. q.numbered (still a b p.honest so) (p.in_doubt so ∙ none) (p.numbered so none is);
    crash = λ so.
        let P : List Documents → Type 0 = λ ds. Crash (facts b.store) (facts c.store) ds in
        Crash-trans _ _ _ _ (p.crash so) (subst P (same_readable a b p so) (q.crash (still a b p.honest so)));
    checksums = q.checksums ∙ p.checksums;
  }

  -- the number stays, where no other pair may be read
  KeepsCommitted-numbered : (a b : Disk S) → KeepsCommitted facts a b → IsTrue (facts a.store).honest → (a.in_doubt ≡ [] → HasSequence (facts a.store) a.sequence) → b.in_doubt ≡ [] → HasSequence (facts b.store) b.sequence
  KeepsCommitted-numbered a b p so was none = let before = sym (p.in_doubt so) ∙ none in p.numbered so before (was before)

  -- what a crash may leave stays one of what may be read
  pub KeepsCommitted-crash_consistent : (a b : Disk S) → IsTimely (facts a.store) → IsTimely (facts b.store) → KeepsCommitted facts a b → IsCrashConsistent facts a → IsCrashConsistent facts b
  KeepsCommitted-crash_consistent a b timely later p crash_consistent so c left =
      let before : IsTrue (facts a.store).honest = subst IsTrue p.honest so in
      let P : List Documents → Type 0 = λ ds. StandsForOne ds c in
      let since = later.counts_now (facts a.store).moment c (p.crash before).later left in
      subst P (sym (same_readable a b p before)) (Crash-since (facts a.store) (facts b.store) (recoverable a) timely (crash_consistent before) (p.crash before) c since)

  -- what adds nothing makes no more readable
  pub fewer_readable : (a b : Disk S) (c : List ℕ) → (b.updated ≡ a.updated) × (b.saved ≡ a.saved) → (b.in_doubt ≡ a.in_doubt) ⊎ (b.in_doubt ≡ []) → StandsForOne (recoverable b) c → StandsForOne (recoverable a) c
  fewer_readable a b c same less one =
      let P : List Documents → Type 0 = λ ds. StandsForOne ds c in
      elim one as (λ _. StandsForOne (recoverable a) c) [
        | inl here ↦ inl (here ∙ (λ i. Ok (same.0 i, same.1 i)))
        | inr more ↦ elim less as (λ _. StandsForOne (recoverable a) c) [ inl kept ↦ inr (subst P kept more) | inr none ↦ absurd (subst P none more) ]
      ]

  KeepsCommitted-adds : (a b : Disk S) → KeepsCommitted facts a b → IsTrue (facts a.store).honest → LeavesNoTrace facts a b
  KeepsCommitted-adds a b p so = record { crash = p.crash so; in_doubt = inl (p.in_doubt so) }

  -- a commit that is refused before anything is done
  pub MayCommit-refused : (a : Disk S) (pair : Documents) (f : Fault) → IsCrashConsistent facts a → MayCommit facts pair a a (Err f)
  MayCommit-refused a pair f crash_consistent = record {
    honest = refl;
    failures = omega arith;
    crash = λ _. Crash-refl _ _;
    crash_consistent = crash_consistent;
    ok = tt;
    numbered = tt;
    still_numbered = λ _ was none. was none;
    err = λ _. (refl, refl);
    adds = λ _. inr (record { crash = Crash-refl _ _; in_doubt = inl refl });
    sequence = refl;
    marked = MarkSameUnlessCorrupt-refl _ a.marked;
    checksums = refl;
  }

  -- calls that commit nothing, before a commit that isn't tried
  pub KeepsCommitted-fails : (a b : Disk S) (pair : Documents) (f : Fault) → KeepsCommitted facts a b → IsCrashConsistent facts b → MayCommit facts pair a b (Err f)
  KeepsCommitted-fails a b pair f p crash_consistent = record {
    honest = p.honest;
    failures = p.failures;
    crash = λ so. Crash-more _ _ (recoverable a) (pair ∷ recoverable a) (λ c one. inr one) (p.crash so);
    crash_consistent = crash_consistent;
    ok = tt;
    numbered = tt;
    still_numbered = λ so was none. KeepsCommitted-numbered a b p so was none;
    err = λ so. (p.updated so, p.saved so);
    adds = λ so. inr (KeepsCommitted-adds a b p so);
    sequence = p.sequence;
    marked = p.marked;
    checksums = p.checksums;
  }

  -- calls that commit nothing, and then one of which nothing can be read
  KeepsCommitted-LeavesNoTrace : (a b c : Disk S) → KeepsCommitted facts a b → IsTrue (facts a.store).honest → LeavesNoTrace facts b c → LeavesNoTrace facts a c
  KeepsCommitted-LeavesNoTrace a b c p so none =
      let P : List Documents → Type 0 = λ ds. Crash (facts b.store) (facts c.store) ds in
      record {
        crash = Crash-trans _ _ _ _ (p.crash so) (subst P (same_readable a b p so) none.crash);
        in_doubt = elim none.in_doubt as (λ _. (c.in_doubt ≡ a.in_doubt) ⊎ (c.in_doubt ≡ [])) [ inl kept ↦ inl (kept ∙ p.in_doubt so) | inr empty ↦ inr empty ];
      }

  -- calls that commit nothing, and then one that tries
  pub KeepsCommitted-MayCommit : (a b c : Disk S) (first then : Documents) (result : Result (Unit {0}) Fault) → KeepsCommitted facts a b → (IsTrue (facts a.store).honest → then ≡ first) → MayCommit facts then b c result → MayCommit facts first a c result
  KeepsCommitted-MayCommit a b c first then result p same q =
      let now = still a b p.honest in
      record {
        honest = q.honest ∙ p.honest;
        failures = omega (arith, p.failures, q.failures);
        crash = λ so.
            let P : List Documents → Type 0 = λ ds. Crash (facts b.store) (facts c.store) ds in
            let are : then ∷ recoverable b ≡ first ∷ recoverable a = λ i. same so i ∷ same_readable a b p so i in
            Crash-trans _ _ _ _ (Crash-more _ _ (recoverable a) (first ∷ recoverable a) (λ f one. inr one) (p.crash so)) (subst P are (q.crash (now so)));
        crash_consistent = q.crash_consistent;
        ok = on_ok_weaker result (λ given so. ((given (now so)).0 ∙ same so, (given (now so)).1)) q.ok;
        numbered = on_ok_weaker result (λ given so. given (now so)) q.numbered;
        still_numbered = on_err_weaker result (λ given so was none. given (now so) (KeepsCommitted-numbered a b p so was) none) q.still_numbered;
        err = on_err_weaker result (λ given so. ((given (now so)).0 ∙ p.updated so, (given (now so)).1 ∙ p.saved so)) q.err;
        adds = on_err_weaker result (λ given so. elim (given (now so)) as (λ _. IsInDoubt facts first c ⊎ LeavesNoTrace facts a c) [
          | inl tried ↦ inl (subst (λ d. IsInDoubt facts d c) (same so) tried)
          | inr none ↦ inr (KeepsCommitted-LeavesNoTrace a b c p so none)
        ]) q.adds;
        sequence = subst (λ n. MatchResult result (λ _. c.sequence ≡ n + 1) (λ _. c.sequence ≡ n)) p.sequence q.sequence;
        marked = both_drift a b c p.honest p.marked q.marked;
        checksums = q.checksums ∙ p.checksums;
      }

  -- what a commit that was tried may make readable
  pub commit_readable : (pair : Documents) (a b : Disk S) (result : Result (Unit {0}) Fault) (c : List ℕ) → MayCommit facts pair a b result → IsTrue (facts a.store).honest → StandsForOne (recoverable b) c → StandsForOne (pair ∷ recoverable a) c
  commit_readable pair a b (Ok done) c commits so one =
      let is = commits.ok so in
      let P : List Documents → Type 0 = λ ds. StandsForOne ds c in
      let same : recoverable b ≡ pair ∷ [] = λ i. is.0 i ∷ is.1 i in
      elim (subst P same one) as (λ _. StandsForOne (pair ∷ recoverable a) c) [ inl here ↦ inl here | inr none ↦ absurd none ]
  commit_readable pair a b (Err fault) c commits so one =
      let same = commits.err so in
      elim (commits.adds so) as (λ _. StandsForOne (pair ∷ recoverable a) c) [
        | inl tried ↦ elim one as (λ _. StandsForOne (pair ∷ recoverable a) c) [
          | inl here ↦ inr (inl (here ∙ (λ i. Ok (same.0 i, same.1 i))))
          | inr more ↦ elim (subst (λ ds. StandsForOne ds c) tried.in_doubt more) as (λ _. StandsForOne (pair ∷ recoverable a) c) [ inl here ↦ inl here | inr none ↦ absurd none ]
        ]
        | inr none ↦ inr (fewer_readable a b c same none.in_doubt one)
      ]

  -- one that tries, and then calls that commit nothing
  module _ (timely : (store : S) → IsTrue (facts store).honest → IsTimely (facts store)) where
    pub settled_after : (a b : Disk S) → KeepsCommitted facts a b → IsCrashConsistent facts a → IsCrashConsistent facts b
    settled_after a b p crash_consistent so =
        let before : IsTrue (facts a.store).honest = subst IsTrue p.honest so in
        KeepsCommitted-crash_consistent a b (timely a.store before) (timely b.store so) p crash_consistent so

    pub MayCommit-KeepsCommitted : (a b c : Disk S) (pair : Documents) (result : Result (Unit {0}) Fault) → MayCommit facts pair a b result → KeepsCommitted facts b c → MayCommit facts pair a c result
    MayCommit-KeepsCommitted a b c pair result p q =
        let now = still a b p.honest in
        let crash_consistent = settled_after b c q p.crash_consistent in
        record {
          honest = q.honest ∙ p.honest;
          failures = omega (arith, p.failures, q.failures);
          crash = λ so. Crash-trans _ _ _ _ (p.crash so) (Crash-more _ _ (recoverable b) (pair ∷ recoverable a) (λ f one. commit_readable pair a b result f p so one) (q.crash (now so)));
          crash_consistent = crash_consistent;
          ok = on_ok_weaker result (λ given so. ((λ i. (q.updated (now so) i, q.saved (now so) i)) ∙ (given so).0, q.in_doubt (now so) ∙ (given so).1)) p.ok;
          numbered = on_ok_both result (λ given ok so. q.numbered (now so) (ok so).1 (given so)) p.numbered p.ok;
          still_numbered = on_err_weaker result (λ given so was none. KeepsCommitted-numbered b c q (now so) (given so was) none) p.still_numbered;
          err = on_err_weaker result (λ given so. (q.updated (now so) ∙ (given so).0, q.saved (now so) ∙ (given so).1)) p.err;
          adds = on_err_both result (λ given same so. elim (given so) as (λ _. IsInDoubt facts pair c ⊎ LeavesNoTrace facts a c) [
            | inl tried ↦ inl (q.tried (now so) pair tried)
            | inr none ↦ inr (record {
              crash = Crash-trans _ _ _ _ none.crash (Crash-more _ _ (recoverable b) (recoverable a) (λ f one. fewer_readable a b f (same so) none.in_doubt one) (q.crash (now so)));
              in_doubt = elim none.in_doubt as (λ _. (c.in_doubt ≡ a.in_doubt) ⊎ (c.in_doubt ≡ [])) [ inl kept ↦ inl (q.in_doubt (now so) ∙ kept) | inr empty ↦ inr (q.in_doubt (now so) ∙ empty) ];
            })
          ]) p.adds p.err;
          sequence = subst (λ n. MatchResult result (λ _. n ≡ a.sequence + 1) (λ _. n ≡ a.sequence)) (sym q.sequence) p.sequence;
          marked = both_drift a b c p.honest p.marked q.marked;
          checksums = q.checksums ∙ p.checksums;
        }

    pub passing_law : PassingLaw facts
    passing_law = record {
      passes_none = KeepsCommitted-refl;
      passes_both = KeepsCommitted-trans;
      passes_settled = settled_after;
      passes_refused = λ a b pair fault crash_consistent p. KeepsCommitted-fails a b pair fault p (settled_after a b p crash_consistent);
      passes_commits = λ a b c meant pair result same p q. KeepsCommitted-MayCommit a b c meant pair result p same q;
      commits_passes = MayCommit-KeepsCommitted;
      drifts_none = SameUnlessCorrupt-refl;
      drifts_both = SameUnlessCorrupt-trans;
    }
