-- Elements that are to be lent, by what is found of their root and of their branch.
use Rattle.std.proofs.Common.{◌≡◌, ◌≢◌, ◌⊎◌, ℕ, suc, ◌+◌, ◌-◌, ◌*◌, ◌<◌, ◌≤◌, nat_le, nat_lt, Bool, true, false, not, cond, ◌==◌, ◌&&◌, ◌||◌, List, [], ◌∷◌, ◌++◌, length, take, drop, get_or, replicate, Option, Some, None, unwrap_or, is_none, Result, Ok, Err, IfOk, IfErr, MatchResult, refl, sym, ap, ◌∙◌, inl, inr, arith, length-drop, lt-ltb, ltb-true, ltb-false, leb-true, leb-false}
use Rattle.std.proofs.Math.Seq.{drop-cons}
use Rattle.std.proofs.lemmas.Bool.{and_parts, cases_Bool, ne_eqb, true≢false}
use Rattle.std.proofs.lemmas.List.{drop-append-le, drop-drop, get_or-map, get_or_past, take_all, take_at}
use Rattle.std.proofs.lemmas.Result.{IfErr-weaker, MatchResult-weaker}
use Rattle.std.specs.List.{list_all}
use Rattle.std.specs.Result.{IsErrAnd}
use Rattle.geos_model.specs.Array.{Array, array_bytes}
use Rattle.geos_model.specs.Document.{Document, is_live, is_raw, raw_bytes_of}
use Rattle.geos_model.specs.Heap.{capacity}
use Rattle.geos_model.specs.LargeBlocks.{root_at, branch_at, pieces_at}
use Rattle.geos_model.specs.LargeEdits.{get_large_conditions, large_run, read_large_conditions, run_places}
use Rattle.geos_model.specs.LargeLayout.{Root, greatest_element_size, is_root, root_of, total_count}
use Rattle.geos_model.specs.LargeWindow.{are_branches}
use Rattle.geos_model.specs.Meaning.{on_raw}
use Rattle.geos_model.specs.Pieces.{BranchPiece, elements_in_pieces}
use Rattle.geos_model.specs.Refusal.{Conditions, first_refusal}
use Rattle.geos_model.specs.Spread.{start_place}
use Rattle.geos_model.specs.declared.fault.Fault.{Fault}
use Rattle.geos_model.specs.declared.fault.Fault.TheVariants.{CacheFull, NoBlock, WrongKind, NotArray, NoElement, Range, BadChain}
use Rattle.geos_model.proofs.Arrays.{joined}
use Rattle.geos_model.proofs.FirstRefusals.{passed}
use Rattle.geos_model.proofs.RootBytes.{root_of-read}
use Rattle.vm_store.specs.Facts.{StoreFacts}
use Rattle.vm_blocks.specs.State.{CacheState}
use Rattle.vm_blocks.specs.Keeping.{KeepsBlocks, IsEnvironmentFault, IsHonest, is_full}
use Rattle.vm_blocks.specs.Kinds.{IsWrongBlock}
use Rattle.vm_blocks.proofs.KeepingLaws.{keeps-refl}
use Rattle.large_arrays.specs.LargeRuns.{IsRunRefusal}
use Rattle.doc_edits.specs.Found.{AreLate}
use Rattle.doc_edits.specs.LookUps.{IsArrayRootFault}
use Rattle.doc_edits.specs.Room.{IsRefusedEarly}
use Rattle.doc_edits.proofs.LargeLookUps.{run_why}
use Rattle.doc_edits.proofs.Refusals.{accepted_so, handed_on}
use Rattle.doc_edits.proofs.RoomLemmas.{begun_refused, early_of_chain, never_unseen, unseen_first}
use Rattle.large_arrays.specs.LentRuns.{IsRunLoaded, IsRunPlace}
use Rattle.large_arrays.specs.declared.lent_runs.RunPlace.{RunPlace}
use Rattle.large_arrays.proofs.LentRuns.{RefusesRun}
use Rattle.doc_edits.specs.LentRuns.{FindsRun}

-- Elements are refused before any block is looked into, or found, or refused on the way.
module _ {S : Type 0} (facts : S → StoreFacts) (a : CacheState S) (b i : ℕ) (r : Result RunPlace Fault) where
  pub run_refused : (fault : Fault) → IsErrAnd r (λ e. e ≡ fault) → ((rest : Conditions) → AreLate rest → first_refusal ((CacheFull, is_full a) ∷ on_raw a.document b ++ rest) ≡ Some fault)
      → IsRefusedEarly (IsWrongBlock is_raw a.document b) (is_full a) fault → FindsRun facts a a b i r
  run_refused fault is refuses early =
      let first = begun_refused b (λ d. read_large_conditions d b i 1) (λ d. (_, refl, refl)) a.document (is_full a) fault refuses in
      handed_on (FindsRun facts a a b i) r fault is
      (record {
        keeps = keeps-refl facts a;
        value = λ steady. inr first;
        ready = tt;
        room = tt;
        shut = λ full. (refl, ap (λ (out : Bool). first_refusal ((CacheFull, out) ∷ read_large_conditions a.document b i 1)) (sym full) ∙ first);
        unseen = λ unseen. (refl, unseen_first (is_full a) (read_large_conditions a.document b i 1) fault unseen first);
        refusals =
            early_of_chain (IsEnvironmentFault facts a.disk.store a.disk.store) (IsArrayRootFault (NotArray ∷ NoElement ∷ Range ∷ []) a.document b) (is_full a) fault
            (elim early as (λ _. IsRefusedEarly (IsArrayRootFault (NotArray ∷ NoElement ∷ Range ∷ []) a.document b) (is_full a) fault) [
              | inl wrong ↦ inl (inl wrong)
              | inr full ↦ inr full
            ]);
      })

  pub run_found : (e : CacheState S) → is_full a ≡ false → is_raw a.document b ≡ true → KeepsBlocks facts a e
      → (IsHonest facts a.disk.store → MatchResult r (IsRunPlace e.document b i) (RefusesRun (IsEnvironmentFault facts a.disk.store e.disk.store) e.document b i))
      → IfOk r (IsRunLoaded e) → IfErr r (IsRunRefusal (IsEnvironmentFault facts a.disk.store e.disk.store) a.document b) → FindsRun facts a e b i r
  run_found e room raw keeps value ready refusals =
      let lacks = IsEnvironmentFault facts a.disk.store e.disk.store in
      record {
        keeps = keeps;
        value = λ steady. MatchResult-weaker r (value steady) (λ place is. is) (λ fault why. elim why as (λ _. lacks fault ⊎ (first_refusal ((CacheFull, is_full a) ∷ read_large_conditions e.document b i 1) ≡ Some fault)) [
          | inl lack ↦ inl lack
          | inr first ↦ inr (passed CacheFull (is_full a) (read_large_conditions e.document b i 1) room ∙ first)
        ]);
        ready = ready;
        room = accepted_so r (is_full a ≡ false) room;
        shut = λ full. absurd (true≢false (sym full ∙ room));
        unseen = λ unseen. absurd (never_unseen b (λ d. read_large_conditions d b i 1) (λ d. (_, refl, refl)) a.document raw unseen);
        refusals = IfErr-weaker r _ _ (λ fault why. inl (run_why lacks a.document b (NotArray ∷ NoElement ∷ Range ∷ []) refl refl refl fault why)) refusals;
      }
