-- From the plan of an edit to what making it comes to.
use Rattle.std.proofs.Common.{◌≡◌, Bool, true, false, Err, MatchResult, Ok, Result, inl, inr, refl, sym, ap, ◌∙◌}
use Rattle.std.proofs.lemmas.Bool.{true≢false}
use Rattle.geos_model.specs.Machine.{kind_of}
use Rattle.geos_model.specs.Meaning.{conditions}
use Rattle.geos_model.specs.declared.command.Done.{Done}
use Rattle.geos_model.specs.declared.command.Done.TheVariants.{Nothing}
use Rattle.geos_model.specs.declared.command.Edit.{Edit}
use Rattle.geos_model.specs.declared.command.Kind.TheVariants.{Made, Plain}
use Rattle.geos_model.specs.declared.fault.Fault.{Fault}
use Rattle.geos_model.specs.declared.fault.Fault.TheVariants.{Memory}
use Rattle.vm_store.specs.Facts.{StoreFacts}
use Rattle.vm_blocks.specs.Keeping.{IsEnvironmentFault, KeepsBlocks}
use Rattle.vm_blocks.specs.Preparing.{IsApplied}
use Rattle.vm_blocks.specs.State.{CacheState}
use Rattle.vm_blocks.specs.declared.change.Change.{Change}
use Rattle.vm_blocks.proofs.KeepingLaws.{honest-steady, keeps-trans, lacks-later, lacks-memory}
use Rattle.doc_edits.specs.Planning.{PlansEdit}
use Rattle.doc_edits.specs.RunPlans.{MakesAsRun}
use Rattle.undo_log.specs.Logging.{LogState, with_change}
use Rattle.undo_log.specs.Making.{MakesEdit, RecordsEdit}
use Rattle.undo_log.proofs.Edited.{IsSurelyMade, made_at_rest, made_of_plan, never_refused, none_come_in, reads_chain}

module _ {S : Type 0} (facts : S → StoreFacts) (old mid : CacheState S) (edit : Edit) where
  -- it isn't planned
  pub unplanned : (fault : Fault) → PlansEdit facts old mid edit (Err fault) → MakesEdit facts edit old mid (Err fault)
  unplanned fault plan = record {
    ok = tt;
    err = plan.keeps;
    refusals = plan.refusals;
    rules = λ so. plan.planned (λ _. honest-steady facts old.disk.store so);
    plain = λ is. let kept = plan.plain is in (ap (λ (x : CacheState S). x.disk) kept.0, kept.1);
    shut = plan.shut;
    unseen = plan.unseen;
    already = λ other nothing. let kept = plan.already nothing in (kept.0, (kept.1, kept.2));
  }

  module _ (change : Change) (done : Done) (plan : PlansEdit facts old mid edit (Ok (change, done))) where
    -- there is no memory for its record
    pub unrecorded : MakesEdit facts edit old mid (Err Memory)
    unrecorded = record {
      ok = tt;
      err = plan.keeps;
      refusals = inl (inl (lacks-memory facts old.disk.store mid.disk.store));
      rules = λ _. inl (lacks-memory facts old.disk.store mid.disk.store);
      plain = λ is. let kept = plan.plain is in (ap (λ (x : CacheState S). x.disk) kept.0, inl refl);
      shut = λ out. absurd (true≢false (sym out ∙ plan.room));
      unseen = λ unread. absurd (plan.unseen unread).1;
      already = λ other nothing. let kept = plan.already nothing in (kept.0, (kept.1, inl refl));
    }

    module _ (new : CacheState S) (result : Result (Unit {0}) Fault) (sure : IsSurelyMade change mid new result) where
      -- its change isn't made
      pub unmade : (fault : Fault) → result ≡ Err fault → KeepsBlocks facts mid new → IsEnvironmentFault facts mid.disk.store new.disk.store fault → MakesEdit facts edit old new (Err fault)
      unmade fault was keeps lacking =
          let lacks = lacks-later facts old mid new.disk.store fault plan.keeps lacking in
          record {
            ok = tt;
            err = keeps-trans facts old mid new plan.keeps keeps;
            refusals = inl (inl lacks);
            rules = λ so. inl lacks;
            plain = λ is. absurd (never_refused edit change mid new fault result was plan.kind (λ made. let no : Plain ≡ Made = sym is ∙ made in absurd (cc no)) sure);
            shut = λ out. absurd (true≢false (sym out ∙ plan.room));
            unseen = λ unread. absurd (plan.unseen unread).1;
            already = λ other nothing. absurd (never_refused edit change mid new fault result was plan.kind other sure);
          }

      -- it is made
      pub made : IsApplied facts change mid new → MakesEdit facts edit old new (Ok (change, done))
      made makes = record {
        ok = made_of_plan facts old mid plan.keeps edit change done new result plan.ready plan.room plan.kind plan.planned sure makes;
        err = tt;
        refusals = tt;
        rules = λ so. tt;
        plain = λ is.
            let same = sure (none_come_in change (kind_of edit) plan.kind (λ made. let no : Plain ≡ Made = sym is ∙ made in absurd (cc no))) in
            (same.1 ∙ ap (λ (x : CacheState S). x.disk) (plan.plain is).0, tt);
        shut = λ out. absurd (true≢false (sym out ∙ plan.room));
        unseen = λ unread. absurd (plan.unseen unread).1;
        already = λ other nothing.
            let unchanged = plan.already nothing in
            let planned = plan.planned (λ chain. absurd (reads_chain old edit (conditions edit old.document) nothing chain)) in
            made_at_rest facts old mid plan.keeps edit change done new result unchanged.0 unchanged.1 other planned sure;
      }

-- An edit that replaces a run is made and recorded in one; any other changes nothing.

abbrev pub IsRunMade : {S : Type 0} → (S → StoreFacts) → Edit → CacheState S → CacheState S → LogState → LogState → Bool → Type 0
IsRunMade facts edit old new log log' true = RecordsEdit facts edit old new log.lists log'.lists Nothing
IsRunMade facts edit old new log log' false = (new ≡ old) × (log' ≡ log)

abbrev pub MakesRun : {S : Type 0} → (S → StoreFacts) → Edit → CacheState S → CacheState S → LogState → LogState → Result Bool Fault → Type 0
MakesRun facts edit old new log log' result =
    MatchResult result (IsRunMade facts edit old new log log') (λ fault. MakesEdit facts edit old new (Err fault) × (log'.lists ≡ log.lists))

pub as_run : {S : Type 0} (facts : S → StoreFacts) (old new : CacheState S) (edit : Edit) (log log' : LogState) (r : Result Bool Fault)
    → MakesAsRun facts (λ from change to. to.lists ≡ with_change change from.lists) (λ from to. to.lists ≡ from.lists) edit old new log log' r → MakesRun facts edit old new log log' r
as_run facts old new edit log log' (Ok true) (run, made_so) = record {
  change = made_so.change;
  makes = made facts old made_so.loaded edit made_so.change Nothing made_so.plans new (Ok tt) (λ _. (refl, made_so.disk, made_so.document)) made_so.makes;
  newest = made_so.recorded;
}
as_run facts old new edit log log' (Ok false) (none, same, kept) = (same, kept)
as_run facts old new edit log log' (Err fault) (plans, inl same) = (unplanned facts old new edit fault plans, ap (λ (l : LogState). l.lists) same)
as_run facts old new edit log log' (Err fault) (plans, inr same) = (unplanned facts old new edit fault plans, same)
