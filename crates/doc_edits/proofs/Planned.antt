-- What planning comes to, once the block that is needed was brought in or not.
use Rattle.std.proofs.Common.{◌≡◌, ◌⊎◌, ◌∷◌, [], ℕ, true, false, None, Some, Result, Ok, Err, IfOk, IfErr, MatchResult, inl, inr, refl, sym, ap, subst, ◌∙◌}
use Rattle.std.proofs.lemmas.Bool.{true≢false}
use Rattle.std.specs.Result.{IsErrAnd}
use Rattle.geos_model.specs.Document.{Document}
use Rattle.geos_model.specs.Machine.{NoBody, OneBody, edit_needs, kind_of, kind_of_scope, needs_of_scope}
use Rattle.geos_model.specs.Meaning.{conditions}
use Rattle.geos_model.specs.Scope.{Scope, scope_of}
use Rattle.geos_model.specs.Scope as scopes
use Rattle.geos_model.specs.Targets.{chain_edit, chunk_edit}
use Rattle.geos_model.specs.declared.command.Done.{Done}
use Rattle.geos_model.specs.declared.command.Edit.{Edit}
use Rattle.geos_model.specs.declared.command.Edit.TheVariants as edits
use Rattle.geos_model.specs.declared.command.Kind.TheVariants.{Plain, In}
use Rattle.geos_model.specs.declared.fault.Fault.{Fault}
use Rattle.geos_model.specs.declared.fault.Fault.TheVariants.{NoBlock, WrongKind}
use Rattle.geos_model.specs.declared.handle.ChunkHandle.{ChunkHandle}
use Rattle.geos_model.specs.declared.handle.VmHandle.{VmHandle}
use Rattle.geos_model.specs.declared.target.ChainEdit.{ChainEdit}
use Rattle.geos_model.specs.declared.target.ChainEdit.TheVariants as chain_edits
use Rattle.geos_model.specs.declared.target.ChunkEdit.{ChunkEdit}
use Rattle.vm_store.specs.Facts.{StoreFacts}
use Rattle.vm_blocks.specs.State.{CacheState}
use Rattle.vm_blocks.specs.Keeping.{KeepsBlocks, IsEnvironmentFault, is_loaded}
use Rattle.vm_blocks.specs.Preparing.{IsInMemory, CanCarryOut}
use Rattle.vm_blocks.specs.declared.change.Change.{Change}
use Rattle.vm_blocks.specs.declared.change.Change.TheVariants as changes
use Rattle.vm_blocks.proofs.KeepingLaws.{keeps-refl, lacks-memory}
use Rattle.vm_blocks.proofs.Preparing.{applies_listed, applies_takes}
use Rattle.doc_edits.specs.Planning.{freed_by, kind_of_change, IsManyBlocksFault, Plans, PlansAlongChain, PlansEdit, RefusesEdit, RefusesInMemory}
use Rattle.doc_edits.specs.Room.{lacks_frames, IsRefusedUnseen, ReadsNothing}
use Rattle.doc_edits.proofs.Loading.{IsBrought}
use Rattle.doc_edits.proofs.Refusals.{accepted_so, handed_on, may_lack}
use Rattle.doc_edits.proofs.Targets.{chunk_scope}

-- what an edit needs is nothing where its step is plain

needs_plain : (edit : Edit) → kind_of edit ≡ Plain → edit_needs edit ≡ NoBody
needs_plain (edits.SetUserId b uid) plain = refl
needs_plain (edits.SetType b heap_type) plain = refl
needs_plain (edits.SetMap b) plain = refl
needs_plain _ plain = absurd (cc plain)

-- and it is the block in whose body a step is made

in_scope : (scope : Scope) (b : VmHandle) → kind_of_scope scope ≡ In b → needs_of_scope scope ≡ OneBody b.0
in_scope (scopes.Raw x) b is = let same : x ≡ b = cc is in ap (λ (y : VmHandle). OneBody y.0) same
in_scope (scopes.Heap x) b is = let same : x ≡ b = cc is in ap (λ (y : VmHandle). OneBody y.0) same
in_scope (scopes.Chunk x c) b is = let same : x ≡ b = cc is in ap (λ (y : VmHandle). OneBody y.0) same
in_scope _ b is = absurd (cc is)

needs_inside : (edit : Edit) (b : VmHandle) → kind_of edit ≡ In b → edit_needs edit ≡ OneBody b.0
needs_inside (edits.FreeBlock x) b is = absurd (cc is)
needs_inside (edits.FreeChain x) b is = absurd (cc is)
needs_inside edit b is = in_scope (scope_of edit) b is

pub refused_so : {A : Type 0} (result : Result A Fault) (P : A → Type 0) (refused : Fault → Type 0) → MatchResult result P refused → IfErr result refused
refused_so (Ok x) P refused is = tt
refused_so (Err fault) P refused is = is

either_so : {A : Type 0} (result : Result A Fault) (P Q : Fault → Type 0) → IfErr result P → IfErr result (λ fault. P fault ⊎ Q fault)
either_so (Ok x) P Q is = tt
either_so (Err fault) P Q is = inl is

and_so : {A : Type 0} (result : Result A Fault) (P Q : Fault → Type 0) → ((fault : Fault) → P fault → Q fault) → IsErrAnd result P → IsErrAnd result Q
and_so (Ok x) P Q turn is = absurd is
and_so (Err fault) P Q turn is = turn fault is

-- what is refused unseen isn't planned
unplanned : (edit : Edit) (d : Document) (r : Result (Change × Done) Fault) → MatchResult r (λ p. Plans edit d p.0 p.1) (RefusesInMemory edit d) → IsRefusedUnseen (conditions edit d) → IsErrAnd r (RefusesInMemory edit d)
unplanned edit d (Ok p) plans (inl dead) = let no : None ≡ Some NoBlock = sym plans.accepted ∙ dead in absurd (cc no)
unplanned edit d (Ok p) plans (inr other) = let no : None ≡ Some WrongKind = sym plans.accepted ∙ other in absurd (cc no)
unplanned edit d (Err fault) refuses unseen = refuses

-- Where it needs no more than is there, and nothing but that block was brought in.
module _ {S : Type 0} (facts : S → StoreFacts) (edit : Edit) (a b : CacheState S) (keeps : KeepsBlocks facts a b) (room : lacks_frames a (edit_needs edit) ≡ false)
    (there : (x : ℕ) → edit_needs edit ≡ OneBody x → is_loaded b x ≡ true) (r : Result (Change × Done) Fault)
    (planned : MatchResult r (λ p. Plans edit b.document p.0 p.1) (RefusesInMemory edit b.document)) where
  in_memory : (change : Change) → kind_of_change change ≡ kind_of edit → IsInMemory change b
  in_memory (changes.Part x part) kind = there x.0 (needs_inside edit x (sym kind))
  in_memory (changes.BlocksIn ms) kind = tt
  in_memory (changes.BlocksOut ms) kind = tt
  in_memory (changes.Attributes x old new) kind = tt
  in_memory (changes.Map old new) kind = tt

  ready : (r : Result (Change × Done) Fault) → MatchResult r (λ p. Plans edit b.document p.0 p.1) (RefusesInMemory edit b.document)
      → IfOk r (λ p. CanCarryOut p.0 b) × IfOk r (λ p. kind_of_change p.0 ≡ kind_of edit)
  ready (Ok p) plans = (
    record {
      listed = applies_listed p.0 b.document plans.applies;
      takes = applies_takes p.0 b.document plans.applies;
      in_memory = in_memory p.0 plans.kind;
    },
    plans.kind,
  )
  ready (Err fault) is = (tt, tt)

  may_refuse : MatchResult r (λ p. Plans edit b.document p.0 p.1) (RefusesEdit (IsEnvironmentFault facts a.disk.store b.disk.store) (lacks_frames a (edit_needs edit)) edit b.document)
  may_refuse = may_lack (IsEnvironmentFault facts a.disk.store b.disk.store) (lacks_frames a (edit_needs edit)) edit b.document _ r room (lacks-memory facts a.disk.store b.disk.store) planned

  pub plans_there : ((x : VmHandle) → edit ≡ edits.FreeBlock x → IfOk r (λ p. freed_by p.0 ≡ x.0 ∷ [])) → (kind_of edit ≡ Plain → b ≡ a)
      → (IsRefusedUnseen (conditions edit a.document) → (b ≡ a) × IsErrAnd r (RefusesInMemory edit a.document))
      → (ReadsNothing a (edit_needs edit) (conditions edit a.document) → (b.disk ≡ a.disk) × (b.document ≡ a.document)) → PlansEdit facts a b edit r
  plans_there alone plain unseen already =
      let refused : IfErr r (RefusesInMemory edit b.document) = refused_so r _ (RefusesInMemory edit b.document) planned in
      record {
        keeps = keeps;
        planned = λ honest. may_refuse;
        ready = (ready r planned).0;
        room = accepted_so r (lacks_frames a (edit_needs edit) ≡ false) room;
        shut = λ out. absurd (true≢false (sym out ∙ room));
        unseen = unseen;
        kind = (ready r planned).1;
        alone = alone;
        refusals = either_so r (RefusesEdit (IsEnvironmentFault facts a.disk.store b.disk.store) (lacks_frames a (edit_needs edit)) edit b.document) (IsManyBlocksFault edit a.document) (refused_so r _ _ may_refuse);
        plain = λ is. (plain is, refused);
        already = λ nothing. let w = already nothing in (w.0, w.1, subst (λ (d : Document). IfErr r (RefusesInMemory edit d)) w.1 refused);
      }

-- An edit that needs no body.
module _ {S : Type 0} (facts : S → StoreFacts) (edit : Edit) (needs : edit_needs edit ≡ NoBody) (a : CacheState S) where
  pub plans_bare : (r : Result (Change × Done) Fault) → MatchResult r (λ p. Plans edit a.document p.0 p.1) (RefusesInMemory edit a.document) → PlansEdit facts a a edit r
  plans_bare r planned =
      plans_there facts edit a a (keeps-refl facts a) (ap (lacks_frames a) needs) (λ x one. let no : NoBody ≡ OneBody x = sym needs ∙ one in absurd (cc no)) r planned
      (λ x is. let no : NoBody ≡ OneBody x.0 = sym needs ∙ ap edit_needs is in absurd (cc no)) (λ plain. refl) (λ unseen. (refl, unplanned edit a.document r planned unseen)) (λ nothing. (refl, refl))

-- An edit that needs one.
module _ {S : Type 0} (facts : S → StoreFacts) (edit : Edit) (h : VmHandle) (needs : edit_needs edit ≡ OneBody h.0) (a b : CacheState S) (keeps : KeepsBlocks facts a b) where
  not_plain : kind_of edit ≡ Plain → ⊥
  not_plain plain = let no : NoBody ≡ OneBody h.0 = sym (needs_plain edit plain) ∙ needs in cc no

  -- it wasn't brought in
  missed : (fault : Fault) → IsBrought (IsEnvironmentFault facts a.disk.store b.disk.store) edit a b (Err fault) → PlansEdit facts a b edit (Err fault)
  missed fault brought = record {
    keeps = keeps;
    planned = λ honest. brought.err;
    ready = tt;
    room = tt;
    shut = brought.shut;
    unseen = λ unseen. let w = brought.unseen unseen in (w.0, inr w.1);
    kind = tt;
    alone = λ x is. tt;
    refusals = inl brought.err;
    plain = λ plain. absurd (not_plain plain);
    already = λ nothing. let w = brought.already nothing in (w.0, w.1, inr w.2);
  }

  pub plans_missed : (fault : Fault) → IsBrought (IsEnvironmentFault facts a.disk.store b.disk.store) edit a b (Err fault) → (r : Result (Change × Done) Fault) → IsErrAnd r (λ e. e ≡ fault) → PlansEdit facts a b edit r
  plans_missed fault brought r is = handed_on (PlansEdit facts a b edit) r fault is (missed fault brought)

  -- it was
  pub plans_brought : IsBrought (IsEnvironmentFault facts a.disk.store b.disk.store) edit a b (Ok tt) → is_loaded b h.0 ≡ true
      → (r : Result (Change × Done) Fault) → MatchResult r (λ p. Plans edit b.document p.0 p.1) (RefusesInMemory edit b.document)
      → ((x : VmHandle) → edit ≡ edits.FreeBlock x → IfOk r (λ p. freed_by p.0 ≡ x.0 ∷ [])) → PlansEdit facts a b edit r
  plans_brought brought loaded r planned alone =
      plans_there facts edit a b keeps brought.room (λ x one. let same : h.0 ≡ x = cc (sym needs ∙ one) in subst (λ (y : ℕ). is_loaded b y ≡ true) same loaded) r planned
      alone (λ plain. absurd (not_plain plain)) (λ unseen. absurd (brought.unseen unseen).1) (λ nothing. let w = brought.already nothing in (w.0, w.1))

-- An edit of a chunk, whose heap was brought in.
pub plans_chunk : {S : Type 0} (facts : S → StoreFacts) (h : VmHandle) (k : ChunkHandle) (edit : ChunkEdit) (a b : CacheState S) → KeepsBlocks facts a b
    → IsBrought (IsEnvironmentFault facts a.disk.store b.disk.store) (chunk_edit h k edit) a b (Ok tt) → is_loaded b h.0 ≡ true → (r : Result (Change × Done) Fault)
    → MatchResult r (λ p. Plans (chunk_edit h k edit) b.document p.0 p.1) (RefusesInMemory (chunk_edit h k edit) b.document) → PlansEdit facts a b (chunk_edit h k edit) r
plans_chunk facts h k edit a b keeps brought loaded r planned =
    let scope = chunk_scope h k edit in
    plans_brought facts (chunk_edit h k edit) h (ap needs_of_scope scope) a b keeps brought loaded r planned (λ x is. let no : scopes.Chunk h k ≡ scopes.Block x = sym scope ∙ ap scope_of is in absurd (cc no))

-- An edit of a chain.
pub plans_along : {S : Type 0} (facts : S → StoreFacts) (a b : CacheState S) (root : VmHandle) (edit : ChainEdit) (r : Result (Change × Done) Fault) → PlansAlongChain facts a b (chain_edit root edit) r → PlansEdit facts a b (chain_edit root edit) r
plans_along facts a b root chain_edits.Copy r plans = record {
  keeps = plans.keeps;
  planned = λ honest. plans.planned (honest refl);
  ready = plans.ready;
  room = plans.room;
  shut = plans.shut;
  unseen = λ unseen. let w = plans.unseen unseen in (w.0, and_so r _ _ (λ fault first. inr first) w.1);
  kind = plans.kind;
  alone = λ x is. absurd (cc is);
  refusals = plans.refusals;
  plain = λ plain. absurd (cc plain);
  already = λ nothing. absurd nothing;
}
plans_along facts a b root chain_edits.Free r plans = record {
  keeps = plans.keeps;
  planned = λ honest. plans.planned (honest refl);
  ready = plans.ready;
  room = plans.room;
  shut = plans.shut;
  unseen = λ unseen. let w = plans.unseen unseen in (w.0, and_so r _ _ (λ fault first. inr first) w.1);
  kind = plans.kind;
  alone = λ x is. absurd (cc is);
  refusals = plans.refusals;
  plain = λ plain. absurd (cc plain);
  already = λ nothing. absurd nothing;
}
