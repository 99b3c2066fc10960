-- A walk along a chain, step by step.
use Rattle.std.proofs.Common.{◌≡◌, ◌⊎◌, ◌==◌, ◌<◌, ◌≤◌, ◌-◌, ℕ, suc, List, [], ◌∷◌, Option, Some, None, MatchOption, true, false, length, get_or, refl, sym, ap, subst, ◌∙◌, inl, inr, arith}
use Rattle.std.specs.List.{list_any}
use Rattle.vm_store.specs.Facts.{StoreFacts}
use Rattle.vm_blocks.specs.State.{CacheState}
use Rattle.geos_model.specs.Chain.{chain, is_member}
use Rattle.geos_model.specs.Document.{Document, is_live, is_vm_handle}
use Rattle.geos_model.specs.declared.fault.Fault.{Fault}
use Rattle.geos_model.specs.declared.fault.Fault.TheVariants.{BadChain}
use Rattle.geos_model.specs.declared.handle.VmHandle.{VmHandle}
use Rattle.vm_blocks.specs.Keeping.{KeepsBlocks, IsHonest, IsEnvironmentFault}
use Rattle.vm_blocks.proofs.KeepingLaws.{keeps-refl, keeps-same, keeps-steady, keeps-trans, lacks-later}
use Rattle.vm_chains.specs.Numbers.{numbers}
use Rattle.vm_chains.specs.Stepping.{AreMet, HasMet, HasMetAll, HasPassed, IsAlong, IsAtRoot, IsBroken, IsOver, IsWalkStep}
use Rattle.vm_chains.specs.Walking.{IsChainWalk, Stops}
use Rattle.vm_chains.specs.declared.stepping.Walk.{Walk}
use Rattle.vm_chains.proofs.Loading.{still_live}
use Rattle.vm_chains.proofs.WalkLemmas.{member_live, met_blocks, none_met, one_met, root_met, root_there, same_walk, walk_begins, walk_breaks, walk_ends, walk_goes_on, walk_is_full, walk_turns}

-- The chain that a walk goes along.

pub at_root : (d : Document) (root : ℕ) (walk : Walk) → IsAtRoot root walk → IsAlong d root walk
at_root d root walk at = subst (λ (n : ℕ). IsChainWalk d root n walk.met walk.pending) (sym at.left) (walk_begins d root walk.met walk.pending at.met at.pending)

pub step_along : (d : Document) (root h : ℕ) (old new : Walk) → IsAlong d root old → IsWalkStep d h old new → IsAlong d root new
step_along d root h old new along step =
    let from = same_walk d root old.left (suc new.left) old.met old.pending (h ∷ step.rest) along (omega (arith, step.left)) step.next in
    let on = same_walk d root new.left new.left _ _ new.pending (walk_goes_on d root new.left old.met h step.rest from step.goes_on.member step.first_time) refl (sym step.goes_on.pending) in
    subst (λ (hs : List ℕ). IsChainWalk d root new.left hs new.pending) (sym step.met) on

pub over_along : (d : Document) (root : ℕ) (walk : Walk) → IsAlong d root walk → walk.pending ≡ [] → chain d root ≡ Some walk.met
over_along d root walk along none = walk_ends d root walk.left walk.met (same_walk d root walk.left walk.left walk.met walk.pending [] along refl none)

-- Why there may be none.

pub too_many : (d : Document) (walk : Walk) → walk.left < length walk.pending → IsBroken d walk
too_many d walk more = λ root along. walk_is_full d root walk.left walk.met walk.pending along more

pub met_again : (d : Document) (walk : Walk) (h : ℕ) (rest : List ℕ) → walk.pending ≡ h ∷ rest → length walk.pending ≤ walk.left → list_any (λ x. x == h) walk.met ≡ true → IsBroken d walk
met_again d walk h rest next room twice = λ root along.
    let some = ap (λ (hs : List ℕ). length hs) next in
    walk_turns d root (walk.left - 1) walk.met h rest (same_walk d root walk.left (suc (walk.left - 1)) walk.met walk.pending (h ∷ rest) along (omega (arith, some, room)) next) twice

pub no_member : (d : Document) (walk : Walk) (h : ℕ) (rest : List ℕ) → walk.pending ≡ h ∷ rest → is_member d h ≡ false → IsBroken d walk
no_member d walk h rest next other = λ root along.
    walk_breaks d root walk.left walk.met h rest (same_walk d root walk.left walk.left walk.met walk.pending (h ∷ rest) along refl next) other

-- a refusal of the next block
pub stops_there : (lacks : Fault → Type 0) (d : Document) (walk : Walk) (h : ℕ) (rest : List ℕ) (fault : Fault) → walk.pending ≡ h ∷ rest → Stops lacks (is_member d h ≡ false) fault → Stops lacks (IsBroken d walk) fault
stops_there lacks d walk h rest fault next (inl lack) = inl lack
stops_there lacks d walk h rest fault next (inr bad) = inr (bad.0, no_member d walk h rest next bad.1)

-- What is known over any store.

pub none_has_met : (d : Document) (root : ℕ) (walk : Walk) → IsAtRoot root walk → HasMet d root walk
none_has_met d root walk at = record {
  blocks = subst (λ (n : ℕ). AreMet d n walk.met) (sym at.left) (none_met d walk.met at.met);
  root_first = inl (at.met, at.pending);
}

pub step_has_met : (d : Document) (root h : ℕ) (old new : Walk) → HasMet d root old → IsWalkStep d h old new → HasMet d root new
step_has_met d root h old new has step = record {
  blocks = one_met d old.left new.left h old.met new.met has.blocks step.left (member_live d h step.goes_on.member) step.first_time step.met;
  root_first = inr (root_met root h old.met old.pending step.rest new.met has.root_first step.next step.met);
}

pub passed_has_met : (d : Document) (root h : ℕ) (old new : Walk) → HasMet d root old → HasPassed d h old new → HasMet d root new
passed_has_met d root h old new has passed = record {
  blocks = one_met d old.left new.left h old.met new.met has.blocks passed.left passed.live passed.first_time passed.met;
  root_first = inr (root_met root h old.met old.pending passed.rest new.met has.root_first passed.next passed.met);
}

pub over_has_met : (d : Document) (root : ℕ) (walk : Walk) (hs : List VmHandle) → ((h : ℕ) → is_live d h ≡ true → is_vm_handle h ≡ true) → HasMet d root walk → walk.pending ≡ [] → numbers hs ≡ walk.met → HasMetAll d root hs
over_has_met d root walk hs can has none same = record {
  blocks = met_blocks d walk.left hs can (subst (AreMet d walk.left) (sym same) has.blocks);
  root_first = root_there root walk.met walk.pending (numbers hs) has.root_first none same;
}

module _ {S : Type 0} (facts : S → StoreFacts) where
  -- a walk as it was in one state of the file, and as it is in another some steps on
  pub record GoesAlong (a b : CacheState S) (old new : Walk) : Type 0 where
    pub keeps : KeepsBlocks facts a b
    pub along : (root : ℕ) → IsHonest facts a.disk.store → IsAlong a.document root old → IsAlong b.document root new
    pub met : (root : ℕ) → HasMet a.document root old → HasMet b.document root new

  pub goes-refl : (a : CacheState S) (walk : Walk) → GoesAlong a a walk walk
  goes-refl a walk = record { keeps = keeps-refl facts a; along = λ root steady along. along; met = λ root has. has }

  module _ (a b c : CacheState S) (from old : Walk) (goes : GoesAlong a b from old) (keeps : KeepsBlocks facts b c) where
    still_along : (root : ℕ) → IsHonest facts a.disk.store → IsAlong a.document root from → IsAlong c.document root old
    still_along root steady along = subst (λ (d : Document). IsAlong d root old) (sym (keeps-same facts b c keeps (keeps-steady facts a b goes.keeps steady))) (goes.along root steady along)

    still_has_met : (root : ℕ) → HasMet a.document root from → HasMet c.document root old
    still_has_met root was =
        let has = goes.met root was in
        record {
          blocks = record { live = λ i h within. still_live facts b c keeps (get_or old.met i h) (has.blocks.live i h within); distinct = has.blocks.distinct; few = has.blocks.few };
          root_first = has.root_first;
        }

    pub goes-step : (h : ℕ) (new : Walk) → IsWalkStep c.document h old new → GoesAlong a c from new
    goes-step h new step = record {
      keeps = keeps-trans facts a b c goes.keeps keeps;
      along = λ root steady along. step_along c.document root h old new (still_along root steady along) step;
      met = λ root has. step_has_met c.document root h old new (still_has_met root has) step;
    }

    -- the same where bodies are known over an honest store alone
    pub goes-passed : (h : ℕ) (new : Walk) → HasPassed c.document h old new → (IsHonest facts b.disk.store → IsWalkStep c.document h old new) → GoesAlong a c from new
    goes-passed h new passed step = record {
      keeps = keeps-trans facts a b c goes.keeps keeps;
      along = λ root steady along. step_along c.document root h old new (still_along root steady along) (step (keeps-steady facts a b goes.keeps steady));
      met = λ root has. passed_has_met c.document root h old new (still_has_met root has) passed;
    }

    -- it has come to its end
    pub goes-ended : (new : Walk) → IsOver old new → (root : ℕ) → IsHonest facts a.disk.store → IsAlong a.document root from → chain c.document root ≡ Some new.met
    goes-ended new over root steady along = over_along c.document root old (still_along root steady along) over.none ∙ ap (λ (w : Walk). Some w.met) (sym over.same)

    pub goes-over : (new : Walk) (hs : List VmHandle) → IsOver old new → numbers hs ≡ new.met → (root : ℕ) → IsHonest facts a.disk.store → IsAlong a.document root from → chain c.document root ≡ Some (numbers hs)
    goes-over new hs over same root steady along = goes-ended new over root steady along ∙ ap (λ (xs : List ℕ). Some xs) (sym same)

    pub goes-met : (new : Walk) → IsOver old new → (root : ℕ) → HasMet a.document root from → AreMet c.document 0 new.met
    goes-met new over root was =
        let blocks = (still_has_met root was).blocks in
        subst (λ (w : Walk). AreMet c.document 0 w.met) (sym over.same) (record { live = blocks.live; distinct = blocks.distinct; few = omega (arith, blocks.few) })

    pub goes-met_all : (new : Walk) (hs : List VmHandle) → ((h : ℕ) → is_live c.document h ≡ true → is_vm_handle h ≡ true) → IsOver old new → numbers hs ≡ new.met → (root : ℕ) → HasMet a.document root from → HasMetAll c.document root hs
    goes-met_all new hs can over same root has = over_has_met c.document root old hs can (still_has_met root has) over.none (same ∙ ap (λ (w : Walk). w.met) over.same)

    -- or can't go on
    pub goes-refused : (fault : Fault) → Stops (IsEnvironmentFault facts b.disk.store c.disk.store) (IsBroken c.document old) fault → (root : ℕ) → IsHonest facts a.disk.store → IsAlong a.document root from
        → Stops (IsEnvironmentFault facts a.disk.store c.disk.store) (chain c.document root ≡ None) fault
    goes-refused fault (inl lacks) root steady along = inl (lacks-later facts a b c.disk.store fault goes.keeps lacks)
    goes-refused fault (inr bad) root steady along = inr (bad.0, bad.1 root (still_along root steady along))

-- What a step answered, by which of the two it is.

pub at_some : {A : Type 0} (next : Option A) (x : A) (P : Type 0) (Q : A → Type 0) → next ≡ Some x → MatchOption next P Q → Q x
at_some {A} next x P Q is answered = subst (λ (o : Option A). MatchOption o P Q) is answered

pub at_end : {A : Type 0} (next : Option A) (P : Type 0) (Q : A → Type 0) → next ≡ None → MatchOption next P Q → P
at_end {A} next P Q is answered = subst (λ (o : Option A). MatchOption o P Q) is answered

pub at_none : {A : Type 0} (next : Option A) (P : Type 0) (Q : A → Type 0) → ((x : A) → next ≡ Some x → ⊥) → MatchOption next P Q → P
at_none None P Q none answered = answered
at_none (Some x) P Q none answered = absurd (none x refl)

pub stepped : (d : Document) (old new : Walk) (next : Option VmHandle) (h : VmHandle) → next ≡ Some h → MatchOption next (IsOver old new) (λ x. IsWalkStep d x.0 old new) → IsWalkStep d h.0 old new
stepped d old new next h is answered = at_some next h (IsOver old new) (λ x. IsWalkStep d x.0 old new) is answered

pub ended : (d : Document) (old new : Walk) (next : Option VmHandle) → ((h : VmHandle) → next ≡ Some h → ⊥) → MatchOption next (IsOver old new) (λ x. IsWalkStep d x.0 old new) → IsOver old new
ended d old new next none answered = at_none next (IsOver old new) (λ x. IsWalkStep d x.0 old new) none answered

-- a refusal, over any store
pub refused_then : {S : Type 0} (facts : S → StoreFacts) (a b c : CacheState S) (fault : Fault) → KeepsBlocks facts a b → IsEnvironmentFault facts b.disk.store c.disk.store fault ⊎ (fault ≡ BadChain) → IsEnvironmentFault facts a.disk.store c.disk.store fault ⊎ (fault ≡ BadChain)
refused_then facts a b c fault keeps (inl lacks) = inl (lacks-later facts a b c.disk.store fault keeps lacks)
refused_then facts a b c fault keeps (inr bad) = inr bad

-- and of a step
pub stops_so : {S : Type 0} (facts : S → StoreFacts) (a b c : CacheState S) (fault : Fault) (cause : Type 0) → KeepsBlocks facts a b → Stops (IsEnvironmentFault facts b.disk.store c.disk.store) cause fault → IsEnvironmentFault facts a.disk.store c.disk.store fault ⊎ (fault ≡ BadChain)
stops_so facts a b c fault cause keeps (inl lacks) = inl (lacks-later facts a b c.disk.store fault keeps lacks)
stops_so facts a b c fault cause keeps (inr bad) = inr bad.0

pub stops_later : {S : Type 0} (facts : S → StoreFacts) (a b c : CacheState S) (fault : Fault) (cause : Type 0) → KeepsBlocks facts a b → Stops (IsEnvironmentFault facts b.disk.store c.disk.store) cause fault → Stops (IsEnvironmentFault facts a.disk.store c.disk.store) cause fault
stops_later facts a b c fault cause keeps (inl lacks) = inl (lacks-later facts a b c.disk.store fault keeps lacks)
stops_later facts a b c fault cause keeps (inr bad) = inr bad
