use Rattle.std.proofs.Common.{◌≡◌, ◌<◌, ◌++◌, ◌∷◌, [], ℕ, List, true, length, get_or, sym, subst, ◌∙◌, inl, inr, arith, Vec, Global}
use Rattle.std.proofs.lemmas.List.{get_or-map}
use Rattle.std.specs.List.{All, AllZip}
use Rattle.geos_model.specs.Document.{Document, is_live}
use Rattle.document_file.proofs.ResultLemmas.{on_ok_more}
use Rattle.large_arrays.specs.ChangePlans.{ArePlanned, ArePlannedByHandle}
use Rattle.large_arrays.specs.Gathering.{HasOldBody}
use Rattle.large_arrays.specs.HandleLists.{old_handles}
use Rattle.large_arrays.specs.declared.handles.OldBranch.{OldBranch}
use Rattle.geos_model.proofs.Pairs.{pairs-at}
use Rattle.large_arrays.proofs.piece_plans.plan_piece.Goals as goal

abbrev no_branch : OldBranch
no_branch = record { handle = record { 0 = 0 }; staying = 0 }

-- the body of the block at a place
body_at : (d : Document) (olds : List OldBranch) (bodies : List (Vec ℕ Global)) (i h : ℕ) (body : Vec ℕ Global) → AllZip (λ old b. HasOldBody d old.handle.0 b.items) olds bodies
    → i < length bodies → length bodies ≡ length olds → get_or (old_handles olds) i 0 ≡ h → body ≡ get_or bodies i body → HasOldBody d h body.items
body_at d olds bodies i h body all low many at is =
    let here = pairs-at (λ old b. HasOldBody d old.handle.0 b.items) olds bodies i no_branch body all low in
    let handle : (get_or olds i no_branch).handle.0 ≡ h = sym (get_or-map (λ (o : OldBranch). o.handle.0) olds i no_branch 0 (omega (arith, low, many))) ∙ at in
    subst (λ (x : ℕ). HasOldBody d x body.items) handle (subst (λ (b : Vec ℕ Global). HasOldBody d (get_or olds i no_branch).handle.0 b.items) (sym is) here)

-- it is live
live_at : (d : Document) (olds : List OldBranch) (i h : ℕ) → All (λ old. is_live d old.handle.0 ≡ true) olds → i < length olds → get_or (old_handles olds) i 0 ≡ h → is_live d h ≡ true
live_at d olds i h all low at =
    let handle : (get_or olds i no_branch).handle.0 ≡ h = sym (get_or-map (λ (o : OldBranch). o.handle.0) olds i no_branch 0 low) ∙ at in
    subst (λ (x : ℕ). is_live d x ≡ true) handle (all i no_branch low)

pub returns-in-Some-clause-planned : goal.returns-in-Some-clause-planned
returns-in-Some-clause-planned c =
    let olds = c.args.gathered.now.olds.items in let bodies = c.args.gathered.now.bodies.items in let h = c.args.handle.0 in
    let many = c.requires.bodies in let low = c.in-Some.ensures.0 in
    on_ok_more c.plan_body.result
    (λ planned d freed others before all home untouched.
    let has = body_at d olds bodies c.in-Some.i h c.index.result.now all (omega (arith, many, low)) many c.in-Some.ensures.1 c.index.ensures in
    subst (λ (bytes : List ℕ). ArePlanned c.plan_body.new.changes.items d freed (others ++ (h, bytes) ∷ []))
    (c.cut_branch.ensures ∙ c.deref-in-Some.ensures.value ∙ c.in_ok-body.ensures.value)
    (planned d freed others before untouched has.0 (has.1 ∙ sym c.deref.ensures.value ∙ sym c.cut_branch-old.ensures)))
    c.plan_body.ensures.planned

pub returns-in-Some-clause-listed : goal.returns-in-Some-clause-listed
returns-in-Some-clause-listed c =
    let olds = c.args.gathered.now.olds.items in let h = c.args.handle.0 in
    on_ok_more c.plan_body.result
    (λ planned d freed others before all home untouched.
    subst (λ (bytes : List ℕ). ArePlannedByHandle c.plan_body.new.changes.items d freed (others ++ (h, bytes) ∷ []))
    (c.cut_branch.ensures ∙ c.deref-in-Some.ensures.value ∙ c.in_ok-body.ensures.value)
    (planned d freed others before untouched (live_at d olds c.in-Some.i h all c.in-Some.ensures.0 c.in-Some.ensures.1)))
    c.plan_body.ensures.listed

pub returns-in-None-clause-planned : goal.returns-in-None-clause-planned
returns-in-None-clause-planned c =
    on_ok_more c.plan_block.result
    (λ planned d freed others before all home untouched. elim home [
      | inl old ↦ absurd (c.in-None.ensures old)
      | inr free ↦ subst (λ (bytes : List ℕ). ArePlanned c.plan_block.new.changes.items d freed (others ++ (c.args.handle.0, bytes) ∷ []))
          c.in_ok-body.ensures.value (planned d freed others before untouched free)
    ])
    c.plan_block.ensures.planned

pub returns-in-None-clause-listed : goal.returns-in-None-clause-listed
returns-in-None-clause-listed c =
    on_ok_more c.plan_block.result
    (λ planned d freed others before all home untouched. elim home [
      | inl old ↦ absurd (c.in-None.ensures old)
      | inr free ↦ subst (λ (bytes : List ℕ). ArePlannedByHandle c.plan_block.new.changes.items d freed (others ++ (c.args.handle.0, bytes) ∷ []))
          c.in_ok-body.ensures.value (planned d freed others before untouched free)
    ])
    c.plan_block.ensures.listed
