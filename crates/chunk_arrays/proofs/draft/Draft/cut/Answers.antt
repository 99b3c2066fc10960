use Rattle.std.proofs.Common.{◌≡◌, ◌∙◌, ◌++◌, ℕ, List, [], length, refl, sym, ap, ap₂, arith, append_assoc, append-nil, take-append-drop}
use Rattle.std.proofs.lemmas.Bool.{eqb-true}
use Rattle.chunk_arrays.proofs.DraftingLemmas.{adds-as, adds-none, adds-then, no_bytes}
use Rattle.chunk_arrays.proofs.draft.Draft.cut.Goals as goal

pub loop-rest-init : goal.loop-rest-init
loop-rest-init c = ([], (refl, adds-none c.args.self.now))

pub loop-rest-preserved : goal.loop-rest-preserved
loop-rest-preserved c =
    let done : List ℕ = c.loop-rest.invariant.0 in
    let part : List ℕ = c.split_at.result.0.now in let behind : List ℕ = c.split_at.result.1.now in
    let parts : part ++ behind ≡ c.loop-rest.rest.now =
    ap₂ (λ (x y : List ℕ). x ++ y) c.split_at.ensures.front c.split_at.ensures.back ∙ take-append-drop c.min.result c.loop-rest.rest.now in (
      done ++ part,
      (
        c.loop-rest.invariant.1.0 ∙ (ap (λ (l : List ℕ). done ++ l) (sym parts) ∙ sym (append_assoc done part behind)),
        adds-then c.args.self.now c.loop-rest.self c.replace.new.self done [] part [] c.loop-rest.invariant.1.1 c.in_ok-replace.ensures (omega arith),
      ),
    )

pub returns : goal.returns
returns c =
    let done : List ℕ = c.loop-rest.invariant.0 in
    let none : c.loop-rest.rest.now ≡ [] = no_bytes c.loop-rest.rest.now (eqb-true (length c.loop-rest.rest.now) 0 (sym c.loop-rest-test.ensures)) in
    let all : done ≡ c.args.bytes.now = sym (c.loop-rest.invariant.1.0 ∙ (ap (λ (l : List ℕ). done ++ l) none ∙ append-nil done)) in
    adds-as c.args.self.now c.loop-rest.self done [] _ _ all refl c.loop-rest.invariant.1.1
