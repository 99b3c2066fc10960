use Rattle.std.proofs.Common.{◌∙◌, ◌∷◌, ◌==◌, ◌||◌, ℕ, List, Bool, get_or, refl, sym, ap}
use Rattle.geos_model.specs.ElementArray.{all_distinct}
use Rattle.large_arrays.proofs.Marking.{no_link, many-twice, many-once, many-met, handles-done}
use Rattle.large_arrays.proofs.distinct.are_many_distinct.Goals as goal

pub loop-link-init : goal.loop-link-init
loop-link-init c = record {
  met = λ k. c.add.ensures k ∙ ap (λ (b : Bool). (k == c.args.root.0) || b) (c.in_ok-met.ensures {u = tt} k);
  once = refl;
}

pub loop-link-preserved : goal.loop-link-preserved
loop-link-preserved c =
    let root : ℕ = c.args.root.0 in let links = c.args.links.now in let i : ℕ = c.loop-link.link-index in
    let low = c.loop-link-test.true in
    record {
      met = λ k. c.add-in-loop-link.ensures k ∙ ap (λ (b : Bool). (k == (get_or links i no_link).handle.0) || b) (c.loop-link.invariant.met k) ∙ many-met root links i no_link low k;
      once = many-once root links i no_link low c.loop-link.invariant.once (sym (c.loop-link.invariant.met _) ∙ sym c.contains.ensures ∙ c.if-contains.false);
    }

pub returns-then-contains : goal.returns-then-contains
returns-then-contains c =
    let root : ℕ = c.args.root.0 in let links = c.args.links.now in let i : ℕ = c.loop-link.link-index in
    sym (many-twice root links i no_link c.loop-link-test.true (sym (c.loop-link.invariant.met _) ∙ sym c.contains.ensures ∙ c.if-contains.true))

pub returns : goal.returns
returns c =
    sym (ap (λ (hs : List ℕ). all_distinct (c.args.root.0 ∷ hs)) (sym (handles-done c.args.links.now c.loop-link.link-index c.loop-link-test.false)) ∙ c.loop-link.invariant.once)
