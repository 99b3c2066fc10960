use Rattle.std.proofs.Common.{◌≡◌, ◌+◌, ◌*◌, ◌-◌, ◌++◌, ◌∷◌, ◌==◌, not, cond, ℕ, List, sym, ap, ◌∙◌, arith}
use Rattle.geos_model.specs.Words.{word_at}
use Rattle.geos_model.specs.Chain.{link_place}
use Rattle.vm_chains.proofs.LinkLemmas.{links_from, all_links, no_links, link_pushed}
use Rattle.vm_chains.proofs.links.push_links.Goals as goal

pub loop-i-init : goal.loop-i-init
loop-i-init c = ap (λ (xs : List ℕ). xs ++ c.args.pending.now) (sym (no_links c.args.body.now c.args.found.now.count))

pub loop-i-preserved : goal.loop-i-preserved
loop-i-preserved c =
    let body = c.args.body.now in
    let read : c.word-link.result ≡ word_at body (link_place body (c.loop-i.i - 1)) = c.word-link.ensures ∙ (λ j. word_at body ((c.from.ensures ∙ c.requires.first) j + 4 * c.from-in-loop-i.ensures j)) in
    c.in_ok-push_link.ensures ∙ ap (λ (xs : List ℕ). cond (not (c.word-link.result == 0)) (c.word-link.result ∷ xs) xs) c.loop-i.invariant
    ∙ link_pushed body (c.loop-i.i - 1) c.loop-i.i c.args.found.now.count c.word-link.result (omega arith) (omega arith) read c.args.pending.now

pub returns : goal.returns
returns c =
    let end : c.loop-i.i ≡ 0 = omega arith in
    c.loop-i.invariant ∙ (λ j. links_from c.args.body.now (end j) c.args.found.now.count ++ c.args.pending.now) ∙ ap (λ (xs : List ℕ). xs ++ c.args.pending.now) (all_links c.args.body.now c.args.found.now.count c.requires.count)
