use Rattle.std.proofs.Common.{ℕ, ap, ◌∙◌, rules, tests}
use Rattle.std.specs.Iterator.Adapters.{filter_callee, filter_source}
use Rattle.std.specs.Map.Iter.{deref_pair}
use Rattle.std.proofs.lemmas.Iterator.{YieldsList-from_map, items_from_collect}
use Rattle.std.proofs.lemmas.Iterator.Consumers.{YieldsList-from_rest, YieldsList-from_filter}
use Rattle.vm_blocks.specs.declared.frame.Frame.{Frame}
use Rattle.vm_blocks.proofs.transfers.changed_blocks.Goals as goal

pub returns : goal.returns
returns c =
    let source = c.map.ensures.source in
    items_from_collect c.collect.result c.collect.ensures.ran
    (YieldsList-from_map _ (λ (e : ℕ × Frame). e.0)
    (YieldsList-from_filter _ (λ (e : ℕ × Frame). e.1.changed)
    (YieldsList-from_rest {shows = deref_pair {K = ℕ} {X = Frame}} c.args.frames.now.entries (ap filter_source source ∙ c.filter.ensures.source ∙ c.iter.ensures))
    (ap filter_callee source ∙ c.filter.ensures.closure) (λ x b q k. search (rules, tests)))
    c.map.ensures.closure (λ x r q k. search rules))
