use Rattle.std.proofs.Common.{sym, ◌∙◌}
use Rattle.geos_model.specs.Document.{block_at}
use Rattle.document_dump.proofs.Changed.{free_pushed, goes_pushed, keeps_pushed, made_pushed}
use Rattle.document_dump.proofs.changes.push_change.Goals as goal

pub returns-in-Free-clause-ok : goal.returns-in-Free-clause-ok
returns-in-Free-clause-ok c = λ old new is. free_pushed old new c.args.progress c.args.block.0 c.args.out.now.items c.args.out.now.items (rw c.in-Free.is at is)

pub returns-in-Goes-clause-ok : goal.returns-in-Goes-clause-ok
returns-in-Goes-clause-ok c = λ old new is. goes_pushed old new c.args.progress c.args.block.0 c.args.out.now.items c.args.out.now.items (rw c.in-Goes.is at is)

pub returns-in_ok-push_attributes-in-Keeps-clause-ok : goal.returns-in_ok-push_attributes-in-Keeps-clause-ok
returns-in_ok-push_attributes-in-Keeps-clause-ok c = λ old new is.
    keeps_pushed old new c.args.progress c.args.block.0 c.args.out.now.items c.push_attributes.new.out.items c.in-Keeps.old c.in-Keeps.new (rw c.in-Keeps.is at is) c.in_ok-push_attributes-in-Keeps.ensures

pub returns-in_ok-push_block-in-Made-clause-ok : goal.returns-in_ok-push_block-in-Made-clause-ok
returns-in_ok-push_block-in-Made-clause-ok c = λ old new is.
    let known = rw c.in-Made.is at is in
    let made = c.in_ok-push_block-in-Made.ensures.ok (block_at new c.args.block.0).body known.3 (sym (c.as_slice.ensures.value ∙ known.4)) in
    let r = made_pushed old new c.args.progress c.args.block.0 c.args.out.now.items c.push_block.new.out.items c.in-Made.replaces c.in-Made.attributes c.push_place.new.out.items known.0 known.1 known.2 c.in_ok-push_place-in-Made.ensures made in
    (r.0, c.made_progress.ensures ∙ r.1)
