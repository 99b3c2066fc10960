use Rattle.std.proofs.Common.{◌≡◌, ◌++◌, ℕ, ap, ◌∙◌, arith, replicate}
use Rattle.document_dump.specs.Lines.{text}
use Rattle.document_dump.specs.Changes.{filler}
use Rattle.document_dump.proofs.Texts.{fill_more}
use Rattle.document_dump.proofs.changes.push_fillers.Goals as goal

pub loop-preserved : goal.loop-preserved
loop-preserved c = fill_more filler c.loop.counter c.args.out.now.items c.loop.out.items c.push_new_raw.new.out.items c.loop.invariant c.in_ok-push_new_raw.ensures

pub returns : goal.returns
returns c = let end : c.loop.counter ≡ c.args.count = omega arith in c.loop.invariant ∙ ap (λ (k : ℕ). c.args.out.now.items ++ text (replicate k filler)) end
