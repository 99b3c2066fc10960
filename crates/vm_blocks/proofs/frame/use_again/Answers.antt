use Rattle.std.proofs.Common.{ℕ, List, sym, ap, ◌∙◌}
use Rattle.lru.specs.LruCache.{lru_cache}
use Rattle.vm_blocks.specs.declared.frame.Frame.{Frame}
use Rattle.vm_blocks.proofs.OrderOfUse.{absent_stays}
use Rattle.vm_blocks.proofs.frame.use_again.Goals as goal

pub returns-clause-absent : goal.returns-clause-absent
returns-clause-absent c = λ out.
    let es = c.args.frames.now.entries in
    c.promote.ensures.entries ∙ ap (λ (fs : List (ℕ × Frame)). lru_cache fs c.args.frames.now.cap) (absent_stays c.args.block es (sym c.promote.ensures.value ∙ out))
