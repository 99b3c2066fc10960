use Rattle.std.proofs.Common.{◌++◌, ◌+◌, ℕ, take, drop, arith, ap, ◌∙◌}
use Rattle.raw_region.proofs.Puts.{put_is}
use Rattle.vm_blocks.proofs.part.put_in_raw.Goals as goal

pub returns-then-new-count : goal.returns-then-new-count
returns-then-new-count c =
    let body = c.args.body.now in
    let new = c.args.new.now in
    let at = c.args.at in
    c.copy_in.ensures
    ∙ (put_is body new at (omega (arith, c.requires.within, c.if-new-count.true))
    ∙ ap (λ (n : ℕ). take at body ++ (new ++ drop (at + n) body)) c.if-new-count.true)
