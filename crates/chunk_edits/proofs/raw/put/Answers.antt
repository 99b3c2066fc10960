use Rattle.std.proofs.Common.{◌≡◌, ◌++◌, ◌+◌, ℕ, length, take, drop, arith, ap, ◌∙◌}
use Rattle.raw_region.proofs.Puts.{put_is}
use Rattle.chunk_edits.proofs.raw.put.Goals as goal

pub returns-then-bytes-k : goal.returns-then-bytes-k
returns-then-bytes-k c =
    let body = c.args.body.now in let bytes = c.args.bytes.now in let same : length bytes ≡ c.args.k = omega arith in
    c.copy_in.ensures
    ∙ (put_is body bytes c.args.at (omega arith)
    ∙ ap (λ (n : ℕ). take c.args.at body ++ (bytes ++ drop (c.args.at + n) body)) same)
