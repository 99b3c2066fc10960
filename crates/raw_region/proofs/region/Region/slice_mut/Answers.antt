use Rattle.std.proofs.Common.{ℕ, ◌+◌, List, take, slice_range, arith, refl, ap, ◌∙◌}
use Rattle.raw_region.specs.Bytes.{put}
use Rattle.raw_region.proofs.Puts.{length-put, put_behind_first, byte_stays, slice_behind}
use Rattle.raw_region.proofs.region.Region.slice_mut.Goals as goal

pub invariant_of-self-lent : goal.invariant_of-self-lent
invariant_of-self-lent c =
    let bytes = c.self.inside.raw.bytes in let at = c.args.at in let n = c.args.n in
    λ w. (length-put bytes (take n w) (16 + at) ∙ c.self.invariant.0, byte_stays bytes (take n w) 0 15 16 at (omega arith) c.self.invariant.1)

pub returns : goal.returns
returns c =
    let bytes = c.self.inside.raw.bytes in let at = c.args.at in let n = c.args.n in (
      (refl, λ w. put_behind_first bytes (take n w) 16 at ∙ ap (λ (l : List ℕ). put l at (take n w)) c.self.view_is),
      record {
        writes_back = tt;
        value = c.slice_mut.ensures.value ∙ (slice_behind bytes 16 at n ∙ ap (λ (l : List ℕ). slice_range l at (at + n)) c.self.view_is);
        len = c.slice_mut.ensures.len;
      },
    )
