use Rattle.std.proofs.Common.{◌≡◌, ◌+◌, ◌-◌, ◌++◌, ℕ, List, false, length, take, replicate, vec_len, refl, ap, ◌∙◌, arith, nat_lt, le-ltb}
use Rattle.chunk_arrays.proofs.RewritingLemmas.{bytes_created}
use Rattle.chunk_arrays.proofs.edits.create_bytes.Goals as goal

pub returns : goal.returns
returns c =
    let size : nat_lt 4096 c.args.size ≡ false = le-ltb 4096 c.args.size c.if-size-gt-GREATEST_SIZE.false in
    let extra : nat_lt 1024 c.args.extra ≡ false = le-ltb 1024 c.args.extra c.if-extra-gt-GREATEST_EXTRA.false in
    let header : List ℕ = c.push_header.new.out.items in
    let counted : vec_len c.push_header.new.out ≡ length header = let ok = c.push_header.new.out.ok.0 in omega (arith, ok) in (
      rw (size, extra) refl,
      bytes_created c.args.size c.args.extra c.in_ok-bytes.bytes.items header c.resize.new.self.items c.in_ok-bytes.ensures.items c.in_ok-push_header.ensures
          (c.in_ok-resize.ensures.items ∙ ap (λ (n : ℕ). take (8 + c.args.extra) header ++ replicate (8 + c.args.extra - n) 0) counted),
    )
