use Rattle.std.proofs.Common.{◌≡◌, ◌++◌, ◌+◌, ◌-◌, ◌/◌, ℕ, length, flat_map, ap, ◌∙◌, arith, zero-add}
use Rattle.std.specs.List.{range_with_len}
use Rattle.document_dump.specs.Lines.{text}
use Rattle.document_dump.specs.Changes.{piece_written, bytes_written}
use Rattle.document_dump.proofs.Texts.{text_more}
use Rattle.document_dump.proofs.bodies.push_pieces.Goals as goal

pub loop-k-preserved : goal.loop-k-preserved
loop-k-preserved c =
    c.in_ok-push_piece.ensures
    ∙ text_more (piece_written c.args.target c.args.bytes.now) 0 c.loop-k.k c.loop-k.k c.args.out.now.items c.loop-k.out.items (zero-add c.loop-k.k) c.loop-k.invariant

pub returns : goal.returns
unfolding bytes_written
returns c =
    let size : length c.args.bytes.now + 32 - 1 ≡ length c.args.bytes.now + 31 = omega arith in
    let end : c.loop-k.k ≡ (length c.args.bytes.now + 31) / 32 = omega (arith, ap (λ (n : ℕ). n / 32) size) in
    c.loop-k.invariant ∙ ap (λ (k : ℕ). c.args.out.now.items ++ text (flat_map (piece_written c.args.target c.args.bytes.now) (range_with_len 0 k))) end
