use Rattle.std.proofs.Common.{codes, flat_map}
use Rattle.document_stat.specs.Counted.{free_bytes}
use Rattle.stat_texts.specs.Columns.{heading, right, tally_line, type_line}
use Rattle.stat_texts.proofs.Joined.{six}
use Rattle.stat_texts.proofs.columns.push_heaps.Goals as goal

pub returns : goal.returns
returns c =
    let b = c.args.blocks.now in
    six c.args.out.now.items c.push_heading.new.out.items c.push_tally.new.out.items c.push_types.new.out.items c.extend_from_slice.new.self.items c.push_right.new.out.items c.extend_from_slice-2.new.self.items
    (heading (codes "needed bytes")) (tally_line (codes "  heaps            ") b.heaps) (flat_map type_line b.types.entries) (codes "  free in heaps ") (right 26 (free_bytes b)) (codes "\n")
    c.in_ok-push_heading.ensures c.in_ok-push_tally.ensures c.in_ok-push_types.ensures c.in_ok-extend_from_slice.ensures.items (rw c.free_bytes.ensures.exact at c.in_ok-push_right.ensures) c.in_ok-extend_from_slice-2.ensures.items
