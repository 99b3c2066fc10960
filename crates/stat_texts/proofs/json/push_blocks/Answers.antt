use Rattle.std.proofs.Common.{codes}
use Rattle.stat_texts.specs.Json.{heaps, tally_member}
use Rattle.stat_texts.proofs.Joined.{five}
use Rattle.stat_texts.proofs.json.push_blocks.Goals as goal

pub returns : goal.returns
returns c =
    let b = c.args.of.now in
    five c.args.out.now.items c.push_tally.new.out.items c.extend_from_slice.new.self.items c.push_heaps.new.out.items c.extend_from_slice-2.new.self.items c.push_tally-2.new.out.items
    (tally_member (codes "raw_blocks") (codes "bytes") b.raw) (codes ",") (heaps b) (codes ",") (tally_member (codes "chunks") (codes "bytes") b.chunks.all)
    c.in_ok-push_tally.ensures c.in_ok-extend_from_slice.ensures.items c.in_ok-push_heaps.ensures c.in_ok-extend_from_slice-2.ensures.items c.in_ok-push_tally-2.ensures
