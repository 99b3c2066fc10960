use Rattle.std.proofs.Common.{◌++◌, codes}
use Rattle.document_stat.specs.Counted.{free_bytes}
use Rattle.stat_texts.specs.Json.{members, number_member, types}
use Rattle.stat_texts.proofs.Joined.{five}
use Rattle.stat_texts.proofs.json.push_heaps.Goals as goal

pub returns : goal.returns
returns c =
    let b = c.args.of.now in
    five c.args.out.now.items c.extend_from_slice.new.self.items c.push_members.new.out.items c.extend_from_slice-2.new.self.items c.push_number.new.out.items c.push_listed_types.new.out.items
    (codes "\"heaps\":{") (members (codes "needed_bytes") b.heaps) (codes ",") (number_member (codes "free_bytes") (free_bytes b)) (codes ",\"types\":[" ++ types b.types.entries ++ codes "]}")
    c.in_ok-extend_from_slice.ensures.items c.in_ok-push_members.ensures c.in_ok-extend_from_slice-2.ensures.items (rw c.free_bytes.ensures.exact at c.in_ok-push_number.ensures) c.in_ok-push_listed_types.ensures
