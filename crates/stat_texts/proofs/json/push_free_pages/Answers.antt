use Rattle.std.proofs.Common.{codes}
use Rattle.stat_texts.specs.Json.{number_member}
use Rattle.stat_texts.proofs.Joined.{seven}
use Rattle.stat_texts.proofs.json.push_free_pages.Goals as goal

pub returns : goal.returns
returns c =
    let free = c.args.stat.now.free in
    seven c.args.out.now.items c.extend_from_slice.new.self.items c.push_number.new.out.items c.extend_from_slice-2.new.self.items c.push_number-2.new.out.items c.extend_from_slice-3.new.self.items c.push_number-3.new.out.items c.extend_from_slice-4.new.self.items
    (codes "\"free_pages\":{") (number_member (codes "count") free.pages) (codes ",") (number_member (codes "runs") free.runs) (codes ",") (number_member (codes "longest") free.longest) (codes "}")
    c.in_ok-extend_from_slice.ensures.items c.in_ok-push_number.ensures c.in_ok-extend_from_slice-2.ensures.items c.in_ok-push_number-2.ensures c.in_ok-extend_from_slice-3.ensures.items c.in_ok-push_number-3.ensures c.in_ok-extend_from_slice-4.ensures.items
