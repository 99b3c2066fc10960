use Rattle.file_map.proofs.WalkLemmas.{walk_content}
use Rattle.file_map.proofs.walk.content_of.Goals as goal

pub returns : goal.returns
returns c =
    let is = walk_content c.args.parts.now c.args.page c.args.walk c.requires.sorted c.requires.walk c.requires.past in
    let made = c.make_content.ensures in
    let whose = c.users.ensures in
    cc
