use Rattle.std.proofs.Common.{rules}
use Rattle.file_report.proofs.entry.is_map_block.Goals as goal

pub returns-else-map_block-eq0 : goal.returns-else-map_block-eq0
returns-else-map_block-eq0 c none = (search rules, c.lists.ensures none)
