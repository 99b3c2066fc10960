use Rattle.std.proofs.Common.{◌≡◌, ◌++◌, take, flat_map}
use Rattle.document_tools.specs.Pages.{overlap_line}
use Rattle.document_tools.proofs.pages_text.push_overlaps.Given as goal

-- the pairs so far are told
abbrev pub invariant-loop-pair : goal.invariant-loop-pair
invariant-loop-pair l = l.out.items ≡ l.fn.out.items ++ flat_map overlap_line (take l.pair-index l.pairs)
