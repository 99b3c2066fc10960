use Rattle.std.proofs.Common.{◌≡◌, ◌++◌, take, flat_map}
use Rattle.file_map.specs.Pages.{count, legend_line, content_number}
use Rattle.file_map.specs.declared.pages.TheConstants.{LEGEND}
use Rattle.file_map.proofs.rows.push_legend.Given as goal

-- the lines so far
abbrev pub invariant-loop-content : goal.invariant-loop-content
invariant-loop-content l = l.out.items ≡ l.fn.out.items ++ flat_map (λ c. legend_line c (count l.fn.parts l.fn.pages (content_number c))) (take l.content-index LEGEND)
