use Rattle.std.proofs.Common.{◌≡◌, ◌++◌, map, take}
use Rattle.file_report.specs.Pages.{image_usage}
use Rattle.file_report.proofs.pages.push_images.Given as goal

-- the images so far are there
abbrev pub invariant-loop-entry : goal.invariant-loop-entry
invariant-loop-entry l = l.usages.items ≡ l.fn.usages.items ++ map (image_usage l.name) (take l.entry-index l.directory.entries.items)
