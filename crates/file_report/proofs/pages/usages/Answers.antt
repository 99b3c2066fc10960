use Rattle.std.proofs.Common.{subst}
use Rattle.std.specs.Prelude.{IfOk, IsPermutation, Option}
use Rattle.std.specs.Option.{option_copied, option_map}
use Rattle.file_format.specs.Listed.{as_directory}
use Rattle.file_format.specs.declared.directory.Directory.{Directory}
use Rattle.file_report.specs.Pages.{slot_usages}
use Rattle.file_report.proofs.pages.usages.Goals as goal

pub returns-clause-all : goal.returns-clause-all
returns-clause-all c =
    let s = c.args.slot.now in
    subst (λ (saved : Option Directory). IfOk c.slot_usages.result (λ us. IsPermutation (slot_usages s.slot (option_map as_directory s.updated) (option_map as_directory saved)) us.items)) c.as_ref-2.ensures.value
    (subst (λ (updated : Option Directory). IfOk c.slot_usages.result (λ us. IsPermutation (slot_usages s.slot (option_map as_directory updated) (option_map as_directory (option_copied c.as_ref-2.result))) us.items)) c.as_ref.ensures.value c.slot_usages.ensures.all)
