use Rattle.std.proofs.Common.{rules, tests, ◌∙◌}
use Rattle.std.proofs.lemmas.Iterator.{YieldsList-from_slice, YieldsList-from_zip}
use Rattle.std.proofs.lemmas.Iterator.Search.{position_from_yields_List}
use Rattle.document_diff.proofs.Fronts.{differ, front_found}
use Rattle.document_diff.proofs.bytes.common_front.Goals as goal

pub returns : goal.returns
returns c =
    c.unwrap_or.ensures
    ∙ front_found c.args.old.now c.args.new.now c.position.result c.min.result
    (position_from_yields_List {s = c.zip.result} differ c.position.new.self _ c.position.result c.position.ensures.ran (YieldsList-from_zip (YieldsList-from_slice c.args.old.now cc) (YieldsList-from_slice c.args.new.now cc)) (λ x b q k. search (rules, tests)))
    c.min.ensures
