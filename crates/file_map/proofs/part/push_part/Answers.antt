use Rattle.std.proofs.Common.{sym, ◌∙◌}
use Rattle.file_map.proofs.PartLemmas.{unshared}
use Rattle.file_map.proofs.part.push_part.Goals as goal

pub returns-in_ok-push-in-Some-2-2 : goal.returns-in_ok-push-in-Some-2-2
returns-in_ok-push-in-Some-2-2 c =
    unshared _ _ _ _ c.in-Some.last c.args.part c.in-Some.ensures.items (sym c.is_shared.ensures ∙ c.if-is_shared.false) c.in_ok-push-in-Some-2.ensures.items c.in_ok-push-in-Some-2-2.ensures.items
