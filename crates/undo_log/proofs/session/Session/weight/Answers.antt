use Rattle.std.proofs.Common.{◌≡◌, ◌≤◌, ◌+◌, ◌-◌, ◌^◌, min, subst}
use Rattle.std.specs.Option.{option_map_or}
use Rattle.undo_log.specs.Logging.{to_redo, to_undo, total_weight}
use Rattle.undo_log.specs.Sessions.{SessionState, machine_of, total_cost}
use Rattle.undo_log.proofs.Weights.{weight_at_most}
use Rattle.undo_log.proofs.session.Session.weight.Goals as goal

pub returns-clause-exact : goal.returns-clause-exact
returns-clause-exact g c = subst (λ (s : SessionState g.row.S.Denot). c.weight.result ≡ min (total_weight (to_undo s.log) + total_weight (to_redo s.log)) (2 ^ 64 - 1)) c.self.view_is c.weight.ensures

pub returns-clause-charged : goal.returns-clause-charged
returns-clause-charged g c = λ target.
    subst (λ (s : SessionState g.row.S.Denot). c.weight.result ≤ total_cost (machine_of target s).past + total_cost (machine_of target s).future + option_map_or (λ g. g.cost) (machine_of target s).group 0) c.self.view_is
    (weight_at_most c.self.inside.blocks.document c.self.inside.log.lists c.weight.result c.weight.ensures)
