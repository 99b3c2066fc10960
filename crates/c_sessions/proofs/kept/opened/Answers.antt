use Rattle.c_sessions.proofs.Openings.{is_opening}
use Rattle.c_sessions.proofs.kept.opened.Goals as goal

pub returns : goal.returns
returns g c = is_opening g.S.Store.facts c.args.frames c.args.checksums c.args.store c.open.result c.open.ensures.opened c.open.ensures.new c.open.ensures.machine
