use Rattle.geos_c.proofs.Given.{is_file, is_store, never_refused}
use Rattle.geos_c.proofs.channel.store.Goals as goal

pub unreachable-requires : goal.unreachable-requires
unreachable-requires c = never_refused _ _ _ c.in-Err.ensures.err

pub returns : goal.returns
returns c =
    let ready = c.in-Ok.ensures.ready in
    is_store c.in-Ok.store c.args.number (is_file _ _ _ _ ready) c.in-Ok.ensures.fresh.0 c.in-Ok.ensures.fresh.1
