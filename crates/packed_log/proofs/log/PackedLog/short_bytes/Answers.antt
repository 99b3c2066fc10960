use Rattle.std.proofs.Common.{length, ap, ◌∙◌}
use Rattle.packed_log.proofs.LogLemmas.{bytes_counted}
use Rattle.packed_log.proofs.log.PackedLog.short_bytes.Goals as goal

pub returns : goal.returns
returns g c =
    let p = c.self.inside in
    ap length c.all.ensures ∙ bytes_counted p.marks p.bytes p.wholes c.self.invariant c.args.self.now c.self.view_is
