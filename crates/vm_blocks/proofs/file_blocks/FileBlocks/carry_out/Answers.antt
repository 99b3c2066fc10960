use Rattle.vm_blocks.proofs.ChangeOutcomes.{carried_lacks}
use Rattle.vm_blocks.proofs.file_blocks.FileBlocks.carry_out.Goals as goal

pub returns-in_default : goal.returns-in_default
returns-in_default g c =
    let turns = c.turn.ensures in
    record {
      ok = turns.ok;
      err = turns.err;
      refusals = carried_lacks g.S.Store.facts c.args.change.now c.args.self.now c.turn.new.self c.turn.result c.requires.ready c.reveal_invariant.ensures.few turns.refusals;
      sure = λ none. turns.sure none c.requires.ready.in_memory c.requires.ready.takes;
    }
