use Rattle.std.proofs.Common.{◌≡◌, refl, rules, to_z, of_z, w32}
use Rattle.geos_model.specs.declared.command.Command.TheVariants as commands
use Rattle.geos_c.specs.Calls.{chunk_handle, vm}
use Rattle.geos_c.proofs.LendingLemmas.{handed_out}
use Rattle.geos_c.proofs.lending.lend_chunk.Goals as goal

pub returns : goal.returns
returns g c =
    let code : to_z w32 (of_z w32 c.hand_out_place.result) ≡ c.hand_out_place.result = search rules in
    rw code (handed_out (commands.Read (vm c.args.block) (chunk_handle c.args.chunk)) c.args.block c.args.session.now c.args.session.now c.locked_chunk.result
    c.hand_out_place.new.bytes c.hand_out_place.new.length c.hand_out_place.result c.locked_chunk.ensures refl c.hand_out_place.ensures)
