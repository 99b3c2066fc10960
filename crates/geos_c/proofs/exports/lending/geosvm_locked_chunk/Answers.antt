use Rattle.std.proofs.Common.{◌≡◌, rules, to_z, of_z, w32}
use Rattle.geos_model.specs.declared.command.Command.TheVariants as commands
use Rattle.geos_c.specs.Calls.{chunk_handle, vm}
use Rattle.geos_c.specs.Lending.{Lends}
use Rattle.geos_c.proofs.HandleCalls.{served}
use Rattle.geos_c.proofs.exports.lending.geosvm_locked_chunk.Goals as goal

pub returns-in-Some-clause-told : goal.returns-in-Some-clause-told
returns-in-Some-clause-told c =
    let code : to_z w32 (of_z w32 c.lend_chunk-code.result) ≡ c.lend_chunk-code.result = search rules in
    served _ _ _ _ _ _ _ c.in-Some.ensures.was_open c.deref_mut.ensures.value c.put.ensures code
    (Lends (commands.Read (vm c.args.block) (chunk_handle c.args.chunk)) c.args.block c.lend_chunk-code.new.bytes c.lend_chunk-code.new.length) c.lend_chunk-code.ensures
