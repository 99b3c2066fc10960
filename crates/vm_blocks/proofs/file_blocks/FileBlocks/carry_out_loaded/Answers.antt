use Rattle.std.proofs.Common.{refl, sym, ◌∙◌}
use Rattle.std.proofs.lemmas.Bool.{true≢false}
use Rattle.vm_blocks.specs.declared.change.Change.TheVariants as changes
use Rattle.vm_blocks.proofs.ChangeOutcomes.{turns_ready}
use Rattle.vm_blocks.proofs.KeepingLaws.{keeps-refl, loaded-resident, resident-open}
use Rattle.vm_blocks.proofs.file_blocks.FileBlocks.carry_out_loaded.Goals as goal

pub returns : goal.returns
returns g c =
    let facts = g.S.Store.facts in
    let old = c.args.self.now in
    turns_ready facts (changes.Part c.args.handle c.args.part.now) old old (keeps-refl facts old) c.carry_out_part.new.self c.requires.loaded
    (λ out. true≢false (sym out ∙ resident-open old c.args.handle.0 c.reveal_invariant.ensures.few (loaded-resident old c.args.handle.0 c.requires.loaded)))
    (λ here takes. (refl, refl)) c.carry_out_part.ensures
