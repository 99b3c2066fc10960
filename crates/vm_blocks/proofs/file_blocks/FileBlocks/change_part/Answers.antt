use Rattle.std.proofs.Common.{subst}
use Rattle.std.specs.Prelude.{Bool}
use Rattle.vm_blocks.specs.Changes.{directed_part}
use Rattle.vm_blocks.specs.InPlace.{TriesPart, used_last}
use Rattle.vm_blocks.proofs.UsedInPlace.{turns_made, turns_refused}
use Rattle.vm_blocks.proofs.file_blocks.FileBlocks.change_part.Goals as goal

pub returns-in-Some-true : goal.returns-in-Some-true
returns-in-Some-true g c =
    let old = c.args.self.now in let new = c.change_resident_part.new.self in let b = c.args.handle in let part = directed_part c.args.direction c.args.part.now in let tried = c.in-Some-true.ensures in
    turns_made g.S.Store.facts b part old new c.reveal_invariant.ensures.few tried.0
    (subst (λ (made : Bool). TriesPart b.0 part (used_last old b.0) new made) c.in-Some-true.field-0-test tried.1)

pub returns-in-Some-false : goal.returns-in-Some-false
returns-in-Some-false g c =
    let old = c.args.self.now in let new = c.change_resident_part.new.self in let b = c.args.handle in let part = directed_part c.args.direction c.args.part.now in let tried = c.in-Some-false.ensures in
    turns_refused g.S.Store.facts b part old new c.reveal_invariant.ensures.few tried.0
    (subst (λ (made : Bool). TriesPart b.0 part (used_last old b.0) new made) c.in-Some-false.field-0-test tried.1)
