use Rattle.std.proofs.Common.{ℕ, ◌+◌, List, ◌∷◌, sym, subst, ◌∙◌}
use Rattle.std.proofs.lemmas.List.{with_items_is}
use Rattle.file_format.specs.File.{end_page}
use Rattle.file_format.specs.declared.file.Extent.{Extent}
use Rattle.file_space.specs.Space.{Space, AreCountsRaised, AreTaken, AreHintsUpTo, IsSpaceSound}
use Rattle.file_space.specs.Stretches.{IsFull}
use Rattle.file_space.proofs.StretchLemmas.{full-raised}
use Rattle.file_space.proofs.SpaceLemmas.{raised_from, taken-more, sound-more}
use Rattle.file_space.proofs.free_space.FreeSpace.hold.Goals as goal

pub invariant_of-self-2 : goal.invariant_of-self-2
invariant_of-self-2 c =
    let e : Extent = c.args.extent in
    let old : List ℕ = c.self.inside.counts.items in
    let new : List ℕ = c.count_up.new.counts in
    let raised : AreCountsRaised e.page (end_page e) old new = raised_from e.page (end_page e) c.page_behind-end.result old c.make_room.new.counts.items c.deref_mut.result.now new c.make_room.ensures.same c.deref_mut.ensures.value c.page_behind-end.ensures c.count_up.ensures in
    subst (λ (counts : List ℕ). IsSpaceSound counts c.self.inside.hints.items (c.self.inside.count + 1) × (AreHintsUpTo c.self.inside.longest c.self.inside.hints.items × IsFull counts c.self.inside.full)) (sym (with_items_is c.make_room.new.counts new (c.count_up.auto.counts ∙ c.deref_mut.ensures.len)))
    (sound-more old new c.self.inside.hints.items c.self.inside.count e c.self.invariant.0 c.requires.behind_slots c.requires.in_range raised, (c.self.invariant.1.0, full-raised e.page (end_page e) old new c.self.inside.full raised c.self.invariant.1.1))

pub returns-clause-held : goal.returns-clause-held
returns-clause-held c = λ taken are.
    let e : Extent = c.args.extent in
    let old : List ℕ = c.self.inside.counts.items in
    let new : List ℕ = c.count_up.new.counts in
    let raised : AreCountsRaised e.page (end_page e) old new = raised_from e.page (end_page e) c.page_behind-end.result old c.make_room.new.counts.items c.deref_mut.result.now new c.make_room.ensures.same c.deref_mut.ensures.value c.page_behind-end.ensures c.count_up.ensures in
    let before : AreTaken taken (record { counts = old; count = c.self.inside.count }) = subst (λ (s : Space). AreTaken taken s) (sym c.self.view_is) are in
    subst (λ (counts : List ℕ). AreTaken (e ∷ taken) (record { counts = counts; count = c.self.inside.count + 1 })) (sym (with_items_is c.make_room.new.counts new (c.count_up.auto.counts ∙ c.deref_mut.ensures.len)))
    (taken-more taken e old new c.self.inside.count c.requires.behind_slots c.requires.in_range before raised)
