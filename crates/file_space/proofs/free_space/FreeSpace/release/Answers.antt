use Rattle.std.proofs.Common.{◌≡◌, ℕ, ◌-◌, ◌<◌, ◌≤◌, List, ◌∷◌, length, min, get_or, sym, subst, ap, ◌∙◌, arith}
use Rattle.std.proofs.lemmas.List.{with_items_is}
use Rattle.std.specs.Vec.{with_items}
use Rattle.file_format.specs.File.{end_page}
use Rattle.file_format.specs.declared.file.Extent.{Extent}
use Rattle.file_space.specs.Space.{Space, AreCountsRaised, AreTaken, AreHintsUpTo, IsHint, IsSpaceSound, lowest}
use Rattle.file_space.specs.Stretches.{IsFull}
use Rattle.file_space.proofs.PlacingLemmas.{pages_few}
use Rattle.file_space.proofs.StretchLemmas.{full-kept}
use Rattle.file_space.proofs.SpaceLemmas.{lowered_from, taken-less, sound-less, sound-fewer, taken_there, up_to-lowered}
use Rattle.file_space.proofs.free_space.FreeSpace.release.Goals.{After-count_down}
use Rattle.file_space.proofs.free_space.FreeSpace.release.Goals as goal

-- the counts, and the extents that are left
lowered : (c : After-count_down) → AreCountsRaised c.args.extent.page (end_page c.args.extent) c.count_down.new.counts c.self.inside.counts.items
lowered c =
    let e : Extent = c.args.extent in
    lowered_from e.page (end_page e) c.page_behind-end.result c.self.inside.counts.items c.deref_mut.result.now c.count_down.new.counts c.deref_mut.ensures.value c.page_behind-end.ensures c.count_down.ensures

left : (c : After-count_down) (rest : List Extent) → AreTaken (c.args.extent ∷ rest) c.args.self.now → AreTaken rest (record { counts = c.count_down.new.counts; count = c.self.inside.count - 1 })
left c rest are =
    let e : Extent = c.args.extent in
    let old : List ℕ = c.self.inside.counts.items in
    let before : AreTaken (e ∷ rest) (record { counts = old; count = c.self.inside.count }) = subst (λ (s : Space). AreTaken (e ∷ rest) s) (sym c.self.view_is) are in
    let some = before.count in
    taken-less rest e old c.count_down.new.counts c.self.inside.count (c.self.inside.count - 1) before (lowered c) (omega (arith, some))

pub count_down-requires-clause-some : goal.count_down-requires-clause-some
count_down-requires-clause-some c = λ page low high.
    let e : Extent = c.args.extent in
    let there = taken_there c.requires.0 e c.args.self.now c.requires.1 page low (omega (arith, high, c.page_behind-end.ensures)) in
    let is : c.deref_mut.result.now ≡ c.args.self.now.counts = c.deref_mut.ensures.value ∙ ap (λ (s : Space). s.counts) c.self.view_is in
    subst (λ (counts : List ℕ). 1 ≤ get_or counts page 0) (sym is) there

pub invariant_of-self : goal.invariant_of-self
invariant_of-self c =
    let e : Extent = c.args.extent in
    let old : List ℕ = c.self.inside.counts.items in
    let new : List ℕ = c.count_down.new.counts in
    let raised = lowered (goal.at.invariant_of-self c).After-count_down in
    let before : AreTaken (e ∷ c.requires.0) (record { counts = old; count = c.self.inside.count }) = subst (λ (s : Space). AreTaken (e ∷ c.requires.0) s) (sym c.self.view_is) c.requires.1 in
    let hints = c.deref_mut-then-has_free in
    let was : List ℕ = c.self.inside.hints.items in
    let lower : (n : ℕ) → n ≤ c.self.inside.longest → get_or c.lower.new.hints n 0 ≡ min (get_or was n 0) (lowest e.page n) =
    subst (λ (l : List ℕ). (n : ℕ) → n ≤ c.self.inside.longest → get_or c.lower.new.hints n 0 ≡ min (get_or l n 0) (lowest e.page n)) hints.ensures.value c.lower.ensures.lower in
    let same : (n : ℕ) → c.self.inside.longest < n → get_or c.lower.new.hints n 0 ≡ get_or was n 0 =
    subst (λ (l : List ℕ). (n : ℕ) → c.self.inside.longest < n → get_or c.lower.new.hints n 0 ≡ get_or l n 0) hints.ensures.value c.lower.ensures.same in
    let behind : ℕ = c.page_behind-end.result in
    let n : ℕ = behind - e.page in
    let sound = c.self.invariant.0 in
    let ends = c.page_behind-end.ensures in
    let is = c.requires.1.extents 0 e (omega arith) in
    let few = pages_few e.length is.1 in
    let seen = c.deref-then-has_free.ensures.value in
    let hint : IsHint old n (get_or c.deref-then-has_free.result.now n 0) = subst (λ (l : List ℕ). IsHint old n (get_or l n 0)) (sym seen) (sound.hint n (omega (arith, few, ends))) in
    let less : AreCountsRaised e.page behind new old = subst (λ (b : ℕ). AreCountsRaised e.page b new old) (sym ends) raised in
    let full : IsFull new c.full_behind-self-inside.result = c.full_behind-self-inside.ensures old new c.self.invariant.1.1 hint less in
    let as_long : length c.lower.new.hints ≡ length was = c.lower.auto.hints ∙ ap (λ (l : List ℕ). length l) hints.ensures.value in
    subst (λ (counts : List ℕ). IsSpaceSound counts (with_items c.self.inside.hints c.lower.new.hints).items (c.self.inside.count - 1) × (AreHintsUpTo c.self.inside.longest (with_items c.self.inside.hints c.lower.new.hints).items × IsFull counts c.full_behind-self-inside.result)) (sym (with_items_is c.self.inside.counts new (c.count_down.auto.counts ∙ c.deref_mut.ensures.len)))
    (subst (λ (l : List ℕ). IsSpaceSound new l (c.self.inside.count - 1) × (AreHintsUpTo c.self.inside.longest l × IsFull new c.full_behind-self-inside.result)) (sym (with_items_is c.self.inside.hints c.lower.new.hints (c.lower.auto.hints ∙ hints.ensures.len))) (
      sound-less old new was c.lower.new.hints c.self.inside.longest c.self.inside.count e c.requires.0 c.self.invariant.0 c.self.invariant.1.0 before raised (as_long ∙ c.self.invariant.0.hint_count) lower same,
      (up_to-lowered was c.lower.new.hints c.self.inside.longest c.self.invariant.1.0 same, full),
    ))

pub invariant_of-self-else-has_free : goal.invariant_of-self-else-has_free
invariant_of-self-else-has_free c =
    let e : Extent = c.args.extent in
    let old : List ℕ = c.self.inside.counts.items in
    let new : List ℕ = c.count_down.new.counts in
    let items = with_items_is c.self.inside.counts new (c.count_down.auto.counts ∙ c.deref_mut.ensures.len) in
    let raised = lowered (goal.at.invariant_of-self-else-has_free c).After-count_down in
    let before : AreTaken (e ∷ c.requires.0) (record { counts = old; count = c.self.inside.count }) = subst (λ (s : Space). AreTaken (e ∷ c.requires.0) s) (sym c.self.view_is) c.requires.1 in
    let as_file : c.deref.result.now ≡ new = c.deref.ensures.value ∙ items in
    let held : (page : ℕ) → e.page ≤ page → page < end_page e → 1 ≤ get_or new page 0 = λ page low high.
    subst (λ (counts : List ℕ). 1 ≤ get_or counts page 0) as_file (c.has_free.ensures c.if-has_free.false page low (omega (arith, high, c.page_behind-end.ensures))) in
    subst (λ (counts : List ℕ). IsSpaceSound counts c.self.inside.hints.items (c.self.inside.count - 1) × (AreHintsUpTo c.self.inside.longest c.self.inside.hints.items × IsFull counts c.self.inside.full)) (sym items)
    (sound-fewer old new c.self.inside.hints.items c.self.inside.count e c.requires.0 c.self.invariant.0 before raised held, (c.self.invariant.1.0, full-kept e.page (end_page e) old new c.self.inside.full raised held c.self.invariant.1.1))

pub returns-then-has_free-clause-left : goal.returns-then-has_free-clause-left
returns-then-has_free-clause-left c = λ rest are.
    subst (λ (counts : List ℕ). AreTaken rest (record { counts = counts; count = c.self.inside.count - 1 })) (sym (with_items_is c.self.inside.counts c.count_down.new.counts (c.count_down.auto.counts ∙ c.deref_mut.ensures.len)))
    (left (goal.at.returns-then-has_free-clause-left c).After-count_down rest are)

pub returns-else-has_free-clause-left : goal.returns-else-has_free-clause-left
returns-else-has_free-clause-left c = λ rest are.
    subst (λ (counts : List ℕ). AreTaken rest (record { counts = counts; count = c.self.inside.count - 1 })) (sym (with_items_is c.self.inside.counts c.count_down.new.counts (c.count_down.auto.counts ∙ c.deref_mut.ensures.len)))
    (left (goal.at.returns-else-has_free-clause-left c).After-count_down rest are)
