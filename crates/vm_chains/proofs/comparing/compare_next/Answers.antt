use Rattle.std.proofs.Common.{◌≡◌, ◌⊎◌, None, ◌∙◌, inl, inr}
use Rattle.geos_model.specs.Chain.{chain}
use Rattle.vm_blocks.proofs.KeepingLaws.{keeps-refl, keeps-steady, keeps-trans}
use Rattle.vm_chains.specs.Alike.{are_alike}
use Rattle.vm_chains.specs.Comparing.{AreInStep, IsMarkedStep}
use Rattle.vm_chains.specs.Stepping.{IsOver}
use Rattle.vm_chains.proofs.Loading.{carried, carried_so}
use Rattle.vm_chains.proofs.PairedWalks.{alike_is, first_longer, first_over, marked_at, pair_alike, pair_differs, still_in, stops_later}
use Rattle.vm_chains.proofs.StepLemmas.{at_end, refused_then}
use Rattle.vm_chains.proofs.comparing.compare_next.Goals as goal

pub returns-in_err-first_block-clause-value : goal.returns-in_err-first_block-clause-value
returns-in_err-first_block-clause-value g c = λ f s steady old.
    let a = c.args.blocks.now in let b = c.step_aside.new.blocks in let once = c.step_aside.ensures.keeps in
    let now = still_in g.S.Store.facts a b once (λ d. AreInStep d f s c.args.first.now c.args.second.now) steady old in
    carried c.from_residual.result c.in_err-first_block.field-0.0 _ _ c.from_residual.ensures.1
    (stops_later g.S.Store.facts a a (keeps-refl g.S.Store.facts a) b _ ((chain b.document f ≡ None) ⊎ (chain b.document s ≡ None)) c.in_err-first_block.field-0.0 (λ broken. inl (broken f now.first_along)) (c.in_err-first_block.ensures.value steady))

pub returns-in_err-first_block-clause-refusals : goal.returns-in_err-first_block-clause-refusals
returns-in_err-first_block-clause-refusals g c =
    carried_so c.from_residual.result c.in_err-first_block.field-0.0 _ c.from_residual.ensures.1 c.in_err-first_block.ensures.refusals

pub returns-in_err-second_block-clause-keeps : goal.returns-in_err-second_block-clause-keeps
returns-in_err-second_block-clause-keeps g c = keeps-trans g.S.Store.facts c.args.blocks.now c.step_aside.new.blocks c.step_aside-2.new.blocks c.step_aside.ensures.keeps c.step_aside-2.ensures.keeps

pub returns-in_err-second_block-clause-value : goal.returns-in_err-second_block-clause-value
returns-in_err-second_block-clause-value g c = λ f s steady old.
    let a = c.args.blocks.now in let b = c.step_aside.new.blocks in let e = c.step_aside-2.new.blocks in let once = c.step_aside.ensures.keeps in
    let now = still_in g.S.Store.facts a e (keeps-trans g.S.Store.facts a b e once c.step_aside-2.ensures.keeps) (λ d. AreInStep d f s c.args.first.now c.args.second.now) steady old in
    carried c.from_residual-in_err-second_block.result c.in_err-second_block.field-0.0 _ _ c.from_residual-in_err-second_block.ensures.1
    (stops_later g.S.Store.facts a b once e _ ((chain e.document f ≡ None) ⊎ (chain e.document s ≡ None)) c.in_err-second_block.field-0.0 (λ broken. inr (broken s now.second_along)) (c.in_err-second_block.ensures.value (keeps-steady g.S.Store.facts a b once steady)))

pub returns-in_err-second_block-clause-refusals : goal.returns-in_err-second_block-clause-refusals
returns-in_err-second_block-clause-refusals g c =
    carried_so c.from_residual-in_err-second_block.result c.in_err-second_block.field-0.0 _ c.from_residual-in_err-second_block.ensures.1
    (refused_then g.S.Store.facts c.args.blocks.now c.step_aside.new.blocks c.step_aside-2.new.blocks c.in_err-second_block.field-0.0 c.step_aside.ensures.keeps c.in_err-second_block.ensures.refusals)

pub returns-then-same-clause-keeps : goal.returns-then-same-clause-keeps
returns-then-same-clause-keeps g c = keeps-trans g.S.Store.facts c.args.blocks.now c.step_aside.new.blocks c.step_aside-2.new.blocks c.step_aside.ensures.keeps c.step_aside-2.ensures.keeps

pub returns-else-same-clause-keeps : goal.returns-else-same-clause-keeps
returns-else-same-clause-keeps g c = keeps-trans g.S.Store.facts c.args.blocks.now c.step_aside.new.blocks c.step_aside-2.new.blocks c.step_aside.ensures.keeps c.step_aside-2.ensures.keeps

pub returns-in-None-second_block-clause-keeps : goal.returns-in-None-second_block-clause-keeps
returns-in-None-second_block-clause-keeps g c = keeps-trans g.S.Store.facts c.args.blocks.now c.step_aside.new.blocks c.step_aside-2.new.blocks c.step_aside.ensures.keeps c.step_aside-2.ensures.keeps

pub returns-in-None-clause-keeps : goal.returns-in-None-clause-keeps
returns-in-None-clause-keeps g c = keeps-trans g.S.Store.facts c.args.blocks.now c.step_aside.new.blocks c.step_aside-2.new.blocks c.step_aside.ensures.keeps c.step_aside-2.ensures.keeps

pub returns-then-same-clause-value : goal.returns-then-same-clause-value
returns-then-same-clause-value g c = λ f s steady old.
    let a = c.args.blocks.now in let b = c.step_aside.new.blocks in let e = c.step_aside-2.new.blocks in let once = c.step_aside.ensures.keeps in let again = c.step_aside-2.ensures.keeps in
    let first = c.args.first.now in let second = c.args.second.now in let first_then = c.step_aside.new.self in let second_then = c.step_aside-2.new.self in
    let now = still_in g.S.Store.facts a e (keeps-trans g.S.Store.facts a b e once again) (λ d. AreInStep d f s first second) steady old in
    let mine = still_in g.S.Store.facts b e again (λ d. IsMarkedStep d c.step_aside.new.bytes.items first first_then) (keeps-steady g.S.Store.facts a b once steady)
    (marked_at (λ _. c.step_aside.new.bytes.items) b.document first first_then c.in_ok-first_block.first_block c.in-Some.field-0 c.in-Some.is (c.in_ok-first_block.ensures.value steady)) in
    let other = marked_at (λ _. c.step_aside-2.new.bytes.items) e.document second second_then c.in_ok-second_block.second_block c.in-Some-second_block.field-0 c.in-Some-second_block.is (c.in_ok-second_block.ensures.value (keeps-steady g.S.Store.facts a b once steady)) in
    let tested : are_alike e.document mine.block other.block ≡ c.are_same-same.result =
    alike_is e.document mine.block other.block c.as_slice.result.now c.as_slice-in-Some-second_block.result.now c.step_aside.new.bytes.items c.step_aside-2.new.bytes.items c.are_same-same.result c.as_slice.ensures.value c.as_slice-in-Some-second_block.ensures.value mine.marked other.marked c.are_same-same.ensures in
    pair_alike e.document f s first second first_then second_then now mine.block other.block mine.step other.step (tested ∙ c.if-same.true)

pub returns-else-same-clause-value : goal.returns-else-same-clause-value
returns-else-same-clause-value g c = λ f s steady old.
    let a = c.args.blocks.now in let b = c.step_aside.new.blocks in let e = c.step_aside-2.new.blocks in let once = c.step_aside.ensures.keeps in let again = c.step_aside-2.ensures.keeps in
    let first = c.args.first.now in let second = c.args.second.now in let first_then = c.step_aside.new.self in let second_then = c.step_aside-2.new.self in
    let now = still_in g.S.Store.facts a e (keeps-trans g.S.Store.facts a b e once again) (λ d. AreInStep d f s first second) steady old in
    let mine = still_in g.S.Store.facts b e again (λ d. IsMarkedStep d c.step_aside.new.bytes.items first first_then) (keeps-steady g.S.Store.facts a b once steady)
    (marked_at (λ _. c.step_aside.new.bytes.items) b.document first first_then c.in_ok-first_block.first_block c.in-Some.field-0 c.in-Some.is (c.in_ok-first_block.ensures.value steady)) in
    let other = marked_at (λ _. c.step_aside-2.new.bytes.items) e.document second second_then c.in_ok-second_block.second_block c.in-Some-second_block.field-0 c.in-Some-second_block.is (c.in_ok-second_block.ensures.value (keeps-steady g.S.Store.facts a b once steady)) in
    let tested : are_alike e.document mine.block other.block ≡ c.are_same-same.result =
    alike_is e.document mine.block other.block c.as_slice.result.now c.as_slice-in-Some-second_block.result.now c.step_aside.new.bytes.items c.step_aside-2.new.bytes.items c.are_same-same.result c.as_slice.ensures.value c.as_slice-in-Some-second_block.ensures.value mine.marked other.marked c.are_same-same.ensures in
    pair_differs e.document f s first second first_then second_then now mine.block other.block mine.step other.step (tested ∙ c.if-same.false)

pub returns-in-None-second_block-clause-value : goal.returns-in-None-second_block-clause-value
returns-in-None-second_block-clause-value g c = λ f s steady old.
    let a = c.args.blocks.now in let b = c.step_aside.new.blocks in let e = c.step_aside-2.new.blocks in let once = c.step_aside.ensures.keeps in let again = c.step_aside-2.ensures.keeps in
    let first = c.args.first.now in let second = c.args.second.now in let first_then = c.step_aside.new.self in let second_then = c.step_aside-2.new.self in
    let now = still_in g.S.Store.facts a e (keeps-trans g.S.Store.facts a b e once again) (λ d. AreInStep d f s first second) steady old in
    let mine = still_in g.S.Store.facts b e again (λ d. IsMarkedStep d c.step_aside.new.bytes.items first first_then) (keeps-steady g.S.Store.facts a b once steady)
    (marked_at (λ _. c.step_aside.new.bytes.items) b.document first first_then c.in_ok-first_block.first_block c.in-Some.field-0 c.in-Some.is (c.in_ok-first_block.ensures.value steady)) in
    first_longer e.document f s first second first_then second_then now mine.block mine.step (at_end c.in_ok-second_block.second_block (IsOver second second_then) _ c.in-None-second_block.is (c.in_ok-second_block.ensures.value (keeps-steady g.S.Store.facts a b once steady)))

pub returns-in-None-clause-value : goal.returns-in-None-clause-value
returns-in-None-clause-value g c = λ f s steady old.
    let a = c.args.blocks.now in let b = c.step_aside.new.blocks in let e = c.step_aside-2.new.blocks in let once = c.step_aside.ensures.keeps in let again = c.step_aside-2.ensures.keeps in
    let first = c.args.first.now in let second = c.args.second.now in let first_then = c.step_aside.new.self in let second_then = c.step_aside-2.new.self in
    let now = still_in g.S.Store.facts a e (keeps-trans g.S.Store.facts a b e once again) (λ d. AreInStep d f s first second) steady old in
    first_over e.document f s first second first_then second_then now (λ _. c.step_aside-2.new.bytes.items) c.in_ok-second_block.second_block c.is_none.result (at_end c.in_ok-first_block.first_block (IsOver first first_then) _ c.in-None.is (c.in_ok-first_block.ensures.value steady)) c.is_none.ensures (c.in_ok-second_block.ensures.value (keeps-steady g.S.Store.facts a b once steady))
