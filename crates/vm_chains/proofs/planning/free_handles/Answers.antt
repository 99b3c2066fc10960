use Rattle.std.proofs.Common.{◌≡◌, ◌+◌, ◌-◌, ◌<◌, ◌++◌, ◌∷◌, [], ℕ, List, Vec, Global, take, length, sym, ap, ◌∙◌, arith}
use Rattle.std.proofs.lemmas.List.{length_push}
use Rattle.std.specs.Option.{option_map}
use Rattle.geos_model.specs.Chain.{free_handles}
use Rattle.geos_model.specs.declared.handle.VmHandle.{VmHandle}
use Rattle.vm_chains.specs.Numbers.{numbers}
use Rattle.vm_chains.proofs.CopyLemmas.{all_taken, free_first, free_from, none_free, free_next, live_next, new_more, new_end}
use Rattle.vm_chains.proofs.planning.free_handles.Goals as goal
use Rattle.vm_chains.proofs.planning.free_handles.Goals.{then-not-is_live+in_ok-push, else-not-is_live}

pub returns-in_default : goal.returns-in_default
returns-in_default g c = ap numbers c.new-handles.ensures.items ∙ all_taken c.args.blocks.now.document c.args.wanted (sym c.next_handle.ensures.value ∙ ap (option_map (λ h. h.0)) c.in_default.is)

pub loop-i-init : goal.loop-i-init
loop-i-init g c =
    let nothing = c.new-handles.ensures.items in
    let d = c.args.blocks.now.document in
    let first = free_first d c.in-Some.first.0 (sym c.next_handle.ensures.value ∙ ap (option_map (λ h. h.0)) c.in-Some.is) in
    let from : free_from d (c.from-i.result - 1) ≡ free_handles d = ap (λ (h : ℕ). free_from d (h - 1)) c.from-i.ensures ∙ first in
    record {
      found = (λ j. numbers (nothing j) ++ take (c.args.wanted - length (nothing j)) (from j)) ∙ ap (λ (n : ℕ). take n (free_handles d)) (omega arith);
      few = omega (arith, ap (λ (hs : List VmHandle). length hs) nothing);
    }

pub loop-i-preserved : goal.loop-i-preserved
loop-i-preserved g c =
    let d = c.args.blocks.now.document in let i = c.loop-i.i in let wanted = c.args.wanted in let items = c.loop-i.handles.items in
    let few : length items < wanted = omega (arith, c.loop-i.handles.ok.0) in
    elim c.if-not-is_live.branch [
      | then-not-is_live+in_ok-push w ↦
          (let h : VmHandle = record { 0 = i + 1 } in
          let pushed : c.if-not-is_live.handles.items ≡ items ++ h ∷ [] = ap (λ (v : Vec VmHandle Global). v.items) w.handles-is ∙ w.in_ok-push.ensures.items in
          let next = free_next d i c.loop-i-test.true (sym c.is_live.ensures ∙ w.if-not-is_live.true) in
          record {
            found = (λ j. numbers (pushed j) ++ take (wanted - length (pushed j)) (free_from d (i + 1)))
                ∙ new_more items h wanted (free_from d (i + 1)) _ few (ap (λ (xs : List ℕ). numbers items ++ take (wanted - length items) xs) (sym next) ∙ c.loop-i.invariant.found);
            few = omega (arith, ap (λ (hs : List VmHandle). length hs) pushed, length_push items h);
          })
      | else-not-is_live w ↦
          (let same : c.if-not-is_live.handles.items ≡ items = ap (λ (v : Vec VmHandle Global). v.items) w.handles-is in
          let next = live_next d i c.loop-i-test.true (sym c.is_live.ensures ∙ w.if-not-is_live.false) in
          record {
            found = (λ j. numbers (same j) ++ take (wanted - length (same j)) (sym next j)) ∙ c.loop-i.invariant.found;
            few = omega (arith, ap (λ (hs : List VmHandle). length hs) same);
          })
    ]

pub returns : goal.returns
returns g c =
    new_end c.loop-i.handles.items (c.args.wanted - length c.loop-i.handles.items) (free_from c.args.blocks.now.document c.loop-i.i) _ (none_free c.args.blocks.now.document c.loop-i.i c.loop-i-test.false) c.loop-i.invariant.found
