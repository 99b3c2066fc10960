use Rattle.std.proofs.Common.{◌∙◌, ◌++◌, ◌-◌, List, ℕ, length, take, drop, ap}
use Rattle.std.proofs.lemmas.List.{map-append}
use Rattle.geos_model.specs.declared.handle.VmHandle.{VmHandle}
use Rattle.vm_chains.specs.Numbers.{numbers}
use Rattle.large_arrays.specs.HandleLists.{old_handles}
use Rattle.large_arrays.proofs.HandlePlaces.{window_pushed}
use Rattle.large_arrays.proofs.handles.window_handles.Goals as goal

pub returns : goal.returns
returns c =
    let olds = c.args.olds.now in
    let kept = c.kept_places-kept.result in
    let front : List ℕ = old_handles (take (kept.end - kept.start) (drop kept.start olds)) in
    let back : List ℕ = old_handles (take (length olds - kept.last) (drop kept.last olds)) in
    window_pushed olds c.args.head c.args.pieces c.args.new.now kept (numbers c.push_handles-2.new.handles.items) c.kept_places-kept.ensures c.requires
    (c.in_ok-push_handles-2.ensures
    ∙ ap (λ (xs : List ℕ). xs ++ back)
    (ap numbers c.in_ok-extend_from_slice.ensures.items
    ∙ map-append (λ (h : VmHandle). h.0) c.push_handles.new.handles.items c.args.new.now
    ∙ ap (λ (xs : List ℕ). xs ++ numbers c.args.new.now)
    (c.in_ok-push_handles.ensures ∙ ap (λ (xs : List ℕ). xs ++ front) (ap numbers c.in_ok-handles.ensures.items))))
