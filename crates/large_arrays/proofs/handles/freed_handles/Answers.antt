use Rattle.std.proofs.Common.{◌∙◌, ◌++◌, ◌-◌, List, ℕ, take, drop, ap}
use Rattle.vm_chains.specs.Numbers.{numbers}
use Rattle.large_arrays.specs.HandleLists.{old_handles}
use Rattle.large_arrays.proofs.HandlePlaces.{freed_pushed}
use Rattle.large_arrays.proofs.handles.freed_handles.Goals as goal

pub returns : goal.returns
returns c =
    let olds = c.args.olds.now in
    let kept = c.kept_places-kept.result in
    let rest : List ℕ = old_handles (take (kept.last - kept.end) (drop kept.end olds)) in
    freed_pushed olds c.args.pieces kept (numbers c.push_handles-2.new.handles.items) c.kept_places-kept.ensures c.requires
    (c.in_ok-push_handles-2.ensures
    ∙ ap (λ (xs : List ℕ). xs ++ rest) (c.in_ok-push_handles.ensures ∙ ap (λ (xs : List ℕ). xs ++ old_handles (take kept.start olds)) (ap numbers c.new-freed.ensures.items)))
