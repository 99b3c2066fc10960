use Rattle.std.proofs.Common.{◌≡◌, ℕ, zero, suc, ◌+◌, List, Bool, false, ◌==◌, get_or, replicate, length, refl, sym, ap, ◌∙◌}
use Rattle.std.proofs.lemmas.List.{length-replicate}
use Rattle.std.specs.List.{list_any}
use Rattle.geos_model.specs.Document.{most_blocks}
use Rattle.geos_model.specs.declared.handle.VmHandle.{VmHandle}
use Rattle.vm_chains.specs.Numbers.{numbers}
use Rattle.vm_chains.proofs.met.Met.new.Goals as goal

unmarked : (n h : ℕ) → get_or (replicate n false) h false ≡ false
unmarked zero h = refl
unmarked (suc n) zero = refl
unmarked (suc n) (suc h) = unmarked n h

pub invariant_of-result : goal.invariant_of-result
invariant_of-result c =
    let made = c.in_ok-vec.ensures {u = tt} in
    let marks : c.in_ok-vec.field-0.items ≡ replicate (most_blocks + 1) false = made.items_if_clones_equal (λ y e. e) in
    record {
      size = ap (λ (xs : List Bool). length xs) marks ∙ length-replicate (most_blocks + 1) false;
      marked = λ h.
          ap (λ (xs : List Bool). get_or xs h false) marks ∙ unmarked (most_blocks + 1) h
          ∙ sym (ap (λ (xs : List VmHandle). list_any (λ x. x == h) (numbers xs)) c.new.ensures.items);
    }
