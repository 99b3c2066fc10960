use Rattle.std.proofs.Common.{◌≡◌, ◌+◌, ◌<◌, ℕ, List, [], ◌∷◌, length, refl, sym, ap, ◌∙◌, arith}
use Rattle.std.proofs.lemmas.List.{take_all}
use Rattle.std.proofs.lemmas.List.Sums.{sum_by-cons, sum_by_more}
use Rattle.std.specs.List.{sum_by}
use Rattle.geos_model.specs.Document.{raw_bytes_of}
use Rattle.geos_model.specs.declared.handle.VmHandle.{VmHandle}
use Rattle.vm_chains.specs.Numbers.{numbers}
use Rattle.vm_chains.proofs.measuring.total_len.Goals as goal

sum_numbers : (f : ℕ → ℕ) (hs : List VmHandle) → sum_by (λ h. f h.0) hs ≡ sum_by f (numbers hs)
sum_numbers f [] = refl
sum_numbers f (h ∷ hs) = sum_by-cons (λ (x : VmHandle). f x.0) h hs ∙ ap (λ (n : ℕ). f h.0 + n) (sum_numbers f hs) ∙ sym (sum_by-cons f h.0 (numbers hs))

pub loop-handle-init : goal.loop-handle-init
loop-handle-init g c = record { total = λ steady. refl; small = omega arith }

pub raw_len-requires : goal.raw_len-requires
raw_len-requires g c =
    let none : VmHandle = record { 0 = 0 } in
    c.requires.live c.loop-handle.handle-index none (omega arith)

pub loop-handle-preserved : goal.loop-handle-preserved
loop-handle-preserved g c =
    let d = c.args.blocks.now.document in let hs = c.args.handles.now in let i = c.loop-handle.handle-index in
    let none : VmHandle = record { 0 = 0 } in
    let within : i < length hs = omega arith in
    record {
      total = λ steady.
          let f : VmHandle → ℕ = λ h. length (raw_bytes_of d h.0) in
          (λ j. c.loop-handle.invariant.total steady j + c.raw_len.ensures.value steady j) ∙ sym (sum_by_more f hs i none within);
      small = omega (arith, c.raw_len.ensures.small, c.loop-handle.invariant.small);
    }

pub returns : goal.returns
returns g c = λ steady.
    let d = c.args.blocks.now.document in let hs = c.args.handles.now in
    c.loop-handle.invariant.total steady ∙ ap (λ (xs : List VmHandle). sum_by (λ h. length (raw_bytes_of d h.0)) xs) (take_all c.loop-handle.handle-index hs (omega arith))
    ∙ sum_numbers (λ h. length (raw_bytes_of d h)) hs
