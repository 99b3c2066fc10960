use Rattle.std.proofs.Common.{◌≡◌, ◌∙◌, ◌<◌, ℕ, slice_index, ap, sym, rules, arith, length}
use Rattle.std.proofs.lemmas.List.{take_rest}
use Rattle.geos_model.specs.Bytes.{same_bytes}
use Rattle.geos_script.proofs.Names.{same_at_end, same_behind, same_front}
use Rattle.geos_script.proofs.name.is.Goals as goal

pub returns-then-text-le-FRONT : goal.returns-then-text-le-FRONT
returns-then-text-le-FRONT c =
    let name = c.args.name.now in
    let text = c.as_bytes-text.result.now in
    let bytes_x : (i : ℕ) → slice_index c.args.name.now i < 256 = λ i. search rules in
    let bytes_y : (i : ℕ) → slice_index c.as_bytes-text.result.now i < 256 = λ i. search rules in
    let same : (k : ℕ) → k < 8 → slice_index c.args.name.now k ≡ slice_index c.as_bytes-text.result.now k =
    same_front name text c.front.result c.front-2.result bytes_x bytes_y c.front.ensures c.front-2.ensures (search rules) in
    same_at_end name text (length text) (omega arith) (omega arith)
    ∙ sym (same_behind name text (length text) (omega arith) (omega arith) (λ k lt. same k (omega arith)))
    ∙ ap (same_bytes name) c.as_bytes-text.ensures.value

pub returns : goal.returns
returns c =
    let name = c.args.name.now in
    let text = c.as_bytes-text.result.now in
    let bytes_x : (i : ℕ) → slice_index c.args.name.now i < 256 = λ i. search rules in
    let bytes_y : (i : ℕ) → slice_index c.as_bytes-text.result.now i < 256 = λ i. search rules in
    let same : (k : ℕ) → k < 8 → slice_index c.args.name.now k ≡ slice_index c.as_bytes-text.result.now k =
    same_front name text c.front.result c.front-2.result bytes_x bytes_y c.front.ensures c.front-2.ensures (search rules) in
    (rw (take_rest name 8, take_rest text 8) at c.eq.ensures)
    ∙ sym (same_behind name text 8 (omega arith) (omega arith) same)
    ∙ ap (same_bytes name) c.as_bytes-text.ensures.value
