use Rattle.std.proofs.Common.{◌≡◌, ◌∙◌, ◌++◌, ◌+◌, ℕ, List, [], length, max, ap₂, arith, append-nil, take-append-drop}
use Rattle.chunk_arrays.proofs.DraftingLemmas.{adds-as, adds-then}
use Rattle.chunk_arrays.proofs.draft.Draft.exchange.Goals as goal

pub returns : goal.returns
returns c =
    let old : List ℕ = c.args.old.now in let new : List ℕ = c.args.new.now in
    let first : List ℕ = c.split_at.result.0.now in let rest : List ℕ = c.split_at.result.1.now in
    let parts : first ++ rest ≡ old =
    ap₂ (λ (x y : List ℕ). x ++ y) c.split_at.ensures.front c.split_at.ensures.back ∙ take-append-drop c.min.result old in
    let level : max (length first) (length new) + max (length rest) 0 ≡ max (length first + length rest) (length new + 0) =
    omega (arith, c.split_at.ensures.front_len, c.split_at.ensures.back_len, c.min.ensures) in
    adds-as c.args.self.now c.cut.new.self (first ++ rest) (new ++ []) old new parts (append-nil new)
    (adds-then c.args.self.now c.replace.new.self c.cut.new.self first new rest [] c.in_ok-replace.ensures c.in_ok-cut.ensures level)
