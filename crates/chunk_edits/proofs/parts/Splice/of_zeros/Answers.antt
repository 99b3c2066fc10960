use Rattle.std.proofs.Common.{◌≡◌, ◌∙◌, ◌++◌, ◌+◌, ℕ, List, length, take, replicate, ap, ap₂, arith}
use Rattle.std.proofs.lemmas.List.{take_all, take-replicate}
use Rattle.chunk_edits.proofs.SplicingLemmas.{parts, parts_in_row}
use Rattle.chunk_edits.proofs.parts.Splice.of_zeros.Goals as goal

pub returns-then-count-le-FEW : goal.returns-then-count-le-FEW
returns-then-count-le-FEW c =
    c.of_few.ensures
    ∙ ap (parts c.args.at c.args.old.now) (take-replicate c.args.n 24 0 (omega arith))

pub returns : goal.returns
returns c =
    let old : List ℕ = c.args.old.now in
    let before : c.extend_from_slice.new.self.items ≡ old =
    c.in_ok-extend_from_slice.ensures.items ∙ ap (λ (l : List ℕ). l ++ old) c.in_ok-bytes.ensures.items in
    let len = ap length before in
    let row : c.resize.new.self.items ≡ old ++ replicate c.args.n 0 =
    c.in_ok-resize.ensures.items
    ∙ ap₂ (λ (l : List ℕ) (k : ℕ). l ++ replicate k 0)
    (ap (take (length old + c.args.n)) before ∙ take_all (length old + c.args.n) old (omega arith)) (omega (arith, len)) in
    parts_in_row c.args.at old (replicate c.args.n 0) c.resize.new.self.items row
