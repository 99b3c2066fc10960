use Rattle.std.proofs.Common.{◌≡◌, ◌∙◌, ◌++◌, ◌∷◌, [], ℕ, List, ap, append_assoc}
use Rattle.chunk_edits.specs.declared.held.Span.{Span}
use Rattle.chunk_edits.proofs.held.put_behind.Goals as goal

pub returns-clause-ok : goal.returns-clause-ok
returns-clause-ok c =
    let old : List ℕ = c.args.old.now in let new : List ℕ = c.args.new.now in let row : List ℕ = c.args.pieces.now.content.items in
    let pushed = c.push_reserved.ensures.items ∙ ap (λ (l : List Span). l ++ c.args.span ∷ []) c.in_ok-reserve.ensures.items in
    let grown : c.extend_from_slice-2.new.self.items ≡ row ++ (old ++ new) =
    c.in_ok-extend_from_slice-2.ensures.ok
    ∙ (ap (λ (l : List ℕ). l ++ new) (c.in_ok-extend_from_slice.ensures.ok
    ∙ ap (λ (l : List ℕ). l ++ old) c.in_ok-reserve-2.ensures.items)
    ∙ append_assoc row old new) in
    (pushed, grown)
