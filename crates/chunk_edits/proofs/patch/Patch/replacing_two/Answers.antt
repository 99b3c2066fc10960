use Rattle.std.proofs.Common.{◌≡◌, ◌∙◌, ◌++◌, ◌∷◌, [], ℕ, List, length, ap, ap₂}
use Rattle.chunk_edits.specs.Spans.{pieces_of}
use Rattle.chunk_edits.specs.declared.held.Span.{Span}
use Rattle.chunk_edits.specs.declared.held.Span.TheVariants as spans
use Rattle.chunk_edits.proofs.SpanLemmas.{two-exchanged}
use Rattle.chunk_edits.proofs.patch.Patch.replacing_two.Goals as goal

pub returns : goal.returns
returns c =
    let a : List ℕ = c.args.first.old.now in let b : List ℕ = c.args.first.new.now in
    let d : List ℕ = c.args.second.old.now in let e : List ℕ = c.args.second.new.now in
    let row : c.extend_from_slice-4.new.self.items ≡ ((a ++ b) ++ d) ++ e =
    c.in_ok-extend_from_slice-4.ensures.ok
    ∙ ap (λ (l : List ℕ). l ++ e) (c.in_ok-extend_from_slice-3.ensures.ok
    ∙ ap (λ (l : List ℕ). l ++ d) (c.in_ok-extend_from_slice-2.ensures.ok
    ∙ ap (λ (l : List ℕ). l ++ b) (c.in_ok-extend_from_slice.ensures.ok
    ∙ ap (λ (l : List ℕ). l ++ a) c.in_ok-content.ensures.items))) in
    let ss : c.from_buf.result.items ≡ spans.Put (length a) (length b) ∷ spans.Keep c.args.between ∷ spans.Put (length d) (length e) ∷ spans.Keep c.args.behind ∷ [] =
    c.from_buf.ensures.items
    ∙ ap₂ (λ (s t : Span). s ∷ spans.Keep c.args.between ∷ t ∷ spans.Keep c.args.behind ∷ []) c.span-front.ensures c.span-put.ensures in
    c.in_ok-patch.ensures ∙ (ap₂ pieces_of ss row ∙ two-exchanged a b d e c.args.between c.args.behind)
