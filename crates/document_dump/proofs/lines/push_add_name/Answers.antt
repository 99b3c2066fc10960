use Rattle.std.proofs.Common.{◌≡◌, ℕ, List, [], ◌∷◌, ◌++◌, codes, ap, ◌∙◌, append_assoc, append-nil}
use Rattle.std.proofs.lemmas.Result.{on_ok_weaker}
use Rattle.geos_model.specs.Script.{four_digits, hex_text}
use Rattle.geos_script.specs.Printing.{edit_text}
use Rattle.document_dump.proofs.lines.push_add_name.Goals as goal

three_parts : (o a h k n p f : List ℕ) → ((o ++ (a ++ (32 ∷ (h ++ (32 ∷ (k ++ (32 ∷ (n ++ [])))))))) ++ (32 ∷ (p ++ []))) ++ ((32 ∷ (f ++ [])) ++ 10 ∷ [])
    ≡ o ++ ((a ++ (32 ∷ (h ++ (32 ∷ (k ++ (32 ∷ (n ++ (32 ∷ (p ++ (32 ∷ (f ++ []))))))))))) ++ 10 ∷ [])
three_parts o a h k n p f = simp (append_assoc, append-nil)

pub returns : goal.returns
unfolding edit_text
returns c =
    let part : List ℕ = 32 ∷ (hex_text c.args.part.now ++ []) in
    let flag : List ℕ = (32 ∷ (codes "keep" ++ [])) ++ 10 ∷ [] in
    on_ok_weaker c.push_line.result (λ pushed.
    pushed ∙ ap (λ (l : List ℕ). l ++ flag) (c.in_ok-push_words-2.ensures.ok ∙ ap (λ (l : List ℕ). l ++ part) c.in_ok-push_words.ensures.ok)
    ∙ three_parts c.args.out.now.items (codes "nadd") (four_digits c.args.block.0) (four_digits c.args.chunk.0) (hex_text c.args.name.now) (hex_text c.args.part.now) (codes "keep")) c.push_line.ensures
