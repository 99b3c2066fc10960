use Rattle.std.proofs.Common.{◌++◌, ◌∷◌, ℕ, List, codes, ap, ◌∙◌, append_assoc, append-nil}
use Rattle.geos_model.specs.Script.{four_digits}
use Rattle.file_salvage.proofs.salvaging.push_lost_map.Goals as goal

pub returns : goal.returns
returns c =
    let old = c.args.out.now.items in
    let digits = four_digits c.args.map_block in
    let last = codes " is left out\n" in
    c.in_ok-extend_from_slice.ensures.items
    ∙ ap (λ (l : List ℕ). l ++ last) (c.in_ok-push_words.ensures.ok ∙ ap (λ (l : List ℕ). old ++ (codes "# map block" ++ 32 ∷ l)) (append-nil digits))
    ∙ append_assoc old (codes "# map block" ++ 32 ∷ digits) last
