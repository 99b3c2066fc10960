-- One more part behind the others.
use Rattle.std.proofs.Common.{◌≡◌, ℕ, ◌+◌, ◌-◌, ◌<◌, ◌≤◌, Bool, true, false, List, [], ◌∷◌, ◌++◌, length, take, drop, get_or, Some, arith, refl, sym, ap, ap₂, ◌∙◌, append_assoc, length-append}
use Rattle.std.specs.Prelude.{cond, slice_get}
use Rattle.std.proofs.Math.Seq.{take-append_seam}
use Rattle.std.proofs.lemmas.Bool.{cond-false}
use Rattle.std.proofs.lemmas.List.{drop_more, get_or_push}
use Rattle.std.proofs.lemmas.Option.{slice_get-get_or}
use Rattle.file_map.specs.Bars.{bar_of, bars_drawn, below}
use Rattle.file_map.specs.Parts.{drawn_more, is_heap_part, is_shared, joined_behind}
use Rattle.file_map.specs.declared.part.Kind.TheVariants.{Slots}
use Rattle.file_map.specs.declared.part.Part.{Part}
use Rattle.file_map.specs.declared.part.Users.TheVariants.{Updated}

-- behind a last one
pub drawn_last : (rest : List Part) (q p : Part) → drawn_more (rest ++ q ∷ []) p ≡ rest ++ joined_behind (Some q) p
drawn_last rest q p =
    let size : length (rest ++ q ∷ []) ≡ length rest + 1 = length-append rest (q ∷ []) in
    let at : length (rest ++ q ∷ []) - 1 ≡ length rest = omega (arith, size) in
    let within : length rest < length (rest ++ q ∷ []) = omega (arith, size) in
    ap₂ (λ ps o. ps ++ joined_behind o p) (ap (λ k. take k (rest ++ q ∷ [])) at ∙ take-append_seam rest (q ∷ []))
    (ap (slice_get (rest ++ q ∷ [])) at ∙ slice_get-get_or (rest ++ q ∷ []) (length rest) q within ∙ ap Some (get_or_push rest q q (length rest) refl))

-- the two aren't one part
pub unshared : (old rest one two : List Part) (q p : Part) → old ≡ rest ++ q ∷ [] → is_shared q p ≡ false → one ≡ rest ++ q ∷ [] → two ≡ one ++ p ∷ [] → two ≡ drawn_more old p
unshared old rest one two q p was alone first second =
    second ∙ ap (λ l. l ++ p ∷ []) first ∙ append_assoc rest (q ∷ []) (p ∷ [])
    ∙ ap (λ l. rest ++ l) (sym (cond-false (is_shared q p) _ _ alone)) ∙ sym (drawn_last rest q p) ∙ ap (λ l. drawn_more l p) (sym was)

-- what a read past the end of a list of parts gives
abbrev pub no_part : Part
no_part = record { extent = record { page = 0; length = 0 }; kind = Slots; users = Updated; block = record { 0 = 0 } }

-- the heaps from a part on
pub bars_more : (file : List ℕ) (y i : ℕ) (ps : List Part) (d : Part) → i < length ps
    → bars_drawn file y (drop i ps) ≡ bar_of file y (get_or ps i d) ++ bars_drawn file (below (get_or ps i d) y) (drop (i + 1) ps)
bars_more file y i ps d within = ap (bars_drawn file y) (drop_more ps i d within)

below_cases : (b : Bool) (y : ℕ) → cond b (y + 34) y ≤ y + 34
below_cases true y = omega arith
below_cases false y = omega arith

pub below_most : (p : Part) (y : ℕ) → below p y ≤ y + 34
below_most p y = below_cases (is_heap_part p) y
