-- Texts of edits, one after another.
use Rattle.std.proofs.Common.{◌≡◌, ℕ, zero, suc, ◌+◌, List, ◌∷◌, ◌++◌, sym, ap, ◌∙◌, arith, append_assoc, append-nil, add-one, flat_map, replicate}
use Rattle.std.proofs.lemmas.List.Concat.{flat_map-append}
use Rattle.std.specs.List.{range_with_len}
use Rattle.geos_model.specs.declared.command.Edit.{Edit}
use Rattle.document_dump.specs.Lines.{line, text}

pub text_append : (xs ys : List Edit) → text (xs ++ ys) ≡ text xs ++ text ys
text_append xs ys = flat_map-append line xs ys

-- one more number at the end of a range
pub flat_more : {X : Type 0} (f : ℕ → List X) (a n : ℕ) → flat_map f (range_with_len a (suc n)) ≡ flat_map f (range_with_len a n) ++ f (a + n)
flat_more {X} f a zero = let at : a ≡ a + 0 = omega arith in append-nil (f a) ∙ ap f at
flat_more {X} f a (suc n) =
    let at : a + 1 + n ≡ a + suc n = omega arith in
    ap (λ (r : List X). f a ++ r) (flat_more f (a + 1) n ∙ ap (λ (k : ℕ). flat_map f (range_with_len (a + 1) n) ++ f k) at)
    ∙ sym (append_assoc (f a) (flat_map f (range_with_len (a + 1) n)) (f (a + suc n)))

pub text_more : (f : ℕ → List Edit) (a n j : ℕ) (start now : List ℕ) → a + n ≡ j → now ≡ start ++ text (flat_map f (range_with_len a n))
    → now ++ text (f j) ≡ start ++ text (flat_map f (range_with_len a (n + 1)))
text_more f a n j start now at so_far =
    let before = flat_map f (range_with_len a n) in
    let more : flat_map f (range_with_len a (n + 1)) ≡ before ++ f j = rw add-one (flat_more f a n ∙ ap (λ (k : ℕ). before ++ f k) at) in
    ap (λ (l : List ℕ). l ++ text (f j)) so_far ∙ append_assoc start (text before) (text (f j))
    ∙ ap (λ (l : List ℕ). start ++ l) (sym (text_append before (f j))) ∙ ap (λ (es : List Edit). start ++ text es) (sym more)

-- one more edit of many that are the same
fill_suc : (e : Edit) (k : ℕ) → text (replicate (suc k) e) ≡ text (replicate k e) ++ line e
fill_suc e zero = append-nil (line e)
fill_suc e (suc k) = ap (λ (l : List ℕ). line e ++ l) (fill_suc e k) ∙ sym (append_assoc (line e) (text (replicate k e)) (line e))

pub fill_more : (e : Edit) (k : ℕ) (start now new : List ℕ) → now ≡ start ++ text (replicate k e) → new ≡ now ++ line e → new ≡ start ++ text (replicate (k + 1) e)
fill_more e k start now new so_far more =
    let next : text (replicate (k + 1) e) ≡ text (replicate k e) ++ line e = rw add-one (fill_suc e k) in
    more ∙ ap (λ (l : List ℕ). l ++ line e) so_far ∙ append_assoc start (text (replicate k e)) (line e) ∙ ap (λ (l : List ℕ). start ++ l) (sym next)

regroup : (a b c d e : List ℕ) → (((a ++ b) ++ c) ++ d) ++ e ≡ a ++ (b ++ (c ++ (d ++ e)))
regroup a b c d e = simp append_assoc

-- an edit, and then three times more
pub pushed_four : (o0 o1 o2 o3 o4 : List ℕ) (e : Edit) (a b d : List Edit) → o1 ≡ o0 ++ line e → o2 ≡ o1 ++ text a → o3 ≡ o2 ++ text b → o4 ≡ o3 ++ text d
    → o4 ≡ o0 ++ text (e ∷ (a ++ (b ++ d)))
pushed_four o0 o1 o2 o3 o4 e a b d p1 p2 p3 p4 =
    let parts : text (a ++ (b ++ d)) ≡ text a ++ (text b ++ text d) = text_append a (b ++ d) ∙ ap (λ (l : List ℕ). text a ++ l) (text_append b d) in
    p4 ∙ ap (λ (l : List ℕ). l ++ text d) (p3 ∙ ap (λ (l : List ℕ). l ++ text b) (p2 ∙ ap (λ (l : List ℕ). l ++ text a) p1))
    ∙ regroup o0 (line e) (text a) (text b) (text d) ∙ ap (λ (l : List ℕ). o0 ++ (line e ++ l)) (sym parts)

pub ruleset texts = (text_append)
