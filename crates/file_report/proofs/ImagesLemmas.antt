-- The blocks of entries, one after another.
use Rattle.std.proofs.Common.{◌≡◌, ℕ, ◌++◌, ◌∷◌, [], ◌&&◌, ◌⊎◌, inl, inr, List, Option, Some, None, Bool, true, false, is_some, refl, sym, ap, ◌∙◌}
use Rattle.geos_model.specs.Document.{Block}
use Rattle.file_format.specs.File.{block_of, blocks_of_entries, prepended}
use Rattle.file_format.specs.declared.file.Entry.{Entry}

some_prepended : (b : Option (ℕ × Block)) (bs : Option (List (ℕ × Block))) → is_some (prepended b bs) ≡ (is_some b && is_some bs)
some_prepended None None = refl
some_prepended None (Some bs) = refl
some_prepended (Some b) None = refl
some_prepended (Some b) (Some bs) = refl

and_true : (b : Bool) → (b && true) ≡ b
and_true true = refl
and_true false = refl

and_assoc : (a b c : Bool) → (a && (b && c)) ≡ ((a && b) && c)
and_assoc true b c = refl
and_assoc false b c = refl

pub some_with : (file : List ℕ) (es : List Entry) (e : Entry) → is_some (blocks_of_entries file (es ++ e ∷ [])) ≡ (is_some (blocks_of_entries file es) && is_some (block_of file e))
some_with file [] e = some_prepended (block_of file e) (Some []) ∙ and_true (is_some (block_of file e))
some_with file (x ∷ es) e =
    some_prepended (block_of file x) (blocks_of_entries file (es ++ e ∷ []))
    ∙ ap (λ b. is_some (block_of file x) && b) (some_with file es e)
    ∙ and_assoc (is_some (block_of file x)) (is_some (blocks_of_entries file es)) (is_some (block_of file e))
    ∙ ap (λ b. b && is_some (block_of file e)) (sym (some_prepended (block_of file x) (blocks_of_entries file es)))

pub and_false : (a b : Bool) → (a && b) ≡ false → (a ≡ false) ⊎ (b ≡ false)
and_false false b is = inl refl
and_false true b is = inr is
