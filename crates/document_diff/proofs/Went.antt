-- How far the differences of blocks are written.
use Rattle.std.proofs.Common.{◌≡◌, ℕ, suc, ◌+◌, Bool, true, ◌&&◌, List, [], ◌∷◌, ◌++◌, length, Option, refl, sym, ap, subst, ◌∙◌, arith, add-one, flat_map}
use Rattle.std.proofs.lemmas.Bool.{ne_eqb}
use Rattle.std.proofs.KnownBytes.{Appends-nil, Appends-trans}
use Rattle.std.specs.Io.KnownBytes.{Appends}
use Rattle.std.specs.List.{range_with_len}
use Rattle.geos_model.specs.Document.{Document, most_blocks, vm_handles}
use Rattle.document_diff.specs.Differences.{blocks_compared, compared_at, map_compared}
use Rattle.document_diff.specs.Diffs.{diff_text, is_no_text}
use Rattle.document_diff.specs.Lines.{diff_lines}
use Rattle.document_diff.specs.declared.difference.Difference.{Difference}
use Rattle.document_diff.proofs.Texts.{flat_more, text_append}

-- this is written, and told of it whether it is nothing
abbrev pub IsWritten : List ℕ → Option (List ℕ) → Option (List ℕ) → Bool → Type 0
IsWritten bytes from to none = (none ≡ is_no_text bytes) × Appends from to bytes

no_append : (xs ys : List ℕ) → is_no_text (xs ++ ys) ≡ is_no_text xs && is_no_text ys
no_append [] ys = refl
no_append (x ∷ xs) ys = ne_eqb (suc (length (xs ++ ys))) 0 (λ e. omega (arith, e)) ∙ sym (ap (λ b. b && is_no_text ys) (ne_eqb (suc (length xs)) 0 (λ e. omega (arith, e))))

pub written_both : (xs ys : List ℕ) (from mid to : Option (List ℕ)) (none more : Bool) → IsWritten xs from mid none → IsWritten ys mid to more → IsWritten (xs ++ ys) from to (none && more)
written_both xs ys from mid to none more first then =
    (ap (λ (b : Bool). b && more) first.0 ∙ ap (λ (b : Bool). is_no_text xs && b) then.0 ∙ sym (no_append xs ys), Appends-trans from mid to xs ys first.1 then.1)

-- so far, of all handles from 1 on
unfoldable pub text_to : (ℕ → List Difference) → ℕ → List ℕ
text_to f i = diff_lines (flat_map f (range_with_len 1 i))

pub went_none : (f : ℕ → List Difference) (from : Option (List ℕ)) → IsWritten (text_to f 0) from from true
unfolding text_to
went_none f from = (refl, Appends-nil from)

text_next : (f : ℕ → List Difference) (i : ℕ) → text_to f (i + 1) ≡ text_to f i ++ diff_lines (f (i + 1))
unfolding text_to
text_next f i =
    let at : 1 + i ≡ suc i = omega arith in
    let more : flat_map f (range_with_len 1 (i + 1)) ≡ flat_map f (range_with_len 1 i) ++ f (i + 1) = rw add-one (flat_more f 1 i ∙ ap (λ (k : ℕ). flat_map f (range_with_len 1 i) ++ f k) at) in
    ap diff_lines more ∙ text_append (flat_map f (range_with_len 1 i)) (f (i + 1))

went_more : (f : ℕ → List Difference) (i : ℕ) (from mid to : Option (List ℕ)) (none more : Bool) → IsWritten (text_to f i) from mid none → IsWritten (diff_lines (f (i + 1))) mid to more
    → IsWritten (text_to f (i + 1)) from to (none && more)
went_more f i from mid to none more so_far step =
    subst (λ (l : List ℕ). IsWritten l from to (none && more)) (sym (text_next f i)) (written_both (text_to f i) (diff_lines (f (i + 1))) from mid to none more so_far step)

-- the same, where the step is known of documents that are these
pub went_next : (old new old_now new_now : Document) (i : ℕ) (from mid to : Option (List ℕ)) (none more : Bool) → old_now ≡ old → new_now ≡ new
    → IsWritten (text_to (compared_at old new) i) from mid none → IsWritten (diff_lines (compared_at old_now new_now (i + 1))) mid to more
    → IsWritten (text_to (compared_at old new) (i + 1)) from to (none && more)
went_next old new old_now new_now i from mid to none more old_is new_is so_far step =
    went_more (compared_at old new) i from mid to none more so_far
    (subst (λ (d : Document). IsWritten (diff_lines (compared_at d new (i + 1))) mid to more) old_is (subst (λ (d : Document). IsWritten (diff_lines (compared_at old_now d (i + 1))) mid to more) new_is step))

all_text : (old new : Document) → text_to (compared_at old new) most_blocks ≡ diff_lines (blocks_compared old new)
unfolding text_to blocks_compared vm_handles
all_text old new = refl

pub went_all : (old new : Document) (i : ℕ) (from to : Option (List ℕ)) (none : Bool) → i ≡ most_blocks → IsWritten (text_to (compared_at old new) i) from to none
    → IsWritten (diff_lines (blocks_compared old new)) from to none
went_all old new i from to none end so_far =
    subst (λ (l : List ℕ). IsWritten l from to none) (ap (text_to (compared_at old new)) end ∙ all_text old new) so_far

-- the map blocks, and then the blocks
pub went_whole : (old new : Document) (m n : ℕ) (from mid to : Option (List ℕ)) (none more : Bool) → m ≡ old.map_block → n ≡ new.map_block
    → IsWritten (diff_lines (map_compared m n)) from mid none → IsWritten (diff_lines (blocks_compared old new)) mid to more → IsWritten (diff_text old new) from to (none && more)
went_whole old new m n from mid to none more m_is n_is first then =
    let map_text = diff_lines (map_compared old.map_block new.map_block) in
    let before : IsWritten map_text from mid none =
    subst (λ (k : ℕ). IsWritten (diff_lines (map_compared k new.map_block)) from mid none) m_is (subst (λ (k : ℕ). IsWritten (diff_lines (map_compared m k)) from mid none) n_is first) in
    subst (λ (l : List ℕ). IsWritten l from to (none && more)) (sym (text_append (map_compared old.map_block new.map_block) (blocks_compared old new)))
    (written_both map_text (diff_lines (blocks_compared old new)) from mid to none more before then)
