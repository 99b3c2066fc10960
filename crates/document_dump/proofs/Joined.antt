-- All edits of a stage, and the text of a part of a dump.
use Rattle.std.proofs.Common.{◌≡◌, ℕ, suc, Bool, true, false, not, ◌||◌, List, [], ◌∷◌, ◌++◌, length, Option, cond, refl, sym, ap, subst, ◌∙◌, arith, append_assoc}
use Rattle.std.proofs.lemmas.Bool.{ne_eqb}
use Rattle.std.proofs.KnownBytes.{Appends-trans}
use Rattle.std.specs.Io.KnownBytes.{Appends}
use Rattle.geos_model.specs.Document.{Document, vm_handles}
use Rattle.document_dump.specs.Lines.{text}
use Rattle.document_dump.specs.Changes.{blocks_changed, blocks_freed, changes, first_progress, map_set, progress_after}
use Rattle.document_dump.specs.Dumps.{if_changed, is_some_text}
use Rattle.document_dump.specs.declared.changes.Progress.{Progress}
use Rattle.document_dump.proofs.Texts.{text_append}
use Rattle.document_dump.proofs.Went.{some_append}

-- what the making of all blocks came to
abbrev pub AreMade : Document → Document → Progress → Option (List ℕ) → Option (List ℕ) → Bool → Progress → Type 0
AreMade old new first from to some p =
    (some ≡ is_some_text (text (blocks_changed old new first vm_handles))) × (p ≡ progress_after old new first vm_handles) × Appends from to (text (blocks_changed old new first vm_handles))

-- the edits behind those
abbrev pub ending : Document → Document → Progress → List ℕ
ending old new p = text (map_set p.map_block new.map_block) ++ text (blocks_freed old new p.last)

changes_text : (old new : Document) → text (changes old new)
    ≡ text (blocks_changed old new (first_progress old.map_block) vm_handles) ++ ending old new (progress_after old new (first_progress old.map_block) vm_handles)
unfolding changes
changes_text old new =
    let first = first_progress old.map_block in
    let p = progress_after old new first vm_handles in
    let made = blocks_changed old new first vm_handles in
    let set = map_set p.map_block new.map_block in
    let freed = blocks_freed old new p.last in
    text_append (made ++ set) freed ∙ ap (λ (l : List ℕ). l ++ text freed) (text_append made set) ∙ append_assoc (text made) (text set) (text freed)

pub joined : (old new old_now new_now : Document) (map_block : ℕ) (p : Progress) (some more : Bool) (set out : List ℕ) (from mid to : Option (List ℕ)) → map_block ≡ old.map_block
    → old_now ≡ old → new_now ≡ new → AreMade old new (first_progress map_block) from mid some p → set ≡ text (map_set p.map_block new_now.map_block)
    → out ≡ set ++ text (blocks_freed old_now new_now p.last) → more ≡ is_some_text out → Appends mid to out
    → ((some || more) ≡ is_some_text (text (changes old new))) × Appends from to (text (changes old new))
joined old new old_now new_now map_block p some more set out from mid to map_is old_is new_is are_made set_is out_is more_is sent =
    let made : AreMade old new (first_progress old.map_block) from mid some p = subst (λ (m : ℕ). AreMade old new (first_progress m) from mid some p) map_is are_made in
    let a = text (blocks_changed old new (first_progress old.map_block) vm_handles) in
    let out_now : out ≡ ending old_now new_now p = out_is ∙ ap (λ (l : List ℕ). l ++ text (blocks_freed old_now new_now p.last)) set_is in
    let end : out ≡ ending old new (progress_after old new (first_progress old.map_block) vm_handles) =
    out_now ∙ ap (λ (d : Document). ending d new_now p) old_is ∙ ap (λ (d : Document). ending old d p) new_is ∙ ap (ending old new) made.1 in
    let whole : a ++ out ≡ text (changes old new) = ap (λ (l : List ℕ). a ++ l) end ∙ sym (changes_text old new) in (
      ap (λ (b : Bool). b || more) made.0 ∙ ap (λ (b : Bool). is_some_text a || b) more_is ∙ sym (some_append a out) ∙ ap is_some_text whole,
      subst (λ (l : List ℕ). Appends from to l) whole (Appends-trans from mid to a out made.2 sent),
    )

-- the line of a commit comes behind edits, where there are any
pub changed_some : (lines commit : List ℕ) (some : Bool) (from mid to : Option (List ℕ)) → some ≡ is_some_text lines → some ≡ true → Appends from mid lines → Appends mid to commit
    → Appends from to (if_changed lines commit)
changed_some lines commit some from mid to some_is is_true written sent =
    let is : if_changed lines commit ≡ lines ++ commit = ap (λ (b : Bool). cond b (lines ++ commit) []) (sym some_is ∙ is_true) in
    subst (λ (l : List ℕ). Appends from to l) (sym is) (Appends-trans from mid to lines commit written sent)

some_text : (x : ℕ) (xs : List ℕ) → is_some_text (x ∷ xs) ≡ true
some_text x xs = ap not (ne_eqb (suc (length xs)) 0 (λ e. omega (arith, e)))

no_text : (lines : List ℕ) → is_some_text lines ≡ false → lines ≡ []
no_text [] none = refl
no_text (x ∷ xs) none = let differ : true ≡ false = sym (some_text x xs) ∙ none in cc (differ)

pub changed_none : (lines commit : List ℕ) (some : Bool) (from to : Option (List ℕ)) → some ≡ is_some_text lines → some ≡ false → Appends from to lines
    → Appends from to (if_changed lines commit)
changed_none lines commit some from to some_is is_false written =
    let none = sym some_is ∙ is_false in
    let is : if_changed lines commit ≡ [] = ap (λ (b : Bool). cond b (lines ++ commit) []) none in
    subst (λ (l : List ℕ). Appends from to l) (no_text lines none ∙ sym is) written
