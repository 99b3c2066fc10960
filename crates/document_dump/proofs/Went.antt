-- How far the edits of blocks are written.
use Rattle.std.proofs.Common.{◌≡◌, ℕ, suc, ◌<◌, ◌+◌, Bool, false, not, ◌||◌, List, [], ◌∷◌, ◌++◌, length, Option, refl, sym, ap, subst, ◌∙◌, arith, append_assoc, append-nil}
use Rattle.std.proofs.lemmas.Bool.{ne_eqb}
use Rattle.std.proofs.KnownBytes.{Appends-nil, Appends-trans}
use Rattle.std.specs.Io.KnownBytes.{Appends}
use Rattle.geos_model.specs.Document.{Document, vm_handles}
use Rattle.document_dump.specs.Lines.{text}
use Rattle.document_dump.specs.Changes.{after_block, block_changed, blocks_changed, progress_after}
use Rattle.document_dump.specs.Dumps.{is_some_text}
use Rattle.document_dump.specs.declared.changes.Progress.{Progress}
use Rattle.document_dump.proofs.Texts.{text_append}
use Rattle.document_dump.proofs.Handles.{handles_above, handles_above-none, handles_above-next, handles_above-all}

pub some_append : (xs ys : List ℕ) → is_some_text (xs ++ ys) ≡ is_some_text xs || is_some_text ys
some_append [] ys = refl
some_append (x ∷ xs) ys = ap not (ne_eqb (suc (length (xs ++ ys))) 0 (λ e. omega (arith, e))) ∙ sym (ap (λ b. not b || is_some_text ys) (ne_eqb (suc (length xs)) 0 (λ e. omega (arith, e))))

-- up to a handle they are written, and with those above they are all
pub record Went (old new : Document) (first now : Progress) (i : ℕ) (from to : Option (List ℕ)) (some : Bool) : Type 0 where
  pub so_far : List ℕ
  pub appends : Appends from to so_far
  pub some_is : some ≡ is_some_text so_far
  pub edits : so_far ++ text (blocks_changed old new now (handles_above i)) ≡ text (blocks_changed old new first vm_handles)
  pub after : progress_after old new now (handles_above i) ≡ progress_after old new first vm_handles

pub went_none : (old new : Document) (first : Progress) (from : Option (List ℕ)) → Went old new first first 0 from from false
went_none old new first from = record {
  so_far = [];
  appends = Appends-nil from;
  some_is = refl;
  edits = ap (λ (hs : List ℕ). text (blocks_changed old new first hs)) handles_above-none;
  after = ap (progress_after old new first) handles_above-none;
}

changed_next : (old new : Document) (p : Progress) (h : ℕ) (hs : List ℕ) → blocks_changed old new p (h ∷ hs) ≡ block_changed old new p h ++ blocks_changed old new (after_block old new p h) hs
unfolding blocks_changed
changed_next old new p h hs = refl

after_next : (old new : Document) (p : Progress) (h : ℕ) (hs : List ℕ) → progress_after old new p (h ∷ hs) ≡ progress_after old new (after_block old new p h) hs
unfolding progress_after
after_next old new p h hs = refl

pub went_more : (old new : Document) (first now then : Progress) (i : ℕ) (from mid to : Option (List ℕ)) (some more : Bool) → i < 8192 → Went old new first now i from mid some
    → more ≡ is_some_text (text (block_changed old new now (i + 1))) → then ≡ after_block old new now (i + 1) → Appends mid to (text (block_changed old new now (i + 1)))
    → Went old new first then (i + 1) from to (some || more)
went_more old new first now then i from mid to some more below w more_is then_is appends =
    let t = text (block_changed old new now (i + 1)) in
    let next = after_block old new now (i + 1) in
    let rest = blocks_changed old new next (handles_above (i + 1)) in
    let whole : text (blocks_changed old new now (handles_above i)) ≡ t ++ text rest =
    ap (λ (hs : List ℕ). text (blocks_changed old new now hs)) (handles_above-next i below)
    ∙ ap text (changed_next old new now (i + 1) (handles_above (i + 1)))
    ∙ text_append (block_changed old new now (i + 1)) rest in
    let went : Went old new first next (i + 1) from to (some || more) = record {
      so_far = w.so_far ++ t;
      appends = Appends-trans from mid to w.so_far t w.appends appends;
      some_is = ap (λ (b : Bool). b || more) w.some_is ∙ ap (λ (b : Bool). is_some_text w.so_far || b) more_is ∙ sym (some_append w.so_far t);
      edits = append_assoc w.so_far t (text rest) ∙ ap (λ (l : List ℕ). w.so_far ++ l) (sym whole) ∙ w.edits;
      after = sym (after_next old new now (i + 1) (handles_above (i + 1))) ∙ ap (progress_after old new now) (sym (handles_above-next i below)) ∙ w.after;
    } in
    subst (λ (p : Progress). Went old new first p (i + 1) from to (some || more)) (sym then_is) went

nothing_changed : (old new : Document) (p : Progress) → blocks_changed old new p [] ≡ []
unfolding blocks_changed
nothing_changed old new p = refl

nothing_after : (old new : Document) (p : Progress) → progress_after old new p [] ≡ p
unfolding progress_after
nothing_after old new p = refl

pub went_all : (old new : Document) (first now : Progress) (from to : Option (List ℕ)) (some : Bool) → Went old new first now 8192 from to some
    → (some ≡ is_some_text (text (blocks_changed old new first vm_handles))) × (now ≡ progress_after old new first vm_handles) × Appends from to (text (blocks_changed old new first vm_handles))
went_all old new first now from to some w =
    let none : text (blocks_changed old new now (handles_above 8192)) ≡ [] = ap (λ (hs : List ℕ). text (blocks_changed old new now hs)) handles_above-all ∙ ap text (nothing_changed old new now) in
    let whole : w.so_far ≡ text (blocks_changed old new first vm_handles) = sym (append-nil w.so_far) ∙ ap (λ (l : List ℕ). w.so_far ++ l) (sym none) ∙ w.edits in
    (w.some_is ∙ ap is_some_text whole, sym (ap (progress_after old new now) handles_above-all ∙ nothing_after old new now) ∙ w.after, subst (λ (l : List ℕ). Appends from to l) whole w.appends)

-- the same, where what is known of the step is known of documents that are these
pub went_next : (old new old_now new_now : Document) (first now then : Progress) (i : ℕ) (from mid to : Option (List ℕ)) (some more : Bool) → old_now ≡ old → new_now ≡ new → i < 8192
    → Went old new first now i from mid some
    → (more ≡ is_some_text (text (block_changed old_now new_now now (i + 1)))) × (then ≡ after_block old_now new_now now (i + 1)) × Appends mid to (text (block_changed old_now new_now now (i + 1)))
    → Went old new first then (i + 1) from to (some || more)
went_next old new old_now new_now first now then i from mid to some more old_is new_is below w step =
    let Step : Document → Document → Type 0 = λ d e. (more ≡ is_some_text (text (block_changed d e now (i + 1)))) × (then ≡ after_block d e now (i + 1)) × Appends mid to (text (block_changed d e now (i + 1))) in
    let known : Step old new = subst (λ (d : Document). Step d new) old_is (subst (λ (e : Document). Step old_now e) new_is step) in
    went_more old new first now then i from mid to some more below w known.0 known.1 known.2
