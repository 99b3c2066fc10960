-- The edits of one block, by what was found out of it.
use Rattle.std.proofs.Common.{◌≡◌, ℕ, ◌+◌, ◌==◌, ◌&&◌, Bool, true, false, List, [], ◌++◌, cond, replicate, if◌then◌else◌, sym, ap, ◌∙◌, append_assoc, append-nil}
use Rattle.geos_model.specs.Document.{Document, is_live, attributes_of, block_at}
use Rattle.geos_model.specs.declared.block.Attributes.{Attributes}
use Rattle.geos_model.specs.declared.command.Edit.{Edit}
use Rattle.document_dump.specs.Lines.{text}
use Rattle.document_dump.specs.Changes.{after_block, attributes_set, block_changed, block_made, block_name, filler, is_made, taken_out}
use Rattle.document_dump.specs.Steps.{IsChange}
use Rattle.document_dump.specs.declared.changes.Change.TheVariants.{Free, Goes, Keeps}
use Rattle.document_dump.specs.declared.changes.Progress.{Progress}
use Rattle.document_dump.proofs.Texts.{text_append}

-- the text of an edited block stands there, and so far are the blocks made
abbrev pub IsPushed : Document → Document → Progress → ℕ → List ℕ → List ℕ → Progress → Type 0
IsPushed old new p h before behind after = (behind ≡ before ++ text (block_changed old new p h)) × (after ≡ after_block old new p h)

module _ (old new : Document) (p : Progress) (h : ℕ) (before behind : List ℕ) where
  unmade : is_made old new h ≡ false → block_changed old new p h ≡ (if is_live old h && is_live new h then attributes_set (block_name h) (attributes_of old h) (attributes_of new h) else [])
  unmade isnt = ap (λ (b : Bool). cond b (replicate p.holes filler ++ (if is_live old h then taken_out p.map_block h else []) ++ block_made (block_name h) (attributes_of new h) (block_at new h).body) (if is_live old h && is_live new h then attributes_set (block_name h) (attributes_of old h) (attributes_of new h) else [])) isnt

  unmade_after : is_made old new h ≡ false → after_block old new p h ≡ (if is_live old h then p else record p { holes = p.holes + 1 })
  unmade_after isnt = ap (λ (b : Bool). cond b (record { holes = 0; last = h; map_block = if p.map_block == h then 0 else p.map_block }) (if is_live old h then p else record p { holes = p.holes + 1 })) isnt

  none : block_changed old new p h ≡ [] → before ≡ before ++ text (block_changed old new p h)
  none e = sym (append-nil before) ∙ ap (λ (es : List Edit). before ++ text es) (sym e)

  pub free_pushed : IsChange old new h Free → IsPushed old new p h before before (record p { holes = p.holes + 1 })
  free_pushed is =
      let nothing = unmade is.0 ∙ ap (λ (b : Bool). cond (b && is_live new h) (attributes_set (block_name h) (attributes_of old h) (attributes_of new h)) []) is.1 in
      (none nothing, sym (unmade_after is.0 ∙ ap (λ (b : Bool). cond b p (record p { holes = p.holes + 1 })) is.1))

  stays : is_made old new h ≡ false → is_live old h ≡ true → p ≡ after_block old new p h
  stays isnt live = sym (unmade_after isnt ∙ ap (λ (b : Bool). cond b p (record p { holes = p.holes + 1 })) live)

  pub goes_pushed : IsChange old new h Goes → IsPushed old new p h before before p
  goes_pushed is =
      let set = attributes_set (block_name h) (attributes_of old h) (attributes_of new h) in
      let nothing = unmade is.0 ∙ ap (λ (b : Bool). cond (b && is_live new h) set []) is.1 ∙ ap (λ (b : Bool). cond b set []) is.2 in
      (none nothing, stays is.0 is.1)

  pub keeps_pushed : (a b : Attributes) → IsChange old new h (Keeps a b) → behind ≡ before ++ text (attributes_set (block_name h) a b) → IsPushed old new p h before behind p
  keeps_pushed a b is pushed =
      let set = attributes_set (block_name h) (attributes_of old h) (attributes_of new h) in
      let all = unmade is.0 ∙ ap (λ (x : Bool). cond (x && is_live new h) set []) is.1 ∙ ap (λ (x : Bool). cond x set []) is.2 in (
        pushed ∙ ap (λ (x : Attributes). before ++ text (attributes_set (block_name h) x b)) is.3 ∙ ap (λ (x : Attributes). before ++ text (attributes_set (block_name h) (attributes_of old h) x)) is.4
            ∙ ap (λ (es : List Edit). before ++ text es) (sym all),
        stays is.0 is.1,
      )

  pub made_pushed : (replaces : Bool) (a : Attributes) (mid : List ℕ) → is_made old new h ≡ true → replaces ≡ is_live old h → a ≡ attributes_of new h
      → mid ≡ before ++ text (replicate p.holes filler ++ (if replaces then taken_out p.map_block h else [])) → behind ≡ mid ++ text (block_made (block_name h) a (block_at new h).body)
      → IsPushed old new p h before behind (record { holes = 0; last = h; map_block = if p.map_block == h then 0 else p.map_block })
  made_pushed replaces a mid made_is replaces_is a_is placed pushed =
      let place : Bool → List Edit = λ b. replicate p.holes filler ++ (if b then taken_out p.map_block h else []) in
      let make : Attributes → List Edit = λ x. block_made (block_name h) x (block_at new h).body in
      let changed : block_changed old new p h ≡ place (is_live old h) ++ make (attributes_of new h) =
      ap (λ (b : Bool). cond b (place (is_live old h) ++ make (attributes_of new h)) (if is_live old h && is_live new h then attributes_set (block_name h) (attributes_of old h) (attributes_of new h) else [])) made_is in
      let after : after_block old new p h ≡ record { holes = 0; last = h; map_block = if p.map_block == h then 0 else p.map_block } =
      ap (λ (b : Bool). cond b (record { holes = 0; last = h; map_block = if p.map_block == h then 0 else p.map_block }) (if is_live old h then p else record p { holes = p.holes + 1 })) made_is in (
        pushed ∙ ap (λ (l : List ℕ). l ++ text (make a)) placed ∙ append_assoc before (text (place replaces)) (text (make a)) ∙ ap (λ (l : List ℕ). before ++ l) (sym (text_append (place replaces) (make a)))
            ∙ ap (λ (b : Bool). before ++ text (place b ++ make a)) replaces_is ∙ ap (λ (x : Attributes). before ++ text (place (is_live old h) ++ make x)) a_is
            ∙ ap (λ (es : List Edit). before ++ text es) (sym changed),
        sym after,
      )
