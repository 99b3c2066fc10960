-- The blocks that entries list.
use Rattle.std.proofs.Common.{◌≡◌, ℕ, zero, suc, ◌<◌, true, false, Bool, not, ◌==◌, ◌&&◌, ◌||◌, nat_lt, List, [], ◌∷◌, length, take, get_or, Option, Some, None, is_some, cond, refl, sym, ap, subst, ◌∙◌, arith, append-nil, eqb-true, eq-eqb, inl, inr}
use Rattle.std.proofs.lemmas.Bool.{cases_Bool, cond-true, cond-false}
use Rattle.std.specs.Option.{option_and_then, option_map, option_map_or, unwrap_or}
use Rattle.std.specs.Ordering.{nat_cmp}
use Rattle.std.specs.FinMap.{FinMap, get, get-empty, from_entries}
use Rattle.geos_model.specs.Document.{Block, Document, attributes_of, block_at, empty_document, is_live, is_valid_body, no_attributes, no_block}
use Rattle.file_format.specs.File.{bytes_in, blocks_of_entries, block_of, if_typed, prepended, summed_body}
use Rattle.geos_model.specs.Image.{image}
use Rattle.geos_model.specs.declared.block.Attributes.{Attributes}
use Rattle.geos_model.specs.declared.command.Body.{Body}
use Rattle.file_format.specs.declared.file.Entry.{Entry}
use Rattle.file_format.proofs.Files.{body_of-some}
use Rattle.file_format.proofs.FileDocuments.{if_typed-some, summed_body-some}
use Rattle.geos_model.proofs.HeapEdits.{get-put_same, get-put_other}
use Rattle.geos_model.specs.declared.command.Edit.{Edit}
use Rattle.geos_model.specs.declared.command.Edit.TheVariants as edits
use Rattle.document_dump.specs.Changes.{block_freed, block_name, is_made}
use Rattle.document_dump.specs.Entries.{HasBlocks, IsListedAs, entry_with}
use Rattle.document_dump.specs.Lines.{line, text}
use Rattle.document_dump.specs.Steps.{IsChange}
use Rattle.document_dump.specs.declared.changes.Change.TheVariants.{Free}
use Rattle.document_dump.proofs.Steps.{live-empty, made-gone, made-new}

abbrev pub Numbered : Type 0
Numbered = ℕ × Block

-- what a list of blocks begins with
record Begins (first : Option Numbered) (others : Option (List Numbered)) (blocks : List Numbered) : Type 0 where
  block : Numbered
  rest : List Numbered
  first_is : first ≡ Some block
  others_are : others ≡ Some rest
  all : block ∷ rest ≡ blocks

prepended-some : (first : Option Numbered) (others : Option (List Numbered)) (blocks : List Numbered) → prepended first others ≡ Some blocks → Begins first others blocks
prepended-some None others blocks e = absurd (cc e)
prepended-some (Some b) None blocks e = absurd (cc e)
prepended-some (Some b) (Some bs) blocks e = record { block = b; rest = bs; first_is = refl; others_are = refl; all = cc e }

body_there : (h : ℕ) (a : Attributes) (o : Option Body) (b : Numbered) → option_map (λ body. let made : Numbered = (h, record { attributes = a; body = body }) in made) o ≡ Some b
    → (body : Body) × ((o ≡ Some body) × (b ≡ (let made : Numbered = (h, record { attributes = a; body = body }) in made)))
body_there h a None b e = absurd (cc e)
body_there h a (Some body) b e = (body, (refl, sym (cc e)))

-- the block of an entry is this one
pub record IsBlockOf (file : List ℕ) (e : Entry) (b : Block) : Type 0 where
  pub attributes : b.attributes ≡ e.attributes
  pub valid : is_valid_body b.body ≡ true
  pub image_is : image b.body ≡ bytes_in file e.extent

block_there : (file : List ℕ) (e : Entry) (b : Numbered) → block_of file e ≡ Some b → (b.0 ≡ e.handle.0) × IsBlockOf file e b.1
block_there file e b is =
    let body = body_there e.handle.0 e.attributes (option_and_then (if_typed e.attributes.heap_type) (summed_body e.sum (bytes_in file e.extent))) b is in
    let typed = if_typed-some e.attributes.heap_type (summed_body e.sum (bytes_in file e.extent)) body.0 body.1.0 in
    let good = body_of-some (bytes_in file e.extent) body.0 (summed_body-some e.sum (bytes_in file e.extent) body.0 typed.0).1 in
    subst (λ (x : Numbered). (x.0 ≡ e.handle.0) × IsBlockOf file e x.1) (sym body.1.1) (refl, record { attributes = refl; valid = good.0; image_is = good.1 })

abbrev pub map_of : List Numbered → FinMap nat_cmp Block
map_of blocks = from_entries {R = nat_cmp} blocks

first_with : (h : ℕ) (e : Entry) (es : List Entry) → (e.handle.0 == h) ≡ true → entry_with h (e ∷ es) ≡ Some e
first_with h e es is = cond-true _ _ _ is

later_with : (h : ℕ) (e : Entry) (es : List Entry) → (e.handle.0 == h) ≡ false → entry_with h (e ∷ es) ≡ entry_with h es
later_with h e es is = cond-false _ _ _ is

not_this : (a h : ℕ) → (a == h) ≡ false → h ≡ a → ⊥
not_this a h isnt same = let both : true ≡ false = sym (eq-eqb a h (sym same)) ∙ isnt in cc both

-- a handle that no entry has
pub none_under : (file : List ℕ) (es : List Entry) (blocks : List Numbered) (h : ℕ) → blocks_of_entries file es ≡ Some blocks → entry_with h es ≡ None → get (map_of blocks) h ≡ None
none_under file [] blocks h is none = let no : [] ≡ blocks = cc is in subst (λ (bs : List Numbered). get (map_of bs) h ≡ None) no (get-empty nat_cmp h)
none_under file (e ∷ es) blocks h is none =
    let b = prepended-some (block_of file e) (blocks_of_entries file es) blocks is in
    let here = block_there file e b.block b.first_is in
    elim (cases_Bool (e.handle.0 == h)) [
      | inl same ↦ (let some : Some e ≡ None = sym (first_with h e es same) ∙ none in absurd (cc some))
      | inr other ↦
          subst (λ (bs : List Numbered). get (map_of bs) h ≡ None) b.all
          (get-put_other (map_of b.rest) b.block.0 b.block.1 h (λ same. not_this e.handle.0 h other (same ∙ here.0)) ∙ none_under file es b.rest h b.others_are (sym (later_with h e es other) ∙ none))
    ]

-- one that an entry has: the block is the first such entry's
pub some_under : (file : List ℕ) (es : List Entry) (blocks : List Numbered) (h : ℕ) (e : Entry) → blocks_of_entries file es ≡ Some blocks → entry_with h es ≡ Some e
    → (b : Block) × ((get (map_of blocks) h ≡ Some b) × IsBlockOf file e b)
some_under file [] blocks h e is some = absurd (cc some)
some_under file (x ∷ es) blocks h e is some =
    let b = prepended-some (block_of file x) (blocks_of_entries file es) blocks is in
    let here = block_there file x b.block b.first_is in
    elim (cases_Bool (x.handle.0 == h)) [
      | inl same ↦
          (let this : x ≡ e = (let both : Some x ≡ Some e = sym (first_with h x es same) ∙ some in cc both) in
          let at : h ≡ b.block.0 = sym (eqb-true x.handle.0 h same) ∙ sym here.0 in
          let got : get (map_of blocks) h ≡ Some b.block.1 =
          subst (λ (bs : List Numbered). get (map_of bs) h ≡ Some b.block.1) b.all (get-put_same (map_of b.rest) b.block.0 b.block.1 h at) in
          (b.block.1, (got, subst (λ (y : Entry). IsBlockOf file y b.block.1) this here.1)))
      | inr other ↦
          (let rest = some_under file es b.rest h e b.others_are (sym (later_with h x es other) ∙ some) in
          let got : get (map_of blocks) h ≡ Some rest.0 =
          subst (λ (bs : List Numbered). get (map_of bs) h ≡ Some rest.0) b.all
          (get-put_other (map_of b.rest) b.block.0 b.block.1 h (λ same. not_this x.handle.0 h other (same ∙ here.0)) ∙ rest.1.0) in
          (rest.0, (got, rest.1.1)))
    ]

document_there : (map_block : ℕ) (o : Option (List Numbered)) (d : Document) → option_map (λ blocks. let made : Document = record { blocks = from_entries blocks; map_block = map_block } in made) o ≡ Some d
    → (blocks : List Numbered) × ((o ≡ Some blocks) × (d ≡ (let made : Document = record { blocks = from_entries blocks; map_block = map_block } in made)))
document_there map_block None d e = absurd (cc e)
document_there map_block (Some blocks) d e = (blocks, (refl, sym (cc e)))

module _ (file : List ℕ) (map_block : ℕ) (es : List Entry) (d : Document) (is : IsListedAs file map_block es d) where
  there : (blocks : List Numbered) × ((blocks_of_entries file es ≡ Some blocks) × (d ≡ (let made : Document = record { blocks = from_entries blocks; map_block = map_block } in made)))
  there = document_there map_block (blocks_of_entries file es) d is

  pub map_is : d.map_block ≡ map_block
  map_is = ap (λ (x : Document). x.map_block) there.1.1

  got : (h : ℕ) → get d.blocks h ≡ get (map_of there.0) h
  got h = ap (λ (x : Document). get x.blocks h) there.1.1

  pub gone_under : (h : ℕ) → entry_with h es ≡ None → is_live d h ≡ false
  gone_under h none = ap is_some (got h ∙ none_under file es there.0 h there.1.0 none)

  pub live_under : (h : ℕ) → is_live d h ≡ is_some (entry_with h es)
  live_under h = by_entry (entry_with h es) refl
    where
      by_entry : (o : Option Entry) → entry_with h es ≡ o → is_live d h ≡ is_some (entry_with h es)
      by_entry None e = gone_under h e ∙ sym (ap is_some e)
      by_entry (Some x) e = ap is_some (got h ∙ (some_under file es there.0 h x there.1.0 e).1.0) ∙ sym (ap is_some e)

  pub free_change : (h : ℕ) → entry_with h es ≡ None → IsChange empty_document d h Free
  free_change h none = (made-gone empty_document d h (gone_under h none), live-empty h, gone_under h none)

  pub block_under : (h : ℕ) (e : Entry) → entry_with h es ≡ Some e
      → (is_made empty_document d h ≡ true) × (e.attributes ≡ attributes_of d h) × (is_valid_body (block_at d h).body ≡ true) × (bytes_in file e.extent ≡ image (block_at d h).body)
  block_under h e some =
      let b = some_under file es there.0 h e there.1.0 some in
      let at : get d.blocks h ≡ Some b.0 = got h ∙ b.1.0 in
      let block_is : block_at d h ≡ b.0 = ap (λ (o : Option Block). unwrap_or o no_block) at in
      let attributes_are : attributes_of d h ≡ b.0.attributes = ap (λ (o : Option Block). option_map_or (λ (x : Block). x.attributes) o no_attributes) at in (
        made-new empty_document d h (live-empty h) (ap is_some at),
        sym (attributes_are ∙ b.1.1.attributes),
        ap (λ (x : Block). is_valid_body x.body) block_is ∙ b.1.1.valid,
        sym (ap (λ (x : Block). image x.body) block_is ∙ b.1.1.image_is),
      )

document_some : (map_block : ℕ) (o : Option (List Numbered)) → is_some o ≡ true
    → (d : Document) × (option_map (λ blocks. let made : Document = record { blocks = from_entries blocks; map_block = map_block } in made) o ≡ Some d)
document_some map_block None e = absurd (cc e)
document_some map_block (Some blocks) e = (record { blocks = from_entries blocks; map_block = map_block }, refl)

-- entries that have their blocks make a document
pub listed_document : (file : List ℕ) (map_block : ℕ) (es : List Entry) → HasBlocks file es → (d : Document) × IsListedAs file map_block es d
listed_document file map_block es has = document_some map_block (blocks_of_entries file es) has

-- The first entry of a handle, found from the front.

pub found_at : (h : ℕ) (es : List Entry) (i : ℕ) (none : Entry) → i < length es → entry_with h (take i es) ≡ None → ((get_or es i none).handle.0 == h) ≡ true → entry_with h es ≡ Some (get_or es i none)
found_at h [] i none below before is = absurd (omega (arith, below))
found_at h (e ∷ es) zero none below before is = first_with h e es is
found_at h (e ∷ es) (suc i) none below before is = elim (cases_Bool (e.handle.0 == h)) [
  | inl same ↦ (let some : Some e ≡ None = sym (first_with h e (take i es) same) ∙ before in absurd (cc some))
  | inr other ↦ later_with h e es other ∙ found_at h es i none (omega (arith, below)) (sym (later_with h e (take i es) other) ∙ before) is
]

pub none_next : (h : ℕ) (es : List Entry) (i : ℕ) (none : Entry) → i < length es → entry_with h (take i es) ≡ None → ((get_or es i none).handle.0 == h) ≡ false → entry_with h (take (suc i) es) ≡ None
none_next h [] i none below before isnt = refl
none_next h (e ∷ es) zero none below before isnt = later_with h e [] isnt
none_next h (e ∷ es) (suc i) none below before isnt = elim (cases_Bool (e.handle.0 == h)) [
  | inl same ↦ (let some : Some e ≡ None = sym (first_with h e (take i es) same) ∙ before in absurd (cc some))
  | inr other ↦ later_with h e (take (suc i) es) other ∙ none_next h es i none (omega (arith, below)) (sym (later_with h e (take i es) other) ∙ before) isnt
]

-- What goes again.
module _ (file : List ℕ) (map_block : ℕ) (es : List Entry) (d : Document) (is : IsListedAs file map_block es d) (h last : ℕ) where
  freed : (b c : Bool) → is_some (entry_with h es) ≡ b → nat_lt h last ≡ c → block_freed empty_document d last h ≡ cond (not b && c) (edits.FreeBlock (block_name h) ∷ []) []
  freed b c listed below =
      let gone : List Edit = edits.FreeBlock (block_name h) ∷ [] in
      ap (λ (x : Bool). cond (not x && (is_live empty_document h || nat_lt h last)) gone []) (live_under file map_block es d is h ∙ listed)
      ∙ ap (λ (x : Bool). cond (not b && (x || nat_lt h last)) gone []) (live-empty h) ∙ ap (λ (x : Bool). cond (not b && x) gone []) below

  pub freed_listed : is_some (entry_with h es) ≡ true → block_freed empty_document d last h ≡ []
  freed_listed listed = freed true (nat_lt h last) listed refl

  pub freed_below : is_some (entry_with h es) ≡ false → nat_lt h last ≡ true → block_freed empty_document d last h ≡ edits.FreeBlock (block_name h) ∷ []
  freed_below unlisted below = freed false true unlisted below

  pub freed_above : is_some (entry_with h es) ≡ false → nat_lt h last ≡ false → block_freed empty_document d last h ≡ []
  freed_above unlisted above = freed false false unlisted above

pub one_line : (e : Edit) → line e ≡ text (e ∷ [])
one_line e = sym (append-nil (line e))
