-- Edits of whole blocks, as changes of one block.
use Rattle.std.proofs.Common.{◌≡◌, ◌==◌, ℕ, [], ◌∷◌, List, Option, Some, None, true, false, length, map, unwrap_or, refl, sym, ap, subst, ◌∙◌, arith}
use Rattle.std.proofs.lemmas.Bool.{eq-eqb, true≢false}
use Rattle.std.proofs.lemmas.List.Elements.{All-nil, All-cons}
use Rattle.std.specs.FinMap.{get}
use Rattle.std.specs.Option.{option_map, option_map_or}
use Rattle.geos_model.specs.Refusal.{first_refusal}
use Rattle.geos_model.specs.Document.{Block, Document, block_at, is_heap, is_live, next_handle, attributes_of, with_attributes, with_block, without_block, with_blocks, handles_of, without_blocks, no_block, FitAttributes, IsTyped}
use Rattle.geos_model.specs.Meaning.{conditions, effect}
use Rattle.geos_model.specs.Cost.{cost, image_length, images_length}
use Rattle.geos_model.specs.Machine.{kind_of}
use Rattle.geos_model.specs.Places.{block_place, places_of}
use Rattle.geos_model.specs.Image.{image}
use Rattle.geos_model.specs.declared.command.Done.{Done}
use Rattle.geos_model.specs.declared.command.Body.{Body}
use Rattle.geos_model.specs.declared.command.Done.TheVariants as done
use Rattle.geos_model.specs.declared.command.Edit.{Edit}
use Rattle.geos_model.specs.declared.command.Edit.TheVariants as edits
use Rattle.geos_model.specs.declared.fault.Fault.TheVariants.{IsMap, NoHandles}
use Rattle.geos_model.specs.declared.handle.VmHandle.{VmHandle}
use Rattle.geos_model.specs.declared.place.Place.TheVariants as place
use Rattle.geos_model.specs.declared.command.Kind.TheVariants.{Plain, Made, Freed}
use Rattle.geos_model.specs.declared.block.Attributes.{Attributes}
use Rattle.vm_blocks.specs.ChangePlaces.{member_places}
use Rattle.vm_blocks.specs.Changes.{HasAttributes, IsFreeHandle, AreFree, CanRemove, CanRemoveAll}
use Rattle.document_file.specs.Members.{imaged_blocks}
use Rattle.vm_blocks.specs.declared.change.Change.TheVariants as changes
use Rattle.vm_blocks.specs.declared.change.Change.TheVariants.{BlocksIn, BlocksOut}
use Rattle.vm_blocks.proofs.KindLemmas.{attributes_for_kind-same}
use Rattle.vm_blocks.specs.declared.member.Members.{Members}
use Rattle.doc_edits.specs.Planning.{Plans}
use Rattle.doc_edits.proofs.Documents.{body_at}

module _ (edit : Edit) (d : Document) (ms : Members) (h : ℕ) (b : Block) (done : Done) (one : imaged_blocks ms.list.items ≡ (h, b) ∷ []) where
  length_one : images_length (imaged_blocks ms.list.items) ≡ length (image b.body)
  length_one = ap images_length one ∙ omega arith

  place_one : member_places ms.list.items ≡ block_place h ∷ []
  place_one = ap (λ (ps : List (ℕ × Block)). map block_place (handles_of ps)) one

  pub block_made : first_refusal (conditions edit d) ≡ None → IsFreeHandle d h → with_block d h b ≡ (effect edit d).0 → done ≡ (effect edit d).1 → Made ≡ kind_of edit → length (image b.body) ≡ cost edit d (effect edit d).0 → places_of edit d ≡ block_place h ∷ [] → Plans edit d (BlocksIn ms) done
  block_made accepted free document answer kind charged told = record {
    accepted = accepted;
    applies = subst (λ (ps : List (ℕ × Block)). AreFree d (handles_of ps)) (sym one) (record { free = All-cons (IsFreeHandle d) h [] free (All-nil (IsFreeHandle d)); distinct = refl });
    document = ap (with_blocks d) one ∙ document;
    answer = answer;
    kind = kind;
    cost = length_one ∙ charged;
    places = place_one ∙ sym told;
  }

  pub block_freed : first_refusal (conditions edit d) ≡ None → CanRemove d h b → without_block d h ≡ (effect edit d).0 → done ≡ (effect edit d).1 → Freed ≡ kind_of edit → length (image b.body) ≡ cost edit d (effect edit d).0 → places_of edit d ≡ block_place h ∷ [] → Plans edit d (BlocksOut ms) done
  block_freed accepted goes document answer kind charged told = record {
    accepted = accepted;
    applies = subst (CanRemoveAll d) (sym one) (record { go = All-cons (λ p. CanRemove d p.0 p.1) (h, b) [] goes (All-nil (λ p. CanRemove d p.0 p.1)); distinct = refl });
    document = ap (λ (ps : List (ℕ × Block)). without_blocks d (handles_of ps)) one ∙ document;
    answer = answer;
    kind = kind;
    cost = length_one ∙ charged;
    places = place_one ∙ sym told;
  }

-- A live block is refused to be freed or copied.

pub map_refused : (d : Document) (handle : VmHandle) → is_live d handle.0 ≡ true → (d.map_block == handle.0) ≡ true → first_refusal (conditions (edits.FreeBlock handle) d) ≡ Some IsMap
map_refused d handle live map = rw (live, map) refl

pub none_refused : (d : Document) (handle : VmHandle) → is_live d handle.0 ≡ true → next_handle d ≡ None → first_refusal (conditions (edits.CopyBlock handle) d) ≡ Some NoHandles
none_refused d handle live none = rw (live, none) refl

-- It is freed or copied, by what is read of it.
module _ (d : Document) (handle : VmHandle) (attributes : Attributes) (body : Body) (same : attributes ≡ attributes_of d handle.0) (read : option_map (λ b. b.body) (get d.blocks handle.0) ≡ Some body) where
  abbrev block : Block
  block = record { attributes = attributes; body = body }

  there : get d.blocks handle.0 ≡ Some block
  there = body_at d handle.0 body read ∙ ap (λ (a : Attributes). Some (record { attributes = a; body = body })) (sym same)

  how_long : length (image body) ≡ image_length d handle.0
  how_long = sym (ap (λ (o : Option Block). option_map_or (λ (b : Block). length (image b.body)) o 0) there)

  module _ (ms : Members) where
    pub free_planned : (d.map_block == handle.0) ≡ false → imaged_blocks ms.list.items ≡ (handle.0, block) ∷ [] → Plans (edits.FreeBlock handle) d (BlocksOut ms) done.Nothing
    free_planned other one =
        block_freed (edits.FreeBlock handle) d ms handle.0 block done.Nothing one (rw (there, other) refl)
        (record { stands = there; other = λ is. true≢false (sym (eq-eqb d.map_block handle.0 is) ∙ other) }) refl refl refl how_long refl

    pub copy_planned : (new : VmHandle) → next_handle d ≡ Some new.0 → IsFreeHandle d new.0 → imaged_blocks ms.list.items ≡ (new.0, block) ∷ [] → Plans (edits.CopyBlock handle) d (BlocksIn ms) (done.Block new)
    copy_planned new next free one =
        let first : new.0 ≡ unwrap_or (next_handle d) 0 = sym (ap (λ (o : Option ℕ). unwrap_or o 0) next) in
        let at : block ≡ block_at d handle.0 = sym (ap (λ (o : Option Block). unwrap_or o no_block) there) in
        block_made (edits.CopyBlock handle) d ms new.0 block (done.Block new) one (rw (there, next) refl) free
        (λ i. with_block d (first i) (at i)) (ap (λ (n : ℕ). done.Block (record { 0 = n })) first) refl how_long (ap (λ (n : ℕ). block_place n ∷ []) (sym first))

-- An edit of attributes gives a block these, which it can have.
attributes_planned : (edit : Edit) (d : Document) (h : VmHandle) (old new : Attributes) → first_refusal (conditions edit d) ≡ None → HasAttributes d h.0 old new → with_attributes d h.0 new ≡ (effect edit d).0
    → done.Nothing ≡ (effect edit d).1 → Plain ≡ kind_of edit → 0 ≡ cost edit d (effect edit d).0 → place.Attributes h ∷ [] ≡ places_of edit d → Plans edit d (changes.Attributes h old new) done.Nothing
attributes_planned edit d h old new accepted has document answer kind charged told = record {
  accepted = accepted;
  applies = has;
  document = ap (with_attributes d h.0) (attributes_for_kind-same (is_heap d h.0) new has.typed) ∙ document;
  answer = answer;
  kind = kind;
  cost = charged;
  places = told;
}

module _ (d : Document) (h : VmHandle) (old : Attributes) (live : is_live d h.0 ≡ true) (same : old ≡ attributes_of d h.0) where
  pub user_id_planned : (user_id : ℕ) → IsTyped (is_heap d h.0) old → FitAttributes (record old { user_id = user_id }) → Plans (edits.SetUserId h user_id) d (changes.Attributes h old (record old { user_id = user_id })) done.Nothing
  user_id_planned user_id typed fit =
      attributes_planned (edits.SetUserId h user_id) d h old (record old { user_id = user_id }) (rw live refl) (record { live = live; stands = sym same; fit = fit; typed = typed })
      (ap (λ (a : Attributes). with_attributes d h.0 (record a { user_id = user_id })) same) refl refl refl refl

  pub type_planned : (heap_type : ℕ) → is_heap d h.0 ≡ true → FitAttributes (record old { heap_type = heap_type }) → Plans (edits.SetType h heap_type) d (changes.Attributes h old (record old { heap_type = heap_type })) done.Nothing
  type_planned heap_type heap fit =
      attributes_planned (edits.SetType h heap_type) d h old (record old { heap_type = heap_type }) (rw (live, heap) refl) (record { live = live; stands = sym same; fit = fit; typed = λ raw. absurd (true≢false (sym heap ∙ raw)) })
      (ap (λ (a : Attributes). with_attributes d h.0 (record a { heap_type = heap_type })) same) refl refl refl refl
