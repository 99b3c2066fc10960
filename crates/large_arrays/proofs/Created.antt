-- The change that makes an array makes what it is planned to.
use Rattle.std.proofs.Common.{◌≡◌, ◌≤◌, ◌<◌, ◌∷◌, ◌∙◌, ℕ, min, false, nat_lt, List, [], length, map, get_or, Option, Some, None, refl, sym, ap, subst, length-take, le-ltb, lt-ltb}
use Rattle.std.proofs.lemmas.List.{length-map, get_or-map}
use Rattle.std.proofs.lemmas.List.Elements.{All-nil, All-cons}
use Rattle.std.specs.Option.{option_map_or}
use Rattle.std.specs.List.{Contains}
use Rattle.geos_model.specs.Refusal.{first_refusal}
use Rattle.geos_model.specs.ElementArray.{all_distinct}
use Rattle.geos_model.specs.Document.{Block, Document, no_attributes, handles_of, with_blocks}
use Rattle.geos_model.specs.Chain.{free_handles, new_handles}
use Rattle.geos_model.specs.ChainLaws.{AreNew}
use Rattle.geos_model.specs.declared.block.Attributes.{Attributes}
use Rattle.geos_model.specs.declared.fault.Fault.TheVariants.{Range, NoHandles}
use Rattle.geos_model.specs.declared.handle.VmHandle.{VmHandle}
use Rattle.geos_model.specs.declared.command.Body.TheVariants.{Raw}
use Rattle.geos_model.proofs.Chains.{contains_first, contains_later}
use Rattle.geos_model.proofs.ChainCopies.{new-new}
use Rattle.document_file.specs.Members.{imaged_blocks}
use Rattle.vm_blocks.specs.Changes.{AreFree, IsFreeHandle}
use Rattle.vm_blocks.specs.declared.change.Change.TheVariants as changes
use Rattle.vm_blocks.specs.declared.member.Members.{Members}
use Rattle.vm_chains.specs.Numbers.{numbers}
use Rattle.geos_model.specs.LargeLayout.{greatest_element_size, root_bytes, branch_bytes}
use Rattle.geos_model.specs.LargeWindow.{raw_block}
use Rattle.geos_model.specs.Cost.{images_length}
use Rattle.geos_model.specs.Places.{block_place}
use Rattle.geos_model.specs.LargeEdits.{new_array_blocks, large_created, create_large_conditions}
use Rattle.large_arrays.specs.Creation.{empty_root, PlansCreation}
use Rattle.geos_model.proofs.Creating.{two_of}
use Rattle.large_arrays.proofs.PlannedChanges.{none_there}

at_least : (n k : ℕ) → k ≤ n → nat_lt n k ≡ false
at_least n k more = le-ltb n k more

not_less : (size : ℕ) → size ≤ greatest_element_size → nat_lt greatest_element_size size ≡ false
not_less size small = le-ltb greatest_element_size size small

module _ (d : Document) (size : ℕ) where
  pub too_large : greatest_element_size < size → first_refusal (create_large_conditions d size) ≡ Some Range
  too_large more = rw (lt-ltb greatest_element_size size more) refl

  module _ (small : size ≤ greatest_element_size) where
    pub too_few : length (free_handles d) < 2 → first_refusal (create_large_conditions d size) ≡ Some NoHandles
    too_few few = rw (not_less size small, lt-ltb (length (free_handles d)) 2 few) refl

    accepted : 2 ≤ length (free_handles d) → first_refusal (create_large_conditions d size) ≡ None
    accepted enough = rw (not_less size small, at_least (length (free_handles d)) 2 enough) refl

-- how many handles were found
pub many_found : (d : Document) (hs : List VmHandle) → numbers hs ≡ new_handles d 2 → length hs ≡ min 2 (length (free_handles d))
many_found d hs found = sym (length-map hs (λ h. h.0)) ∙ ap (λ (xs : List ℕ). length xs) found ∙ length-take 2 (free_handles d)

pub handle_at : (d : Document) (hs : List VmHandle) (i : ℕ) (h : VmHandle) → numbers hs ≡ new_handles d 2 → i < length hs → h ≡ get_or hs i h → h.0 ≡ get_or (new_handles d 2) i 0
handle_at d hs i h found low is =
    ap (λ (x : VmHandle). x.0) is ∙ sym (get_or-map (λ (x : VmHandle). x.0) hs i h 0 low) ∙ ap (λ (xs : List ℕ). get_or xs i 0) found

module _ (d : Document) (uid size : ℕ) (ms : Members) (root branch : VmHandle) (small : size ≤ greatest_element_size) (enough : 2 ≤ length (free_handles d))
    (first : root.0 ≡ get_or (new_handles d 2) 0 0) (second : branch.0 ≡ get_or (new_handles d 2) 1 0)
    (are : imaged_blocks ms.list.items ≡ (root.0, record { attributes = record { user_id = uid; heap_type = 0 }; body = Raw (root_bytes (empty_root size branch.0)) })
    ∷ (branch.0, record { attributes = no_attributes; body = Raw (branch_bytes size []) }) ∷ []) where
  fresh : AreNew d 2 (new_handles d 2)
  fresh = new-new d 2 enough

  hs_are : new_handles d 2 ≡ root.0 ∷ branch.0 ∷ []
  hs_are = two_of (new_handles d 2) fresh.as_many ∙ (λ i. let x = sym first in let y = sym second in x i ∷ y i ∷ [])

  there : (h : ℕ) → Contains (root.0 ∷ branch.0 ∷ []) h → Contains (new_handles d 2) h
  there h is = subst (λ (hs : List ℕ). Contains hs h) (sym hs_are) is

  free : (h : ℕ) → Contains (root.0 ∷ branch.0 ∷ []) h → IsFreeHandle d h
  free h is = record { handle = fresh.handle h (there h is); free = none_there d h (fresh.not_live h (there h is)) }

  root_free : IsFreeHandle d root.0
  root_free = free root.0 (contains_first root.0 (branch.0 ∷ []))

  branch_free : IsFreeHandle d branch.0
  branch_free = free branch.0 (contains_later root.0 (branch.0 ∷ []) branch.0 (contains_first branch.0 []))

  blocks_are : imaged_blocks ms.list.items ≡ new_array_blocks d uid size
  blocks_are =
      are
      ∙ ap (λ (u : Attributes). (root.0, record { attributes = record { user_id = uid; heap_type = 0 }; body = Raw (root_bytes (empty_root size branch.0)) })
      ∷ (branch.0, record { attributes = u; body = Raw (branch_bytes size []) }) ∷ [])
      (sym (ap (λ (o : Option Block). option_map_or (λ (b : Block). b.attributes) o no_attributes) branch_free.free))
      ∙ (λ i. let x = first in let y = second in (x i, record { attributes = record { user_id = uid; heap_type = 0 }; body = Raw (root_bytes (empty_root size (y i))) }) ∷ raw_block d (y i) (branch_bytes size []) ∷ [])

  made : with_blocks d (imaged_blocks ms.list.items) ≡ large_created d uid size
  unfolding large_created
  made = ap (with_blocks d) blocks_are

  pub creation_planned : PlansCreation uid size d (changes.BlocksIn ms) root
  creation_planned = record {
    accepted = accepted d size small enough;
    applies = subst (λ (ps : List (ℕ × Block)). AreFree d (handles_of ps)) (sym are) (record {
      free = All-cons (IsFreeHandle d) root.0 (branch.0 ∷ []) root_free (All-cons (IsFreeHandle d) branch.0 [] branch_free (All-nil (IsFreeHandle d)));
      distinct = ap all_distinct (sym hs_are) ∙ fresh.once;
    });
    document = made;
    places = ap (λ (ps : List (ℕ × Block)). map block_place (handles_of ps)) are ∙ ap (map block_place) (sym hs_are);
    cost = ap images_length blocks_are;
    answer = first;
  }
