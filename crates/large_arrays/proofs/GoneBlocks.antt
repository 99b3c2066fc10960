-- Blocks that go, put together of what was gathered.
use Rattle.std.proofs.Common.{◌≡◌, ◌≢◌, ℕ, ◌<◌, ◌≤◌, true, false, not, List, [], ◌∷◌, ◌++◌, length, get_or, Vec, Global, Option, Some, None, refl, sym, ap, subst, ◌∙◌, inl, inr, arith}
use Rattle.std.proofs.lemmas.List.{get_or-map, get_or_default}
use Rattle.std.proofs.lemmas.List.Elements.{All-append, All-nil, All-cons, All-head, All-tail}
use Rattle.std.specs.List.{All, AllZip, Contains}
use Rattle.std.specs.Option.{option_map_or}
use Rattle.std.specs.FinMap.{get}
use Rattle.geos_model.specs.Document.{Block, Document, is_heap_body, is_vm_handle, bytes_of_body, attributes_of, no_attributes, handles_of, is_heap, is_live, IsTyped, most_blocks}
use Rattle.geos_model.specs.declared.block.Attributes.{Attributes}
use Rattle.geos_model.specs.declared.command.Body.{Body}
use Rattle.geos_model.specs.declared.command.Body.TheVariants.{Raw, Heap}
use Rattle.document_file.proofs.TableLemmas.{handle_within}
use Rattle.vm_blocks.specs.Changes.{CanRemove, CanRemoveAll}
use Rattle.vm_blocks.specs.Preparing.{CanRemoveByHandle}
use Rattle.large_arrays.specs.Gathering.{HasOldBody}
use Rattle.large_arrays.specs.HandleLists.{old_handles}
use Rattle.large_arrays.specs.declared.handles.OldBranch.{OldBranch}
use Rattle.geos_model.proofs.DistinctHandles.{distinct-cons, distinct-few}
use Rattle.geos_model.proofs.Pairs.{pairs-at}
use Rattle.geos_model.proofs.Chains.{contains_cases}

-- the block under a handle, by what was copied of it
pub gone-stands : (d : Document) (h : ℕ) (a : Attributes) (bytes : List ℕ) → HasOldBody d h bytes → a ≡ attributes_of d h → IsTyped (is_heap d h) a
    → get d.blocks h ≡ Some (record { attributes = record { user_id = a.user_id; heap_type = 0 }; body = Raw bytes })
gone-stands d h a bytes has is typed = by_block (get d.blocks h) has.0 has.1 is typed
  where
    by_body : (b : Block) (body : Body) → b.body ≡ body → not (is_heap_body body) ≡ true → bytes_of_body body ≡ bytes → a ≡ b.attributes → (is_heap_body body ≡ false → a.heap_type ≡ 0)
        → Some b ≡ Some (record { attributes = record { user_id = a.user_id; heap_type = 0 }; body = Raw bytes })
    by_body b (Raw x) same raw reads is typed =
        ap (λ (c : Body). Some (record { attributes = b.attributes; body = c })) (same ∙ ap Raw reads)
        ∙ ap (λ (u : Attributes). Some (record { attributes = u; body = Raw bytes })) (sym is ∙ ap (λ (t : ℕ). record { user_id = a.user_id; heap_type = t }) (typed refl))
    by_body b (Heap m) same raw reads is typed = absurd (cc raw)

    by_block : (o : Option Block) → option_map_or (λ (b : Block). not (is_heap_body b.body)) o false ≡ true → option_map_or (λ (b : Block). bytes_of_body b.body) o [] ≡ bytes
        → a ≡ option_map_or (λ (b : Block). b.attributes) o no_attributes → IsTyped (option_map_or (λ (b : Block). is_heap_body b.body) o false) a
        → o ≡ Some (record { attributes = record { user_id = a.user_id; heap_type = 0 }; body = Raw bytes })
    by_block None raw reads is typed = absurd (cc raw)
    by_block (Some b) raw reads is typed = by_body b b.body refl raw reads is typed

abbrev no_branch : OldBranch
no_branch = record { handle = record { 0 = 0 }; staying = 0 }

-- the body of the block at a place
pub gathered-body : (d : Document) (olds : List OldBranch) (bodies : List (Vec ℕ Global)) (i h : ℕ) (body : Vec ℕ Global) → AllZip (λ old b. HasOldBody d old.handle.0 b.items) olds bodies
    → i < length bodies → length bodies ≡ length olds → get_or (old_handles olds) i 0 ≡ h → body ≡ get_or bodies i body → HasOldBody d h body.items
gathered-body d olds bodies i h body all low many at is =
    let here = pairs-at (λ old b. HasOldBody d old.handle.0 b.items) olds bodies i no_branch body all low in
    let handle : (get_or olds i no_branch).handle.0 ≡ h = sym (get_or-map (λ (o : OldBranch). o.handle.0) olds i no_branch 0 (omega (arith, low, many))) ∙ at in
    subst (λ (x : ℕ). HasOldBody d x body.items) handle (subst (λ (b : Vec ℕ Global). HasOldBody d (get_or olds i no_branch).handle.0 b.items) (sym is) here)

-- Blocks that stand under their handles, and can go by these, can go.
go_all : (d : Document) (ps : List (ℕ × Block)) → All (λ p. get d.blocks p.0 ≡ Some p.1) ps → All (λ h. d.map_block ≢ h) (handles_of ps) → All (λ p. CanRemove d p.0 p.1) ps
go_all d [] stand others = All-nil (λ p. CanRemove d p.0 p.1)
go_all d (p ∷ ps) stand others =
    All-cons (λ q. CanRemove d q.0 q.1) p ps
    (record { stands = All-head (λ q. get d.blocks q.0 ≡ Some q.1) p ps stand; other = All-head (λ h. d.map_block ≢ h) p.0 (handles_of ps) others })
    (go_all d ps (All-tail (λ q. get d.blocks q.0 ≡ Some q.1) p ps stand) (All-tail (λ h. d.map_block ≢ h) p.0 (handles_of ps) others))

pub gone-all : (d : Document) (ps : List (ℕ × Block)) → All (λ p. get d.blocks p.0 ≡ Some p.1) ps → CanRemoveByHandle d (handles_of ps) → CanRemoveAll d ps
gone-all d ps stand can = record { go = go_all d ps stand can.others; distinct = can.distinct }

-- one block more that stands
pub stand_more : (d : Document) (ps : List (ℕ × Block)) (p : ℕ × Block) → All (λ q. get d.blocks q.0 ≡ Some q.1) ps → get d.blocks p.0 ≡ Some p.1
    → All (λ q. get d.blocks q.0 ≡ Some q.1) (ps ++ p ∷ [])
stand_more d ps p stand here =
    All-append (λ q. get d.blocks q.0 ≡ Some q.1) ps (p ∷ []) stand (All-cons (λ q. get d.blocks q.0 ≡ Some q.1) p [] here (All-nil (λ q. get d.blocks q.0 ≡ Some q.1)))

-- Live blocks, each once, are no more than a document can have.
pub live-few : (d : Document) (hs : List ℕ) → ((h : ℕ) → is_live d h ≡ true → is_vm_handle h ≡ true) → CanRemoveByHandle d hs → length hs ≤ most_blocks
live-few d hs handles can =
    let within : (h : ℕ) → Contains hs h → (1 ≤ h) × (h ≤ most_blocks) =
    λ h there. handle_within h (handles h (subst (λ (x : ℕ). is_live d x ≡ true) (get_or_default hs there.0 0 h there.1 ∙ there.2) (can.live there.0 0 there.1))) in
    let none : Contains hs 0 → ⊥ = λ there. (let low = (within 0 there).0 in omega arith) in
    let few = distinct-few most_blocks (0 ∷ hs) (distinct-cons 0 hs none can.distinct) (λ h there. elim (contains_cases 0 hs h there) [
      | inl is ↦ omega arith
      | inr later ↦ (within h later).1
    ]) in
    omega arith
