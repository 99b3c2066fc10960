-- What is listed of a document under frames: its handles with their user IDs, which are those of the file.
use Rattle.std.proofs.Common.{◌≡◌, ℕ, ◌==◌, Bool, true, false, cond, not, nat_lt, T, ◌&&◌, List, [], ◌∷◌, map, Option, None, Some, is_some, refl, sym, ap, subst, ◌∙◌}
use Rattle.std.specs.Prelude.{find}
use Rattle.std.specs.Option.{option_map, IfSome}
use Rattle.std.specs.Ordering.{nat_cmp, eq_by_cmp, is_lt}
use Rattle.std.specs.Cmp.{nat_cmp_total}
use Rattle.std.specs.FinMap.{get, keys, entries, entries_sorted, get-entries, nat_cmp-IsAntisymmetric}
use Rattle.std.specs.FinMap.Entries.{find as find_key, is_sorted, below_all, same_entries}
use Rattle.geos_model.specs.Document.{Block, Document, next_handle, vm_handles}
use Rattle.geos_model.specs.Reply.{found}
use Rattle.vm_blocks.specs.Frames.{frame_of, overlay, AreFramesOf}
use Rattle.vm_blocks.specs.declared.frame.Frame.{Frame}
use Rattle.vm_blocks.proofs.DocumentUnderFrames.{cover, block_by, get-overlay, overlay_live, attributes_by}

-- a handle with its user ID
abbrev name : ℕ × Block → ℕ × ℕ
name e = (e.0, e.1.attributes.user_id)

below_names : (x : ℕ) (es : List (ℕ × Block)) → below_all nat_cmp x (map name es) ≡ below_all nat_cmp x es
below_names x [] = refl
below_names x (e ∷ es) = ap (λ b. is_lt (nat_cmp x e.0) && b) (below_names x es)

sorted_names : (es : List (ℕ × Block)) → is_sorted nat_cmp (map name es) ≡ is_sorted nat_cmp es
sorted_names [] = refl
sorted_names (e ∷ es) = λ i. below_names e.0 es i && sorted_names es i

name_at : (q : ℕ) (es : List (ℕ × Block)) → find_key nat_cmp q (map name es) ≡ option_map (λ b. b.attributes.user_id) (find_key nat_cmp q es)
name_at q [] = refl
name_at q (e ∷ es) = elim (eq_by_cmp nat_cmp q e.0) as (λ t. cond t (Some e.1.attributes.user_id) (find_key nat_cmp q (map name es)) ≡ option_map (λ (b : Block). b.attributes.user_id) (cond t (Some e.1) (find_key nat_cmp q es))) [
  | true ↦ refl
  | false ↦ name_at q es
]

names_alike : (d e : Document) → ((h : ℕ) → option_map (λ (b : Block). b.attributes.user_id) (get d.blocks h) ≡ option_map (λ (b : Block). b.attributes.user_id) (get e.blocks h)) → map name (entries d.blocks) ≡ map name (entries e.blocks)
names_alike d e alike =
    same_entries nat_cmp nat_cmp_total nat_cmp-IsAntisymmetric (map name (entries d.blocks)) (map name (entries e.blocks))
    (subst T (sym (sorted_names (entries d.blocks))) (entries_sorted d.blocks)) (subst T (sym (sorted_names (entries e.blocks))) (entries_sorted e.blocks))
    (λ q. name_at q (entries d.blocks) ∙ ap (option_map (λ (b : Block). b.attributes.user_id)) (sym (get-entries d.blocks q)) ∙ alike q ∙ ap (option_map (λ (b : Block). b.attributes.user_id)) (get-entries e.blocks q) ∙ sym (name_at q (entries e.blocks)))

-- what is read of the names alone

keys_read : (es : List (ℕ × Block)) → map (λ e. e.0) es ≡ map (λ e. e.0) (map name es)
keys_read [] = refl
keys_read (e ∷ es) = ap (λ ks. e.0 ∷ ks) (keys_read es)

found_read : (user start : ℕ) (es : List (ℕ × Block)) → option_map (λ (e : ℕ × Block). e.0) (find (λ (e : ℕ × Block). nat_lt start e.0 && (e.1.attributes.user_id == user)) es)
    ≡ option_map (λ (n : ℕ × ℕ). n.0) (find (λ (n : ℕ × ℕ). nat_lt start n.0 && (n.1 == user)) (map name es))
found_read user start [] = refl
found_read user start (e ∷ es) = elim (nat_lt start e.0 && (e.1.attributes.user_id == user)) as (λ t. option_map (λ (e : ℕ × Block). e.0) (cond t (Some e) (find (λ (e : ℕ × Block). nat_lt start e.0 && (e.1.attributes.user_id == user)) es))
    ≡ option_map (λ (n : ℕ × ℕ). n.0) (cond t (Some (name e)) (find (λ (n : ℕ × ℕ). nat_lt start n.0 && (n.1 == user)) (map name es)))) [
      | true ↦ refl
      | false ↦ found_read user start es
    ]

pub some_weaker : {X : Type 0} (o : Option X) (P Q : X → Type 0) → ((x : X) → P x → Q x) → IfSome o P → IfSome o Q
some_weaker None P Q more there = tt
some_weaker (Some x) P Q more there = more x there

module _ (honest : Bool) (es : List (ℕ × Frame)) (d : Document) (kept : AreFramesOf honest d es) where
  named : (h : ℕ) (o : Option Frame) → frame_of es h ≡ o → option_map (λ (b : Block). b.attributes.user_id) (cover o d h) ≡ option_map (λ (b : Block). b.attributes.user_id) (get d.blocks h)
  named h None here = refl
  named h (Some f) here =
      let b = block_by (get d.blocks h) (kept.each h f here).live in
      ap (λ (o : Option Block). Some (attributes_by o).user_id) b.1 ∙ sym (ap (option_map (λ (b : Block). b.attributes.user_id)) b.1)

  same_names : map name (entries (overlay es d).blocks) ≡ map name (entries d.blocks)
  same_names = names_alike (overlay es d) d (λ h. ap (option_map (λ (b : Block). b.attributes.user_id)) (get-overlay es d h) ∙ named h (frame_of es h) refl)

  pub overlay_keys : keys (overlay es d).blocks ≡ keys d.blocks
  overlay_keys = keys_read (entries (overlay es d).blocks) ∙ ap (map (λ (n : ℕ × ℕ). n.0)) same_names ∙ sym (keys_read (entries d.blocks))

  pub overlay_found : (user start : ℕ) → found (overlay es d) user start ≡ found d user start
  overlay_found user start =
      found_read user start (entries (overlay es d).blocks) ∙ ap (λ ns. option_map (λ (n : ℕ × ℕ). n.0) (find (λ (n : ℕ × ℕ). nat_lt start n.0 && (n.1 == user)) ns)) same_names ∙ sym (found_read user start (entries d.blocks))

  pub overlay_next : next_handle (overlay es d) ≡ next_handle d
  unfolding next_handle
  overlay_next = λ i. find (λ h. not (overlay_live honest es d h kept i)) vm_handles

  free_by : (h : ℕ) (o : Option Frame) → frame_of es h ≡ o → get d.blocks h ≡ None → cover o d h ≡ None
  free_by h None here none = none
  free_by h (Some f) here none = let wrong : false ≡ true = sym (ap is_some none) ∙ (kept.each h f here).live in absurd (cc wrong)

  pub overlay_free : (h : ℕ) → get d.blocks h ≡ None → get (overlay es d).blocks h ≡ None
  overlay_free h none = get-overlay es d h ∙ free_by h (frame_of es h) refl none
