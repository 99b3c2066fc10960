-- The document under frames.
use Rattle.std.proofs.Common.{◌≡◌, ◌≢◌, ◌⊎◌, ◌≤◌, ℕ, nat_eq, Bool, true, false, cond, IsTrue, List, [], ◌∷◌, map, Option, None, Some, is_some, refl, sym, ap, subst, ◌∙◌, inl, inr, unwrap_or, eq-eqb}
use Rattle.std.proofs.lemmas.Bool.{cases_eq, ne_eqb}
use Rattle.std.specs.Option.{option_map_or, option_map}
use Rattle.std.specs.Map.{set_value}
use Rattle.std.specs.Cmp.{nat_cmp_total, nat_eq_equiv}
use Rattle.std.proofs.lemmas.Map.{lookup-set_value}
use Rattle.std.specs.FinMap.{get, same_map, nat_cmp-IsAntisymmetric}
use Rattle.geos_model.specs.Document.{Block, Document, IsValidBlock, IsValid, block_at, is_heap, is_heap_body, is_live, is_valid_body, attributes_of, with_body, no_attributes, no_block, FitAttributes}
use Rattle.geos_model.specs.declared.command.Body.{Body}
use Rattle.geos_model.proofs.HeapEdits.{get-put_same, get-put_other}
use Rattle.geos_model.specs.declared.block.Attributes.{Attributes}
use Rattle.document_file.specs.Disk.{SameUnlessCorrupt, IsFileDocument}
use Rattle.vm_blocks.specs.Bodies.{body_value}
use Rattle.vm_blocks.specs.Frames.{frame_of, overlay, with_frame, is_changed_in, IsFrameOf, AreFramesOf}
use Rattle.vm_blocks.specs.declared.frame.Frame.{Frame}

-- a block as a frame covers it
abbrev pub cover : Option Frame → Document → ℕ → Option Block
cover None d h = get d.blocks h
cover (Some f) d h = Some (record { attributes = attributes_of d h; body = body_value f.body })

abbrev pub attributes_by : Option Block → Attributes
attributes_by o = option_map_or (λ (b : Block). b.attributes) o no_attributes

abbrev pub heap_by : Option Block → Bool
heap_by o = option_map_or (λ (b : Block). is_heap_body b.body) o false

pub attributes-cover : (o : Option Frame) (d : Document) (h : ℕ) → attributes_by (cover o d h) ≡ attributes_of d h
attributes-cover None d h = refl
attributes-cover (Some f) d h = refl

pub held_here : (e : ℕ × Frame) (es : List (ℕ × Frame)) (h : ℕ) → h ≡ e.0 → frame_of (e ∷ es) h ≡ Some e.1
held_here e es h here = ap (λ b. cond b (Some e.1) (frame_of es h)) (eq-eqb h e.0 here)

pub held_on : (e : ℕ × Frame) (es : List (ℕ × Frame)) (h : ℕ) → h ≢ e.0 → frame_of (e ∷ es) h ≡ frame_of es h
held_on e es h other = ap (λ b. cond b (Some e.1) (frame_of es h)) (ne_eqb h e.0 other)

pub get-overlay : (es : List (ℕ × Frame)) (d : Document) (h : ℕ) → get (overlay es d).blocks h ≡ cover (frame_of es h) d h
get-overlay [] d h = refl
get-overlay (e ∷ es) d h =
    let body : Body = body_value e.1.body in
    let attributes : attributes_of (overlay es d) e.0 ≡ attributes_of d e.0 = ap attributes_by (get-overlay es d e.0) ∙ attributes-cover (frame_of es e.0) d e.0 in
    elim (cases_eq h e.0) as (λ _. get (overlay (e ∷ es) d).blocks h ≡ cover (frame_of (e ∷ es) h) d h) [
      | inl here ↦ get-put_same (overlay es d).blocks e.0 (record { attributes = attributes_of (overlay es d) e.0; body = body }) h here
          ∙ ap (λ u. Some (record { attributes = u; body = body })) (attributes ∙ ap (attributes_of d) (sym here))
          ∙ sym (ap (λ o. cover o d h) (held_here e es h here))
      | inr other ↦ get-put_other (overlay es d).blocks e.0 (record { attributes = attributes_of (overlay es d) e.0; body = body }) h other
          ∙ get-overlay es d h ∙ sym (ap (λ o. cover o d h) (held_on e es h other))
    ]

pub overlay_attributes : (es : List (ℕ × Frame)) (d : Document) (h : ℕ) → attributes_of (overlay es d) h ≡ attributes_of d h
overlay_attributes es d h = ap attributes_by (get-overlay es d h) ∙ attributes-cover (frame_of es h) d h

pub overlay_map : (es : List (ℕ × Frame)) (d : Document) → (overlay es d).map_block ≡ d.map_block
overlay_map [] d = refl
overlay_map (e ∷ es) d = overlay_map es d

live_cover : (honest : Bool) (d : Document) (h : ℕ) (o : Option Frame) → ((f : Frame) → o ≡ Some f → IsFrameOf honest d h f) → is_some (cover o d h) ≡ is_live d h
live_cover honest d h None kept = refl
live_cover honest d h (Some f) kept = sym (kept f refl).live

pub overlay_live : (honest : Bool) (es : List (ℕ × Frame)) (d : Document) (h : ℕ) → AreFramesOf honest d es → is_live (overlay es d) h ≡ is_live d h
overlay_live honest es d h kept = ap is_some (get-overlay es d h) ∙ live_cover honest d h (frame_of es h) (kept.each h)

-- over the file a frame has a body of its block's kind

covered_kind : (honest : Bool) (d : Document) (h : ℕ) (o : Option Frame) → ((f : Frame) → o ≡ Some f → IsFrameOf honest d h f) → heap_by (cover o d h) ≡ is_heap d h
covered_kind honest d h None kept = refl
covered_kind honest d h (Some f) kept = (kept f refl).kind

pub overlay_kind : (honest : Bool) (es : List (ℕ × Frame)) (d : Document) (h : ℕ) → AreFramesOf honest d es → is_heap (overlay es d) h ≡ is_heap d h
overlay_kind honest es d h kept = ap heap_by (get-overlay es d h) ∙ covered_kind honest d h (frame_of es h) (kept.each h)

-- its handles can be, its map block is none or live, and only its heaps have types
pub listed_under : (honest : Bool) (es : List (ℕ × Frame)) (d : Document) → AreFramesOf honest d es → IsFileDocument honest d → IsFileDocument false (overlay es d)
listed_under honest es d kept listed =
    let over = overlay es d in
    let map = overlay_map es d in
    record {
      handles = λ h live. listed.handles h (sym (overlay_live honest es d h kept) ∙ live);
      map_block = elim listed.map_block as (λ _. (over.map_block ≡ 0) ⊎ (is_live over over.map_block ≡ true)) [
        | inl none ↦ inl (map ∙ none)
        | inr live ↦ inr (ap (is_live over) map ∙ overlay_live honest es d d.map_block kept ∙ live)
      ];
      typed = λ h raw. ap (λ (a : Attributes). a.heap_type) (overlay_attributes es d h) ∙ listed.typed h (sym (overlay_kind honest es d h kept) ∙ raw);
      bodies = λ wrong. absurd (cc wrong);
    }

pub same_document : (d e : Document) → e.map_block ≡ d.map_block → ((h : ℕ) → get e.blocks h ≡ get d.blocks h) → e ≡ d
same_document d e map same =
    let blocks : e.blocks ≡ d.blocks = same_map nat_cmp_total nat_cmp-IsAntisymmetric e.blocks d.blocks same in
    λ i. record { blocks = blocks i; map_block = map i }

-- what holds of frames and files that show the same blocks
pub agree : (honest : Bool) (es : List (ℕ × Frame)) (d : Document) (fs : List (ℕ × Frame)) (e : Document) → AreFramesOf honest d es → AreFramesOf honest e fs
    → ((h : ℕ) → is_live e h ≡ is_live d h) → ((h : ℕ) → attributes_of e h ≡ attributes_of d h) → e.map_block ≡ d.map_block
    → ((h : ℕ) → heap_by (cover (frame_of fs h) e h) ≡ heap_by (cover (frame_of es h) d h))
    → (IsTrue honest → (h : ℕ) → cover (frame_of fs h) e h ≡ cover (frame_of es h) d h) → SameUnlessCorrupt honest (overlay es d) (overlay fs e)
agree honest es d fs e kept kept' live attributes map kind same = record {
  live = λ h. overlay_live honest fs e h kept' ∙ live h ∙ sym (overlay_live honest es d h kept);
  attributes = λ h. overlay_attributes fs e h ∙ attributes h ∙ sym (overlay_attributes es d h);
  kinds = λ h. ap heap_by (get-overlay fs e h) ∙ kind h ∙ sym (ap heap_by (get-overlay es d h));
  map_block = overlay_map fs e ∙ map ∙ sym (overlay_map es d);
  same = λ so. same_document (overlay es d) (overlay fs e) (overlay_map fs e ∙ map ∙ sym (overlay_map es d)) (λ h. get-overlay fs e h ∙ same so h ∙ sym (get-overlay es d h));
}

-- a block that is live

pub block_by : (o : Option Block) → is_some o ≡ true → (b : Block) × (o ≡ Some b)
block_by None live = absurd (cc live)
block_by (Some b) live = (b, refl)

abbrev pub body_by : Option Block → Body
body_by o = let b : Block = unwrap_or o no_block in b.body

pub heap_body : (o : Option Block) → is_heap_body (body_by o) ≡ heap_by o
heap_body None = refl
heap_body (Some b) = refl

-- valid bodies over a valid document
module _ (es : List (ℕ × Frame)) (d : Document) (valid : IsValid d) (kept : AreFramesOf false d es) (bodies : (h : ℕ) (f : Frame) → frame_of es h ≡ Some f → is_valid_body (body_value f.body) ≡ true) where
  covered_valid : (h : ℕ) (o : Option Frame) (b : Block) → frame_of es h ≡ o → cover o d h ≡ Some b → IsValidBlock h b
  covered_valid h None b here is = valid.blocks h b is
  covered_valid h (Some f) b here is =
      let under = block_by (get d.blocks h) (kept.each h f here).live in
      let was = valid.blocks h under.0 under.1 in
      let attributes : attributes_of d h ≡ under.0.attributes = ap attributes_by under.1 in
      let kind : is_heap_body (body_value f.body) ≡ is_heap_body under.0.body = (kept.each h f here).kind ∙ ap heap_by under.1 in
      let now : IsValidBlock h (record { attributes = attributes_of d h; body = body_value f.body }) =
      record { handle = was.handle; attributes = subst FitAttributes (sym attributes) was.attributes; body = bodies h f here; typed = λ raw. ap (λ (a : Attributes). a.heap_type) attributes ∙ was.typed (sym kind ∙ raw) } in
      subst (IsValidBlock h) (cc is) now

  pub overlay_valid : IsValid (overlay es d)
  overlay_valid =
      let over = overlay es d in
      let map = overlay_map es d in
      record {
        blocks = λ h b is. covered_valid h (frame_of es h) b refl (sym (get-overlay es d h) ∙ is);
        map_block = λ some. ap (is_live over) map ∙ overlay_live false es d d.map_block kept ∙ valid.map_block (λ none. some (map ∙ none));
      }

-- the file drifts under the frames

pub kept_drifts : (honest : Bool) (es : List (ℕ × Frame)) (d e : Document) → SameUnlessCorrupt honest d e → AreFramesOf honest d es → AreFramesOf honest e es
kept_drifts honest es d e unless_corrupt kept = record {
  each = λ h f is. record {
    live = unless_corrupt.live h ∙ (kept.each h f is).live;
    few = (kept.each h f is).few;
    kind = (kept.each h f is).kind ∙ sym (unless_corrupt.kinds h);
    clean = λ so same. ap (λ (x : Document). (block_at x h).body) (unless_corrupt.same so) ∙ (kept.each h f is).clean so same;
  };
}

cover_kind : (o : Option Frame) (d e : Document) (h : ℕ) → is_heap e h ≡ is_heap d h → heap_by (cover o e h) ≡ heap_by (cover o d h)
cover_kind None d e h same = same
cover_kind (Some f) d e h same = refl

pub overlay_drifts : (honest : Bool) (es : List (ℕ × Frame)) (d e : Document) → SameUnlessCorrupt honest d e → AreFramesOf honest d es → SameUnlessCorrupt honest (overlay es d) (overlay es e)
overlay_drifts honest es d e unless_corrupt kept =
    agree honest es d es e kept (kept_drifts honest es d e unless_corrupt kept) unless_corrupt.live unless_corrupt.attributes unless_corrupt.map_block
    (λ h. cover_kind (frame_of es h) d e h (unless_corrupt.kinds h)) (λ so h. ap (λ (x : Document). cover (frame_of es h) x h) (unless_corrupt.same so))

-- frames in another order

pub overlay_same : (es fs : List (ℕ × Frame)) (d : Document) → ((h : ℕ) → frame_of fs h ≡ frame_of es h) → overlay fs d ≡ overlay es d
overlay_same es fs d same = same_document (overlay es d) (overlay fs d) (overlay_map fs d ∙ sym (overlay_map es d)) (λ h. get-overlay fs d h ∙ ap (λ o. cover o d h) (same h) ∙ sym (get-overlay es d h))

pub kept_same : (honest : Bool) (es fs : List (ℕ × Frame)) (d : Document) → ((h : ℕ) → frame_of fs h ≡ frame_of es h) → AreFramesOf honest d es → AreFramesOf honest d fs
kept_same honest es fs d same kept = record { each = λ h f is. kept.each h f (sym (same h) ∙ is) }

-- a frame that has what the file has
pub covers_same : (d : Document) (h : ℕ) (f : Frame) → is_live d h ≡ true → (block_at d h).body ≡ body_value f.body → cover (Some f) d h ≡ get d.blocks h
covers_same d h f live same =
    let b = block_by (get d.blocks h) live in
    let attributes : attributes_of d h ≡ b.0.attributes = ap attributes_by b.1 in
    let body : b.0.body ≡ body_value f.body = sym (ap body_by b.1) ∙ same in
    (λ i. Some (record { attributes = attributes i; body = sym body i })) ∙ sym b.1

-- a block is read into a frame
pub kept_more : (honest : Bool) (es : List (ℕ × Frame)) (d : Document) (h : ℕ) (f : Frame) → AreFramesOf honest d es → IsFrameOf honest d h f → AreFramesOf honest d ((h, f) ∷ es)
kept_more honest es d h f kept one = record {
  each = λ q g is. elim (cases_eq q h) as (λ _. IsFrameOf honest d q g) [
    | inl here ↦ let same : Some f ≡ Some g = sym (held_here (h, f) es q here) ∙ is in
        let at : f ≡ g = ap (λ o. unwrap_or o f) same in
        subst (λ k. IsFrameOf honest d k g) (sym here) (subst (IsFrameOf honest d h) at one)
    | inr other ↦ kept.each q g (sym (held_on (h, f) es q other) ∙ is)
  ];
}

pub fetched : (honest : Bool) (es : List (ℕ × Frame)) (d : Document) (h : ℕ) (f : Frame) → AreFramesOf honest d es → frame_of es h ≡ None → is_live d h ≡ true → f.locks ≤ 255 → is_heap_body (body_value f.body) ≡ is_heap d h → (IsTrue honest → (block_at d h).body ≡ body_value f.body)
    → SameUnlessCorrupt honest (overlay es d) (overlay ((h, f) ∷ es) d)
fetched honest es d h f kept absent live few kind same =
    agree honest es d ((h, f) ∷ es) d kept (kept_more honest es d h f kept (record { live = live; few = few; kind = kind; clean = λ so _. same so })) (λ _. refl) (λ _. refl) refl
    (λ q. elim (cases_eq q h) as (λ _. heap_by (cover (frame_of ((h, f) ∷ es) q) d q) ≡ heap_by (cover (frame_of es q) d q)) [
      | inl here ↦ ap (λ o. heap_by (cover o d q)) (held_here (h, f) es q here) ∙ kind ∙ sym (ap (is_heap d) here) ∙ sym (ap (λ o. heap_by (cover o d q)) (ap (frame_of es) here ∙ absent))
      | inr other ↦ ap (λ o. heap_by (cover o d q)) (held_on (h, f) es q other)
    ])
    (λ so q. elim (cases_eq q h) as (λ _. cover (frame_of ((h, f) ∷ es) q) d q ≡ cover (frame_of es q) d q) [
      | inl here ↦ ap (λ o. cover o d q) (held_here (h, f) es q here) ∙ covers_same d q f (ap (is_live d) here ∙ live) (ap (λ k. (block_at d k).body) here ∙ same so) ∙ sym (ap (λ o. cover o d q) (ap (frame_of es) here ∙ absent))
      | inr other ↦ ap (λ o. cover o d q) (held_on (h, f) es q other)
    ])

-- a frame is changed

pub held-with_frame : (es : List (ℕ × Frame)) (h : ℕ) (g : Frame → Frame) (q : ℕ) → frame_of (with_frame es h g) q ≡ cond (nat_eq h q) (option_map g (frame_of es h)) (frame_of es q)
held-with_frame es h g q = by (frame_of es h) refl
  where
    by : (o : Option Frame) → frame_of es h ≡ o → frame_of (option_map_or (λ f. set_value (nat_eq h) es (g f)) o es) q ≡ cond (nat_eq h q) (option_map g o) (frame_of es q)
    by None is = elim (cases_eq h q) as (λ _. frame_of es q ≡ cond (nat_eq h q) None (frame_of es q)) [
      | inl here ↦ sym (ap (frame_of es) here) ∙ is ∙ sym (ap (λ b. cond b None (frame_of es q)) (eq-eqb h q here))
      | inr other ↦ sym (ap (λ b. cond b None (frame_of es q)) (ne_eqb h q other))
    ]
    by (Some f) is = lookup-set_value nat_eq_equiv (nat_eq h) (nat_eq_equiv.congr h) q (g f) es (ap is_some is)

-- a document with another body of a block

pub cover_by : (o : Option Frame) (d e : Document) (h : ℕ) → get e.blocks h ≡ get d.blocks h → cover o e h ≡ cover o d h
cover_by None d e h same = same
cover_by (Some f) d e h same = ap (λ u. Some (record { attributes = u; body = body_value f.body })) (ap attributes_by same)

module _ (d : Document) (h : ℕ) (body : Body) (live : is_live d h ≡ true) where
  abbrev block : Block
  block = record { attributes = attributes_of d h; body = body }

  pub get-with_body : (q : ℕ) → q ≡ h → get (with_body d h body).blocks q ≡ Some block
  get-with_body q here = get-put_same d.blocks h block q here

  pub get-with_other : (q : ℕ) → q ≢ h → get (with_body d h body).blocks q ≡ get d.blocks q
  get-with_other q other = get-put_other d.blocks h block q other

  pub live-with_body : (q : ℕ) → is_live (with_body d h body) q ≡ is_live d q
  live-with_body q = elim (cases_eq q h) as (λ _. is_live (with_body d h body) q ≡ is_live d q) [
    | inl here ↦ ap is_some (get-with_body q here) ∙ sym (ap (is_live d) here ∙ live)
    | inr other ↦ ap is_some (get-with_other q other)
  ]

  pub attributes-with_body : (q : ℕ) → attributes_of (with_body d h body) q ≡ attributes_of d q
  attributes-with_body q = elim (cases_eq q h) as (λ _. attributes_of (with_body d h body) q ≡ attributes_of d q) [
    | inl here ↦ ap attributes_by (get-with_body q here) ∙ ap (attributes_of d) (sym here)
    | inr other ↦ ap attributes_by (get-with_other q other)
  ]

  pub heap-with_body : (q : ℕ) → q ≡ h → is_heap (with_body d h body) q ≡ is_heap_body body
  heap-with_body q here = ap heap_by (get-with_body q here)

  pub heap-with_other : (q : ℕ) → q ≢ h → is_heap (with_body d h body) q ≡ is_heap d q
  heap-with_other q other = ap heap_by (get-with_other q other)

-- a frame is written to the file
module _ (honest : Bool) (es : List (ℕ × Frame)) (d : Document) (h : ℕ) (f g : Frame) (fs : List (ℕ × Frame)) (e : Document) (kept : AreFramesOf honest d es) (here : frame_of es h ≡ Some f) (same : body_value g.body ≡ body_value f.body) (locks : g.locks ≡ f.locks)
    (now : (q : ℕ) → frame_of fs q ≡ cond (nat_eq h q) (Some g) (frame_of es q)) (unless_corrupt : SameUnlessCorrupt honest (with_body d h (body_value f.body)) e) where
  live : is_live d h ≡ true
  live = (kept.each h f here).live

  abbrev put : Document
  put = with_body d h (body_value f.body)

  at_block : (q : ℕ) → q ≡ h → frame_of fs q ≡ Some g
  at_block q is = now q ∙ ap (λ b. cond b (Some g) (frame_of es q)) (eq-eqb h q (sym is))

  elsewhere : (q : ℕ) → q ≢ h → frame_of fs q ≡ frame_of es q
  elsewhere q other = now q ∙ ap (λ b. cond b (Some g) (frame_of es q)) (ne_eqb h q (λ is. other (sym is)))

  body_now : IsTrue honest → (q : ℕ) → q ≡ h → (block_at e q).body ≡ body_value g.body
  body_now so q is = ap (λ (x : Document). body_by (get x.blocks q)) (unless_corrupt.same so) ∙ ap body_by (get-with_body d h (body_value f.body) live q is) ∙ sym same

  pub written_kept : AreFramesOf honest e fs
  written_kept = record {
    each = λ q k is. elim (cases_eq q h) as (λ _. IsFrameOf honest e q k) [
      | inl at ↦ let found : Some g ≡ Some k = sym (at_block q at) ∙ is in
          let the : g ≡ k = ap (λ o. unwrap_or o g) found in
          record {
            live = unless_corrupt.live q ∙ live-with_body d h (body_value f.body) live q ∙ ap (is_live d) at ∙ live;
            few = subst (λ (x : Frame). x.locks ≤ 255) the (subst (λ n. n ≤ 255) (sym locks) (kept.each h f here).few);
            kind = sym (ap (λ (x : Frame). is_heap_body (body_value x.body)) the) ∙ ap is_heap_body same ∙ sym (heap-with_body d h (body_value f.body) live q at) ∙ sym (unless_corrupt.kinds q);
            clean = λ so clean. body_now so q at ∙ ap (λ (x : Frame). body_value x.body) the;
          }
      | inr other ↦ let was = kept.each q k (sym (elsewhere q other) ∙ is) in
          record {
            live = unless_corrupt.live q ∙ live-with_body d h (body_value f.body) live q ∙ was.live;
            few = was.few;
            kind = was.kind ∙ sym (heap-with_other d h (body_value f.body) live q other) ∙ sym (unless_corrupt.kinds q);
            clean = λ so clean. ap (λ (x : Document). body_by (get x.blocks q)) (unless_corrupt.same so) ∙ ap body_by (get-with_other d h (body_value f.body) live q other) ∙ was.clean so clean;
          }
    ];
  }

  pub written : SameUnlessCorrupt honest (overlay es d) (overlay fs e)
  written = agree honest es d fs e kept written_kept (λ q. unless_corrupt.live q ∙ live-with_body d h (body_value f.body) live q) (λ q. unless_corrupt.attributes q ∙ attributes-with_body d h (body_value f.body) live q) unless_corrupt.map_block
      (λ q. elim (cases_eq q h) as (λ _. heap_by (cover (frame_of fs q) e q) ≡ heap_by (cover (frame_of es q) d q)) [
        | inl at ↦ ap (λ o. heap_by (cover o e q)) (at_block q at) ∙ ap is_heap_body same ∙ sym (ap (λ o. heap_by (cover o d q)) (ap (frame_of es) at ∙ here))
        | inr other ↦ ap (λ o. heap_by (cover o e q)) (elsewhere q other) ∙ cover_kind (frame_of es q) d e q (unless_corrupt.kinds q ∙ heap-with_other d h (body_value f.body) live q other)
      ])
      (λ so q. elim (cases_eq q h) as (λ _. cover (frame_of fs q) e q ≡ cover (frame_of es q) d q) [
        | inl at ↦ ap (λ o. cover o e q) (at_block q at)
            ∙ (λ i. Some (record { attributes = (unless_corrupt.attributes q ∙ attributes-with_body d h (body_value f.body) live q) i; body = same i }))
            ∙ sym (ap (λ o. cover o d q) (ap (frame_of es) at ∙ here))
        | inr other ↦ ap (λ o. cover o e q) (elsewhere q other) ∙ cover_by (frame_of es q) d e q (ap (λ (x : Document). get x.blocks q) (unless_corrupt.same so) ∙ get-with_other d h (body_value f.body) live q other)
      ])

-- a frame that isn't changed goes
module _ (honest : Bool) (es : List (ℕ × Frame)) (d : Document) (h : ℕ) (fs : List (ℕ × Frame)) (kept : AreFramesOf honest d es) (clean : is_changed_in es h ≡ false) (now : (q : ℕ) → frame_of fs q ≡ cond (nat_eq h q) None (frame_of es q)) where
  gone_at : (q : ℕ) → q ≡ h → frame_of fs q ≡ None
  gone_at q is = now q ∙ ap (λ b. cond b None (frame_of es q)) (eq-eqb h q (sym is))

  stays_at : (q : ℕ) → q ≢ h → frame_of fs q ≡ frame_of es q
  stays_at q other = now q ∙ ap (λ b. cond b None (frame_of es q)) (ne_eqb h q (λ is. other (sym is)))

  pub dropped_kept : AreFramesOf honest d fs
  dropped_kept = record {
    each = λ q k is. elim (cases_eq q h) as (λ _. IsFrameOf honest d q k) [
      | inl at ↦ let wrong : None ≡ Some k = sym (gone_at q at) ∙ is in absurd (cc wrong)
      | inr other ↦ kept.each q k (sym (stays_at q other) ∙ is)
    ];
  }

  uncovered : IsTrue honest → (o : Option Frame) → frame_of es h ≡ o → get d.blocks h ≡ cover o d h
  uncovered so None is = refl
  uncovered so (Some f) is =
      let unchanged : f.changed ≡ false = sym (ap (λ o. option_map_or (λ (x : Frame). x.changed) o false) is) ∙ clean in
      let was = kept.each h f is in
      sym (covers_same d h f was.live (was.clean so unchanged))

  pub dropped : SameUnlessCorrupt honest (overlay es d) (overlay fs d)
  dropped = agree honest es d fs d kept dropped_kept (λ _. refl) (λ _. refl) refl (λ q. elim (cases_eq q h) as (λ _. heap_by (cover (frame_of fs q) d q) ≡ heap_by (cover (frame_of es q) d q)) [
    | inl at ↦ ap (λ o. heap_by (cover o d q)) (gone_at q at) ∙ subst (λ k. is_heap d k ≡ heap_by (cover (frame_of es k) d k)) (sym at) (sym (covered_kind honest d h (frame_of es h) (kept.each h)))
    | inr other ↦ ap (λ o. heap_by (cover o d q)) (stays_at q other)
  ]) (λ so q. elim (cases_eq q h) as (λ _. cover (frame_of fs q) d q ≡ cover (frame_of es q) d q) [
    | inl at ↦ ap (λ o. cover o d q) (gone_at q at) ∙ subst (λ k. get d.blocks k ≡ cover (frame_of es k) d k) (sym at) (uncovered so (frame_of es h) refl)
    | inr other ↦ ap (λ o. cover o d q) (stays_at q other)
  ])

-- a frame is changed, and its body stays
module _ (es : List (ℕ × Frame)) (h : ℕ) (g : Frame → Frame) (body : (f : Frame) → body_value (g f).body ≡ body_value f.body) where
  cover_changed : (o : Option Frame) (d : Document) (q : ℕ) → cover (option_map g o) d q ≡ cover o d q
  cover_changed None d q = refl
  cover_changed (Some f) d q = ap (λ (b : Body). Some (record { attributes = attributes_of d q; body = b })) (body f)

  pub overlay_with_frame : (d : Document) → overlay (with_frame es h g) d ≡ overlay es d
  overlay_with_frame d = same_document (overlay es d) (overlay (with_frame es h g) d) (overlay_map (with_frame es h g) d ∙ sym (overlay_map es d))
      (λ q. get-overlay (with_frame es h g) d q ∙ ap (λ o. cover o d q) (held-with_frame es h g q)
      ∙ elim (cases_eq q h) as (λ _. cover (cond (nat_eq h q) (option_map g (frame_of es h)) (frame_of es q)) d q ≡ cover (frame_of es q) d q) [
        | inl at ↦ ap (λ b. cover (cond b (option_map g (frame_of es h)) (frame_of es q)) d q) (eq-eqb h q (sym at)) ∙ ap (λ k. cover (option_map g (frame_of es k)) d q) (sym at) ∙ cover_changed (frame_of es q) d q
        | inr other ↦ ap (λ b. cover (cond b (option_map g (frame_of es h)) (frame_of es q)) d q) (ne_eqb h q (λ is. other (sym is)))
      ] ∙ sym (get-overlay es d q))

  kept_by : (honest : Bool) (d : Document) (q : ℕ) (o : Option Frame) (k : Frame) → ((f : Frame) → o ≡ Some f → f.locks ≤ 255 → (g f).locks ≤ 255) → ((f : Frame) → (g f).changed ≡ false → f.changed ≡ false) → ((f : Frame) → o ≡ Some f → IsFrameOf honest d q f) → option_map g o ≡ Some k → IsFrameOf honest d q k
  kept_by honest d q None k few clean kept is = absurd (cc is)
  kept_by honest d q (Some f) k few clean kept is =
      let at : g f ≡ k = ap (λ (o : Option Frame). unwrap_or o (g f)) is in
      let was = kept f refl in
      record {
        live = was.live;
        few = subst (λ (x : Frame). x.locks ≤ 255) at (few f refl was.few);
        kind = sym (ap (λ (x : Frame). is_heap_body (body_value x.body)) at) ∙ ap is_heap_body (body f) ∙ was.kind;
        clean = λ so same. was.clean so (clean f (ap (λ (x : Frame). x.changed) at ∙ same)) ∙ sym (body f) ∙ ap (λ (x : Frame). body_value x.body) at;
      }

  pub kept_with_frame : (honest : Bool) (d : Document) → ((f : Frame) → frame_of es h ≡ Some f → f.locks ≤ 255 → (g f).locks ≤ 255) → ((f : Frame) → (g f).changed ≡ false → f.changed ≡ false) → AreFramesOf honest d es → AreFramesOf honest d (with_frame es h g)
  kept_with_frame honest d few clean kept = record {
    each = λ q k is. elim (cases_eq q h) as (λ _. IsFrameOf honest d q k) [
      | inl at ↦ kept_by honest d q (frame_of es q) k (λ f is. few f (sym (ap (frame_of es) at) ∙ is)) clean (kept.each q) (ap (λ j. option_map g (frame_of es j)) at ∙ sym (ap (λ b. cond b (option_map g (frame_of es h)) (frame_of es q)) (eq-eqb h q (sym at))) ∙ sym (held-with_frame es h g q) ∙ is)
      | inr other ↦ kept.each q k (sym (ap (λ b. cond b (option_map g (frame_of es h)) (frame_of es q)) (ne_eqb h q (λ is. other (sym is)))) ∙ sym (held-with_frame es h g q) ∙ is)
    ];
  }

-- nothing in memory differs from the file
pub clean_overlay : (honest : Bool) (es : List (ℕ × Frame)) (d : Document) → IsTrue honest → AreFramesOf honest d es → ((h : ℕ) → is_changed_in es h ≡ false) → overlay es d ≡ d
clean_overlay honest es d so kept clean = same_document d (overlay es d) (overlay_map es d) (λ h. get-overlay es d h ∙ by h (frame_of es h) refl)
  where
    by : (h : ℕ) (o : Option Frame) → frame_of es h ≡ o → cover o d h ≡ get d.blocks h
    by h None is = refl
    by h (Some f) is =
        let unchanged : f.changed ≡ false = sym (ap (λ o. option_map_or (λ (x : Frame). x.changed) o false) is) ∙ clean h in
        let was = kept.each h f is in
        covers_same d h f was.live (was.clean so unchanged)

-- no frame is left
pub bare_kept : (honest : Bool) (d : Document) → AreFramesOf honest d []
bare_kept honest d = record { each = λ h f is. absurd (cc is) }

pub bare : (honest : Bool) (es : List (ℕ × Frame)) (d : Document) → AreFramesOf honest d es → ((h : ℕ) → is_changed_in es h ≡ false) → SameUnlessCorrupt honest (overlay es d) (overlay [] d)
bare honest es d kept clean = record {
  live = λ h. sym (overlay_live honest es d h kept);
  attributes = λ h. sym (overlay_attributes es d h);
  kinds = λ h. sym (overlay_kind honest es d h kept);
  map_block = sym (overlay_map es d);
  same = λ so. sym (clean_overlay honest es d so kept clean);
}
