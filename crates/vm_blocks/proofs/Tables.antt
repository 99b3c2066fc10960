-- What frames leave to the file's table, and what their bodies show.
use Rattle.std.proofs.Common.{◌≡◌, ◌≢◌, ℕ, Bool, true, List, [], ◌∷◌, Option, None, Some, is_some, inl, inr, refl, sym, ap, ◌∙◌}
use Rattle.std.proofs.lemmas.Bool.{cases_eq}
use Rattle.std.specs.Option.{option_map, option_map_or}
use Rattle.std.specs.FinMap.{empty, get}
use Rattle.geos_model.specs.Document.{Block, Document, bytes_of_body, chunks_of, chunks_of_body, raw_bytes_of, is_live, with_block, with_body, with_attributes}
use Rattle.geos_model.specs.declared.command.Body.{Body}
use Rattle.geos_model.proofs.HeapEdits.{get-put_same, get-put_other}
use Rattle.geos_model.specs.declared.block.Attributes.{Attributes}
use Rattle.vm_blocks.specs.Bodies.{body_value}
use Rattle.vm_blocks.specs.Frames.{bytes_in_frames, chunks_in_frames, frame_of, overlay, IsFrameOf, AreFramesOf}
use Rattle.vm_blocks.specs.declared.body.BlockBody.{BlockBody}
use Rattle.vm_blocks.specs.declared.frame.Frame.{Frame}
use Rattle.vm_blocks.proofs.DocumentUnderFrames.{cover, attributes_by, heap_by, heap_body, get-overlay, overlay_map, same_document, block_by, body_by, cover_by}

-- another map block

pub overlay_set_map : (es : List (ℕ × Frame)) (d : Document) (m : ℕ) → overlay es (record d { map_block = m }) ≡ record (overlay es d) { map_block = m }
overlay_set_map [] d m = refl
overlay_set_map (e ∷ es) d m = ap (λ (x : Document). with_body x e.0 (body_value e.1.body)) (overlay_set_map es d m)

pub kept_set_map : (honest : Bool) (es : List (ℕ × Frame)) (d : Document) (m : ℕ) → AreFramesOf honest d es → AreFramesOf honest (record d { map_block = m }) es
kept_set_map honest es d m kept = record {
  each = λ h f is. record { live = (kept.each h f is).live; few = (kept.each h f is).few; kind = (kept.each h f is).kind; clean = (kept.each h f is).clean };
}

-- other attributes of a block
module _ (u : Attributes) where
  named : Block → Block
  named b = record b { attributes = u }

  is_named : (d : Document) (h : ℕ) (live : is_live d h ≡ true) → let b = block_by (get d.blocks h) live in with_attributes d h u ≡ with_block d h (record b.0 { attributes = u })
  is_named d h live = let b = block_by (get d.blocks h) live in ap (λ o. option_map_or (λ (b : Block). with_block d h (record b { attributes = u })) o d) b.1

  get-named : (d : Document) (h : ℕ) → is_live d h ≡ true → (q : ℕ) → q ≡ h → get (with_attributes d h u).blocks q ≡ Some (record { attributes = u; body = body_by (get d.blocks h) })
  get-named d h live q here =
      let b = block_by (get d.blocks h) live in
      ap (λ (x : Document). get x.blocks q) (is_named d h live) ∙ get-put_same d.blocks h (record b.0 { attributes = u }) q here ∙ ap (λ (x : Body). Some (record { attributes = u; body = x })) (sym (ap body_by b.1))

  get-unnamed : (d : Document) (h : ℕ) → is_live d h ≡ true → (q : ℕ) → q ≢ h → get (with_attributes d h u).blocks q ≡ get d.blocks q
  get-unnamed d h live q other =
      let b = block_by (get d.blocks h) live in
      ap (λ (x : Document). get x.blocks q) (is_named d h live) ∙ get-put_other d.blocks h (record b.0 { attributes = u }) q other

  map_named : (d : Document) (h : ℕ) → is_live d h ≡ true → (with_attributes d h u).map_block ≡ d.map_block
  map_named d h live = ap (λ (x : Document). x.map_block) (is_named d h live)

  cover_named : (o : Option Frame) (d e : Document) (h q : ℕ) → q ≡ h → get e.blocks q ≡ Some (record { attributes = u; body = body_by (get d.blocks h) }) → cover o e q ≡ Some (record { attributes = u; body = body_by (cover o d h) })
  cover_named None d e h q here is = is
  cover_named (Some f) d e h q here is = ap (λ n. Some (record { attributes = n; body = body_value f.body })) (ap attributes_by is)

  module _ (es : List (ℕ × Frame)) (d : Document) (h : ℕ) (live : is_live d h ≡ true) where
    pub overlay_set_attributes : is_live (overlay es d) h ≡ true → overlay es (with_attributes d h u) ≡ with_attributes (overlay es d) h u
    overlay_set_attributes shown =
        let e = with_attributes d h u in
        let over = overlay es d in
        same_document (with_attributes over h u) (overlay es e) (overlay_map es e ∙ map_named d h live ∙ sym (overlay_map es d) ∙ sym (map_named over h shown))
        (λ q. get-overlay es e q ∙ elim (cases_eq q h) as (λ _. cover (frame_of es q) e q ≡ get (with_attributes over h u).blocks q) [
          | inl here ↦ ap (λ k. cover (frame_of es k) e q) here ∙ cover_named (frame_of es h) d e h q here (get-named d h live q here)
              ∙ ap (λ (o : Option Block). Some (record { attributes = u; body = body_by o })) (sym (get-overlay es d h)) ∙ sym (get-named over h shown q here)
          | inr other ↦ cover_by (frame_of es q) d e q (get-unnamed d h live q other) ∙ sym (get-overlay es d q) ∙ sym (get-unnamed over h shown q other)
        ])

    pub kept_set_attributes : (honest : Bool) → AreFramesOf honest d es → AreFramesOf honest (with_attributes d h u) es
    kept_set_attributes honest kept = record {
      each = λ q f is. elim (cases_eq q h) as (λ _. IsFrameOf honest (with_attributes d h u) q f) [
        | inl here ↦ record {
          live = ap is_some (get-named d h live q here);
          few = (kept.each q f is).few;
          kind = (kept.each q f is).kind ∙ ap (λ k. heap_by (get d.blocks k)) here ∙ sym (heap_body (get d.blocks h)) ∙ sym (ap heap_by (get-named d h live q here));
          clean = λ so same. ap body_by (get-named d h live q here) ∙ ap (λ k. body_by (get d.blocks k)) (sym here) ∙ (kept.each q f is).clean so same;
        }
        | inr other ↦ record {
          live = ap is_some (get-unnamed d h live q other) ∙ (kept.each q f is).live;
          few = (kept.each q f is).few;
          kind = (kept.each q f is).kind ∙ sym (ap heap_by (get-unnamed d h live q other));
          clean = λ so same. ap body_by (get-unnamed d h live q other) ∙ (kept.each q f is).clean so same;
        }
      ];
    }

-- the body of a block in memory

pub body_under : (es : List (ℕ × Frame)) (d : Document) (h : ℕ) (body : BlockBody) → option_map (λ (f : Frame). f.body) (frame_of es h) ≡ Some body → option_map (λ (b : Block). b.body) (get (overlay es d).blocks h) ≡ Some (body_value body)
body_under es d h body is = ap (option_map (λ (b : Block). b.body)) (get-overlay es d h) ∙ by (frame_of es h) is
  where
    by : (o : Option Frame) → option_map (λ (f : Frame). f.body) o ≡ Some body → option_map (λ (b : Block). b.body) (cover o d h) ≡ Some (body_value body)
    by None is = absurd (cc is)
    by (Some f) is = ap (option_map body_value) is

-- the bytes of a raw block in memory

pub bytes_under : (es : List (ℕ × Frame)) (d : Document) (h : ℕ) → is_some (frame_of es h) ≡ true → raw_bytes_of (overlay es d) h ≡ bytes_in_frames es h
bytes_under es d h here = ap (λ (o : Option Block). option_map_or (λ b. bytes_of_body b.body) o []) (get-overlay es d h) ∙ by (frame_of es h) here
  where
    by : (o : Option Frame) → is_some o ≡ true → option_map_or (λ (b : Block). bytes_of_body b.body) (cover o d h) [] ≡ option_map_or (λ (f : Frame). bytes_of_body (body_value f.body)) o []
    by None is = absurd (cc is)
    by (Some f) is = refl

-- the chunks of a heap in memory

pub chunks_under : (es : List (ℕ × Frame)) (d : Document) (h : ℕ) → is_some (frame_of es h) ≡ true → chunks_of (overlay es d) h ≡ chunks_in_frames es h
chunks_under es d h here = ap (λ (o : Option Block). option_map_or (λ b. chunks_of_body b.body) o empty) (get-overlay es d h) ∙ by (frame_of es h) here
  where
    by : (o : Option Frame) → is_some o ≡ true → option_map_or (λ (b : Block). chunks_of_body b.body) (cover o d h) empty ≡ option_map_or (λ (f : Frame). chunks_of_body (body_value f.body)) o empty
    by None is = absurd (cc is)
    by (Some f) is = refl
