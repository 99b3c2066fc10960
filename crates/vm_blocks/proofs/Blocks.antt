-- Blocks that come into the file under the frames, and blocks that go from both.
use Rattle.std.proofs.Common.{◌≡◌, ◌≢◌, ℕ, Bool, cond, nat_eq, List, [], ◌∷◌, None, Some, is_some, All, refl, sym, ap, ◌∙◌, inl, inr, eq-eqb}
use Rattle.std.proofs.lemmas.Bool.{cases_eq, ne_eqb}
use Rattle.std.proofs.lemmas.List.Elements.{All-head, All-tail}
use Rattle.std.proofs.lemmas.Map.{lookup-remove_entry}
use Rattle.std.specs.Cmp.{nat_eq_equiv}
use Rattle.std.specs.List.{IsDistinct}
use Rattle.std.specs.Map.{remove_entry, keys_of}
use Rattle.std.specs.FinMap.{get}
use Rattle.geos_model.specs.Document.{Block, Document, with_block, without_block}
use Rattle.geos_model.proofs.HeapEdits.{get-put_same, get-put_other, get-taken_same, get-taken_other}
use Rattle.document_file.specs.Calls.{put_all}
use Rattle.document_file.specs.Members.{imaged_block}
use Rattle.document_file.specs.declared.member.Member.{Member}
use Rattle.lru.specs.LruCache.{LruCache, lru_cache}
use Rattle.document_file.specs.Disk.{FileState}
use Rattle.vm_blocks.specs.Frames.{frame_of, residents, overlay, shown, IsFrameOf, AreFramesOf}
use Rattle.vm_blocks.specs.declared.frame.Frame.{Frame}
use Rattle.vm_blocks.proofs.DocumentUnderFrames.{cover, heap_by, get-overlay, overlay_map, same_document, cover_by, body_by}
use Rattle.vm_blocks.proofs.OrderOfUse.{residents-remove}

-- a block that isn't in memory is put into the file
module _ (es : List (ℕ × Frame)) (d : Document) (h : ℕ) (b : Block) (away : frame_of es h ≡ None) where
  overlay_put : with_block (overlay es d) h b ≡ overlay es (with_block d h b)
  overlay_put =
      let over = overlay es d in
      let e = with_block d h b in
      same_document (overlay es e) (with_block over h b) (overlay_map es d ∙ sym (overlay_map es e))
      (λ q. elim (cases_eq q h) as (λ _. get (with_block over h b).blocks q ≡ get (overlay es e).blocks q) [
        | inl here ↦ get-put_same over.blocks h b q here ∙ sym (get-overlay es e q ∙ ap (λ o. cover o e q) (ap (frame_of es) here ∙ away) ∙ get-put_same d.blocks h b q here)
        | inr other ↦ get-put_other over.blocks h b q other ∙ get-overlay es d q ∙ sym (cover_by (frame_of es q) d e q (get-put_other d.blocks h b q other)) ∙ sym (get-overlay es e q)
      ])

  kept_put : (honest : Bool) → AreFramesOf honest d es → AreFramesOf honest (with_block d h b) es
  kept_put honest kept = record {
    each = λ q f is. elim (cases_eq q h) as (λ _. IsFrameOf honest (with_block d h b) q f) [
      | inl here ↦ let wrong : None ≡ Some f = sym (ap (frame_of es) here ∙ away) ∙ is in absurd (cc wrong)
      | inr other ↦ let same : get (with_block d h b).blocks q ≡ get d.blocks q = get-put_other d.blocks h b q other in
          record { live = ap is_some same ∙ (kept.each q f is).live; few = (kept.each q f is).few; kind = (kept.each q f is).kind ∙ sym (ap heap_by same); clean = λ so clean. ap body_by same ∙ (kept.each q f is).clean so clean }
    ];
  }

-- so are many
module _ (es : List (ℕ × Frame)) where
  abbrev pub IsAway : Member → Type 0
  IsAway p = frame_of es p.handle.0 ≡ None

  pub overlay_puts : (puts : List Member) (d : Document) → All IsAway puts → put_all puts (overlay es d) ≡ overlay es (put_all puts d)
  overlay_puts [] d away = refl
  overlay_puts (p ∷ puts) d away =
      let b = imaged_block p.block in
      ap (put_all puts) (overlay_put es d p.handle.0 b (All-head IsAway p puts away)) ∙ overlay_puts puts (with_block d p.handle.0 b) (All-tail IsAway p puts away)

  pub kept_puts : (honest : Bool) (puts : List Member) (d : Document) → All IsAway puts → AreFramesOf honest d es → AreFramesOf honest (put_all puts d) es
  kept_puts honest [] d away kept = kept
  kept_puts honest (p ∷ puts) d away kept =
      let b = imaged_block p.block in
      kept_puts honest puts (with_block d p.handle.0 b) (All-tail IsAway p puts away) (kept_put es d p.handle.0 b (All-head IsAway p puts away) honest kept)

-- a block goes from memory and from the file
module _ (es : List (ℕ × Frame)) (d : Document) (h : ℕ) (distinct : IsDistinct nat_eq (keys_of es)) where
  abbrev left : List (ℕ × Frame)
  left = remove_entry (nat_eq h) es

  now : (q : ℕ) → frame_of left q ≡ cond (nat_eq h q) None (frame_of es q)
  now q = lookup-remove_entry nat_eq_equiv (nat_eq h) (nat_eq_equiv.congr h) q es distinct

  left_here : (q : ℕ) → q ≡ h → frame_of left q ≡ None
  left_here q here = now q ∙ ap (λ b. cond b None (frame_of es q)) (eq-eqb h q (sym here))

  left_other : (q : ℕ) → q ≢ h → frame_of left q ≡ frame_of es q
  left_other q other = now q ∙ ap (λ b. cond b None (frame_of es q)) (ne_eqb h q (λ is. other (sym is)))

  overlay_gone : overlay left (without_block d h) ≡ without_block (overlay es d) h
  overlay_gone =
      let over = overlay es d in
      let e = without_block d h in
      same_document (without_block over h) (overlay left e) (overlay_map left e ∙ sym (overlay_map es d))
      (λ q. get-overlay left e q ∙ elim (cases_eq q h) as (λ _. cover (frame_of left q) e q ≡ get (without_block over h).blocks q) [
        | inl here ↦ ap (λ o. cover o e q) (left_here q here) ∙ get-taken_same d.blocks h q here ∙ sym (get-taken_same over.blocks h q here)
        | inr other ↦ ap (λ o. cover o e q) (left_other q other) ∙ cover_by (frame_of es q) d e q (get-taken_other d.blocks h q other) ∙ sym (get-overlay es d q) ∙ sym (get-taken_other over.blocks h q other)
      ])

  pub kept_gone : (honest : Bool) → AreFramesOf honest d es → AreFramesOf honest (without_block d h) left
  kept_gone honest kept = record {
    each = λ q f is. elim (cases_eq q h) as (λ _. IsFrameOf honest (without_block d h) q f) [
      | inl here ↦ let wrong : None ≡ Some f = sym (left_here q here) ∙ is in absurd (cc wrong)
      | inr other ↦
          let same : get (without_block d h).blocks q ≡ get d.blocks q = get-taken_other d.blocks h q other in
          let was = kept.each q f (sym (left_other q other) ∙ is) in
          record { live = ap is_some same ∙ was.live; few = was.few; kind = was.kind ∙ sym (ap heap_by same); clean = λ so clean. ap body_by same ∙ was.clean so clean }
    ];
  }

  -- what callers see then
  pub shown_gone : {S : Type 0} (a b : FileState S) (cap : ℕ) (fs : LruCache ℕ Frame) → b ≡ record a { document = without_block d h } → fs ≡ lru_cache left cap
      → shown b fs.entries fs.cap ≡ record (shown a es cap) { document = without_block (overlay es d) h; resident = remove_entry (nat_eq h) (residents es) }
  shown_gone {S} a b cap fs is frames =
      ap (λ (x : FileState S). shown x fs.entries fs.cap) is
      ∙ ap (λ (x : LruCache ℕ Frame). shown (record a { document = without_block d h }) x.entries x.cap) frames
      ∙ (λ i. record { disk = a.disk; document = overlay_gone i; resident = residents-remove h es i; frames = cap })
