-- A block in memory whose body is changed in place.
use Rattle.std.proofs.Common.{◌≡◌, ◌≤◌, ◌≢◌, ℕ, Bool, true, false, cond, nat_eq, List, Option, None, Some, is_some, unwrap_or, inl, inr, refl, sym, ap, subst, ◌∙◌, eq-eqb}
use Rattle.std.proofs.lemmas.Bool.{cases_eq, ne_eqb}
use Rattle.std.proofs.lemmas.Map.{lookup-set_value}
use Rattle.std.specs.Cmp.{nat_eq_equiv}
use Rattle.std.specs.Map.{set_value}
use Rattle.std.specs.Borrow.{MutBor}
use Rattle.std.specs.Option.{IsSome, option_copied_mut}
use Rattle.std.specs.FinMap.{get}
use Rattle.geos_model.specs.Document.{Document, is_heap, is_heap_body, is_live, attributes_of, with_body}
use Rattle.geos_model.proofs.HeapEdits.{get-put_same, get-put_other}
use Rattle.vm_blocks.specs.Bodies.{body_value}
use Rattle.document_file.specs.Disk.{Disk}
use Rattle.vm_blocks.specs.Frames.{frame_of, overlay, residents, IsFrameOf, AreFramesOf}
use Rattle.vm_blocks.specs.declared.frame.Frame.{Frame}
use Rattle.vm_blocks.specs.State.{CacheState}
use Rattle.vm_blocks.proofs.DocumentUnderFrames.{cover, get-overlay, overlay_map, overlay_attributes, same_document}
use Rattle.vm_blocks.proofs.OrderOfUse.{seats_kept}

pub is_lent : (o : Option (MutBor Frame)) → is_some (option_copied_mut o) ≡ true → IsSome o
is_lent None is = absurd (cc is)
is_lent (Some r) is = refl

module _ (es : List (ℕ × Frame)) (h : ℕ) (f : Frame) (here : frame_of es h ≡ Some f) (d : Document) where
  module _ (g : Frame) where
    abbrev lent : List (ℕ × Frame)
    lent = set_value (nat_eq h) es g

    now : (q : ℕ) → frame_of lent q ≡ cond (nat_eq h q) (Some g) (frame_of es q)
    now q = lookup-set_value nat_eq_equiv (nat_eq h) (nat_eq_equiv.congr h) q g es (ap is_some here)

    now_here : (q : ℕ) → q ≡ h → frame_of lent q ≡ Some g
    now_here q at = now q ∙ ap (λ b. cond b (Some g) (frame_of es q)) (eq-eqb h q (sym at))

    now_other : (q : ℕ) → q ≢ h → frame_of lent q ≡ frame_of es q
    now_other q other = now q ∙ ap (λ b. cond b (Some g) (frame_of es q)) (ne_eqb h q (λ is. other (sym is)))

    pub overlay_lent : overlay lent d ≡ with_body (overlay es d) h (body_value g.body)
    overlay_lent =
        let over = overlay es d in
        same_document (with_body over h (body_value g.body)) (overlay lent d) (overlay_map lent d ∙ sym (overlay_map es d))
        (λ q. get-overlay lent d q ∙ elim (cases_eq q h) as (λ _. cover (frame_of lent q) d q ≡ get (with_body over h (body_value g.body)).blocks q) [
          | inl at ↦ ap (λ o. cover o d q) (now_here q at)
              ∙ ap (λ u. Some (record { attributes = u; body = body_value g.body })) (ap (attributes_of d) at ∙ sym (overlay_attributes es d h))
              ∙ sym (get-put_same over.blocks h (record { attributes = attributes_of over h; body = body_value g.body }) q at)
          | inr other ↦ ap (λ o. cover o d q) (now_other q other) ∙ sym (get-overlay es d q)
              ∙ sym (get-put_other over.blocks h (record { attributes = attributes_of over h; body = body_value g.body }) q other)
        ])

    pub kept_lent : (honest : Bool) → g.locks ≡ f.locks → g.changed ≡ true → is_heap_body (body_value g.body) ≡ is_heap_body (body_value f.body) → AreFramesOf honest d es → AreFramesOf honest d lent
    kept_lent honest locks changed kind kept = record {
      each = λ q k is. elim (cases_eq q h) as (λ _. IsFrameOf honest d q k) [
        | inl at ↦ let found : Some g ≡ Some k = sym (now_here q at) ∙ is in
            let the : g ≡ k = ap (λ o. unwrap_or o g) found in
            record {
              live = ap (is_live d) at ∙ (kept.each h f here).live;
              few = subst (λ (x : Frame). x.locks ≤ 255) the (subst (λ n. n ≤ 255) (sym locks) (kept.each h f here).few);
              kind = sym (ap (λ (x : Frame). is_heap_body (body_value x.body)) the) ∙ kind ∙ (kept.each h f here).kind ∙ sym (ap (is_heap d) at);
              clean = λ so same. let wrong : true ≡ false = sym changed ∙ ap (λ (x : Frame). x.changed) the ∙ same in absurd (cc wrong);
            }
        | inr other ↦ kept.each q k (sym (now_other q other) ∙ is)
      ];
    }

    -- what callers see then: the block has another body
    pub state_lent : {S : Type 0} (disk : Disk S) (cap : ℕ) (s : CacheState S) → g.locks ≡ f.locks → record { disk = disk; document = overlay es d; resident = residents es; frames = cap } ≡ s
        → record { disk = disk; document = overlay lent d; resident = residents lent; frames = cap } ≡ record s { document = with_body s.document h (body_value g.body) }
    state_lent {S} disk cap s locks view =
        let document = overlay_lent in
        let resident = seats_kept h es f g here locks in
        (λ i. record { disk = disk; document = document i; resident = resident i; frames = cap })
        ∙ ap (λ (x : CacheState S). record x { document = with_body x.document h (body_value g.body) }) view
