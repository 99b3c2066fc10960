use Rattle.std.proofs.Common.{◌≡◌, ℕ, ◌≤◌, true, false, cond, nat_le, Option, None, Some, refl, sym, ap, subst, ◌∙◌, inl, inr, arith, eq-eqb, leb-true}
use Rattle.std.proofs.lemmas.Bool.{cases_eq, ne_eqb, and_parts}
use Rattle.std.specs.Option.{option_map, IfSome}
use Rattle.std.specs.FinMap.{get}
use Rattle.geos_model.specs.Document.{is_valid_body, is_vm_handle, most_blocks}
use Rattle.lru.specs.LruCache.{LruCache}
use Rattle.vm_blocks.specs.Bodies.{body_value}
use Rattle.vm_blocks.specs.Frames.{frame_of, residents, overlay, with_frame, AreFramesOf}
use Rattle.vm_blocks.specs.declared.frame.Frame.{Frame}
use Rattle.vm_blocks.proofs.DocumentUnderFrames.{block_by, overlay_valid, overlay_with_frame, kept_with_frame, held-with_frame}
use Rattle.vm_blocks.proofs.OrderOfUse.{seats_same}
use Rattle.vm_blocks.proofs.frame.mark_all.Goals as goal

abbrev marked : Frame → Frame
marked f = record f { changed = true }

is_marked : (o : Option Frame) (f : Frame) → option_map marked o ≡ Some f → f.changed ≡ true
is_marked None f is = absurd (cc is)
is_marked (Some g) f is = cc is

pub loop-block-preserved : goal.loop-block-preserved
loop-block-preserved c =
    let l = c.loop-block in
    let es = l.frames.entries in
    let b = l.block in
    let is = c.mark_one.ensures.entries in
    record {
      shown = λ d. ap (λ (x : LruCache ℕ Frame). overlay x.entries d) is ∙ overlay_with_frame es b marked (λ f. refl) d ∙ l.invariant.shown d;
      kept = λ honest d kept. subst (λ (x : LruCache ℕ Frame). AreFramesOf honest d x.entries) (sym is) (kept_with_frame es b marked (λ f. refl) honest d (λ f is few. few) (λ f wrong. absurd (cc wrong)) (l.invariant.kept honest d kept));
      marked = λ q f low at.
          let now : frame_of (with_frame es b marked) q ≡ Some f = sym (ap (λ (x : LruCache ℕ Frame). frame_of x.entries q) is) ∙ at in
          elim (cases_eq q b) as (λ _. f.changed ≡ true) [
            | inl here ↦ is_marked (frame_of es b) f (sym (ap (λ t. cond t (option_map marked (frame_of es b)) (frame_of es q)) (eq-eqb b q (sym here))) ∙ sym (held-with_frame es b marked q) ∙ now)
            | inr other ↦ l.invariant.marked q f (omega (arith, low, other)) (sym (ap (λ t. cond t (option_map marked (frame_of es b)) (frame_of es q)) (ne_eqb b q (λ is. other (sym is)))) ∙ sym (held-with_frame es b marked q) ∙ now)
          ];
      valid = λ q f low at. elim (cases_eq q b) as (λ _. is_valid_body (body_value f.body) ≡ true) [
        | inl here ↦ subst (λ o. IfSome o (λ (g : Frame). is_valid_body (body_value g.body) ≡ true)) (ap (frame_of c.mark_one.new.frames.entries) (sym here) ∙ at) c.mark_one.ensures.valid
        | inr other ↦ l.invariant.valid q f (omega (arith, low, other)) (sym (ap (λ t. cond t (option_map marked (frame_of es b)) (frame_of es q)) (ne_eqb b q (λ is. other (sym is)))) ∙ sym (held-with_frame es b marked q)
            ∙ sym (ap (λ (x : LruCache ℕ Frame). frame_of x.entries q) is) ∙ at)
      ];
      seats_kept = ap (λ (x : LruCache ℕ Frame). residents x.entries) is ∙ seats_same b es marked (λ f. refl) ∙ l.invariant.seats_kept;
      cap = ap (λ (x : LruCache ℕ Frame). x.cap) is ∙ l.invariant.cap;
    }

-- the frame of a live block is among those that were marked
is_low : (h : ℕ) → is_vm_handle h ≡ true → h ≤ most_blocks
is_low h handle = leb-true h most_blocks (and_parts (nat_le 1 h) (nat_le h most_blocks) handle).1

pub returns-clause-valid : goal.returns-clause-valid
returns-clause-valid c = λ d valid kept.
    let l = c.loop-block in
    overlay_valid l.frames.entries d valid kept (λ h f is.
    let under = block_by (get d.blocks h) (kept.each h f is).live in
    let high = is_low h (valid.blocks h under.0 under.1).handle in
    l.invariant.valid h f (omega (arith, high)) is)

pub returns-clause-kept : goal.returns-clause-kept
returns-clause-kept c = λ honest d handles kept.
    let l = c.loop-block in
    record {
      each = λ h f is.
          let was = (l.invariant.kept false d kept).each h f is in
          let high = is_low h (handles h was.live) in
          record {
            live = was.live;
            few = was.few;
            kind = was.kind;
            clean = λ so same. let set : f.changed ≡ true = l.invariant.marked h f (omega (arith, high)) is in absurd (cc (set, same));
          };
    }
