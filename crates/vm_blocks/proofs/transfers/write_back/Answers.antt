use Rattle.std.proofs.Common.{◌≡◌, ℕ, List, false, cond, Some, nat_eq, refl, ap, sym, subst, ◌∙◌, eq-eqb}
use Rattle.std.proofs.lemmas.Bool.{ne_eqb}
use Rattle.std.specs.Option.{option_map, option_map_or}
use Rattle.geos_model.specs.Document.{is_heap_body, with_body}
use Rattle.document_file.specs.Disk.{SameUnlessCorrupt}
use Rattle.std.specs.Map.{set_value}
use Rattle.lru.specs.LruCache.{LruCache}
use Rattle.vm_blocks.specs.Bodies.{body_value}
use Rattle.vm_blocks.specs.Frames.{frame_of, residents, with_frame}
use Rattle.vm_blocks.specs.declared.body.BlockBody.{BlockBody}
use Rattle.vm_blocks.specs.declared.frame.Frame.{Frame}
use Rattle.vm_blocks.proofs.OrderOfUse.{seats_kept}
use Rattle.vm_blocks.proofs.CallAfterCall.{moves_drift, moves_none, kept_passes}
use Rattle.vm_blocks.proofs.DocumentUnderFrames.{written, written_kept, held-with_frame}
use Rattle.vm_blocks.proofs.transfers.write_back.Goals as goal

pub put_body-requires-clause-live : goal.put_body-requires-clause-live
put_body-requires-clause-live g c = let b = c.in-Some.ensures in (c.requires.kept.each c.args.block.0 b.frame b.here).live

pub put_body-requires-clause-kind : goal.put_body-requires-clause-kind
put_body-requires-clause-kind g c =
    let b = c.in-Some.ensures in
    ap (λ (x : BlockBody). is_heap_body (body_value x)) (sym b.same) ∙ (c.requires.kept.each c.args.block.0 b.frame b.here).kind

pub returns-in-None-clause-moves : goal.returns-in-None-clause-moves
returns-in-None-clause-moves g c = moves_none g.S.Store.facts c.args.file.now c.args.frames.now.entries c.requires.kept

pub returns-in_err-put_body-in-Some-clause-moves : goal.returns-in_err-put_body-in-Some-clause-moves
returns-in_err-put_body-in-Some-clause-moves g c =
    let keeps = c.in_err-put_body-in-Some.ensures.keeps in
    moves_drift g.S.Store.facts c.args.file.now c.put_body.new.file c.args.frames.now.entries c.requires.kept keeps.passes keeps.document

now_held : (es : List (ℕ × Frame)) (h : ℕ) (f : Frame) (c : LruCache ℕ Frame) (cap : ℕ) → frame_of es h ≡ Some f → c ≡ record { entries = with_frame es h (λ f. record f { changed = false }); cap = cap }
    → (q : ℕ) → frame_of c.entries q ≡ cond (nat_eq h q) (Some (record f { changed = false })) (frame_of es q)
now_held es h f c cap here is q = ap (λ (x : LruCache ℕ Frame). frame_of x.entries q) is ∙ held-with_frame es h (λ f. record f { changed = false }) q ∙ ap (λ o. cond (nat_eq h q) (option_map (λ (f : Frame). record f { changed = false }) o) (frame_of es q)) here

pub returns-in_ok-put_body-in-Some-clause-moves : goal.returns-in_ok-put_body-in-Some-clause-moves
returns-in_ok-put_body-in-Some-clause-moves g c =
    let facts = g.S.Store.facts in
    let honest = (facts c.args.file.now.disk.store).honest in
    let es = c.args.frames.now.entries in
    let d = c.args.file.now.document in
    let h = c.args.block.0 in
    let b = c.in-Some.ensures in
    let e = c.put_body.new.file.document in
    let f = b.frame in
    let unless_corrupt : SameUnlessCorrupt honest (with_body d h (body_value f.body)) e = subst (λ (x : BlockBody). SameUnlessCorrupt honest (with_body d h (body_value x)) e) (sym b.same) c.in_ok-put_body-in-Some.ensures.keeps.document in
    let now = now_held es h f c.mark.new.frames c.args.frames.now.cap b.here c.mark.ensures in
    record {
      passes = c.in_ok-put_body-in-Some.ensures.keeps.passes;
      unless_corrupt = written honest es d h f (record f { changed = false }) c.mark.new.frames.entries e c.requires.kept b.here refl refl now unless_corrupt;
      kept = kept_passes facts c.args.file.now c.put_body.new.file c.mark.new.frames.entries c.in_ok-put_body-in-Some.ensures.keeps.passes (written_kept honest es d h f (record f { changed = false }) c.mark.new.frames.entries e c.requires.kept b.here refl refl now unless_corrupt);
    }

pub returns-in_ok-put_body-in-Some-clause-residents : goal.returns-in_ok-put_body-in-Some-clause-residents
returns-in_ok-put_body-in-Some-clause-residents g c =
    let es = c.args.frames.now.entries in
    let h = c.args.block.0 in
    let b = c.in-Some.ensures in
    let f = b.frame in
    let at : with_frame es h (λ f. record f { changed = false }) ≡ set_value (nat_eq h) es (record f { changed = false }) = ap (λ o. option_map_or (λ (f : Frame). set_value (nat_eq h) es (record f { changed = false })) o es) b.here in
    ap (λ (x : LruCache ℕ Frame). residents x.entries) c.mark.ensures ∙ ap residents at ∙ seats_kept h es f (record f { changed = false }) b.here refl

pub returns-in_ok-put_body-in-Some-clause-clean : goal.returns-in_ok-put_body-in-Some-clause-clean
returns-in_ok-put_body-in-Some-clause-clean g c =
    let es = c.args.frames.now.entries in
    let h = c.args.block.0 in
    let b = c.in-Some.ensures in
    let f = b.frame in
    let now = now_held es h f c.mark.new.frames c.args.frames.now.cap b.here c.mark.ensures in
    ap (λ o. option_map_or (λ (f : Frame). f.changed) o false) (now h ∙ ap (λ t. cond t (Some (record f { changed = false })) (frame_of es h)) (eq-eqb h h refl))

pub returns-in_ok-put_body-in-Some-clause-others : goal.returns-in_ok-put_body-in-Some-clause-others
returns-in_ok-put_body-in-Some-clause-others g c = λ q other.
    let es = c.args.frames.now.entries in
    let h = c.args.block.0 in
    let b = c.in-Some.ensures in
    let f = b.frame in
    let now = now_held es h f c.mark.new.frames c.args.frames.now.cap b.here c.mark.ensures in
    ap (λ o. option_map_or (λ (f : Frame). f.changed) o false) (now q ∙ ap (λ t. cond t (Some (record f { changed = false })) (frame_of es q)) (ne_eqb h q (λ is. other (sym is))))
