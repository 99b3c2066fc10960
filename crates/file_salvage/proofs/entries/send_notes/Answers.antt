use Rattle.std.proofs.Common.{◌≡◌, ◌<◌, ℕ, Bool, false, List, Option, None, length, ap₂, subst, sym, ◌∙◌, arith}
use Rattle.std.proofs.KnownBytes.{Appends-nil, Appends-trans}
use Rattle.std.proofs.lemmas.List.{get_or_default}
use Rattle.std.specs.Io.KnownBytes.{Appends}
use Rattle.file_format.specs.declared.file.Entry.{Entry}
use Rattle.file_salvage.specs.Entries.{flaw_beside, note_at, note_of, notes}
use Rattle.file_salvage.specs.declared.flaw.Flaw.{Flaw}
use Rattle.file_salvage.proofs.EntryLemmas.{notes_more, notes_none}
use Rattle.file_salvage.proofs.entries.send_notes.Goals as goal

pub loop-i-init : goal.loop-i-init
loop-i-init g c =
    let from = g.W.Write.contents c.args.writer.now in
    subst (λ (l : List ℕ). Appends from from l) (sym (notes_none c.args.bytes.now c.args.damages.now c.args.row.now)) (Appends-nil from)

pub loop-i-preserved : goal.loop-i-preserved
loop-i-preserved g c =
    let bytes = c.args.bytes.now in
    let damages = c.args.damages.now in
    let row = c.args.row.now in
    let i = c.loop-i.i in
    let from = g.W.Write.contents c.args.writer.now in
    let mid = g.W.Write.contents c.loop-i.writer in
    let to = g.W.Write.contents c.send_note.new.writer in
    let below : i < length damages = omega arith in
    let count = c.in_ok-marks.ensures.count in
    let marked = c.index.ensures ∙ get_or_default c.in_ok-marks.marks.items i _ false (omega (arith, below, count)) ∙ c.in_ok-marks.ensures.marks i below in
    let note : note_of c.entry_at.result.handle.0 c.flaw_beside-flaw.result ≡ note_at bytes damages row i =
    ap₂ (λ (e : Entry) (f : Option Flaw). note_of e.handle.0 f) c.entry_at.ensures
    (c.flaw_beside-flaw.ensures ∙ ap₂ (λ (is : Bool) (d : Option Flaw). flaw_beside is d) marked (get_or_default damages i _ None below)) in
    let now = subst (λ (l : List ℕ). Appends mid to l) note c.in_ok-send_note.ensures.ok in
    subst (λ (l : List ℕ). Appends from to l) (sym (notes_more bytes damages row i)) (Appends-trans from mid to (notes bytes damages row i) (note_at bytes damages row i) c.loop-i.invariant now)

pub returns-clause-ok : goal.returns-clause-ok
returns-clause-ok g c =
    let end : c.loop-i.i ≡ length c.args.damages.now = omega arith in
    subst (λ (n : ℕ). Appends (g.W.Write.contents c.args.writer.now) (g.W.Write.contents c.loop-i.writer) (notes c.args.bytes.now c.args.damages.now c.args.row.now n)) end c.loop-i.invariant
