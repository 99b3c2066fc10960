use Rattle.std.proofs.Common.{◌≡◌, ◌<◌, All, ℕ, List, Option, length, map, ap, ap₂, subst, sym, ◌∙◌}
use Rattle.std.proofs.lemmas.Result.{err_from_is_err_and}
use Rattle.std.specs.Io.KnownBytes.{Appends}
use Rattle.file_salvage.specs.Entries.{notes, taken_at, taken_row}
use Rattle.file_salvage.specs.declared.flaw.Flaw.{Flaw}
use Rattle.file_salvage.proofs.ScriptLemmas.{refused_by_note}
use Rattle.file_salvage.proofs.entries.take_entries.Goals as goal

pub taken_row-requires : goal.taken_row-requires
taken_row-requires g c = ap length c.as_slice.ensures.value ∙ c.in_ok-damages.ensures.count

pub send_notes-requires-clause-count : goal.send_notes-requires-clause-count
send_notes-requires-clause-count g c = ap length c.as_slice-2.ensures.value ∙ c.in_ok-damages.ensures.count

pub send_notes-requires-clause-within : goal.send_notes-requires-clause-within
send_notes-requires-clause-within g c =
    let length_is : length c.as_slice.result.now ≡ length c.as_slice-2.result.now = ap length (c.as_slice.ensures.value ∙ sym c.as_slice-2.ensures.value) in
    subst (λ (l : List ℕ). All (λ (i : ℕ). i < length c.as_slice-2.result.now) l) (sym c.as_slice-3.ensures.value) (subst (λ (n : ℕ). All (λ (i : ℕ). i < n) c.in_ok-row.row.items) length_is c.in_ok-row.ensures.within)

pub entries_at-requires-clause-count : goal.entries_at-requires-clause-count
entries_at-requires-clause-count g c = ap length c.as_slice-4.ensures.value ∙ c.in_ok-damages.ensures.count

pub entries_at-requires-clause-within : goal.entries_at-requires-clause-within
entries_at-requires-clause-within g c =
    let length_is : length c.as_slice.result.now ≡ length c.as_slice-4.result.now = ap length (c.as_slice.ensures.value ∙ sym c.as_slice-4.ensures.value) in
    subst (λ (l : List ℕ). All (λ (i : ℕ). i < length c.as_slice-4.result.now) l) (sym c.as_slice-5.ensures.value) (subst (λ (n : ℕ). All (λ (i : ℕ). i < n) c.in_ok-row.row.items) length_is c.in_ok-row.ensures.within)

pub returns-clause-entries : goal.returns-clause-entries
returns-clause-entries g c = λ so.
    let bytes = c.args.listing.bytes.now in
    let all = c.args.all in
    let first = c.as_slice.ensures.value ∙ c.in_ok-damages.ensures.damages so in
    let found = c.as_slice-4.ensures.value ∙ c.in_ok-damages.ensures.damages so in
    let row = c.as_slice-5.ensures.value ∙ c.in_ok-row.ensures.row ∙ ap (λ (d : List (Option Flaw)). taken_row all bytes d) first in
    c.in_ok-entries.ensures ∙ ap₂ (λ (d : List (Option Flaw)) (l : List ℕ). map (taken_at bytes d) l) found row

pub returns-clause-told : goal.returns-clause-told
returns-clause-told g c = λ so.
    let bytes = c.args.listing.bytes.now in
    let found = c.as_slice.ensures.value ∙ c.in_ok-damages.ensures.damages so in
    let told = c.as_slice-2.ensures.value ∙ c.in_ok-damages.ensures.damages so in
    let row = c.as_slice-3.ensures.value ∙ c.in_ok-row.ensures.row ∙ ap (λ (d : List (Option Flaw)). taken_row c.args.all bytes d) found in
    subst (λ (l : List ℕ). Appends (g.W.Write.contents c.args.writer.now) (g.W.Write.contents c.send_notes.new.writer) l)
    (ap₂ (λ (d : List (Option Flaw)) (r : List ℕ). notes bytes d r (length d)) told row) c.in_ok-send_notes.ensures.ok

pub returns-in_err-send_notes-clause-fails : goal.returns-in_err-send_notes-clause-fails
returns-in_err-send_notes-clause-fails g c =
    let p = err_from_is_err_and c.from_residual-in_err-send_notes.result c.from_residual-in_err-send_notes.ensures.1 in
    rw (p.1, p.2) (refused_by_note (g.S.Store.facts c.args.store.now) (g.S.Store.facts c.damages.new.store) _ c.in_err-send_notes.ensures.err)
