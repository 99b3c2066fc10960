use Rattle.std.proofs.Common.{◌≡◌, ℕ, ◌+◌, ◌-◌, ◌*◌, List, length, sym, subst, ap, ◌∙◌, arith}
use Rattle.vm_store.specs.Facts.{Holds}
use Rattle.document_file.proofs.RawReadLemmas.{length_lent, whole_body}
use Rattle.document_file.proofs.table.read_behind_kind.Goals as goal

pub returns-clause-size : goal.returns-clause-size
returns-clause-size g c =
    let n = c.args.extent.length - 1 in
    let size : length c.read_at.new.buffer ≡ n = omega (arith, length_lent n _ _ c.front-body.ensures.long c.slice_mut.ensures.value) in
    ap (λ (bytes : List ℕ). length bytes + 1) (whole_body n _ c.read_at.new.buffer c.front-body.ensures.long size) ∙ omega (arith, size, c.requires.0)

pub returns-clause-held : goal.returns-clause-held
returns-clause-held g c = λ honest.
    let n = c.args.extent.length - 1 in
    let size : length c.read_at.new.buffer ≡ n = omega (arith, length_lent n _ _ c.front-body.ensures.long c.slice_mut.ensures.value) in
    let a = g.S.Store.facts c.args.store.now in
    subst (λ (bytes : List ℕ). Holds a.content (512 * c.args.extent.page + 1) bytes) (sym (whole_body n _ c.read_at.new.buffer c.front-body.ensures.long size))
    (subst (λ (at : ℕ). Holds a.content at c.read_at.new.buffer) (ap (λ (k : ℕ). k + 1) c.start_of.ensures) (c.in_ok-read_at.ensures.bytes honest))
