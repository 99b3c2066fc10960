use Rattle.std.proofs.Common.{◌≡◌, ◌≤◌, ℕ, true, map, IsTrue, sym, ap, subst, ◌∙◌}
use Rattle.geos_model.specs.Document.{IsValid, is_live}
use Rattle.geos_model.specs.ElementArray.{all_distinct}
use Rattle.document_file.specs.Disk.{IsFileDocument, IsCrashConsistent}
use Rattle.vm_blocks.specs.State.{CacheState, is_resident, locks_of}
use Rattle.vm_blocks.proofs.Locks.{seats_apart, few_locks}
use Rattle.vm_blocks.specs.Frames.{overlay}
use Rattle.vm_blocks.proofs.DocumentUnderFrames.{listed_under}
use Rattle.vm_blocks.proofs.StateValidity.{listed_valid, seen_live}
use Rattle.vm_blocks.proofs.file_blocks.FileBlocks.reveal_invariant.Goals as goal

pub returns-clause-crash_consistent : goal.returns-clause-crash_consistent
returns-clause-crash_consistent g c = subst (λ (s : CacheState g.row.S.Denot). IsCrashConsistent g.S.Store.facts s.disk) c.self.view_is c.reveal_invariant.ensures.crash_consistent

pub returns-clause-document : goal.returns-clause-document
returns-clause-document g c = subst (λ (s : CacheState g.row.S.Denot). IsTrue (g.S.Store.facts s.disk.store).honest → IsValid s.document) c.self.view_is c.self.invariant.0.state.valid

pub returns-clause-some : goal.returns-clause-some
returns-clause-some g c = subst (λ (s : CacheState g.row.S.Denot). 1 ≤ s.frames) c.self.view_is c.self.invariant.0.state.room

pub returns-clause-valid : goal.returns-clause-valid
returns-clause-valid g c =
    subst (λ (s : CacheState g.row.S.Denot). IsTrue (g.S.Store.facts s.disk.store).honest → IsValid s.disk.updated × IsValid s.disk.saved) c.self.view_is c.reveal_invariant.ensures.valid

pub returns-clause-listed : goal.returns-clause-listed
returns-clause-listed g c =
    let honest = (g.S.Store.facts c.self.inside.file.disk.store).honest in
    let es = c.self.inside.frames.entries in
    let d = c.self.inside.file.document in
    subst (λ (s : CacheState g.row.S.Denot). IsFileDocument (g.S.Store.facts s.disk.store).honest s.document) c.self.view_is
    (listed_valid honest (overlay es d) (listed_under honest es d c.self.invariant.0.kept c.reveal_invariant.ensures.document) c.self.invariant.0.state.valid)

pub returns-clause-resident : goal.returns-clause-resident
returns-clause-resident g c =
    let honest = (g.S.Store.facts c.self.inside.file.disk.store).honest in
    subst (λ (s : CacheState g.row.S.Denot). (h : ℕ) → is_resident s.resident h ≡ true → is_live s.document h ≡ true) c.self.view_is
    (seen_live honest c.self.inside.frames.entries c.self.inside.file.document c.self.invariant.0.kept)

pub returns-clause-distinct : goal.returns-clause-distinct
returns-clause-distinct g c =
    ap (λ (s : CacheState g.row.S.Denot). all_distinct (map (λ p. p.0) s.resident)) (sym c.self.view_is) ∙ seats_apart c.self.inside.frames.entries c.len-count.ensures.valid.0

pub returns-clause-counts : goal.returns-clause-counts
returns-clause-counts g c = λ h.
    let file = c.self.inside.file in
    subst (λ (s : CacheState g.row.S.Denot). locks_of s.resident h ≤ 255) c.self.view_is (few_locks (g.S.Store.facts file.disk.store).honest file.document c.self.inside.frames.entries c.self.invariant.0.kept h)
