use Rattle.std.proofs.Common.{◌≡◌, ◌<◌, true, refl, ap, sym, subst, ◌∙◌, arith}
use Rattle.std.specs.Prelude.{Err}
use Rattle.std.proofs.lemmas.Bool.{true≢false}
use Rattle.geos_model.specs.Document.{is_live}
use Rattle.vm_blocks.specs.State.{locks_of}
use Rattle.vm_blocks.proofs.KeepingLaws.{keeps-locks, keeps-refl, loaded-live}
use Rattle.vm_blocks.proofs.Locking.{gains, limit_alone}
use Rattle.vm_blocks.proofs.file_blocks.FileBlocks.lock.Goals as goal

-- A block that isn't live.

pub returns-then-not-is_live-clause-err : goal.returns-then-not-is_live-clause-err
returns-then-not-is_live-clause-err g c = keeps-refl g.S.Store.facts c.args.self.now

pub returns-then-not-is_live-clause-already : goal.returns-then-not-is_live-clause-already
returns-then-not-is_live-clause-already g c = λ loaded few.
    absurd (true≢false (sym (loaded-live c.args.self.now c.args.handle.0 loaded) ∙ sym c.is_live.ensures ∙ c.if-not-is_live.true))

-- One that is locked as often as it can be.

pub returns-then-locks-clause-err : goal.returns-then-locks-clause-err
returns-then-locks-clause-err g c = keeps-refl g.S.Store.facts c.args.self.now

pub returns-then-locks-clause-early : goal.returns-then-locks-clause-early
returns-then-locks-clause-early g c = λ fault cant.
    let state = c.args.self.now in
    let h = c.args.handle.0 in
    let live : is_live state.document h ≡ true = sym c.is_live.ensures ∙ c.if-not-is_live.false in
    let most : locks_of state.resident h ≡ 255 = sym c.locks.ensures ∙ c.if-locks.true in
    (ap Err (sym (limit_alone state h fault live most cant)), refl)

-- Any other.

pub lock_loaded-requires-clause-few : goal.lock_loaded-requires-clause-few
lock_loaded-requires-clause-few g c =
    let h = c.args.handle.0 in
    let few : c.locks.result < 255 = let other = c.if-locks.false in omega (arith, other) in
    let same = (keeps-locks g.S.Store.facts c.args.self.now c.load_live.new.self c.load_live.ensures.keeps).each h in
    subst (λ n. n < 255) (c.locks.ensures ∙ sym same) few

pub returns-clause-ok : goal.returns-clause-ok
returns-clause-ok g c =
    gains g.S.Store.facts c.args.handle.0 c.args.self.now c.load_live.new.self c.load_live.ensures.keeps c.in_ok-load_live.ensures.ok c.lock_loaded.new.self c.lock_loaded.ensures
