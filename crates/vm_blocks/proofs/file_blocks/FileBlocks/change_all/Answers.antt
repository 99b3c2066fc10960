use Rattle.std.proofs.Common.{inl, subst, ◌∙◌}
use Rattle.std.specs.Prelude.{Result, Ok, Err, IfErr, OnErr, OnOk}
use Rattle.geos_model.specs.declared.fault.Fault.{Fault}
use Rattle.vm_blocks.specs.Changes.{directed_all}
use Rattle.vm_blocks.specs.Incoming.{IsObstacle}
use Rattle.vm_blocks.proofs.ChangingAll.{keeps_unmarked}
use Rattle.vm_blocks.proofs.ChangingInMemory.{applied_since, cant_since, listed_then}
use Rattle.vm_blocks.proofs.KeepingLaws.{keeps-locks, keeps-trans}
use Rattle.vm_blocks.proofs.file_blocks.FileBlocks.change_all.Goals as goal

-- they are refused in memory

pub returns-in-Err-Fault-clause-refusals : goal.returns-in-Err-Fault-clause-refusals
returns-in-Err-Fault-clause-refusals g c =
    inl (subst (IsObstacle g.S.Store.facts c.args.self.now.disk.store c.change_in_memory.new.blocks.disk.store) c.in-Err-Fault.field-0-is c.in-Err-Fault.ensures.refusals)

pub returns-in-Err-Fault-clause-sure : goal.returns-in-Err-Fault-clause-sure
returns-in-Err-Fault-clause-sure g c = λ none here applies. absurd (cc (c.in-Err-Fault.ensures.sure none here applies).0)

-- they are carried out in the file

pub change_marked-requires-clause-unmarked : goal.change_marked-requires-clause-unmarked
change_marked-requires-clause-unmarked g c =
    keeps_unmarked g.S.Store.facts c.args.self.now c.change_in_memory.new.blocks c.in-Err-NotInMemory.ensures.err c.requires.unmarked

pub change_marked-requires-clause-listed : goal.change_marked-requires-clause-listed
change_marked-requires-clause-listed g c =
    listed_then g.S.Store.facts (directed_all c.args.direction c.args.changes.now) c.args.self.now c.change_in_memory.new.blocks c.in-Err-NotInMemory.ensures.err c.requires.listed

pub change_marked-requires-clause-unlocked : goal.change_marked-requires-clause-unlocked
change_marked-requires-clause-unlocked g c =
    (keeps-locks g.S.Store.facts c.args.self.now c.change_in_memory.new.blocks c.in-Err-NotInMemory.ensures.err).count ∙ c.requires.unlocked

pub returns-in-Err-NotInMemory-clause-ok : goal.returns-in-Err-NotInMemory-clause-ok
returns-in-Err-NotInMemory-clause-ok g c =
    on_ok c.change_marked.result (applied_since g.S.Store.facts (directed_all c.args.direction c.args.changes.now) c.args.self.now c.change_in_memory.new.blocks c.in-Err-NotInMemory.ensures.err c.change_marked.new.self)
    c.change_marked.ensures.ok
  where
    on_ok : {P Q : Type 0} (r : Result (Unit {0}) Fault) → (P → Q) → OnOk r P → OnOk r Q
    on_ok (Ok done) f p = f p
    on_ok (Err fault) f p = tt

pub returns-in-Err-NotInMemory-clause-err : goal.returns-in-Err-NotInMemory-clause-err
returns-in-Err-NotInMemory-clause-err g c =
    on_err c.change_marked.result (keeps-trans g.S.Store.facts c.args.self.now c.change_in_memory.new.blocks c.change_marked.new.self c.in-Err-NotInMemory.ensures.err)
    c.change_marked.ensures.err
  where
    on_err : {P Q : Type 0} (r : Result (Unit {0}) Fault) → (P → Q) → OnErr r P → OnErr r Q
    on_err (Ok done) f p = tt
    on_err (Err fault) f p = f p

pub returns-in-Err-NotInMemory-clause-refusals : goal.returns-in-Err-NotInMemory-clause-refusals
returns-in-Err-NotInMemory-clause-refusals g c =
    if_err c.change_marked.result
    (cant_since g.S.Store.facts (directed_all c.args.direction c.args.changes.now) c.args.self.now c.change_in_memory.new.blocks c.in-Err-NotInMemory.ensures.err c.change_marked.new.self)
    c.change_marked.ensures.refusals
  where
    if_err : {P Q : Fault → Type 0} (r : Result (Unit {0}) Fault) → ((fault : Fault) → P fault → Q fault) → IfErr r P → IfErr r Q
    if_err (Ok done) f p = tt
    if_err (Err fault) f p = f fault p

pub returns-in-Err-NotInMemory-clause-sure : goal.returns-in-Err-NotInMemory-clause-sure
returns-in-Err-NotInMemory-clause-sure g c = λ none here applies. absurd (cc (c.in-Err-NotInMemory.ensures.sure none here applies).0)
