use Rattle.std.proofs.Common.{◌≡◌, ℕ, ◌+◌, ◌-◌, arith, sym, subst, length, take, drop}
use Rattle.host_store.proofs.Tries.{IsWriting, IsRest-slice, writes_on, carried, told_interrupted, part_interrupted}
use Rattle.host_store.proofs.host.write_whole.Goals.{in-Ok, in-Err-Interrupted}
use Rattle.host_store.proofs.host.write_whole.Goals as goal

pub returns-in-Ok-eq0-2-clause-writes : goal.returns-in-Ok-eq0-2-clause-writes
returns-in-Ok-eq0-2-clause-writes g c =
    let facts = g.F.SystemFile.facts in let l = c.loop-tried in let bytes = c.args.bytes.now in
    writes_on c.args.at l.tried l.done bytes (take (length bytes - l.done) (drop l.done bytes)) (facts c.args.file.now) (facts l.file) (facts c.write_at.new.self) (IsRest-slice l.done bytes l.invariant.room) l.invariant c.in-Ok-eq0.ensures.writes

pub loop-tried-preserved : goal.loop-tried-preserved
loop-tried-preserved g c =
    let facts = g.F.SystemFile.facts in let l = c.loop-tried in let bytes = c.args.bytes.now in
    let rest = take (length bytes - l.done) (drop l.done bytes) in
    let is = IsRest-slice l.done bytes l.invariant.room in
    let Done : ℕ → Type 0 = λ n. IsWriting c.args.at (l.tried + 1) n bytes (facts c.args.file.now) (facts c.write_at.new.self) in
    elim c.match-write_at.branch [
      | in-Ok w ↦
          let e = w.in-Ok.ensures in
          subst Done (sym w.done-is) (carried c.args.at l.tried l.done w.in-Ok.n bytes rest (facts c.args.file.now) (facts l.file) (facts c.write_at.new.self) is e.room l.invariant e.honest (λ honest. record {
            writes = e.writes honest;
            begins = (e.part honest).begins;
            failures = (e.told honest).0;
            interruptions = omega (arith, (e.told honest).1, (e.part honest).some (omega (arith, is.size)));
          }))
      | in-Err-Interrupted w ↦
          let i = w.in-Err-Interrupted in let e = i.ensures in
          let before = facts l.file in let after = facts c.write_at.new.self in
          let none : l.done + 0 ≡ c.match-write_at.done = omega arith in
          subst Done none (carried c.args.at l.tried l.done 0 bytes rest (facts c.args.file.now) before after is (omega arith) l.invariant e.honest (λ honest.
          let told = told_interrupted i.field-0 before after i.field-0-is (e.told honest) in
          record {
            writes = e.writes honest;
            begins = part_interrupted i.field-0 (c.args.at + l.done) rest before.store.content after.store.content i.field-0-is (e.part honest);
            failures = told.0;
            interruptions = omega (arith, told.1);
          }))
    ]
