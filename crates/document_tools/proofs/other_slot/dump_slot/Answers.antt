use Rattle.std.proofs.Common.{inl, inr}
use Rattle.document_file.specs.Opened.{OnlyReadsStore}
use Rattle.file_format.specs.Slots.{number_of, slot_stands}
use Rattle.file_format.proofs.LooksLemmas.{OnlyReadsStore-trans}
use Rattle.document_dump.specs.declared.dumping.Which.TheVariants.{Both}
use Rattle.document_tools.specs.OtherSlots.{DumpsSlot}
use Rattle.document_tools.specs.declared.obstacle.Obstacle.TheVariants.{NoOther}
use Rattle.document_tools.proofs.Looked.{dumped_stood, unlooked_at}
use Rattle.document_tools.proofs.other_slot.dump_slot.Goals as goal

-- The slot was opened, and then read for the dump, or it couldn't be opened.

pub returns-in-Ok : goal.returns-in-Ok
returns-in-Ok g c =
    let facts = g.S.Store.facts in let store = c.args.store in let from = c.in-Ok.documents in let to = c.dump_open.new.file in
    let made = c.in-Ok.ensures in
    let opened : OnlyReadsStore (facts store) (facts from.store) = record { honest = made.store.honest; failures = made.store.failures; unchanged = made.unchanged } in (
      to.store,
      OnlyReadsStore-trans (facts store) (facts from.store) (facts to.store) (λ so. g.met.S.Store.timely store so) opened c.dump_open.ensures.reads.store,
      dumped_stood facts g.W.Sink.contents g.W.Sink.writes c.args.name.now Both (λ bytes. slot_stands bytes (number_of c.args.second)) NoOther store from to c.args.writer c.dump_open.result.0 c.dump_open.result.1 opened
          made.stands c.dump_open.ensures.told,
    )

pub returns-in-Err : goal.returns-in-Err
returns-in-Err g c =
    let facts = g.S.Store.facts in let store = c.args.store in let refused = c.in-Err.refused in let none = c.in-Err.ensures in
    let slot = number_of c.args.second in (
      refused.store,
      record { honest = none.store.honest; failures = none.store.failures; unchanged = none.unchanged },
      unlooked_at (λ bytes. slot_stands bytes slot) (DumpsSlot g.W.Sink.contents g.W.Sink.writes c.args.name.now slot (facts store) (facts refused.store) c.args.writer c.args.writer) c.args.name.now (facts store) (facts refused.store)
          refused.fault (NoOther refused.fault) c.unopened.result (λ line is failed. inl (is, failed)) (λ line is so. inr (inl (refused.fault, is, so))) tt none.file none.refused c.unopened.ensures,
    )
