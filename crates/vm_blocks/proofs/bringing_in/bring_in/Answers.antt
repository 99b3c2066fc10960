use Rattle.std.proofs.Common.{◌≡◌, ℕ, List, true, refl, sym, subst, ◌∙◌}
use Rattle.std.specs.Prelude.{OnOk}
use Rattle.std.specs.List.{All}
use Rattle.geos_model.specs.ElementArray.{all_distinct}
use Rattle.geos_model.specs.Document.{Block, handles_of, is_vm_handle}
use Rattle.vm_blocks.specs.Incoming.{IsBroughtIn}
use Rattle.vm_blocks.proofs.BringingIn.{brought_none}
use Rattle.vm_blocks.proofs.Reversing.{stays_refl}
use Rattle.vm_blocks.proofs.bringing_in.bring_in.Goals as goal

pub put_in_free-requires-clause-handles : goal.put_in_free-requires-clause-handles
put_in_free-requires-clause-handles g c = subst (λ (ps : List (ℕ × Block)). All (λ h. is_vm_handle h ≡ true) (handles_of ps)) c.in-Some.ensures c.requires.handles

pub put_in_free-requires-clause-distinct : goal.put_in_free-requires-clause-distinct
put_in_free-requires-clause-distinct g c = subst (λ (ps : List (ℕ × Block)). all_distinct (handles_of ps) ≡ true) c.in-Some.ensures c.requires.distinct

pub returns-in-Some-clause-ok : goal.returns-in-Some-clause-ok
returns-in-Some-clause-ok g c =
    subst (λ (ps : List (ℕ × Block)). OnOk c.put_in_free.result (IsBroughtIn g.S.Store.facts ps c.args.blocks.now c.put_in_free.new.blocks)) (sym c.in-Some.ensures) c.put_in_free.ensures.ok

pub returns-in-Some-clause-sure : goal.returns-in-Some-clause-sure
returns-in-Some-clause-sure g c = λ none. c.put_in_free.ensures.sure (sym c.in-Some.ensures ∙ none)

pub returns-in-None-clause-ok : goal.returns-in-None-clause-ok
returns-in-None-clause-ok g c =
    subst (λ (ps : List (ℕ × Block)). IsBroughtIn g.S.Store.facts ps c.args.blocks.now c.args.blocks.now) (sym c.in-None.ensures) (brought_none g.S.Store.facts c.args.blocks.now)

pub returns-in-None-clause-sure : goal.returns-in-None-clause-sure
returns-in-None-clause-sure g c = λ none. (refl, stays_refl c.args.blocks.now)
