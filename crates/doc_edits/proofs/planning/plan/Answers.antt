use Rattle.std.proofs.Common.{ap, refl, sym, subst}
use Rattle.geos_model.specs.Machine.{needs_of_scope}
use Rattle.geos_model.specs.Targets.{edit_of, new_block, setting}
use Rattle.geos_model.specs.declared.command.Edit.TheVariants as edits
use Rattle.geos_model.specs.declared.target.Target.{Target}
use Rattle.doc_edits.specs.Planning.{PlansEdit}
use Rattle.doc_edits.proofs.Planned.{plans_along, plans_bare}
use Rattle.doc_edits.proofs.Targets.{new_scope, setting_scope}
use Rattle.doc_edits.proofs.planning.plan.Goals as goal

pub returns-in-Setting : goal.returns-in-Setting
returns-in-Setting g c =
    let a = c.args.blocks.now in let r = c.plan_setting.result in let set = c.in-Setting.set in
    subst (λ (t : Target). PlansEdit g.S.Store.facts a a (edit_of t) r) (sym c.in-Setting.is) (plans_bare g.S.Store.facts (setting set) (ap needs_of_scope (setting_scope set)) a r c.plan_setting.ensures)

pub returns-in-NewBlock : goal.returns-in-NewBlock
returns-in-NewBlock g c =
    let a = c.args.blocks.now in let r = c.plan_new_block.result in let new = c.in-NewBlock.new in
    subst (λ (t : Target). PlansEdit g.S.Store.facts a a (edit_of t) r) (sym c.in-NewBlock.is) (plans_bare g.S.Store.facts (new_block new) (ap needs_of_scope (new_scope new)) a r c.plan_new_block.ensures)

pub returns-in-NewLarge : goal.returns-in-NewLarge
returns-in-NewLarge g c =
    let a = c.args.blocks.now in let r = c.plan_new_large.result in
    subst (λ (t : Target). PlansEdit g.S.Store.facts a a (edit_of t) r) (sym c.in-NewLarge.is) (plans_bare g.S.Store.facts (edits.CreateLarge c.in-NewLarge.user_id c.in-NewLarge.size) refl a r c.plan_new_large.ensures)

pub returns-in-Chain : goal.returns-in-Chain
returns-in-Chain g c =
    let a = c.args.blocks.now in let b = c.plan_chain.new.blocks in let r = c.plan_chain.result in
    subst (λ (t : Target). PlansEdit g.S.Store.facts a b (edit_of t) r) (sym c.in-Chain.is) (plans_along g.S.Store.facts a b c.in-Chain.root c.in-Chain.edit r c.plan_chain.ensures)
