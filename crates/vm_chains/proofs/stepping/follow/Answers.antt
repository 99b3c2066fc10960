use Rattle.std.proofs.Common.{◌∙◌, sym, inl}
use Rattle.geos_model.specs.declared.fault.Fault.TheVariants.{Memory}
use Rattle.vm_blocks.proofs.KeepingLaws.{keeps-refl, lacks-memory}
use Rattle.vm_chains.proofs.Loading.{carried, load_lacks}
use Rattle.vm_chains.proofs.stepping.follow.Goals as goal

pub returns-then-not-is_live-clause-keeps : goal.returns-then-not-is_live-clause-keeps
returns-then-not-is_live-clause-keeps g c = keeps-refl g.S.Store.facts c.args.blocks.now

pub returns-in_err-load-clause-value : goal.returns-in_err-load-clause-value
returns-in_err-load-clause-value g c =
    carried c.from_residual.result c.in_err-load.field-0.0 _ _ c.from_residual.ensures.1
    (inl (load_lacks g.S.Store.facts c.args.blocks.now c.load.new.self c.load.ensures.keeps c.args.handle.0 c.in_err-load.field-0.0 c.requires.room (sym c.is_live.ensures ∙ c.if-not-is_live.false) c.in_err-load.ensures.err))

pub returns-in_err-push_links-in-Some-clause-value : goal.returns-in_err-push_links-in-Some-clause-value
returns-in_err-push_links-in-Some-clause-value g c =
    carried c.from_residual-in_err-push_links-in-Some.result Memory _ _ c.from_residual-in_err-push_links-in-Some.ensures.1 (inl (lacks-memory g.S.Store.facts c.args.blocks.now.disk.store c.load.new.self.disk.store))
