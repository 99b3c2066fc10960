use Rattle.std.proofs.Common.{sym, subst, inr}
use Rattle.vm_blocks.specs.Keeping.{KeepsBlocks, IsEnvironmentFault}
use Rattle.vm_blocks.specs.State.{CacheState}
use Rattle.vm_chains.proofs.Loading.{carried, carried_so, refused_later}
use Rattle.large_arrays.proofs.LoadedBlocks.{root-loaded, root-missed, root-refused, root-tested}
use Rattle.large_arrays.proofs.loading.load_root.Goals as goal

pub returns-in_err-load_raw-clause-value : goal.returns-in_err-load_raw-clause-value
returns-in_err-load_raw-clause-value g c =
    carried c.from_residual.result c.in_err-load_raw.field-0.0 _ _ c.from_residual.ensures.1
    (root-missed g.S.Store.facts c.args.blocks.now c.load_raw.new.self c.load_raw.ensures.keeps c.args.root.0 c.requires.room c.in_err-load_raw.field-0.0 c.in_err-load_raw.ensures.err)

pub returns-in_err-load_raw-clause-refusals : goal.returns-in_err-load_raw-clause-refusals
returns-in_err-load_raw-clause-refusals g c =
    carried_so c.from_residual.result c.in_err-load_raw.field-0.0 _ c.from_residual.ensures.1
    (root-refused g.S.Store.facts c.args.blocks.now c.load_raw.new.self c.load_raw.ensures.keeps c.args.root.0 c.requires.room c.in_err-load_raw.field-0.0 c.in_err-load_raw.ensures.err)

pub returns-then-is_known_root-clause-value : goal.returns-then-is_known_root-clause-value
returns-then-is_known_root-clause-value g c =
    let there = c.in_ok-load_raw.ensures.ok in
    root-loaded c.load_raw.new.self c.args.root.0 (record { loaded = there.0; raw = there.1 }) (c.is_known_root.ensures c.if-is_known_root.true)

pub returns-clause-keeps : goal.returns-clause-keeps
returns-clause-keeps g c =
    subst (λ (s : CacheState g.row.S.Denot). KeepsBlocks g.S.Store.facts c.args.blocks.now s) (sym c.test_loaded_root.ensures.same) c.load_raw.ensures.keeps

pub returns-clause-value : goal.returns-clause-value
returns-clause-value g c =
    let there = c.in_ok-load_raw.ensures.ok in
    root-tested (IsEnvironmentFault g.S.Store.facts c.args.blocks.now.disk.store c.test_loaded_root.new.blocks.disk.store) c.load_raw.new.self c.test_loaded_root.new.blocks c.args.root.0
    c.test_loaded_root.result (record { loaded = there.0; raw = there.1 }) c.test_loaded_root.ensures.same c.test_loaded_root.ensures.value

pub returns-clause-refusals : goal.returns-clause-refusals
returns-clause-refusals g c = refused_later c.test_loaded_root.result _ _ _ c.test_loaded_root.ensures.value (λ fault none. inr (inr none.0))
