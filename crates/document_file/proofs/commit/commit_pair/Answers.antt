use Rattle.std.proofs.Common.{arith}
use Rattle.std.proofs.lemmas.Result.{err_from_is_err_and}
use Rattle.document_file.proofs.CommitLemmas.{IsCommit, pair_there, told_rise, ok_commits, ok_sound, ok_live, err_commits, err_sound, err_live}
use Rattle.geos_model.specs.declared.fault.Fault.TheVariants.{File}
use Rattle.document_file.proofs.TurnedLemmas.{counting_kept}
use Rattle.document_file.proofs.commit.commit_pair.Given.{Over}
use Rattle.document_file.proofs.commit.commit_pair.Goals.{After-commit_slots}
use Rattle.document_file.proofs.commit.commit_pair.Goals as goal

called : (g : Over) (c : After-commit_slots g) → IsCommit g.S.Store.facts c.args.store.now c.commit_slots.new.store c.args.live.now c.args.slots.now c.commit_slots.new.slots c.args.pair
called g c = record {
  formed = c.requires.formed;
  range = (let below = c.requires.sequence in omega (arith, below));
  tables = c.requires.tables;
  placed = c.requires.placed;
  whole = c.requires.whole;
  stored = c.requires.stored;
  honest = c.commit_slots.ensures.honest;
  failures = told_rise c.commit_slots.result (g.S.Store.facts c.args.store.now) (g.S.Store.facts c.commit_slots.new.store) c.commit_slots.ensures.failures;
  now_there = λ so. (g.met.S.Store.timely c.commit_slots.new.store so).now;
  elsewhere = c.commit_slots.ensures.elsewhere;
  crash = λ so was there. c.commit_slots.ensures.crash (g.S.Store.facts c.args.store.now).content so was there;
  leaves = λ so was there. c.commit_slots.ensures.leaves (g.S.Store.facts c.args.store.now).content so was there;
}

pub returns-clause-commits : goal.returns-clause-commits
returns-clause-commits g c = ok_commits g.S.Store.facts _ _ c.args.live.now c.args.slots.now c.commit_slots.new.slots c.args.pair (called g (goal.at.returns-clause-commits g c).After-commit_slots) c.in_ok-commit_slots.ensures.ok

pub returns-clause-sound : goal.returns-clause-sound
returns-clause-sound g c = ok_sound g.S.Store.facts _ _ c.args.live.now c.args.slots.now c.commit_slots.new.slots c.args.pair (called g (goal.at.returns-clause-sound g c).After-commit_slots) c.in_ok-commit_slots.ensures.ok

pub returns-clause-live : goal.returns-clause-live
returns-clause-live g c = ok_live g.S.Store.facts _ _ c.args.live.now c.args.slots.now c.commit_slots.new.slots c.args.pair (called g (goal.at.returns-clause-live g c).After-commit_slots) c.in_ok-commit_slots.ensures.ok

pub returns-in_err-commit_slots-clause-commits : goal.returns-in_err-commit_slots-clause-commits
returns-in_err-commit_slots-clause-commits g c =
    let p = err_from_is_err_and c.from_residual.result c.from_residual.ensures.1 in
    rw (p.1, p.2) (err_commits g.S.Store.facts _ _ c.args.live.now c.args.slots.now c.commit_slots.new.slots c.args.pair (called g (goal.at.returns-in_err-commit_slots-clause-commits g c).After-commit_slots) c.in_err-commit_slots.ensures.err c.in_err-commit_slots.ensures.early File)

pub returns-in_err-commit_slots-clause-sound : goal.returns-in_err-commit_slots-clause-sound
returns-in_err-commit_slots-clause-sound g c = err_sound g.S.Store.facts _ _ c.args.live.now c.args.slots.now c.commit_slots.new.slots c.args.pair (called g (goal.at.returns-in_err-commit_slots-clause-sound g c).After-commit_slots) c.in_err-commit_slots.ensures.err

pub returns-in_err-commit_slots-clause-live : goal.returns-in_err-commit_slots-clause-live
returns-in_err-commit_slots-clause-live g c = err_live g.S.Store.facts _ _ c.args.live.now c.args.slots.now c.commit_slots.new.slots c.args.pair (called g (goal.at.returns-in_err-commit_slots-clause-live g c).After-commit_slots) c.in_err-commit_slots.ensures.err

pub returns-clause-kept : goal.returns-clause-kept
returns-clause-kept g c same so =
    let whole = c.requires.whole so in
    let there = pair_there g.S.Store.facts _ _ c.args.live.now c.args.slots.now c.commit_slots.new.slots c.args.pair (called g (goal.at.returns-clause-kept g c).After-commit_slots) so in
    counting_kept (g.S.Store.facts c.args.store.now) (g.S.Store.facts c.commit_slots.new.store) c.args.live.now c.args.slots.now c.args.pair c.requires.formed whole
    (c.in_ok-commit_slots.ensures.still (g.S.Store.facts c.args.store.now).content so same whole.leaves there)
