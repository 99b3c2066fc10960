use Rattle.geos_replies.specs.Holdings.{holding}
use Rattle.geos_shell.specs.Manners.{plain}
use Rattle.geos_shell.proofs.Runs.{exact_after}
use Rattle.geos_shell.proofs.runner.run.Goals as goal

pub returns-clause-exact : goal.returns-clause-exact
returns-clause-exact g c well exact =
    let done = c.run_in-result in
    exact_after g.S.Store.facts plain _ (holding done.new.session done.new.target done.new.former) _ _ _ _ done.result well done.ensures.runs exact
