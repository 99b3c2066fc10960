use Rattle.std.proofs.Common.{refl}
use Rattle.host_store.proofs.host.open_named.Goals as goal
use Rattle.host_store.proofs.host.open_named.Goals.{then-make+in_ok-sync_folder, else-make}

-- The name is synced where the file may have been made.
pub returns-clause-ok : goal.returns-clause-ok
returns-clause-ok g c =
    elim c.if-make.branch [
      | then-make+in_ok-sync_folder w ↦ rw w.system-is (c.open_file.new.system, c.in_ok-handle.ensures.ok, rw w.if-make.true w.in_ok-sync_folder.ensures.ok)
      | else-make w ↦ rw w.system-is (c.open_file.new.system, c.in_ok-handle.ensures.ok, rw w.if-make.false refl)
    ]
