use Rattle.std.proofs.Common.{refl}
use Rattle.file_format.specs.Listed.{as_directory}
use Rattle.file_format.proofs.StoredDirectoryLemmas.{directory_formed, place_none}
use Rattle.file_format.proofs.stored_directory.look_for_directory.Goals as goal

pub returns-then-not-can_have_directory-clause-read : goal.returns-then-not-can_have_directory-clause-read
returns-then-not-can_have_directory-clause-read g c so =
    place_none c.args.version _ c.args.file_length c.args.sum c.args.extent (c.requires so) (λ place. let wrong = c.if-not-can_have_directory.ensures.1 place in absurd (cc wrong))

pub returns-in-Ok-clause-formed : goal.returns-in-Ok-clause-formed
returns-in-Ok-clause-formed g c = (
  directory_formed c.args.version c.args.file_length c.deref-2.result.now
      (as_directory c.in-Ok.directory) c.in-Ok.ensures.read,
  c.if-not-can_have_directory.ensures.0 refl,
)
