use Rattle.std.proofs.Common.{take}
use Rattle.large_arrays.specs.Spots.{link_handles}
use Rattle.large_arrays.proofs.CopiedBodies.{Copied}
use Rattle.large_arrays.proofs.bodies.copy_bodies.Given as goal

-- those so far are copied
abbrev pub invariant-loop-link : goal.invariant-loop-link
invariant-loop-link g l = Copied g.S.Store.facts l.fn.blocks l.blocks (take l.link-index (link_handles l.links)) l.bodies.items
