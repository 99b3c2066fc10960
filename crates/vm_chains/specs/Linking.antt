-- The links that are found in a body.
use Rattle.std.specs.Prelude.{◌≡◌, ◌≤◌, ℕ, ◌+◌, ◌*◌, List, true, length}
use Rattle.geos_model.specs.Chain.{is_linked, first_link, link_count}
use Rattle.vm_chains.specs.declared.links.Links.{Links}

-- The links of a body that a block of a chain can have: each lies within it.
pub record AreLinks (bytes : List ℕ) (found : Links) : Type 0 where
  pub linked : is_linked bytes ≡ true
  pub first : found.first ≡ first_link bytes
  pub count : found.count ≡ link_count bytes
  pub within : found.first + 4 * found.count ≤ length bytes + 2
