use Rattle.std.proofs.Common.{◌≡◌, Some, refl, sym, ap, ◌∙◌}
use Rattle.std.specs.Option.{option_map}
use Rattle.geos_model.specs.ElementArray.{element_at}
use Rattle.element_arrays.specs.Used.{used_element}
use Rattle.name_arrays.specs.Reading.{named_array}
use Rattle.name_arrays.proofs.NamingLemmas.{has_part, name_at}
use Rattle.name_arrays.proofs.names.Names.name.Goals as goal

pub split_at-requires : goal.split_at-requires
split_at-requires c =
    let at : element_at c.args.self.now.slots.slots c.args.token.0 ≡ Some (used_element c.in_ok-used.used) = sym c.element.ensures ∙ ap (option_map used_element) c.in_ok-used.ensures.ok_part in
    has_part (named_array c.args.self.now.slots c.args.self.now.part) c.args.self.now.sound c.args.token.0 (used_element c.in_ok-used.used) at

pub returns : goal.returns
returns c =
    let at : element_at c.args.self.now.slots.slots c.args.token.0 ≡ Some (used_element c.in_ok-used.used) = sym c.element.ensures ∙ ap (option_map used_element) c.in_ok-used.ensures.ok_part in
    name_at (named_array c.args.self.now.slots c.args.self.now.part) c.args.self.now.sound c.args.token.0 (used_element c.in_ok-used.used) at _ refl c.split_at.ensures.front c.split_at.ensures.back
