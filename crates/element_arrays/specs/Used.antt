-- What callers see of a used element.
use Rattle.geos_model.specs.ElementArray.{Element}
use Rattle.element_arrays.specs.declared.slot_view.Used.{Used}

abbrev pub used_element : Used → Element
used_element u = record { count = u.count; bytes = u.bytes.now }
