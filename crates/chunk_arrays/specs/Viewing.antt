-- What a view keeps of the bytes of an array.
use Rattle.std.specs.Prelude.{◌≡◌}
use Rattle.geos_model.specs.Words.{word_at}
use Rattle.chunk_arrays.specs.Parts.{HasParts}
use Rattle.chunk_arrays.specs.declared.view.View.TheInside.{Inside}

pub record IsView (v : Inside) : Type 0 where
  pub parts : HasParts v.bytes.now
  pub count : v.count ≡ word_at v.bytes.now 0
  pub size : v.size ≡ word_at v.bytes.now 2
  pub start : v.start ≡ word_at v.bytes.now 6
