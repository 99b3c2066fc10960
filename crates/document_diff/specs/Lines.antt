-- The line of a difference.
use Rattle.std.specs.Prelude.{ℕ, List, [], ◌∷◌, ◌++◌, codes}
use Rattle.std.specs.List.{flat_map}
use Rattle.geos_model.specs.Script.{line_feed}
use Rattle.geos_script.specs.Printing.{word_text}
use Rattle.geos_script.specs.declared.word.Word.{Word}
use Rattle.geos_script.specs.declared.word.Word.TheVariants.{Handle, Number}
use Rattle.document_diff.specs.declared.difference.BodySize.{BodySize}
use Rattle.document_diff.specs.declared.difference.BodySize.TheVariants as sizes
use Rattle.document_diff.specs.declared.difference.BytesChange.{BytesChange}
use Rattle.document_diff.specs.declared.difference.Difference.{Difference}
use Rattle.document_diff.specs.declared.difference.Difference.TheVariants as differences

-- a name, and each operand behind a space
abbrev pub phrase : List ℕ → List Word → List ℕ
phrase name operands = name ++ flat_map (λ w. 32 ∷ word_text w) operands

abbrev pub size_text : BodySize → List ℕ
size_text (sizes.Raw n) = phrase (codes " raw") (Number n ∷ [])
size_text (sizes.Heap n) = phrase (codes " heap") (Number n ∷ [])

-- the old size, the new one, and the first byte that differs
abbrev pub change_text : BytesChange → List ℕ
change_text change =
    phrase [] (Number change.old ∷ Number change.new ∷ []) ++ phrase (codes " at") (Number change.at ∷ [])

unfoldable pub difference_text : Difference → List ℕ
difference_text (differences.MapBlock old new) = phrase (codes "map") (Handle old.0 ∷ Handle new.0 ∷ [])
difference_text (differences.BlockWent b size) = phrase (codes "-") (Handle b.0 ∷ []) ++ size_text size
difference_text (differences.BlockCame b size) = phrase (codes "+") (Handle b.0 ∷ []) ++ size_text size
difference_text (differences.UserId b old new) =
    phrase (codes "!") (Handle b.0 ∷ []) ++ phrase (codes " uid") (Number old ∷ Number new ∷ [])
difference_text (differences.HeapType b old new) =
    phrase (codes "!") (Handle b.0 ∷ []) ++ phrase (codes " type") (Number old ∷ Number new ∷ [])
difference_text (differences.RawChanged b change) =
    phrase (codes "!") (Handle b.0 ∷ []) ++ codes " raw" ++ change_text change
difference_text (differences.ChunkWent b c n) = phrase (codes "-") (Handle b.0 ∷ Handle c.0 ∷ Number n ∷ [])
difference_text (differences.ChunkCame b c n) = phrase (codes "+") (Handle b.0 ∷ Handle c.0 ∷ Number n ∷ [])
difference_text (differences.ChunkChanged b c change) =
    phrase (codes "!") (Handle b.0 ∷ Handle c.0 ∷ []) ++ change_text change

abbrev pub diff_line : Difference → List ℕ
diff_line difference = difference_text difference ++ line_feed ∷ []

-- a line for each, in order
abbrev pub diff_lines : List Difference → List ℕ
diff_lines ds = flat_map diff_line ds
