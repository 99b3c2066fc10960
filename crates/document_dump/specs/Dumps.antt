-- The text of a dump.
use Rattle.std.specs.Prelude.{ℕ, List, [], ◌++◌, Bool, not, ◌==◌, length, if◌then◌else◌, codes}
use Rattle.geos_model.specs.Document.{Document, empty_document}
use Rattle.document_dump.specs.Lines.{text}
use Rattle.document_dump.specs.Changes.{changes}
use Rattle.document_dump.specs.declared.dumping.Which.{Which}
use Rattle.document_dump.specs.declared.dumping.Which.TheVariants.{Both, Saved}

-- there are any bytes
abbrev pub is_some_text : List ℕ → Bool
is_some_text bytes = not (length bytes == 0)

-- lines, and then the line of a commit; where there are none, no commit either
abbrev pub if_changed : List ℕ → List ℕ → List ℕ
if_changed lines commit = if is_some_text lines then lines ++ commit else []

-- the saved document is made of the empty one
abbrev pub saved_text : Document → List ℕ
saved_text saved = text (changes empty_document saved) ++ codes "save\n"

-- and then the updated one, where it is another
unfoldable pub dump_text : Which → Document → Document → List ℕ
dump_text Saved updated saved = saved_text saved
dump_text Both updated saved = saved_text saved ++ if_changed (text (changes saved updated)) (codes "update\n")
