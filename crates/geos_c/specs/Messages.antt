-- The messages by which a program is asked for the calls on its file. embedding/channel.c reads them.
use Rattle.std.specs.Prelude.{ℕ, List, ◌∷◌, ◌++◌, replicate}
use Rattle.geos_model.specs.Words.{quad_word}
use Rattle.geos_c.specs.declared.message.Operation.{Operation}
use Rattle.geos_c.specs.declared.message.Operation.TheVariants.{Read, ReadEnd, Write, Len, SetLen, Sync, Begin}

abbrev pub operation_code : Operation → ℕ
operation_code Read = 1
operation_code ReadEnd = 2
operation_code Write = 3
operation_code Len = 4
operation_code SetLen = 5
operation_code Sync = 6
operation_code Begin = 7

-- The operation, seven zeros, an offset, and how many bytes. In place of the offset `Begin` has the number of the file
-- that the session is in, or -1, by its two's complement of 64 bits.
abbrev pub message_text : Operation → ℕ → ℕ → List ℕ
message_text operation at size = operation_code operation ∷ replicate 7 0 ++ quad_word at ++ quad_word size
