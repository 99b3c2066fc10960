-- A chain of blocks. A raw block of one begins with a link, the handle of the next block, 0 at the end; or with the
-- tree mark, and then it has branches, each with a link to the first block of a chain.
use Rattle.std.specs.Prelude.{ℕ, List, [], ◌∷◌, ◌++◌, ◌+◌, ◌*◌, zero, suc, Bool, true, not, ◌==◌, ◌&&◌, nat_le, nat_lt, if◌then◌else◌, length, take, map, filter, sum_by, Option, Some, None, is_none, unwrap_or}
use Rattle.std.specs.List.{range_with_len, list_any, list_all, fold, zip}
use Rattle.std.specs.Option.{option_map, option_and_then}
use lib.Pointwise.{pointwise}
use Rattle.geos_model.specs.Refusal.{Conditions}
use Rattle.geos_model.specs.Words.{word, word_at}
use Rattle.geos_model.specs.Bytes.{same_bytes, written}
use Rattle.geos_model.specs.ElementArray.{all_distinct}
use Rattle.geos_model.specs.Document.{Block, Document, vm_handles, most_blocks, is_live, is_raw, raw_bytes_of, bytes_of_body, block_at}
use Rattle.geos_model.specs.declared.fault.Fault.TheVariants.{NoBlock, WrongKind, BadChain, IsMap, NoHandles}
use Rattle.geos_model.specs.declared.command.Body.TheVariants.{Raw}

-- The body of one block.

abbrev pub tree_mark : ℕ
tree_mark = 0xFFFF

abbrev pub is_tree : List ℕ → Bool
is_tree bytes = word_at bytes 0 == tree_mark

-- behind the tree mark stand the place of the branches and their number
abbrev pub branches_at : List ℕ → ℕ
branches_at bytes = word_at bytes 2

abbrev pub branch_count : List ℕ → ℕ
branch_count bytes = word_at bytes 4

-- the branches lie behind these three words and within the body, and each is a zero word and then a link
abbrev pub has_branches : List ℕ → Bool
has_branches bytes =
    nat_le 6 (length bytes) && nat_le 6 (branches_at bytes)
    && nat_le (branches_at bytes + 4 * branch_count bytes) (length bytes)
    && list_all (λ i. word_at bytes (branches_at bytes + 4 * i) == 0) (range_with_len 0 (branch_count bytes))

-- a body that a block of a chain can have
abbrev pub is_linked : List ℕ → Bool
is_linked bytes = nat_le 2 (length bytes) && (if is_tree bytes then has_branches bytes else true)

-- how many links it has, and where one of them stands
abbrev pub link_count : List ℕ → ℕ
link_count bytes = if is_tree bytes then branch_count bytes else 1

abbrev pub first_link : List ℕ → ℕ
first_link bytes = if is_tree bytes then branches_at bytes + 2 else 0

abbrev pub link_place : List ℕ → ℕ → ℕ
link_place bytes i = first_link bytes + 4 * i

-- the handles that it links to, in order; 0 links to none
abbrev pub links : List ℕ → List ℕ
links bytes =
    filter (λ h. not (h == 0)) (map (λ i. word_at bytes (link_place bytes i)) (range_with_len 0 (link_count bytes)))

-- the body with each of its links renamed
abbrev pub relinked : (ℕ → ℕ) → List ℕ → List ℕ
relinked rename bytes =
    fold (λ new i. let at = link_place bytes i in written new at (word (rename (word_at bytes at)))) bytes
    (range_with_len 0 (link_count bytes))

-- The blocks of a chain.

-- a raw block whose body a block of a chain can have
abbrev pub is_member : Document → ℕ → Bool
is_member d h = is_raw d h && is_linked (raw_bytes_of d h)

-- The blocks of the chains that begin at these handles, if there are at most so many: a block, those of the chains that
-- it links to, and then those of the other chains.
unfoldable pub blocks_from : ℕ → Document → List ℕ → Option (List ℕ)
blocks_from zero d [] = Some []
blocks_from zero d (h ∷ hs) = None
blocks_from (suc n) d [] = Some []
blocks_from (suc n) d (h ∷ hs) =
    if is_member d h then option_map (λ rest. h ∷ rest) (blocks_from n d (links (raw_bytes_of d h) ++ hs)) else None

abbrev pub if_distinct : List ℕ → Option (List ℕ)
if_distinct hs = if all_distinct hs then Some hs else None

-- The blocks of the chain that begins at a handle, each once. There is none where it comes to what is no block of a
-- chain, or to a block twice.
unfoldable pub chain : Document → ℕ → Option (List ℕ)
chain d h = option_and_then if_distinct (blocks_from most_blocks d (h ∷ []))

-- the same, no blocks where there is no chain
abbrev pub chain_blocks : Document → ℕ → List ℕ
chain_blocks d h = unwrap_or (chain d h) []

-- how many bytes these blocks have
abbrev pub chain_bytes : Document → List ℕ → ℕ
chain_bytes d hs = sum_by (λ h. length (raw_bytes_of d h)) hs

-- what a list of handles and names has for a handle, 0 where it has nothing
abbrev pub name_of : List (ℕ × ℕ) → ℕ → ℕ
name_of [] h = 0
name_of (p ∷ ps) h = if p.0 == h then p.1 else name_of ps h

-- the bodies of a chain's blocks, each link replaced by the place, from 1 on, of the block to which it links
abbrev pub shape : Document → List ℕ → List (List ℕ)
shape d hs = map (λ h. relinked (name_of (zip hs (range_with_len 1 (length hs)))) (raw_bytes_of d h)) hs

-- two chains are equal: the user IDs aren't compared
abbrev pub same_shape : Document → List ℕ → List ℕ → Bool
same_shape d xs ys = pointwise same_bytes (shape d xs) (shape d ys)

-- Blocks to be put in or taken out, each under its handle.

-- the blocks of a chain as they are
abbrev pub chain_blocks_of : Document → List ℕ → List (ℕ × Block)
chain_blocks_of d hs = map (λ h. (h, block_at d h)) hs

-- the handles that aren't live, rising
abbrev pub free_handles : Document → List ℕ
free_handles d = filter (λ h. not (is_live d h)) vm_handles

-- the handles that the copies of so many blocks get
abbrev pub new_handles : Document → ℕ → List ℕ
new_handles d n = take n (free_handles d)

abbrev pub relinked_block : (ℕ → ℕ) → Block → Block
relinked_block rename b = record b { body = Raw (relinked rename (bytes_of_body b.body)) }

-- these blocks under new handles, each link renamed as the blocks are
abbrev pub renamed_blocks : Document → List ℕ → List ℕ → List (ℕ × Block)
renamed_blocks d hs new = map (λ p. (p.1, relinked_block (name_of (zip hs new)) (block_at d p.0))) (zip hs new)

-- the blocks of a copy of a chain
abbrev pub copies_of : Document → List ℕ → List (ℕ × Block)
copies_of d hs = renamed_blocks d hs (new_handles d (length hs))

-- Refusals. Where an earlier one applies, a later one may be anything.

abbrev pub on_chain : Document → ℕ → Conditions
on_chain d h = (NoBlock, not (is_live d h)) ∷ (WrongKind, not (is_raw d h)) ∷ (BadChain, is_none (chain d h)) ∷ []

abbrev pub on_chains : Document → ℕ → ℕ → Conditions
on_chains d first second = on_chain d first ++ on_chain d second

abbrev pub free_conditions : Document → ℕ → Conditions
free_conditions d h = on_chain d h ++ (IsMap, list_any (λ x. x == d.map_block) (chain_blocks d h)) ∷ []

abbrev pub copy_conditions : Document → ℕ → Conditions
copy_conditions d h = on_chain d h ++ (NoHandles, nat_lt (length (free_handles d)) (length (chain_blocks d h))) ∷ []
