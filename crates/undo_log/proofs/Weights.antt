-- What records hold is no more than what their steps are charged for.
use Rattle.std.proofs.Common.{◌≡◌, ◌≤◌, ◌+◌, ◌-◌, ◌^◌, ℕ, length, List, [], ◌∷◌, ◌++◌, Option, None, Some, min, reverse, refl, sym, ap, ◌∙◌, arith}
use Rattle.std.proofs.lemmas.List.Sums.{sum_by-append, sum_by-cons, sum_by-le-sum_by}
use Rattle.std.proofs.lemmas.List.Sorted.{sum_by-IsPermutation, IsPermutation-reverse}
use Rattle.std.specs.List.{sum_by}
use Rattle.std.specs.Option.{option_map, option_map_or}
use Rattle.geos_model.specs.Document.{Document}
use Rattle.geos_model.specs.Machine.{UndoStep}
use Rattle.vm_blocks.specs.Changes.{weight, part_weight, content_weight, content_bytes}
use Rattle.vm_blocks.specs.declared.change.Change.{Change}
use Rattle.vm_blocks.specs.declared.change.Change.TheVariants as changes
use Rattle.vm_blocks.specs.declared.change.Content.{Content}
use Rattle.vm_blocks.specs.declared.change.Content.TheVariants as contents
use Rattle.vm_blocks.specs.declared.change.PartChange.{PartChange}
use Rattle.vm_blocks.specs.declared.change.PartChange.TheVariants as parts
use Rattle.chunk_edits.proofs.PatchingLemmas.{held_le}
use Rattle.chunk_edits.specs.declared.direction.Direction.{Direction}
use Rattle.chunk_edits.specs.declared.direction.Direction.TheVariants.{Forwards, Backwards}
use Rattle.vm_blocks.specs.ChangeCosts.{part_cost, change_cost}
use Rattle.vm_blocks.specs.Changes.{after_directed}
use Rattle.undo_log.specs.Logging.{Log, after_all, all_changes, before, changes_cost, entry_step, entry_steps, entry_weight, group_of, open_changes, to_redo, to_undo, total_weight}
use Rattle.undo_log.specs.Sessions.{total_cost}
use Rattle.undo_log.specs.Entries.{LogEntry, NamedEntry, log_entries}
use Rattle.undo_log.specs.Entries as entries

content_weight-le : (content : Content) → content_weight content ≤ length (content_bytes content)
content_weight-le (contents.Bytes bytes) = omega arith
content_weight-le (contents.Zeros n) = omega arith

part_weight-le : (part : PartChange) → part_weight part ≤ part_cost part
part_weight-le (parts.Raw s) = omega arith
part_weight-le (parts.Chunk c s) = omega arith
part_weight-le (parts.RawPatch ps) = held_le ps
part_weight-le (parts.Patch c ps runs) = held_le ps
part_weight-le (parts.ChunkIn c content) = content_weight-le content
part_weight-le (parts.ChunkOut c content) = content_weight-le content

weight-le : (c : Change) → weight c ≤ change_cost c
weight-le (changes.BlocksIn ms) = omega arith
weight-le (changes.BlocksOut ms) = omega arith
weight-le (changes.Part b part) = part_weight-le part
weight-le (changes.Attributes b old new) = omega arith
weight-le (changes.Map old new) = omega arith

-- what steps are charged for is what their changes are
costs : (direction : Direction) (es : List LogEntry) (d : Document) → total_cost (entry_steps direction es d) ≡ changes_cost (all_changes es)
costs direction [] d = refl
costs direction (entries.One c ∷ es) d =
    sum_by-cons (λ (s : UndoStep). s.cost) (entry_step direction (entries.One c) d) (entry_steps direction es (after_directed direction c d))
    ∙ ap (λ (n : ℕ). change_cost c + n) (costs direction es (after_directed direction c d))
    ∙ sym (sum_by-cons change_cost c (all_changes es))
costs direction (entries.Group cs ∷ es) d =
    sum_by-cons (λ (s : UndoStep). s.cost) (entry_step direction (entries.Group cs) d) (entry_steps direction es (after_all direction cs d))
    ∙ ap (λ (n : ℕ). changes_cost cs + n) (costs direction es (after_all direction cs d))
    ∙ sym (sum_by-append change_cost cs (all_changes es))

pub weight-reverse : (items : List Change) → total_weight (reverse items) ≡ total_weight items
weight-reverse items = sum_by-IsPermutation weight items (reverse items) (IsPermutation-reverse items)

pub weight-append : (cs others : List Change) → total_weight (cs ++ others) ≡ total_weight cs + total_weight others
weight-append cs others = sum_by-append weight cs others

weights-le : (cs : List Change) → total_weight cs ≤ changes_cost cs
weights-le cs = sum_by-le-sum_by weight change_cost cs weight-le

-- what the group that is open is charged
open_cost : (group : Option (List Change)) (d : Document) → option_map_or (λ g. g.cost) (option_map (group_of d) group) 0 ≡ changes_cost (open_changes group)
open_cost None d = refl
open_cost (Some cs) d = refl

pub weight_at_most : (d : Document) (log : Log) (r : ℕ) → r ≡ min (total_weight (to_undo log) + total_weight (to_redo log)) (2 ^ 64 - 1)
    → r ≤ total_cost (entry_steps Backwards log.undo (before log.group d)) + total_cost (entry_steps Forwards log.redo d) + option_map_or (λ g. g.cost) (option_map (group_of d) log.group) 0
weight_at_most d log r is =
    let past = costs Backwards log.undo (before log.group d) in
    let future = costs Forwards log.redo d in
    let group = open_cost log.group d in
    let undo = weight-append (open_changes log.group) (all_changes log.undo) in
    let less_open = weights-le (open_changes log.group) in
    let less_undo = weights-le (all_changes log.undo) in
    let less_redo = weights-le (all_changes log.redo) in
    grind (arith, is, past, future, group, undo, less_open, less_undo, less_redo)

-- entries weigh what their changes do
all_weights : (es : List LogEntry) → total_weight (all_changes es) ≡ sum_by entry_weight es
all_weights [] = refl
all_weights (entries.One c ∷ es) =
    let all = sum_by-cons weight c (all_changes es) in
    let rest = all_weights es in
    let whole = sum_by-cons entry_weight (entries.One c) es in
    let one : entry_weight (entries.One c) ≡ weight c = omega arith in
    omega (arith, all, rest, whole, one)
all_weights (entries.Group cs ∷ es) = sum_by-append weight cs (all_changes es) ∙ ap (λ (n : ℕ). total_weight cs + n) (all_weights es) ∙ sym (sum_by-cons entry_weight (entries.Group cs) es)

-- named ones too
named_weights : (es : List NamedEntry) → total_weight (all_changes (log_entries es)) ≡ sum_by (λ e. entry_weight e.entry) es
named_weights es = all_weights (log_entries es) ∙ without_names es
  where
    without_names : (es : List NamedEntry) → sum_by entry_weight (log_entries es) ≡ sum_by (λ e. entry_weight e.entry) es
    without_names [] = refl
    without_names (e ∷ es) =
        sum_by-cons entry_weight e.entry (log_entries es) ∙ ap (λ (n : ℕ). entry_weight e.entry + n) (without_names es) ∙ sym (sum_by-cons (λ (x : NamedEntry). entry_weight x.entry) e es)

pub log_weighs : (undo redo : List NamedEntry) (cs : List Change) (r s w : ℕ) → r ≡ min (s + w) (2 ^ 64 - 1) → s ≡ min (total_weight cs) (2 ^ 64 - 1)
    → w ≡ min (sum_by (λ e. entry_weight e.entry) undo + sum_by (λ e. entry_weight e.entry) redo) (2 ^ 64 - 1)
    → r ≡ min (total_weight (cs ++ all_changes (log_entries undo)) + total_weight (all_changes (log_entries redo))) (2 ^ 64 - 1)
log_weighs undo redo cs r s w e f g =
    let all = weight-append cs (all_changes (log_entries undo)) in
    let first = named_weights undo in
    let second = named_weights redo in
    grind (arith, e, f, g, all, first, second)
