-- The words of a name that is added.
use Rattle.std.proofs.Common.{◌≡◌, ◌∙◌, inl, inr, ℕ, Bool, true, false, List, [], ◌∷◌, Option, Some, None, is_some, refl, ap}
use Rattle.std.specs.Option.{option_and_then}
use Rattle.geos_model.specs.Script.{block, bytes, chunk, is_set, with_1, with_2, with_3, with_4, with_5}
use Rattle.geos_model.specs.declared.command.Command.{Command}
use Rattle.geos_model.specs.declared.fault.Fault.{Fault}
use Rattle.geos_model.specs.declared.fault.Fault.TheVariants as faults
use Rattle.geos_model.specs.declared.handle.VmHandle.{VmHandle}
use Rattle.geos_model.specs.declared.handle.ChunkHandle.{ChunkHandle}
use Rattle.geos_model.specs.declared.command.Edit.TheVariants as edits
use Rattle.geos_model.specs.declared.command.Command.TheVariants as commands
use Rattle.geos_script.specs.Making.{last, read_off}
use Rattle.geos_script.specs.Reading.{FailsToRead, command_has_bytes, is_nonempty}
use Rattle.geos_script.proofs.ReadingOff.{operand-read, operand-unread}

-- the command has these bytes among its own
abbrev HasThem : (List ℕ → Command) → Type 0
HasThem f = (bs : List ℕ) → is_nonempty bs ≡ true → command_has_bytes (f bs) ≡ true

carried : (o : Option (List ℕ)) (f : List ℕ → Command) (fault : Fault) → FailsToRead is_nonempty o fault → HasThem f → FailsToRead command_has_bytes (option_and_then (λ bs. Some (f bs)) o) fault
carried None f fault (inl bad) has = inl (bad.0, refl)
carried None f fault (inr memory) has = absurd (memory.1)
carried (Some bs) f fault (inl bad) has = cc (bad.1)
carried (Some bs) f fault (inr memory) has = inr (memory.0, has bs memory.1)

none_then : {A B : Type 0} (f : A → Option B) → ((a : A) → f a ≡ None) → (o : Option A) → option_and_then f o ≡ None
none_then f none None = refl
none_then f none (Some a) = none a

pub none_of : {A : Type 0} (o : Option A) → false ≡ is_some o → o ≡ None
none_of None h = refl
none_of (Some x) h = cc h

same_then : {A B : Type 0} (f g : A → Option B) → ((a : A) → f a ≡ g a) → (o : Option A) → option_and_then f o ≡ option_and_then g o
same_then f g same None = refl
same_then f g same (Some a) = same a

pub some_of : {A : Type 0} (o : Option A) → true ≡ is_some o → (x : A) × (o ≡ Some x)
some_of None h = cc h
some_of (Some x) h = (x, refl)

-- what takes no memory fails where nothing is spelled
pub unkept : {A : Type 0} (o : Option A) (fault : Fault) → FailsToRead (λ _. false) o fault → (fault ≡ faults.BadCommand) × (o ≡ None)
unkept o fault (inl bad) = bad
unkept None fault (inr memory) = absurd (memory.1)
unkept (Some x) fault (inr memory) = cc (memory.1)

-- the command that is added
abbrev pub adds : VmHandle → ChunkHandle → List ℕ → List ℕ → Bool → Command
adds b c name part replace = commands.Edit (edits.AddName b c name part replace)

name_has : (b : VmHandle) (c : ChunkHandle) (part : List ℕ) (replace : Bool) → HasThem (λ name. adds b c name part replace)
name_has b c part replace bs has = rw has refl

part_has : (b : VmHandle) (c : ChunkHandle) (name : List ℕ) (replace : Bool) → HasThem (λ part. adds b c name part replace)
part_has b c [] replace bs has = has
part_has b c (x ∷ name) replace bs has = refl

-- what the words mean
abbrev pub meant : List (List ℕ) → Option Command
meant ws = with_5 block chunk bytes bytes is_set adds ws

-- a last operand that isn't spelled leaves no command
flag_unread : (f : Bool → Command) (ws : List (List ℕ)) → last is_set ws ≡ None → with_1 is_set f ws ≡ None
flag_unread f [] none = refl
flag_unread f (w ∷ []) none = rw none refl
flag_unread f (w ∷ v ∷ ws) none = none_then _ (λ a. refl) (is_set w)

flag_read : (f : Bool → Command) (ws : List (List ℕ)) (replace : Bool) → last is_set ws ≡ Some replace → with_1 is_set f ws ≡ Some (f replace)
flag_read f [] replace read = cc read
flag_read f (w ∷ []) replace read = rw read refl
flag_read f (w ∷ v ∷ ws) replace read = cc read

-- no block, or no chunk behind it
pub no_block : (ws : List (List ℕ)) → read_off block ws ≡ None → meant ws ≡ None
no_block ws none = operand-unread block (λ b. with_4 chunk bytes bytes is_set (adds b)) ws none

module _ (ws behind : List (List ℕ)) (b : VmHandle) (first : read_off block ws ≡ Some (b, behind)) where
  pub no_chunk : read_off chunk behind ≡ None → meant ws ≡ None
  no_chunk none =
      operand-read block (λ b. with_4 chunk bytes bytes is_set (adds b)) ws behind b first
      ∙ operand-unread chunk (λ c. with_3 bytes bytes is_set (adds b c)) behind none

  module _ (others : List (List ℕ)) (c : ChunkHandle) (second : read_off chunk behind ≡ Some (c, others)) where
    rest_means : meant ws ≡ with_3 bytes bytes is_set (adds b c) others
    rest_means =
        operand-read block (λ b. with_4 chunk bytes bytes is_set (adds b)) ws behind b first
        ∙ operand-read chunk (λ c. with_3 bytes bytes is_set (adds b c)) behind others c second

    pub no_name_word : others ≡ [] → meant ws ≡ None
    no_name_word none = rest_means ∙ ap (with_3 bytes bytes is_set (adds b c)) none

    module _ (name : List ℕ) (after : List (List ℕ)) (third : others ≡ name ∷ after) where
      name_means : meant ws ≡ option_and_then (λ n. with_2 bytes is_set (adds b c n) after) (bytes name)
      name_means = rest_means ∙ ap (with_3 bytes bytes is_set (adds b c)) third

      pub no_part_word : after ≡ [] → meant ws ≡ None
      no_part_word none = name_means ∙ none_then _ (λ n. ap (with_2 bytes is_set (adds b c n)) none) (bytes name)

      module _ (part : List ℕ) (end : List (List ℕ)) (fourth : after ≡ part ∷ end) where
        both_mean : meant ws ≡ option_and_then (λ n. option_and_then (λ p. with_1 is_set (adds b c n p) end) (bytes part)) (bytes name)
        both_mean = rw fourth at name_means

        pub no_flag : last is_set end ≡ None → meant ws ≡ None
        no_flag none = both_mean ∙ none_then _ (λ n. none_then _ (λ p. flag_unread (adds b c n p) end none) (bytes part)) (bytes name)

        pub no_part_bytes : bytes part ≡ None → meant ws ≡ None
        no_part_bytes none = both_mean ∙ none_then _ (λ n. rw none refl) (bytes name)

        module _ (replace : Bool) (fifth : last is_set end ≡ Some replace) where
          pub all_five : (n p : List ℕ) → bytes name ≡ Some n → bytes part ≡ Some p → meant ws ≡ Some (adds b c n p replace)
          all_five n p is_name is_part = both_mean ∙ rw (is_name, is_part) (flag_read (adds b c n p) end replace fifth)

          pub no_name : (p : List ℕ) (fault : Fault) → bytes part ≡ Some p → FailsToRead is_nonempty (bytes name) fault → FailsToRead command_has_bytes (meant ws) fault
          no_name p fault is_part failed =
              let means : meant ws ≡ option_and_then (λ n. Some (adds b c n p replace)) (bytes name) =
              both_mean ∙ rw is_part (same_then (λ n. with_1 is_set (adds b c n p) end) (λ n. Some (adds b c n p replace)) (λ n. flag_read (adds b c n p) end replace fifth) (bytes name)) in
              rw means (carried (bytes name) (λ n. adds b c n p replace) fault failed (name_has b c p replace))

          pub no_part : (n : List ℕ) (fault : Fault) → bytes name ≡ Some n → FailsToRead is_nonempty (bytes part) fault → FailsToRead command_has_bytes (meant ws) fault
          no_part n fault is_name failed =
              let means : meant ws ≡ option_and_then (λ p. Some (adds b c n p replace)) (bytes part) =
              both_mean ∙ rw is_name (same_then (λ p. with_1 is_set (adds b c n p) end) (λ p. Some (adds b c n p replace)) (λ p. flag_read (adds b c n p) end replace fifth) (bytes part)) in
              rw means (carried (bytes part) (λ p. adds b c n p replace) fault failed (part_has b c n replace))
