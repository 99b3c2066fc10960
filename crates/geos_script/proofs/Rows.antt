-- Rows of the script's table: what is made of the words behind a name is what they mean.
use Rattle.std.proofs.Common.{◌==◌, ◌&&◌, ◌||◌, length, ◌≡◌, ◌∙◌, ap, sym, subst, refl, ℕ, Bool, true, false, List, [], ◌∷◌, drop, Option, Some, None, Result, Ok, Err, inl, inr, if◌then◌else◌}
use Rattle.std.specs.Prelude.{IsTrue}
use Rattle.std.proofs.lemmas.Bool.{and_parts, cases_Bool}
use Rattle.std.specs.Option.{option_and_then, option_map}
use Rattle.geos_model.specs.Script.{by_name, commands_by_name, operand, same_bytes, with_none, with_1, with_2, with_3, with_4, with_5}
use Rattle.geos_model.proofs.Arrays.{same_bytes-is}
use Rattle.geos_model.specs.declared.command.Command.{Command}
use Rattle.geos_model.specs.declared.fault.Fault.{Fault}
use Rattle.geos_model.specs.declared.fault.Fault.TheVariants as faults
use Rattle.geos_script.specs.Making.{ParsesOperands, last, named_from, nothing, operand_then}
use Rattle.geos_script.specs.Reading.{ReadsAs, command_has_bytes}

-- the row with the name
pub at_row : (from : ℕ) (name text : List ℕ) (operands : List (List ℕ)) (meant : Option Command) (result : Result Command Fault)
    → true ≡ same_bytes name text → by_name text operands (drop from commands_by_name) ≡ meant → ReadsAs command_has_bytes meant result
    → ReadsAs command_has_bytes (named_from from name operands) result
unfolding named_from
at_row from name text operands meant result same is made =
    let called : name ≡ text = same_bytes-is name text (sym same) in
    let means : by_name name operands (drop from commands_by_name) ≡ meant = ap (λ n. by_name n operands (drop from commands_by_name)) called ∙ is in
    subst (λ o. ReadsAs command_has_bytes o result) (sym means) made

-- a row with another name is passed over
pub passed : (from to : ℕ) (name text : List ℕ) (operands : List (List ℕ)) (f : List (List ℕ) → Option Command)
    → drop from commands_by_name ≡ (text, f) ∷ drop to commands_by_name → false ≡ same_bytes name text → named_from from name operands ≡ named_from to name operands
unfolding named_from
passed from to name text operands f is other =
    ap (by_name name operands) is ∙ ap (λ b. if b then f operands else by_name name operands (drop to commands_by_name)) (sym other)

-- what is made of what words spell is what they mean
made : {T : Type 0} (is_kept : T → Bool) (made_by : T → Command → Type 0) (to : T → Command) (spelled : Option T) (result : Result Command Fault)
    → ParsesOperands is_kept made_by spelled result → ((t : T) (x : Command) → made_by t x → x ≡ to t) → ((t : T) → is_kept t ≡ command_has_bytes (to t))
    → ReadsAs command_has_bytes (option_map to spelled) result
made is_kept made_by to None (Ok x) m same has = absurd m
made is_kept made_by to (Some t) (Ok x) m same has = ap Some (sym (same t x m))
made is_kept made_by to None (Err fault) (inl bad) same has = inl (bad.0, refl)
made is_kept made_by to None (Err fault) (inr memory) same has = absurd (memory.1)
made is_kept made_by to (Some t) (Err fault) (inl bad) same has = cc (bad.1)
made is_kept made_by to (Some t) (Err fault) (inr memory) same has = inr (memory.0, subst IsTrue (has t) memory.1)

-- what no word means
nothing_is : (to : Command) (ws : List (List ℕ)) → with_none to ws ≡ option_map (λ (_ : Unit {0}). to) (nothing ws)
nothing_is to [] = refl
nothing_is to (w ∷ ws) = refl

-- what an operand means behind which there is no word
last_is : {A : Type 0} (p : List ℕ → Option A) (to : A → Command) (ws : List (List ℕ)) → with_1 p to ws ≡ option_map to (last p ws)
last_is p to [] = refl
last_is {A} p to (w ∷ []) = read (p w)
  where
    read : (o : Option A) → option_and_then (λ a. Some (to a)) o ≡ option_map to o
    read None = refl
    read (Some a) = refl
last_is {A} p to (w ∷ v ∷ ws) = read (p w)
  where
    read : (o : Option A) → option_and_then (λ a. with_none (to a) (v ∷ ws)) o ≡ None
    read None = refl
    read (Some a) = refl

-- what an operand and those behind it mean
operand_is : {A T : Type 0} (p : List ℕ → Option A) (f : A → List (List ℕ) → Option Command) (others : List (List ℕ) → Option T) (to : A × T → Command)
    → ((a : A) (ws : List (List ℕ)) → f a ws ≡ option_map (λ t. to (a, t)) (others ws)) → (ws : List (List ℕ)) → operand p f ws ≡ option_map to (operand_then p others ws)
operand_is p f others to each [] = refl
operand_is {A} {T} p f others to each (w ∷ ws) = read (p w)
  where
    mapped : (a : A) (o : Option T) → option_map (λ t. to (a, t)) o ≡ option_map to (option_map (λ t. (a, t)) o)
    mapped a None = refl
    mapped a (Some t) = refl

    read : (o : Option A) → option_and_then (λ a. f a ws) o ≡ option_map to (option_and_then (λ (x : A × List (List ℕ)). option_map {U = A × T} (λ t. (x.0, t)) (others x.1)) (option_map {U = A × List (List ℕ)} (λ a. (a, ws)) o))
    read None = refl
    read (Some a) = each a ws ∙ mapped a (others ws)

pub made_0 : (made_by : Unit {0} → Command → Type 0) (to : Command) (ws : List (List ℕ)) (result : Result Command Fault)
    → ParsesOperands (λ _. false) made_by (nothing ws) result → ((x : Command) → made_by tt x → x ≡ to) → false ≡ command_has_bytes to
    → ReadsAs command_has_bytes (with_none to ws) result
made_0 made_by to ws result m same has =
    rw (nothing_is to ws) (made (λ _. false) made_by (λ _. to) _ result m (λ t. same) (λ t. has))

pub made_1 : {A : Type 0} (p : List ℕ → Option A) (is_kept : A → Bool) (made_by : A → Command → Type 0) (to : A → Command) (ws : List (List ℕ)) (result : Result Command Fault)
    → ParsesOperands is_kept made_by (last p ws) result → ((a : A) (x : Command) → made_by a x → x ≡ to a) → ((a : A) → is_kept a ≡ command_has_bytes (to a))
    → ReadsAs command_has_bytes (with_1 p to ws) result
made_1 p is_kept made_by to ws result m same has =
    let means = last_is p to ws in
    rw means (made is_kept made_by (λ t. to t) _ result m (λ t. same t) (λ t. has t))

pub made_2 : {A B : Type 0} (p : List ℕ → Option A) (q : List ℕ → Option B) (is_kept : A × B → Bool) (made_by : (A × B) → Command → Type 0) (to : A → B → Command) (ws : List (List ℕ)) (result : Result Command Fault)
    → ParsesOperands is_kept made_by (operand_then p (last q) ws) result → ((a : A) (b : B) (x : Command) → made_by (a, b) x → x ≡ to a b) → ((a : A) (b : B) → is_kept (a, b) ≡ command_has_bytes (to a b))
    → ReadsAs command_has_bytes (with_2 p q to ws) result
made_2 p q is_kept made_by to ws result m same has =
    let means = operand_is p (λ a. with_1 q (to a)) (last q) (λ t. to t.0 t.1) (λ a. last_is q (to a)) ws in
    rw means (made is_kept made_by (λ t. to t.0 t.1) _ result m (λ t. same t.0 t.1) (λ t. has t.0 t.1))

pub made_3 : {A B C : Type 0} (p : List ℕ → Option A) (q : List ℕ → Option B) (r : List ℕ → Option C) (is_kept : A × (B × C) → Bool) (made_by : (A × (B × C)) → Command → Type 0) (to : A → B → C → Command) (ws : List (List ℕ)) (result : Result Command Fault)
    → ParsesOperands is_kept made_by (operand_then p (operand_then q (last r)) ws) result → ((a : A) (b : B) (c : C) (x : Command) → made_by (a, (b, c)) x → x ≡ to a b c) → ((a : A) (b : B) (c : C) → is_kept (a, (b, c)) ≡ command_has_bytes (to a b c))
    → ReadsAs command_has_bytes (with_3 p q r to ws) result
made_3 p q r is_kept made_by to ws result m same has =
    let means = operand_is p (λ a. with_2 q r (to a)) (operand_then q (last r)) (λ t. to t.0 t.1.0 t.1.1) (λ a. operand_is q (λ b. with_1 r (to a b)) (last r) (λ t. to a t.0 t.1) (λ b. last_is r (to a b))) ws in
    rw means (made is_kept made_by (λ t. to t.0 t.1.0 t.1.1) _ result m (λ t. same t.0 t.1.0 t.1.1) (λ t. has t.0 t.1.0 t.1.1))

pub made_4 : {A B C D : Type 0} (p : List ℕ → Option A) (q : List ℕ → Option B) (r : List ℕ → Option C) (s : List ℕ → Option D) (is_kept : A × (B × (C × D)) → Bool) (made_by : (A × (B × (C × D))) → Command → Type 0) (to : A → B → C → D → Command) (ws : List (List ℕ)) (result : Result Command Fault)
    → ParsesOperands is_kept made_by (operand_then p (operand_then q (operand_then r (last s))) ws) result → ((a : A) (b : B) (c : C) (d : D) (x : Command) → made_by (a, (b, (c, d))) x → x ≡ to a b c d) → ((a : A) (b : B) (c : C) (d : D) → is_kept (a, (b, (c, d))) ≡ command_has_bytes (to a b c d))
    → ReadsAs command_has_bytes (with_4 p q r s to ws) result
made_4 p q r s is_kept made_by to ws result m same has =
    let means = operand_is p (λ a. with_3 q r s (to a)) (operand_then q (operand_then r (last s))) (λ t. to t.0 t.1.0 t.1.1.0 t.1.1.1) (λ a. operand_is q (λ b. with_2 r s (to a b)) (operand_then r (last s)) (λ t. to a t.0 t.1.0 t.1.1) (λ b. operand_is r (λ c. with_1 s (to a b c)) (last s) (λ t. to a b t.0 t.1) (λ c. last_is s (to a b c)))) ws in
    rw means (made is_kept made_by (λ t. to t.0 t.1.0 t.1.1.0 t.1.1.1) _ result m (λ t. same t.0 t.1.0 t.1.1.0 t.1.1.1) (λ t. has t.0 t.1.0 t.1.1.0 t.1.1.1))

pub made_5 : {A B C D E : Type 0} (p : List ℕ → Option A) (q : List ℕ → Option B) (r : List ℕ → Option C) (s : List ℕ → Option D) (u : List ℕ → Option E) (is_kept : A × (B × (C × (D × E))) → Bool) (made_by : (A × (B × (C × (D × E)))) → Command → Type 0) (to : A → B → C → D → E → Command) (ws : List (List ℕ)) (result : Result Command Fault)
    → ParsesOperands is_kept made_by (operand_then p (operand_then q (operand_then r (operand_then s (last u)))) ws) result → ((a : A) (b : B) (c : C) (d : D) (e : E) (x : Command) → made_by (a, (b, (c, (d, e)))) x → x ≡ to a b c d e) → ((a : A) (b : B) (c : C) (d : D) (e : E) → is_kept (a, (b, (c, (d, e)))) ≡ command_has_bytes (to a b c d e))
    → ReadsAs command_has_bytes (with_5 p q r s u to ws) result
made_5 p q r s u is_kept made_by to ws result m same has =
    let means = operand_is p (λ a. with_4 q r s u (to a)) (operand_then q (operand_then r (operand_then s (last u)))) (λ t. to t.0 t.1.0 t.1.1.0 t.1.1.1.0 t.1.1.1.1) (λ a. operand_is q (λ b. with_3 r s u (to a b)) (operand_then r (operand_then s (last u))) (λ t. to a t.0 t.1.0 t.1.1.0 t.1.1.1) (λ b. operand_is r (λ c. with_2 s u (to a b c)) (operand_then s (last u)) (λ t. to a b t.0 t.1.0 t.1.1) (λ c. operand_is s (λ d. with_1 u (to a b c d)) (last u) (λ t. to a b c t.0 t.1) (λ d. last_is u (to a b c d))))) ws in
    rw means (made is_kept made_by (λ t. to t.0 t.1.0 t.1.1.0 t.1.1.1.0 t.1.1.1.1) _ result m (λ t. same t.0 t.1.0 t.1.1.0 t.1.1.1.0 t.1.1.1.1) (λ t. has t.0 t.1.0 t.1.1.0 t.1.1.1.0 t.1.1.1.1))

-- rows with other names are passed over
pub others : (from to : ℕ) (name : List ℕ) (operands : List (List ℕ)) (result : Result Command Fault)
    → named_from from name operands ≡ named_from to name operands → ReadsAs command_has_bytes (named_from to name operands) result
    → ReadsAs command_has_bytes (named_from from name operands) result
others from to name operands result same made = subst (λ o. ReadsAs command_has_bytes o result) (sym same) made

-- behind the last row there is none
pub none_behind : (from : ℕ) (name : List ℕ) (operands : List (List ℕ)) → named_from from name operands ≡ named_from 90 name operands
    → ReadsAs command_has_bytes (named_from from name operands) (Err faults.BadCommand)
unfolding named_from
none_behind from name operands none = inl (refl, none)

-- how many bytes a name has
abbrev pub is_length : ℕ → Bool
is_length n = n == 3 || n == 4 || n == 5 || n == 6 || n == 7 || n == 8 || n == 10 || n == 13

abbrev have_lengths : List (List ℕ × (List (List ℕ) → Option Command)) → Bool
have_lengths [] = true
have_lengths (row ∷ rows) = is_length (length row.0) && have_lengths rows

no_row : (name : List ℕ) (operands : List (List ℕ)) (rows : List (List ℕ × (List (List ℕ) → Option Command)))
    → is_length (length name) ≡ false → have_lengths rows ≡ true → by_name name operands rows ≡ None
no_row name operands [] differs all = refl
no_row name operands (row ∷ rows) differs all =
    let parts = and_parts (is_length (length row.0)) (have_lengths rows) all in
    elim (cases_Bool (same_bytes name row.0)) [
      | inl same ↦
          let called : name ≡ row.0 = same_bytes-is name row.0 same in
          cc (sym differs ∙ ap (λ (n : List ℕ). is_length (length n)) called ∙ parts.0)
      | inr other ↦ ap (λ b. if b then row.1 operands else by_name name operands rows) other ∙ no_row name operands rows differs parts.1
    ]

-- a name of another length is in no row
pub of_no_length : (name : List ℕ) (operands : List (List ℕ)) → is_length (length name) ≡ false → named_from 0 name operands ≡ None
unfolding named_from
of_no_length name operands differs = no_row name operands commands_by_name differs refl
