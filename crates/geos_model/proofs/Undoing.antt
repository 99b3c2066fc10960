-- What a call does to the machine, by whether it is refused.
use Rattle.std.proofs.Common.{◌≡◌, ℕ, Bool, true, false, ◌&&◌, ◌||◌, Option, Some, None, is_some, refl, sym, ap, subst, ◌∙◌, inl, inr}
use Rattle.std.specs.Option.{option_map, option_map_or}
use Rattle.std.specs.FinMap.{get}
use Rattle.geos_model.specs.Refusal.{first_refusal}
use Rattle.geos_model.specs.Document.{Block}
use Rattle.geos_model.specs.Meaning.{effect, chunk_at}
use Rattle.geos_model.specs.NameEdits.{names_in, token_of_text}
use Rattle.geos_model.specs.Reply.{Reply, Refused, Accepted, TokenIs, reply_of_done, body_info, look_up}
use Rattle.geos_model.specs.Machine.{Machine, Request, OpenGroup, Step, command_conditions, done_by, undone, redone, ended, abandoned, in_group}
use Rattle.geos_model.specs.Undoing.{is_refused, moves}
use Rattle.geos_model.specs.declared.fault.Fault.{Fault}
use Rattle.geos_model.specs.declared.command.Body.{Body}
use Rattle.geos_model.specs.declared.command.Body.TheVariants.{Raw, Heap}
use Rattle.geos_model.specs.declared.command.Done.{Done}
use Rattle.geos_model.specs.declared.command.Done.TheVariants as done
use Rattle.geos_model.specs.declared.command.Command.{Command}
use Rattle.geos_model.specs.declared.command.Command.TheVariants as commands

-- what an edit did is no refusal
reply_of_done-answers : (d : Done) → is_refused (reply_of_done d) ≡ false
reply_of_done-answers done.Nothing = refl
reply_of_done-answers (done.Block b) = refl
reply_of_done-answers (done.Chunk c) = refl
reply_of_done-answers (done.Token t) = refl

-- of a body the information is no refusal
body_info-answers : (uid : ℕ) (body : Body) → is_refused (body_info uid body) ≡ false
body_info-answers uid (Raw bytes) = refl
body_info-answers uid (Heap chunks) = refl

-- what holds of the reply and the machine after it, if there is an answer
abbrev pub OnDone : (Reply → Machine → Type 0) → Option (Reply × Machine) → Type 0
OnDone P None = Unit {0}
OnDone P (Some (reply, new)) = P reply new

pub on_done : (P : Reply → Machine → Type 0) (o : Option (Reply × Machine)) (reply : Reply) (new : Machine) → OnDone P o → o ≡ Some (reply, new) → P reply new
on_done P o reply new holds is = subst (OnDone P) is holds

-- The answer is no refusal.
abbrev pub IsAnswer : Reply → Machine → Type 0
IsAnswer reply new = is_refused reply ≡ false

-- that of a block isn't, whether it is there or not, nor that of a name
info-answers : (m : Machine) (block : Option Block) → OnDone IsAnswer (option_map (λ reply. (reply, m)) (option_map (λ b. body_info b.attributes.user_id b.body) block))
info-answers m None = tt
info-answers m (Some block) = body_info-answers block.attributes.user_id block.body

name-answers : (m : Machine) (token : Option ℕ) → OnDone IsAnswer (option_map (λ reply. (reply, m)) (option_map TokenIs token))
name-answers m None = tt
name-answers m (Some token) = refl

moved-answers : (new : Option Machine) → OnDone IsAnswer (option_map (λ m. (Accepted, m)) new)
moved-answers None = tt
moved-answers (Some m) = refl

closed-answers : (new : OpenGroup → Machine) (group : Option OpenGroup) → OnDone IsAnswer (option_map (λ g. (Accepted, new g)) group)
closed-answers new None = tt
closed-answers new (Some g) = refl

-- what nothing refuses answers no refusal
pub done_by-answers : (c : Command) (m : Machine) → OnDone IsAnswer (done_by c m)
done_by-answers (commands.Edit e) m = reply_of_done-answers (effect e m.document).1
done_by-answers (commands.Info b) m = info-answers m (get m.document.blocks b.0)
done_by-answers commands.Blank m = tt
done_by-answers commands.Undo m = moved-answers (undone m m.past)
done_by-answers commands.Redo m = moved-answers (redone m m.future)
done_by-answers commands.Begin m = refl
done_by-answers commands.End m = closed-answers (λ g. ended g m) m.group
done_by-answers commands.Abandon m = closed-answers (λ g. abandoned g m) m.group
done_by-answers commands.Join m = refl
done_by-answers (commands.Forget most) m = refl
done_by-answers (commands.Name name) m = refl
done_by-answers commands.Update m = refl
done_by-answers commands.Save m = refl
done_by-answers commands.Revert m = refl
done_by-answers commands.SaveAs m = refl
done_by-answers (commands.HeapType b) m = refl
done_by-answers commands.List m = refl
done_by-answers (commands.Find uid start) m = refl
done_by-answers commands.MapBlock m = refl
done_by-answers (commands.ReadRaw b) m = refl
done_by-answers (commands.Chunks b) m = refl
done_by-answers (commands.Read b c) m = refl
done_by-answers (commands.ArrayCount b c) m = refl
done_by-answers (commands.ArrayElement b c i) m = refl
done_by-answers (commands.ElementReferences b c t) m = refl
done_by-answers (commands.ElementBytes b c t) m = refl
done_by-answers (commands.ElementsUsed b c) m = refl
done_by-answers (commands.TokenOfUsed b c k) m = refl
done_by-answers (commands.UsedOfToken b c t) m = refl
done_by-answers (commands.NameFind b c text) m = name-answers m (token_of_text (names_in (chunk_at m.document b.0 c.0)) text)
done_by-answers (commands.NameReferences b c t) m = refl
done_by-answers (commands.NameText b c t) m = refl
done_by-answers (commands.NamePart b c t) m = refl
done_by-answers (commands.Walk b) m = refl
done_by-answers (commands.ChainSize b) m = refl
done_by-answers (commands.ChainEqual b other) m = refl
done_by-answers (commands.LargeCount b) m = refl
done_by-answers (commands.LargeElement b i) m = refl
done_by-answers (commands.LargeRun b i n) m = refl
done_by-answers (commands.Lock b) m = refl
done_by-answers (commands.Unlock b) m = refl
done_by-answers (commands.Dirty b) m = refl
done_by-answers (commands.Locks b) m = refl
done_by-answers commands.Undos m = refl
done_by-answers commands.Redos m = refl
done_by-answers commands.Modified m = refl
done_by-answers commands.UndoName m = refl
done_by-answers commands.RedoName m = refl
done_by-answers commands.Touched m = refl
done_by-answers commands.UndoPlaces m = refl
done_by-answers commands.RedoPlaces m = refl
done_by-answers commands.AbandonPlaces m = refl

-- The machine is this one.
abbrev pub IsAt : Machine → Reply → Machine → Type 0
IsAt m reply new = new ≡ m

looked_up-stays : (m : Machine) (reply : Option Reply) → OnDone (IsAt m) (option_map (λ r. (r, m)) reply)
looked_up-stays m None = tt
looked_up-stays m (Some reply) = refl

-- an update, a save or a save-as
abbrev pub stores : Command → Bool
stores commands.Update = true
stores commands.Save = true
stores commands.SaveAs = true
stores c = false

-- a lock or an unlock
abbrev pub counts_locks : Command → Bool
counts_locks (commands.Lock b) = true
counts_locks (commands.Unlock b) = true
counts_locks c = false

-- one that begins or ends a group
abbrev pub groups : Command → Bool
groups commands.Begin = true
groups commands.End = true
groups commands.Abandon = true
groups c = false

-- one that names a step
abbrev pub names : Command → Bool
names (commands.Name name) = true
names c = false

-- a command that moves nothing, stores nothing, counts no lock, begins or ends no group and names no step leaves the
-- machine
pub done_by-stays : (c : Command) (m : Machine) → (moves (Some c) || stores c || counts_locks c || groups c || names c) ≡ false → OnDone (IsAt m) (done_by c m)
done_by-stays (commands.Edit e) m h = absurd (cc h)
done_by-stays commands.Undo m h = absurd (cc h)
done_by-stays commands.Redo m h = absurd (cc h)
done_by-stays commands.Join m h = absurd (cc h)
done_by-stays (commands.Forget most) m h = absurd (cc h)
done_by-stays (commands.Name name) m h = absurd (cc h)
done_by-stays commands.Update m h = absurd (cc h)
done_by-stays commands.Save m h = absurd (cc h)
done_by-stays commands.Revert m h = absurd (cc h)
done_by-stays commands.SaveAs m h = absurd (cc h)
done_by-stays (commands.Lock b) m h = absurd (cc h)
done_by-stays (commands.Unlock b) m h = absurd (cc h)
done_by-stays commands.Begin m h = absurd (cc h)
done_by-stays commands.End m h = absurd (cc h)
done_by-stays commands.Abandon m h = absurd (cc h)
done_by-stays (commands.Dirty b) m h = refl
done_by-stays (commands.Locks b) m h = refl
done_by-stays commands.Blank m h = tt
done_by-stays (commands.Info b) m h = looked_up-stays m (look_up (commands.Info b) m.document)
done_by-stays (commands.HeapType b) m h = refl
done_by-stays commands.List m h = refl
done_by-stays (commands.Find uid start) m h = refl
done_by-stays commands.MapBlock m h = refl
done_by-stays (commands.ReadRaw b) m h = refl
done_by-stays (commands.Chunks b) m h = refl
done_by-stays (commands.Read b c) m h = refl
done_by-stays (commands.ArrayCount b c) m h = refl
done_by-stays (commands.ArrayElement b c i) m h = refl
done_by-stays (commands.ElementReferences b c t) m h = refl
done_by-stays (commands.ElementBytes b c t) m h = refl
done_by-stays (commands.ElementsUsed b c) m h = refl
done_by-stays (commands.TokenOfUsed b c k) m h = refl
done_by-stays (commands.UsedOfToken b c t) m h = refl
done_by-stays (commands.NameFind b c text) m h = looked_up-stays m (look_up (commands.NameFind b c text) m.document)
done_by-stays (commands.NameReferences b c t) m h = refl
done_by-stays (commands.NameText b c t) m h = refl
done_by-stays (commands.NamePart b c t) m h = refl
done_by-stays (commands.Walk b) m h = refl
done_by-stays (commands.ChainSize b) m h = refl
done_by-stays (commands.ChainEqual b other) m h = refl
done_by-stays (commands.LargeCount b) m h = refl
done_by-stays (commands.LargeElement b i) m h = refl
done_by-stays (commands.LargeRun b i n) m h = refl
done_by-stays commands.Undos m h = refl
done_by-stays commands.Redos m h = refl
done_by-stays commands.Modified m h = refl
done_by-stays commands.UndoName m h = refl
done_by-stays commands.RedoName m h = refl
done_by-stays commands.Touched m h = refl
done_by-stays commands.UndoPlaces m h = refl
done_by-stays commands.RedoPlaces m h = refl
done_by-stays commands.AbandonPlaces m h = refl

-- a reply and the machine after it
abbrev pub answer : Reply → Machine → Option (Reply × Machine)
answer reply m = Some (reply, m)

-- one answer is one reply and one machine
pub same_reply : {x reply : Reply} {m new : Machine} → answer x m ≡ answer reply new → x ≡ reply
same_reply {x = x} {m = m} h = ap (λ (o : Option (Reply × Machine)). option_map_or (λ p. p.0) o x) h

pub same_machine : {x reply : Reply} {m new : Machine} → answer x m ≡ answer reply new → m ≡ new
same_machine {x = x} {m = m} h = ap (λ (o : Option (Reply × Machine)). option_map_or (λ p. p.1) o m) h

-- where the reply is a refusal, the machine stays
refusal-stays : (refusal : Option Fault) (m : Machine) (after : Option (Reply × Machine)) → OnDone IsAnswer after → (reply : Reply) (new : Machine)
    → option_map_or (λ fault. Some (Refused fault, m)) refusal after ≡ Some (reply, new) → is_refused reply ≡ true → new ≡ m
refusal-stays (Some fault) m after answers reply new is h = sym (same_machine is)
refusal-stays None m after answers reply new is h = let no : false ≡ true = sym (on_done IsAnswer after reply new answers is) ∙ h in absurd (cc)

-- where it is none, the machine goes where the command takes it
no_refusal-done : (refusal : Option Fault) (m : Machine) (after : Option (Reply × Machine)) (reply : Reply) (new : Machine)
    → option_map_or (λ fault. Some (Refused fault, m)) refusal after ≡ Some (reply, new) → is_refused reply ≡ false → after ≡ Some (reply, new)
no_refusal-done (Some fault) m after reply new is h = let no : true ≡ false = ap is_refused (same_reply is) ∙ h in absurd (cc)
no_refusal-done None m after reply new is h = is

-- a refused request leaves the machine
pub refused : {failed : Bool} {old new : Machine} (request : Request) (reply : Reply) → Step failed old request reply new → is_refused reply ≡ true → new ≡ old
refused None reply (inl is) h = sym (same_machine is)
refused {old = old} {new = new} (Some c) reply (inl is) h =
    refusal-stays (first_refusal (command_conditions c old)) old (done_by c old) (done_by-answers c old) reply new is h
refused request reply (inr out) h = out.stays

-- a line that is no command is refused
pub bad_line-refused : {failed : Bool} {old new : Machine} (reply : Reply) → Step failed old None reply new → is_refused reply ≡ false → ⊥
bad_line-refused reply (inl is) h = let no : true ≡ false = ap is_refused (same_reply is) ∙ h in absurd (cc)
bad_line-refused reply (inr out) h = absurd (cc (ap is_refused (sym out.says) ∙ h))

-- a command that isn't refused was answered by the machine itself
pub answered : {failed : Bool} {old new : Machine} (c : Command) (reply : Reply) → Step failed old (Some c) reply new → is_refused reply ≡ false → done_by c old ≡ Some (reply, new)
answered {old = old} {new = new} c reply (inl is) h = no_refusal-done (first_refusal (command_conditions c old)) old (done_by c old) reply new is h
answered c reply (inr out) h = absurd (cc (ap is_refused (sym out.says) ∙ h))

-- so nothing refused it
pub none_refuses : {failed : Bool} {old new : Machine} (c : Command) (reply : Reply) → Step failed old (Some c) reply new → is_refused reply ≡ false
    → first_refusal (command_conditions c old) ≡ None
none_refuses {old = old} {new = new} c reply (inl is) h = by_refusal (first_refusal (command_conditions c old)) is
  where
    by_refusal : (refusal : Option Fault) → option_map_or (λ fault. Some (Refused fault, old)) refusal (done_by c old) ≡ Some (reply, new) → refusal ≡ None
    by_refusal None is = refl
    by_refusal (Some fault) is = let no : true ≡ false = ap is_refused (same_reply is) ∙ h in absurd (cc)
none_refuses c reply (inr out) h = absurd (cc (ap is_refused (sym out.says) ∙ h))

-- a machine in no group has none
pub not_in_group : (m : Machine) → in_group m ≡ false → m.group ≡ None
not_in_group m h = by_group m.group h
  where
    by_group : (group : Option OpenGroup) → is_some group ≡ false → group ≡ None
    by_group None h = refl
    by_group (Some g) h = absurd (cc h)

-- both parts of a conjunction that holds
pub both_true : (a b : Bool) → (a && b) ≡ true → (a ≡ true) × (b ≡ true)
both_true true b h = (refl, h)
both_true false b h = absurd (cc h)
