-- What a look-up answers has the form that it asks for.
use Rattle.std.proofs.Common.{◌≡◌, ◌∷◌, ℕ, Bool, true, Option, Some, None, Result, Ok, Err, refl, sym, subst, inl, inr}
use Rattle.std.specs.FinMap.{get}
use Rattle.std.specs.Option.{option_map, option_map_or}
use Rattle.geos_model.specs.Document.{Block, Document}
use Rattle.geos_model.specs.Forms.{Form, form_asked, has_form}
use Rattle.geos_model.specs.Forms as forms
use Rattle.geos_model.specs.Meaning.{chunk_at}
use Rattle.geos_model.specs.NameEdits.{names_in, token_of_text}
use Rattle.geos_model.specs.Refusal.{first_refusal}
use Rattle.geos_model.specs.Reply.{Reply, Refused, TokenIs, body_info, look_up, look_up_conditions, reply_by}
use Rattle.geos_model.specs.declared.command.Body.{Body}
use Rattle.geos_model.specs.declared.command.Body.TheVariants as bodies
use Rattle.geos_model.specs.declared.command.Command.{Command}
use Rattle.geos_model.specs.declared.command.Command.TheVariants as commands
use Rattle.geos_model.specs.declared.fault.Fault.{Fault}
use Rattle.geos_model.specs.declared.fault.Fault.TheVariants.{CacheFull}
use Rattle.doc_edits.specs.LookUps.{LooksUp}

same_form : (form : Form) (x reply : Reply) → has_form x form ≡ true → Some x ≡ Some reply → has_form reply form ≡ true
same_form form x reply has is = let same : x ≡ reply = cc is in subst (λ (r : Reply). has_form r form ≡ true) same has

info_form : (block : Option Block) (reply : Reply) → option_map (λ (b : Block). body_info b.attributes.user_id b.body) block ≡ Some reply → has_form reply forms.Info ≡ true
info_form None reply is = cc is
info_form (Some b) reply is = same_form forms.Info (body_info b.attributes.user_id b.body) reply (of_body b.attributes.user_id b.body) is
  where
    of_body : (uid : ℕ) (body : Body) → has_form (body_info uid body) forms.Info ≡ true
    of_body uid (bodies.Raw bytes) = refl
    of_body uid (bodies.Heap m) = refl

token_form : (token : Option ℕ) (reply : Reply) → option_map TokenIs token ≡ Some reply → has_form reply forms.Name ≡ true
token_form None reply is = cc is
token_form (Some t) reply is = same_form forms.Name (TokenIs t) reply refl is

looked_form : (c : Command) (d : Document) (reply : Reply) → look_up c d ≡ Some reply → has_form reply (form_asked c) ≡ true
looked_form (commands.Info b) d reply is = info_form (get d.blocks b.0) reply is
looked_form (commands.NameFind b c text) d reply is = token_form (token_of_text (names_in (chunk_at d b.0 c.0)) text) reply is
looked_form (commands.HeapType b) d reply is = same_form forms.Number _ reply refl is
looked_form commands.List d reply is = same_form forms.Names _ reply refl is
looked_form (commands.Find uid start) d reply is = same_form forms.Name _ reply refl is
looked_form commands.MapBlock d reply is = same_form forms.Name _ reply refl is
looked_form (commands.ReadRaw b) d reply is = same_form forms.Bytes _ reply refl is
looked_form (commands.Chunks b) d reply is = same_form forms.Names _ reply refl is
looked_form (commands.Read b c) d reply is = same_form forms.Bytes _ reply refl is
looked_form (commands.ArrayCount b c) d reply is = same_form forms.Number _ reply refl is
looked_form (commands.ArrayElement b c i) d reply is = same_form forms.Bytes _ reply refl is
looked_form (commands.ElementReferences b c t) d reply is = same_form forms.Number _ reply refl is
looked_form (commands.ElementBytes b c t) d reply is = same_form forms.Bytes _ reply refl is
looked_form (commands.ElementsUsed b c) d reply is = same_form forms.Number _ reply refl is
looked_form (commands.TokenOfUsed b c k) d reply is = same_form forms.Name _ reply refl is
looked_form (commands.UsedOfToken b c t) d reply is = same_form forms.Number _ reply refl is
looked_form (commands.NameReferences b c t) d reply is = same_form forms.Number _ reply refl is
looked_form (commands.NameText b c t) d reply is = same_form forms.Bytes _ reply refl is
looked_form (commands.NamePart b c t) d reply is = same_form forms.Bytes _ reply refl is
looked_form (commands.Walk b) d reply is = same_form forms.Names _ reply refl is
looked_form (commands.ChainSize b) d reply is = same_form forms.Number _ reply refl is
looked_form (commands.ChainEqual b other) d reply is = same_form forms.Equal _ reply refl is
looked_form (commands.LargeCount b) d reply is = same_form forms.Number _ reply refl is
looked_form (commands.LargeElement b i) d reply is = same_form forms.Bytes _ reply refl is
looked_form (commands.LargeRun b i n) d reply is = same_form forms.Bytes _ reply refl is
looked_form commands.Undos d reply is = cc is
looked_form commands.Redos d reply is = cc is
looked_form commands.Modified d reply is = cc is
looked_form commands.UndoName d reply is = cc is
looked_form commands.RedoName d reply is = cc is
looked_form commands.Touched d reply is = cc is
looked_form commands.UndoPlaces d reply is = cc is
looked_form commands.RedoPlaces d reply is = cc is
looked_form commands.AbandonPlaces d reply is = cc is
looked_form commands.Blank d reply is = cc is
looked_form (commands.Edit e) d reply is = cc is
looked_form commands.Undo d reply is = cc is
looked_form commands.Redo d reply is = cc is
looked_form commands.Begin d reply is = cc is
looked_form commands.End d reply is = cc is
looked_form commands.Abandon d reply is = cc is
looked_form commands.Join d reply is = cc is
looked_form (commands.Forget most) d reply is = cc is
looked_form (commands.Name name) d reply is = cc is
looked_form commands.Update d reply is = cc is
looked_form commands.Save d reply is = cc is
looked_form commands.Revert d reply is = cc is
looked_form commands.SaveAs d reply is = cc is
looked_form (commands.Lock b) d reply is = cc is
looked_form (commands.Unlock b) d reply is = cc is
looked_form (commands.Dirty b) d reply is = cc is
looked_form (commands.Locks b) d reply is = cc is

refused_or : (c : Command) (d : Document) (first : Option Fault) (reply : Reply) → option_map_or (λ fault. Some (Refused fault)) first (look_up c d) ≡ Some reply → has_form reply (form_asked c) ≡ true
refused_or c d None reply is = looked_form c d reply is
refused_or c d (Some fault) reply is = same_form (form_asked c) (Refused fault) reply refl is

-- whatever else may come in its place is a refusal
pub looks_form : (lacks : Fault → Type 0) (no_room : Bool) (c : Command) (d : Document) (reply : Reply) → LooksUp lacks no_room c d reply → has_form reply (form_asked c) ≡ true
looks_form lacks no_room c d reply (inl lack) = subst (λ (r : Reply). has_form r (form_asked c) ≡ true) (sym lack.2) refl
looks_form lacks no_room c d reply (inr is) = refused_or c d (first_refusal ((CacheFull, no_room) ∷ look_up_conditions c d)) reply is

-- and so is what a call answers, or a refusal
pub by_form : {T : Type 0} (form : Form) (f : T → Reply) → ((x : T) → has_form (f x) form ≡ true) → (r : Result T Fault) → has_form (reply_by f r) form ≡ true
by_form form f has (Ok x) = has x
by_form form f has (Err fault) = refl
