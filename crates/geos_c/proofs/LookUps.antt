-- A command that asks for something is seen as a look-up, and answered in the form that it asks for.
use Rattle.std.proofs.Common.{◌≡◌, ◌∙◌, true, false, ap, refl, subst, sym, MatchOption, Option, Some, None}
use Rattle.std.specs.Prelude.{IsSome}
use Rattle.geos_model.specs.Forms.{Form, form_asked, has_form}
use Rattle.geos_model.specs.Forms as forms
use Rattle.geos_model.specs.LookUps.{command_of, is_look_up}
use Rattle.geos_model.specs.Reply.{Reply}
use Rattle.geos_model.specs.declared.command.Command.{Command}
use Rattle.geos_model.specs.declared.command.Command.TheVariants as commands
use Rattle.geos_model.specs.declared.look_up.LookUp.{LookUp}

asks_nothing : (c : Command) → is_look_up c ≡ false → form_asked c ≡ forms.Nothing
asks_nothing (commands.HeapType b) isnt = cc isnt
asks_nothing commands.List isnt = cc isnt
asks_nothing (commands.Find uid start) isnt = cc isnt
asks_nothing commands.MapBlock isnt = cc isnt
asks_nothing (commands.Locks b) isnt = cc isnt
asks_nothing commands.Undos isnt = cc isnt
asks_nothing commands.Redos isnt = cc isnt
asks_nothing commands.Modified isnt = cc isnt
asks_nothing commands.UndoName isnt = cc isnt
asks_nothing commands.RedoName isnt = cc isnt
asks_nothing commands.Touched isnt = cc isnt
asks_nothing commands.UndoPlaces isnt = cc isnt
asks_nothing commands.RedoPlaces isnt = cc isnt
asks_nothing commands.AbandonPlaces isnt = cc isnt
asks_nothing (commands.Info b) isnt = cc isnt
asks_nothing (commands.ReadRaw b) isnt = cc isnt
asks_nothing (commands.Chunks b) isnt = cc isnt
asks_nothing (commands.Read b c) isnt = cc isnt
asks_nothing (commands.ArrayCount b c) isnt = cc isnt
asks_nothing (commands.ArrayElement b c i) isnt = cc isnt
asks_nothing (commands.ElementReferences b c t) isnt = cc isnt
asks_nothing (commands.ElementBytes b c t) isnt = cc isnt
asks_nothing (commands.ElementsUsed b c) isnt = cc isnt
asks_nothing (commands.TokenOfUsed b c k) isnt = cc isnt
asks_nothing (commands.UsedOfToken b c t) isnt = cc isnt
asks_nothing (commands.NameFind b c text) isnt = cc isnt
asks_nothing (commands.NameReferences b c t) isnt = cc isnt
asks_nothing (commands.NameText b c t) isnt = cc isnt
asks_nothing (commands.NamePart b c t) isnt = cc isnt
asks_nothing (commands.Walk b) isnt = cc isnt
asks_nothing (commands.ChainSize b) isnt = cc isnt
asks_nothing (commands.ChainEqual b other) isnt = cc isnt
asks_nothing (commands.LargeCount b) isnt = cc isnt
asks_nothing (commands.LargeElement b i) isnt = cc isnt
asks_nothing (commands.LargeRun b i n) isnt = cc isnt
asks_nothing command isnt = refl

module _ (c : Command) (o : Option LookUp) (seen : MatchOption o (is_look_up c ≡ false) (λ look_up. command_of look_up ≡ c)) where
  pub is_seen : (form : Form) → form_asked c ≡ form → (form ≡ forms.Nothing → ⊥) → IsSome o
  is_seen form asks some = seen_so o seen
    where
      seen_so : (o : Option LookUp) → MatchOption o (is_look_up c ≡ false) (λ look_up. command_of look_up ≡ c) → IsSome o
      seen_so (Some look_up) is = refl
      seen_so None isnt = absurd (some (sym asks ∙ asks_nothing c isnt))

  pub seen_as : (look_up : LookUp) → o ≡ Some look_up → command_of look_up ≡ c
  seen_as look_up was = subst (λ (o : Option LookUp). MatchOption o (is_look_up c ≡ false) (λ look_up. command_of look_up ≡ c)) was seen

  pub told_form : (form : Form) → form_asked c ≡ form → (look_up : LookUp) → o ≡ Some look_up → (reply : Reply) → has_form reply (form_asked (command_of look_up)) ≡ true → has_form reply form ≡ true
  told_form form asks look_up was reply has = subst (λ (f : Form). has_form reply f ≡ true) (ap form_asked (seen_as look_up was) ∙ asks) has
