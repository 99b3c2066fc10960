-- Places as C sees them, and how they are handed out.
use Rattle.std.specs.Prelude.{◌≡◌, ◌-◌, ◌++◌, ℕ, ℤ, pos, nat_le, if◌then◌else◌, List, length, map, take, drop}
use Rattle.geos_model.specs.Refusal.{number_of_fault}
use Rattle.geos_model.specs.Reply.{Reply, PlacesAre, Refused}
use Rattle.geos_model.specs.declared.command.Command.{Command}
use Rattle.geos_model.specs.declared.place.Place.{Place}
use Rattle.geos_model.specs.declared.place.Place.TheVariants as place
use Rattle.vm_store.specs.Facts.{StoreFacts}
use Rattle.undo_log.specs.Sessions.{SessionState}
use Rattle.c_sessions.specs.Codes.{cut_off}
use Rattle.geos_c.specs.LookUps.{ReportsReply}
use Rattle.geos_c.specs.declared.places.ToldPlace.{ToldPlace}

-- one that is no run, by its kind and by what it names, 0 where it names none
abbrev pub whole : ℕ → ℕ → ℕ → ToldPlace
whole kind block chunk = record { kind = kind; block = block; chunk = chunk; at = 0; before = 0; after = 0 }

abbrev pub told_place : Place → ToldPlace
told_place place.All = whole 0 0 0
told_place place.MapBlock = whole 1 0 0
told_place (place.Attributes b) = whole 2 b.0 0
told_place (place.Block b) = whole 3 b.0 0
told_place (place.Chunk b c) = whole 4 b.0 c.0
told_place (place.Run b c at before after) =
    record { kind = 5; block = b.0; chunk = c.0; at = at; before = before; after = after }

-- Of the places those from one on, as many as fit, stand at the start of the buffer, the rest of which stays; how many
-- there are in all is told, and the code whether those from that one on fit.
pub record HandsOutFrom (first : ℕ) (places : List Place) (old new : List ToldPlace)
    (count : ℕ) (code : ℤ) : Type 0 where
  pub count_is : count ≡ length places
  pub buffer : new ≡ take (length old) (map told_place (drop first places)) ++ drop (length places - first) old
  pub code_is : code ≡ (if nat_le (length places - first) (length old) then pos 0 else cut_off)

-- The places that a reply has are handed out; where it is a refusal none are, and the code is the fault's number.
abbrev pub HandsOutPlaces : ℕ → Reply → List ToldPlace → List ToldPlace → ℕ → ℤ → Type 0
HandsOutPlaces first (PlacesAre places) old new count code = HandsOutFrom first places old new count code
HandsOutPlaces first (Refused fault) old new count code =
    (new ≡ old) × (count ≡ 0) × (code ≡ pos (number_of_fault fault))
HandsOutPlaces first reply old new count code = ⊥

-- The places that a look-up answers are handed out, or it is refused.
abbrev pub ReadsPlaces : {S : Type 0} → (S → StoreFacts) → Command → ℕ → SessionState S → SessionState S
    → List ToldPlace → List ToldPlace → ℕ → ℤ → Type 0
ReadsPlaces facts command first old new before after count code =
    ReportsReply facts command (λ reply told. HandsOutPlaces first reply before after count told) old new code
