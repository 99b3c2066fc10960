-- The codes of documents and machines, by which a proof tells their values apart.
use Rattle.std.specs.Prelude.{◌≡◌, ℕ, Bool, true, false, List, Option, Some, None, refl}
use Rattle.std.specs.Coded.{Coded, code_by, coded×, coded_ℕ, coded_bool, coded_list, coded_option}
use Rattle.std.specs.Ordering.{nat_cmp}
use Rattle.std.specs.FinMap.{FinMap, code}
use Rattle.geos_model.specs.Document.{Block, Document}
use Rattle.geos_model.specs.Position.{Position, Back, Ahead, Nowhere}
use Rattle.geos_model.specs.Machine.{UndoStep, OpenGroup, Machine}
use Rattle.geos_model.specs.declared.block.Attributes.{Attributes}
use Rattle.geos_model.specs.contracts.block.Attributes as attributes_type
use Rattle.geos_model.specs.declared.command.Body.{Body}
use Rattle.geos_model.specs.contracts.command.Body as body_type
use Rattle.geos_model.specs.declared.command.Kind.{Kind}
use Rattle.geos_model.specs.contracts.command.Kind as kind_type
use Rattle.geos_model.specs.declared.place.Place.{Place}
use Rattle.geos_model.specs.contracts.place.Place as place_type

abbrev pub body_code : Coded Body
body_code = body_type.the_row.coded

abbrev pub block_code : Coded Block
block_code = code_by (Attributes × Body) (coded× attributes_type.the_row.coded body_code) (λ b. (b.attributes, b.body)) (λ p. record { attributes = p.0; body = p.1 }) (λ _. refl)

abbrev pub document_code : Coded Document
document_code =
    code_by (FinMap nat_cmp Block × ℕ) (coded× (code coded_ℕ block_code) coded_ℕ) (λ d. (d.blocks, d.map_block)) (λ p. record { blocks = p.0; map_block = p.1 }) (λ _. refl)

abbrev pub places_code : Coded (List Place)
places_code = coded_list place_type.the_row.coded

abbrev pub step_code : Coded UndoStep
step_code =
    code_by (Kind × (ℕ × (Document × List Place))) (coded× kind_type.the_row.coded (coded× coded_ℕ (coded× document_code places_code))) (λ s. (s.kind, (s.cost, (s.document, s.places)))) (λ p. record { kind = p.0; cost = p.1.0; document = p.1.1.0; places = p.1.1.1 }) (λ _. refl)

-- steps with their names
abbrev steps_code : Coded (List UndoStep × List (List ℕ))
steps_code = coded× (coded_list step_code) (coded_list (coded_list coded_ℕ))

abbrev pub group_code : Coded OpenGroup
group_code =
    code_by (Document × (Bool × (ℕ × List Place))) (coded× document_code (coded× coded_bool (coded× coded_ℕ places_code))) (λ g. (g.before, (g.edited, (g.cost, g.places)))) (λ p. record { before = p.0; edited = p.1.0; cost = p.1.1.0; places = p.1.1.1 }) (λ _. refl)

-- a position by what leads to it, nothing where no steps do, and how many steps
abbrev pub position_code : Coded Position
position_code = code_by (Option (Bool × ℕ)) (coded_option (coded× coded_bool coded_ℕ)) key made is
  where
    key : Position → Option (Bool × ℕ)
    key (Back n) = Some (false, n)
    key (Ahead n) = Some (true, n)
    key Nowhere = None

    made : Option (Bool × ℕ) → Position
    made None = Nowhere
    made (Some (false, n)) = Back n
    made (Some (true, n)) = Ahead n

    is : (p : Position) → made (key p) ≡ p
    is (Back n) = refl
    is (Ahead n) = refl
    is Nowhere = refl

-- a machine's part that is edited, and the part that its file and its session have
abbrev MachineFields : Type 0
MachineFields =
    ((Document × ((List UndoStep × List (List ℕ)) × ((List UndoStep × List (List ℕ)) × Option OpenGroup))) × (Position × (Position × (List Place × Option ℕ))))
    × ((Document × Document) × (FinMap nat_cmp ℕ × (ℕ × (Bool × ℕ))))

abbrev machine_fields_code : Coded MachineFields
machine_fields_code =
    coded× (
    coded× (coded× document_code (coded× steps_code (coded× steps_code (coded_option group_code))))
    (coded× position_code (coded× position_code (coded× places_code (coded_option coded_ℕ))))
    )
    (coded× (coded× document_code document_code) (coded× (code coded_ℕ coded_ℕ) (coded× coded_ℕ (coded× coded_bool coded_ℕ))))

abbrev pub machine_code : Coded Machine
machine_code =
    code_by MachineFields machine_fields_code
    (λ m. (((m.document, ((m.past, m.past_names), ((m.future, m.future_names), m.group))), (m.updated_at, (m.saved_at, (m.touched, m.undo_limit)))), ((m.updated, m.saved), (m.locks, (m.frames, (m.target, m.sequence))))))
    (λ p. record {
      document = p.0.0.0;
      past = p.0.0.1.0.0;
      future = p.0.0.1.1.0.0;
      past_names = p.0.0.1.0.1;
      future_names = p.0.0.1.1.0.1;
      group = p.0.0.1.1.1;
      updated_at = p.0.1.0;
      saved_at = p.0.1.1.0;
      touched = p.0.1.1.1.0;
      undo_limit = p.0.1.1.1.1;
      updated = p.1.0.0;
      saved = p.1.0.1;
      locks = p.1.1.0;
      frames = p.1.1.1.0;
      target = p.1.1.1.1.0;
      sequence = p.1.1.1.1.1;
    }) (λ _. refl)
