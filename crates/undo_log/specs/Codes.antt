-- The code of a session's value, by which a proof tells two apart.
use Rattle.std.specs.Prelude.{ℕ, List, Bool, Option, refl}
use Rattle.std.specs.Coded.{Coded, code_by, coded×, coded_list, coded_option, coded_bool, coded_ℕ}
use Rattle.geos_model.specs.Position.{Position}
use Rattle.geos_model.proofs.Codes.{places_code, position_code}
use Rattle.geos_model.specs.declared.place.Place.{Place}
use Rattle.vm_blocks.specs.State.{CacheState, cache_state_code}
use Rattle.vm_blocks.specs.declared.change.Change.{Change}
use Rattle.vm_blocks.specs.contracts.change.Change as change_type
use Rattle.undo_log.specs.Logging.{Log, LogState}
use Rattle.undo_log.specs.Sessions.{SessionState, cache_of}
use Rattle.undo_log.specs.Entries.{LogEntry, entry_code}
use Rattle.undo_log.specs.declared.touched.Touched.{Touched}
use Rattle.undo_log.specs.contracts.touched.Touched as touched_type

-- entries with their names
abbrev Entries : Type 0
Entries = List LogEntry × List (List ℕ)

abbrev entries_code : Coded Entries
entries_code = coded× (coded_list entry_code) (coded_list (coded_list coded_ℕ))

-- a log by what can be undone and made again, and by where it stands and what it keeps
abbrev pub log_code : Coded Log
log_code =
    code_by
    ((Entries × (Entries × Option (List Change))) × (Position × (Position × (List Place × Option ℕ))))
    (coded×
    (coded× entries_code (coded× entries_code (coded_option (coded_list change_type.the_row.coded))))
    (coded× position_code (coded× position_code (coded× places_code (coded_option coded_ℕ)))))
    (λ l. (((l.undo, l.undo_names), ((l.redo, l.redo_names), l.group)), (l.updated_at, (l.saved_at, (l.touched, l.limit)))))
    (λ p. record {
      undo = p.0.0.0;
      redo = p.0.1.0.0;
      undo_names = p.0.0.1;
      redo_names = p.0.1.0.1;
      group = p.0.1.1;
      updated_at = p.1.0;
      saved_at = p.1.1.0;
      touched = p.1.1.1.0;
      limit = p.1.1.1.1;
    })
    (λ _. refl)

abbrev pub log_state_code : Coded LogState
log_state_code =
    code_by ((Log × Touched) × (Bool × ℕ))
    (coded× (coded× log_code touched_type.the_row.coded) (coded× coded_bool coded_ℕ))
    (λ l. ((l.lists, l.last), (l.place, l.spare)))
    (λ p. record { lists = p.0.0; last = p.0.1; place = p.1.0; spare = p.1.1 }) (λ _. refl)

abbrev pub session_code : {S : Type 0} → Coded S → Coded (SessionState S)
session_code {S} s =
    code_by (CacheState S × Log) (coded× (cache_state_code s) log_code)
    (λ d. (cache_of d, d.log))
    (λ p. record { disk = p.0.disk; document = p.0.document; resident = p.0.resident; frames = p.0.frames; log = p.1 })
    (λ _. refl)
