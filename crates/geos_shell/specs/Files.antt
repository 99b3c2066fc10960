-- Which files a run of the program opens.
use Rattle.std.specs.Prelude.{◌≡◌, ◌⊎◌, true, Option, Some, None, Ok, Err}
use Rattle.vm_store.specs.declared.fault.StoreFault.{StoreFault}
use Rattle.vm_store.specs.Files.{Opener}
use Rattle.command_lines.specs.Options.{CommandLine, Text}

-- FILE is opened, after the streams are guarded; it is made only where that is asked for
pub record OpensFile {F S : Type 0} (calls : Opener F S) (line : CommandLine) (old : F) (store : S) (new : F)
    : Type 0 where
  pub guarded : F
  pub guards : calls.guards old (Ok tt) guarded
  pub opens : calls.opens guarded line.file line.is_new (Ok store) new

-- the streams can't be guarded, or FILE can't be opened
pub record FileFails {F S : Type 0} (calls : Opener F S) (line : CommandLine) (old new : F) : Type 0 where
  pub fault : StoreFault
  pub fails : calls.guards old (Err fault) new
      ⊎ ((guarded : F) × calls.guards old (Ok tt) guarded × calls.opens guarded line.file line.is_new (Err fault) new)

-- FILE2 is opened, and made where it is missing, if a target is named
abbrev pub OpensTarget : {F S : Type 0} → Opener F S → Option Text → F → Option S → F → Type 0
OpensTarget calls None old target new = (target ≡ None) × (new ≡ old)
OpensTarget {F} {S} calls (Some name) old target new =
    (store : S) × (target ≡ Some store) × calls.opens old name true (Ok store) new

-- a target is named and can't be opened
pub record TargetFails {F S : Type 0} (calls : Opener F S) (target : Option Text) (old new : F) : Type 0 where
  pub name : Text
  pub is_named : target ≡ Some name
  pub fault : StoreFault
  pub opens : calls.opens old name true (Err fault) new

-- a store is closed, if there is one
abbrev pub ClosesAny : {F S : Type 0} → Opener F S → F → Option S → F → Type 0
ClosesAny calls old None new = new ≡ old
ClosesAny calls old (Some store) new = calls.closes old store new
