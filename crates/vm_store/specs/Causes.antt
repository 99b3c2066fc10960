-- What is told of why a file isn't opened.
use Rattle.std.specs.Prelude.{ℕ, List, codes}
use Rattle.vm_store.specs.declared.cause.Cause.{Cause}
use Rattle.vm_store.specs.declared.cause.Cause.TheVariants as causes

abbrev pub cause_text : Cause → List ℕ
cause_text causes.Missing = codes "no such file"
cause_text causes.NoFolder = codes "no such folder"
cause_text causes.Folder = codes "it is a folder"
cause_text causes.Forbidden = codes "permission denied"
cause_text causes.ReadOnly = codes "on a read-only file system"
cause_text causes.LongName = codes "the name is too long"
cause_text causes.Links = codes "too many links"
cause_text causes.Full = codes "no room on the disk"
cause_text causes.InUse = codes "in use by another program"
cause_text causes.OpenHere = codes "open already under another name"
cause_text causes.Failed = codes "it can't be opened"
