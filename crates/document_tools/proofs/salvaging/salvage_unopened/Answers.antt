use Rattle.std.proofs.Common.{inl, inr, refl}
use Rattle.file_format.proofs.LooksLemmas.{OnlyReadsStore-refl}
use Rattle.document_tools.proofs.salvaging.salvage_unopened.Goals as goal

pub returns-in-Memory : goal.returns-in-Memory
returns-in-Memory g c = (c.args.store, OnlyReadsStore-refl (g.S.Store.facts c.args.store), inl (c.in-Memory.is, refl))

pub returns-in-File : goal.returns-in-File
returns-in-File g c = (c.args.store, OnlyReadsStore-refl (g.S.Store.facts c.args.store), inr (inl (c.in-File.is, c.refused.ensures)))
