use Rattle.document_tools.proofs.running.salvage_asked.Goals as goal

pub returns-in-Whole : goal.returns-in-Whole
returns-in-Whole g c = rw c.in-Whole.is c.salvage_file.ensures

pub returns-in-All : goal.returns-in-All
returns-in-All g c = rw c.in-All.is c.salvage_file-in-All.ensures
