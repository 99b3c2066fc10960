use Rattle.document_tools.proofs.running.diff_asked.Goals as goal

pub returns-in-Updated : goal.returns-in-Updated
returns-in-Updated g c = rw c.in-Updated.is c.diff_files.ensures

pub returns-in-Saved : goal.returns-in-Saved
returns-in-Saved g c = rw c.in-Saved.is c.diff_files-in-Saved.ensures
