-- What a row puts behind is the text of its command.
use Rattle.geos_script.specs.Printing.{command_text, edit_text}
use Rattle.geos_script.proofs.commands.push_row.Goals as goal

pub returns-in-Edit-clause-ok : goal.returns-in-Edit-clause-ok
unfolding command_text edit_text
returns-in-Edit-clause-ok c = rw c.in-Edit.is c.push_edit.ensures.ok

pub returns-in-Edit-clause-err : goal.returns-in-Edit-clause-err
returns-in-Edit-clause-err c = c.push_edit.ensures.err

pub returns-in-Undo-clause-ok : goal.returns-in-Undo-clause-ok
unfolding command_text
returns-in-Undo-clause-ok c = rw c.in-Undo.is c.push_words.ensures.ok

pub returns-in-Undo-clause-err : goal.returns-in-Undo-clause-err
returns-in-Undo-clause-err c = c.push_words.ensures.err

pub returns-in-Redo-clause-ok : goal.returns-in-Redo-clause-ok
unfolding command_text
returns-in-Redo-clause-ok c = rw c.in-Redo.is c.push_words-in-Redo.ensures.ok

pub returns-in-Redo-clause-err : goal.returns-in-Redo-clause-err
returns-in-Redo-clause-err c = c.push_words-in-Redo.ensures.err

pub returns-in-Begin-clause-ok : goal.returns-in-Begin-clause-ok
unfolding command_text
returns-in-Begin-clause-ok c = rw c.in-Begin.is c.push_words-in-Begin.ensures.ok

pub returns-in-Begin-clause-err : goal.returns-in-Begin-clause-err
returns-in-Begin-clause-err c = c.push_words-in-Begin.ensures.err

pub returns-in-End-clause-ok : goal.returns-in-End-clause-ok
unfolding command_text
returns-in-End-clause-ok c = rw c.in-End.is c.push_words-in-End.ensures.ok

pub returns-in-End-clause-err : goal.returns-in-End-clause-err
returns-in-End-clause-err c = c.push_words-in-End.ensures.err

pub returns-in-Abandon-clause-ok : goal.returns-in-Abandon-clause-ok
unfolding command_text
returns-in-Abandon-clause-ok c = rw c.in-Abandon.is c.push_words-in-Abandon.ensures.ok

pub returns-in-Abandon-clause-err : goal.returns-in-Abandon-clause-err
returns-in-Abandon-clause-err c = c.push_words-in-Abandon.ensures.err

pub returns-in-Join-clause-ok : goal.returns-in-Join-clause-ok
unfolding command_text
returns-in-Join-clause-ok c = rw c.in-Join.is c.push_words-in-Join.ensures.ok

pub returns-in-Join-clause-err : goal.returns-in-Join-clause-err
returns-in-Join-clause-err c = c.push_words-in-Join.ensures.err

pub returns-in-Forget-clause-ok : goal.returns-in-Forget-clause-ok
unfolding command_text
returns-in-Forget-clause-ok c = rw c.in-Forget.is c.push_one.ensures.ok

pub returns-in-Forget-clause-err : goal.returns-in-Forget-clause-err
returns-in-Forget-clause-err c = c.push_one.ensures.err

pub returns-in-Name-clause-ok : goal.returns-in-Name-clause-ok
unfolding command_text
returns-in-Name-clause-ok c = rw c.in-Name.is c.push_one-in-Name.ensures.ok

pub returns-in-Name-clause-err : goal.returns-in-Name-clause-err
returns-in-Name-clause-err c = c.push_one-in-Name.ensures.err

pub returns-in-Update-clause-ok : goal.returns-in-Update-clause-ok
unfolding command_text
returns-in-Update-clause-ok c = rw c.in-Update.is c.push_words-in-Update.ensures.ok

pub returns-in-Update-clause-err : goal.returns-in-Update-clause-err
returns-in-Update-clause-err c = c.push_words-in-Update.ensures.err

pub returns-in-Save-clause-ok : goal.returns-in-Save-clause-ok
unfolding command_text
returns-in-Save-clause-ok c = rw c.in-Save.is c.push_words-in-Save.ensures.ok

pub returns-in-Save-clause-err : goal.returns-in-Save-clause-err
returns-in-Save-clause-err c = c.push_words-in-Save.ensures.err

pub returns-in-Revert-clause-ok : goal.returns-in-Revert-clause-ok
unfolding command_text
returns-in-Revert-clause-ok c = rw c.in-Revert.is c.push_words-in-Revert.ensures.ok

pub returns-in-Revert-clause-err : goal.returns-in-Revert-clause-err
returns-in-Revert-clause-err c = c.push_words-in-Revert.ensures.err

pub returns-in-SaveAs-clause-ok : goal.returns-in-SaveAs-clause-ok
unfolding command_text
returns-in-SaveAs-clause-ok c = rw c.in-SaveAs.is c.push_words-in-SaveAs.ensures.ok

pub returns-in-SaveAs-clause-err : goal.returns-in-SaveAs-clause-err
returns-in-SaveAs-clause-err c = c.push_words-in-SaveAs.ensures.err

pub returns-in-Info-clause-ok : goal.returns-in-Info-clause-ok
unfolding command_text
returns-in-Info-clause-ok c = rw c.in-Info.is c.push_one-in-Info.ensures.ok

pub returns-in-Info-clause-err : goal.returns-in-Info-clause-err
returns-in-Info-clause-err c = c.push_one-in-Info.ensures.err

pub returns-in-HeapType-clause-ok : goal.returns-in-HeapType-clause-ok
unfolding command_text
returns-in-HeapType-clause-ok c = rw c.in-HeapType.is c.push_one-in-HeapType.ensures.ok

pub returns-in-HeapType-clause-err : goal.returns-in-HeapType-clause-err
returns-in-HeapType-clause-err c = c.push_one-in-HeapType.ensures.err

pub returns-in-List-clause-ok : goal.returns-in-List-clause-ok
unfolding command_text
returns-in-List-clause-ok c = rw c.in-List.is c.push_words-in-List.ensures.ok

pub returns-in-List-clause-err : goal.returns-in-List-clause-err
returns-in-List-clause-err c = c.push_words-in-List.ensures.err

pub returns-in-Find-clause-ok : goal.returns-in-Find-clause-ok
unfolding command_text
returns-in-Find-clause-ok c = rw c.in-Find.is c.push_two.ensures.ok

pub returns-in-Find-clause-err : goal.returns-in-Find-clause-err
returns-in-Find-clause-err c = c.push_two.ensures.err

pub returns-in-MapBlock-clause-ok : goal.returns-in-MapBlock-clause-ok
unfolding command_text
returns-in-MapBlock-clause-ok c = rw c.in-MapBlock.is c.push_words-in-MapBlock.ensures.ok

pub returns-in-MapBlock-clause-err : goal.returns-in-MapBlock-clause-err
returns-in-MapBlock-clause-err c = c.push_words-in-MapBlock.ensures.err

pub returns-in-ReadRaw-clause-ok : goal.returns-in-ReadRaw-clause-ok
unfolding command_text
returns-in-ReadRaw-clause-ok c = rw c.in-ReadRaw.is c.push_one-in-ReadRaw.ensures.ok

pub returns-in-ReadRaw-clause-err : goal.returns-in-ReadRaw-clause-err
returns-in-ReadRaw-clause-err c = c.push_one-in-ReadRaw.ensures.err

pub returns-in-Chunks-clause-ok : goal.returns-in-Chunks-clause-ok
unfolding command_text
returns-in-Chunks-clause-ok c = rw c.in-Chunks.is c.push_one-in-Chunks.ensures.ok

pub returns-in-Chunks-clause-err : goal.returns-in-Chunks-clause-err
returns-in-Chunks-clause-err c = c.push_one-in-Chunks.ensures.err

pub returns-in-Read-clause-ok : goal.returns-in-Read-clause-ok
unfolding command_text
returns-in-Read-clause-ok c = rw c.in-Read.is c.push_two-in-Read.ensures.ok

pub returns-in-Read-clause-err : goal.returns-in-Read-clause-err
returns-in-Read-clause-err c = c.push_two-in-Read.ensures.err

pub returns-in-ArrayCount-clause-ok : goal.returns-in-ArrayCount-clause-ok
unfolding command_text
returns-in-ArrayCount-clause-ok c = rw c.in-ArrayCount.is c.push_two-in-ArrayCount.ensures.ok

pub returns-in-ArrayCount-clause-err : goal.returns-in-ArrayCount-clause-err
returns-in-ArrayCount-clause-err c = c.push_two-in-ArrayCount.ensures.err

pub returns-in-ArrayElement-clause-ok : goal.returns-in-ArrayElement-clause-ok
unfolding command_text
returns-in-ArrayElement-clause-ok c = rw c.in-ArrayElement.is c.push_three.ensures.ok

pub returns-in-ArrayElement-clause-err : goal.returns-in-ArrayElement-clause-err
returns-in-ArrayElement-clause-err c = c.push_three.ensures.err

pub returns-in-ElementReferences-clause-ok : goal.returns-in-ElementReferences-clause-ok
unfolding command_text
returns-in-ElementReferences-clause-ok c = rw c.in-ElementReferences.is c.push_three-in-ElementReferences.ensures.ok

pub returns-in-ElementReferences-clause-err : goal.returns-in-ElementReferences-clause-err
returns-in-ElementReferences-clause-err c = c.push_three-in-ElementReferences.ensures.err

pub returns-in-ElementBytes-clause-ok : goal.returns-in-ElementBytes-clause-ok
unfolding command_text
returns-in-ElementBytes-clause-ok c = rw c.in-ElementBytes.is c.push_three-in-ElementBytes.ensures.ok

pub returns-in-ElementBytes-clause-err : goal.returns-in-ElementBytes-clause-err
returns-in-ElementBytes-clause-err c = c.push_three-in-ElementBytes.ensures.err

pub returns-in-ElementsUsed-clause-ok : goal.returns-in-ElementsUsed-clause-ok
unfolding command_text
returns-in-ElementsUsed-clause-ok c = rw c.in-ElementsUsed.is c.push_two-in-ElementsUsed.ensures.ok

pub returns-in-ElementsUsed-clause-err : goal.returns-in-ElementsUsed-clause-err
returns-in-ElementsUsed-clause-err c = c.push_two-in-ElementsUsed.ensures.err

pub returns-in-TokenOfUsed-clause-ok : goal.returns-in-TokenOfUsed-clause-ok
unfolding command_text
returns-in-TokenOfUsed-clause-ok c = rw c.in-TokenOfUsed.is c.push_three-in-TokenOfUsed.ensures.ok

pub returns-in-TokenOfUsed-clause-err : goal.returns-in-TokenOfUsed-clause-err
returns-in-TokenOfUsed-clause-err c = c.push_three-in-TokenOfUsed.ensures.err

pub returns-in-UsedOfToken-clause-ok : goal.returns-in-UsedOfToken-clause-ok
unfolding command_text
returns-in-UsedOfToken-clause-ok c = rw c.in-UsedOfToken.is c.push_three-in-UsedOfToken.ensures.ok

pub returns-in-UsedOfToken-clause-err : goal.returns-in-UsedOfToken-clause-err
returns-in-UsedOfToken-clause-err c = c.push_three-in-UsedOfToken.ensures.err

pub returns-in-NameFind-clause-ok : goal.returns-in-NameFind-clause-ok
unfolding command_text
returns-in-NameFind-clause-ok c = rw c.in-NameFind.is c.push_three-in-NameFind.ensures.ok

pub returns-in-NameFind-clause-err : goal.returns-in-NameFind-clause-err
returns-in-NameFind-clause-err c = c.push_three-in-NameFind.ensures.err

pub returns-in-NameReferences-clause-ok : goal.returns-in-NameReferences-clause-ok
unfolding command_text
returns-in-NameReferences-clause-ok c = rw c.in-NameReferences.is c.push_three-in-NameReferences.ensures.ok

pub returns-in-NameReferences-clause-err : goal.returns-in-NameReferences-clause-err
returns-in-NameReferences-clause-err c = c.push_three-in-NameReferences.ensures.err

pub returns-in-NameText-clause-ok : goal.returns-in-NameText-clause-ok
unfolding command_text
returns-in-NameText-clause-ok c = rw c.in-NameText.is c.push_three-in-NameText.ensures.ok

pub returns-in-NameText-clause-err : goal.returns-in-NameText-clause-err
returns-in-NameText-clause-err c = c.push_three-in-NameText.ensures.err

pub returns-in-NamePart-clause-ok : goal.returns-in-NamePart-clause-ok
unfolding command_text
returns-in-NamePart-clause-ok c = rw c.in-NamePart.is c.push_three-in-NamePart.ensures.ok

pub returns-in-NamePart-clause-err : goal.returns-in-NamePart-clause-err
returns-in-NamePart-clause-err c = c.push_three-in-NamePart.ensures.err

pub returns-in-Walk-clause-ok : goal.returns-in-Walk-clause-ok
unfolding command_text
returns-in-Walk-clause-ok c = rw c.in-Walk.is c.push_one-in-Walk.ensures.ok

pub returns-in-Walk-clause-err : goal.returns-in-Walk-clause-err
returns-in-Walk-clause-err c = c.push_one-in-Walk.ensures.err

pub returns-in-ChainSize-clause-ok : goal.returns-in-ChainSize-clause-ok
unfolding command_text
returns-in-ChainSize-clause-ok c = rw c.in-ChainSize.is c.push_one-in-ChainSize.ensures.ok

pub returns-in-ChainSize-clause-err : goal.returns-in-ChainSize-clause-err
returns-in-ChainSize-clause-err c = c.push_one-in-ChainSize.ensures.err

pub returns-in-ChainEqual-clause-ok : goal.returns-in-ChainEqual-clause-ok
unfolding command_text
returns-in-ChainEqual-clause-ok c = rw c.in-ChainEqual.is c.push_two-in-ChainEqual.ensures.ok

pub returns-in-ChainEqual-clause-err : goal.returns-in-ChainEqual-clause-err
returns-in-ChainEqual-clause-err c = c.push_two-in-ChainEqual.ensures.err

pub returns-in-LargeCount-clause-ok : goal.returns-in-LargeCount-clause-ok
unfolding command_text
returns-in-LargeCount-clause-ok c = rw c.in-LargeCount.is c.push_one-in-LargeCount.ensures.ok

pub returns-in-LargeCount-clause-err : goal.returns-in-LargeCount-clause-err
returns-in-LargeCount-clause-err c = c.push_one-in-LargeCount.ensures.err

pub returns-in-LargeElement-clause-ok : goal.returns-in-LargeElement-clause-ok
unfolding command_text
returns-in-LargeElement-clause-ok c = rw c.in-LargeElement.is c.push_two-in-LargeElement.ensures.ok

pub returns-in-LargeElement-clause-err : goal.returns-in-LargeElement-clause-err
returns-in-LargeElement-clause-err c = c.push_two-in-LargeElement.ensures.err

pub returns-in-LargeRun-clause-ok : goal.returns-in-LargeRun-clause-ok
unfolding command_text
returns-in-LargeRun-clause-ok c = rw c.in-LargeRun.is c.push_three-in-LargeRun.ensures.ok

pub returns-in-LargeRun-clause-err : goal.returns-in-LargeRun-clause-err
returns-in-LargeRun-clause-err c = c.push_three-in-LargeRun.ensures.err

pub returns-in-Lock-clause-ok : goal.returns-in-Lock-clause-ok
unfolding command_text
returns-in-Lock-clause-ok c = rw c.in-Lock.is c.push_one-in-Lock.ensures.ok

pub returns-in-Lock-clause-err : goal.returns-in-Lock-clause-err
returns-in-Lock-clause-err c = c.push_one-in-Lock.ensures.err

pub returns-in-Unlock-clause-ok : goal.returns-in-Unlock-clause-ok
unfolding command_text
returns-in-Unlock-clause-ok c = rw c.in-Unlock.is c.push_one-in-Unlock.ensures.ok

pub returns-in-Unlock-clause-err : goal.returns-in-Unlock-clause-err
returns-in-Unlock-clause-err c = c.push_one-in-Unlock.ensures.err

pub returns-in-Dirty-clause-ok : goal.returns-in-Dirty-clause-ok
unfolding command_text
returns-in-Dirty-clause-ok c = rw c.in-Dirty.is c.push_one-in-Dirty.ensures.ok

pub returns-in-Dirty-clause-err : goal.returns-in-Dirty-clause-err
returns-in-Dirty-clause-err c = c.push_one-in-Dirty.ensures.err

pub returns-in-Locks-clause-ok : goal.returns-in-Locks-clause-ok
unfolding command_text
returns-in-Locks-clause-ok c = rw c.in-Locks.is c.push_one-in-Locks.ensures.ok

pub returns-in-Locks-clause-err : goal.returns-in-Locks-clause-err
returns-in-Locks-clause-err c = c.push_one-in-Locks.ensures.err

pub returns-in-Undos-clause-ok : goal.returns-in-Undos-clause-ok
unfolding command_text
returns-in-Undos-clause-ok c = rw c.in-Undos.is c.push_words-in-Undos.ensures.ok

pub returns-in-Undos-clause-err : goal.returns-in-Undos-clause-err
returns-in-Undos-clause-err c = c.push_words-in-Undos.ensures.err

pub returns-in-Redos-clause-ok : goal.returns-in-Redos-clause-ok
unfolding command_text
returns-in-Redos-clause-ok c = rw c.in-Redos.is c.push_words-in-Redos.ensures.ok

pub returns-in-Redos-clause-err : goal.returns-in-Redos-clause-err
returns-in-Redos-clause-err c = c.push_words-in-Redos.ensures.err

pub returns-in-Modified-clause-ok : goal.returns-in-Modified-clause-ok
unfolding command_text
returns-in-Modified-clause-ok c = rw c.in-Modified.is c.push_words-in-Modified.ensures.ok

pub returns-in-Modified-clause-err : goal.returns-in-Modified-clause-err
returns-in-Modified-clause-err c = c.push_words-in-Modified.ensures.err

pub returns-in-UndoName-clause-ok : goal.returns-in-UndoName-clause-ok
unfolding command_text
returns-in-UndoName-clause-ok c = rw c.in-UndoName.is c.push_words-in-UndoName.ensures.ok

pub returns-in-UndoName-clause-err : goal.returns-in-UndoName-clause-err
returns-in-UndoName-clause-err c = c.push_words-in-UndoName.ensures.err

pub returns-in-RedoName-clause-ok : goal.returns-in-RedoName-clause-ok
unfolding command_text
returns-in-RedoName-clause-ok c = rw c.in-RedoName.is c.push_words-in-RedoName.ensures.ok

pub returns-in-RedoName-clause-err : goal.returns-in-RedoName-clause-err
returns-in-RedoName-clause-err c = c.push_words-in-RedoName.ensures.err

pub returns-in-Touched-clause-ok : goal.returns-in-Touched-clause-ok
unfolding command_text
returns-in-Touched-clause-ok c = rw c.in-Touched.is c.push_words-in-Touched.ensures.ok

pub returns-in-Touched-clause-err : goal.returns-in-Touched-clause-err
returns-in-Touched-clause-err c = c.push_words-in-Touched.ensures.err

pub returns-in-UndoPlaces-clause-ok : goal.returns-in-UndoPlaces-clause-ok
unfolding command_text
returns-in-UndoPlaces-clause-ok c = rw c.in-UndoPlaces.is c.push_words-in-UndoPlaces.ensures.ok

pub returns-in-UndoPlaces-clause-err : goal.returns-in-UndoPlaces-clause-err
returns-in-UndoPlaces-clause-err c = c.push_words-in-UndoPlaces.ensures.err

pub returns-in-RedoPlaces-clause-ok : goal.returns-in-RedoPlaces-clause-ok
unfolding command_text
returns-in-RedoPlaces-clause-ok c = rw c.in-RedoPlaces.is c.push_words-in-RedoPlaces.ensures.ok

pub returns-in-RedoPlaces-clause-err : goal.returns-in-RedoPlaces-clause-err
returns-in-RedoPlaces-clause-err c = c.push_words-in-RedoPlaces.ensures.err

pub returns-in-AbandonPlaces-clause-ok : goal.returns-in-AbandonPlaces-clause-ok
unfolding command_text
returns-in-AbandonPlaces-clause-ok c = rw c.in-AbandonPlaces.is c.push_words-in-AbandonPlaces.ensures.ok

pub returns-in-AbandonPlaces-clause-err : goal.returns-in-AbandonPlaces-clause-err
returns-in-AbandonPlaces-clause-err c = c.push_words-in-AbandonPlaces.ensures.err
