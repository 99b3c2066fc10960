-- What a row puts behind is the text of its command.
use Rattle.geos_script.specs.Printing.{edit_text}
use Rattle.geos_script.proofs.commands.push_edit.Goals as goal

pub returns-in-NewRaw-clause-ok : goal.returns-in-NewRaw-clause-ok
unfolding edit_text
returns-in-NewRaw-clause-ok c = rw c.in-NewRaw.is c.push_two.ensures.ok

pub returns-in-NewRaw-clause-err : goal.returns-in-NewRaw-clause-err
returns-in-NewRaw-clause-err c = c.push_two.ensures.err

pub returns-in-NewHeap-clause-ok : goal.returns-in-NewHeap-clause-ok
unfolding edit_text
returns-in-NewHeap-clause-ok c = rw c.in-NewHeap.is c.push_one.ensures.ok

pub returns-in-NewHeap-clause-err : goal.returns-in-NewHeap-clause-err
returns-in-NewHeap-clause-err c = c.push_one.ensures.err

pub returns-in-FreeBlock-clause-ok : goal.returns-in-FreeBlock-clause-ok
unfolding edit_text
returns-in-FreeBlock-clause-ok c = rw c.in-FreeBlock.is c.push_one-in-FreeBlock.ensures.ok

pub returns-in-FreeBlock-clause-err : goal.returns-in-FreeBlock-clause-err
returns-in-FreeBlock-clause-err c = c.push_one-in-FreeBlock.ensures.err

pub returns-in-CopyBlock-clause-ok : goal.returns-in-CopyBlock-clause-ok
unfolding edit_text
returns-in-CopyBlock-clause-ok c = rw c.in-CopyBlock.is c.push_one-in-CopyBlock.ensures.ok

pub returns-in-CopyBlock-clause-err : goal.returns-in-CopyBlock-clause-err
returns-in-CopyBlock-clause-err c = c.push_one-in-CopyBlock.ensures.err

pub returns-in-WriteRaw-clause-ok : goal.returns-in-WriteRaw-clause-ok
unfolding edit_text
returns-in-WriteRaw-clause-ok c = rw c.in-WriteRaw.is c.push_three.ensures.ok

pub returns-in-WriteRaw-clause-err : goal.returns-in-WriteRaw-clause-err
returns-in-WriteRaw-clause-err c = c.push_three.ensures.err

pub returns-in-SpliceRaw-clause-ok : goal.returns-in-SpliceRaw-clause-ok
unfolding edit_text
returns-in-SpliceRaw-clause-ok c = rw c.in-SpliceRaw.is c.push_four.ensures.ok

pub returns-in-SpliceRaw-clause-err : goal.returns-in-SpliceRaw-clause-err
returns-in-SpliceRaw-clause-err c = c.push_four.ensures.err

pub returns-in-Attach-clause-ok : goal.returns-in-Attach-clause-ok
unfolding edit_text
returns-in-Attach-clause-ok c = rw c.in-Attach.is c.push_two-in-Attach.ensures.ok

pub returns-in-Attach-clause-err : goal.returns-in-Attach-clause-err
returns-in-Attach-clause-err c = c.push_two-in-Attach.ensures.err

pub returns-in-SetUserId-clause-ok : goal.returns-in-SetUserId-clause-ok
unfolding edit_text
returns-in-SetUserId-clause-ok c = rw c.in-SetUserId.is c.push_two-in-SetUserId.ensures.ok

pub returns-in-SetUserId-clause-err : goal.returns-in-SetUserId-clause-err
returns-in-SetUserId-clause-err c = c.push_two-in-SetUserId.ensures.err

pub returns-in-SetType-clause-ok : goal.returns-in-SetType-clause-ok
unfolding edit_text
returns-in-SetType-clause-ok c = rw c.in-SetType.is c.push_two-in-SetType.ensures.ok

pub returns-in-SetType-clause-err : goal.returns-in-SetType-clause-err
returns-in-SetType-clause-err c = c.push_two-in-SetType.ensures.err

pub returns-in-SetMap-clause-ok : goal.returns-in-SetMap-clause-ok
unfolding edit_text
returns-in-SetMap-clause-ok c = rw c.in-SetMap.is c.push_one-in-SetMap.ensures.ok

pub returns-in-SetMap-clause-err : goal.returns-in-SetMap-clause-err
returns-in-SetMap-clause-err c = c.push_one-in-SetMap.ensures.err

pub returns-in-Alloc-clause-ok : goal.returns-in-Alloc-clause-ok
unfolding edit_text
returns-in-Alloc-clause-ok c = rw c.in-Alloc.is c.push_two-in-Alloc.ensures.ok

pub returns-in-Alloc-clause-err : goal.returns-in-Alloc-clause-err
returns-in-Alloc-clause-err c = c.push_two-in-Alloc.ensures.err

pub returns-in-Free-clause-ok : goal.returns-in-Free-clause-ok
unfolding edit_text
returns-in-Free-clause-ok c = rw c.in-Free.is c.push_two-in-Free.ensures.ok

pub returns-in-Free-clause-err : goal.returns-in-Free-clause-err
returns-in-Free-clause-err c = c.push_two-in-Free.ensures.err

pub returns-in-Resize-clause-ok : goal.returns-in-Resize-clause-ok
unfolding edit_text
returns-in-Resize-clause-ok c = rw c.in-Resize.is c.push_three-in-Resize.ensures.ok

pub returns-in-Resize-clause-err : goal.returns-in-Resize-clause-err
returns-in-Resize-clause-err c = c.push_three-in-Resize.ensures.err

pub returns-in-Insert-clause-ok : goal.returns-in-Insert-clause-ok
unfolding edit_text
returns-in-Insert-clause-ok c = rw c.in-Insert.is c.push_four-in-Insert.ensures.ok

pub returns-in-Insert-clause-err : goal.returns-in-Insert-clause-err
returns-in-Insert-clause-err c = c.push_four-in-Insert.ensures.err

pub returns-in-Delete-clause-ok : goal.returns-in-Delete-clause-ok
unfolding edit_text
returns-in-Delete-clause-ok c = rw c.in-Delete.is c.push_four-in-Delete.ensures.ok

pub returns-in-Delete-clause-err : goal.returns-in-Delete-clause-err
returns-in-Delete-clause-err c = c.push_four-in-Delete.ensures.err

pub returns-in-Write-clause-ok : goal.returns-in-Write-clause-ok
unfolding edit_text
returns-in-Write-clause-ok c = rw c.in-Write.is c.push_four-in-Write.ensures.ok

pub returns-in-Write-clause-err : goal.returns-in-Write-clause-err
returns-in-Write-clause-err c = c.push_four-in-Write.ensures.err

pub returns-in-Splice-clause-ok : goal.returns-in-Splice-clause-ok
unfolding edit_text
returns-in-Splice-clause-ok c = rw c.in-Splice.is c.push_five.ensures.ok

pub returns-in-Splice-clause-err : goal.returns-in-Splice-clause-err
returns-in-Splice-clause-err c = c.push_five.ensures.err

pub returns-in-CreateArray-clause-ok : goal.returns-in-CreateArray-clause-ok
unfolding edit_text
returns-in-CreateArray-clause-ok c = rw c.in-CreateArray.is c.push_three-in-CreateArray.ensures.ok

pub returns-in-CreateArray-clause-err : goal.returns-in-CreateArray-clause-err
returns-in-CreateArray-clause-err c = c.push_three-in-CreateArray.ensures.err

pub returns-in-InsertElement-clause-ok : goal.returns-in-InsertElement-clause-ok
unfolding edit_text
returns-in-InsertElement-clause-ok c = rw c.in-InsertElement.is c.push_four-in-InsertElement.ensures.ok

pub returns-in-InsertElement-clause-err : goal.returns-in-InsertElement-clause-err
returns-in-InsertElement-clause-err c = c.push_four-in-InsertElement.ensures.err

pub returns-in-SetElement-clause-ok : goal.returns-in-SetElement-clause-ok
unfolding edit_text
returns-in-SetElement-clause-ok c = rw c.in-SetElement.is c.push_four-in-SetElement.ensures.ok

pub returns-in-SetElement-clause-err : goal.returns-in-SetElement-clause-err
returns-in-SetElement-clause-err c = c.push_four-in-SetElement.ensures.err

pub returns-in-ResizeElement-clause-ok : goal.returns-in-ResizeElement-clause-ok
unfolding edit_text
returns-in-ResizeElement-clause-ok c = rw c.in-ResizeElement.is c.push_four-in-ResizeElement.ensures.ok

pub returns-in-ResizeElement-clause-err : goal.returns-in-ResizeElement-clause-err
returns-in-ResizeElement-clause-err c = c.push_four-in-ResizeElement.ensures.err

pub returns-in-DeleteElements-clause-ok : goal.returns-in-DeleteElements-clause-ok
unfolding edit_text
returns-in-DeleteElements-clause-ok c = rw c.in-DeleteElements.is c.push_four-in-DeleteElements.ensures.ok

pub returns-in-DeleteElements-clause-err : goal.returns-in-DeleteElements-clause-err
returns-in-DeleteElements-clause-err c = c.push_four-in-DeleteElements.ensures.err

pub returns-in-ZeroArray-clause-ok : goal.returns-in-ZeroArray-clause-ok
unfolding edit_text
returns-in-ZeroArray-clause-ok c = rw c.in-ZeroArray.is c.push_two-in-ZeroArray.ensures.ok

pub returns-in-ZeroArray-clause-err : goal.returns-in-ZeroArray-clause-err
returns-in-ZeroArray-clause-err c = c.push_two-in-ZeroArray.ensures.err

pub returns-in-CreateElementArray-clause-ok : goal.returns-in-CreateElementArray-clause-ok
unfolding edit_text
returns-in-CreateElementArray-clause-ok c = rw c.in-CreateElementArray.is c.push_two-in-CreateElementArray.ensures.ok

pub returns-in-CreateElementArray-clause-err : goal.returns-in-CreateElementArray-clause-err
returns-in-CreateElementArray-clause-err c = c.push_two-in-CreateElementArray.ensures.err

pub returns-in-AddElement-clause-ok : goal.returns-in-AddElement-clause-ok
unfolding edit_text
returns-in-AddElement-clause-ok c = rw c.in-AddElement.is c.push_three-in-AddElement.ensures.ok

pub returns-in-AddElement-clause-err : goal.returns-in-AddElement-clause-err
returns-in-AddElement-clause-err c = c.push_three-in-AddElement.ensures.err

pub returns-in-AddReference-clause-ok : goal.returns-in-AddReference-clause-ok
unfolding edit_text
returns-in-AddReference-clause-ok c = rw c.in-AddReference.is c.push_three-in-AddReference.ensures.ok

pub returns-in-AddReference-clause-err : goal.returns-in-AddReference-clause-err
returns-in-AddReference-clause-err c = c.push_three-in-AddReference.ensures.err

pub returns-in-RemoveReference-clause-ok : goal.returns-in-RemoveReference-clause-ok
unfolding edit_text
returns-in-RemoveReference-clause-ok c = rw c.in-RemoveReference.is c.push_three-in-RemoveReference.ensures.ok

pub returns-in-RemoveReference-clause-err : goal.returns-in-RemoveReference-clause-err
returns-in-RemoveReference-clause-err c = c.push_three-in-RemoveReference.ensures.err

pub returns-in-DeleteElement-clause-ok : goal.returns-in-DeleteElement-clause-ok
unfolding edit_text
returns-in-DeleteElement-clause-ok c = rw c.in-DeleteElement.is c.push_three-in-DeleteElement.ensures.ok

pub returns-in-DeleteElement-clause-err : goal.returns-in-DeleteElement-clause-err
returns-in-DeleteElement-clause-err c = c.push_three-in-DeleteElement.ensures.err

pub returns-in-ChangeElement-clause-ok : goal.returns-in-ChangeElement-clause-ok
unfolding edit_text
returns-in-ChangeElement-clause-ok c = rw c.in-ChangeElement.is c.push_four-in-ChangeElement.ensures.ok

pub returns-in-ChangeElement-clause-err : goal.returns-in-ChangeElement-clause-err
returns-in-ChangeElement-clause-err c = c.push_four-in-ChangeElement.ensures.err

pub returns-in-CreateNameArray-clause-ok : goal.returns-in-CreateNameArray-clause-ok
unfolding edit_text
returns-in-CreateNameArray-clause-ok c = rw c.in-CreateNameArray.is c.push_two-in-CreateNameArray.ensures.ok

pub returns-in-CreateNameArray-clause-err : goal.returns-in-CreateNameArray-clause-err
returns-in-CreateNameArray-clause-err c = c.push_two-in-CreateNameArray.ensures.err

pub returns-in-AddName-clause-ok : goal.returns-in-AddName-clause-ok
unfolding edit_text
returns-in-AddName-clause-ok c = rw c.in-AddName.is c.push_five-in-AddName.ensures.ok

pub returns-in-AddName-clause-err : goal.returns-in-AddName-clause-err
returns-in-AddName-clause-err c = c.push_five-in-AddName.ensures.err

pub returns-in-ChangeName-clause-ok : goal.returns-in-ChangeName-clause-ok
unfolding edit_text
returns-in-ChangeName-clause-ok c = rw c.in-ChangeName.is c.push_four-in-ChangeName.ensures.ok

pub returns-in-ChangeName-clause-err : goal.returns-in-ChangeName-clause-err
returns-in-ChangeName-clause-err c = c.push_four-in-ChangeName.ensures.err

pub returns-in-SetNamePart-clause-ok : goal.returns-in-SetNamePart-clause-ok
unfolding edit_text
returns-in-SetNamePart-clause-ok c = rw c.in-SetNamePart.is c.push_four-in-SetNamePart.ensures.ok

pub returns-in-SetNamePart-clause-err : goal.returns-in-SetNamePart-clause-err
returns-in-SetNamePart-clause-err c = c.push_four-in-SetNamePart.ensures.err

pub returns-in-RemoveName-clause-ok : goal.returns-in-RemoveName-clause-ok
unfolding edit_text
returns-in-RemoveName-clause-ok c = rw c.in-RemoveName.is c.push_three-in-RemoveName.ensures.ok

pub returns-in-RemoveName-clause-err : goal.returns-in-RemoveName-clause-err
returns-in-RemoveName-clause-err c = c.push_three-in-RemoveName.ensures.err

pub returns-in-CopyChain-clause-ok : goal.returns-in-CopyChain-clause-ok
unfolding edit_text
returns-in-CopyChain-clause-ok c = rw c.in-CopyChain.is c.push_one-in-CopyChain.ensures.ok

pub returns-in-CopyChain-clause-err : goal.returns-in-CopyChain-clause-err
returns-in-CopyChain-clause-err c = c.push_one-in-CopyChain.ensures.err

pub returns-in-FreeChain-clause-ok : goal.returns-in-FreeChain-clause-ok
unfolding edit_text
returns-in-FreeChain-clause-ok c = rw c.in-FreeChain.is c.push_one-in-FreeChain.ensures.ok

pub returns-in-FreeChain-clause-err : goal.returns-in-FreeChain-clause-err
returns-in-FreeChain-clause-err c = c.push_one-in-FreeChain.ensures.err

pub returns-in-CreateLarge-clause-ok : goal.returns-in-CreateLarge-clause-ok
unfolding edit_text
returns-in-CreateLarge-clause-ok c = rw c.in-CreateLarge.is c.push_two-in-CreateLarge.ensures.ok

pub returns-in-CreateLarge-clause-err : goal.returns-in-CreateLarge-clause-err
returns-in-CreateLarge-clause-err c = c.push_two-in-CreateLarge.ensures.err

pub returns-in-InsertLarge-clause-ok : goal.returns-in-InsertLarge-clause-ok
unfolding edit_text
returns-in-InsertLarge-clause-ok c = rw c.in-InsertLarge.is c.push_three-in-InsertLarge.ensures.ok

pub returns-in-InsertLarge-clause-err : goal.returns-in-InsertLarge-clause-err
returns-in-InsertLarge-clause-err c = c.push_three-in-InsertLarge.ensures.err

pub returns-in-SetLarge-clause-ok : goal.returns-in-SetLarge-clause-ok
unfolding edit_text
returns-in-SetLarge-clause-ok c = rw c.in-SetLarge.is c.push_three-in-SetLarge.ensures.ok

pub returns-in-SetLarge-clause-err : goal.returns-in-SetLarge-clause-err
returns-in-SetLarge-clause-err c = c.push_three-in-SetLarge.ensures.err

pub returns-in-DeleteLarge-clause-ok : goal.returns-in-DeleteLarge-clause-ok
unfolding edit_text
returns-in-DeleteLarge-clause-ok c = rw c.in-DeleteLarge.is c.push_three-in-DeleteLarge.ensures.ok

pub returns-in-DeleteLarge-clause-err : goal.returns-in-DeleteLarge-clause-err
returns-in-DeleteLarge-clause-err c = c.push_three-in-DeleteLarge.ensures.err
