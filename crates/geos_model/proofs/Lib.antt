pub mod Codes
pub mod Table
pub mod Tables
pub mod HeapTables
pub mod HeapEdits
pub mod ChunkLengths
pub mod Numbers
pub mod Images
mod ScriptExamples
pub mod Arrays
pub mod FreeLists
pub mod ElementArrays
pub mod NameArrays
pub mod Refusals
pub mod FirstRefusals
pub mod Order
pub mod ArrayEdits
pub mod UsedElements
pub mod ElementEdits
pub mod NameEdits
pub mod Undoing
mod UndoLaw
mod RedoLaw
mod DepthLaw
mod Saving
mod Failing
mod Steps
pub mod Validity
pub mod ChunkEdits
pub mod Chains
pub mod Relinking
pub mod ChainCopies
pub mod BlockLists
pub mod CopiedChains
mod ChainShapes
pub mod ChainEdits
pub mod Places
pub mod Reaching
pub mod PlacesOfEdits
pub mod TwoRuns
pub mod ArrayPlaces
pub mod SlotPlaces
pub mod SpreadElements
pub mod SpreadFits
pub mod SpreadApart
pub mod SpreadSides
pub mod SpreadPlaces
pub mod SpreadStays
pub mod SpreadCount
pub mod RootBytes
pub mod BranchBytes
pub mod Pairs
pub mod DistinctHandles
pub mod Layouts
pub mod Windows
pub mod WindowHandles
pub mod Replacing
pub mod PutBranches
pub mod SeenBranches
pub mod WindowPuts
pub mod RunPuts
pub mod AcceptedEdits
pub mod PieceLists
pub mod GivenElements
pub mod OverwrittenPieces
pub mod SameWeights
pub mod Creating
pub mod ValidEdits
pub mod LargeReaching
pub mod EditsReach
pub mod Copies
pub mod Locks
pub mod ValidSteps
mod Standing
mod Touching
mod Naming
