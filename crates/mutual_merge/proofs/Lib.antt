pub mod RegionPlaces
pub mod LinkedEdges
pub mod FirstContacts
pub mod Pairing
pub mod Survival
pub mod MovedLinks
pub mod Relinked
pub mod OrderedSlots
pub mod LiveContacts
pub mod OneGraph
pub mod JoinedLinks
pub mod MergedMates
pub mod PairRounds
pub mod KeptRegions
pub mod LeftGraphs
pub mod KeptPlaces
pub mod SameContacts
pub mod ReachingEdges
pub mod ClosedParts
pub mod TrimmedGraphs
pub mod PartsSettled
pub mod JoinedLists
pub mod MadeRegions
pub mod ClosedGraph
pub mod LinkedStands
mod SlotFirsts
mod MovedEnds
mod WrittenEdges
mod GatheredLinks
pub mod SlotContacts
pub mod GatheredSlots
pub mod OpenSlots
pub mod TakenSlots
mod ListedSlots
mod WrittenBack
mod ListedLinks
mod NotedLinks
mod MergedPairs
mod FirstPair
mod MergedInto
mod ReadyHubs
mod HubFirsts
mod ParentPlaces
mod GroupParts
