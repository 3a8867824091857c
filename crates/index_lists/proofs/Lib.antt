pub mod ItemLists
mod Runs
pub mod LawfulLists
mod Walking
mod Holding
mod Pushing
mod Unlinking
mod Splicing
mod Reading
mod Opening
mod Joining
mod Within
mod Copying
