pub mod KidPushes
pub mod SampleGraphs
