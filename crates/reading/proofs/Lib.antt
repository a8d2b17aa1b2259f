pub mod LineFaults
pub mod ReadCalls
pub mod ReadTables
