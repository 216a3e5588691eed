pub mod Looking
pub mod RowLaws
mod Emptied
pub mod TableLaws
mod Steps
mod Follows
pub mod Reached
pub mod SpanRuns
pub mod SpanEnds
pub mod Singles
pub mod Growth
mod PackableLaws
mod PutLaws
pub mod SweptRows
pub mod SeenRows
pub mod PackedRows
pub mod ValueLaws
mod CellLists
pub mod CellsRead
pub mod ChangedRows
mod HeldRows
pub mod KnownRows
pub mod LaidRows
pub mod OthersLaws
pub mod PackedStacks
mod RoomLaws
mod RowParts
mod ShownRows
mod WithoutValues
mod PlainRows
mod Filled
mod FitLaws
