-- Ranges of cells in a series.
pub use Rattle.ts_base.specs.Windows.{IsInside}
