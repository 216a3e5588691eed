-- For the crates above: all lemmas of this crate that they cite.
-- the least start of a match that ends at the sign just read, and what it does to the occurrences
pub use Rattle.ts_pattern.proofs.OneLetter.{IsLeastStart}
pub use Rattle.ts_pattern.proofs.Places.{before_last, occurrences_none, occurrences_some}
-- the live starts: what their entries say, what a letter leaves of them, and how they show that least start
pub use Rattle.ts_pattern.proofs.Entries.{Rising, AreRight, Covers, shapes_right}
pub use Rattle.ts_pattern.proofs.LiveEntries.{Follows, AreLive, live_appended, each_survivor}
pub use Rattle.ts_pattern.proofs.Ends.{Accepts, rising_each, live_step, match_kept, none_ends, least_ends, to_the_end}
pub use Rattle.ts_pattern.proofs.OneMoreEntry.{SameFollows, survivors_push, shapes_follow}
-- residuals by numbers, or by other names
pub use Rattle.ts_pattern.proofs.Renamed.{renamed, NextAgrees, WordsAgree, SameAgrees, survivors_renamed, survivors_left}
pub use Rattle.ts_pattern.proofs.Renamed.{retag_renamed, no_ind_renamed, agree_renamed}
-- a feature is what its row joins
pub use Rattle.ts_pattern.proofs.FeatureFolds.{features_are_folds}
-- the list of all occurrences, closed plans, and the names of the tables
pub use Rattle.ts_pattern.proofs.AllOccurrences.{ranges_are, are_ranges}
pub use Rattle.ts_pattern.proofs.Tested.{closed_by_test, configuration_is, blank_value}
pub use Rattle.ts_pattern.proofs.Names.{found_name, found_by_name}
-- lists of which each element has a property, and what stands in a longer one
pub use Rattle.ts_pattern.proofs.Elements.{each_map, each_and, each_append, each_push, each_left, one_left, front_or_last}
