-- The lemmas of other crates that this one cites. Declares nothing.
pub use Rattle.hls_places_laws.proofs.Callers.{before_entry, cut_out-is_orderly, cut_out-is_table, entry-later, first_entry-is, gaps-le, gaps-run_in, length-sides, length-sources_of, none-by, none-left, ordered-places, places-ordered, programme-fits, programme-too_long, run_in-next, side-at, side-of, start-before_stop, starts-never_fall, stops-late}
pub use Rattle.hls_record.proofs.Callers.{units_are_in_time}
