-- The lemmas that other crates cite. Declares nothing.
pub use Rattle.hls_places_laws.proofs.Appends.{continues}
pub use Rattle.hls_places_laws.proofs.Search.{before_entry, entry-later, first_entry-is, gaps-le, gaps-run_in, none-left, run_in-next, starts-never_fall}
pub use Rattle.hls_places_laws.proofs.Sides.{length-sides, length-sources_of, side-at, side-of}
pub use Rattle.hls_places_laws.proofs.Sorted.{all-snoc, filter_map-all}
pub use Rattle.hls_places_laws.proofs.Ordered.{closing_place, filter-ordered, ordered-places, places-ordered, table-place}
pub use Rattle.hls_places_laws.proofs.Since.{from_at, since_at, since_long, spot_since_at}
pub use Rattle.hls_places_laws.proofs.Tables.{IsRange, cut_out-is_orderly, cut_out-is_table, start-before_stop}
pub use Rattle.hls_places_laws.proofs.Found.{none-by, programme-fits, programme-too_long, stops-late}
pub use Rattle.hls_places_laws.proofs.Growths.{after-without, found-without}
pub use Rattle.hls_places_laws.proofs.Undecided.{over-stays, places-appended}
pub use Rattle.hls_places_laws.proofs.Within.{IsWithin, places-within}
pub use Rattle.hls_places_laws.proofs.LineLemmas.Begun.{marks-since, segments-since}
pub use Rattle.hls_places_laws.proofs.LineLemmas.Ends.{advanced-few_more, front-holds, front-stands, segments-few}
pub use Rattle.hls_places_laws.proofs.LineLemmas.Kept.{segments-stay}
pub use Rattle.hls_places_laws.proofs.LineLemmas.Leaves.{leaves-more}
pub use Rattle.hls_places_laws.proofs.LineLemmas.Lines.{advanced-first, stopped-restarted, progress-more, progress-none, tried-enough, tried-far, tried-further, tried-skipped}
pub use Rattle.hls_places_laws.proofs.LineLemmas.Lives.{live-moves, live-slides, marks-add, marks-append, whole-is_told}
pub use Rattle.hls_places_laws.proofs.LineLemmas.Origins.{marks-agree, segments-agree}
pub use Rattle.hls_places_laws.proofs.LineLemmas.Tests.{allowed-from_step, not-past, past-count, past-fragment, past-from_each, step-from_allowed}
pub use Rattle.hls_places_laws.proofs.LineLemmas.Upkeeps.{cut-once, upkeep-slides, upkeep-trims}
