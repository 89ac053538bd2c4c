-- The lemmas of other crates that this one cites, named once. Declares nothing.
pub use Rattle.hls_core_laws.proofs.Callers.{at_beside, at_or, kept-goes-on, lane_grown, lanes_count, source_of, sources_count}
pub use Rattle.hls_playlists_laws.proofs.Callers.{bytes_are, media_are_the_units, number_uri, segments_are_good}
pub use Rattle.hls_m3u8.proofs.Building.{vod_has_text}
pub use Rattle.hls_media_laws.proofs.Callers.{at_drop, at_snoc, inits_are_bounded, some_at, units_are_bounded}
pub use Rattle.hls_places_laws.proofs.Callers.{after-without, all-snoc, cut_out-is_orderly, cut_out-is_table, filter-ordered, filter_map-all, IsRange, none-by, ordered-places, places-ordered, programme-fits, programme-too_long, start-before_stop, stops-late, table-place}
pub use Rattle.hls_record.proofs.Callers.{no_piece}
