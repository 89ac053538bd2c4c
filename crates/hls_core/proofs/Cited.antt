-- The lemmas of other crates that this one cites, named once. Declares nothing.
pub use Rattle.hls_core_laws.proofs.Callers.{advanced_continues, advanced_state, at_map, at_or, at_read, at_set, channel_advanced, channel_from-snoc, continues_of, events_by-append, first_is_state, floors-count, follows_of, front_within, kept-goes-on, lanes_count, length_set, line_few, line_goes_on, line_slides, line_stays, mapped_at, ordered, set_same, some_at, source_of, sources_count, sources_grow, sources_slide, sources_trim, spots-count, states_are_timed, take_at, times-rise, units_are_logged}
pub use Rattle.hls_places.proofs.Gathered.{next-side}
pub use Rattle.hls_places.proofs.Walks.{first-cursor}
pub use Rattle.hls_places_laws.proofs.Callers.{advanced-few_more, after-without, continues, cut-once, found-without, front-stands, length-sources_of, places-ordered, side-at, progress-more, progress-none, upkeep-slides, upkeep-trims}
