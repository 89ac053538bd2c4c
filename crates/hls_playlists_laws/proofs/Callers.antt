-- The lemmas that other crates cite, passed on from one place. Declares nothing.
pub use Rattle.hls_playlists_laws.proofs.Ranges.{bytes_are}
pub use Rattle.hls_playlists_laws.proofs.JoinedMedia.{media_are_the_units}
pub use Rattle.hls_playlists_laws.proofs.Dates.{date_good, places_small, start_small}
pub use Rattle.hls_playlists_laws.proofs.Good.{few_bytes, segments_are_good, some_bytes}
pub use Rattle.hls_playlists_laws.proofs.Texts.{HasBegun, IsAmong, IsListed, closed-among, closed-some, has-begun, is-listed, live-lists-have-texts, starts-small}
pub use Rattle.hls_playlists_laws.proofs.Uris.{number_uri}
pub use Rattle.hls_playlists_laws.proofs.Follows.{live-lists-follow}
pub use Rattle.hls_playlists_laws.proofs.Handovers.{on-over}
pub use Rattle.hls_playlists_laws.proofs.JoinedLists.{begins-with, evicted-first, first-at, first-listed, first-of, joined-is, joined-length, listed-count, live-lists-join, live-lists-stay_joined, marks-joined, none-left, stays-later}
pub use Rattle.hls_playlists_laws.proofs.Origins.{listed-at, live-lists-agree}
pub use Rattle.hls_playlists_laws.proofs.Stays.{live-lists-stay}
pub use Rattle.hls_playlists_laws.proofs.Told.{IsTold, closed, closed-reached, places-progress, removed-few, whole}
pub use Rattle.hls_playlists_laws.proofs.UnitSearch.{IsFound, finds, is-found}
pub use Rattle.hls_playlists_laws.proofs.BasedLists.{based-lists-stay, lists-without-base}
pub use Rattle.hls_playlists_laws.proofs.NamedUnits.{IsNamed, is-named}
pub use Rattle.hls_playlists_laws.proofs.ListedPaths.{listed-inits-are-there, listed-lane, listed-paths-are-kept}
