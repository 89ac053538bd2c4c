-- A path list and the list by ranges have the same segments, lengths, marks, dates and sequence numbers.
use Rattle.hls_playlists_laws.proofs.PathLists.{path-lists-match}
use Rattle.hls_playlists_laws.proofs.path_laws.path_lists_match_ranges.Goals as goal

pub returns : goal.returns
returns c = path-lists-match
