-- The text is that of the playlist by paths without as many segments as the line can hide and still show the given time and three target
-- durations.
use Rattle.std.proofs.Common.{◌≡◌, ◌∙◌, ℕ, None, IfOk, ap, subst}
use Rattle.std.specs.Option.{option_map}
use Rattle.hls_places_laws.specs.Line.Live.{Live}
use Rattle.hls_places_laws.specs.Line.Upkeep.{IsMostSlide}
use Rattle.hls_core_laws.specs.Line.{line}
use Rattle.hls_m3u8.specs.Lines.{media_text}
use Rattle.hls_playlists.specs.declared.media_uris.MediaUris.TheVariants.{Paths}
use Rattle.hls_playlists.specs.ShortLists.{shortened_list_of}
use Rattle.hls_playlists.proofs.RecentLists.{hidden-is}
use Rattle.hls_playlists.proofs.recent_list.write_recent_list.Goals as goal

pub returns : goal.returns
returns c =
    let s = c.args.snapshot.value in
    let us = c.args.us in
    let n = c.max_slide-hidden.result in
    let most = subst (λ (l : Live). IsMostSlide l us n) (c.line.ensures.value ∙ ap line c.deref.ensures) c.max_slide-hidden.ensures in
    subst (λ (k : ℕ). IfOk c.new_shortened.result (λ found. found ≡ option_map media_text (shortened_list_of Paths None k s c.args.rendition))) (hidden-is us (line s) n most)
    c.new_shortened.ensures
