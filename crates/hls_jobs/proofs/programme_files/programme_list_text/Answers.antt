-- By the lookup of the rendition's number among a right answer's playlists: all can be written.
use Rattle.std.proofs.Common.{◌≡◌, List, Some, None, sym, ap, ◌∙◌, subst}
use Rattle.std.specs.Prelude.{option_map, slice_get}
use Rattle.std.proofs.lemmas.Option.{slice_get_past}
use Rattle.hls_catchup.specs.declared.cut_result.CutResult.{CutResult}
use Rattle.hls_core_laws.specs.State.{State}
use Rattle.hls_m3u8.specs.declared.playlist.MediaPlaylist.{MediaPlaylist}
use Rattle.hls_m3u8.specs.Playlist.{playlist_of}
use Rattle.hls_m3u8.specs.Lines.{media_text}
use Rattle.hls_jobs.specs.Programmes.{programme_list, programme_list_in}
use Rattle.hls_jobs.proofs.Lists.{list_has_text, list_there}
use Rattle.hls_jobs.proofs.programme_files.programme_list_text.Goals as goal

pub write_programme_list-requires : goal.write_programme_list-requires
write_programme_list-requires c =
    let lookup = c.in-Some.ensures.lookup in
    let there = list_there _ c.deref.result.now c.args.rendition c.in-Some.list.now c.deref.ensures.value lookup.3.0 lookup.1 in
    list_has_text c.args.reply.now.state c.args.reply.now.request c.args.reply.now.cut_result c.in-Cut.playlists c.in-Cut.certificate c.args.rendition c.in-Some.list.now
    c.snapshot-snapshot.ensures.right (sym c.cut_result.ensures ∙ c.in-Cut.is) there

pub returns-in_ok-text-in-Some : goal.returns-in_ok-text-in-Some
returns-in_ok-text-in-Some c =
    let r = c.args.rendition in
    let s = c.args.reply.now.state in
    let t = c.in-Cut.certificate.table in
    let lookup = c.in-Some.ensures.lookup in
    let there = list_there _ c.deref.result.now r c.in-Some.list.now c.deref.ensures.value lookup.3.0 lookup.1 in
    ap Some (c.in_ok-text-in-Some.ensures ∙ ap (λ (state : State). media_text (programme_list state r t (playlist_of c.in-Some.list.now))) c.snapshot-snapshot.ensures.value)
    ∙ sym (ap (λ (cut : CutResult). programme_list_in s cut r) (sym c.cut_result.ensures ∙ c.in-Cut.is)
    ∙ ap (option_map (λ (l : MediaPlaylist). media_text (programme_list s r t (playlist_of l)))) there)

pub returns-in-None : goal.returns-in-None
returns-in-None c =
    let r = c.args.rendition in
    let s = c.args.reply.now.state in
    let lookup = c.in-None.ensures.lookup in
    let none = subst (λ (lists : List MediaPlaylist). slice_get lists r ≡ None) c.deref.ensures.value (slice_get_past c.deref.result.now r lookup.3) in
    sym (ap (λ (cut : CutResult). programme_list_in s cut r) (sym c.cut_result.ensures ∙ c.in-Cut.is)
    ∙ ap (option_map (λ (l : MediaPlaylist). media_text (programme_list s r c.in-Cut.certificate.table (playlist_of l)))) none)
