-- The line is its four parts and a line feed, added one after another (`whole_line`).
use Rattle.std.proofs.Common.{◌++◌, ◌∷◌, [], ◌∙◌, ap}
use Rattle.hls_m3u8.specs.Playlist.{playlist_of}
use Rattle.hls_commands.specs.LintAnswer.{extent, header, sequences, kind_words, end_words}
use Rattle.hls_commands.proofs.LintLines.{whole_line}
use Rattle.hls_commands.proofs.lint.printing.write_list_line.Goals as goal

pub returns : goal.returns
returns c =
    let list = playlist_of c.args.list.now in
    whole_line c.new-out.result.items c.push_extent.new.out.items c.push_numbers.new.out.items c.push_kind.new.out.items c.push_end.new.out.items c.push.new.self.items
    (extent list.segments) (header list ++ sequences list) (kind_words list.kind) (end_words list.ended) (10 ∷ [])
    c.new-out.ensures.items
    (c.in_ok-push_extent.ensures ∙ ap (λ segments. c.new-out.result.items ++ extent segments) c.as_slice.ensures.value)
    c.in_ok-push_numbers.ensures
    c.in_ok-push_kind.ensures
    c.in_ok-push_end.ensures
    c.in_ok-push.ensures.items
