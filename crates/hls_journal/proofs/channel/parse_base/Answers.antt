-- Each part is read at its place, so the base that is made of them is the one in the text.
use Rattle.std.proofs.Common.{◌∙◌, ap}
use Rattle.hls_core.specs.Bases.{base_from}
use Rattle.hls_journal.specs.Channels.{counts_in}
use Rattle.hls_journal.proofs.ReadBack.{base_parts, parsed_base}
use Rattle.hls_journal.proofs.channel.parse_base.Goals as goal

pub returns-clause-value : goal.returns-clause-value
returns-clause-value c =
    let run = c.copy_16-run.result in
    let counts = c.parse_counts.result in
    let segments = c.read_number-segments.result in
    let marks = c.read_number-marks.result in
    let version = c.read_number-version.result in
    parsed_base c.args.text.now (base_from run segments marks c.is_set.result counts version) c.new.result
    (base_parts c.args.text.now run counts segments marks version c.is_set.result c.copy_16-run.ensures c.read_number-segments.ensures c.read_number-marks.ensures c.is_set.ensures
    (c.parse_counts.ensures ∙ ap (λ t. counts_in t 16) c.counts_part.ensures.value) c.read_number-version.ensures)
    c.new.ensures
