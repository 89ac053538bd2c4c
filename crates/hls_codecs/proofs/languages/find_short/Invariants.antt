-- Before each round, the code in all rows is the one in the remaining rows. They get shorter.
use Rattle.std.proofs.Common.{◌≡◌, length}
use Rattle.hls_codecs.specs.Texts.{short_in}
use Rattle.hls_codecs.proofs.languages.find_short.Given as goal

abbrev pub invariant-rows : goal.invariant-rows
invariant-rows l = short_in l.rest l.letters ≡ short_in l.fn.rows l.letters

abbrev pub decreases-rows : goal.decreases-rows
decreases-rows l = length l.rest
