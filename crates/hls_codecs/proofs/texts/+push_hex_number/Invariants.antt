-- The maximum number of digits decreases in each call, so the recursion ends.
use Rattle.hls_codecs.proofs.texts.+push_hex_number.Given as goal

abbrev pub decreases-push_hex_number : goal.decreases-push_hex_number
decreases-push_hex_number l = l.most
