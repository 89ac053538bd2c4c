-- How far units are mended, by the matches of `clap`.
use Rattle.std.proofs.Common.{◌≡◌, ◌∙◌, ap, Option}
use Rattle.clap.specs.Words.{Text}
use Rattle.hls_settings.specs.Settings.{mending_of}
use Rattle.hls_settings.proofs.server_settings.find_mending.Goals as goal

same_mending : {a a' b b' c c' d d' : Option Text} → a ≡ a' → b ≡ b' → c ≡ c' → d ≡ d' → mending_of a b c d ≡ mending_of a' b' c' d'
same_mending {a} {a'} {b} {b'} {c} {c'} {d} {d'} pa pb pc pd =
    ap (λ (x : Option Text). mending_of x b c d) pa ∙
    ap (λ (x : Option Text). mending_of a' x c d) pb ∙
    ap (λ (x : Option Text). mending_of a' b' x d) pc ∙
    ap (λ (x : Option Text). mending_of a' b' c' x) pd

pub returns : goal.returns
returns c = c.read_mending.ensures ∙ same_mending c.get_str.ensures c.get_str-2.ensures c.get_str-3.ensures c.get_str-4.ensures
