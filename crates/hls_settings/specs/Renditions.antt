-- The argument of a rendition: `name:kind:bandwidth:tolerance`.
use Rattle.std.specs.Prelude.{ℕ, List, Option, Some, None, cond, Bool, true, false, codes}
use Rattle.std.specs.Str.{bytes_eq}
use Rattle.hls_core_laws.specs.declared.rendition.Rendition.{Rendition}
use Rattle.hls_text.specs.Digits.{number_of_digits}
use Rattle.hls_settings.specs.Numbers.{cut_at}

-- whether a kind is video; only `video` and `audio` are kinds
abbrev pub kind_of : List ℕ → Option Bool
kind_of text = cond (bytes_eq text (codes "video")) (Some true) (cond (bytes_eq text (codes "audio")) (Some false) None)

-- the rendition of these values, if the bandwidth and the tolerance are numbers
abbrev pub rendition_with : List ℕ → Bool → Option ℕ → Option ℕ → Option Rendition
rendition_with name video None tolerance = None
rendition_with name video (Some bandwidth) None = None
rendition_with name video (Some bandwidth) (Some tolerance) = Some (record { name = name; video = video; bandwidth = bandwidth; tolerance = tolerance })

-- the rendition of this name and kind, given the texts of its bandwidth and its tolerance
abbrev pub rendition_by : List ℕ → Option Bool → Option (List ℕ × List ℕ) → Option Rendition
rendition_by name None numbers = None
rendition_by name (Some video) None = None
rendition_by name (Some video) (Some numbers) = rendition_with name video (number_of_digits 16 numbers.0) (number_of_digits 16 numbers.1)

-- the rendition of this name, given the text of its kind and the text after that
abbrev pub rendition_after : List ℕ → Option (List ℕ × List ℕ) → Option Rendition
rendition_after name None = None
rendition_after name (Some kinded) = rendition_by name (kind_of kinded.0) (cut_at 58 kinded.1)

-- the rendition, given the text of its name and the text after that
abbrev pub rendition_in : Option (List ℕ × List ℕ) → Option Rendition
rendition_in None = None
rendition_in (Some named) = rendition_after named.0 (cut_at 58 named.1)

-- the rendition that an argument specifies, whatever its limits
abbrev pub rendition_of : List ℕ → Option Rendition
rendition_of text = rendition_in (cut_at 58 text)
