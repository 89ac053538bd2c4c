-- Renditions collected one after another.
use Rattle.std.proofs.Common.{◌≡◌, ℕ, suc, ◌+◌, ◌<◌, List, [], ◌∷◌, ◌++◌, Bool, false, length, map, take, get_or, arith, sym, ap, ◌∙◌}
use Rattle.std.proofs.Math.Seq.{take-suc}
use Rattle.hls_media_laws.specs.declared.facts.Facts.{Facts}
use Rattle.hls_places_laws.specs.Sources.{Source, no_source, source_at, sources_of}
use Rattle.hls_places.proofs.Cited.{length-sources_of, side-at}

-- the first r + 1 renditions of three lists are the first r, and one of the elements number r
pub next-side : (lists : List (List Facts)) (tolerances : List ℕ) (finished : List Bool) →
    length tolerances ≡ length lists → length finished ≡ length lists → (r : ℕ) → r < length lists →
    take (r + 1) (sources_of lists tolerances finished)
    ≡ take r (sources_of lists tolerances finished)
    ++ record { facts = get_or lists r []; tolerance = get_or tolerances r 0; finished = get_or finished r false } ∷ []
next-side lists tolerances finished same also r within =
    let whole = length-sources_of lists tolerances finished same also in
    let side = side-at lists tolerances finished same also r in
    let here : source_at (sources_of lists tolerances finished) r
    ≡ record { facts = get_or lists r []; tolerance = get_or tolerances r 0; finished = get_or finished r false } =
    λ k. record { facts = side.facts_are k; tolerance = side.tolerance_is k; finished = side.finished_is k } in
    let step : r + 1 ≡ suc r = omega arith in
    rw step (take-suc (sources_of lists tolerances finished) r no_source (omega (arith, whole, within))
    ∙ ap (λ (s : Source). take r (sources_of lists tolerances finished) ++ s ∷ []) here)
