-- The rendition in an argument. For the code alone.
use Rattle.hls_core_laws.specs.declared.rendition.Rendition.{Rendition}
use Rattle.hls_settings.specs.declared.rendition_spec.RenditionSpec.{RenditionSpec}

-- the rendition that a parsed argument specifies
abbrev pub parsed_args : RenditionSpec → Rendition
parsed_args w = record { name = w.name.now; video = w.video; bandwidth = w.bandwidth; tolerance = w.tolerance }
