-- The content of a run that was read.
use Rattle.std.proofs.Common.{is_some, ◌≡◌, ℕ, true, false, List, None, refl, sym, ◌∙◌, ap, inl, inr}
use Rattle.std.proofs.lemmas.Bool.{cases_Bool}
use Rattle.hls_media_laws.specs.Fields.{trun_fits}
use Rattle.hls_media.specs.declared.trun.Trun.{Trun}
use Rattle.hls_media.specs.Boxes.{trun_of, IsRun}

-- the fields of a `trun` are kept if and only if it is valid
pub run_kept-fits : (content : List ℕ) → is_some (trun_of content) ≡ trun_fits content
unfolding trun_of
run_kept-fits content = elim (cases_Bool (trun_fits content)) [ inl e ↦ rw e refl | inr e ↦ rw e refl ]

-- a `trun` whose fields aren't kept isn't valid
pub run_fits-none : (r : List ℕ) → trun_of r ≡ None → trun_fits r ≡ false
run_fits-none r is = sym (run_kept-fits r) ∙ ap is_some is

-- a `trun` whose fields are kept is valid
pub run_fits-some : (r : List ℕ) (run : Trun) → IsRun run r → trun_fits r ≡ true
run_fits-some r run is = sym (run_kept-fits r) ∙ ap is_some is.kept
