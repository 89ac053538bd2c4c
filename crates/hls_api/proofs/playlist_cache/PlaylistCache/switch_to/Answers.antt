-- The cached playlists are those of the new state: they are removed if its version differs, and kept otherwise (`gone_on`).
use Rattle.std.proofs.Common.{◌≡◌, ◌∙◌, ◌++◌, ◌∷◌, [], Some, length, inl, inr, ap, sym, subst}
use Rattle.hls_core_laws.specs.State.{State}
use Rattle.hls_api.specs.{declared.playlist_cache.PlaylistCache.TheInside.Inside, PlaylistCache.{HasSameListsBefore, noted_state}}
use Rattle.hls_api.proofs.{Recents.gone_on, playlist_cache.PlaylistCache.switch_to.Goals.{then-version-self, else-version-self}}
use Rattle.hls_api.proofs.playlist_cache.PlaylistCache.switch_to.Goals as goal

pub invariant_of-self : goal.invariant_of-self
invariant_of-self c =
    let b = c.args.state.now.value in
    let inside = c.self.inside in
    let kept = c.if-version-self.self-inside in
    let source = noted_state inside.source.items in
    let follows : HasSameListsBefore source b = subst (λ o. HasSameListsBefore o b) (sym c.self.view_is) c.requires in
    let had : c.version-version.result ≡ length b.log = c.version-version.ensures.value ∙ ap (λ (s : State). length s.log) c.deref.ensures in
    let noted : noted_state c.and-self-inside.result.items ≡ Some b = ap noted_state (c.and-self-inside.ensures ∙ ap (λ l. l ++ (c.args.state.now, tt {0}) ∷ []) c.new.ensures) in
    gone_on source _ b inside.version c.version-version.result inside.lists.items kept.lists.items c.self.invariant follows noted had
    (elim c.if-version-self.branch [
      | then-version-self w ↦ inr (ap (λ (i : Inside). i.lists.items) w.self-inside-is ∙ w.clear.ensures.items)
      | else-version-self w ↦ inl (w.if-version-self.false, ap (λ (i : Inside). i.lists.items) w.self-inside-is)
    ])
