-- Lines that are written rendition by rendition.
use Rattle.std.proofs.Common.{◌≡◌, ℕ, ◌+◌, ◌<◌, ◌≤◌, List, [], ◌∷◌, ◌++◌, length, take, drop, get_or, append-nil, ap, sym, ◌∙◌}
use Rattle.std.proofs.lemmas.List.{append_assoc, drop_more, take_more, drop_all}
use Rattle.hls_m3u8.specs.Lines.{text_of_lines}
use Rattle.hls_m3u8.proofs.Joined.{joined_append}
use Rattle.hls_players_master.specs.declared.summary.RenditionSummary.{RenditionSummary}
use Rattle.hls_players_master.specs.Text.{media_of, media_lines, variant_of, variants_with, alone_lines, variants_alone, variants_of, variants_of_videos}

-- lines that were written, and then later ones, are the text of both lists of lines
lines-next : (o p : List ℕ) (now later : List (List ℕ)) → p ≡ o ++ text_of_lines now → p ++ text_of_lines later ≡ o ++ text_of_lines (now ++ later)
lines-next o p now later written =
    ap (λ (t : List ℕ). t ++ text_of_lines later) written ∙ append_assoc o (text_of_lines now) (text_of_lines later) ∙ ap (λ (t : List ℕ). o ++ t) (sym (joined_append now later))

-- two lists of lines, written one after the other, are the text of the joined list
pub both-written : (o p q : List ℕ) (xs ys : List (List ℕ)) → p ≡ o ++ text_of_lines xs → q ≡ p ++ text_of_lines ys → q ≡ o ++ text_of_lines (xs ++ ys)
both-written o p q xs ys first second = second ∙ lines-next o p xs ys first

-- the lines of the renditions from number n on are those of rendition n and those after it; so for each kind of lines below
media-step : (ss : List RenditionSummary) (n : ℕ) (a : RenditionSummary) → n < length ss → a ≡ get_or ss n a
    → media_lines (take n ss) (drop n ss) ≡ media_of (take n ss) a ++ media_lines (take (n + 1) ss) (drop (n + 1) ss)
unfolding media_lines
media-step ss n a small is =
    let at : drop n ss ≡ a ∷ drop (n + 1) ss = drop_more ss n a small ∙ ap (λ (x : RenditionSummary). x ∷ drop (n + 1) ss) (sym is) in
    let passed : take (n + 1) ss ≡ take n ss ++ a ∷ [] = take_more ss n a small ∙ ap (λ (x : RenditionSummary). take n ss ++ x ∷ []) (sym is) in
    ap (media_lines (take n ss)) at ∙ ap (λ (xs : List RenditionSummary). media_of (take n ss) a ++ media_lines xs (drop (n + 1) ss)) (sym passed)

-- after the lines of rendition n, the text so far and that of the renditions after it are the whole text; so for each kind of lines below
pub media-next : (all o p : List ℕ) (ss : List RenditionSummary) (n : ℕ) (a : RenditionSummary) → n < length ss → a ≡ get_or ss n a
    → p ≡ o ++ text_of_lines (media_of (take n ss) a) → o ++ text_of_lines (media_lines (take n ss) (drop n ss)) ≡ all
    → p ++ text_of_lines (media_lines (take (n + 1) ss) (drop (n + 1) ss)) ≡ all
media-next all o p ss n a small is written before =
    lines-next o p (media_of (take n ss) a) (media_lines (take (n + 1) ss) (drop (n + 1) ss)) written
    ∙ ap (λ (xs : List (List ℕ)). o ++ text_of_lines xs) (sym (media-step ss n a small is)) ∙ before

-- after the last rendition the text so far is the whole; so for each kind of lines below
pub media-end : (all o : List ℕ) (ss : List RenditionSummary) (n : ℕ) → length ss ≤ n → o ++ text_of_lines (media_lines (take n ss) (drop n ss)) ≡ all → o ≡ all
unfolding media_lines
media-end all o ss n done before =
    sym (append-nil o) ∙ sym (ap (λ (xs : List RenditionSummary). o ++ text_of_lines (media_lines (take n ss) xs)) (drop_all n ss done)) ∙ before

-- the variant streams of a rendition
variants-step : (all_ss : List RenditionSummary) (v : RenditionSummary) (ss : List RenditionSummary) (n : ℕ) (a : RenditionSummary) → n < length ss → a ≡ get_or ss n a
    → variants_with all_ss v (take n ss) (drop n ss) ≡ variant_of all_ss v (take n ss) a ++ variants_with all_ss v (take (n + 1) ss) (drop (n + 1) ss)
unfolding variants_with
variants-step all_ss v ss n a small is =
    let at : drop n ss ≡ a ∷ drop (n + 1) ss = drop_more ss n a small ∙ ap (λ (x : RenditionSummary). x ∷ drop (n + 1) ss) (sym is) in
    let passed : take (n + 1) ss ≡ take n ss ++ a ∷ [] = take_more ss n a small ∙ ap (λ (x : RenditionSummary). take n ss ++ x ∷ []) (sym is) in
    ap (variants_with all_ss v (take n ss)) at ∙ ap (λ (xs : List RenditionSummary). variant_of all_ss v (take n ss) a ++ variants_with all_ss v xs (drop (n + 1) ss)) (sym passed)

pub variants-next : (all_ss : List RenditionSummary) (v : RenditionSummary) (all o p : List ℕ) (ss : List RenditionSummary) (n : ℕ) (a : RenditionSummary) → n < length ss → a ≡ get_or ss n a
    → p ≡ o ++ text_of_lines (variant_of all_ss v (take n ss) a) → o ++ text_of_lines (variants_with all_ss v (take n ss) (drop n ss)) ≡ all
    → p ++ text_of_lines (variants_with all_ss v (take (n + 1) ss) (drop (n + 1) ss)) ≡ all
variants-next all_ss v all o p ss n a small is written before =
    lines-next o p (variant_of all_ss v (take n ss) a) (variants_with all_ss v (take (n + 1) ss) (drop (n + 1) ss)) written
    ∙ ap (λ (xs : List (List ℕ)). o ++ text_of_lines xs) (sym (variants-step all_ss v ss n a small is)) ∙ before

pub variants-end : (all_ss : List RenditionSummary) (v : RenditionSummary) (all o : List ℕ) (ss : List RenditionSummary) (n : ℕ) → length ss ≤ n → o ++ text_of_lines (variants_with all_ss v (take n ss) (drop n ss)) ≡ all → o ≡ all
unfolding variants_with
variants-end all_ss v all o ss n done before =
    sym (append-nil o) ∙ sym (ap (λ (xs : List RenditionSummary). o ++ text_of_lines (variants_with all_ss v (take n ss) xs)) (drop_all n ss done)) ∙ before

-- those of each video rendition
videos-step : (all_ss : List RenditionSummary) (ss : List RenditionSummary) (n : ℕ) (a : RenditionSummary) → n < length ss → a ≡ get_or ss n a
    → variants_of_videos all_ss (drop n ss) ≡ variants_of all_ss a ++ variants_of_videos all_ss (drop (n + 1) ss)
unfolding variants_of_videos
videos-step all_ss ss n a small is =
    let at : drop n ss ≡ a ∷ drop (n + 1) ss = drop_more ss n a small ∙ ap (λ (x : RenditionSummary). x ∷ drop (n + 1) ss) (sym is) in
    ap (λ (xs : List RenditionSummary). variants_of_videos all_ss xs) at

pub videos-next : (all_ss : List RenditionSummary) (all o p : List ℕ) (ss : List RenditionSummary) (n : ℕ) (a : RenditionSummary) → n < length ss → a ≡ get_or ss n a
    → p ≡ o ++ text_of_lines (variants_of all_ss a) → o ++ text_of_lines (variants_of_videos all_ss (drop n ss)) ≡ all
    → p ++ text_of_lines (variants_of_videos all_ss (drop (n + 1) ss)) ≡ all
videos-next all_ss all o p ss n a small is written before =
    lines-next o p (variants_of all_ss a) (variants_of_videos all_ss (drop (n + 1) ss)) written
    ∙ ap (λ (xs : List (List ℕ)). o ++ text_of_lines xs) (sym (videos-step all_ss ss n a small is)) ∙ before

pub videos-end : (all_ss : List RenditionSummary) (all o : List ℕ) (ss : List RenditionSummary) (n : ℕ) → length ss ≤ n → o ++ text_of_lines (variants_of_videos all_ss (drop n ss)) ≡ all → o ≡ all
unfolding variants_of_videos
videos-end all_ss all o ss n done before =
    sym (append-nil o) ∙ sym (ap (λ (xs : List RenditionSummary). o ++ text_of_lines (variants_of_videos all_ss xs)) (drop_all n ss done)) ∙ before

-- renditions without groups
alone-step : (ss : List RenditionSummary) (n : ℕ) (a : RenditionSummary) → n < length ss → a ≡ get_or ss n a
    → variants_alone (drop n ss) ≡ alone_lines a ++ variants_alone (drop (n + 1) ss)
unfolding variants_alone
alone-step ss n a small is =
    let at : drop n ss ≡ a ∷ drop (n + 1) ss = drop_more ss n a small ∙ ap (λ (x : RenditionSummary). x ∷ drop (n + 1) ss) (sym is) in
    ap (λ (xs : List RenditionSummary). variants_alone xs) at

pub alone-next : (all o p : List ℕ) (ss : List RenditionSummary) (n : ℕ) (a : RenditionSummary) → n < length ss → a ≡ get_or ss n a
    → p ≡ o ++ text_of_lines (alone_lines a) → o ++ text_of_lines (variants_alone (drop n ss)) ≡ all
    → p ++ text_of_lines (variants_alone (drop (n + 1) ss)) ≡ all
alone-next all o p ss n a small is written before =
    lines-next o p (alone_lines a) (variants_alone (drop (n + 1) ss)) written
    ∙ ap (λ (xs : List (List ℕ)). o ++ text_of_lines xs) (sym (alone-step ss n a small is)) ∙ before

pub alone-end : (all o : List ℕ) (ss : List RenditionSummary) (n : ℕ) → length ss ≤ n → o ++ text_of_lines (variants_alone (drop n ss)) ≡ all → o ≡ all
unfolding variants_alone
alone-end all o ss n done before =
    sym (append-nil o) ∙ sym (ap (λ (xs : List RenditionSummary). o ++ text_of_lines (variants_alone xs)) (drop_all n ss done)) ∙ before
