-- A text that explains names, line by line. The lines are separated by line feeds, and a line's name is the text before its first
-- colon.
use Rattle.std.specs.Prelude.{ℕ, ◌==◌, nat_eq, flat_map, List, [], ◌∷◌, ◌++◌, Option, Some, None, option_map}
use Rattle.std.specs.List.{before_first, find, slice_split}
use Rattle.std.specs.Cmp.Lexicographic.{pointwise}

-- the lines of a text, separated by line feeds
abbrev pub lines_of : List ℕ → List (List ℕ)
lines_of text = slice_split (λ b. b == 10) text

-- the name of a line: the text before its first colon, or the whole line
abbrev pub name_in : List ℕ → List ℕ
name_in line = before_first (λ b. b == 58) line

-- the first line with this name
abbrev pub line_of : List ℕ → List ℕ → Option (List ℕ)
line_of text name = find (λ line. pointwise nat_eq (name_in line) name) (lines_of text)

-- the name of a line, and a line feed
abbrev pub name_row : List ℕ → List ℕ
name_row line = name_in line ++ (10 ∷ [])

-- the names of all lines, each with a line feed
abbrev pub names_of : List ℕ → List ℕ
names_of text = flat_map name_row (lines_of text)

-- the first line with this name, and a line feed
abbrev pub row_of : List ℕ → List ℕ → Option (List ℕ)
row_of text name = option_map (λ line. line ++ (10 ∷ [])) (line_of text name)

-- the explanation of a name; without a name, all names
abbrev pub explanation_of : List ℕ → Option (List ℕ) → Option (List ℕ)
explanation_of text None = Some (names_of text)
explanation_of text (Some name) = row_of text name
