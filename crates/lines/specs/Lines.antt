-- The lines of a text, and where a reader finds them.
use Rattle.std.specs.Prelude.{Bool, not, if◌then◌else◌, List, [], ◌∷◌, ◌++◌, ℕ, ◌+◌, ◌==◌, nat_lt, length, drop, Option, Some, None}
use Rattle.std.specs.List.{list_all}
use Rattle.lines.specs.declared.reader.Line.{Line}

-- The character that ends a line.
abbrev pub line_feed : ℕ
line_feed = 10

-- ---- the lines of a text

-- A character in front of the first of some lines; a line by itself where there are none.
abbrev pub in_front : ℕ → List (List ℕ) → List (List ℕ)
in_front c [] = (c ∷ []) ∷ []
in_front c (line ∷ lines) = (c ∷ line) ∷ lines

-- The lines of a text: what stands in front of each line feed, and what is left behind the last one. An empty text has none, so where the
-- text ends with its line feed nothing is left [session.lines].
unfoldable pub lines_of : List ℕ → List (List ℕ)
lines_of [] = []
lines_of (c ∷ text) = if c == line_feed then [] ∷ lines_of text else in_front c (lines_of text)

-- ---- where a reader finds them

-- What stands before a text's first line feed.
unfoldable pub first_line : List ℕ → List ℕ
first_line [] = []
first_line (c ∷ text) = if c == line_feed then [] else c ∷ first_line text

-- What stands behind that line feed; nothing where there is none.
abbrev pub behind_line : List ℕ → List ℕ
behind_line text = drop (length (first_line text) + 1) text

-- Where the line that starts at an index ends.
abbrev pub line_end : List ℕ → ℕ → ℕ
line_end text at = at + length (first_line (drop at text))

-- That line: its end, and where the next one starts, behind the line feed if there is one. At the end of the text both are that index.
abbrev pub line_at : List ℕ → ℕ → Line
line_at text at = let end = line_end text at in record { end = end; next = if nat_lt end (length text) then end + 1 else end }

-- What a reader finds at an index: that line, or none where the text ends there.
abbrev pub line_found : List ℕ → ℕ → Option Line
line_found text at = if nat_lt at (length text) then Some (line_at text at) else None

-- ---- the words of their laws

-- No character of a line is a line feed.
abbrev pub no_line_feed : List ℕ → Bool
no_line_feed line = list_all (λ c. not (c == line_feed)) line

-- Lines one after the other, each ended by a line feed.
abbrev pub joined : List (List ℕ) → List ℕ
joined [] = []
joined (line ∷ lines) = line ++ (line_feed ∷ joined lines)

-- A text with the line feed that its last line may lack.
abbrev pub closed : List ℕ → List ℕ
closed [] = []
closed (c ∷ []) = if c == line_feed then c ∷ [] else c ∷ line_feed ∷ []
closed (c ∷ d ∷ text) = c ∷ closed (d ∷ text)
