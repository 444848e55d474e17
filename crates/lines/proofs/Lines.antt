-- Laws of a text's lines, and of where a reader finds them.
use mathlib.Core.Path.{◌≡◌, refl, ap}
use mathlib.Core.Bool.{Bool, true, false, cond, not}
use Rattle.std.specs.List.{prefix_len, list_all}
use mathlib.Core.List.{List, [], ◌∷◌}
use Prim.Native.Nat.{ℕ, suc, ◌+◌, ◌-◌, ◌≤◌, ◌<◌}
use native.Mathlib.Nat.{not-suc-le-zero}
use native.Mathlib.Numerals.{add-one, one-add}
use native.Mathlib.Omega.{arith}
use Rattle.std.proofs.lemmas.List.{length-take}
use Rattle.std.proofs.lemmas.List.Folds.{length-prefix_len}
use Rattle.std.proofs.lemmas.Bool.Decides.{nat_tests}
use lib.Dec.{eqb, ltb}
use borrow.Author.Tests.{ltb-true}
use Rattle.std.specs.Prelude.{Some, None}
use Rattle.lines.specs.declared.reader.Line.{Line}
use lib.ListN.{length, take, drop, length-drop, drop_of_length-le}
use lib.Seq.{drop-drop}
use Rattle.lines.specs.Lines.{line_feed, in_front, lines_of, first_line, behind_line, line_end, line_at, line_found, no_line_feed, joined, closed}
use Rattle.lines.specs.Laws.{TheLines}

-- ---- the first line of a text

-- a character before a line feed
abbrev pub in_line : ℕ → Bool
in_line c = not (eqb c line_feed)

-- in the library's words
pub first_prefix : (text : List ℕ) → first_line text ≡ take (prefix_len in_line text) text
unfolding first_line
first_prefix [] = refl
first_prefix (c ∷ text) = go (eqb c line_feed) (first_prefix text)
  where
    go : (t : Bool) → first_line text ≡ take (prefix_len in_line text) text
        → cond t [] (c ∷ first_line text) ≡ take (cond (not t) (1 + prefix_len in_line text) 0) (c ∷ text)
    go true rest = refl
    go false rest = rw one-add (ap (λ (r : List ℕ). c ∷ r) rest)

first_take : (text : List ℕ) → take (length (first_line text)) text ≡ first_line text
first_take text = rw (first_prefix text, length-prefix_len)

first_within : (text : List ℕ) → length (first_line text) ≤ length text
first_within text = rw (first_prefix text, length-take) (omega arith)

first_cons : (c : ℕ) (text : List ℕ)
    → lines_of (c ∷ text) ≡ first_line (c ∷ text) ∷ lines_of (drop (length (first_line (c ∷ text)) + 1) (c ∷ text))
unfolding lines_of first_line
first_cons c [] = grind (arith, nat_tests)
first_cons c (d ∷ text) = go (eqb c line_feed) (lines_of (d ∷ text)) (first_line (d ∷ text)) refl (first_cons d text)
  where
    go : (t : Bool) (lines : List (List ℕ)) (line : List ℕ) → lines ≡ lines_of (d ∷ text)
        → lines ≡ line ∷ lines_of (drop (length line + 1) (d ∷ text))
        → cond t ([] ∷ lines) (in_front c lines) ≡ cond t [] (c ∷ line) ∷ lines_of (drop (length (cond t [] (c ∷ line)) + 1) (c ∷ d ∷ text))
    go true lines line same rest = ap (λ (r : List (List ℕ)). [] ∷ r) same
    go false lines line same rest = rw (rest, add-one (length line), add-one (suc (length line)))

-- A text that is not empty has its first line, and then the lines behind. Where that line has no line feed, nothing is behind.
first_line_lem : (text : List ℕ) → 0 < length text → lines_of text ≡ first_line text ∷ lines_of (behind_line text)
first_line_lem [] h = absurd (not-suc-le-zero h)
first_line_lem (c ∷ text) h = first_cons c text

-- ---- the line that starts at an index

module _ (text : List ℕ) (at : ℕ) where
  pub end_within : at ≤ length text → line_end text at ≤ length text
  end_within h = omega (arith, first_within (drop at text), length-drop at text)

  -- what stands from there to its end
  pub line_part : take (line_end text at - at) (drop at text) ≡ first_line (drop at text)
  line_part = let l : line_end text at - at ≡ length (first_line (drop at text)) = omega arith in rw l (first_take (drop at text))

  -- and from where the next one starts, whether or not it has a line feed, what is behind it
  pub part_behind : drop (line_at text at).next text ≡ behind_line (drop at text)
  part_behind = grind (arith, nat_tests, drop_of_length-le, drop-drop (length (first_line (drop at text)) + 1) at text)

-- what a reader has found: something is left, and the line stands in the text
pub record Found (text : List ℕ) (at : ℕ) (line : Line) : Type 0 where
  pub left : at < length text
  pub same : line ≡ line_at text at
  pub within : line.end ≤ length text

pub found : (text : List ℕ) (at : ℕ) (line : Line) → Some line ≡ line_found text at → Found text at line
found text at line e = go (ltb at (length text)) refl e
  where
    go : (t : Bool) → ltb at (length text) ≡ t → Some line ≡ cond t (Some (line_at text at)) None → Found text at line
    go true l e =
        let left = ltb-true at (length text) l in
        let same : line ≡ line_at text at = cc in
        rw same (record { left = left; same = refl; within = end_within text at (omega arith) })
    go false l e = absurd (cc)

on : (text : List ℕ) (at : ℕ) → at < length text → (at < (line_at text at).next) × ((line_at text at).next ≤ length text)
on text at h = grind (arith, nat_tests, end_within)

none : lines_of [] ≡ []
unfolding lines_of
none = refl

-- ---- all the lines of a text

whole : (text : List ℕ) → joined (lines_of text) ≡ closed text
unfolding lines_of
whole [] = refl
whole (c ∷ []) = grind (arith, nat_tests)
whole (c ∷ d ∷ text) = grind (arith, nat_tests, first_cons d text, whole (d ∷ text))

front_unbroken : (c : ℕ) → eqb c line_feed ≡ false → (lines : List (List ℕ)) → list_all no_line_feed lines ≡ true → list_all no_line_feed (in_front c lines) ≡ true
front_unbroken c e [] u = grind arith
front_unbroken c e (line ∷ lines) u = grind arith

all_unbroken : (text : List ℕ) → list_all no_line_feed (lines_of text) ≡ true
unfolding lines_of
all_unbroken [] = refl
all_unbroken (c ∷ text) = grind (arith, nat_tests, front_unbroken, all_unbroken text)

pub the_lines : TheLines
the_lines = record { whole = whole; unbroken = all_unbroken; next = first_line_lem; none = none; part = line_part; behind = part_behind; on = on }
