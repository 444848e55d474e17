-- A session line by line: one output line for each, and the laws of a session.
use mathlib.Core.Path.{◌≡◌, refl, ap, ◌∙◌}
use mathlib.Core.Bool.{Bool, true, false, cond}
use mathlib.Core.List.{List, [], ◌∷◌, ◌++◌}
use Prim.Native.Nat.{ℕ, zero, suc, ◌+◌, ◌-◌, ◌/◌, ◌%◌, ◌<◌}
use native.Mathlib.Omega.{arith}
use borrow.Author.Tests.{ne_eqb}
use lib.Dec.{eqb, ltb}
use Rattle.std.proofs.Common.{append_assoc, append-nil}
use lib.ListN.{length, get_or, take}
use Rattle.cells.specs.Xor.{zeros}
use Rattle.lines.specs.Lines.{line_feed, lines_of, first_line, behind_line, closed}
use Rattle.lines.specs.Hex.{char0, small_a, digit_of, digits_of}
use Rattle.lines.proofs.Lines.{the_lines}
use Rattle.frames.specs.declared.TheConstants.{MOST_STORE}
use Rattle.frames.specs.Printing.{printed}
use Rattle.steps.specs.Session.{Session, Fresh, line_done, and_then, lines_done, text_read}
use Rattle.steps.specs.Laws.{TheSession}
use Rattle.steps.proofs.Kept.{kept, returned}
use Rattle.steps.proofs.SetUps.{afresh}

next : (session : Session) (store text : List ℕ) → 0 < length text → let first = line_done session store (first_line text) in
    lines_done session store (lines_of text) ≡ and_then first (lines_done first.session first.store (lines_of (behind_line text)))
unfolding lines_done
next session store text h = rw (the_lines.next text h)

none : (session : Session) (store : List ℕ) → lines_done session store (lines_of []) ≡ record { session = session; store = store; output = [] }
unfolding lines_done
none session store = rw the_lines.none

-- ---- some lines, and others behind them

-- what lines do is what the first of them do, and then the others
done_append : (session : Session) (store : List ℕ) (lines others : List (List ℕ)) → let before = lines_done session store lines in
    let after = lines_done before.session before.store others in
    lines_done session store (lines ++ others) ≡ record { session = after.session; store = after.store; output = before.output ++ after.output }
unfolding lines_done
done_append session store [] others = refl
done_append session store (line ∷ lines) others =
    let first = line_done session store line in
    let before = lines_done first.session first.store lines in
    let after = lines_done before.session before.store others in
    rw (done_append first.session first.store lines others, append_assoc (printed first.answer) before.output after.output)

-- one line more
pub done_more : (session : Session) (store : List ℕ) (lines : List (List ℕ)) (line : List ℕ) → let before = lines_done session store lines in
    let last = line_done before.session before.store line in
    lines_done session store (lines ++ line ∷ []) ≡ record { session = last.session; store = last.store; output = before.output ++ printed last.answer }
unfolding lines_done
done_more session store lines line = rw (done_append session store lines (line ∷ []), append-nil)

-- the output up to a line, that line's, and the others'
pub output_append : (session : Session) (store : List ℕ) (lines : List (List ℕ)) (line : List ℕ) (others : List (List ℕ)) → let before = lines_done session store lines in
    let last = line_done before.session before.store line in
    (lines_done session store (lines ++ line ∷ others)).output ≡ before.output ++ (printed last.answer ++ (lines_done last.session last.store others).output)
unfolding lines_done
output_append session store lines line others = rw (done_append session store lines (line ∷ others))

-- ---- a line of output for every line

no_feed : (v : ℕ) → eqb (digit_of v) line_feed ≡ false
no_feed v = go (ltb v 10)
  where
    go : (t : Bool) → eqb (cond t (char0 + v) (small_a + (v - 10))) line_feed ≡ false
    go true = ne_eqb (char0 + v) line_feed (λ e. omega arith)
    go false = ne_eqb (small_a + (v - 10)) line_feed (λ e. omega arith)

printed_line : (bytes text : List ℕ) → lines_of (printed bytes ++ text) ≡ digits_of bytes ∷ lines_of text
unfolding lines_of digits_of
printed_line [] text = refl
printed_line (b ∷ bytes) text = rw (no_feed (b / 16), no_feed (b % 16), printed_line bytes text)

-- line n is what line n answers after those before it
in_order : (session : Session) (store : List ℕ) (lines : List (List ℕ)) (n : ℕ) → n < length lines
    → let before = lines_done session store (take n lines) in
    get_or (lines_of (lines_done session store lines).output) n [] ≡ digits_of (line_done before.session before.store (get_or lines n [])).answer
unfolding lines_done
in_order session store [] n h = absurd (omega arith)
in_order session store (line ∷ lines) zero h =
    let first = line_done session store line in
    rw (printed_line first.answer (lines_done first.session first.store lines).output)
in_order session store (line ∷ lines) (suc n) h =
    let first = line_done session store line in
    rw (printed_line first.answer (lines_done first.session first.store lines).output)
    (in_order first.session first.store lines n (omega arith))

line_each : (session : Session) (store : List ℕ) (lines : List (List ℕ)) → length (lines_of (lines_done session store lines).output) ≡ length lines
unfolding lines_done lines_of
line_each session store [] = refl
line_each session store (line ∷ lines) =
    let first = line_done session store line in
    let rest = lines_done first.session first.store lines in
    ap length (printed_line first.answer rest.output) ∙ ap suc (line_each first.session first.store lines)

-- ---- the output ends in a line feed, if there is any

closed_line : (front rest : List ℕ) → closed rest ≡ rest → closed (front ++ (line_feed ∷ rest)) ≡ front ++ (line_feed ∷ rest)
closed_line [] [] e = refl
closed_line [] (d ∷ rest) e = ap (λ (l : List ℕ). line_feed ∷ l) e
closed_line (c ∷ []) rest e = ap (λ (l : List ℕ). c ∷ l) (closed_line [] rest e)
closed_line (c ∷ d ∷ front) rest e = ap (λ (l : List ℕ). c ∷ l) (closed_line (d ∷ front) rest e)

ended : (session : Session) (store : List ℕ) (lines : List (List ℕ)) → let output = (lines_done session store lines).output in closed output ≡ output
unfolding lines_done
ended session store [] = refl
ended session store (line ∷ lines) =
    let first = line_done session store line in
    let rest = lines_done first.session first.store lines in
    rw append_assoc (closed_line (digits_of first.answer) rest.output (ended first.session first.store lines))

pub the_session : TheSession
the_session = record {
  next = next;
  none = none;
  one = λ input. line_each Fresh (zeros MOST_STORE) (text_read input);
  each = λ input. in_order Fresh (zeros MOST_STORE) (text_read input);
  ended = λ input. ended Fresh (zeros MOST_STORE) (text_read input);
  afresh = afresh;
  kept = kept;
  returned = returned;
}
