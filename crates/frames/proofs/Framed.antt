-- Which bytes are which frame. A line that is not refused with 17: what it is, and the bytes that it stands for.
use mathlib.Core.Path.{◌≡◌, refl, sym}
use mathlib.Core.Logic.{◌≢◌, ◌↔◌, inl, inr}
use mathlib.Core.Bool.{Bool, true, false, ◌&&◌, ◌||◌, or-true}
use mathlib.Core.List.{List, [], ◌∷◌}
use Prim.Native.Nat.{ℕ, ◌/◌, ◌%◌, ◌≤◌}
use native.Mathlib.Nat.{mul_comm}
use native.Mathlib.Omega.{arith}
use borrow.Author.Tests.{eqb-true, eq-eqb, ne_eqb}
use lib.Dec.{eqb}
use lib.ListN.{length, take, length-replicate}
use Rattle.std.specs.Prelude.{Err}
use Rattle.std.specs.List.{list_all}
use Rattle.std.proofs.lemmas.List.Sums.{AllPass-from_list_all, list_all-from_AllPass}
use Rattle.refusals.specs.Verdict.{Verdict, Accepted, refused, between, check, if_refused}
use Rattle.refusals.proofs.Verdicts.{check_passed, both, between_words, words_between}
use Rattle.layout.specs.Laws.{Within}
use Rattle.cells.specs.Cell.{put}
use Rattle.cells.specs.Xor.{zeros}
use Rattle.cells.proofs.Cells.{cell_put}
use Rattle.lines.specs.Hex.{char0, char9, small_a, small_f, is_digit, bytes_of}
use Rattle.lines.proofs.Digits.{length_bytes}
use Rattle.frames.specs.declared.TheConstants.{MOST_CHARACTERS, MOST_FRAME}
use Rattle.frames.specs.Frame.{Frame, unknown, set_up_frame, release_frame, frame_by, frame_of, frame_in, line_refusal}
use Rattle.frames.specs.Laws.{Digit, BytesLine, TheFrames}

pub record Framed (line : List ℕ) : Type 0 where
  pub least : 1 ≤ length line
  pub most : length line ≤ MOST_CHARACTERS
  pub even : length line % 2 ≡ 0
  pub digits : list_all is_digit line ≡ true

pub framed : (line : List ℕ) → line_refusal line ≡ Accepted → Framed line
unfolding line_refusal
framed line e =
    let range = between 1 MOST_CHARACTERS (length line) in
    let even = eqb (length line % 2) 0 in
    let digits = list_all is_digit line in
    let t = (both (range && even) digits).0 (check_passed 17 0 (range && even && digits) e) in
    let u = (both range even).0 t.0 in
    let w = between_words 1 MOST_CHARACTERS (length line) u.0 in
    record { least = w.0; most = w.1; even = eqb-true _ _ u.1; digits = t.1 }

-- ---- the same in words

digit_words : (c : ℕ) → (is_digit c ≡ true) ↔ Digit c
digit_words c = (go (between char0 char9 c) refl, back)
  where
    go : (t : Bool) → between char0 char9 c ≡ t → (t || between small_a small_f c) ≡ true → Digit c
    go true is e = inl (between_words char0 char9 c is)
    go false is e = inr (between_words small_a small_f c e)

    back : Digit c → is_digit c ≡ true
    back (inl number) = rw (words_between char0 char9 c number)
    back (inr letter) = rw (words_between small_a small_f c letter, or-true)

pub line_words : (line : List ℕ) → (line_refusal line ≡ Accepted) ↔ BytesLine line
unfolding line_refusal
line_words line = (words, accepted)
  where
    words : line_refusal line ≡ Accepted → BytesLine line
    words e =
        let f = framed line e in
        record { least = f.least; most = f.most; even = f.even; digits = λ k d l. (digit_words _).0 (AllPass-from_list_all is_digit line f.digits k d l) }

    accepted : BytesLine line → line_refusal line ≡ Accepted
    accepted w =
        let range = words_between 1 MOST_CHARACTERS (length line) (w.least, w.most) in
        let all : list_all is_digit line ≡ true = list_all-from_AllPass is_digit line (λ k d l. (digit_words _).1 (w.digits k d l)) in
        rw (range, eq-eqb _ _ w.even, all)

-- and otherwise it is refused with 17
pub line_refused : (line : List ℕ) → (BytesLine line → ⊥) → line_refusal line ≡ refused 17 0
unfolding line_refusal
line_refused line out = go _ refl
  where
    go : (t : Bool) → line_refusal line ≡ check 17 0 t → check 17 0 t ≡ refused 17 0
    go true e = absurd (out ((line_words line).0 e))
    go false e = refl

-- ---- which bytes are which frame

other_kind : (kind : ℕ) (fields : List ℕ) → (Within 1 4 kind → ⊥) → frame_by kind fields ≡ unknown
other_kind kind fields out =
    let ne : (n : ℕ) → 1 ≤ n → n ≤ 4 → eqb kind n ≡ false = λ n least most. ne_eqb kind n (λ e. out (rw e (least, most))) in
    rw (ne 1 (omega arith) (omega arith), ne 2 (omega arith) (omega arith), ne 3 (omega arith) (omega arith), ne 4 (omega arith) (omega arith))

other_set_up : (fields : List ℕ) → length fields ≢ 5 → set_up_frame fields ≡ unknown
other_set_up [] ne = refl
other_set_up (a ∷ []) ne = refl
other_set_up (a ∷ b ∷ []) ne = refl
other_set_up (a ∷ b ∷ c ∷ []) ne = refl
other_set_up (a ∷ b ∷ c ∷ d ∷ []) ne = refl
other_set_up (a ∷ b ∷ c ∷ d ∷ e ∷ []) ne = absurd (ne refl)
other_set_up (a ∷ b ∷ c ∷ d ∷ e ∷ f ∷ fields) ne = refl

other_release : (fields : List ℕ) → length fields ≢ 1 → release_frame fields ≡ unknown
other_release [] ne = refl
other_release (row ∷ []) ne = absurd (ne refl)
other_release (row ∷ other ∷ fields) ne = refl

pub the_frames : TheFrames
unfolding frame_of
the_frames = record {
  line = line_words;
  set_up = λ k m high low g. rw (mul_comm 256 high);
  write = λ row packets. refl;
  release = λ row. refl;
  read = λ list. refl;
  empty = refl;
  other = other_kind;
  set_up_length = other_set_up;
  write_length = refl;
  release_length = other_release;
}

-- ---- a line that is a frame

-- it is not refused
pub in_line : (line : List ℕ) (frame : Frame) → frame_in line ≡ frame → (unknown ≡ frame → ⊥) → (line_refusal line ≡ Accepted) × (frame_of (bytes_of line) ≡ frame)
in_line line frame e known = go (line_refusal line) refl e
  where
    go : (v : Verdict) → line_refusal line ≡ v → if_refused unknown (frame_of (bytes_of line)) v ≡ frame → (line_refusal line ≡ Accepted) × (frame_of (bytes_of line) ≡ frame)
    go Accepted is e = (is, e)
    go (Err refusal) is e = absurd (known e)

-- decoded into a buffer of zeros: the front is a frame, of the bytes that the line stands for
module _ (line left : List ℕ) (fine : Accepted ≡ line_refusal line) (e : left ≡ put (zeros MOST_FRAME) 0 (bytes_of line)) where
  pub front : take (length line / 2) left ≡ bytes_of line
  front =
      let f = framed line (sym fine) in
      let room = length-replicate {A = ℕ} MOST_FRAME 0 in
      rw e (cell_put (zeros MOST_FRAME) 0 (bytes_of line) (length line / 2) (length_bytes line) (omega arith))

  pub front_size : length line / 2 ≡ length (take (length line / 2) left)
  front_size = rw (front, length_bytes)

  pub front_most : length (take (length line / 2) left) ≤ MOST_FRAME
  front_most = let f = framed line (sym fine) in rw (← front_size) (omega arith)

-- what a decoded line owes a step
pub ruleset decoded = (framed, front_size, front_most)
