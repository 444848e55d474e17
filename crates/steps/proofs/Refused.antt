-- What a refused line leaves and answers.
use mathlib.Core.Path.{◌≡◌, refl}
use mathlib.Core.List.{List}
use Prim.Native.Nat.{ℕ}
use Rattle.refusals.specs.Verdict.{Accepted}
use Rattle.layout.specs.declared.Shape.{Shape}
use Rattle.memory.specs.Meaning.{Operation}
use Rattle.lines.specs.Hex.{bytes_of}
use Rattle.frames.specs.Frame.{Frame, write, release, read, unknown, frame_of, frame_in, line_refusal, first_byte}
use Rattle.frames.specs.Laws.{BytesLine}
use Rattle.frames.proofs.Framed.{line_words, line_refused, in_line}
use Rattle.steps.specs.Asked.{asks_operation, asked}
use Rattle.steps.specs.Session.{Session, Fresh, frame_done, line_done}
use Rattle.steps.specs.Laws.{unserved, TheRefusedLines}
use Rattle.steps.proofs.SetUps.{one_to_four, twenty}

seventeen : (session : Session) (store line : List ℕ) → (BytesLine line → ⊥) → line_done session store line ≡ unserved session store 0xff 17
unfolding line_done
seventeen session store line out = rw (line_refused line out)

eighteen : (session : Session) (store line : List ℕ) → BytesLine line → frame_in line ≡ unknown
    → line_done session store line ≡ unserved session store 0xff 18
unfolding line_done frame_done
eighteen session store line w is =
    let fine : line_refusal line ≡ Accepted = (line_words line).1 w in
    let none : frame_of (bytes_of line) ≡ unknown = rw fine at is in
    rw (fine, none)

-- there is no memory for an operation
nineteen : (store line : List ℕ) (frame : Frame) (ask : Shape → Operation) → frame_in line ≡ frame → (unknown ≡ frame → ⊥)
    → asked frame ≡ asks_operation ask → line_done Fresh store line ≡ unserved Fresh store (first_byte frame) 19
unfolding line_done frame_done
nineteen store line frame ask is known asks = let f = in_line line frame is known in rw (f.0, f.1, asks)

pub the_refused_lines : TheRefusedLines
the_refused_lines = record {
  seventeen = seventeen;
  eighteen = eighteen;
  nineteen_write = λ store line row packets is. nineteen store line (write row packets) _ is (λ e. cc) refl;
  nineteen_release = λ store line row is. nineteen store line (release row) _ is (λ e. cc) refl;
  nineteen_read = λ store line list is. nineteen store line (read list) _ is (λ e. cc) refl;
  one_to_four = one_to_four;
  twenty = twenty;
}
