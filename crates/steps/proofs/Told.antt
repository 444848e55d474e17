-- What an operation answers after a history.
use mathlib.Core.Path.{◌≡◌, refl, ap, ◌∙◌}
use mathlib.Core.List.{List, [], ◌∷◌}
use Prim.Native.Nat.{ℕ}
use Rattle.refusals.specs.declared.Answer.TheVariants.{FullRows}
use Rattle.layout.specs.declared.Shape.{Shape}
use Rattle.memory.specs.Meaning.{Operation, Memory, meaning_of}
use Rattle.memory.specs.History.{History, outcome_of, packets_by, answer_in}
use Rattle.frames.specs.Frame.{Frame, write, release, read, unknown, frame_in, first_byte}
use Rattle.frames.specs.Printing.{said}
use Rattle.frames.proofs.Framed.{in_line}
use Rattle.steps.specs.Asked.{asks_operation, asked}
use Rattle.steps.specs.Session.{Session, memory_of, frame_done, line_done, from_start, answer_after}
use Rattle.steps.specs.Past.{since, Keeps}
use Rattle.steps.specs.Laws.{TellsRefusal, TellsRows, Comes, TheAnswers}
use Rattle.refusals.proofs.Numbers.{forth}
use Rattle.steps.proofs.Kept.{kept}

-- what the history says, with what the memory puts out
record Tells (first : ℕ) (sh : Shape) (history : History) (ask : Shape → Operation) (answer : List ℕ) : Type 0 where
  memory : Memory
  shape : Shape
  is : answer ≡ first ∷ said (packets_by memory (ask shape)) (answer_in sh history (ask sh))

by_history : (sh : Shape) (history : History) (session : Session) (store line : List ℕ) (frame : Frame) (ask : Shape → Operation)
    → Keeps (since sh history) session store → frame_in line ≡ frame → (unknown ≡ frame → ⊥) → asked frame ≡ asks_operation ask
    → Tells (first_byte frame) sh history ask (line_done session store line).answer
unfolding frame_done line_done
by_history sh history session store line frame ask k is known asks =
    let st = k.0 in
    let r = k.2 in
    let memory = memory_of st store in
    let told : (outcome_of memory (ask st.shape)).answer ≡ answer_in sh history (ask sh) =
    r.answers (ask st.shape) ∙ ap (λ (s : Shape). answer_in sh history (ask s)) r.agrees.of_shape in
    let f = in_line line frame is known in
    record { memory = memory; shape = st.shape; is = rw (f.0, f.1, asks, k.1, told) }

tells : (lines : List (List ℕ)) (line : List ℕ) (sh : Shape) (history : History) (frame : Frame) (ask : Shape → Operation)
    → Comes frame sh history lines line → (unknown ≡ frame → ⊥) → asked frame ≡ asks_operation ask
    → Tells (first_byte frame) sh history ask (answer_after lines line)
tells lines line sh history frame ask c =
    by_history sh history (from_start lines).session (from_start lines).store line frame ask (rw c.past at (kept lines)) c.is

refusal : (first : ℕ) (sh : Shape) (history : History) (ask : Shape → Operation) (answer : List ℕ) → Tells first sh history ask answer
    → TellsRefusal first sh history (ask sh) answer
refusal first sh history ask answer t number place least most e = t.is ∙ rw (e, forth number least most)

-- one that puts nothing out, and tells the number of full rows
rows : (first : ℕ) (sh : Shape) (history : History) (ask : Shape → Operation) (answer : List ℕ) → Tells first sh history ask answer
    → ((memory : Memory) (shape : Shape) → packets_by memory (ask shape) ≡ []) → ((n : ℕ) → (meaning_of (ask sh)).told n ≡ FullRows n)
    → TellsRows first sh history (ask sh) answer
rows first sh history ask answer t quiet told = record {
  refusal = refusal first sh history ask answer t;
  rows = λ e. t.is ∙ rw (e, quiet t.memory t.shape, told);
}

pub the_answers : TheAnswers
the_answers = record {
  written = λ lines line sh history row packets c.
      rows _ sh history _ _ (tells lines line sh history (write row packets) _ c (λ e. cc) refl) (λ memory shape. refl) (λ n. refl);
  released = λ lines line sh history row c.
      rows _ sh history _ _ (tells lines line sh history (release row) _ c (λ e. cc) refl) (λ memory shape. refl) (λ n. refl);
  unread = λ lines line sh history list c. refusal _ sh history _ _ (tells lines line sh history (read list) _ c (λ e. cc) refl);
}
