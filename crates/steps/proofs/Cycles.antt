-- A read cycle in a session: the buffers that it is lent, and what it then answers.
use mathlib.Core.Path.{◌≡◌, refl, ap, ◌∙◌}
use mathlib.Core.Logic.{⊎_elim}
use mathlib.Core.List.{List, ◌∷◌, ◌++◌}
use Prim.Native.Nat.{ℕ, ◌*◌, ◌≤◌, min}
use native.Mathlib.Omega.{arith}
use lib.ListN.{length, take, drop, length-replicate}
use Rattle.std.proofs.lemmas.List.{take-replicate, length-take}
use lib.Seq.{take_at}
use borrow.Table.Elements.{take-le}
use Rattle.cells.specs.Xor.{zeros}
use Rattle.reads.specs.Reads.{reads_in}
use Rattle.layout.specs.Shape.{store_size}
use Rattle.memory.specs.declared.State.{State}
use Rattle.memory.specs.declared.Outcome.{Outcome}
use Rattle.memory.specs.Operations.{cycle_refusal, cycle_outcome, cycle_output}
use Rattle.memory.specs.History.{outcome_of, packets_by}
use Rattle.frames.specs.declared.TheConstants.{MOST_STORE}
use Rattle.frames.specs.Frame.{read, first_byte}
use Rattle.frames.specs.Printing.{said, Prints}
use Rattle.steps.specs.declared.Reply.{Reply}
use Rattle.steps.specs.Asked.{cycle_of}
use Rattle.steps.specs.Session.{Running, memory_of, frame_done}
use Rattle.steps.specs.Steps.{Gives}
use Rattle.steps.specs.Parts.{lent_size}
use Rattle.steps.proofs.Rooms.{said_of, same_said}
use Rattle.steps.proofs.Done.{running, same_store, lends}

-- ---- the buffers

-- a buffer of zeros whose front is lent, where a list as long comes back in its place: the front was zeros, and is that list
pub record Filled (n size : ℕ) (packets : List ℕ) : Type 0 where
  pub lent : take size (zeros n) ≡ zeros size
  pub front : take size (packets ++ drop size (zeros n)) ≡ packets

pub filled : (n size all : ℕ) (packets : List ℕ) → size ≡ min all n → length packets ≡ length (take size (zeros n)) → Filled n size packets
filled n size all packets h e =
    let z = take-replicate size n 0 (omega arith) in
    let l : length packets ≡ size = e ∙ ap length z ∙ length-replicate size 0 in
    record { lent = z; front = take_at packets (drop size (zeros n)) size l }

-- the front of a list is no longer than that
pub within : (size n : ℕ) (l : List ℕ) → size ≤ n → length (take size l) ≤ n
within size n l h = rw length-take (omega arith)

-- ---- frame 04

module _ (store reads : List ℕ) (st : State) (front size : ℕ) (fits : length store ≡ MOST_STORE) (e : front ≡ min (lent_size st.shape) MOST_STORE)
    (room : size ≡ min (length (reads_in reads) * st.shape.p) MOST_STORE) where
  -- neither the room that there is for them nor the part of the store that is lent changes it: a broken state is refused whatever they are
  same_cycle : said_of st (take front store) reads size ≡ said_of st (memory_of st store).store reads (length (reads_in reads) * st.shape.p)
  unfolding cycle_refusal
  same_cycle =
      ⊎_elim
      (λ b. rw b)
      (λ l. rw l.front (same_said st (memory_of st store).store reads size (omega (arith, take-le (store_size st.shape) store)) room))
      (lends st store front fits e)

  -- what a cycle on that part answers in bytes, and what a step that prints it gives
  module _ (part lines : List ℕ) (o : Outcome) (packets : List ℕ) (zp : part ≡ zeros size) (zl : lines ≡ zeros (length (reads_in reads) * 2))
      (done : o ≡ cycle_outcome st (length (take front store)) reads (length part) (length lines)) (filled : packets ≡ cycle_output st (take front store) reads part lines) where
    cycles : let memory = memory_of st store in
        let op = cycle_of reads st.shape in
        said packets o.answer ≡ said (packets_by memory op) (outcome_of memory op).answer
    cycles =
        let did : o ≡ cycle_outcome st (length (take front store)) reads size (length (reads_in reads) * 2) = simp (zp, zl, length-replicate) at done in
        rw (did, filled, zp, zl) (simp length-replicate (simp length-replicate at same_cycle))

    pub cycle_done : {out left : List ℕ} {r : Reply} → r.session ≡ Running o.state → Prints (first_byte (read reads) ∷ said packets o.answer) out r.len left
        → Gives (frame_done (Running st) store (read reads)) out r store left
    cycle_done goes printed = running store (read reads) (cycle_of reads) st o refl (rw done) (same_store st store) goes (rw cycles at printed)
