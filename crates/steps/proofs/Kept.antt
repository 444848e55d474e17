-- What the lines of a session asked of its memory, the memory remembers: each line does one operation of a history, or none.
use mathlib.Core.Path.{◌≡◌, refl, sym, ap, ◌∙◌}
use mathlib.Core.List.{List, [], ◌∷◌, ◌++◌}
use Prim.Native.Nat.{ℕ, suc, ◌+◌, ◌*◌, ◌≤◌, ◌<◌}
use native.Mathlib.Omega.{arith}
use borrow.Author.Tests.{leb-true}
use lib.ListN.{length, take, length-replicate}
use lib.Seq.{take_at, length_front, length-take-le}
use Rattle.std.specs.Prelude.{Result, Ok, Err}
use Rattle.refusals.specs.declared.Refusal.{Refusal}
use Rattle.refusals.specs.Verdict.{Verdict, Accepted, answer_by, if_refused}
use Rattle.refusals.proofs.Verdicts.{checks}
use Rattle.cells.specs.Cell.{cell}
use Rattle.cells.specs.Xor.{zeros}
use Rattle.cells.proofs.Each.{length_each}
use Rattle.layout.specs.declared.Shape.{Shape}
use Rattle.layout.specs.Shape.{shape_refusal, store_size}
use Rattle.reads.specs.Reads.{reads_in, read_at}
use Rattle.cycle.specs.Cycle.{plans_of, packet_of, packets_out}
use Rattle.memory.specs.declared.State.{State}
use Rattle.refusals.specs.declared.Answer.{Answer}
use Rattle.refusals.specs.declared.Answer.TheVariants.{Served}
use Rattle.rows.specs.Rows.{packet_in}
use Rattle.memory.specs.Operations.{set_up_of, cycle_refusal, cycle_output}
use Rattle.memory.specs.Meaning.{Operation, Memory}
use Rattle.memory.specs.History.{History, outcome_of, store_after, step, run, verdict_in, last_written, Remembers}
use Rattle.memory.proofs.Recall.{recall_law}
use Rattle.lines.specs.Hex.{bytes_of}
use Rattle.frames.specs.declared.TheConstants.{MOST_STORE}
use Rattle.frames.specs.Frame.{read, unknown, frame_of, frame_in, line_refusal, first_byte}
use Rattle.frames.specs.Printing.{said}
use Rattle.frames.proofs.Framed.{in_line}
use Rattle.steps.specs.Asked.{Asked, asks_nothing, asks_set_up, asks_operation, asked, cycle_of}
use Rattle.steps.specs.Session.{Session, Fresh, Running, Done, unless_refused, set_up_refusal, memory_of, behind, operation_done, done_by, frame_done, line_by, line_done, lines_done, from_start, answer_after}
use Rattle.steps.specs.Past.{Past, nothing, since, more, past_by_asked, past_by, past_in, Keeps, Brings}

-- a memory just set up, over any store
abbrev new : Shape → (first : List ℕ) → Memory
new sh first = record { state = (set_up_of sh).state; store = first }

-- the memory of a session is what a history leaves of it
record Left (sh : Shape) (history : History) (session : Session) (store : List ℕ) : Type 0 where
  accepted : set_up_refusal sh ≡ Accepted
  first : List ℕ
  whole : length first ≡ store_size sh
  state : State
  is : session ≡ Running state
  memory : memory_of state store ≡ run (new sh first) history

abbrev Has : Past → Session → (store : List ℕ) → Type 0
Has nothing session store = session ≡ Fresh
Has (since sh history) session store = Left sh history session store

-- ---- one operation

module _ {sh : Shape} {history : History} {session : Session} {store : List ℕ} (h : Left sh history session store) where
  remembers : (history : History) → Remembers sh history (run (new sh h.first) history)
  unfolding set_up_refusal
  remembers history =
      let e : set_up_refusal sh ≡ Accepted = h.accepted in
      let fine : shape_refusal sh ≡ Accepted = search checks in
      recall_law sh fine h.first h.whole history

  before : Remembers sh history (memory_of h.state store)
  before = rw h.memory (remembers history)

  then : (op : Operation) → Remembers sh (op ∷ history) (step (memory_of h.state store) op)
  then op = rw (← h.memory) at (remembers (op ∷ history))

  -- the memory's part of the store is that of the history, and the bytes behind it are as many as before
  left_by : (op same : Operation) → op ≡ same
      → let memory = memory_of h.state store in
      let s = store_after memory op ++ behind h.state store in
      Left sh (same ∷ history) (Running (outcome_of memory op).state) s × (length s ≡ length store)
  left_by op same q =
      let memory = memory_of h.state store in
      let part = store_after memory op in
      let rest = behind h.state store in
      let size : length part ≡ store_size sh = (then op).agrees.size in
      let front : take (store_size (outcome_of memory op).state.shape) (part ++ rest) ≡ part =
      rw (then op).agrees.of_shape (take_at part rest (store_size sh) size) in
      let stepped : step memory op ≡ run (new sh h.first) (same ∷ history) =
      ap (λ (m : Memory). step m op) h.memory ∙ ap (λ (o : Operation). step (run (new sh h.first) history) o) q in
      let left : Left sh (same ∷ history) (Running (outcome_of memory op).state) (part ++ rest) = record {
        accepted = h.accepted;
        first = h.first;
        whole = h.whole;
        state = (outcome_of memory op).state;
        is = refl;
        memory = rw front stepped;
      } in
      (left, length_front store part (store_size h.state.shape) (size ∙ sym before.agrees.size))

-- ---- one line

module _ (session : Session) (store : List ℕ) (size : length store ≡ MOST_STORE) where
  abbrev Kept : Past → Done → Type 0
  Kept past done = Has past done.session done.store × (length done.store ≡ MOST_STORE)

  -- a verdict
  by_verdict : (past next : Past) (v : Verdict) (done : Done) → Has past session store → (v ≡ Accepted → Kept next done)
      → Kept (if_refused past next v) (unless_refused v session store done)
  by_verdict past next Accepted done h k = k refl
  by_verdict past next (Err refusal) done h k = (h, size)

  -- whatever the store then holds
  set_up : (sh : Shape) (s : List ℕ) → length s ≡ MOST_STORE → set_up_refusal sh ≡ Accepted
      → Has (since sh []) (Running (set_up_of sh).state) s × (length s ≡ MOST_STORE)
  unfolding set_up_refusal
  set_up sh s all e =
      let fine : shape_refusal sh ≡ Accepted = search checks in
      let small : store_size sh ≤ MOST_STORE = search (checks, leb-true) in
      let part = (memory_of (set_up_of sh).state s).store in
      let whole : length part ≡ store_size sh = rw fine (length-take-le (store_size sh) s (omega arith)) in
      (record { accepted = e; first = part; whole = whole; state = (set_up_of sh).state; is = refl; memory = refl }, all)

  operation : (past : Past) → Has past session store → (ask : Shape → Operation) → Kept (more ask past) (operation_done session store ask)
  operation nothing h ask = rw h (refl, size)
  operation (since sh history) h ask =
      let l = left_by h (ask h.state.shape) (ask sh) (ap ask (before h).agrees.of_shape) in
      rw h.is (l.0, l.1 ∙ size)

  by_asked : (past : Past) → Has past session store → (ask : Asked) → Kept (past_by_asked past ask) (done_by session store ask)
  by_asked past h asks_nothing = (h, size)
  by_asked past h (asks_set_up sh) =
      by_verdict past (since sh []) (set_up_refusal sh) _ h (set_up sh _ (omega (arith, length-replicate {A = ℕ} (length store) 0, size)))
  by_asked past h (asks_operation ask) = operation past h ask

  by_line : (past : Past) → Has past session store → (line : List ℕ)
      → let after = line_done session store line in Has (past_by past line) after.session after.store × (length after.store ≡ MOST_STORE)
  unfolding past_by frame_done line_done
  by_line past h line = go (line_refusal line)
    where
      go : (v : Verdict) → let frame = if_refused unknown (frame_of (bytes_of line)) v in
          let after = line_by v session store (bytes_of line) in
          Has (past_by_asked past (asked frame)) after.session after.store × (length after.store ≡ MOST_STORE)
      go Accepted = by_asked past h (asked (frame_of (bytes_of line)))
      go (Err refusal) = (h, size)

-- ---- all lines

by_lines : (session : Session) (store : List ℕ) → length store ≡ MOST_STORE → (past : Past) → Has past session store → (lines : List (List ℕ))
    → let after = lines_done session store lines in Has (past_in past lines) after.session after.store
unfolding lines_done past_in
by_lines session store size past h [] = h
by_lines session store size past h (line ∷ lines) =
    let one = by_line session store size past h line in
    let after = line_done session store line in
    by_lines after.session after.store one.1 (past_by past line) one.0 lines

keeps : (past : Past) (session : Session) (store : List ℕ) → Has past session store → Keeps past session store
keeps nothing session store h = h
keeps (since sh history) session store h = (h.state, h.is, before h)

pub kept : (lines : List (List ℕ)) → Keeps (past_in nothing lines) (from_start lines).session (from_start lines).store
kept lines =
    keeps (past_in nothing lines) (from_start lines).session (from_start lines).store
    (by_lines Fresh (zeros MOST_STORE) (length-replicate {A = ℕ} MOST_STORE 0) nothing refl lines)

-- ---- what a 04 that is served brings

-- behind two bytes
behind_two : (a b : ℕ) (packets : List ℕ) (at p : ℕ) → cell (a ∷ b ∷ packets) (2 + at) p ≡ cell packets at p
behind_two a b packets at p = let e : 2 + at ≡ suc (suc at) = omega arith in rw e

said_packets : (sh : Shape) (history : History) (list packets : List ℕ) (answer : Result Answer Refusal) → answer ≡ Ok Served → length packets ≡ length (reads_in list) * sh.p
    → ((n : ℕ) → n < length (reads_in list)
    → cell packets (n * sh.p) sh.p ≡ (let name = read_at (reads_in list) n in packet_in sh (last_written sh history name.row) name.group name.symbol))
    → Brings sh history list (first_byte (read list) ∷ said packets answer)
said_packets sh history list packets answer e size each =
    rw e (record { served = refl; size = omega arith; packets = λ n l. behind_two (first_byte (read list)) 0 packets (n * sh.p) sh.p ∙ each n l })

-- the output is as long as it was
as_long : (st : State) (s reads out schedule : List ℕ) → length (cycle_output st s reads out schedule) ≡ length out
as_long st s reads out schedule = go (cycle_refusal st (length s) reads (length out) (length schedule))
  where
    go : (v : Verdict) → length (if_refused out (packets_out st.shape (plans_of st.shape.k (reads_in reads)) s (reads_in reads) out) v) ≡ length out
    go Accepted = length_each st.shape.p (packet_of st.shape (plans_of st.shape.k (reads_in reads)) s (reads_in reads)) (length (reads_in reads)) out
    go (Err refusal) = refl

brings : (sh : Shape) (history : History) (session : Session) (store line list : List ℕ) → Keeps (since sh history) session store
    → frame_in line ≡ read list → verdict_in sh history (cycle_of list sh) ≡ Accepted
    → Brings sh history list (line_done session store line).answer
unfolding frame_done line_done
brings sh history session store line list k is v =
    let st = k.0 in
    let r = k.2 in
    let op = cycle_of list st.shape in
    let w : verdict_in sh history op ≡ Accepted = rw r.agrees.of_shape v in
    let served : (outcome_of (memory_of st store) op).answer ≡ Ok Served = r.answers op ∙ ap (answer_by Served) w in
    let many = length (reads_in list) * st.shape.p in
    let out : List ℕ = zeros many in
    let schedule : List ℕ = zeros (length (reads_in list) * 2) in
    let size : length (cycle_output st (memory_of st store).store list out schedule) ≡ length (reads_in list) * sh.p =
    as_long st (memory_of st store).store list out schedule ∙ length-replicate {A = ℕ} many 0 ∙ ap (λ (s : Shape). length (reads_in list) * s.p) r.agrees.of_shape in
    let f = in_line line (read list) is (λ e. cc) in
    rw (f.0, f.1, k.1) (said_packets sh history list _ _ served size (λ n l. (r.returns list out schedule served n l).1.packet))

pub returned : (lines : List (List ℕ)) (line : List ℕ) (sh : Shape) (history : History) (list : List ℕ)
    → past_in nothing lines ≡ since sh history → frame_in line ≡ read list
    → verdict_in sh history (cycle_of list sh) ≡ Accepted → Brings sh history list (answer_after lines line)
returned lines line sh history list e =
    brings sh history (from_start lines).session (from_start lines).store line list (rw e at (kept lines))
