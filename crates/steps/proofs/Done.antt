-- What a frame does, from what the calls that serve it gave.
use mathlib.Core.Path.{◌≡◌, refl, sym, ap, ◌∙◌}
use mathlib.Core.Logic.{◌⊎◌, inl, inr, ⊎_elim}
use mathlib.Core.Bool.{Bool, true, false, cond}
use mathlib.Core.List.{List, [], ◌∷◌, ◌++◌}
use Prim.Native.Nat.{ℕ, ◌≤◌, ◌<◌, min}
use native.Mathlib.Omega.{arith}
use lib.ListN.{length, take, drop, take-append-drop}
use Rattle.std.specs.Prelude.{Err}
use Rattle.refusals.specs.declared.Refusal.{Refusal}
use Rattle.refusals.specs.Verdict.{Verdict, Accepted}
use Rattle.layout.specs.declared.Shape.{Shape}
use Rattle.layout.specs.Shape.{shape_refusal, store_size}
use Rattle.memory.specs.declared.State.{State}
use Rattle.memory.specs.declared.Outcome.{Outcome}
use Rattle.memory.specs.State.{sound}
use Rattle.memory.specs.Operations.{write_refusal, write_outcome, write_store}
use Rattle.memory.specs.Meaning.{Operation}
use Rattle.memory.specs.Meaning as operation
use Rattle.memory.specs.History.{outcome_of, store_after, packets_by}
use Rattle.frames.specs.declared.TheConstants.{MOST_FRAME, MOST_STORE}
use Rattle.frames.specs.Frame.{Frame, unknown, set_up_frame, read, write_frame, release_frame, frame_of, first_byte}
use Rattle.frames.specs.Printing.{said, Prints}
use Rattle.frames.proofs.Framed.{decoded}
use Rattle.steps.specs.declared.Reply.{Reply}
use Rattle.steps.specs.Asked.{asks_operation, asked}
use Rattle.steps.specs.Session.{Running, memory_of, behind, frame_done}
use Rattle.steps.specs.Steps.{Gives}
use Rattle.steps.specs.Parts.{lent_size, FewReads}
use Rattle.steps.proofs.Fitting.{line_place}
use Rattle.std.proofs.lemmas.List.{take_min, drop_min}

-- ---- an operation

-- what a memory did that a frame asks of it is what the session has then done
pub running : (store : List ℕ) (frame : Frame) (operation : Shape → Operation) (st : State) (o : Outcome) {kept out left : List ℕ} {r : Reply}
    → asked frame ≡ asks_operation operation
    → let memory = memory_of st store in
    let op = operation st.shape in
    o.state ≡ (outcome_of memory op).state → kept ≡ store_after memory op ++ behind st store → r.session ≡ Running o.state
    → Prints (first_byte frame ∷ said (packets_by memory op) (outcome_of memory op).answer) out r.len left
    → Gives (frame_done (Running st) store frame) out r kept left
unfolding frame_done
running store frame operation st o asks did holds goes line =
    rw asks (record { session = goes ∙ ap (λ (x : State). Running x) did; store = holds; line = line })

-- the store where an operation keeps it
pub same_store : (st : State) (store : List ℕ) → store ≡ (memory_of st store).store ++ behind st store
same_store st store = sym (take-append-drop (store_size st.shape) store)

-- ---- the part of the store that is lent

-- a shape out of range breaks the state
broken : (st : State) (r : Refusal) → shape_refusal st.shape ≡ Err r → sound st ≡ false
unfolding sound
broken st r e = rw e

-- what is lent is the memory's part, unless the state is broken
pub record Lent (st : State) (store : List ℕ) (size : ℕ) : Type 0 where
  pub front : take size store ≡ (memory_of st store).store
  pub rest : drop size store ≡ behind st store

pub lends : (st : State) (store : List ℕ) (size : ℕ) → length store ≡ MOST_STORE → size ≡ min (lent_size st.shape) MOST_STORE
    → (sound st ≡ false) ⊎ Lent st store size
unfolding lent_size
lends st store size fits e = go (shape_refusal st.shape) refl
  where
    go : (v : Verdict) → shape_refusal st.shape ≡ v → (sound st ≡ false) ⊎ Lent st store size
    go Accepted a =
        let same : size ≡ min (store_size st.shape) MOST_STORE = rw a at e in
        inr (record { front = rw (same, ← fits) (take_min (store_size st.shape) store); rest = rw (same, ← fits) (drop_min (store_size st.shape) store) })
    go (Err refusal) r = inl (broken st refusal r)

-- a write to it is the write to the memory, and the bytes behind it are kept
pub writes : (st : State) (store : List ℕ) (size row : ℕ) (packets : List ℕ) → length store ≡ MOST_STORE → size ≡ min (lent_size st.shape) MOST_STORE
    → let memory = memory_of st store in
    (write_outcome st (length (take size store)) row (length packets) ≡ outcome_of memory (operation.write row packets))
    × (write_store st (take size store) row packets ++ drop size store ≡ store_after memory (operation.write row packets) ++ behind st store)
unfolding write_refusal
writes st store size row packets fits e =
    ⊎_elim
    (λ b. (rw b, rw b (take-append-drop size store ∙ same_store st store)))
    (λ l. rw (l.front, l.rest) (refl, refl))
    (lends st store size fits e)

-- ---- the list of a 04

few_set_up : (fields : List ℕ) → FewReads (set_up_frame fields)
few_set_up [] = tt
few_set_up (a ∷ []) = tt
few_set_up (a ∷ b ∷ []) = tt
few_set_up (a ∷ b ∷ c ∷ []) = tt
few_set_up (a ∷ b ∷ c ∷ d ∷ []) = tt
few_set_up (a ∷ b ∷ c ∷ d ∷ e ∷ []) = tt
few_set_up (a ∷ b ∷ c ∷ d ∷ e ∷ f ∷ fields) = tt

few_write : (fields : List ℕ) → FewReads (write_frame fields)
few_write [] = tt
few_write (row ∷ packets) = tt

few_release : (fields : List ℕ) → FewReads (release_frame fields)
few_release [] = tt
few_release (row ∷ []) = tt
few_release (row ∷ other ∷ fields) = tt

few_by : (a b c d : Bool) (fields : List ℕ) → length fields < MOST_FRAME
    → FewReads (cond a (set_up_frame fields) (cond b (write_frame fields) (cond c (release_frame fields) (cond d (read fields) unknown))))
few_by true b c d fields h = few_set_up fields
few_by false true c d fields h = few_write fields
few_by false false true d fields h = few_release fields
few_by false false false true fields h = h
few_by false false false false fields h = tt

pub few_reads : (bytes : List ℕ) → length bytes ≤ MOST_FRAME → FewReads (frame_of bytes)
unfolding frame_of
few_reads [] h = tt
few_reads (kind ∷ fields) h = few_by _ _ _ _ fields (omega arith)

-- what a line owes its answer
pub ruleset line_fits = (line_place, few_reads, decoded)
