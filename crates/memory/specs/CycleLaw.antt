-- The cycle law: what is claimed of a read cycle, all at once, wherever its state, its list and its slices come from.
use Rattle.std.specs.Prelude.{◌≡◌, ◌↔◌, true, List, ℕ, ◌≤◌, ◌<◌, length, Result, Ok}
use Rattle.refusals.specs.declared.Refusal.{Refusal}
use Rattle.refusals.specs.declared.Answer.{Answer}
use Rattle.refusals.specs.declared.Answer.TheVariants.{Served}
use Rattle.refusals.specs.Verdict.{Accepted, refused}
use Rattle.simplex.specs.Shape.{limit_of}
use Rattle.simplex.specs.Code.{Banks, Yields}
use Rattle.simplex.specs.Limit.{DisjointSets, SomeFails, LimitFor}
use Rattle.audit.specs.Plan.{opened}
use Rattle.layout.specs.declared.Shape.{Shape}
use Rattle.layout.specs.Occupancy.{is_full}
use Rattle.reads.specs.Reads.{Reads, reads_in, read_at, symbols_read}
use Rattle.reads.specs.Refusals.{length_refusal, form_refusal, buffer_refusal}
use Rattle.cycle.specs.Served.{line, ServedRead, OpenedOnce}
use Rattle.memory.specs.declared.State.{State}
use Rattle.memory.specs.Operations.{store_refusal}

-- The form of a list of bytes is right: the parts of the cycle's refusal that give 5 and 6, 13, 7 with 14 and 15, and 16, all let it pass
-- [promise.words].
pub record RightForm (state : State) (size : ℕ) (list : List ℕ) (out schedule : ℕ) : Type 0 where
  pub store : store_refusal state size ≡ Accepted
  pub whole : length_refusal list ≡ Accepted
  pub named : (n : ℕ) → n < length (reads_in list) → form_refusal state.shape (reads_in list) n ≡ Accepted
  pub buffers : buffer_refusal state.shape (reads_in list) out schedule ≡ Accepted

-- Every named row is full, in the state handed in.
abbrev pub NamedRowsFull : State → Reads → Type 0
NamedRowsFull state reads = (n : ℕ) → n < length reads → is_full state.rows (read_at reads n).row ≡ true

-- No group has more than 2^(K-1) reads.
abbrev pub NoneTooMany : Shape → Reads → Type 0
NoneTooMany shape reads = (group : ℕ) → group < shape.m → length (symbols_read reads group) ≤ limit_of shape.k

-- The cycle is served: so it answers, and so is each read of the list [promise.cycle].
pub record ServedCycle (state : State) (store : List ℕ) (reads : Reads) (answer : Result Answer Refusal) (out schedule : List ℕ)
    : Type 0 where
  pub answered : answer ≡ Ok Served
  pub each : (n : ℕ) → n < length reads → ServedRead state.shape store reads out schedule n

-- This group has too many reads, more than 2^(K-1), and none below it has: disjoint bank sets, of whatever size, fail at least one of them
-- [promise.limit].
pub record TooMany (shape : Shape) (reads : Reads) (group : ℕ) : Type 0 where
  pub below : group < shape.m
  pub many : limit_of shape.k < length (symbols_read reads group)
  pub lowest : (lower : ℕ) → lower < group → length (symbols_read reads lower) ≤ limit_of shape.k
  pub fails : (sets : List Banks) → DisjointSets shape.k (symbols_read reads group) sets
      → SomeFails shape.k shape.p (symbols_read reads group) sets

-- Of a cycle over a state, a store, a list and buffers of these lengths, that gave this answer and left this output and this schedule.
-- exactly: where the form is right and the named rows are full, it is served just where every group keeps to the limit.
-- served, yields, once: where it answers that it is served, each read is; the banks of its line yield its symbol; and no two reads of a
-- group open the same bank.
-- limit: where a group's reads pass 2^(K-1), disjoint bank sets, of whatever size, fail at least one of them.
-- refused: 12 names such a group, and the lowest.
-- Rules [promise.cycle], [promise.limit].
pub record CycleLaw (state : State) (store list : List ℕ) (out_size schedule_size : ℕ) (answer : Result Answer Refusal)
    (out schedule : List ℕ) : Type 0 where
  pub exactly : RightForm state (length store) list out_size schedule_size → NamedRowsFull state (reads_in list)
      → ServedCycle state store (reads_in list) answer out schedule ↔ NoneTooMany state.shape (reads_in list)
  pub served : answer ≡ Ok Served → ServedCycle state store (reads_in list) answer out schedule
  pub yields : answer ≡ Ok Served → (n : ℕ) → n < length (reads_in list)
      → Yields state.shape.k state.shape.p (opened (line schedule n)) (read_at (reads_in list) n).symbol
  pub once : answer ≡ Ok Served → OpenedOnce (reads_in list) schedule
  pub limit : 1 ≤ state.shape.p → (group : ℕ) → LimitFor state.shape.k state.shape.p (symbols_read (reads_in list) group)
  pub refused : (group : ℕ) → answer ≡ refused 12 group → TooMany state.shape (reads_in list) group
