-- Set-up, write, packet update, release of a row or of a row set, and the read cycle: when each is refused, what it answers, and what
-- state, store and buffers it leaves.
use Rattle.std.specs.Prelude.{Bool, not, ◌||◌, List, ℕ, ◌*◌, ◌==◌, nat_lt, length, Result, Ok, Err}
use Rattle.bits.specs.Marks.{marked}
use Rattle.refusals.specs.declared.Refusal.{Refusal}
use Rattle.refusals.specs.Verdict.{Verdict, check, answer_by, ◌then◌, if_refused, first_refusal}
use Rattle.layout.specs.declared.Shape.{Shape}
use Rattle.layout.specs.declared.PacketName.{PacketName}
use Rattle.rows.specs.Rows.{row_written, packet_updated}
use Rattle.reads.specs.Refusals.{packet_refusal, list_refusal}
use Rattle.reads.specs.Reads.{reads_in}
use Rattle.cycle.specs.Cycle.{plans_of, packets_out, lines_out}
use Rattle.memory.specs.declared.State.{State}
use Rattle.memory.specs.declared.Outcome.{Outcome}
use Rattle.refusals.specs.declared.Answer.{Answer}
use Rattle.refusals.specs.declared.Answer.TheVariants.{Ready, FullRows, Served}
use Rattle.layout.specs.declared.TheConstants.{MOST_ROWS}
use Rattle.layout.specs.Occupancy.{is_full, is_empty}
use Rattle.simplex.specs.Shape.{limit_of}
use Rattle.layout.specs.Shape.{shape_refusal, banks, store_size, generation_size}
use Rattle.memory.specs.State.{full_rows, sound, empty, zero_state, row_filled, row_emptied, rows_emptied}

-- What set-up answers: m·N, the banks of all groups, and 2^(K-1), the most reads of one in a cycle [set-up.answer].
abbrev pub ready : Shape → Answer
ready shape = Ready (shape.m * banks shape) (limit_of shape.k)

-- What set-up gives: a memory of that shape with every row empty, or a refusal and a state of zeros [set-up.state], [set-up.zeros].
abbrev pub set_up_of : Shape → Outcome
set_up_of shape =
    record { state = if_refused zero_state (empty shape) (shape_refusal shape); answer = answer_by (ready shape) (shape_refusal shape) }

-- What an operation gives that makes one state into another: refused, the state as it was and the refusal; else the state made, and the
-- number of its full rows [refusal.unchanged], [answer.full-rows].
abbrev pub outcome_by : (before made : State) → Verdict → Outcome
outcome_by before made verdict = record { state = if_refused before made verdict; answer = answer_by (FullRows (full_rows made)) verdict }

-- The same, from the state that was made or the refusal. No public promise cites it.
abbrev pub outcome_after : (before : State) → Result State Refusal → Outcome
outcome_after before (Ok made) = record { state = made; answer = Ok (FullRows (full_rows made)) }
outcome_after before (Err refusal) = record { state = before; answer = Err refusal }

-- 5, the state is broken [refusal.5].
abbrev pub state_refusal : State → Verdict
state_refusal state = check 5 0 (sound state)

-- Where a store is lent: 5; then 6, it is not m·N·G·P bytes long [refusal.6].
abbrev pub store_refusal : State → (size : ℕ) → Verdict
store_refusal state size = state_refusal state then check 6 0 (size == store_size state.shape)

-- ---- write

-- With these rows empty: 7, there is no such row; 8, it is full; 10, the generation has another length than m·K·P.
abbrev pub write_checks : Shape → (empty : ℕ → Bool) → (row len : ℕ) → Verdict
write_checks shape empty row len =
    check 7 0 (nat_lt row shape.g)
    then check 8 0 (empty row)
    then check 10 0 (len == generation_size shape)

-- 5 and 6; then 7, 8, 10 [write.refusals].
unfoldable pub write_refusal : State → (size row len : ℕ) → Verdict
write_refusal state size row len = store_refusal state size then write_checks state.shape (is_empty state.rows) row len

-- [write.row], [write.answer]
abbrev pub write_outcome : State → (size row len : ℕ) → Outcome
write_outcome state size row len = outcome_by state (row_filled state row) (write_refusal state size row len)

-- [write.cells]
abbrev pub write_store : State → (store : List ℕ) → (row : ℕ) → (generation : List ℕ) → List ℕ
write_store state store row generation =
    if_refused store (row_written state.shape row generation store) (write_refusal state (length store) row (length generation))

-- ---- packet update (customers say: a patch)

-- With these rows full: 7, there is no such row; 14, no such group; 15, no such symbol; 9, the row is empty; 10, the packet has another
-- length than P.
abbrev pub update_checks : Shape → (full : ℕ → Bool) → (name : PacketName) → (len : ℕ) → Verdict
update_checks shape full name len =
    packet_refusal shape full 0 name then check 10 0 (len == shape.p)

-- 5 and 6; then 7, 14, 15, 9, 10 [update.refusals].
unfoldable pub update_refusal : State → (size : ℕ) → (name : PacketName) → (len : ℕ) → Verdict
update_refusal state size name len = store_refusal state size then update_checks state.shape (is_full state.rows) name len

-- The state comes back as it was [update.state], [update.answer].
abbrev pub update_outcome : State → (size : ℕ) → (name : PacketName) → (len : ℕ) → Outcome
update_outcome state size name len = outcome_by state state (update_refusal state size name len)

-- [update.cells]
abbrev pub update_store : State → (store : List ℕ) → (name : PacketName) → (packet : List ℕ) → List ℕ
update_store state store name packet =
    if_refused store (packet_updated state.shape name.row name.group name.symbol packet store)
    (update_refusal state (length store) name (length packet))

-- ---- release

-- 7, there is no such row; 9, it is empty.
abbrev pub release_checks : Shape → (full : ℕ → Bool) → (row : ℕ) → Verdict
release_checks shape full row = check 7 0 (nat_lt row shape.g) then check 9 0 (full row)

-- 5; then 7, 9 [release.refusals].
unfoldable pub release_refusal : State → (row : ℕ) → Verdict
release_refusal state row = state_refusal state then release_checks state.shape (is_full state.rows) row

-- [release.row], [release.answer]
abbrev pub release_outcome : State → ℕ → Outcome
release_outcome state row = outcome_by state (row_emptied state row) (release_refusal state row)

-- ---- release of a row set (customers say: clearing several rows): bit r of the set marks row r. Marks from the 64th on, which no word
-- has, count for nothing.

-- Accepted where every row of a set passes a test; else refused by this number, with the first row that doesn't as place
-- [release-set.marks].
unfoldable pub each_row : (number set : ℕ) → (test : ℕ → Bool) → Verdict
each_row number set test = first_refusal (λ row. check number row (not (marked set row) || test row)) MOST_ROWS

-- 7, a row that is marked is not there; then 9, one that is marked is empty.
abbrev pub release_set_checks : Shape → (full : ℕ → Bool) → (set : ℕ) → Verdict
release_set_checks shape full set = each_row 7 set (λ row. nat_lt row shape.g) then each_row 9 set full

-- 5; then 7, 9 [release-set.refusals].
unfoldable pub release_set_refusal : State → (set : ℕ) → Verdict
release_set_refusal state set = state_refusal state then release_set_checks state.shape (is_full state.rows) set

-- [release-set.rows], [release-set.answer]
abbrev pub release_set_outcome : State → (set : ℕ) → Outcome
release_set_outcome state set = outcome_by state (rows_emptied state set) (release_set_refusal state set)

-- ---- read cycle

-- 5 and 6. Then the list and the buffers: 13; read by read 7, 14, 15, 9; 12; 16 [cycle.refusals].
unfoldable pub cycle_refusal : State → (size : ℕ) → (list : List ℕ) → (out schedule : ℕ) → Verdict
cycle_refusal state size list out schedule = store_refusal state size then list_refusal state.shape (is_full state.rows) list out schedule

-- The state comes back as it was [cycle.store], [cycle.answer].
abbrev pub cycle_outcome : State → (size : ℕ) → (list : List ℕ) → (out schedule : ℕ) → Outcome
cycle_outcome state size list out schedule =
    record { state = state; answer = answer_by Served (cycle_refusal state size list out schedule) }

-- The output and the schedule after it, by the plans of the list's reads [cycle.buffers].
abbrev pub cycle_output : State → (store list out schedule : List ℕ) → List ℕ
cycle_output state store list out schedule =
    let reads = reads_in list in
    if_refused out (packets_out state.shape (plans_of state.shape.k reads) store reads out)
    (cycle_refusal state (length store) list (length out) (length schedule))

abbrev pub cycle_schedule : State → (store list out schedule : List ℕ) → List ℕ
cycle_schedule state store list out schedule =
    let reads = reads_in list in
    if_refused schedule (lines_out (plans_of state.shape.k reads) reads schedule)
    (cycle_refusal state (length store) list (length out) (length schedule))
