-- The laws of a memory's operations, for any shape, state, store and generation.
use Rattle.std.specs.Prelude.{◌≡◌, ◌≢◌, ◌↔◌, Bool, true, false, if◌then◌else◌, List, [], ◌∷◌, ℕ, suc, ◌+◌, ◌-◌, ◌*◌, ◌%◌, ◌^◌, ◌≤◌, ◌<◌, ◌==◌, nat_le, length, Ok, Err}
use Rattle.refusals.specs.declared.Refusal.{Refusal}
use Rattle.bits.specs.Bits.{bit}
use Rattle.bits.specs.Marks.{marked, how_many}
use Rattle.refusals.specs.Verdict.{Verdict, Accepted, verdict_of, refused}
use Rattle.layout.specs.declared.PacketName.{PacketName}
use Rattle.layout.specs.Name.{PacketOf}
use Rattle.rows.specs.Laws.{Written, Updated}
use Rattle.memory.specs.declared.State.{State}
use Rattle.refusals.specs.declared.Answer.TheVariants.{Ready, FullRows}
use Rattle.layout.specs.declared.TheConstants.{MOST_ROWS}
use Rattle.layout.specs.Occupancy.{is_full, is_empty, full_count}
use Rattle.layout.specs.declared.Shape.{Shape}
use Rattle.layout.specs.Shape.{InRange, store_size, generation_size}
use Rattle.layout.specs.Laws.{WrongShape}
use Rattle.reads.specs.Reads.{reads_in, read_at}
use Rattle.reads.specs.Laws.{WrongPacket, MayRead, RightList, WrongList}
use Rattle.memory.specs.CycleLaw.{RightForm}
use Rattle.memory.specs.declared.Outcome.{Outcome}
use Rattle.memory.specs.State.{full_rows, sound, Sound}
use Rattle.memory.specs.Operations.{set_up_of, write_refusal, write_outcome, write_store, update_refusal, update_outcome, update_store, release_refusal, release_outcome, release_set_refusal, release_set_outcome, cycle_refusal, cycle_outcome, cycle_output, cycle_schedule}
use Rattle.memory.specs.Meaning.{Operation, Memory}
use Rattle.memory.specs.History.{outcome_of}

-- ---- states

-- states: "not broken" in words. broken: any other state is refused with 5, whatever is asked. counted: the number of full rows is that of
-- the full rows below G.
pub record StateLaws : Type 0 where
  pub states : (state : State) → (sound state ≡ true) ↔ Sound state
  pub broken : (memory : Memory) → (Sound memory.state → ⊥) → (operation : Operation)
      → outcome_of memory operation ≡ record { state = memory.state; answer = refused 5 0 }
  pub counted : (state : State) → Sound state → full_rows state ≡ full_count state.rows state.shape.g

-- ---- set-up

-- Its numbers are all 0, and it has no full row.
pub record Zeros (state : State) : Type 0 where
  pub shape : (state.shape.k ≡ 0) × (state.shape.m ≡ 0) × (state.shape.p ≡ 0) × (state.shape.g ≡ 0)
  pub rows : (row : ℕ) → is_full state.rows row ≡ false

-- A memory of this shape, set up: every row is empty, and it has answered the banks of its m groups, 2^K - 1 each, and 2^(K-1).
pub record FreshMemory (shape : Shape) (outcome : Outcome) : Type 0 where
  pub of_shape : outcome.state.shape ≡ shape
  pub empty : (row : ℕ) → is_empty outcome.state.rows row ≡ true
  pub answer : outcome.answer ≡ Ok (Ready (shape.m * (2 ^ shape.k - 1)) (2 ^ (shape.k - 1)))

-- fresh, refused: in words, what a set-up of a shape in the ranges gives, and with which number another is refused. zeros: refused, it
-- gives such a state. Rules [set-up.state] to [set-up.refusals].
pub record SetUpLaws : Type 0 where
  pub fresh : (shape : Shape) → InRange shape → FreshMemory shape (set_up_of shape)
  pub refused : (shape : Shape) → WrongShape shape (verdict_of (set_up_of shape).answer)
  pub zeros : (shape : Shape) (refusal : Refusal) → (set_up_of shape).answer ≡ Err refusal → Zeros (set_up_of shape).state

-- ---- write

-- The row is empty in the one state and full in the other, and all else is the same: so the other has one full row more.
pub record OneMore (row : ℕ) (fewer more : State) : Type 0 where
  pub shape : more.shape ≡ fewer.shape
  pub empty : is_empty fewer.rows row ≡ true
  pub full : is_full more.rows row ≡ true
  pub others : (r : ℕ) → r ≢ row → is_full more.rows r ≡ is_full fewer.rows r
  pub count : full_rows more ≡ suc (full_rows fewer)

-- Nothing refuses it: the state is not broken, the store has its length, there is such a row, which is empty, and the generation has
-- m·K·P bytes.
pub record RightWrite (state : State) (size row len : ℕ) : Type 0 where
  pub sound : Sound state
  pub store : size ≡ store_size state.shape
  pub below : row < state.shape.g
  pub empty : is_empty state.rows row ≡ true
  pub whole : len ≡ generation_size state.shape

-- What refuses it, where the state is not broken: each condition by its number, where those before it are not met; always with place 0.
pub record WrongWrite (state : State) (size row len : ℕ) (verdict : Verdict) : Type 0 where
  pub six : size ≢ store_size state.shape → verdict ≡ refused 6 0
  pub seven : size ≡ store_size state.shape → state.shape.g ≤ row → verdict ≡ refused 7 0
  pub eight : size ≡ store_size state.shape → row < state.shape.g → is_full state.rows row ≡ true → verdict ≡ refused 8 0
  pub ten : size ≡ store_size state.shape → row < state.shape.g → is_empty state.rows row ≡ true → len ≢ generation_size state.shape
      → verdict ≡ refused 10 0

-- accepted, refused: in words, when a write is accepted, and with which number it is refused. written: accepted, it makes its row full,
-- answers the number of full rows, and sets the cells of that row alone. kept: refused, it leaves the store and the state.
-- Rules [write.cells] to [write.refusals].
pub record WriteLaws : Type 0 where
  pub accepted : (state : State) (size row len : ℕ) → (write_refusal state size row len ≡ Accepted) ↔ RightWrite state size row len
  pub refused : (state : State) (size row len : ℕ) → Sound state → WrongWrite state size row len (write_refusal state size row len)
  pub written : (state : State) (store : List ℕ) (row : ℕ) (generation : List ℕ)
      → write_refusal state (length store) row (length generation) ≡ Accepted
      → let outcome = write_outcome state (length store) row (length generation) in
      Written state.shape row generation store (write_store state store row generation)
      × OneMore row state outcome.state × (outcome.answer ≡ Ok (FullRows (full_rows outcome.state)))
  pub kept : (state : State) (store : List ℕ) (row : ℕ) (generation : List ℕ) (refusal : Refusal)
      → write_refusal state (length store) row (length generation) ≡ Err refusal
      → (write_store state store row generation ≡ store)
      × (write_outcome state (length store) row (length generation) ≡ record { state = state; answer = Err refusal })

-- ---- packet update

-- Nothing refuses it: the state is not broken, the store has its length, there is such a packet, its row is full, and the new packet has
-- P bytes.
pub record RightUpdate (state : State) (size : ℕ) (name : PacketName) (len : ℕ) : Type 0 where
  pub sound : Sound state
  pub store : size ≡ store_size state.shape
  pub packet : PacketOf state.shape name
  pub full : is_full state.rows name.row ≡ true
  pub bytes : len ≡ state.shape.p

-- What refuses it, where the state is not broken: 6; then 7, 14, 15, 9; then 10; always with place 0.
pub record WrongUpdate (state : State) (size : ℕ) (name : PacketName) (len : ℕ) (verdict : Verdict) : Type 0 where
  pub six : size ≢ store_size state.shape → verdict ≡ refused 6 0
  pub packet : size ≡ store_size state.shape → WrongPacket state.shape (is_full state.rows) 0 name verdict
  pub ten : size ≡ store_size state.shape → MayRead state.shape (is_full state.rows) name → len ≢ state.shape.p → verdict ≡ refused 10 0

-- accepted, refused: in words, when an update is accepted, and with which number it is refused. updated: accepted, it gives the state as
-- it was and the number of its full rows, and changes the cells of its group's banks that hold the symbol, in its row, alone. kept:
-- refused, it leaves the store and the state. Rules [update.cells] to [update.refusals].
pub record UpdateLaws : Type 0 where
  pub accepted : (state : State) (size : ℕ) (name : PacketName) (len : ℕ)
      → (update_refusal state size name len ≡ Accepted) ↔ RightUpdate state size name len
  pub refused : (state : State) (size : ℕ) (name : PacketName) (len : ℕ) → Sound state
      → WrongUpdate state size name len (update_refusal state size name len)
  pub updated : (state : State) (store : List ℕ) (name : PacketName) (packet : List ℕ)
      → update_refusal state (length store) name (length packet) ≡ Accepted
      → Updated state.shape name.row name.group name.symbol packet store (update_store state store name packet)
      × (update_outcome state (length store) name (length packet) ≡ record { state = state; answer = Ok (FullRows (full_rows state)) })
  pub kept : (state : State) (store : List ℕ) (name : PacketName) (packet : List ℕ) (refusal : Refusal)
      → update_refusal state (length store) name (length packet) ≡ Err refusal
      → (update_store state store name packet ≡ store)
      × (update_outcome state (length store) name (length packet) ≡ record { state = state; answer = Err refusal })

-- ---- release of a row

-- Nothing refuses it: the state is not broken, and there is such a row, which is full.
pub record RightRelease (state : State) (row : ℕ) : Type 0 where
  pub sound : Sound state
  pub below : row < state.shape.g
  pub full : is_full state.rows row ≡ true

-- What refuses it, where the state is not broken: each condition by its number, where those before it are not met; always with place 0.
pub record WrongRelease (state : State) (row : ℕ) (verdict : Verdict) : Type 0 where
  pub seven : state.shape.g ≤ row → verdict ≡ refused 7 0
  pub nine : row < state.shape.g → is_empty state.rows row ≡ true → verdict ≡ refused 9 0

-- accepted, refused: in words, when a release is accepted, and with which number it is refused. released: accepted, it makes a full row
-- empty, and answers the number of full rows. kept: refused, it leaves the state. Rules [release.row] to [release.refusals].
pub record ReleaseLaws : Type 0 where
  pub accepted : (state : State) (row : ℕ) → (release_refusal state row ≡ Accepted) ↔ RightRelease state row
  pub refused : (state : State) (row : ℕ) → Sound state → WrongRelease state row (release_refusal state row)
  pub released : (state : State) (row : ℕ) → release_refusal state row ≡ Accepted
      → let outcome = release_outcome state row in
      OneMore row outcome.state state × (outcome.answer ≡ Ok (FullRows (full_rows outcome.state)))
  pub kept : (state : State) (row : ℕ) (refusal : Refusal) → release_refusal state row ≡ Err refusal
      → release_outcome state row ≡ record { state = state; answer = Err refusal }

-- ---- release of a row set

-- The rows of a set are full in the one state and empty in the other, and all else is the same.
pub record Emptied (set : ℕ) (before after : State) : Type 0 where
  pub shape : after.shape ≡ before.shape
  pub full : (row : ℕ) → marked set row ≡ true → is_full before.rows row ≡ true
  pub empty : (row : ℕ) → marked set row ≡ true → is_empty after.rows row ≡ true
  pub others : (row : ℕ) → marked set row ≡ false → is_full after.rows row ≡ is_full before.rows row
  pub count : full_rows after + how_many (marked set) MOST_ROWS ≡ full_rows before

-- A row is the first of a set's rows that passes a test.
pub record FirstRow (set : ℕ) (test : ℕ → Bool) (row : ℕ) : Type 0 where
  pub below : row < MOST_ROWS
  pub in_set : marked set row ≡ true
  pub passes : test row ≡ true
  pub before : (r : ℕ) → r < row → marked set r ≡ true → test r ≡ false

-- None of them passes it.
abbrev pub NoRow : (set : ℕ) → (test : ℕ → Bool) → Type 0
NoRow set test = (row : ℕ) → row < MOST_ROWS → marked set row ≡ true → test row ≡ false

-- Nothing refuses the release of a set: the state is not broken, and each of its rows is full.
pub record RightReleaseSet (state : State) (set : ℕ) : Type 0 where
  pub sound : Sound state
  pub full : (row : ℕ) → row < MOST_ROWS → marked set row ≡ true → is_full state.rows row ≡ true

-- How often a row stands in a list of rows.
abbrev pub times_in : (row : ℕ) → List ℕ → ℕ
times_in row [] = 0
times_in row (first ∷ rows) = (if first == row then 1 else 0) + times_in row rows

-- A list names exactly the rows of a set, in whichever order: each stands in it as often as its bit says, once or not at all.
abbrev pub Names : (set : ℕ) → List ℕ → Type 0
Names set rows = (row : ℕ) → times_in row rows ≡ bit set row

-- The rows of a list are released one by one: each release is accepted, and they lead from the one state to the other.
abbrev pub ReleasedSingly : (before : State) → List ℕ → (after : State) → Type 0
ReleasedSingly before [] after = before ≡ after
ReleasedSingly before (row ∷ rows) after =
    (release_refusal before row ≡ Accepted) × ReleasedSingly (release_outcome before row).state rows after

-- accepted: in words, when a release of a row set is accepted. emptied: accepted, it empties its rows and no other, and answers the number
-- of full rows. kept: refused, it leaves the state. empty: a set of no row is accepted, and nothing changes.
-- seven, nine: it is refused with 7 at a row just where that is the first of its rows that is not there; with 9 just where all are there,
-- and the row is its first empty one.
-- singly: single releases of its rows, in whichever order, are each accepted and end in a state just where it is accepted and ends there.
-- named: every set has a list of its rows, so that the law before is about something. Rules [release-set.marks] to [release-set.refusals].
pub record ReleaseSetLaws : Type 0 where
  pub accepted : (state : State) (set : ℕ) → (release_set_refusal state set ≡ Accepted) ↔ RightReleaseSet state set
  pub emptied : (state : State) (set : ℕ) → set < 2 ^ MOST_ROWS → release_set_refusal state set ≡ Accepted
      → let outcome = release_set_outcome state set in
      Emptied set state outcome.state × (outcome.answer ≡ Ok (FullRows (full_rows outcome.state)))
  pub kept : (state : State) (set : ℕ) (refusal : Refusal) → release_set_refusal state set ≡ Err refusal
      → release_set_outcome state set ≡ record { state = state; answer = Err refusal }
  pub empty : (state : State) → Sound state
      → release_set_outcome state 0 ≡ record { state = state; answer = Ok (FullRows (full_rows state)) }
  pub seven : (state : State) (set row : ℕ) → Sound state
      → (release_set_refusal state set ≡ refused 7 row) ↔ FirstRow set (λ r. nat_le state.shape.g r) row
  pub nine : (state : State) (set row : ℕ) → Sound state
      → (release_set_refusal state set ≡ refused 9 row)
      ↔ (NoRow set (λ r. nat_le state.shape.g r) × FirstRow set (is_empty state.rows) row)
  pub singly : (state after : State) (set : ℕ) (rows : List ℕ) → Sound state → set < 2 ^ MOST_ROWS → Names set rows
      → ReleasedSingly state rows after ↔ ((release_set_refusal state set ≡ Accepted) × ((release_set_outcome state set).state ≡ after))
  pub named : (set : ℕ) → (rows : List ℕ) × Names set rows

-- ---- read cycle

-- Nothing refuses it: the state is not broken, the store has its length, and nothing refuses the list.
pub record RightCycle (state : State) (size : ℕ) (list : List ℕ) (out schedule : ℕ) : Type 0 where
  pub sound : Sound state
  pub store : size ≡ store_size state.shape
  pub reads : RightList state.shape (is_full state.rows) list out schedule

-- What refuses it, where the state is not broken: 6, with place 0; then what the list is refused for.
pub record WrongCycle (state : State) (size : ℕ) (list : List ℕ) (out schedule : ℕ) (verdict : Verdict) : Type 0 where
  pub six : size ≢ store_size state.shape → verdict ≡ refused 6 0
  pub reads : size ≡ store_size state.shape → WrongList state.shape (is_full state.rows) list out schedule verdict

-- The right form of a cycle in words: the state is not broken; store, list, output and schedule have their lengths; and each read names a
-- packet that is there.
pub record FormInWords (state : State) (size : ℕ) (list : List ℕ) (out schedule : ℕ) : Type 0 where
  pub sound : Sound state
  pub store : size ≡ store_size state.shape
  pub whole : length list % 3 ≡ 0
  pub named : (n : ℕ) → n < length (reads_in list) → PacketOf state.shape (read_at (reads_in list) n)
  pub output : out ≡ length (reads_in list) * state.shape.p
  pub lines : schedule ≡ length (reads_in list) * 2

-- accepted, refused: in words, when a read cycle is accepted, and with which number and place it is refused.
-- form: the right form that `CycleLaw` speaks of is the one in words. kept: refused, it leaves the output, the schedule and the state.
-- Rules [cycle.refusals], [promise.words].
pub record CycleLaws : Type 0 where
  pub accepted : (state : State) (size : ℕ) (list : List ℕ) (out schedule : ℕ)
      → (cycle_refusal state size list out schedule ≡ Accepted) ↔ RightCycle state size list out schedule
  pub refused : (state : State) (size : ℕ) (list : List ℕ) (out schedule : ℕ) → Sound state
      → WrongCycle state size list out schedule (cycle_refusal state size list out schedule)
  pub form : (state : State) (size : ℕ) (list : List ℕ) (out schedule : ℕ)
      → RightForm state size list out schedule ↔ FormInWords state size list out schedule
  pub kept : (state : State) (store list out schedule : List ℕ) (refusal : Refusal)
      → cycle_refusal state (length store) list (length out) (length schedule) ≡ Err refusal
      → (cycle_output state store list out schedule ≡ out) × (cycle_schedule state store list out schedule ≡ schedule)
      × (cycle_outcome state (length store) list (length out) (length schedule) ≡ record { state = state; answer = Err refusal })
