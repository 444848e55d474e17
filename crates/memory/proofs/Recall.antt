-- The recall law: whatever is asked of a memory, it stays as its history says, since each operation is lawful.
use mathlib.Core.Path.{◌≡◌, refl, sym, ap, subst}
use mathlib.Core.List.{List, [], ◌∷◌}
use Prim.Native.Nat.{ℕ, ◌+◌}
use native.Mathlib.Omega.{arith}
use borrow.Author.Tests.{eq-eqb}
use lib.ListN.{length}
use Rattle.bits.proofs.Marks.{none_passed}
use Rattle.layout.specs.declared.TheConstants.{MOST_ROWS}
use Rattle.layout.proofs.FullRows.{empty_all}
use Rattle.refusals.specs.Verdict.{Accepted, if_refused}
use Rattle.layout.specs.declared.Shape.{Shape}
use Rattle.layout.specs.declared.PacketName.{PacketName}
use Rattle.layout.specs.Shape.{shape_refusal, store_size}
use Rattle.layout.proofs.Ranges.{range_words}
use Rattle.rows.specs.Laws.{Edited}
use Rattle.memory.specs.State.{full_rows, empty}
use Rattle.memory.specs.Meaning.{Operation, write, update, release, release_set, read, Memory, Known, meaning_of}
use Rattle.memory.specs.History.{Agrees, History, run, known_in, verdict_in, in_all, UpdatedIn, Remembers, RecallLaw}
use Rattle.memory.proofs.Lawful.{Follows, Lawful, empty_row}
use Rattle.memory.proofs.Lawful.Write.{write_lawful}
use Rattle.memory.proofs.Lawful.Update.{UpdatedBy, update_lawful, update_fresh}
use Rattle.memory.proofs.Lawful.Release.{release_lawful}
use Rattle.memory.proofs.Lawful.ReleaseSet.{release_set_lawful}
use Rattle.memory.proofs.Lawful.Read.{read_lawful, returned}

-- EACH OPERATION
pub lawful : (operation : Operation) → Lawful (meaning_of operation)
lawful (write row generation) = write_lawful row generation
lawful (update name packet) = update_lawful name packet
lawful (release row) = release_lawful row
lawful (release_set set) = release_set_lawful set
lawful (read list out schedule) = read_lawful list out schedule

-- ---- every history

module _ (shape : Shape) where
  abbrev Agreed : History → Memory → Type 0
  Agreed history memory = Agrees shape (known_in shape history) memory

  -- the state's shape is the one of set-up
  next : (history : History) (memory : Memory) → Agreed history memory → (operation : Operation)
      → Follows (meaning_of operation) shape (known_in shape history) memory (verdict_in shape history operation)
  next history memory k operation =
      subst (λ (s : Shape). Agrees s (known_in shape history) memory
      → Follows (meaning_of operation) s (known_in shape history) memory ((meaning_of operation).verdict s (known_in shape history)))
      k.of_shape ((lawful operation).follows (known_in shape history) memory) k

  module _ (new : Memory) (start : Agreed [] new) (none : full_rows new.state ≡ 0) where
    always : (history : History) → Agreed history (run new history)
    always [] = start
    always (operation ∷ history) = (next history (run new history) (always history) operation).agrees

    -- so many rows are full
    counted : (history : History)
        → full_rows (run new history).state + in_all (λ meaning. meaning.emptied) shape history ≡ in_all (λ meaning. meaning.filled) shape history
    counted [] = omega arith
    counted (operation ∷ history) = omega (arith, (next history (run new history) (always history) operation).count, counted history)

  updates : (history : History) (memory : Memory) → Agreed history memory → (name : PacketName) (packet : List ℕ)
      → verdict_in shape history (update name packet) ≡ Accepted → UpdatedIn shape history memory name packet
  updates history memory k name packet e =
      let known = known_in shape history in
      let now = (meaning_of (update name packet)).known shape known in
      let done = subst (λ (s : Shape). Agrees s known memory → (meaning_of (update name packet)).verdict s known ≡ Accepted
      → UpdatedBy s known memory name packet) k.of_shape (λ own. update_fresh known memory own name packet) k e in
      record {
        fresh = done.0;
        last = subst (λ (k : Known). Edited shape name.group name.symbol packet (known.last name.row) (k.last name.row))
            (sym (ap (if_refused known now) e)) (rw (eq-eqb name.row name.row refl) done.1);
      }

  remembers : (history : History) (memory : Memory) → Agreed history memory
      → full_rows memory.state + in_all (λ meaning. meaning.emptied) shape history ≡ in_all (λ meaning. meaning.filled) shape history
      → Remembers shape history memory
  remembers history memory k count = record {
    agrees = k;
    count = count;
    answers = λ operation. (next history memory k operation).answer;
    updates = updates history memory k;
    returns = rw (← k.of_shape) (returned (known_in memory.state.shape history) memory (rw (← k.of_shape) at k));
  }

set_up : (shape : Shape) → shape_refusal shape ≡ Accepted → (store : List ℕ) → length store ≡ store_size shape
    → Agrees shape (known_in shape []) (record { state = empty shape; store = store })
set_up shape e store size = record {
  of_shape = refl;
  sound = record { ranges = range_words shape e; rows = λ row _. empty_all row };
  size = size;
  rows = λ r. empty_row (empty_all r);
}

pub recall_law : RecallLaw
recall_law shape e store size history =
    let new = set_up shape e store size in
    let none = none_passed _ MOST_ROWS (λ row _. empty_all row) in
    rw e (remembers shape history _ (always shape _ new none history) (counted shape _ new none history))
