-- An update: accepted, its row holds the edited generation, as if its group had been written anew.
use mathlib.Core.Path.{◌≡◌, refl, sym, ◌∙◌}
use mathlib.Core.Bool.{true, cond}
use mathlib.Core.List.{List}
use Prim.Native.Nat.{ℕ, ◌+◌, ◌*◌}
use native.Mathlib.Omega.{arith}
use borrow.Author.Tests.{eq-eqb, ne_eqb, lt-ltb}
use lib.ListN.{length}
use Rattle.refusals.specs.Verdict.{Accepted}
use Rattle.cells.proofs.Cells.{length_put}
use Rattle.layout.specs.declared.Shape.{Shape}
use Rattle.layout.specs.declared.PacketName.{PacketName}
use Rattle.rows.specs.Rows.{packets_in, group_written, packet_updated, edited}
use Rattle.rows.specs.Laws.{Edited}
use Rattle.rows.proofs.Updating.{generation_edited, store_updated, cells_kept, fresh, row_edited}
use Rattle.layout.specs.Occupancy.{is_full}
use Rattle.reads.proofs.Wrong.{wrong_packet, may_read}
use Rattle.memory.specs.declared.State.{State}
use Rattle.memory.specs.State.{Sound}
use Rattle.memory.specs.Operations.{update_checks, update_refusal, update_store}
use Rattle.memory.specs.Meaning.{update, Memory, Known, but_at, meaning_of}
use Rattle.memory.specs.Laws.{RightUpdate, WrongUpdate}
use Rattle.memory.proofs.States.{tests, sound_words, words_sound}
use Rattle.memory.specs.History.{RowAgrees, Agrees}
use Rattle.memory.proofs.Lawful.{Lawful, at_row, lent, tests_store, judged, lawful_by}

-- ---- when it is accepted, and what refuses it

pub update_facts : (state : State) (size : ℕ) (name : PacketName) (len : ℕ) → update_refusal state size name len ≡ Accepted → RightUpdate state size name len
unfolding update_refusal
update_facts state size name len e = search (tests, sound_words)

pub facts_update : (state : State) (size : ℕ) (name : PacketName) (len : ℕ) → RightUpdate state size name len → update_refusal state size name len ≡ Accepted
unfolding update_refusal
facts_update state size name len w = rw (
  words_sound state w.sound,
  eq-eqb _ _ w.store,
  lt-ltb _ _ w.packet.row,
  lt-ltb _ _ w.packet.group,
  lt-ltb _ _ w.packet.symbol,
  w.full,
  eq-eqb _ _ w.bytes,
)

pub wrong_update : (state : State) (size : ℕ) (name : PacketName) (len : ℕ) → Sound state → WrongUpdate state size name len (update_refusal state size name len)
unfolding update_refusal
wrong_update state size name len w = record {
  six = λ e. rw (words_sound state w, ne_eqb _ _ e);
  packet = λ s. let p = wrong_packet state.shape (is_full state.rows) 0 name in record {
    seven = λ e. rw (words_sound state w, eq-eqb _ _ s, p.seven e);
    fourteen = λ r e. rw (words_sound state w, eq-eqb _ _ s, p.fourteen r e);
    fifteen = λ r g e. rw (words_sound state w, eq-eqb _ _ s, p.fifteen r g e);
    nine = λ t e. rw (words_sound state w, eq-eqb _ _ s, p.nine t e);
  };
  ten = λ s m e. rw (words_sound state w, eq-eqb _ _ s, may_read state.shape (is_full state.rows) 0 name m, ne_eqb _ _ e);
}

-- ---- what it leaves

-- the store is that after a fresh write of the group, and the packet is then last written
abbrev pub UpdatedBy : Shape → Known → Memory → (name : PacketName) → (packet : List ℕ) → Type 0
UpdatedBy shape known memory name packet =
    let now = edited shape (known.last name.row) name.group name.symbol packet in
    (update_store memory.state memory.store name packet
    ≡ group_written shape name.group name.row (packets_in shape now name.group) memory.store)
    × Edited shape name.group name.symbol packet (known.last name.row) now

module _ (known : Known) (memory : Memory) (k : Agrees memory.state.shape known memory) (name : PacketName) (packet : List ℕ)
    (w : RightUpdate memory.state (length memory.store) name (length packet)) where
  abbrev shape : Shape
  shape = memory.state.shape

  abbrev edited_last : List ℕ
  edited_last = edited shape (known.last name.row) name.group name.symbol packet

  abbrev store : List ℕ
  store = packet_updated shape name.row name.group name.symbol packet memory.store

  rows_agree : (r : ℕ) → RowAgrees shape (record { state = memory.state; store = store }) r (known.full r) (but_at name.row edited_last known.last r)
  rows_agree = at_row name.row
      (λ r t. RowAgrees shape (record { state = memory.state; store = store }) r (known.full r) (cond t edited_last (known.last r)))
      (let before = k.rows name.row in record {
        mark = before.mark;
        whole = λ f. length_put (known.last name.row) ((name.group * shape.k + name.symbol) * shape.p) packet ∙ before.whole f;
        cells = λ y b c f. row_edited shape name.row name.group name.symbol packet memory.store w.packet w.store w.bytes (known.last name.row)
            (before.whole f) (λ y b c. before.cells y b c f) y b c;
      })
      (λ r n. let before = k.rows r in record {
        mark = before.mark;
        whole = before.whole;
        cells = λ y b c f. cells_kept shape name.row name.group name.symbol packet memory.store w.packet w.store w.bytes y b r c (λ e. n e.1)
            ∙ before.cells y b c f;
      })

  pub as_fresh : (store ≡ group_written shape name.group name.row (packets_in shape edited_last name.group) memory.store)
      × Edited shape name.group name.symbol packet (known.last name.row) edited_last
  as_fresh =
      let row = k.rows name.row in
      let on : known.full name.row ≡ true = sym row.mark ∙ w.full in (
        fresh shape name.row name.group name.symbol packet memory.store w.packet w.store w.bytes (known.last name.row) (row.whole on)
            (λ b c. row.cells name.group b c on),
        generation_edited shape (known.last name.row) name.group name.symbol packet w.packet.group w.packet.symbol w.bytes (row.whole on),
      )

pub update_lawful : (name : PacketName) (packet : List ℕ) → Lawful (meaning_of (update name packet))
unfolding update_refusal
update_lawful name packet =
    lawful_by (meaning_of (update name packet)) lent (λ shape full. update_checks shape full name (length packet)) (λ memory. memory.state)
    (λ memory. packet_updated memory.state.shape name.row name.group name.symbol packet memory.store) (record {
      tests = tests_store;
      outcome = λ memory. refl;
      store = λ memory. refl;
      verdict = λ shape known. refl;
      accepted = λ known memory k e.
          let w = update_facts memory.state (length memory.store) name (length packet) e in
          let size = (store_updated memory.state.shape name.row name.group name.symbol packet memory.store w.packet w.store w.bytes).size in
          record {
            count = omega arith;
            agrees = record { of_shape = refl; sound = k.sound; size = size ∙ k.size; rows = rows_agree known memory k name packet w };
          };
    })

-- what an accepted update leaves, by what is known
pub update_fresh : (known : Known) (memory : Memory) → Agrees memory.state.shape known memory → (name : PacketName) (packet : List ℕ)
    → update_checks memory.state.shape known.full name (length packet) ≡ Accepted → UpdatedBy memory.state.shape known memory name packet
unfolding update_refusal
update_fresh known memory k name packet e =
    let a : update_refusal memory.state (length memory.store) name (length packet) ≡ Accepted =
    judged lent tests_store (λ shape full. update_checks shape full name (length packet)) known memory k ∙ e in
    rw a (as_fresh known memory k name packet (update_facts memory.state (length memory.store) name (length packet) a))
