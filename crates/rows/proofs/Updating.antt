-- An update of one packet: the cells that it changes, the generation that it edits, and that the two agree.
use mathlib.Core.Path.{◌≡◌, refl, sym, ap, ◌∙◌}
use mathlib.Core.Logic.{◌≢◌}
use mathlib.Core.List.{List, []}
use Prim.Native.Nat.{ℕ, ◌+◌, ◌*◌, ◌^◌, ◌≤◌, ◌<◌}
use native.Mathlib.Decide.{ℕ_discrete}
use native.Mathlib.Omega.{arith}
use lib.Arith.{digits_lt}
use lib.ListN.{length, get_or, set, length-set}
use lib.Pow.{pow_pos}
use lib.Seq.{ext_get_or, get_or-set_same, get_or-set_other}
use Rattle.cells.specs.Cell.{cell}
use Rattle.cells.proofs.Xors.{xor_back}
use Rattle.cells.proofs.Cells.{length_put, length_cell, cell_put, cell_put_out}
use Rattle.cells.proofs.Steps.{step_within, digits_same, multiples_apart}
use Rattle.simplex.specs.Code.{bank_cell}
use Rattle.simplex.specs.Banks.{spaced, Room}
use Rattle.simplex.specs.Updating.{symbol_updated}
use Rattle.simplex.proofs.Setting.{cell_kept}
use Rattle.simplex.proofs.Filling.{length_packets, filled_holds}
use Rattle.simplex.proofs.Running.{systematic_bank}
use Rattle.simplex.proofs.Updating as banks-updated
use Rattle.layout.specs.declared.Shape.{Shape}
use Rattle.layout.specs.Shape.{banks, store_size, generation_size, CellOf, offset, cell_at}
use Rattle.layout.proofs.Places.{inside, apart, offset_spaced, room}
use Rattle.layout.specs.Name.{PacketOf}
use Rattle.rows.specs.Rows.{packets_in, packet_in, group_written, packet_updated, edited}
use Rattle.rows.specs.Laws.{Updated, Edited}
use Rattle.rows.proofs.Writing.{packet_in_lem, packets_in_sized}

-- ---- the generation

module _ (sh : Shape) (generation : List ℕ) (x i : ℕ) (packet : List ℕ) (group : x < sh.m) (symbol : i < sh.k) (size : length packet ≡ sh.p)
    (whole : length generation ≡ generation_size sh) where
  -- a packet lies within the generation
  within : (y j : ℕ) → y < sh.m → j < sh.k → (y * sh.k + j) * sh.p + sh.p ≤ length generation
  unfolding generation_size
  within y j h k = let fits = step_within (y * sh.k + j) (sh.m * sh.k) sh.p (digits_lt h k) in omega (arith, whole, fits)

  edit_others : (y j : ℕ) → y < sh.m → j < sh.k → ((y ≡ x) × (j ≡ i) → ⊥)
      → packet_in sh (edited sh generation x i packet) y j ≡ packet_in sh generation y j
  edit_others y j h k ne =
      cell_put_out generation ((x * sh.k + i) * sh.p) packet ((y * sh.k + j) * sh.p) sh.p
      (rw size (multiples_apart sh.p (y * sh.k + j) (x * sh.k + i) (λ e. ne (digits_same sh.k k symbol e)))) (within y j h k)

  pub generation_edited : Edited sh x i packet generation (edited sh generation x i packet)
  generation_edited = record {
    size = length_put generation ((x * sh.k + i) * sh.p) packet;
    itself = cell_put generation ((x * sh.k + i) * sh.p) packet sh.p size (within x i group symbol);
    others = edit_others;
  }

  -- the packets of its group, and of every other
  many : (g : List ℕ) (y : ℕ) → length (packets_in sh g y) ≡ sh.k
  many g y = length_packets sh.p sh.k (cell g (y * (sh.k * sh.p)) (sh.k * sh.p))

  pub its_group : packets_in sh (edited sh generation x i packet) x ≡ set (packets_in sh generation x) i packet
  its_group =
      ext_get_or [] _ _ (many _ x ∙ sym (length-set (packets_in sh generation x) i packet ∙ many generation x))
      (λ j l. go j (rw (many (edited sh generation x i packet) x) at l) (ℕ_discrete j i))
    where
      go : (j : ℕ) → j < sh.k → Dec (j ≡ i) → get_or (packets_in sh (edited sh generation x i packet) x) j [] ≡ get_or (set (packets_in sh generation x) i packet) j []
      go j l (yes e) =
          packet_in_lem sh _ x j l
          ∙ rw e (generation_edited.itself ∙ sym (get_or-set_same (packets_in sh generation x) i packet [] (rw (many generation x) symbol)))
      go j l (no n) =
          packet_in_lem sh _ x j l ∙ edit_others x j group l (λ e. n e.1) ∙ sym (packet_in_lem sh generation x j l)
          ∙ sym (get_or-set_other (packets_in sh generation x) i j packet [] n)

  pub other_groups : (y : ℕ) → y < sh.m → y ≢ x → packets_in sh (edited sh generation x i packet) y ≡ packets_in sh generation y
  other_groups y h ne =
      ext_get_or [] _ _ (many _ y ∙ sym (many generation y))
      (λ j l. let k = rw (many (edited sh generation x i packet) y) at l in
      packet_in_lem sh _ y j k ∙ edit_others y j h k (λ e. ne e.0) ∙ sym (packet_in_lem sh generation y j k))

-- ---- the store

module _ (sh : Shape) (row x i : ℕ) (packet s : List ℕ) (u : PacketOf sh (record { row = row; group = x; symbol = i })) (size : length s ≡ store_size sh)
    (bytes : length packet ≡ sh.p) where
  abbrev place : ℕ → ℕ
  place b = offset sh x b row

  abbrev after : List ℕ
  after = packet_updated sh row x i packet s

  of_row : (b : ℕ) → 1 ≤ b → b ≤ banks sh → CellOf sh x b row
  of_row b l h = record { group = u.group; first = l; last = h; row = u.row }

  systematic : 2 ^ i ≤ banks sh
  systematic = systematic_bank sh.k i u.symbol

  pub packet_spaced : packet_updated sh row x i packet s ≡ symbol_updated sh.p i packet (spaced (offset sh x 1 row) (sh.g * sh.p)) (banks sh) s
  packet_spaced =
      banks-updated.updated_same sh.p i packet place (spaced (offset sh x 1 row) (sh.g * sh.p)) (banks sh) s systematic
      (λ b l _. offset_spaced sh x b row l)

  its_room : Room sh.p place (banks sh) (length s)
  its_room = room sh x row (length s) u.group u.row size

  pub store_updated : Updated sh row x i packet s after
  store_updated =
      let to = banks-updated.updated sh.p i packet place (banks sh) s bytes systematic its_room in
      let old = length_cell s (place (2 ^ i)) sh.p (its_room.within (2 ^ i) (pow_pos i) systematic) in
      record {
        size = to.size;
        cells = λ b c h. to.banks b c.first c.last h;
        systematic = to.banks (2 ^ i) (pow_pos i) systematic (banks-updated.systematic_holds i)
            ∙ xor_back (cell s (place (2 ^ i)) sh.p) packet (old ∙ sym bytes);
        others = λ n out. to.others n (λ b l h. out b (of_row b l h));
      }

  -- the cells of other groups and other rows are as they were
  pub cells_kept : (y b r : ℕ) → CellOf sh y b r → ((y ≡ x) × (r ≡ row) → ⊥) → cell_at sh after y b r ≡ cell_at sh s y b r
  cells_kept y b r c ne =
      cell_kept (banks-updated.updated sh.p i packet place (banks sh) s bytes systematic its_room) (offset sh y b r) (rw size (inside sh y b r c))
      (λ d l h on. apart sh y b r x d row c (of_row d l h) (λ e. ne (e.0, e.2)))

  module _ (generation : List ℕ) (whole : length generation ≡ generation_size sh) where
    abbrev new : List ℕ
    new = edited sh generation x i packet

    pub fresh : ((b : ℕ) → CellOf sh x b row → cell_at sh s x b row ≡ bank_cell sh.p (packets_in sh generation x) b)
        → after ≡ group_written sh x row (packets_in sh new x) s
    fresh cells =
        let many = length_packets sh.p sh.k (cell generation (x * (sh.k * sh.p)) (sh.k * sh.p)) in
        rw (its_group sh generation x i packet u.group u.symbol bytes whole)
        (banks-updated.fresh sh.p (packets_in sh generation x) i packet place (banks sh) s (rw many u.symbol) systematic
        (packets_in_sized sh generation x u.group whole) bytes its_room (λ b l h. cells b (of_row b l h)))

    -- a row that holds a generation holds the edited one
    pub row_edited : ((y b : ℕ) → CellOf sh y b row → cell_at sh s y b row ≡ bank_cell sh.p (packets_in sh generation y) b)
        → (y b : ℕ) → CellOf sh y b row → cell_at sh after y b row ≡ bank_cell sh.p (packets_in sh new y) b
    row_edited cells y b c = go (ℕ_discrete y x)
      where
        len : length new ≡ generation_size sh
        len = length_put generation ((x * sh.k + i) * sh.p) packet ∙ whole

        go : Dec (y ≡ x) → cell_at sh after y b row ≡ bank_cell sh.p (packets_in sh new y) b
        go (yes e) =
            rw e (ap (λ (t : List ℕ). cell_at sh t x b row) (fresh (cells x))
            ∙ (filled_holds sh.p (packets_in sh new x) place (packets_in_sized sh new x u.group len) (banks sh) s its_room).banks b c.first c.last refl)
        go (no n) =
            rw (other_groups sh generation x i packet u.group u.symbol bytes whole y c.group n)
            (cells_kept y b row c (λ e. n e.0) ∙ cells y b c)
