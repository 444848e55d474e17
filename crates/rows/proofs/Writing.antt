-- What a written row holds: in each group the cells of that group's packets. Every other byte, and so every other row, is as it was.
use mathlib.Core.Path.{◌≡◌, refl, sym, ap, ap₂, ◌∙◌}
use mathlib.Core.Logic.{◌≢◌, ⊎_elim}
use mathlib.Core.Bool.{true}
use mathlib.Core.List.{List, []}
use Prim.Native.Nat.{ℕ, zero, suc, ◌+◌, ◌*◌, ◌≤◌, ◌<◌}
use native.Mathlib.Nat.{le_of_suc-le-suc, le_refl, eq-or-lt_of_le, zero-mul, suc-mul, add-mul}
use native.Mathlib.Omega.{arith}
use lib.ListN.{length, get_or}
use Rattle.cells.specs.Cell.{cell}
use Rattle.cells.specs.Xor.{xor_bytes}
use Rattle.cells.proofs.Cells.{length_cell, get_or_cell, cell_cell}
use Rattle.cells.proofs.Steps.{step_within}
use Rattle.simplex.specs.Shape.{degree_of}
use Rattle.simplex.specs.Symbols.{highest_of, without_highest}
use Rattle.simplex.specs.Code.{Packet, Sized, bank_cell}
use Rattle.simplex.specs.Banks.{spaced, BanksSet}
use Rattle.simplex.specs.Filling.{bank_filled, filled}
use Rattle.simplex.proofs.Banks.{cell_one}
use Rattle.simplex.proofs.Running.{systematic, lower, symbol_below, bank_top}
use Rattle.simplex.proofs.Setting.{length_each, cell_kept}
use Rattle.simplex.proofs.Filling.{length_packets, packet_at, packets_sized, filled_same, filled_holds}
use Rattle.layout.specs.declared.Shape.{Shape}
use Rattle.layout.specs.Shape.{banks, store_size, generation_size, CellOf, offset, cell_at}
use Rattle.rows.specs.Rows.{packets_in, packet_place, packet_in, group_written, groups_written, row_written}
use Rattle.rows.specs.Laws.{OutsideRow, Written, TheGeneration}
use Rattle.layout.proofs.Places.{inside, apart, offset_spaced, room}

-- ---- the packets of a group

-- group x's packets lie within the generation
pub group_within : (sh : Shape) (generation : List ℕ) (x : ℕ) → x < sh.m → length generation ≡ generation_size sh
    → x * (sh.k * sh.p) + sh.k * sh.p ≤ length generation
unfolding generation_size
group_within sh generation x h whole = let fits = step_within x sh.m (sh.k * sh.p) h in omega arith

pub packet_in_lem : (sh : Shape) (generation : List ℕ) (x i : ℕ) → i < sh.k
    → get_or (packets_in sh generation x) i [] ≡ cell generation ((x * sh.k + i) * sh.p) sh.p
packet_in_lem sh generation x i h =
    let size : ℕ = sh.k * sh.p in
    let place : x * size + i * sh.p ≡ (x * sh.k + i) * sh.p = omega arith in
    packet_at sh.p sh.k (cell generation (x * size) size) i h
    ∙ cell_cell generation (x * size) size (i * sh.p) sh.p (step_within i sh.k sh.p h)
    ∙ ap (λ (n : ℕ). cell generation n sh.p) place

pub packets_in_sized : (sh : Shape) (generation : List ℕ) (x : ℕ) → x < sh.m → length generation ≡ generation_size sh
    → Sized sh.p (packets_in sh generation x)
packets_in_sized sh generation x h whole =
    let size : ℕ = sh.k * sh.p in
    let len : length (cell generation (x * size) size) ≡ size = length_cell generation (x * size) size (group_within sh generation x h whole) in
    packets_sized sh.p sh.k (cell generation (x * size) size) (omega arith)

-- from one packet to the next
module _ (sh : Shape) where
  next_symbol : (x i : ℕ) → packet_place sh x (suc i) ≡ packet_place sh x i + sh.p
  next_symbol x i = omega (arith, suc-mul (x * sh.k + i) sh.p)

  next_group : (x i : ℕ) → packet_place sh (suc x) i ≡ packet_place sh x i + sh.k * sh.p
  next_group x i =
      let further : suc x * sh.k + i ≡ x * sh.k + i + sh.k = omega (arith, suc-mul x sh.k) in
      rw further (omega (arith, add-mul (x * sh.k + i) sh.k sh.p))

  last : (x i : ℕ) → sh.m ≡ suc x → sh.k ≡ suc i → packet_place sh x i + sh.p ≡ generation_size sh
  unfolding generation_size
  last x i m k =
      let packets : sh.m * sh.k ≡ suc (x * sh.k + i) = rw m (omega (arith, suc-mul x sh.k)) in
      rw packets (omega (arith, suc-mul (x * sh.k + i) sh.p))

  bytes : (generation : List ℕ) (x i byte : ℕ) → i < sh.k → byte < sh.p
      → get_or (get_or (packets_in sh generation x) i []) byte 0 ≡ get_or generation (packet_place sh x i + byte) 0
  bytes generation x i byte h l =
      ap (λ (packet : Packet). get_or packet byte 0) (packet_in_lem sh generation x i h) ∙ get_or_cell generation (packet_place sh x i) sh.p byte l

  pub in_order : TheGeneration sh
  in_order = record { first = rw (zero-mul sh.k) (zero-mul sh.p); next_symbol = next_symbol; next_group = next_group; last = last; bytes = bytes }

-- ---- the groups

-- filled with its banks a row of cells apart
pub group_spaced : (sh : Shape) (x row : ℕ) (packets : List Packet) (s after : List ℕ)
    → after ≡ filled sh.p packets (spaced (offset sh x 1 row) (sh.g * sh.p)) (banks sh) s → after ≡ group_written sh x row packets s
group_spaced sh x row packets s after is =
    is
    ∙ sym (filled_same sh.p packets (λ b. offset sh x b row) (spaced (offset sh x 1 row) (sh.g * sh.p)) (banks sh) s (λ b l u. offset_spaced sh x b row l))

length_groups : (sh : Shape) (row : ℕ) (generation : List ℕ) (n : ℕ) (s : List ℕ) → length (groups_written sh row generation n s) ≡ length s
unfolding groups_written
length_groups sh row generation zero s = refl
length_groups sh row generation (suc x) s =
    length_each (λ b. true) (bank_filled sh.p (packets_in sh generation x) (λ b. offset sh x b row)) (λ b. offset sh x b row) (banks sh)
    (groups_written sh row generation x s)
    ∙ length_groups sh row generation x s

module _ (sh : Shape) (row : ℕ) (generation s : List ℕ) where
  -- the store after n groups
  abbrev after : ℕ → List ℕ
  after n = groups_written sh row generation n s

  module _ (in-shape : row < sh.g) (size : length s ≡ store_size sh) (whole : length generation ≡ generation_size sh) where
    after_size : (n : ℕ) → length (after n) ≡ store_size sh
    after_size n = length_groups sh row generation n s ∙ size

    of_row : (x b : ℕ) → x < sh.m → 1 ≤ b → b ≤ banks sh → CellOf sh x b row
    of_row x b h l u = record { group = h; first = l; last = u; row = in-shape }

    group_holds : (n : ℕ) → n < sh.m
        → BanksSet sh.p (λ b. true) (bank_cell sh.p (packets_in sh generation n)) (λ b. offset sh n b row) (banks sh) (after n) (after (suc n))
    unfolding groups_written
    group_holds n h =
        filled_holds sh.p (packets_in sh generation n) (λ b. offset sh n b row) (packets_in_sized sh generation n h whole) (banks sh) (after n)
        (room sh n row (length (after n)) h in-shape (after_size n))

    -- group n leaves the cells of other groups and other rows as they were
    group_keeps : (n : ℕ) → n < sh.m → (x b r : ℕ) → CellOf sh x b r → ((x ≡ n) × (r ≡ row) → ⊥)
        → cell_at sh (after (suc n)) x b r ≡ cell_at sh (after n) x b r
    group_keeps n h x b r c ne =
        cell_kept (group_holds n h) (offset sh x b r) (rw (after_size n) (inside sh x b r c))
        (λ d l u on. apart sh x b r n d row c (of_row n d h l u) (λ e. ne (e.0, e.2)))

    groups_hold : (n : ℕ) → n ≤ sh.m → (x b : ℕ) → x < n → CellOf sh x b row
        → cell_at sh (after n) x b row ≡ bank_cell sh.p (packets_in sh generation x) b
    groups_hold zero h x b l c = absurd (omega arith)
    groups_hold (suc n) h x b l c =
        ⊎_elim
        (λ (e : x ≡ n). rw e ((group_holds n h).banks b c.first c.last refl))
        (λ (m : x < n). group_keeps n h x b row c (λ e. omega arith) ∙ groups_hold n (omega arith) x b m c)
        (eq-or-lt_of_le (le_of_suc-le-suc l))

    groups_others : (n : ℕ) → n ≤ sh.m → (i : ℕ) → OutsideRow sh row i → get_or (after n) i 0 ≡ get_or s i 0
    unfolding groups_written
    groups_others zero h i out = refl
    groups_others (suc n) h i out =
        (group_holds n h).others i (λ b l u on. out n b (of_row n b h l u)) ∙ groups_others n (omega arith) i out

    groups_rows : (n : ℕ) → n ≤ sh.m → (x b r : ℕ) → CellOf sh x b r → r ≢ row → cell_at sh (after n) x b r ≡ cell_at sh s x b r
    unfolding groups_written
    groups_rows zero h x b r c ne = refl
    groups_rows (suc n) h x b r c ne = group_keeps n h x b r c (λ e. ne e.1) ∙ groups_rows n (omega arith) x b r c ne

    -- ---- the row

    -- the sources of a bank
    module _ (x b : ℕ) (c : CellOf sh x b row) where
      abbrev packets : List Packet
      packets = packets_in sh generation x

      its_cell : cell_at sh (after sh.m) x b row ≡ bank_cell sh.p packets b
      its_cell = groups_hold sh.m (le_refl sh.m) x b c.group c

      highest : highest_of b < sh.k
      highest = symbol_below b c.first sh.k c.last

      there : highest_of b < length packets
      there = rw (length_packets sh.p sh.k (cell generation (x * (sh.k * sh.p)) (sh.k * sh.p))) highest

      copied : degree_of b ≡ 1 → cell_at sh (after sh.m) x b row ≡ packet_in sh generation x (highest_of b)
      copied one =
          its_cell ∙ ap (bank_cell sh.p packets) (sym (systematic b c.first one))
          ∙ cell_one sh.p packets (highest_of b) there (packets_in_sized sh generation x c.group whole) ∙ packet_in_lem sh generation x (highest_of b) highest

      stepped : 2 ≤ degree_of b → cell_at sh (after sh.m) x b row
          ≡ xor_bytes (cell_at sh (after sh.m) x (without_highest b) row) (packet_in sh generation x (highest_of b))
      stepped two =
          let source = lower b two in
          let rest : CellOf sh x (without_highest b) row = record { group = c.group; first = source.0; last = omega (arith, source.1, c.last); row = c.row } in
          its_cell ∙ sym (bank_top b c.first sh.p packets there (packets_in_sized sh generation x c.group whole))
          ∙ ap₂ xor_bytes (sym (groups_hold sh.m (le_refl sh.m) x (without_highest b) c.group rest)) (packet_in_lem sh generation x (highest_of b) highest)

    pub row_written_lem : Written sh row generation s (row_written sh row generation s)
    row_written_lem = record {
      size = length_groups sh row generation sh.m s;
      cells = its_cell;
      copies = copied;
      steps = stepped;
      others = groups_others sh.m (le_refl sh.m);
    }

    pub other_rows : (x b r : ℕ) → CellOf sh x b r → r ≢ row → cell_at sh (row_written sh row generation s) x b r ≡ cell_at sh s x b r
    other_rows = groups_rows sh.m (le_refl sh.m)
