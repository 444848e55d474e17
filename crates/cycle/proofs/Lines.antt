-- What the schedule and the output of served reads hold: the line and the packet of each read.
use Rattle.std.proofs.Common.{ℕ, zero, suc, ◌≡◌, ◌+◌, ◌*◌, ◌≤◌, ◌<◌, List, length, get_or, Contains, refl, sym, ap, ◌∙◌, subst, arith}
use mathlib.Core.Path.{ap₂}
use native.Mathlib.Nat.{le_of_eq, add-zero}
use lib.ListN.{length-replicate}
use Rattle.cells.specs.Cell.{cell}
use Rattle.cells.specs.Xor.{xor_bytes, zeros}
use Rattle.cells.proofs.Turns.{length_xor_cell}
use Rattle.cells.proofs.Cells.{get_or_cell}
use Rattle.cells.proofs.Each.{length_each, cell_each}
use Rattle.simplex.specs.Shape.{SymbolsInRange, is_bank}
use Rattle.audit.specs.declared.Pair.{Pair}
use Rattle.audit.specs.Plan.{opens, opened, pair_at, Serves}
use Rattle.audit.specs.Audit.{pairs_of}
use Rattle.audit.proofs.Pairs.{pair_bytes_at}
use Rattle.audit.proofs.Reading.{first_to, second_to}
use Rattle.layout.specs.declared.Shape.{Shape}
use Rattle.layout.specs.Shape.{InRange, banks, store_size, offset, cell_at}
use Rattle.layout.proofs.Places.{inside}
use Rattle.reads.specs.Reads.{Reads, no_read, read_at}
use Rattle.reads.specs.Parts.{Named, Few}
use Rattle.cycle.specs.Cycle.{Plans, plans_of, pair_of, xor_of_cells, packet_of, line_of, packets_out, lines_out}
use Rattle.cycle.specs.Served.{line, ServedRead, SystematicLines, OpenedOnce}
use Rattle.cycle.proofs.Pairs.{symbols_below, pair_systematic, Planned, pair_serves, pairs_once, all_planned}

-- ---- the packet that a pair of banks gives has P bytes

module _ (shape : Shape) (store : List ℕ) (size : length store ≡ store_size shape) (x r : ℕ) (group_in : x < shape.m) (row_in : r < shape.g) where
  in_store : (b : ℕ) → 1 ≤ b → b ≤ banks shape → offset shape x b r + shape.p ≤ length store
  in_store b l u = rw size (inside shape x b r (record { group = group_in; first = l; last = u; row = row_in }))

  length_read : (a b : ℕ) → 1 ≤ a → a ≤ banks shape → b ≤ banks shape → length (xor_of_cells shape store x r (opens a b)) ≡ shape.p
  length_read a zero l u v = length_xor_cell store (offset shape x a r) shape.p (zeros shape.p) (in_store a l u) (length-replicate shape.p 0)
  length_read a (suc b) l u v =
      length_xor_cell store (offset shape x a r) shape.p (xor_bytes (cell_at shape store x (suc b) r) (zeros shape.p)) (in_store a l u)
      (length_xor_cell store (offset shape x (suc b) r) shape.p (zeros shape.p) (in_store (suc b) (omega arith) v) (length-replicate shape.p 0))

-- ---- the line of each read

module _ (plans : Plans) (reads : Reads) (schedule : List ℕ) (size : length schedule ≡ length reads * 2) where
  pub line_is : (n : ℕ) → n < length reads → line (lines_out plans reads schedule) n ≡ pair_of plans reads n
  line_is n l =
      let both : cell (lines_out plans reads schedule) (n * 2) 2 ≡ line_of plans reads n =
      cell_each 2 (line_of plans reads) (length reads) schedule (λ j _. refl) (omega arith) n l in
      ap₂ (λ (a b : ℕ). record { a = a; b = b }) (rw add-zero at (at 0 (omega arith) both)) (at 1 (omega arith) both)
    where
      at : (f : ℕ) → f < 2 → cell (lines_out plans reads schedule) (n * 2) 2 ≡ line_of plans reads n
          → get_or (lines_out plans reads schedule) (n * 2 + f) 0 ≡ get_or (line_of plans reads n) f 0
      at f h e = sym (get_or_cell (lines_out plans reads schedule) (n * 2) 2 f h) ∙ ap (λ (c : List ℕ). get_or c f 0) e

  -- so it is where the schedule is read as the audit reads a list
  pub audited_is : (n : ℕ) → n < length reads → pair_at (pairs_of (lines_out plans reads schedule)) n ≡ pair_of plans reads n
  audited_is n l =
      pair_bytes_at (lines_out plans reads schedule) n
      (omega (arith, length_each 2 (line_of plans reads) (length reads) schedule)) ∙ line_is n l

pub systematic_lines : (shape : Shape) (reads : Reads) (schedule : List ℕ) → length schedule ≡ length reads * 2 → SymbolsInRange shape.k
    → Named shape reads → SystematicLines reads (lines_out (plans_of shape.k reads) reads schedule)
systematic_lines shape reads schedule size range named n l free =
    line_is (plans_of shape.k reads) reads schedule size n l ∙ pair_systematic shape.k reads (symbols_below shape reads range named) n l free

-- ---- each read

module _ (shape : Shape) (in_range : InRange shape) (store : List ℕ) (reads : Reads) (size : length store ≡ store_size shape) (named : Named shape reads) (few : Few shape reads) where
  abbrev plans : Plans
  plans = plans_of shape.k reads

  planned : Planned shape plans reads
  planned = all_planned shape reads in_range.symbols named few

  serves : (n : ℕ) → n < length reads → Serves (is_bank shape.k) (read_at reads n).symbol (pair_of plans reads n)
  serves = pair_serves shape plans reads in_range.symbols named planned

  length_packet : (n : ℕ) → n < length reads → length (packet_of shape plans store reads n) ≡ shape.p
  unfolding packet_of
  length_packet n l =
      let p = serves n l in
      let there = named n no_read l in
      length_read shape store size (read_at reads n).group (read_at reads n).row there.group there.row _ _ (omega (arith, p.above))
      (first_to shape.k (λ b e. e) p) (second_to shape.k (λ b e. e) p)

  pub packet_is : (out : List ℕ) → length out ≡ length reads * shape.p → (n : ℕ) → n < length reads
      → cell (packets_out shape plans store reads out) (n * shape.p) shape.p ≡ packet_of shape plans store reads n
  packet_is out packets = cell_each shape.p (packet_of shape plans store reads) (length reads) out length_packet (le_of_eq (sym packets))

  module _ (schedule : List ℕ) (lines : length schedule ≡ length reads * 2) where
    pub opened_once : OpenedOnce reads (lines_out plans reads schedule)
    opened_once i j b l u g at_i at_j =
        pairs_once shape plans reads in_range.symbols named planned i j b l u g
        (subst (λ (p : Pair). Contains (opened p) b) (line_is plans reads schedule lines i (omega arith)) at_i)
        (subst (λ (p : Pair). Contains (opened p) b) (line_is plans reads schedule lines j u) at_j)

    module _ (out : List ℕ) (packets : length out ≡ length reads * shape.p) where
      pub served_read : (n : ℕ) → n < length reads → ServedRead shape store reads (packets_out shape plans store reads out) (lines_out plans reads schedule) n
      unfolding packet_of
      served_read n l =
          let same : pair_of plans reads n ≡ line (lines_out plans reads schedule) n = sym (line_is plans reads schedule lines n l) in
          record {
            pair = subst (λ (p : Pair). Serves (is_bank shape.k) (read_at reads n).symbol p) same (serves n l);
            packet = packet_is out packets n l ∙ ap (λ (p : Pair). xor_of_cells shape store (read_at reads n).group (read_at reads n).row (opened p)) same;
          }
