-- What holds of the schedule and the output of every list of reads.
use Rattle.std.specs.Prelude.{◌≡◌, ◌≢◌, Bool, List, ℕ, ◌+◌, ◌*◌, ◌≤◌, ◌<◌, length, sum}
use Rattle.refusals.specs.Verdict.{Accepted}
use Rattle.cells.specs.Cell.{cell}
use Rattle.simplex.specs.Limit.{start}
use Rattle.audit.specs.Plan.{pair_at}
use Rattle.audit.specs.Audit.{pairs_of}
use Rattle.layout.specs.declared.Shape.{Shape}
use Rattle.layout.specs.Shape.{InRange, store_size}
use Rattle.reads.specs.Reads.{Reads, reads_in, read_at, counts_of}
use Rattle.reads.specs.Refusals.{list_refusal}
use Rattle.reads.specs.Laws.{SymbolsBelow}
use Rattle.cycle.specs.Cycle.{Plans, plans_of, slot_of, pair_of, packet_of, packets_out, lines_out}
use Rattle.cycle.specs.Served.{line}

-- Two reads of a list are for the same symbol of the same group, in whichever rows.
abbrev pub SameSymbol : Reads → (m n : ℕ) → Type 0
SameSymbol reads m n = ((read_at reads m).group ≡ (read_at reads n).group) × ((read_at reads m).symbol ≡ (read_at reads n).symbol)

-- So is none of the reads from m on that are before n.
abbrev pub NoneBetween : Reads → (m n : ℕ) → Type 0
NoneBetween reads m n = (other : ℕ) → m ≤ other → other < n → SameSymbol reads other n → ⊥

-- own: the plan of a group goes by that group's own counts, and by nothing else of the list, nor by which group it is.
-- within, apart: each read of a group has a slot below what the group's counts total, and no two of them have the same.
-- first, next: the reads for one symbol of one group, as they come in the list, have its pairs in the group's plan one after the other,
-- from the first on.
-- audited: of a schedule of the right length, pair n, read as the audit reads a list, is the pair of read n.
-- lines, packets: line n of a schedule of the right length is the pair of read n; of a list that is accepted, part n of the output is its
-- packet.
pub record TheCycle : Type 0 where
  pub own : (K : ℕ) (reads others : Reads) (group other : ℕ) → counts_of reads group ≡ counts_of others other
      → plans_of K reads group ≡ plans_of K others other
  pub within : (reads : Reads) → SymbolsBelow reads → (n : ℕ) → n < length reads
      → slot_of reads n < sum (counts_of reads (read_at reads n).group)
  pub apart : (reads : Reads) → SymbolsBelow reads → (m n : ℕ) → m < n → n < length reads
      → (read_at reads m).group ≡ (read_at reads n).group → slot_of reads m ≢ slot_of reads n
  pub first : (reads : Reads) (n : ℕ) → n < length reads → NoneBetween reads 0 n
      → slot_of reads n ≡ start (counts_of reads (read_at reads n).group) (read_at reads n).symbol
  pub next : (reads : Reads) (m n : ℕ) → m < n → n < length reads → SameSymbol reads m n → NoneBetween reads (m + 1) n
      → slot_of reads n ≡ slot_of reads m + 1
  pub audited : (plans : Plans) (reads : Reads) (schedule : List ℕ) → length schedule ≡ length reads * 2
      → (n : ℕ) → n < length reads → pair_at (pairs_of (lines_out plans reads schedule)) n ≡ pair_of plans reads n
  pub lines : (plans : Plans) (reads : Reads) (schedule : List ℕ) → length schedule ≡ length reads * 2
      → (n : ℕ) → n < length reads → line (lines_out plans reads schedule) n ≡ pair_of plans reads n
  pub packets : (shape : Shape) (full : ℕ → Bool) (store list out schedule : List ℕ)
      → InRange shape → length store ≡ store_size shape
      → list_refusal shape full list (length out) (length schedule) ≡ Accepted
      → let reads = reads_in list in (n : ℕ) → n < length reads
      → cell (packets_out shape (plans_of shape.k reads) store reads out) (n * shape.p) shape.p
      ≡ packet_of shape (plans_of shape.k reads) store reads n
