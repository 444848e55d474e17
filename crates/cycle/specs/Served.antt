-- What it is for the reads of a cycle to be served: by what stands in the schedule and the output, whoever wrote it there, and by the
-- audit; and which lines open one bank.
use Rattle.std.specs.Prelude.{◌≡◌, List, ℕ, ◌*◌, ◌<◌, length, Contains}
use Rattle.cells.specs.Cell.{cell}
use Rattle.simplex.specs.Shape.{is_bank}
use Rattle.audit.specs.declared.Pair.{Pair}
use Rattle.audit.specs.Plan.{opened, Serves}
use Rattle.audit.specs.Audit.{pair_in, pair_bytes, Yes, audit_of}
use Rattle.plan.specs.Systematic.{systematic_pair}
use Rattle.layout.specs.declared.Shape.{Shape}
use Rattle.reads.specs.Reads.{Reads, read_at, counts_of, CollisionFreeIn}
use Rattle.cycle.specs.Cycle.{plans_of, xor_of_cells}

-- Line n of a schedule.
abbrev pub line : List ℕ → ℕ → Pair
line schedule n = pair_in schedule n

-- pair: line n has banks a > b of a group, b perhaps 0, with a XOR b = 2^i, where i is the symbol of read n [plan.pair].
-- packet: part n of the output is what the cells of that line's banks, in the read's group and row, XOR to [promise.cycle].
pub record ServedRead (shape : Shape) (store : List ℕ) (reads : Reads) (out schedule : List ℕ) (n : ℕ) : Type 0 where
  pub pair : Serves (is_bank shape.k) (read_at reads n).symbol (line schedule n)
  pub packet : cell out (n * shape.p) shape.p
      ≡ xor_of_cells shape store (read_at reads n).group (read_at reads n).row (opened (line schedule n))

-- The audit says yes to the plan of each group [plan.own].
abbrev pub PlansAudited : Shape → Reads → Type 0
PlansAudited shape reads =
    (group : ℕ) → group < shape.m → audit_of shape.k (counts_of reads group) (pair_bytes (plans_of shape.k reads group)) ≡ Yes

-- In a group of which no two reads are for the same symbol, every line opens the systematic bank of its read's symbol, and no other
-- [cycle.systematic].
abbrev pub SystematicLines : Reads → (schedule : List ℕ) → Type 0
SystematicLines reads schedule =
    (n : ℕ) → n < length reads → CollisionFreeIn reads (read_at reads n).group
    → line schedule n ≡ systematic_pair (read_at reads n).symbol

-- No two reads of one group, of whichever rows, have lines that open the same bank [promise.cycle].
abbrev pub OpenedOnce : Reads → (schedule : List ℕ) → Type 0
OpenedOnce reads schedule =
    (i j b : ℕ) → i < j → j < length reads → (read_at reads i).group ≡ (read_at reads j).group
    → Contains (opened (line schedule i)) b → Contains (opened (line schedule j)) b → ⊥
