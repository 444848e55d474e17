-- What a read cycle that is not refused puts out, over a store of some shape.
use Rattle.std.specs.Prelude.{List, [], ◌∷◌, map, take, ℕ, ◌+◌, length}
use Rattle.cells.specs.Cell.{put_each}
use Rattle.cells.specs.Xor.{xor_all}
use Rattle.simplex.specs.Code.{Packet, Banks}
use Rattle.simplex.specs.Limit.{start}
use Rattle.audit.specs.declared.Pair.{Pair}
use Rattle.audit.specs.Plan.{opened, pair_at}
use Rattle.plan.specs.Planned.{plan_of}
use Rattle.layout.specs.declared.Shape.{Shape}
use Rattle.layout.specs.Shape.{cell_at}
use Rattle.reads.specs.Reads.{Reads, read_at, count_of, counts_of}

-- The plan of each group.
abbrev pub Plans : Type 0
Plans = ℕ → List Pair

-- The plans of a cycle: a group's is that for the counts of its own reads, and for nothing else [plan.own].
abbrev pub plans_of : (K : ℕ) → Reads → Plans
plans_of K reads = λ group. plan_of K (counts_of reads group)

-- Where read n stands in its group's plan: after all reads for earlier symbols, and after the earlier reads for its own [cycle.pairs].
abbrev pub slot_of : Reads → (n : ℕ) → ℕ
slot_of reads n =
    let read = read_at reads n in
    start (counts_of reads read.group) read.symbol + count_of (take n reads) read.group read.symbol

-- The pair of read n.
unfoldable pub pair_of : Plans → Reads → (n : ℕ) → Pair
pair_of plans reads n = pair_at (plans (read_at reads n).group) (slot_of reads n)

-- The XOR of the cells of some banks of a group in a row.
abbrev pub xor_of_cells : Shape → (store : List ℕ) → (group row : ℕ) → Banks → Packet
xor_of_cells shape store group row banks = xor_all shape.p (map (λ b. cell_at shape store group b row) banks)

-- The packet of read n: what the cells of its pair's banks, in its group and row, XOR to [cycle.opens].
unfoldable pub packet_of : Shape → Plans → (store : List ℕ) → Reads → (n : ℕ) → Packet
packet_of shape plans store reads n =
    let read = read_at reads n in xor_of_cells shape store read.group read.row (opened (pair_of plans reads n))

-- Its line of the schedule: the two banks of its pair.
abbrev pub line_of : Plans → Reads → (n : ℕ) → List ℕ
line_of plans reads n = (pair_of plans reads n).a ∷ (pair_of plans reads n).b ∷ []

-- What the output and the schedule then hold: for read after read, its packet, and its line [cycle.buffers].
abbrev pub packets_out : Shape → Plans → (store : List ℕ) → Reads → (out : List ℕ) → List ℕ
packets_out shape plans store reads out = put_each shape.p (packet_of shape plans store reads) (length reads) out

abbrev pub lines_out : Plans → Reads → (schedule : List ℕ) → List ℕ
lines_out plans reads schedule = put_each 2 (line_of plans reads) (length reads) schedule
