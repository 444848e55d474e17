-- When a list of reads and the buffers for it are refused, over a store of some shape with some rows full.
use Rattle.std.specs.Prelude.{Bool, ◌&&◌, List, ℕ, ◌*◌, ◌%◌, ◌==◌, nat_le, nat_lt, length, sum}
use Rattle.refusals.specs.Verdict.{Verdict, check, ◌then◌, first_refusal}
use Rattle.simplex.specs.Shape.{limit_of}
use Rattle.layout.specs.declared.Shape.{Shape}
use Rattle.layout.specs.declared.PacketName.{PacketName}
use Rattle.reads.specs.Reads.{Reads, reads_in, read_at, counts_of}

-- 13, a list of bytes is not made of whole reads, three bytes each [refusal.13].
abbrev pub length_refusal : List ℕ → Verdict
length_refusal list = check 13 0 (length list % 3 == 0)

-- What refuses the name of a packet, and a place for it: 7, there is no such row; 14, no such group; 15, no such symbol.
abbrev pub name_refusal : Shape → (place : ℕ) → PacketName → Verdict
name_refusal shape place name =
    check 7 place (nat_lt name.row shape.g)
    then check 14 place (nat_lt name.group shape.m)
    then check 15 place (nat_lt name.symbol shape.k)

-- The same; then 9, the row is empty [update.refusals], [cycle.refusals].
abbrev pub packet_refusal : Shape → (full : ℕ → Bool) → (place : ℕ) → PacketName → Verdict
packet_refusal shape full place name = name_refusal shape place name then check 9 place (full name.row)

-- The form of read n, and read n by itself: its place is its index.
abbrev pub form_refusal : Shape → Reads → (n : ℕ) → Verdict
form_refusal shape reads n = name_refusal shape n (read_at reads n)

abbrev pub read_refusal : Shape → (full : ℕ → Bool) → Reads → (n : ℕ) → Verdict
read_refusal shape full reads n = packet_refusal shape full n (read_at reads n)

-- 12, the reads of a group pass the limit [refusal.12].
abbrev pub group_refusal : Shape → Reads → (group : ℕ) → Verdict
group_refusal shape reads group = check 12 group (nat_le (sum (counts_of reads group)) (limit_of shape.k))

-- 16, the length of the output is not P for each read, or that of the schedule (customers say: the sheet) not 2 [refusal.16].
abbrev pub buffer_refusal : Shape → Reads → (out schedule : ℕ) → Verdict
buffer_refusal shape reads out schedule =
    check 16 0 ((out == length reads * shape.p) && (schedule == length reads * 2))

-- Read by read; then 12, with the lowest group that has too many reads; then 16.
abbrev pub reads_refusal : Shape → (full : ℕ → Bool) → Reads → (out schedule : ℕ) → Verdict
reads_refusal shape full reads out schedule =
    first_refusal (read_refusal shape full reads) (length reads)
    then first_refusal (group_refusal shape reads) shape.m
    then buffer_refusal shape reads out schedule

-- 13; then all that the reads of the list are refused for [cycle.refusals].
unfoldable pub list_refusal : Shape → (full : ℕ → Bool) → (list : List ℕ) → (out schedule : ℕ) → Verdict
list_refusal shape full list out schedule =
    length_refusal list then reads_refusal shape full (reads_in list) out schedule
