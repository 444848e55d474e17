-- What holds of every list of reads.
use Rattle.std.specs.Prelude.{◌≡◌, ◌≢◌, ◌↔◌, ◌⊎◌, Bool, true, false, List, [], ℕ, ◌+◌, ◌*◌, ◌/◌, ◌%◌, ◌≤◌, ◌<◌, length, slice_index, sum, All}
use Rattle.refusals.specs.Verdict.{Verdict, Accepted, refused}
use Rattle.simplex.specs.declared.TheConstants.{MOST_SYMBOLS}
use Rattle.simplex.specs.Shape.{limit_of}
use Rattle.layout.specs.declared.Shape.{Shape}
use Rattle.layout.specs.declared.PacketName.{PacketName}
use Rattle.layout.specs.Name.{PacketOf}
use Rattle.reads.specs.Reads.{Reads, reads_in, read_at, counts_of, symbols_read, CollisionFreeIn}
use Rattle.reads.specs.Refusals.{packet_refusal, list_refusal}
use Rattle.reads.specs.Parts.{Few}

-- Every read's symbol is below the most of them.
abbrev pub SymbolsBelow : Reads → Type 0
SymbolsBelow reads = All (λ read. read.symbol < MOST_SYMBOLS) reads

-- What refuses a packet at a place, with these rows full: each condition by its number, where those before it are not met.
pub record WrongPacket (shape : Shape) (full : ℕ → Bool) (place : ℕ) (name : PacketName) (verdict : Verdict) : Type 0 where
  pub seven : shape.g ≤ name.row → verdict ≡ refused 7 place
  pub fourteen : name.row < shape.g → shape.m ≤ name.group → verdict ≡ refused 14 place
  pub fifteen : name.row < shape.g → name.group < shape.m → shape.k ≤ name.symbol → verdict ≡ refused 15 place
  pub nine : PacketOf shape name → full name.row ≡ false → verdict ≡ refused 9 place

-- None of these: the packet is there, and its row is full.
pub record MayRead (shape : Shape) (full : ℕ → Bool) (name : PacketName) : Type 0 where
  pub there : PacketOf shape name
  pub full_row : full name.row ≡ true

-- The first n reads may be read.
abbrev pub MayReadFirst : Shape → (full : ℕ → Bool) → Reads → (n : ℕ) → Type 0
MayReadFirst shape full reads n = (before : ℕ) → before < n → MayRead shape full (read_at reads before)

-- The lowest group with too many reads.
pub record LowestOver (shape : Shape) (reads : Reads) (group : ℕ) : Type 0 where
  pub below : group < shape.m
  pub many : limit_of shape.k < sum (counts_of reads group)
  pub lowest : (lower : ℕ) → lower < group → sum (counts_of reads lower) ≤ limit_of shape.k

-- What refuses a list whose length is a multiple of 3, over buffers of these lengths. read: a read of it, at the read's index, where those
-- before it may be read. twelve, sixteen: where all may.
pub record WrongReads (shape : Shape) (full : ℕ → Bool) (reads : Reads) (out schedule : ℕ) (verdict : Verdict) : Type 0 where
  pub read : (n : ℕ) → n < length reads → MayReadFirst shape full reads n → WrongPacket shape full n (read_at reads n) verdict
  pub twelve : MayReadFirst shape full reads (length reads) → (group : ℕ) → LowestOver shape reads group → verdict ≡ refused 12 group
  pub sixteen : MayReadFirst shape full reads (length reads) → Few shape reads
      → (out ≢ length reads * shape.p) ⊎ (schedule ≢ length reads * 2) → verdict ≡ refused 16 0

-- Nothing refuses a list of bytes: its length is a multiple of 3, every read may be read, no group has too many, and the buffers have the
-- sizes that its reads need.
pub record RightList (shape : Shape) (full : ℕ → Bool) (list : List ℕ) (out schedule : ℕ) : Type 0 where
  pub whole : length list % 3 ≡ 0
  pub reads : MayReadFirst shape full (reads_in list) (length (reads_in list))
  pub few : Few shape (reads_in list)
  pub output : out ≡ length (reads_in list) * shape.p
  pub lines : schedule ≡ length (reads_in list) * 2

-- What refuses it.
pub record WrongList (shape : Shape) (full : ℕ → Bool) (list : List ℕ) (out schedule : ℕ) (verdict : Verdict) : Type 0 where
  pub thirteen : length list % 3 ≢ 0 → verdict ≡ refused 13 0
  pub reads : length list % 3 ≡ 0 → WrongReads shape full (reads_in list) out schedule verdict

-- counted: the reads of a group are as many as its counts total, where every read's symbol is below the most of them.
-- collisions: no two of them are for the same symbol exactly where no count is above 1.
-- empty: an empty list is accepted, with empty buffers.
-- many, cut: a list of bytes has a read for every three of them, and read n is the bytes from 3n on: row, group and symbol.
-- packet, list: in words, with which number and place a packet is refused, and a list. accepted: in words, when a list is not refused.
pub record TheReads : Type 0 where
  pub counted : (reads : Reads) (group : ℕ) → SymbolsBelow reads → length (symbols_read reads group) ≡ sum (counts_of reads group)
  pub collisions : (reads : Reads) (group : ℕ) → SymbolsBelow reads
      → CollisionFreeIn reads group ↔ ((symbol : ℕ) → slice_index (counts_of reads group) symbol ≤ 1)
  pub empty : (shape : Shape) (full : ℕ → Bool) → list_refusal shape full [] 0 0 ≡ Accepted
  pub many : (list : List ℕ) → length (reads_in list) ≡ length list / 3
  pub cut : (list : List ℕ) (n : ℕ) → n < length (reads_in list) → let byte : ℕ → ℕ = λ i. slice_index list (n * 3 + i) in
      read_at (reads_in list) n ≡ record { row = byte 0; group = byte 1; symbol = byte 2 }
  pub packet : (shape : Shape) (full : ℕ → Bool) (place : ℕ) (name : PacketName)
      → WrongPacket shape full place name (packet_refusal shape full place name)
  pub list : (shape : Shape) (full : ℕ → Bool) (list : List ℕ) (out schedule : ℕ)
      → WrongList shape full list out schedule (list_refusal shape full list out schedule)
  pub accepted : (shape : Shape) (full : ℕ → Bool) (list : List ℕ) (out schedule : ℕ)
      → (list_refusal shape full list out schedule ≡ Accepted) ↔ RightList shape full list out schedule
