-- The reads of a cycle (customers say: asks). A list comes as bytes, three for each read: its row, its group and its symbol. It is cut into
-- reads once, and is a list of reads from there on.
use Rattle.std.specs.Prelude.{◌≡◌, Bool, ◌&&◌, List, [], ◌∷◌, map, ℕ, ◌<◌, ◌==◌, length, slice_index_or, count_by, filter}
use Rattle.std.specs.List.{range_with_len}
use Rattle.simplex.specs.declared.TheConstants.{MOST_SYMBOLS}
use Rattle.layout.specs.declared.PacketName.{PacketName}
use Rattle.layout.specs.Name.{name_of}

-- Each read by the packet that it names.
abbrev pub Reads : Type 0
Reads = List PacketName

-- The reads of a list of bytes. What is left of fewer than three bytes is no read [cycle.list].
abbrev pub reads_in : List ℕ → Reads
reads_in [] = []
reads_in (row ∷ []) = []
reads_in (row ∷ group ∷ []) = []
reads_in (row ∷ group ∷ symbol ∷ list) = name_of (row ∷ group ∷ symbol ∷ []) ∷ reads_in list

-- The reads of a list that is cut into parts of three bytes.
abbrev pub names_of : List (List ℕ) → Reads
names_of parts = map name_of parts

-- Read n, from 0; and what is given where a list has none.
abbrev pub no_read : PacketName
no_read = record { row = 0; group = 0; symbol = 0 }

abbrev pub read_at : Reads → ℕ → PacketName
read_at reads n = slice_index_or reads n no_read

-- Whether a read is for this symbol of this group, in whichever row.
abbrev pub is_for : (group symbol : ℕ) → PacketName → Bool
is_for group symbol read = (read.group == group) && (read.symbol == symbol)

-- How many reads are for it. Equal reads count separately [cycle.list].
abbrev pub count_of : Reads → (group symbol : ℕ) → ℕ
count_of reads group symbol = count_by (is_for group symbol) reads

-- The counts of a group, over the whole list and so over all rows [cycle.counts].
abbrev pub counts_of : Reads → (group : ℕ) → List ℕ
counts_of reads group = map (count_of reads group) (range_with_len 0 MOST_SYMBOLS)

-- The reads of a group, each by its symbol, in their order [promise.words].
abbrev pub symbols_read : Reads → (group : ℕ) → List ℕ
symbols_read reads group = map (λ read. read.symbol) (filter (λ read. read.group == group) reads)

-- No two reads of a group are for the same symbol, in whichever rows they are (customers say: nobody collides).
abbrev pub CollisionFreeIn : Reads → (group : ℕ) → Type 0
CollisionFreeIn reads group =
    (m n : ℕ) → m < n → n < length reads → (read_at reads m).group ≡ group → (read_at reads n).group ≡ group
    → (read_at reads m).symbol ≡ (read_at reads n).symbol → ⊥
