-- The limit of the code, and that it is met at K = 2.
use Rattle.std.specs.Prelude.{◌≡◌, ◌≢◌, List, [], ◌∷◌, ◌++◌, ℕ, suc, ◌≤◌, ◌<◌, length, slice_index, slice_index_or, take, replicate, sum, Contains}
use Rattle.simplex.specs.Shape.{banks_of, limit_of}
use Rattle.simplex.specs.Code.{Packet, Content, Banks, xor_of_banks, Yields}

-- A request vector says how often each symbol of a group is read (customers say: a request). Its reads, each by its symbol (customers say:
-- asks): the counts 2, 0, 1 are the reads 0, 0, 2. The first count given is that of symbol i.
abbrev pub reads_from : ℕ → List ℕ → List ℕ
reads_from i [] = []
reads_from i (c ∷ counts) = replicate c i ++ reads_from (suc i) counts

-- [plan.request]
abbrev pub reads_of : List ℕ → List ℕ
reads_of counts = reads_from 0 counts

-- Among them those of symbol i stand from here on.
abbrev pub start : List ℕ → ℕ → ℕ
start counts i = sum (take i counts)

-- Bank sets of a group of K symbols: disjoint, and as many as the reads. A set may have any size.
pub record DisjointSets (K : ℕ) (reads : List ℕ) (sets : List Banks) : Type 0 where
  pub one_each : length sets ≡ length reads
  pub of_group : (j b : ℕ) → Contains (slice_index_or sets j []) b → (1 ≤ b) × (b ≤ banks_of K)
  pub disjoint : (i j b : ℕ) → i < j → Contains (slice_index_or sets i []) b → Contains (slice_index_or sets j []) b → ⊥

-- A set of banks fails a symbol: here is a content for which what they hold does not XOR to the symbol's packet.
pub record Fails (K P : ℕ) (banks : Banks) (symbol : ℕ) : Type 0 where
  pub packets : List Packet
  pub content : Content K P packets
  pub wrong : xor_of_banks P packets banks ≢ slice_index_or packets symbol []

-- Of these reads, given these sets, some read's set fails its symbol.
abbrev pub SomeFails : (K P : ℕ) → List ℕ → List Banks → Type 0
SomeFails K P reads sets = (j : ℕ) × (j < length reads) × Fails K P (slice_index_or sets j []) (slice_index reads j)

-- THE LIMIT. However the counts of a group are made up: once their total passes 2^(K-1), no disjoint bank sets, of whatever size, serve all
-- reads. There is one whose set fails its symbol, with the content that shows it. (A packet has at least one byte.)
-- [promise.limit]
abbrev pub TheLimit : Type 0
TheLimit =
    (K P : ℕ) (counts : List ℕ) (sets : List Banks) → 1 ≤ P → limit_of K < sum counts → DisjointSets K (reads_of counts) sets
    → SomeFails K P (reads_of counts) sets

-- The limit of a group's reads in any order, each given by its symbol [promise.limit].
abbrev pub LimitFor : (K P : ℕ) → List ℕ → Type 0
LimitFor K P reads = (sets : List Banks) → limit_of K < length reads → DisjointSets K reads sets → SomeFails K P reads sets

abbrev pub LimitOfReads : Type 0
LimitOfReads = (K P : ℕ) (reads : List ℕ) → 1 ≤ P → LimitFor K P reads

-- The bank sets serve the reads: they are disjoint, of the group's banks, as many as the reads, and each yields its read's symbol.
pub record ServedBy (K P : ℕ) (reads : List ℕ) (sets : List Banks) : Type 0 where
  pub apart : DisjointSets K reads sets
  pub yields : (j : ℕ) → j < length reads → Yields K P (slice_index_or sets j []) (slice_index reads j)

-- The reads can be served, by these sets.
pub record Servable (K P : ℕ) (reads : List ℕ) : Type 0 where
  pub sets : List Banks
  pub served : ServedBy K P reads sets

-- The limit is met where that needs no planner: at K = 2, by every request of that total, two reads of one symbol or one of each.
abbrev pub LimitMet : Type 0
LimitMet = (P : ℕ) (counts : List ℕ) → length counts ≡ 2 → sum counts ≡ limit_of 2 → Servable 2 P (reads_of counts)
