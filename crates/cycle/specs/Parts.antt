-- What planning hands on to serving, and each read to the next. No public promise cites it.
use Rattle.std.specs.Prelude.{◌≡◌, List, ℕ, ◌+◌, ◌<◌, length, slice_index, take, HoldsAt}
use Rattle.simplex.specs.declared.TheConstants.{MOST_SYMBOLS}
use Rattle.simplex.specs.Limit.{start}
use Rattle.audit.specs.declared.Pair.{Pair}
use Rattle.audit.specs.Stored.{stored}
use Rattle.layout.specs.declared.TheConstants.{MOST_GROUPS}
use Rattle.reads.specs.Reads.{Reads, count_of, counts_of}
use Rattle.cycle.specs.Cycle.{Plans}
use Rattle.cycle.specs.declared.GroupReads.{GroupReads}

-- A group with this plan for these counts, of whose reads for each symbol so many are served: the symbol's next pair stands where `next`
-- says.
pub record GroupAfter (pairs : List Pair) (counts : List ℕ) (served : ℕ → ℕ) (group : GroupReads) : Type 0 where
  pub plan : group.plan ≡ stored pairs
  pub next : (symbol : ℕ) → symbol < MOST_SYMBOLS → slice_index group.next symbol ≡ start counts symbol + served symbol

-- The first m groups once n reads are served by these plans.
pub record GroupsAfter (plans : Plans) (reads : Reads) (n m : ℕ) (groups : List GroupReads) : Type 0 where
  pub size : length groups ≡ MOST_GROUPS
  pub each : (group : ℕ) → group < m
      → HoldsAt (GroupAfter (plans group) (counts_of reads group) (count_of (take n reads) group)) groups group
