-- What is known of the reads of a cycle in its parts.
use Rattle.std.specs.Prelude.{ℕ, ◌≤◌, ◌<◌, sum, All}
use Rattle.simplex.specs.declared.TheConstants.{MOST_SYMBOLS}
use Rattle.simplex.specs.Shape.{limit_of}
use Rattle.layout.specs.declared.Shape.{Shape}
use Rattle.layout.specs.Name.{PacketOf}
use Rattle.layout.specs.declared.TheConstants.{MOST_GROUPS}
use Rattle.reads.specs.Reads.{Reads, counts_of}

-- Every read names a packet that the shape has.
abbrev pub Named : Shape → Reads → Type 0
Named shape reads = All (PacketOf shape) reads

-- Every read's group and symbol are below the most of them.
abbrev pub InGrid : Reads → Type 0
InGrid reads = All (λ read. (read.group < MOST_GROUPS) × (read.symbol < MOST_SYMBOLS)) reads

-- No group has more reads than the limit.
abbrev pub Few : Shape → Reads → Type 0
Few shape reads = (group : ℕ) → group < shape.m → sum (counts_of reads group) ≤ limit_of shape.k
