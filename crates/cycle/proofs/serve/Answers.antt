-- `cycle::serve` meets its contract: each turn puts the line and the packet of a read.
use Rattle.std.proofs.Common.{◌≡◌, ◌<◌, length, get_or, refl, ◌∙◌, rules, arith}
use Rattle.cells.proofs.Each.{each_none, each_more}
use Rattle.reads.specs.Reads.{Reads, names_of, read_at}
use Rattle.reads.proofs.Cutting.{names_many}
use Rattle.reads.proofs.Grids.{taken}
use Rattle.cycle.specs.declared.GroupReads.{GroupReads}
use Rattle.cycle.specs.Cycle.{Plans, plans_of, packet_of, line_of}
use Rattle.cycle.proofs.Pairs.{Planned, all_planned}
use Rattle.cycle.proofs.Serving.{group_small, Turn, Handed, turn, handed, after}
use Rattle.cycle.proofs.serve.Goals.{After-from-name, After-next_pair-pair}
use Rattle.cycle.proofs.serve.Goals as goal

-- the reads, and the plans of their groups
abbrev list : After-from-name → Reads
list c = names_of c.args.reads.now

abbrev plans : After-from-name → Plans
plans c = plans_of c.args.store.geometry.shape.k (list c)

planned : (c : After-from-name) → Planned c.args.store.geometry.shape (plans c) (list c)
planned c = all_planned c.args.store.geometry.shape (list c) c.args.store.geometry.in_range.symbols c.requires.named c.requires.few

-- what is known of the read of a turn, of the packet that it names, and of the pair that it takes
within : (c : After-from-name) → c.loop-n.n < length (list c)
within c = rw names_many (search rules)

named : (c : After-from-name) → c.from-name.result ≡ read_at (list c) c.loop-n.n
named c = taken _ c.loop-n.n _ _ c.from-name.ensures (search rules)

this : (c : After-from-name) (d : GroupReads) → Turn c.args.store.geometry.shape (plans c) (list c) c.loop-n.n c.from-name.result (get_or c.loop-n.groups c.from-name.result.group d)
this c d =
    let shape = c.args.store.geometry.shape in
    turn shape (plans c) (list c) c.args.store.geometry.in_range c.requires.named c.requires.few (planned c) c.loop-n.groups c.loop-n.n (within c)
    c.loop-n.invariant.2 d _ (named c)

given : (c : After-next_pair-pair) → let here = (goal.at.After-next_pair-pair c).After-from-name in
    Handed c.args.store.geometry.shape (plans here) (list here) c.loop-n.n c.from-name.result c.next_pair-pair.result.a c.next_pair-pair.result.b
given c = handed (this (goal.at.After-next_pair-pair c).After-from-name _) c.next_pair-pair.ensures.first c.next_pair-pair.ensures.second

pub loop-n-init : goal.loop-n-init
loop-n-init c = (each_none _ _ _, each_none _ _ _, c.requires.planned)

pub bounds-groups-name : goal.bounds-groups-name
bounds-groups-name c =
    let here = (goal.at.bounds-groups-name c).After-from-name in
    rw (named here) (group_small c.args.store.geometry.shape (list here) c.args.store.geometry.in_range c.requires.named c.loop-n.n (within here))

pub offset_bounds-groups-name : goal.offset_bounds-groups-name
offset_bounds-groups-name c =
    let here = (goal.at.offset_bounds-groups-name c).After-from-name in
    let small = group_small c.args.store.geometry.shape (list here) c.args.store.geometry.in_range c.requires.named c.loop-n.n (within here) in
    rw (named here) (omega (arith, small))

pub next_pair-pair-requires : goal.next_pair-pair-requires
next_pair-pair-requires c = let t = this (goal.at.next_pair-pair-requires c).After-from-name _ in (t.symbol_small, t.place)

pub read_packet-requires-clause-first_there : goal.read_packet-requires-clause-first_there
read_packet-requires-clause-first_there c = (given (goal.at.read_packet-requires-clause-first_there c).After-next_pair-pair).first

pub read_packet-requires-clause-second_there : goal.read_packet-requires-clause-second_there
read_packet-requires-clause-second_there c = (given (goal.at.read_packet-requires-clause-second_there c).After-next_pair-pair).second

pub loop-n-preserved : goal.loop-n-preserved
loop-n-preserved c =
    let shape = c.args.store.geometry.shape in
    let store = c.args.store.bytes.now in
    let q = c.requires in
    let l = c.loop-n in
    let e = c.next_pair-pair.ensures in
    let here = goal.at.loop-n-preserved c in
    let turn = here.After-from-name in
    let h = given here.After-next_pair-pair in (
      c.read_packet.ensures ∙ each_more shape.p (packet_of shape (plans turn) store (list turn)) l.n c.args.out.now l.out _ _ l.invariant.0 refl (h.packet store),
      c.copy_into.ensures ∙ each_more 2 (line_of (plans turn) (list turn)) l.n c.args.schedule.now l.schedule _ _ l.invariant.1 refl h.line,
      after shape (plans turn) (list turn) c.args.store.geometry.in_range q.named q.few (planned turn) l.groups l.n (within turn) l.invariant.2 _ _ _
          (named turn) (record { plan = e.plan; next = e.later; others = e.others }),
    )
