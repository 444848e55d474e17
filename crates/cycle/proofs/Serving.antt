-- Laws of serving: the packet of a read, and what each turn hands out.
use Rattle.std.proofs.Common.{ℕ, zero, suc, ◌≡◌, ◌≢◌, ◌+◌, ◌≤◌, ◌<◌, Bool, true, false, eqb, List, [], ◌∷◌, length, get_or, set, take, refl, sym, ap, ◌∙◌, arith}
use borrow.Author.Tests.{eqb-true, eqb-false}
use Rattle.cells.specs.Xor.{xor_bytes, zeros}
use Rattle.cells.proofs.Cells.{length_cell}
use Rattle.cells.proofs.Xors.{zeros_right}
use Rattle.simplex.specs.declared.TheConstants.{MOST_SYMBOLS, MOST_PAIRS}
use Rattle.simplex.specs.Shape.{is_bank}
use Rattle.simplex.specs.Limit.{start}
use Rattle.audit.specs.Plan.{opens, Serves}
use Rattle.audit.proofs.Reading.{first_to, second_to}
use Rattle.audit.proofs.Storing.{in_column}
use Rattle.layout.specs.declared.Shape.{Shape}
use Rattle.layout.specs.declared.PacketName.{PacketName}
use Rattle.layout.specs.declared.TheConstants.{MOST_GROUPS}
use Rattle.layout.specs.Shape.{InRange, banks, store_size, CellOf, offset, cell_at}
use Rattle.layout.proofs.Places.{inside}
use Rattle.reads.specs.Reads.{Reads, no_read, read_at, is_for, count_of, counts_of}
use Rattle.layout.specs.Name.{PacketOf}
use Rattle.reads.specs.Parts.{Named, Few}
use Rattle.reads.proofs.Once.{for_itself, for_both}
use Rattle.reads.proofs.Grids.{grown}
use Rattle.reads.proofs.Accepted.{few_pairs}
use Rattle.cycle.specs.declared.GroupReads.{GroupReads}
use Rattle.cycle.specs.Cycle.{Plans, slot_of, pair_of, xor_of_cells, packet_of, line_of}
use Rattle.cycle.specs.Parts.{GroupAfter, GroupsAfter}
use Rattle.cycle.proofs.Groups.{groups_set}
use Rattle.cycle.proofs.Slots.{slot_within}
use Rattle.cycle.proofs.Pairs.{symbols_below, Planned, pair_serves}

-- ---- the packet of a read

module _ (shape : Shape) (store : List ℕ) (x r : ℕ) (size : length store ≡ store_size shape) where
  pub long_here : (b : ℕ) → CellOf shape x b r → length (cell_at shape store x b r) ≡ shape.p
  long_here b here = length_cell store (offset shape x b r) shape.p (rw size (inside shape x b r here))

  alone : (b : ℕ) → CellOf shape x b r → cell_at shape store x b r ≡ xor_of_cells shape store x r (b ∷ [])
  alone b here =
      sym (ap (λ (n : ℕ). xor_bytes (cell_at shape store x b r) (zeros n)) (sym (long_here b here)) ∙ zeros_right (cell_at shape store x b r))

  -- what is read of one bank, and of two
  pub read_one : (a b : ℕ) → CellOf shape x a r → b ≡ 0 → cell_at shape store x a r ≡ xor_of_cells shape store x r (opens a b)
  read_one a b here none = rw none (alone a here)

  pub read_two : (a b : ℕ) → CellOf shape x b r
      → xor_bytes (cell_at shape store x a r) (cell_at shape store x b r) ≡ xor_of_cells shape store x r (opens a b)
  read_two a zero here = absurd (omega (arith, here.first))
  read_two a (suc b) here = ap (xor_bytes (cell_at shape store x a r)) (alone (suc b) here)

-- ---- one turn

-- the reads for a symbol of a group, where one more read is gone through: it is for it, or they are as many as before
module _ (reads : Reads) (n : ℕ) (l : n < length reads) where
  count_here : count_of (take (n + 1) reads) (read_at reads n).group (read_at reads n).symbol
      ≡ count_of (take n reads) (read_at reads n).group (read_at reads n).symbol + 1
  count_here = rw (grown reads n l (read_at reads n).group (read_at reads n).symbol, for_itself (read_at reads n)) refl

  count_else : (x i : ℕ) → ((read_at reads n).group ≡ x → (read_at reads n).symbol ≡ i → ⊥)
      → count_of (take (n + 1) reads) x i ≡ count_of (take n reads) x i
  count_else x i other = go (is_for x i (read_at reads n)) refl
    where
      go : (t : Bool) → is_for x i (read_at reads n) ≡ t → count_of (take (n + 1) reads) x i ≡ count_of (take n reads) x i
      go true e = let w = for_both x i (read_at reads n) e in absurd (other w.0 w.1)
      go false e = rw (grown reads n l x i, e) (omega arith)

pub group_small : (shape : Shape) (reads : Reads) → InRange shape → Named shape reads → (n : ℕ) → n < length reads → (read_at reads n).group < MOST_GROUPS
group_small shape reads range named n l = let there = named n no_read l in omega (arith, there.group, range.groups.1)

-- the packet that read n names takes the pair that stands where its group's `next` says
pub record Turn (shape : Shape) (plans : Plans) (reads : Reads) (n : ℕ) (name : PacketName) (own : GroupReads) : Type 0 where
  pub name_is : name ≡ read_at reads n
  there : PacketOf shape name
  pub symbol_small : name.symbol < MOST_SYMBOLS
  pub place : get_or own.next name.symbol 0 < MOST_PAIRS
  pub first_is : get_or own.plan.first (get_or own.next name.symbol 0) 0 ≡ (pair_of plans reads n).a
  pub second_is : get_or own.plan.second (get_or own.next name.symbol 0) 0 ≡ (pair_of plans reads n).b
  pub pair : Serves (is_bank shape.k) (read_at reads n).symbol (pair_of plans reads n)

-- what that pair, a and b, gives
pub record Handed (shape : Shape) (plans : Plans) (reads : Reads) (n : ℕ) (name : PacketName) (a b : ℕ) : Type 0 where
  pub first : CellOf shape name.group a name.row
  pub second : b ≤ banks shape
  pub line : ◌≡◌ {A = List ℕ} (a ∷ b ∷ []) (line_of plans reads n)
  pub packet : (store : List ℕ) → xor_of_cells shape store name.group name.row (opens a b) ≡ packet_of shape plans store reads n

pub handed : {shape : Shape} {plans : Plans} {reads : Reads} {n a b : ℕ} {name : PacketName} {own : GroupReads} → Turn shape plans reads n name own
    → a ≡ get_or own.plan.first (get_or own.next name.symbol 0) 0 → b ≡ get_or own.plan.second (get_or own.next name.symbol 0) 0
    → Handed shape plans reads n name a b
unfolding packet_of
handed {shape} t e f =
    let first = e ∙ t.first_is in
    let second = f ∙ t.second_is in record {
      first = rw first (record {
        group = t.there.group;
        first = omega (arith, t.pair.above);
        last = first_to shape.k (λ b e. e) t.pair;
        row = t.there.row;
      });
      second = rw second (second_to shape.k (λ b e. e) t.pair);
      line = rw (first, second);
      packet = λ store. rw (first, second, t.name_is);
    }

-- and the groups as they are then
pub record Later (own later : GroupReads) (i : ℕ) : Type 0 where
  pub plan : later.plan ≡ own.plan
  pub next : get_or later.next i 0 ≡ get_or own.next i 0 + 1
  pub others : (s : ℕ) → s ≢ i → get_or later.next s 0 ≡ get_or own.next s 0

module _ (shape : Shape) (plans : Plans) (reads : Reads) (range : InRange shape) (named : Named shape reads) (few : Few shape reads) (planned : Planned shape plans reads)
    (groups : List GroupReads) (n : ℕ) (l : n < length reads) (held : GroupsAfter plans reads n shape.m groups) (d : GroupReads) where
  there : PacketOf shape (read_at reads n)
  there = named n no_read l

  abbrev X : ℕ
  X = (read_at reads n).group

  abbrev I : ℕ
  I = (read_at reads n).symbol

  abbrev Own : GroupReads
  Own = get_or groups X d

  own : GroupAfter (plans X) (counts_of reads X) (count_of (take n reads) X) Own
  own = held.each X there.group d

  in_grid : (X < MOST_GROUPS) × (I < MOST_SYMBOLS)
  in_grid = (group_small shape reads range named n l, omega (arith, there.symbol, range.symbols.most))

  place_is : get_or Own.next I 0 ≡ slot_of reads n
  place_is = own.next I in_grid.1

  room : slot_of reads n < MOST_PAIRS
  room =
      let within = slot_within reads (symbols_below shape reads range.symbols named) n l in
      omega (arith, within, few_pairs shape reads range few X there.group)

  first_at : get_or Own.plan.first (get_or Own.next I 0) 0 ≡ (pair_of plans reads n).a
  unfolding pair_of
  first_at = rw (own.plan, place_is) (in_column (λ p. p.a) (plans X) (slot_of reads n) room)

  second_at : get_or Own.plan.second (get_or Own.next I 0) 0 ≡ (pair_of plans reads n).b
  unfolding pair_of
  second_at = rw (own.plan, place_is) (in_column (λ p. p.b) (plans X) (slot_of reads n) room)

  pub turn : (name : PacketName) → name ≡ read_at reads n → Turn shape plans reads n name (get_or groups name.group d)
  turn name is = rw is (record {
    name_is = refl;
    there = there;
    symbol_small = in_grid.1;
    place = omega (arith, place_is, room);
    first_is = first_at;
    second_is = second_at;
    pair = pair_serves shape plans reads range.symbols named planned n l;
  })

  group_later : (later : GroupReads) → Later Own later I → GroupAfter (plans X) (counts_of reads X) (count_of (take (n + 1) reads) X) later
  group_later later t = record { plan = t.plan ∙ own.plan; next = λ s h. at s h (eqb s I) refl }
    where
      at : (s : ℕ) → s < MOST_SYMBOLS → (b : Bool) → eqb s I ≡ b → get_or later.next s 0 ≡ start (counts_of reads X) s + count_of (take (n + 1) reads) X s
      at s h true e = rw (eqb-true s I e) (omega (arith, t.next, place_is, count_here reads n l))
      at s h false e =
          let ne : s ≢ I = eqb-false s I e in
          omega (arith, t.others s ne, own.next s h, count_else reads n l X s (λ g q. ne (sym q)))

  groups_later : (later : GroupReads) → Later Own later I → GroupsAfter plans reads (n + 1) shape.m (set groups X later)
  groups_later later t = groups_set shape.m groups in_grid.0 held.size (group_later later t) others
    where
      others : (y : ℕ) → y < shape.m → y ≢ X → (e : GroupReads) → GroupAfter (plans y) (counts_of reads y) (count_of (take (n + 1) reads) y) (get_or groups y e)
      others y h ne e =
          let g = held.each y h e in
          record { plan = g.plan; next = λ s b. omega (arith, g.next s b, count_else reads n l y s (λ same q. ne (sym same))) }

  pub after : (name : PacketName) (later : GroupReads) → name ≡ read_at reads n
      → Later (get_or groups name.group d) later name.symbol → GroupsAfter plans reads (n + 1) shape.m (set groups name.group later)
  after name later is t = rw is (groups_later later (rw is at t))
