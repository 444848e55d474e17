-- The counts of all groups, kept while the parts of a list are gone through.
use Rattle.std.proofs.Common.{ℕ, ◌≡◌, ◌≢◌, ◌+◌, ◌<◌, Bool, true, false, cond, eqb, List, [], length, get_or, set, take, map, refl, sym, ap, ◌∙◌, arith}
use borrow.Author.Tests.{eqb-true, eqb-false, ne_eqb}
use mathlib.Core.Bool.{and-false}
use mathlib.Core.Path.{fun_ext}
use Rattle.std.specs.List.{range_with_len}
use Rattle.std.proofs.lemmas.List.{length-map, length-set, get_or-map, get_or-set_same, get_or-set_other}
use Rattle.std.proofs.lemmas.List.Sums.{sum_by_more, count_by-le-length}
use Rattle.std.proofs.lemmas.List.FromFn.{length-map-range_with_len, get_or-map-range_with_len, fill_by_all}
use Rattle.simplex.specs.declared.TheConstants.{MOST_SYMBOLS}
use Rattle.layout.specs.declared.PacketName.{PacketName}
use Rattle.layout.specs.declared.TheConstants.{MOST_GROUPS}
use Rattle.layout.specs.Name.{name_of}
use Rattle.reads.specs.Reads.{Reads, names_of, no_read, read_at, is_for, count_of, counts_of}
use Rattle.reads.specs.Parts.{InGrid}
use Rattle.reads.proofs.Once.{counted, for_itself}

-- a list by places, in which one element is replaced
list_set : {A : Type 0} (f g : ℕ → A) (n i : ℕ) (v : A) → i < n → v ≡ g i → ((j : ℕ) → j ≢ i → f j ≡ g j)
    → set (map f (range_with_len 0 n)) i v ≡ map g (range_with_len 0 n)
list_set f g n i v l here others =
    fill_by_all g (set (map f (range_with_len 0 n)) i v) n v (length-set (map f (range_with_len 0 n)) i v ∙ length-map-range_with_len f 0 n)
    (λ j b. at j b (eqb j i) refl)
  where
    many : length (map f (range_with_len 0 n)) ≡ n
    many = length-map-range_with_len f 0 n

    at : (j : ℕ) → j < n → (t : Bool) → eqb j i ≡ t → get_or (set (map f (range_with_len 0 n)) i v) j v ≡ g j
    at j b true e = rw (eqb-true j i e) (get_or-set_same (map f (range_with_len 0 n)) i v v (omega (arith, many)) ∙ here)
    at j b false e =
        let ne : j ≢ i = eqb-false j i e in
        get_or-set_other (map f (range_with_len 0 n)) i j v v ne ∙ get_or-map-range_with_len f 0 n j j v b (omega arith) ∙ others j ne

-- the counts of all groups over the first n reads
abbrev pub all_until : Reads → ℕ → List (List ℕ)
all_until reads n = map (counts_of (take n reads)) (range_with_len 0 MOST_GROUPS)

-- the part that comes names read n
pub taken : (parts : List (List ℕ)) (n : ℕ) (d : List ℕ) (name : PacketName) → name ≡ name_of (get_or parts n d) → n < length parts → name ≡ read_at (names_of parts) n
taken parts n d name is l = is ∙ sym (get_or-map name_of parts n d no_read l)

module _ (reads : Reads) (n : ℕ) (l : n < length reads) where
  pub grown : (group symbol : ℕ) → count_of (take (n + 1) reads) group symbol ≡ count_of (take n reads) group symbol + cond (is_for group symbol (read_at reads n)) 1 0
  grown group symbol = sum_by_more (λ read. cond (is_for group symbol read) 1 0) reads n no_read l

  module _ (g : (read_at reads n).group < MOST_GROUPS) (s : (read_at reads n).symbol < MOST_SYMBOLS) where
    abbrev X : ℕ
    X = (read_at reads n).group

    abbrev I : ℕ
    I = (read_at reads n).symbol

    own_group : (d : List ℕ) → get_or (all_until reads n) X d ≡ counts_of (take n reads) X
    own_group d = get_or-map-range_with_len (counts_of (take n reads)) 0 MOST_GROUPS X X d g (omega arith)

    own_count : (d : ℕ) → get_or (counts_of (take n reads) X) I d ≡ count_of (take n reads) X I
    own_count d = get_or-map-range_with_len (count_of (take n reads) X) 0 MOST_SYMBOLS I I d s (omega arith)

    one_more : set (all_until reads n) X (set (counts_of (take n reads) X) I (count_of (take n reads) X I + 1)) ≡ all_until reads (n + 1)
    one_more =
        list_set (counts_of (take n reads)) (counts_of (take (n + 1) reads)) MOST_GROUPS X _ g
        (list_set (count_of (take n reads) X) (count_of (take (n + 1) reads) X) MOST_SYMBOLS I _ s here others)
        elsewhere
      where
        here : count_of (take n reads) X I + 1 ≡ count_of (take (n + 1) reads) X I
        here = rw (grown X I, for_itself (read_at reads n)) refl

        others : (i : ℕ) → i ≢ I → count_of (take n reads) X i ≡ count_of (take (n + 1) reads) X i
        others i ne = rw (grown X i, ne_eqb I i (λ e. ne (sym e)), and-false (eqb X X)) (omega arith)

        elsewhere : (x : ℕ) → x ≢ X → counts_of (take n reads) x ≡ counts_of (take (n + 1) reads) x
        elsewhere x ne =
            ap (λ (f : ℕ → ℕ). map f (range_with_len 0 MOST_SYMBOLS))
            (fun_ext (λ i. let same : count_of (take n reads) x i ≡ count_of (take (n + 1) reads) x i = rw (grown x i, ne_eqb X x (λ e. ne (sym e))) (omega arith) in same))

    room : count_of (take n reads) X I < length reads
    room = omega (arith, count_by-le-length (is_for X I) reads, counted (is_for X I) no_read reads n l (for_itself (read_at reads n)))

pub in_grid : (parts : List (List ℕ)) (n : ℕ) → InGrid (names_of parts) → n < length parts
    → ((read_at (names_of parts) n).group < MOST_GROUPS) × ((read_at (names_of parts) n).symbol < MOST_SYMBOLS)
in_grid parts n small l = small n no_read (rw length-map l)

-- the group and the symbol of part n
pub group_in : (parts : List (List ℕ)) (n : ℕ) (d : List ℕ) → InGrid (names_of parts) → n < length parts → get_or (get_or parts n d) 1 0 < MOST_GROUPS
group_in parts n d small l = rw (← taken parts n d (name_of (get_or parts n d)) refl l) at (in_grid parts n small l).0

pub symbol_in : (parts : List (List ℕ)) (n : ℕ) (d : List ℕ) → InGrid (names_of parts) → n < length parts → get_or (get_or parts n d) 2 0 < MOST_SYMBOLS
symbol_in parts n d small l = rw (← taken parts n d (name_of (get_or parts n d)) refl l) at (in_grid parts n small l).1

-- One turn of the count: that of the symbol of the packet that the part names grows by one.
module _ (counts parts : List (List ℕ)) (n : ℕ) (d : List ℕ) (name : PacketName) (small : InGrid (names_of parts))
    (all : counts ≡ all_until (names_of parts) n) (l : n < length parts) (is : name ≡ name_of (get_or parts n d)) where
  abbrev reads : Reads
  reads = names_of parts

  in_reads : n < length reads
  in_reads = rw length-map l

  here : ((read_at reads n).group < MOST_GROUPS) × ((read_at reads n).symbol < MOST_SYMBOLS)
  here = in_grid parts n small l

  own : get_or counts (read_at reads n).group [] ≡ counts_of (take n reads) (read_at reads n).group
  own = rw all (own_group reads n in_reads here.0 here.1 [])

  count : get_or (get_or counts (read_at reads n).group []) (read_at reads n).symbol 0
      ≡ count_of (take n reads) (read_at reads n).group (read_at reads n).symbol
  count = rw own (own_count reads n in_reads here.0 here.1 0)

  pub few : get_or (get_or counts name.group []) name.symbol 0 < length parts
  few =
      let less : count_of (take n reads) (read_at reads n).group (read_at reads n).symbol < length reads = room reads n in_reads here.0 here.1 in
      rw (taken parts n d name is l) (omega (arith, count, rw length-map at less))

  pub counted_one : set counts name.group (set (get_or counts name.group []) name.symbol (get_or (get_or counts name.group []) name.symbol 0 + 1)) ≡ all_until reads (n + 1)
  counted_one = rw (taken parts n d name is l) (rw (count, own, all) (one_more reads n in_reads here.0 here.1))

pub ruleset one_counted = (group_in, symbol_in, few, counted_one)
