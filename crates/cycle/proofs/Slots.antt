-- Where the reads of a group stand in its plan: each in a place of its own.
use Rattle.std.proofs.Common.{ℕ, zero, suc, ◌≡◌, ◌≢◌, ◌+◌, ◌≤◌, ◌<◌, Bool, true, false, eqb, ltb, length, get_or, take, sum, refl, sym, ap, ◌∙◌, arith}
use mathlib.Core.Path.{ap₂}
use mathlib.Core.Logic.{⊎_elim}
use native.Mathlib.Nat.{eq-or-lt_of_le}
use native.Mathlib.Numerals.{add-one}
use Rattle.std.proofs.lemmas.Bool.{false_from_ne_true}
use Rattle.std.proofs.lemmas.List.Sums.{count_by_more_no, count_by_more_yes}
use borrow.Author.Tests.{eq-eqb, eqb-true, eqb-false, ltb-true, ltb-false}
use Rattle.simplex.specs.Limit.{start}
use Rattle.audit.proofs.Places.{place_less, start_less}
use Rattle.reads.specs.Reads.{Reads, no_read, read_at, is_for, count_of, counts_of}
use Rattle.reads.specs.Laws.{SymbolsBelow}
use Rattle.reads.proofs.Once.{for_both, so_far, earlier}
use Rattle.cycle.specs.Cycle.{slot_of}
use Rattle.cycle.specs.Laws.{SameSymbol, NoneBetween}

module _ (reads : Reads) (small : SymbolsBelow reads) where
  -- read n is one of those of its symbol
  pub nth : (n : ℕ) → n < length reads
      → count_of (take n reads) (read_at reads n).group (read_at reads n).symbol < get_or (counts_of reads (read_at reads n).group) (read_at reads n).symbol 0
  nth n l = so_far reads (read_at reads n).group n small l refl

  pub slot_within : (n : ℕ) → n < length reads → slot_of reads n < sum (counts_of reads (read_at reads n).group)
  slot_within n l = place_less (counts_of reads (read_at reads n).group) (read_at reads n).symbol _ (nth n l)

  -- the slot of read n, as one of group x
  abbrev place : (x n : ℕ) → ℕ
  place x n = start (counts_of reads x) (read_at reads n).symbol + count_of (take n reads) x (read_at reads n).symbol

  -- of two reads of a group, one for an earlier symbol stands before the other
  before : (x m n : ℕ) → m < length reads → (read_at reads m).group ≡ x → (read_at reads m).symbol < (read_at reads n).symbol → place x m < place x n
  before x m n l g s = omega (arith, so_far reads x m small l g, start_less (counts_of reads x) (read_at reads m).symbol (read_at reads n).symbol s)

  pub slots_apart : (m n : ℕ) → m < n → n < length reads → (read_at reads m).group ≡ (read_at reads n).group → slot_of reads m ≢ slot_of reads n
  slots_apart m n l u g same = by_symbol (ltb M N) refl (eqb M N) refl
    where
      x : ℕ
      x = (read_at reads n).group

      M : ℕ
      M = (read_at reads m).symbol

      N : ℕ
      N = (read_at reads n).symbol

      met : place x m ≡ place x n
      met = ap (λ (y : ℕ). place y m) (sym g) ∙ same

      by_symbol : (t : Bool) → ltb M N ≡ t → (s : Bool) → eqb M N ≡ s → ⊥
      by_symbol true e s f = omega (arith, met, before x m n (omega arith) g (ltb-true M N e))
      by_symbol false e true f =
          let one : M ≡ N = eqb-true M N f in
          let less : count_of (take m reads) x N < count_of (take n reads) x N = earlier reads x N m n l (omega arith) g one in
          omega (arith, rw one at met, less)
      by_symbol false e false f = omega (arith, met, before x n m u refl (omega (arith, ltb-false M N e, eqb-false M N f)))

-- ---- the reads for one symbol of a group have its pairs in their order

module _ (reads : Reads) (group symbol : ℕ) where
  abbrev counted : ℕ → ℕ
  counted n = count_of (take n reads) group symbol

  -- those from m on, of which none is for the symbol, are not counted
  passed_over : (m n : ℕ) → m ≤ n → n ≤ length reads → ((other : ℕ) → m ≤ other → other < n → is_for group symbol (read_at reads other) ≡ false)
      → counted n ≡ counted m
  passed_over m zero h u none = let same : m ≡ 0 = omega arith in rw same refl
  passed_over m (suc n) h u none =
      ⊎_elim
      (λ (e : m ≡ suc n). rw e refl)
      (λ (l : m < suc n).
      ap counted (sym (add-one n)) ∙ count_by_more_no (is_for group symbol) reads n no_read (omega arith) (none n (omega arith) (omega arith))
      ∙ passed_over m n (omega arith) (omega arith) (λ other from before. none other from (omega arith)))
      (eq-or-lt_of_le h)

-- the slot of read n, as one for this symbol of this group
slot_as : (reads : Reads) (n group symbol : ℕ) → (read_at reads n).group ≡ group → (read_at reads n).symbol ≡ symbol
    → slot_of reads n ≡ start (counts_of reads group) symbol + count_of (take n reads) group symbol
slot_as reads n group symbol g s = ap₂ (λ (x i : ℕ). start (counts_of reads x) i + count_of (take n reads) x i) g s

module _ (reads : Reads) (n : ℕ) (l : n < length reads) where
  abbrev X : ℕ
  X = (read_at reads n).group

  abbrev I : ℕ
  I = (read_at reads n).symbol

  -- where none of the reads from m on is for the same symbol
  counted_same : (m : ℕ) → m ≤ n → NoneBetween reads m n → count_of (take n reads) X I ≡ count_of (take m reads) X I
  counted_same m h none =
      passed_over reads X I m n h (omega arith)
      (λ other from before. false_from_ne_true (is_for X I (read_at reads other)) (λ e. let b = for_both X I (read_at reads other) e in none other from before (b.0, b.1)))

  pub slot_first : NoneBetween reads 0 n → slot_of reads n ≡ start (counts_of reads X) I
  slot_first none = omega (arith, counted_same 0 (omega arith) none)

  pub slot_next : (m : ℕ) → m < n → SameSymbol reads m n → NoneBetween reads (m + 1) n → slot_of reads n ≡ slot_of reads m + 1
  slot_next m h same none =
      let own : is_for X I (read_at reads m) ≡ true = rw (eq-eqb _ _ same.0, eq-eqb _ _ same.1) refl in
      omega (arith, counted_same (m + 1) (omega arith) none, count_by_more_yes (is_for X I) reads m no_read (omega arith) own, slot_as reads m X I same.0 same.1)
