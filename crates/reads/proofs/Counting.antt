-- Counting reads by group and symbol: a group's reads are as many as its counts total, and all reads at most as many as the groups can have.
use Rattle.std.proofs.Common.{ℕ, zero, suc, ◌≡◌, ◌+◌, ◌*◌, ◌≤◌, ◌<◌, Bool, true, false, cond, eqb, ◌&&◌, List, [], ◌∷◌, length, get_or, sum, map, All, count_by, filter, refl, sym, ap, ◌∙◌, arith}
use mathlib.Core.Path.{fun_ext}
use mathlib.Core.Logic.{⊎_elim}
use native.Mathlib.Nat.{eq-or-lt_of_le}
use borrow.Author.Tests.{eq-eqb, ne_eqb}
use Rattle.std.specs.List.{range_with_len}
use Rattle.std.proofs.lemmas.List.{length-map}
use Rattle.std.proofs.lemmas.List.Elements.{All-head, All-tail, All-map, All-filter, All-from_get_or}
use Rattle.std.proofs.lemmas.List.Folds.{fold-map}
use Rattle.std.proofs.lemmas.List.Sums.{sum_by-cons, sum_by-le, length-filter}
use Rattle.std.proofs.lemmas.List.FromFn.{length-map-range_with_len, get_or-map-range_with_len}
use Rattle.simplex.specs.declared.TheConstants.{MOST_SYMBOLS}
use Rattle.reads.specs.Reads.{Reads, is_for, count_of, counts_of, symbols_read}
use Rattle.reads.specs.Laws.{SymbolsBelow}

pub count_cons : {A : Type 0} (p : A → Bool) (x : A) (xs : List A) → count_by p (x ∷ xs) ≡ cond (p x) 1 0 + count_by p xs
count_cons p x xs = sum_by-cons (λ y. cond (p y) 1 0) x xs

sum_more : (f : ℕ → ℕ) (a n : ℕ) → sum (map f (range_with_len a (suc n))) ≡ f a + sum (map f (range_with_len (a + 1) n))
sum_more f a n = sum_by-cons (λ x. x) (f a) (map f (range_with_len (a + 1) n))

-- ---- numbers below n are as many as there are of 0, of 1, .., of n - 1

-- one count grows by one: that of x
module _ (f g : ℕ → ℕ) (x : ℕ) (grown : (i : ℕ) → g i ≡ cond (eqb x i) 1 0 + f i) where
  past : (a n : ℕ) → x < a → sum (map g (range_with_len a n)) ≡ sum (map f (range_with_len a n))
  past a zero l = refl
  past a (suc n) l =
      let other : g a ≡ f a = grown a ∙ rw (ne_eqb x a (λ e. omega arith)) (omega arith) in
      omega (arith, sum_more g a n, sum_more f a n, past (a + 1) n (omega arith))

  one_more : (a n : ℕ) → a ≤ x → x < a + n → sum (map g (range_with_len a n)) ≡ suc (sum (map f (range_with_len a n)))
  one_more a zero l h = absurd (omega arith)
  one_more a (suc n) l h =
      let sums : sum (map g (range_with_len a (suc n))) + (f a + sum (map f (range_with_len (a + 1) n)))
      ≡ g a + sum (map g (range_with_len (a + 1) n)) + sum (map f (range_with_len a (suc n))) = omega (arith, sum_more g a n, sum_more f a n) in
      ⊎_elim
      (λ (e : a ≡ x). let own : g a ≡ 1 + f a = grown a ∙ rw (eq-eqb x a (sym e)) refl in omega (arith, past (a + 1) n (omega arith)))
      (λ (b : a < x). let other : g a ≡ f a = grown a ∙ rw (ne_eqb x a (λ e. omega arith)) (omega arith) in omega (arith, one_more (a + 1) n (omega arith) (omega arith)))
      (eq-or-lt_of_le l)

none : (a n : ℕ) → sum (map (λ (i : ℕ). 0) (range_with_len a n)) ≡ 0
none a zero = refl
none a (suc n) = omega (arith, sum_more (λ (i : ℕ). 0) a n, none (a + 1) n)

each_counted : (xs : List ℕ) (n : ℕ) → All (λ x. x < n) xs → sum (map (λ i. count_by (λ x. eqb x i) xs) (range_with_len 0 n)) ≡ length xs
each_counted [] n small = none 0 n
each_counted (x ∷ xs) n small =
    one_more (λ i. count_by (λ y. eqb y i) xs) _ x (λ i. count_cons (λ y. eqb y i) x xs) 0 n (omega arith)
    (omega (arith, All-head (λ y. y < n) x xs small))
    ∙ ap suc (each_counted xs n (All-tail (λ y. y < n) x xs small))

-- ---- the reads of a group, by their symbols

count_is : (reads : Reads) (group symbol : ℕ) → count_of reads group symbol ≡ count_by (λ s. eqb s symbol) (symbols_read reads group)
count_is [] group symbol = refl
count_is (read ∷ reads) group symbol =
    count_cons (is_for group symbol) read reads ∙ one (eqb read.group group) (count_is reads group symbol)
  where
    one : (t : Bool) {c : ℕ} → c ≡ count_by (λ s. eqb s symbol) (symbols_read reads group)
        → cond (t && eqb read.symbol symbol) 1 0 + c
        ≡ count_by (λ s. eqb s symbol) (map (λ r. r.symbol) (cond t (read ∷ filter (λ r. eqb r.group group) reads) (filter (λ r. eqb r.group group) reads)))
    one true e = rw e (sym (count_cons (λ s. eqb s symbol) read.symbol (symbols_read reads group)))
    one false e = omega (arith, e)

pub reads_many : (reads : Reads) (group : ℕ) → SymbolsBelow reads → length (symbols_read reads group) ≡ sum (counts_of reads group)
reads_many reads group small =
    sym (each_counted (symbols_read reads group) MOST_SYMBOLS (All-map (λ s. s < MOST_SYMBOLS) (λ r. r.symbol) _ (All-filter (λ r. eqb r.group group) (λ r. r.symbol < MOST_SYMBOLS) reads small)))
    ∙ ap (λ (f : ℕ → ℕ). sum (map f (range_with_len 0 MOST_SYMBOLS))) (fun_ext (λ i. sym (count_is reads group i)))

pub count_at : (reads : Reads) (group symbol : ℕ) → symbol < MOST_SYMBOLS → get_or (counts_of reads group) symbol 0 ≡ count_of reads group symbol
count_at reads group symbol l = get_or-map-range_with_len (count_of reads group) 0 MOST_SYMBOLS symbol symbol 0 l (omega arith)

-- ---- with at most so many reads in each of m groups, all reads are at most m times as many

of_group : (reads : Reads) (group : ℕ) → count_by (λ g. eqb g group) (map (λ r. r.group) reads) ≡ length (symbols_read reads group)
of_group reads group =
    fold-map (λ a g. a + cond (eqb g group) 1 0) (λ r. r.group) 0 reads
    ∙ sym (length-map (filter (λ r. eqb r.group group) reads) (λ r. r.symbol) ∙ length-filter (λ r. eqb r.group group) reads)

pub reads_most : (reads : Reads) (m most : ℕ) → All (λ read. read.group < m) reads → SymbolsBelow reads
    → ((group : ℕ) → group < m → sum (counts_of reads group) ≤ most) → length reads ≤ m * most
reads_most reads m most below small few =
    let groups : List ℕ = map (λ r. r.group) reads in
    let many : ℕ → ℕ = λ group. count_by (λ g. eqb g group) groups in
    let each : All (λ x. x ≤ most) (map many (range_with_len 0 m)) =
    All-from_get_or (λ x. x ≤ most) (map many (range_with_len 0 m)) 0 (λ k l. let b : k < m = rw (length-map-range_with_len many 0 m) at l in
    rw (get_or-map-range_with_len many 0 m k k 0 b (omega arith)) (omega (arith, few k b, of_group reads k, reads_many reads k small))) in
    let all = each_counted groups m (All-map (λ g. g < m) (λ r. r.group) reads below) in
    let sums = sum_by-le (λ x. x) most (map many (range_with_len 0 m)) each in
    omega (arith, all, length-map reads (λ r. r.group), rw (length-map-range_with_len many 0 m) at sums)
