-- Reads for one symbol of one group: each is counted, after the earlier ones; and there are no two of them where no count is above 1.
use Rattle.std.proofs.Common.{ℕ, suc, ◌≡◌, ◌+◌, ◌≤◌, ◌<◌, Bool, true, false, cond, ltb, List, [], ◌∷◌, length, get_or, take, count_by, refl, sym, ap, ◌∙◌, arith}
use borrow.Author.Tests.{eq-eqb, eqb-true, ltb-true, ltb-false}
use Rattle.std.proofs.lemmas.Bool.{and_parts}
use Rattle.std.proofs.lemmas.List.{take-take, get_or-take, length-take-le, get_or_past}
use Rattle.std.proofs.lemmas.List.Sums.{sum_by_more_le}
use Rattle.simplex.specs.declared.TheConstants.{MOST_SYMBOLS}
use Rattle.layout.specs.declared.PacketName.{PacketName}
use Rattle.reads.specs.Reads.{Reads, no_read, read_at, is_for, count_of, counts_of, CollisionFreeIn}
use Rattle.reads.specs.Laws.{SymbolsBelow}
use Rattle.reads.proofs.Counting.{count_cons, count_at}

-- ---- elements that pass a test, counted

module _ {A : Type 0} (p : A → Bool) (d : A) where
  pub counted : (xs : List A) (n : ℕ) → n < length xs → p (get_or xs n d) ≡ true → count_by p (take n xs) < count_by p xs
  counted xs n l e =
      let most : count_by p (take n xs) + 1 ≤ count_by p xs = rw e at (sum_by_more_le (λ x. cond (p x) 1 0) xs n d l) in omega arith

  counted_before : (xs : List A) (m n : ℕ) → m < n → n ≤ length xs → p (get_or xs m d) ≡ true → count_by p (take m xs) < count_by p (take n xs)
  counted_before xs m n l u e =
      let less : count_by p (take m (take n xs)) < count_by p (take n xs) =
      counted (take n xs) m (rw (length-take-le n xs u) l) (ap p (get_or-take n xs m d l) ∙ e) in
      rw (take-take m n xs (omega arith)) at less

  fails : (t : Bool) → (t ≡ true → ⊥) → t ≡ false
  fails true h = absurd (h refl)
  fails false h = refl

  pub none_counted : (xs : List A) → ((n : ℕ) → n < length xs → p (get_or xs n d) ≡ true → ⊥) → count_by p xs ≡ 0
  none_counted [] none = refl
  none_counted (x ∷ xs) none =
      count_cons p x xs ∙ rw (fails (p x) (none 0 (omega arith)), none_counted xs (λ n l. none (suc n) (omega arith))) refl

  -- where no two pass
  one_counted : (xs : List A) → ((m n : ℕ) → m < n → n < length xs → p (get_or xs m d) ≡ true → p (get_or xs n d) ≡ true → ⊥) → count_by p xs ≤ 1
  one_counted [] apart = omega arith
  one_counted (x ∷ xs) apart = go (p x) refl (one_counted xs (λ m n l u. apart (suc m) (suc n) (omega arith) (omega arith)))
    where
      go : (t : Bool) → p x ≡ t → count_by p xs ≤ 1 → count_by p (x ∷ xs) ≤ 1
      go true e rest =
          let none : count_by p xs ≡ 0 = none_counted xs (λ n l. apart 0 (suc n) (omega arith) (omega arith) e) in
          rw (count_cons p x xs, e, none) (omega arith)
      go false e rest = rw (count_cons p x xs, e) (omega arith)

-- ---- the reads for one symbol of one group

pub for_itself : (read : PacketName) → is_for read.group read.symbol read ≡ true
for_itself read = rw (eq-eqb read.group read.group refl, eq-eqb read.symbol read.symbol refl) refl

pub for_both : (group symbol : ℕ) (read : PacketName) → is_for group symbol read ≡ true → (read.group ≡ group) × (read.symbol ≡ symbol)
for_both group symbol read e = let t = and_parts _ _ e in (eqb-true read.group group t.0, eqb-true read.symbol symbol t.1)

-- read n, of this group, is one of those that are counted for its symbol
pub so_far : (reads : Reads) (group n : ℕ) → SymbolsBelow reads → n < length reads → (read_at reads n).group ≡ group
    → count_of (take n reads) group (read_at reads n).symbol < get_or (counts_of reads group) (read_at reads n).symbol 0
so_far reads group n small l g =
    let symbol = (read_at reads n).symbol in
    let own : is_for group symbol (read_at reads n) ≡ true = rw (eq-eqb _ _ g, eq-eqb symbol _ refl) refl in
    rw (count_at reads group symbol (small n no_read l)) (counted (is_for group symbol) no_read reads n l own)

-- of two reads for one symbol of one group, the later has more of them before it
pub earlier : (reads : Reads) (group symbol m n : ℕ) → m < n → n ≤ length reads → (read_at reads m).group ≡ group → (read_at reads m).symbol ≡ symbol
    → count_of (take m reads) group symbol < count_of (take n reads) group symbol
earlier reads group symbol m n l u g s =
    let own : is_for group symbol (read_at reads m) ≡ true = rw (eq-eqb _ _ g, eq-eqb _ _ s) refl in
    counted_before (is_for group symbol) no_read reads m n l u own

-- ---- no two reads of a group are for the same symbol exactly where no count is above 1

pub at_most_once : (reads : Reads) (group : ℕ) → CollisionFreeIn reads group → (symbol : ℕ) → get_or (counts_of reads group) symbol 0 ≤ 1
at_most_once reads group free symbol = go (ltb symbol MOST_SYMBOLS) refl
  where
    go : (t : Bool) → ltb symbol MOST_SYMBOLS ≡ t → get_or (counts_of reads group) symbol 0 ≤ 1
    go true e =
        rw (count_at reads group symbol (ltb-true symbol MOST_SYMBOLS e))
        (one_counted (is_for group symbol) no_read reads
        (λ m n l u p q.
        let a = for_both group symbol (read_at reads m) p in
        let b = for_both group symbol (read_at reads n) q in free m n l u a.0 b.0 (a.1 ∙ sym b.1)))
    go false e =
        let past : length (counts_of reads group) ≤ symbol = omega (arith, ltb-false symbol MOST_SYMBOLS e) in
        rw (get_or_past (counts_of reads group) symbol 0 past) (omega arith)

pub none_twice : (reads : Reads) (group : ℕ) → SymbolsBelow reads → ((symbol : ℕ) → get_or (counts_of reads group) symbol 0 ≤ 1) → CollisionFreeIn reads group
none_twice reads group small few m n l u at_m at_n same =
    let symbol = (read_at reads n).symbol in
    omega (arith, few symbol, earlier reads group symbol m n l (omega arith) at_m same, so_far reads group n small u at_n)
