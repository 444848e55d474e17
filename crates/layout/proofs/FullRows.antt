-- One row made full or empty, and each row of a set made empty: which rows are full then, and how many.
use mathlib.Core.Path.{◌≡◌, refl, sym, ap, ◌∙◌}
use mathlib.Core.Logic.{⊎_elim}
use mathlib.Core.Bool.{Bool, true, false, not, ◌&&◌, ◌||◌}
use Prim.Native.Nat.{ℕ, zero, suc, ◌+◌, ◌≤◌, ◌<◌}
use native.Mathlib.Omega.{arith}
use borrow.Author.Tests.{eq-eqb, ne_eqb}
use lib.Dec.{eqb}
use Rattle.std.proofs.lemmas.Bool.{cases_lt}
use Rattle.bits.specs.Marks.{marked, how_many}
use Rattle.bits.specs.Sets.{set_of}
use Rattle.bits.proofs.Marks.{none_marked, marked_none, unmarked, one_more, none_more, many_without, same_many}
use Rattle.bits.proofs.Sets.{marked_set, marked_past, only_set, none_lt}
use Rattle.layout.specs.declared.TheConstants.{MOST_ROWS}
use Rattle.layout.specs.declared.occupancy.Rows.{Rows}
use Rattle.layout.specs.Occupancy.{is_full, all_empty, with_full, with_empty, without, full_count, none_from, EmptyFrom}

pub none_full : (rows : Rows) (g : ℕ) → none_from rows g ≡ true → EmptyFrom rows g
none_full rows g = none_marked rows.full g

pub full_none : (rows : Rows) (g : ℕ) → EmptyFrom rows g → none_from rows g ≡ true
full_none rows g = marked_none rows.full g

pub empty_all : (row : ℕ) → is_full all_empty row ≡ false
empty_all = unmarked

-- so none is counted
pub none_counted : (g : ℕ) → full_count all_empty g ≡ 0
none_counted zero = refl
none_counted (suc g) = rw (none_counted g, empty_all g)

-- a set by a test that fails from 64 on has each number that passes
passing : (test : ℕ → Bool) → ((r : ℕ) → MOST_ROWS ≤ r → test r ≡ false) → (r : ℕ) → marked (set_of test MOST_ROWS) r ≡ test r
passing test past r =
    ⊎_elim (marked_set test MOST_ROWS r) (λ l. marked_past test MOST_ROWS r l ∙ sym (past r l)) (cases_lt r MOST_ROWS)

-- rows are known by which of them are full
pub alike : (a b : Rows) → EmptyFrom a MOST_ROWS → EmptyFrom b MOST_ROWS → ((r : ℕ) → is_full a r ≡ is_full b r) → a ≡ b
alike a b none_a none_b same =
    ap (λ (n : ℕ). let rows : Rows = record { full = n } in rows)
    (only_set (is_full b) MOST_ROWS a.full (none_lt a.full MOST_ROWS none_a) (λ r _. same r)
    ∙ sym (only_set (is_full b) MOST_ROWS b.full (none_lt b.full MOST_ROWS none_b) (λ r _. refl)))

module _ (rows : Rows) (none : EmptyFrom rows MOST_ROWS) where
  module _ (row : ℕ) (there : row < MOST_ROWS) where
    pub filled : (r : ℕ) → is_full (with_full rows row) r ≡ (eqb r row || is_full rows r)
    filled = passing _ (λ r l. rw (ne_eqb r row (λ e. omega arith)) (none r l))

    pub emptied : (r : ℕ) → is_full (with_empty rows row) r ≡ (not (eqb r row) && is_full rows r)
    emptied = passing _ (λ r l. rw (ne_eqb r row (λ e. omega arith)) (none r l))

  pub cleared : (set r : ℕ) → is_full (without rows set) r ≡ (is_full rows r && not (marked set r))
  cleared set = passing _ (λ r l. rw (none r l))

  -- the count of full rows below g
  module _ (g : ℕ) (fits : g ≤ MOST_ROWS) where
    pub one_filled : (row : ℕ) → row < g → is_full rows row ≡ false → full_count (with_full rows row) g ≡ suc (full_count rows g)
    one_filled row l off =
        one_more (is_full rows) (is_full (with_full rows row)) row g l off
        (filled row (omega arith) row ∙ rw (eq-eqb row row refl))
        (λ r n. filled row (omega arith) r ∙ rw (ne_eqb r row n))

    pub one_emptied : (row : ℕ) → row < g → is_full rows row ≡ true → full_count rows g ≡ suc (full_count (with_empty rows row) g)
    one_emptied row l on =
        one_more (is_full (with_empty rows row)) (is_full rows) row g l
        (emptied row (omega arith) row ∙ rw (eq-eqb row row refl)) on
        (λ r n. sym (emptied row (omega arith) r ∙ rw (ne_eqb r row n)))

    pub set_emptied : (set : ℕ) → ((r : ℕ) → r < g → marked set r ≡ true → is_full rows r ≡ true)
        → full_count (without rows set) g + how_many (marked set) g ≡ full_count rows g
    set_emptied set full =
        rw (same_many (is_full (without rows set)) (λ r. is_full rows r && not (marked set r)) g (λ r _. cleared set r))
        (many_without (is_full rows) (marked set) g full)

-- counted among all the rows that a memory may have
pub all_counted : (rows : Rows) (g : ℕ) → g ≤ MOST_ROWS → EmptyFrom rows g → full_count rows MOST_ROWS ≡ full_count rows g
all_counted rows g fits none = none_more (is_full rows) g MOST_ROWS fits none
