-- "Not broken", as a test and in words; and a state with one row made full or empty, or each row of a set.
use mathlib.Core.Path.{◌≡◌, refl, sym, ap, ◌∙◌}
use mathlib.Core.Bool.{true, false, not}
use Prim.Native.Nat.{ℕ, ◌+◌, ◌<◌}
use native.Mathlib.Omega.{arith}
use borrow.Author.Tests.{eqb-true, ltb-true, not-true, eq-eqb, ne_eqb}
use Rattle.std.proofs.lemmas.Bool.{and_parts}
use Rattle.std.specs.Prelude.{Err}
use Rattle.bits.specs.Marks.{marked, how_many}
use Rattle.refusals.specs.Verdict.{Verdict, Accepted, answer_by}
use Rattle.refusals.proofs.Verdicts.{checks, ok_accepted}
use Rattle.layout.specs.declared.TheConstants.{MOST_ROWS}
use Rattle.layout.specs.Shape.{store_size}
use Rattle.layout.specs.Occupancy.{is_full, is_empty, with_empty, EmptyFrom}
use Rattle.layout.proofs.Ranges.{range_words, words_range}
use Rattle.layout.proofs.FullRows.{none_full, full_none, filled, emptied, cleared, one_filled, one_emptied, set_emptied}
use Rattle.memory.specs.declared.State.{State}
use Rattle.memory.specs.State.{full_rows, sound, Sound, row_filled, row_emptied, rows_emptied}
use Rattle.memory.specs.Operations.{outcome_by, outcome_after, store_refusal}
use Rattle.memory.specs.Laws.{OneMore}

pub words_sound : (state : State) → Sound state → sound state ≡ true
unfolding sound
words_sound state w = rw (words_range state.shape w.ranges, full_none state.rows state.shape.g w.rows)

pub sound_words : (state : State) → sound state ≡ true → Sound state
unfolding sound
sound_words state e =
    let t = and_parts _ _ e in
    record { ranges = range_words state.shape (ok_accepted _ t.0); rows = none_full state.rows state.shape.g t.1 }

-- what the checks of an accepted operation tell
pub ruleset tests = (checks, eqb-true, ltb-true)

-- where a store is lent
pub store_facts : (state : State) (size : ℕ) → store_refusal state size ≡ Accepted → (sound state ≡ true) × (size ≡ store_size state.shape)
store_facts state size e = search tests

-- what an operation gives, by the state that it makes or by its refusal
pub outcome : (before made : State) (v : Verdict) → outcome_after before (answer_by made v) ≡ outcome_by before made v
outcome before made Accepted = refl
outcome before made (Err refusal) = refl

module _ (state : State) (s : Sound state) where
  pub none_past : EmptyFrom state.rows MOST_ROWS
  none_past = λ row l. s.rows row (omega (arith, s.ranges.rows.1))

  module _ (row : ℕ) (below : row < state.shape.g) where
    there : row < MOST_ROWS
    there = omega (arith, s.ranges.rows.1)

    pub filled_sound : Sound (row_filled state row)
    filled_sound = record { ranges = s.ranges; rows = λ r l. filled state.rows none_past row there r ∙ rw (ne_eqb r row (λ e. omega arith)) (s.rows r l) }

    pub emptied_sound : Sound (row_emptied state row)
    emptied_sound = record { ranges = s.ranges; rows = λ r l. emptied state.rows none_past row there r ∙ rw (ne_eqb r row (λ e. omega arith)) (s.rows r l) }

    pub one_more : is_empty state.rows row ≡ true → OneMore row state (row_filled state row)
    one_more off = record {
      shape = refl;
      empty = off;
      full = filled state.rows none_past row there row ∙ rw (eq-eqb row row refl);
      others = λ r n. filled state.rows none_past row there r ∙ rw (ne_eqb r row n);
      count = one_filled state.rows none_past MOST_ROWS (omega arith) row there (not-true _ off);
    }

    pub one_fewer : is_full state.rows row ≡ true → OneMore row (row_emptied state row) state
    one_fewer on = record {
      shape = refl;
      empty = let off : is_full (with_empty state.rows row) row ≡ false = emptied state.rows none_past row there row ∙ rw (eq-eqb row row refl) in ap not off;
      full = on;
      others = λ r n. sym (emptied state.rows none_past row there r ∙ rw (ne_eqb r row n));
      count = one_emptied state.rows none_past MOST_ROWS (omega arith) row there on;
    }

  module _ (set : ℕ) where
    pub set_sound : Sound (rows_emptied state set)
    set_sound = record { ranges = s.ranges; rows = λ r l. cleared state.rows none_past set r ∙ rw (s.rows r l) }

    pub set_count : ((r : ℕ) → r < MOST_ROWS → marked set r ≡ true → is_full state.rows r ≡ true)
        → full_rows (rows_emptied state set) + how_many (marked set) MOST_ROWS ≡ full_rows state
    set_count = set_emptied state.rows none_past MOST_ROWS (omega arith) set
