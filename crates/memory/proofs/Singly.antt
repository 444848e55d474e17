-- Single releases of the rows of a set: in any order they are accepted, and end where the set's release ends.
use mathlib.Core.Path.{◌≡◌, refl, sym, ap, ◌∙◌}
use mathlib.Core.Logic.{◌≢◌, ⊎_elim, ◌↔◌}
use mathlib.Core.Bool.{Bool, true, false, cond, ◌&&◌, not, false≢true}
use mathlib.Core.List.{List, [], ◌∷◌}
use Prim.Native.Nat.{ℕ, zero, suc, ◌^◌, ◌≤◌, ◌<◌}
use native.Mathlib.Nat.{eq-or-lt_of_le, le_of_suc-le-suc}
use native.Mathlib.Omega.{arith}
use Rattle.std.proofs.Math.Bool.{and-true}
use Rattle.std.proofs.lemmas.Bool.{cases_eq, cases_lt}
use borrow.Author.Tests.{not-true, eq-eqb, ne_eqb, lt-ltb}
use lib.Dec.{eqb}
use Rattle.bits.specs.Marks.{marked}
use Rattle.bits.proofs.Bits.{below_power}
use Rattle.bits.proofs.Marks.{passes_below, unmarked, bit_mark}
use Rattle.bits.proofs.Sets.{lt_none}
use Rattle.std.specs.Prelude.{Ok}
use Rattle.refusals.specs.Verdict.{Accepted}
use Rattle.refusals.specs.declared.Answer.TheVariants.{FullRows}
use Rattle.layout.specs.declared.TheConstants.{MOST_ROWS}
use Rattle.layout.specs.declared.occupancy.Rows.{Rows}
use Rattle.layout.specs.Occupancy.{is_full, without, EmptyFrom}
use Rattle.layout.proofs.FullRows.{alike, cleared}
use Rattle.memory.specs.declared.State.{State}
use Rattle.memory.specs.State.{full_rows, Sound, with_rows, row_emptied, rows_emptied}
use Rattle.memory.specs.Operations.{outcome_by, release_refusal, release_outcome, release_set_refusal, release_set_outcome}
use Rattle.memory.specs.Laws.{Emptied, times_in, Names, ReleasedSingly}
use Rattle.memory.proofs.States.{words_sound, none_past, emptied_sound, one_fewer, set_sound, set_count}
use Rattle.memory.proofs.Lawful.Release.{release_facts}
use Rattle.memory.proofs.Emptying.{full_below, set_facts, facts_set}

-- ---- a list of rows

-- each row stands in the list once where it passes a test, and else not
abbrev Listed : (test : ℕ → Bool) → List ℕ → Type 0
Listed test rows = (r : ℕ) → times_in r rows ≡ cond (test r) 1 0

-- the rows of a test but one
abbrev but : (row : ℕ) → (test : ℕ → Bool) → ℕ → Bool
but row test r = not (eqb r row) && test r

times_itself : (row : ℕ) (rows : List ℕ) → times_in row (row ∷ rows) ≡ suc (times_in row rows)
times_itself row rows = rw (eq-eqb row row refl) (omega arith)

times_other : (row r : ℕ) (rows : List ℕ) → r ≢ row → times_in r (row ∷ rows) ≡ times_in r rows
times_other row r rows n = rw (ne_eqb row r (λ e. n (sym e))) (omega arith)

module _ (test : ℕ → Bool) (row : ℕ) (rows : List ℕ) (names : Listed test (row ∷ rows)) where
  first_passes : test row ≡ true
  first_passes = grind (arith, times_itself row rows, names row)

  rest_named : Listed (but row test) rows
  rest_named r =
      ⊎_elim
      (λ (e : r ≡ row). let once : suc (times_in row rows) ≡ 1 = sym (times_itself row rows) ∙ names row ∙ rw first_passes in
      rw (e, eq-eqb row row refl) (omega arith))
      (λ n. rw (ne_eqb r row n) (sym (times_other row r rows n) ∙ names r))
      (cases_eq r row)

-- ---- released one by one

released_by : (state : State) (row : ℕ) → Sound state → is_full state.rows row ≡ true → release_refusal state row ≡ Accepted
unfolding release_refusal
released_by state row s on = rw (words_sound state s, lt-ltb _ _ (full_below state s row on), on)

-- the rows of a list are those that were full and are not so afterwards
in_turn : (rows : List ℕ) (state : State) (after : Rows) (test : ℕ → Bool) → Sound state → EmptyFrom after MOST_ROWS
    → ((r : ℕ) → test r ≡ true → is_full state.rows r ≡ true) → ((r : ℕ) → is_full after r ≡ (is_full state.rows r && not (test r)))
    → Listed test rows → ReleasedSingly state rows (with_rows state after)
in_turn [] state after test s past full left names =
    ap (with_rows state) (alike state.rows after (none_past state s) past (λ r. kept (is_full state.rows r) (test r) (names r) ∙ sym (left r)))
  where
    kept : (f t : Bool) → ◌≡◌ {A = ℕ} 0 (cond t 1 0) → f ≡ (f && not t)
    kept f t e = grind (arith, e)
in_turn (row ∷ rows) state after test s past full left names =
    let on = full row (first_passes test row rows names) in
    let below = full_below state s row on in
    let yes = released_by state row s on in
    let out = one_fewer state s row below on in (
      yes,
      rw yes (in_turn rows (row_emptied state row) after (but row test) (emptied_sound state s row below) past
          (λ r. ⊎_elim (λ (e : r ≡ row). rw (e, eq-eqb row row refl) (λ f. absurd (false≢true f)))
          (λ n. rw (ne_eqb r row n, ← out.others r n) (full r)) (cases_eq r row))
          (λ r. ⊎_elim (λ (e : r ≡ row). rw e (left row ∙ rw (first_passes test row rows names, on, not-true _ out.empty)))
          (λ n. rw (ne_eqb r row n, ← out.others r n) (left r)) (cases_eq r row))
          (rest_named test row rows names)),
    )

-- whatever was released was full
were_full : (rows : List ℕ) (state after : State) → ReleasedSingly state rows after → (r : ℕ) → 1 ≤ times_in r rows → is_full state.rows r ≡ true
were_full [] state after h r l = absurd (omega arith)
were_full (row ∷ rows) state after h r l =
    let w = release_facts state row h.0 in
    ⊎_elim (λ e. rw e w.full)
    (λ n. (one_fewer state w.sound row w.below w.full).others r n
    ∙ were_full rows (row_emptied state row) after (rw h.0 at h.1) r (omega (arith, l, times_other row r rows n)))
    (cases_eq r row)

-- and one list of releases ends in one state
one_end : (rows : List ℕ) (state a b : State) → ReleasedSingly state rows a → ReleasedSingly state rows b → a ≡ b
one_end [] state a b x y = sym x ∙ y
one_end (row ∷ rows) state a b x y = one_end rows (release_outcome state row).state a b x.1 y.1

-- ---- the laws

module _ (state : State) (s : Sound state) (set : ℕ) where
  set_past : EmptyFrom (without state.rows set) MOST_ROWS
  set_past = none_past (rows_emptied state set) (set_sound state s set)

  set_left : (r : ℕ) → is_full (without state.rows set) r ≡ (is_full state.rows r && not (marked set r))
  set_left = cleared state.rows (none_past state s) set

  in_set_turn : (rows : List ℕ) → ((r : ℕ) → marked set r ≡ true → is_full state.rows r ≡ true) → Listed (marked set) rows
      → ReleasedSingly state rows (rows_emptied state set)
  in_set_turn rows full = in_turn rows state (without state.rows set) (marked set) s set_past full set_left

module _ (state : State) (set : ℕ) (h : set < 2 ^ MOST_ROWS) (yes : release_set_refusal state set ≡ Accepted) where
  whole : Sound state
  whole = (set_facts state set yes).sound

  all_full : (r : ℕ) → marked set r ≡ true → is_full state.rows r ≡ true
  all_full r e = (set_facts state set yes).full r (passes_below (marked set) MOST_ROWS (lt_none set MOST_ROWS h) r e) e

  pub set_released_lem : Emptied set state (release_set_outcome state set).state
  set_released_lem = rw yes (record {
    shape = refl;
    full = all_full;
    empty = λ r e. let off : is_full (without state.rows set) r ≡ false = set_left state whole set r ∙ rw (e, all_full r e) in ap not off;
    others = λ r e. set_left state whole set r ∙ rw e (and-true (is_full state.rows r));
    count = set_count state whole set (λ r _. all_full r);
  })

  each_accepted : (rows : List ℕ) → Names set rows → ReleasedSingly state rows (release_set_outcome state set).state
  each_accepted rows names = rw yes (in_set_turn state whole set rows all_full (λ r. names r ∙ bit_mark set r))

pub singly : (state after : State) (set : ℕ) (rows : List ℕ) → Sound state → set < 2 ^ MOST_ROWS → Names set rows
    → ReleasedSingly state rows after ↔ ((release_set_refusal state set ≡ Accepted) × ((release_set_outcome state set).state ≡ after))
singly state after set rows s h names = (
  λ released. let yes = facts_set state set (record { sound = s; full = λ r _ e. were_full rows state after released r (once r e) }) in
      (yes, one_end rows state (release_set_outcome state set).state after (each_accepted state set h yes rows names) released),
  λ accepted. rw accepted.1 at (each_accepted state set h accepted.0 rows names),
)
  where
    once : (r : ℕ) → marked set r ≡ true → 1 ≤ times_in r rows
    once r e = let it : times_in r rows ≡ 1 = names r ∙ bit_mark set r ∙ rw e in omega (arith, it)

pub empty_set_lem : (state : State) → Sound state → release_set_outcome state 0 ≡ record { state = state; answer = Ok (FullRows (full_rows state)) }
empty_set_lem state s =
    let full : (r : ℕ) → marked 0 r ≡ true → is_full state.rows r ≡ true = λ r e. absurd (false≢true (sym (unmarked r) ∙ e)) in
    rw (facts_set state 0 (record { sound = s; full = λ r _. full r }))
    (ap (λ (made : State). outcome_by state made Accepted) (sym (in_set_turn state s 0 [] full (λ r. rw (unmarked r)))))

-- ---- the rows of a set in a list

rows_of : (set n : ℕ) → List ℕ
rows_of set zero = []
rows_of set (suc n) = cond (marked set n) (n ∷ rows_of set n) (rows_of set n)

none_listed : (set n r : ℕ) → n ≤ r → times_in r (rows_of set n) ≡ 0
unfolding rows_of
none_listed set zero r l = refl
none_listed set (suc n) r l = go (none_listed set n r (omega arith)) (marked set n)
  where
    go : times_in r (rows_of set n) ≡ 0 → (t : Bool) → times_in r (cond t (n ∷ rows_of set n) (rows_of set n)) ≡ 0
    go none true = times_other n r (rows_of set n) (λ e. omega arith) ∙ none
    go none false = none

each_once : (set n r : ℕ) → r < n → times_in r (rows_of set n) ≡ cond (marked set r) 1 0
unfolding rows_of
each_once set zero r l = absurd (omega arith)
each_once set (suc n) r l =
    ⊎_elim (λ (e : r ≡ n). rw e (last (marked set n))) (λ (b : r < n). before b (each_once set n r b) (marked set n)) (eq-or-lt_of_le (le_of_suc-le-suc l))
  where
    last : (t : Bool) → times_in n (cond t (n ∷ rows_of set n) (rows_of set n)) ≡ cond t 1 0
    last true = times_itself n (rows_of set n) ∙ ap suc (none_listed set n n (omega arith))
    last false = none_listed set n n (omega arith)

    before : r < n → times_in r (rows_of set n) ≡ cond (marked set r) 1 0
        → (t : Bool) → times_in r (cond t (n ∷ rows_of set n) (rows_of set n)) ≡ cond (marked set r) 1 0
    before b once true = times_other n r (rows_of set n) (λ e. omega arith) ∙ once
    before b once false = once

pub some_list : (set : ℕ) → (rows : List ℕ) × Names set rows
some_list set = (
  rows_of set set,
  λ r. ⊎_elim (each_once set set r) (λ past. rw (lt_none set set (below_power set) r past) (none_listed set set r past)) (cases_lt r set)
      ∙ sym (bit_mark set r),
)
