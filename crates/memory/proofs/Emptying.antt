-- The rows of a set: when its release is refused, and what its acceptance tells.
use mathlib.Core.Path.{◌≡◌, sym, ap, ◌∙◌, fun_ext}
use mathlib.Core.Logic.{⊎_elim, ◌↔◌}
use mathlib.Core.Bool.{Bool, true, ◌&&◌, ◌||◌, not}
use Prim.Native.Nat.{ℕ, ◌<◌}
use native.Mathlib.Omega.{arith}
use Rattle.std.proofs.lemmas.Bool.{and_parts, or_parts}
use Rattle.std.proofs.lemmas.Bool.Decides.{leb_tells}
use borrow.Author.Tests.{not-true, not-false, lt-ltb}
use lib.Dec.{leb, ltb}
use Rattle.bits.specs.Marks.{marked}
use Rattle.bits.specs.Sets.{set_of, First}
use Rattle.bits.proofs.Marks.{passes_below}
use Rattle.bits.proofs.Sets.{marked_set, first_passes}
use Rattle.std.specs.Prelude.{Option, Some, None}
use Rattle.refusals.specs.declared.Refusal.{Refusal}
use Rattle.refusals.specs.Verdict.{Verdict, Accepted, reason_of, refusal_of, refused, check, ◌then◌}
use Rattle.refusals.proofs.Verdicts.{checks, check_passed, check_refused, stops, all_accepted, accepted_all, first_refused, first_same, then_refused}
use Rattle.layout.specs.declared.TheConstants.{MOST_ROWS}
use Rattle.layout.specs.declared.occupancy.Rows.{Rows}
use Rattle.layout.specs.Occupancy.{is_full}
use Rattle.memory.specs.declared.State.{State}
use Rattle.memory.specs.State.{Sound}
use Rattle.memory.specs.Operations.{state_refusal, each_row, release_set_refusal}
use Rattle.memory.specs.Laws.{FirstRow, NoRow, RightReleaseSet}
use Rattle.memory.proofs.States.{sound_words, words_sound}

-- ---- a check of each row of a set

module _ (number set : ℕ) (test : ℕ → Bool) where
  abbrev judged : ℕ → Verdict
  judged r = check number r (not (marked set r) || test r)

  passed : (r : ℕ) → (marked set r ≡ true → test r ≡ true) → judged r ≡ Accepted
  passed r h = grind (arith, h)

  passing : (r : ℕ) → judged r ≡ Accepted → marked set r ≡ true → test r ≡ true
  passing r e m = rw m at (check_passed number r _ e)

  -- the first row of the set that does not pass settles it
  row_refused : (r : ℕ) → FirstRow set (λ i. not (test i)) r → each_row number set test ≡ refused number r
  unfolding each_row
  row_refused r f =
      stops judged MOST_ROWS r (refusal_of number r) f.below (accepted_all judged r (λ i l. passed i (λ m. not-false _ (f.before i l m))))
      (rw (f.in_set, not-true (test r) f.passes))

  refused_row : (n r : ℕ) → each_row number set test ≡ refused n r → (reason_of number ≡ reason_of n) × FirstRow set (λ i. not (test i)) r
  unfolding each_row
  refused_row n r e =
      let own : Refusal = refusal_of n r in
      let t = first_refused judged MOST_ROWS own e in
      let c = check_refused number t.0 _ own t.2 in
      let f = or_parts (not (marked set t.0)) (test t.0) c.2 in (
        c.0,
        rw (← c.1) (record {
          below = t.1;
          in_set = not-false _ f.0;
          passes = rw f.1;
          before = λ i l m. rw (passing i (t.3 i l) m);
        }),
      )

  rows_accepted : ((r : ℕ) → r < MOST_ROWS → marked set r ≡ true → test r ≡ true) → each_row number set test ≡ Accepted
  unfolding each_row
  rows_accepted h = accepted_all judged MOST_ROWS (λ r l. passed r (h r l))

  accepted_rows : each_row number set test ≡ Accepted → (r : ℕ) → r < MOST_ROWS → marked set r ≡ true → test r ≡ true
  unfolding each_row
  accepted_rows e r l = passing r (all_accepted judged MOST_ROWS e r l)

  -- as the code finds it
  found_row : (r : ℕ) → First (λ i. marked set i && not (test i)) MOST_ROWS (Some r) → FirstRow set (λ i. not (test i)) r
  found_row r f =
      let it = and_parts (marked set r) (not (test r)) f.itself in
      record { below = f.below; in_set = it.0; passes = it.1; before = λ i b m. rw m at (f.before i b) }

  found_none : First (λ i. marked set i && not (test i)) MOST_ROWS None → (r : ℕ) → r < MOST_ROWS → marked set r ≡ true → test r ≡ true
  found_none f r l m = not-false (test r) (rw m at (f r l))

-- by the first row of the set that is not in another
module _ (number set within left : ℕ) (e : left ≡ set_of (λ i. marked set i && not (marked within i)) MOST_ROWS) where
  found : (r : Option ℕ) → First (marked left) MOST_ROWS r → First (λ i. marked set i && not (marked within i)) MOST_ROWS r
  found r f = first_passes _ MOST_ROWS r (rw (← e) f)

  pub refused_by_first : (r : ℕ) → First (marked left) MOST_ROWS (Some r) → each_row number set (marked within) ≡ refused number r
  refused_by_first r f = row_refused number set (marked within) r (found_row number set (marked within) r (found (Some r) f))

  pub accepted_by_first : First (marked left) MOST_ROWS None → each_row number set (marked within) ≡ Accepted
  accepted_by_first f = rows_accepted number set (marked within) (found_none number set (marked within) (found None f))

-- the rows below G, and the full rows: as the code has them, in sets
pub there_by_set : (state : State) (set : ℕ) → release_set_refusal state set
    ≡ state_refusal state then each_row 7 set (marked (set_of (λ i. ltb i state.shape.g) MOST_ROWS)) then each_row 9 set (is_full state.rows)
unfolding release_set_refusal each_row
there_by_set state set =
    rw (first_same (judged 7 set (marked (set_of (λ i. ltb i state.shape.g) MOST_ROWS))) (judged 7 set (λ i. ltb i state.shape.g)) MOST_ROWS
    (λ r l. rw (marked_set (λ i. ltb i state.shape.g) MOST_ROWS r l)))

pub full_by_set : (set full : ℕ) (rows : Rows) → ((r : ℕ) → marked full r ≡ is_full rows r)
    → each_row 9 set (is_full rows) ≡ each_row 9 set (marked full)
full_by_set set full rows same = ap (λ (f : ℕ → Bool). each_row 9 set f) (fun_ext (λ r. sym (same r)))

-- ---- an accepted release

pub set_facts : (state : State) (set : ℕ) → release_set_refusal state set ≡ Accepted → RightReleaseSet state set
unfolding release_set_refusal
set_facts state set e =
    let rows : each_row 9 set (is_full state.rows) ≡ Accepted = search checks in
    record { sound = search (checks, sound_words); full = accepted_rows 9 set (is_full state.rows) rows }

-- a full row is below G
pub full_below : (state : State) → Sound state → (r : ℕ) → is_full state.rows r ≡ true → r < state.shape.g
full_below state s = passes_below (is_full state.rows) state.shape.g s.rows

pub facts_set : (state : State) (set : ℕ) → RightReleaseSet state set → release_set_refusal state set ≡ Accepted
unfolding release_set_refusal
facts_set state set w = rw (
  words_sound state w.sound,
  rows_accepted 7 set (λ r. ltb r state.shape.g) (λ r l m. lt-ltb _ _ (full_below state w.sound r (w.full r l m))),
  rows_accepted 9 set (is_full state.rows) w.full,
)

-- ---- a refused one

-- 7's test, the one way and the other
past_test : (g i : ℕ) → not (ltb i g) ≡ leb g i
past_test g i = grind (arith, leb_tells)

first_alike : (set r : ℕ) (f g : ℕ → Bool) → ((i : ℕ) → f i ≡ g i) → FirstRow set f r → FirstRow set g r
first_alike set r f g same w = record {
  below = w.below;
  in_set = w.in_set;
  passes = sym (same r) ∙ w.passes;
  before = λ i l m. sym (same i) ∙ w.before i l m;
}

module _ (state : State) (set r : ℕ) (s : Sound state) where
  abbrev below : ℕ → Bool
  below i = ltb i state.shape.g

  abbrev past : ℕ → Bool
  past i = leb state.shape.g i

  pub seven : (release_set_refusal state set ≡ refused 7 r) ↔ FirstRow set past r
  unfolding release_set_refusal
  seven = (
    λ e. ⊎_elim (λ a. first_alike set r _ _ (past_test state.shape.g) (refused_row 7 set below 7 r a).1)
        (λ b. let wrong : reason_of 9 ≡ reason_of 7 = (refused_row 9 set (is_full state.rows) 7 r b.1).0 in cc)
        (then_refused _ (each_row 9 set (is_full state.rows)) (refusal_of 7 r) (rw (words_sound state s) at e)),
    λ f. rw (words_sound state s, row_refused 7 set below r (first_alike set r _ _ (λ i. sym (past_test state.shape.g i)) f)),
  )

  pub nine : (release_set_refusal state set ≡ refused 9 r) ↔ (NoRow set past × FirstRow set (λ i. not (is_full state.rows i)) r)
  unfolding release_set_refusal
  nine = (
    λ e. ⊎_elim (λ a. let wrong : reason_of 7 ≡ reason_of 9 = (refused_row 7 set below 9 r a).0 in cc)
        (λ b. (λ i l m. sym (past_test state.shape.g i) ∙ rw (accepted_rows 7 set below b.0 i l m), (refused_row 9 set (is_full state.rows) 9 r b.1).1))
        (then_refused _ (each_row 9 set (is_full state.rows)) (refusal_of 9 r) (rw (words_sound state s) at e)),
    λ f. rw (
      words_sound state s,
      rows_accepted 7 set below (λ i l m. not-false _ (past_test state.shape.g i ∙ f.0 i l m)),
      row_refused 9 set (is_full state.rows) r f.1,
    ),
  )
