-- A release: accepted, its row is empty.
use mathlib.Core.Path.{◌≡◌, refl, sym, ◌∙◌}
use mathlib.Core.Bool.{false, cond}
use Prim.Native.Nat.{ℕ}
use native.Mathlib.Omega.{arith}
use borrow.Author.Tests.{not-true, lt-ltb, le-ltb}
use Rattle.refusals.specs.Verdict.{Accepted}
use Rattle.memory.specs.declared.State.{State}
use Rattle.memory.specs.State.{Sound, row_emptied}
use Rattle.memory.specs.Operations.{release_checks, release_refusal}
use Rattle.memory.specs.Meaning.{release, meaning_of}
use Rattle.memory.specs.Laws.{RightRelease, WrongRelease}
use Rattle.memory.proofs.States.{tests, sound_words, words_sound, emptied_sound, one_fewer}
use Rattle.memory.specs.History.{RowAgrees}
use Rattle.memory.proofs.Lawful.{Lawful, empty_row, at_row, unlent, tests_state, same, lawful_by}

-- ---- when it is accepted, and what refuses it

pub release_facts : (state : State) (row : ℕ) → release_refusal state row ≡ Accepted → RightRelease state row
unfolding release_refusal
release_facts state row e = search (tests, sound_words)

pub facts_release : (state : State) (row : ℕ) → RightRelease state row → release_refusal state row ≡ Accepted
unfolding release_refusal
facts_release state row w = rw (words_sound state w.sound, lt-ltb _ _ w.below, w.full)

pub wrong_release : (state : State) (row : ℕ) → Sound state → WrongRelease state row (release_refusal state row)
unfolding release_refusal
wrong_release state row w = record {
  seven = λ e. rw (words_sound state w, le-ltb _ _ e);
  nine = λ r e. rw (words_sound state w, lt-ltb _ _ r, not-true _ e);
}

-- ---- what it leaves

pub release_lawful : (row : ℕ) → Lawful (meaning_of (release row))
unfolding release_refusal
release_lawful row =
    lawful_by (meaning_of (release row)) unlent (λ shape full. release_checks shape full row) (λ memory. row_emptied memory.state row) (λ memory. memory.store) (record {
      tests = tests_state;
      outcome = λ memory. refl;
      store = λ memory. same memory.store _;
      verdict = λ shape known. refl;
      accepted = λ known memory k e.
          let w = release_facts memory.state row e in
          let fewer = one_fewer memory.state k.sound row w.below w.full in
          record {
            count = omega (arith, fewer.count);
            agrees = record {
              of_shape = refl;
              sound = emptied_sound memory.state k.sound row w.below;
              size = k.size;
              rows = at_row row
                  (λ r t. RowAgrees memory.state.shape (record { state = row_emptied memory.state row; store = memory.store }) r (cond t false (known.full r))
                  (known.last r))
                  (empty_row (not-true _ fewer.empty))
                  (λ r n. let before = k.rows r in record { mark = sym (fewer.others r n) ∙ before.mark; whole = before.whole; cells = before.cells });
            };
          };
    })
