-- A write: accepted, its row is full and holds its generation.
use mathlib.Core.Path.{◌≡◌, refl, ◌∙◌}
use mathlib.Core.Bool.{true, cond, not}
use mathlib.Core.List.{List}
use Prim.Native.Nat.{ℕ}
use native.Mathlib.Omega.{arith}
use lib.ListN.{length}
use borrow.Author.Tests.{eq-eqb, ne_eqb, lt-ltb, le-ltb}
use Rattle.refusals.specs.Verdict.{Accepted}
use Rattle.rows.specs.Rows.{row_written}
use Rattle.rows.proofs.Writing.{row_written_lem, other_rows}
use Rattle.memory.specs.declared.State.{State}
use Rattle.memory.specs.State.{Sound, row_filled}
use Rattle.memory.specs.Operations.{write_checks, write_refusal}
use Rattle.memory.specs.Meaning.{write, meaning_of}
use Rattle.memory.specs.Laws.{RightWrite, WrongWrite}
use Rattle.memory.proofs.States.{tests, sound_words, words_sound, filled_sound, one_more}
use Rattle.memory.specs.History.{RowAgrees}
use Rattle.memory.proofs.Lawful.{Lawful, at_row, lent, tests_store, lawful_by}

-- ---- when it is accepted, and what refuses it

pub write_facts : (state : State) (size row len : ℕ) → write_refusal state size row len ≡ Accepted → RightWrite state size row len
unfolding write_refusal
write_facts state size row len e = search (tests, sound_words)

pub facts_write : (state : State) (size row len : ℕ) → RightWrite state size row len → write_refusal state size row len ≡ Accepted
unfolding write_refusal
facts_write state size row len w = rw (words_sound state w.sound, eq-eqb _ _ w.store, lt-ltb _ _ w.below, w.empty, eq-eqb _ _ w.whole)

pub wrong_write : (state : State) (size row len : ℕ) → Sound state → WrongWrite state size row len (write_refusal state size row len)
unfolding write_refusal
wrong_write state size row len w = record {
  six = λ e. rw (words_sound state w, ne_eqb _ _ e);
  seven = λ s e. rw (words_sound state w, eq-eqb _ _ s, le-ltb _ _ e);
  eight = λ s r e. rw (words_sound state w, eq-eqb _ _ s, lt-ltb _ _ r, e);
  ten = λ s r f e. rw (words_sound state w, eq-eqb _ _ s, lt-ltb _ _ r, f, ne_eqb _ _ e);
}

-- ---- what it leaves

pub write_lawful : (row : ℕ) (generation : List ℕ) → Lawful (meaning_of (write row generation))
unfolding write_refusal
write_lawful row generation =
    lawful_by (meaning_of (write row generation)) lent (λ shape full. write_checks shape (λ r. not (full r)) row (length generation))
    (λ memory. row_filled memory.state row) (λ memory. row_written memory.state.shape row generation memory.store) (record {
      tests = tests_store;
      outcome = λ memory. refl;
      store = λ memory. refl;
      verdict = λ shape known. refl;
      accepted = λ known memory k e.
          let shape = memory.state.shape in
          let w = write_facts memory.state (length memory.store) row (length generation) e in
          let put = row_written_lem shape row generation memory.store w.below k.size w.whole in
          let more = one_more memory.state k.sound row w.below w.empty in
          record {
            count = omega (arith, more.count);
            agrees = record {
              of_shape = refl;
              sound = filled_sound memory.state k.sound row w.below;
              size = put.size ∙ k.size;
              rows = at_row row
                  (λ r t. RowAgrees shape (record { state = row_filled memory.state row; store = row_written shape row generation memory.store }) r
                  (cond t true (known.full r)) (cond t generation (known.last r)))
                  (record { mark = more.full; whole = λ _. w.whole; cells = λ x b c _. put.cells x b c })
                  (λ r n. let before = k.rows r in record {
                    mark = more.others r n ∙ before.mark;
                    whole = before.whole;
                    cells = λ x b c f. other_rows shape row generation memory.store w.below k.size w.whole x b r c n ∙ before.cells x b c f;
                  });
            };
          };
    })
