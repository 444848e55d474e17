-- What an operation has to show, so that a memory still agrees with its history when it was asked for.
use mathlib.Core.Path.{◌≡◌, refl, sym, ap, ◌∙◌, fun_ext}
use mathlib.Core.Logic.{◌≢◌, ⊎_elim}
use mathlib.Core.Bool.{Bool, true, false, false≢true}
use mathlib.Core.List.{List}
use Prim.Native.Nat.{ℕ, ◌+◌}
use native.Mathlib.Omega.{arith}
use Rattle.std.proofs.lemmas.Bool.{cases_eq}
use borrow.Author.Tests.{eq-eqb, ne_eqb}
use lib.Dec.{eqb}
use lib.ListN.{length}
use Rattle.std.specs.Prelude.{Ok, Err}
use Rattle.bits.specs.Marks.{how_many}
use Rattle.bits.proofs.Marks.{same_many}
use Rattle.refusals.specs.Verdict.{Verdict, Accepted, refused, answer_by, if_refused, ◌then◌}
use Rattle.simplex.specs.Code.{bank_cell}
use Rattle.layout.specs.declared.Shape.{Shape}
use Rattle.layout.specs.Shape.{store_size, generation_size, CellOf, cell_at}
use Rattle.layout.specs.Occupancy.{is_full}
use Rattle.layout.proofs.FullRows.{all_counted}
use Rattle.rows.specs.Rows.{packets_in}
use Rattle.memory.specs.declared.State.{State}
use Rattle.memory.specs.declared.Outcome.{Outcome}
use Rattle.memory.specs.State.{full_rows, sound, Sound}
use Rattle.memory.specs.Operations.{state_refusal, store_refusal}
use Rattle.memory.specs.Meaning.{Memory, Known, Meaning}
use Rattle.memory.specs.History.{RowAgrees, Agrees}
use Rattle.memory.proofs.States.{words_sound}
pub mod Write
pub mod Update
pub mod Release
pub mod ReleaseSet
pub mod Read

-- ---- rows

pub empty_row : {shape : Shape} {memory : Memory} {row : ℕ} {last : List ℕ} → is_full memory.state.rows row ≡ false → RowAgrees shape memory row false last
empty_row e = record { mark = e; whole = λ f. absurd (false≢true f); cells = λ x b c f. absurd (false≢true f) }

-- what is so of one row, and of each other
pub at_row : (row : ℕ) (F : ℕ → Bool → Type 0) → F row true → ((r : ℕ) → r ≢ row → F r false) → (r : ℕ) → F r (eqb r row)
at_row row F it others r =
    ⊎_elim (λ (e : r ≡ row). rw (e, eq-eqb row row refl) it) (λ n. rw (ne_eqb r row n) (others r n)) (cases_eq r row)

-- ---- what an operation has to show

abbrev pub after : Meaning → Memory → Memory
after meaning memory = record { state = (meaning.outcome memory).state; store = meaning.store memory }

-- of a memory that agrees with what is known, by a verdict: refused, nothing more is known, and that is the answer; accepted, it agrees with what is then known,
-- the answer is what is told, and as many rows more are full as are filled and not emptied
pub record Follows (meaning : Meaning) (shape : Shape) (known : Known) (memory : Memory) (v : Verdict) : Type 0 where
  pub agrees : Agrees shape (if_refused known (meaning.known shape known) v) (after meaning memory)
  pub answer : (meaning.outcome memory).answer
      ≡ answer_by (meaning.told (how_many (if_refused known (meaning.known shape known) v).full shape.g)) v
  pub count : full_rows (meaning.outcome memory).state + if_refused 0 meaning.emptied v ≡ if_refused 0 meaning.filled v + full_rows memory.state

-- broken: a broken state is refused with 5. follows: else the verdict is that on what is known
pub record Lawful (meaning : Meaning) : Type 0 where
  pub broken : (memory : Memory) → sound memory.state ≡ false
      → meaning.outcome memory ≡ record { state = memory.state; answer = refused 5 0 }
  pub follows : (known : Known) (memory : Memory) → Agrees memory.state.shape known memory
      → Follows meaning memory.state.shape known memory (meaning.verdict memory.state.shape known)

-- ---- the base: what is left to show of an operation that tests the state, or the state and the store, and then goes by checks on the full rows

abbrev pub unlent : Memory → Verdict
unlent memory = state_refusal memory.state

abbrev pub lent : Memory → Verdict
lent memory = store_refusal memory.state (length memory.store)

pub record Tests (first : Memory → Verdict) : Type 0 where
  broken : (memory : Memory) → sound memory.state ≡ false → first memory ≡ refused 5 0
  sound : (memory : Memory) → Sound memory.state → length memory.store ≡ store_size memory.state.shape → first memory ≡ Accepted

pub tests_state : Tests unlent
tests_state = record { broken = λ memory e. rw e; sound = λ memory s size. rw (words_sound memory.state s) }

pub tests_store : Tests lent
tests_store = record { broken = λ memory e. rw e; sound = λ memory s size. rw (words_sound memory.state s, eq-eqb _ _ size) }

-- a memory that agrees is refused as what is known says
pub judged : (first : Memory → Verdict) → Tests first → (checks : Shape → (ℕ → Bool) → Verdict) (known : Known) (memory : Memory)
    → Agrees memory.state.shape known memory
    → (first memory then checks memory.state.shape (is_full memory.state.rows)) ≡ checks memory.state.shape known.full
judged first tests checks known memory k =
    ap (λ (v : Verdict). v then checks memory.state.shape (is_full memory.state.rows)) (tests.sound memory k.sound k.size)
    ∙ ap (checks memory.state.shape) (fun_ext (λ row. (k.rows row).mark))

pub same : {A : Type 0} (a : A) (v : Verdict) → a ≡ if_refused a a v
same a Accepted = refl
same a (Err refusal) = refl

module _ (meaning : Meaning) (first : Memory → Verdict) (checks : Shape → (ℕ → Bool) → Verdict) (made : Memory → State) (stored : Memory → List ℕ) where
  abbrev pub refusal : Memory → Verdict
  refusal memory = first memory then checks memory.state.shape (is_full memory.state.rows)

  abbrev pub gives : Memory → Verdict → Outcome
  gives memory v = record { state = if_refused memory.state (made memory) v; answer = answer_by (meaning.told (full_rows (made memory))) v }

  -- accepted, it makes a state and a store that agree
  pub record Makes (known : Known) (memory : Memory) : Type 0 where
    pub agrees : Agrees memory.state.shape (meaning.known memory.state.shape known) (record { state = made memory; store = stored memory })
    pub count : full_rows (made memory) + meaning.emptied ≡ meaning.filled + full_rows memory.state

  pub record ByChecks : Type 0 where
    pub tests : Tests first
    pub outcome : (memory : Memory) → meaning.outcome memory ≡ gives memory (refusal memory)
    pub store : (memory : Memory) → meaning.store memory ≡ if_refused memory.store (stored memory) (refusal memory)
    pub verdict : (shape : Shape) (known : Known) → checks shape known.full ≡ meaning.verdict shape known
    pub accepted : (known : Known) (memory : Memory) → Agrees memory.state.shape known memory → refusal memory ≡ Accepted → Makes known memory

  module _ (by : ByChecks) where
    follows : (known : Known) (memory : Memory) → Agrees memory.state.shape known memory → (v : Verdict) → refusal memory ≡ v
        → Follows meaning memory.state.shape known memory v
    follows known memory k Accepted e =
        let does = by.accepted known memory k e in
        let outcome = by.outcome memory ∙ ap (gives memory) e in
        let store = by.store memory ∙ ap (if_refused memory.store (stored memory)) e in
        let state = made memory in
        let full = (meaning.known memory.state.shape known).full in
        record {
          agrees = rw (outcome, store) does.agrees;
          answer = rw outcome (ap (λ (n : ℕ). Ok (meaning.told n))
              (all_counted state.rows state.shape.g does.agrees.sound.ranges.rows.1 does.agrees.sound.rows
              ∙ same_many (is_full state.rows) full state.shape.g (λ r _. (does.agrees.rows r).mark)
              ∙ ap (λ (shape : Shape). how_many full shape.g) does.agrees.of_shape));
          count = rw outcome does.count;
        }
    follows known memory k (Err r) e =
        let outcome = by.outcome memory ∙ ap (gives memory) e in
        let store = by.store memory ∙ ap (if_refused memory.store (stored memory)) e in
        record { agrees = rw (outcome, store) k; answer = rw outcome; count = rw outcome (omega arith) }

    pub lawful_by : Lawful meaning
    lawful_by = record {
      broken = λ memory e. by.outcome memory
          ∙ ap (λ (v : Verdict). gives memory (v then checks memory.state.shape (is_full memory.state.rows))) (by.tests.broken memory e);
      follows = λ known memory k. follows known memory k _ (judged first by.tests checks known memory k ∙ by.verdict memory.state.shape known);
    }
