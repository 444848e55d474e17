-- A release of a row set: accepted, its rows are empty.
use mathlib.Core.Path.{◌≡◌, refl, ap, ◌∙◌}
use mathlib.Core.Bool.{Bool, ◌&&◌, not}
use mathlib.Core.List.{List}
use Prim.Native.Nat.{ℕ}
use native.Mathlib.Omega.{arith}
use Rattle.std.proofs.lemmas.Bool.{and_parts}
use Rattle.bits.specs.Marks.{marked}
use Rattle.layout.specs.declared.Shape.{Shape}
use Rattle.layout.specs.Occupancy.{is_full}
use Rattle.layout.proofs.FullRows.{cleared}
use Rattle.memory.specs.State.{rows_emptied}
use Rattle.memory.specs.Operations.{release_set_checks, release_set_refusal}
use Rattle.memory.specs.Meaning.{release_set, Memory, meaning_of}
use Rattle.memory.proofs.States.{none_past, set_sound, set_count}
use Rattle.memory.proofs.Emptying.{set_facts}
use Rattle.memory.specs.History.{RowAgrees}
use Rattle.memory.proofs.Lawful.{Lawful, unlent, tests_state, same, lawful_by}

-- a row that is full afterwards was so before
left : {shape : Shape} {memory now : Memory} {full : Bool} {last : List ℕ} (r : ℕ) → RowAgrees shape memory r full last → now.store ≡ memory.store
    → (t : Bool) → is_full now.state.rows r ≡ (is_full memory.state.rows r && t) → RowAgrees shape now r (full && t) last
left {shape} {memory} {now} {full} r before same t e = record {
  mark = e ∙ ap (λ (f : Bool). f && t) before.mark;
  whole = λ f. before.whole (and_parts full t f).0;
  cells = λ x b c f. rw same (before.cells x b c (and_parts full t f).0);
}

pub release_set_lawful : (set : ℕ) → Lawful (meaning_of (release_set set))
unfolding release_set_refusal
release_set_lawful set =
    lawful_by (meaning_of (release_set set)) unlent (λ shape full. release_set_checks shape full set) (λ memory. rows_emptied memory.state set)
    (λ memory. memory.store) (record {
      tests = tests_state;
      outcome = λ memory. refl;
      store = λ memory. same memory.store _;
      verdict = λ shape known. refl;
      accepted = λ known memory k e. record {
        count = set_count memory.state k.sound set (set_facts memory.state set e).full ∙ omega arith;
        agrees = record {
          of_shape = refl;
          sound = set_sound memory.state k.sound set;
          size = k.size;
          rows = λ r. left {memory = memory} {now = record { state = rows_emptied memory.state set; store = memory.store }} r (k.rows r) refl
              (not (marked set r)) (cleared memory.state.rows (none_past memory.state k.sound) set r);
        };
      };
    })
