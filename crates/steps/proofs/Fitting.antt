-- The numbers of answers fit the bytes that they are said in.
use mathlib.Core.Path.{◌≡◌, refl}
use mathlib.Core.Bool.{Bool, true, false}
use mathlib.Core.List.{List, [], ◌∷◌}
use Prim.Native.Nat.{ℕ, zero, suc, ◌*◌, ◌/◌, ◌≤◌, ◌<◌}
use native.Mathlib.Omega.{arith}
use lib.ListN.{length}
use Rattle.bits.proofs.Marks.{many_most}
use Rattle.std.specs.Prelude.{Ok, Err}
use Rattle.refusals.specs.declared.Refusal.{Refusal}
use Rattle.refusals.specs.Verdict.{Verdict, Accepted, answer_by, check, ◌then◌, first_refusal}
use Rattle.refusals.proofs.Verdicts.{checks}
use Rattle.simplex.specs.Shape.{limit_of}
use Rattle.simplex.proofs.Tables.{limit_most}
use Rattle.layout.specs.declared.Shape.{Shape}
use Rattle.layout.specs.declared.TheConstants.{MOST_ROWS}
use Rattle.layout.specs.Occupancy.{is_full}
use Rattle.layout.specs.Shape.{shape_refusal, InRange, banks}
use Rattle.layout.proofs.Ranges.{range_words, words_range, all_banks_lem}
use Rattle.reads.specs.Reads.{reads_in}
use Rattle.reads.specs.Refusals.{list_refusal}
use Rattle.memory.specs.declared.State.{State}
use Rattle.memory.specs.declared.Outcome.{Outcome}
use Rattle.refusals.specs.declared.Answer.{Answer}
use Rattle.refusals.specs.declared.Answer.TheVariants.{Ready, FullRows, Served}
use Rattle.memory.specs.State.{full_rows, row_filled, row_emptied}
use Rattle.memory.specs.Operations.{set_up_of, store_refusal, write_refusal, write_outcome, release_refusal, release_outcome, cycle_refusal, cycle_outcome}
use Rattle.memory.proofs.States.{sound_words, store_facts}
use Rattle.frames.specs.declared.TheConstants.{MOST_FRAME}
use Rattle.frames.specs.Frame.{line_refusal}
use Rattle.frames.specs.Printing.{Fits}
use Rattle.steps.specs.Session.{set_up_refusal}

-- ---- the place of a refusal

-- where the verdict is one, its place fits
abbrev Near : Verdict → Type 0
Near Accepted = Unit {0}
Near (Err refusal) = refusal.place < 65536

near_check : (number place : ℕ) (test : Bool) → place < 65536 → Near (check number place test)
near_check number place true l = tt
near_check number place false l = l

near_then : (v next : Verdict) → Near v → (v ≡ Accepted → Near next) → Near (v then next)
near_then Accepted next a b = b refl
near_then (Err refusal) next a b = a

near_first : (f : ℕ → Verdict) (n : ℕ) → n ≤ 65536 → ((i : ℕ) → i < 65536 → Near (f i)) → Near (first_refusal f n)
near_first f zero l h = tt
near_first f (suc n) l h = near_then (first_refusal f n) (f n) (near_first f n (omega arith) h) (λ e. h n l)

near_zero : (number : ℕ) (test : Bool) → Near (check number 0 test)
near_zero number test = near_check number 0 test (omega arith)

ruleset near = (near_zero, near_check, near_then, near_first)

pub near_place : (v : Verdict) (r : Refusal) → Near v → v ≡ Err r → r.place < 65536
near_place v r n e = rw e at n

-- of a line, and of a set-up
pub line_place : (line : List ℕ) (r : Refusal) → line_refusal line ≡ Err r → r.place < 65536
unfolding line_refusal
line_place line r e = near_place (line_refusal line) r (search near) e

pub set_up_place : (sh : Shape) (r : Refusal) → set_up_refusal sh ≡ Err r → r.place < 65536
unfolding set_up_refusal shape_refusal
set_up_place sh r e = near_place (set_up_refusal sh) r (search near) e

fits_by : (told : Answer) (v : Verdict) → Near v → (v ≡ Accepted → Fits (Ok told)) → Fits (answer_by told v)
fits_by told Accepted a b = b refl
fits_by told (Err refusal) a b = a

-- ---- the values of an answer

no_values : Fits (Ok Served)
no_values k d l = absurd (omega arith)

full_value : (rows : ℕ) → rows < 256 → Fits (Ok (FullRows rows))
full_value rows h zero d l = h
full_value rows h (suc k) d l = absurd (omega arith)

ready_values : (banks most : ℕ) → banks < 256 → most < 256 → Fits (Ok (Ready banks most))
ready_values banks most h g zero d l = h
ready_values banks most h g (suc zero) d l = g
ready_values banks most h g (suc (suc k)) d l = absurd (omega arith)

-- ---- the number of reads, and of full rows

pub reads_many : (list : List ℕ) → length (reads_in list) ≡ length list / 3
reads_many [] = refl
reads_many (a ∷ []) = refl
reads_many (a ∷ b ∷ []) = refl
reads_many (a ∷ b ∷ c ∷ list) = rw (reads_many list) (omega arith)

-- a memory has at most 64 rows
few_full : (st : State) → full_rows st < 256
few_full st = omega (arith, many_most (is_full st.rows) MOST_ROWS)

-- ---- the operations

near_write : (st : State) (size row len : ℕ) → Near (write_refusal st size row len)
unfolding write_refusal
near_write st size row len = search near

near_release : (st : State) (row : ℕ) → Near (release_refusal st row)
unfolding release_refusal
near_release st row = search near

pub fits_write : (st : State) (size row len : ℕ) → Fits (write_outcome st size row len).answer
fits_write st size row len = fits_by _ _ (near_write st size row len) (λ e. full_value _ (few_full (row_filled st row)))

pub fits_release : (st : State) (row : ℕ) → Fits (release_outcome st row).answer
fits_release st row = fits_by _ _ (near_release st row) (λ e. full_value _ (few_full (row_emptied st row)))

near_cycle : (st : State) (size : ℕ) (reads : List ℕ) (out schedule : ℕ) → length reads < MOST_FRAME → Near (cycle_refusal st size reads out schedule)
unfolding cycle_refusal list_refusal
near_cycle st size reads out schedule h =
    let few : length (reads_in reads) ≤ 65536 = omega (arith, reads_many reads) in
    near_then (store_refusal st size) _ (search near)
    (λ f. let groups : st.shape.m ≤ 65536 = omega (arith, (sound_words st (store_facts st size f).0).ranges.groups) in search near depth 9)

pub fits_cycle : (st : State) (size : ℕ) (reads : List ℕ) (out schedule : ℕ) (o : Outcome) → length reads < MOST_FRAME
    → o ≡ cycle_outcome st size reads out schedule → Fits o.answer
fits_cycle st size reads out schedule o h e = rw e (fits_by Served _ (near_cycle st size reads out schedule h) (λ f. no_values))

-- ---- the answer of a set-up

-- an accepted set-up is in range
pub set_up_range : (sh : Shape) → set_up_refusal sh ≡ Accepted → InRange sh
unfolding set_up_refusal
set_up_range sh e = let fine : shape_refusal sh ≡ Accepted = search checks in range_words sh fine

-- so what it answers, how many banks there are and the limit, fits in bytes
pub fits_set_up : (sh : Shape) (o : Outcome) → set_up_refusal sh ≡ Accepted → o ≡ set_up_of sh → Fits o.answer
fits_set_up sh o e is =
    let w = set_up_range sh e in
    let banks : sh.m * banks sh < 256 = omega (arith, all_banks_lem sh sh.m w w.groups.1) in
    let most : limit_of sh.k < 256 = omega (arith, limit_most sh.k w.symbols.most) in
    rw (is, words_range sh w) (ready_values _ _ banks most)

-- what a set-up owes its answer
pub ruleset set_up_fits = (set_up_place, set_up_range, fits_set_up)
