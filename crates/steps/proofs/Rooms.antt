-- The packets of a cycle that is served have no more bytes than the store, so the room that there is for them changes no answer.
use mathlib.Core.Path.{◌≡◌, refl}
use mathlib.Core.Logic.{dite}
use mathlib.Core.List.{List}
use Prim.Native.Nat.{ℕ, ◌-◌, ◌*◌, ◌^◌, ◌≤◌, ◌<◌, min}
use native.Mathlib.Nat.{mul-le-mul_left, mul-le-mul_right, le_trans, le-mul_of_pos_right}
use native.Mathlib.Decide.{dec_lt}
use native.Mathlib.Omega.{arith}
use borrow.Author.Tests.{eq-eqb}
use lib.ListN.{length}
use lib.Pow.{pow-lt}
use Rattle.std.specs.Prelude.{Err}
use Rattle.refusals.specs.Verdict.{Verdict, Accepted, answer_by, ◌then◌}
use Rattle.cells.specs.Xor.{zeros}
use Rattle.simplex.specs.Shape.{SymbolsInRange, banks_of, limit_of}
use Rattle.layout.specs.Shape.{banks, store_size}
use Rattle.reads.specs.Reads.{reads_in}
use Rattle.reads.specs.Refusals.{buffer_refusal, list_refusal}
use Rattle.reads.proofs.Counting.{reads_most}
use Rattle.cycle.proofs.Pairs.{symbols_below}
use Rattle.memory.specs.declared.State.{State}
use Rattle.refusals.specs.declared.Answer.TheVariants.{Served}
use Rattle.memory.specs.Operations.{cycle_refusal, cycle_outcome, cycle_output}
use Rattle.memory.proofs.States.{sound_words}
use Rattle.memory.proofs.Cycles.{read_facts}
use Rattle.frames.specs.declared.TheConstants.{MOST_STORE}
use Rattle.frames.specs.Printing.{said}

-- ---- a cycle that is served

limit_banks : (K : ℕ) → SymbolsInRange K → limit_of K ≤ banks_of K
limit_banks K range = let less : limit_of K < 2 ^ K = pow-lt {i = K - 1} (omega arith) in omega arith

-- every group has at most 2^(K-1) reads, and a group has at least so many banks
pub within : (st : State) (size : ℕ) (reads : List ℕ) (out schedule : ℕ) → cycle_refusal st size reads out schedule ≡ Accepted
    → length (reads_in reads) * st.shape.p ≤ size
unfolding store_size
within st size reads out schedule e =
    let f = read_facts st size reads out schedule e in
    let range = (sound_words st f.sound_state).ranges in
    let few : length (reads_in reads) ≤ st.shape.m * limit_of st.shape.k =
    reads_most (reads_in reads) _ _ (λ n other l. (f.reads.named n other l).group)
    (symbols_below st.shape (reads_in reads) range.symbols f.reads.named) f.reads.few in
    let cells : length (reads_in reads) ≤ st.shape.m * banks st.shape * st.shape.g =
    le_trans few (le_trans (mul-le-mul_left _ (limit_banks st.shape.k range.symbols)) (le-mul_of_pos_right _ range.rows.0)) in
    rw f.store (mul-le-mul_right st.shape.p cells)

-- ---- a cycle that is not

-- a refusal by a check before the last stays the same, whatever the last says
earlier : (v last other : Verdict) → ((v then last) ≡ Accepted → ⊥) → ((last ≡ Accepted → ⊥) → other ≡ last) → (v then other) ≡ (v then last)
earlier Accepted last other refused h = h refused
earlier (Err refusal) last other refused h = refl

not_last : (last other : Verdict) → last ≡ Accepted → (last ≡ Accepted → ⊥) → other ≡ last
not_last last other fine refused = absurd (refused fine)

-- and so it does with buffers of another size
refused_alike : (st : State) (size : ℕ) (reads : List ℕ) (out exact schedule : ℕ) → buffer_refusal st.shape (reads_in reads) exact schedule ≡ Accepted
    → (cycle_refusal st size reads exact schedule ≡ Accepted → ⊥) → cycle_refusal st size reads out schedule ≡ cycle_refusal st size reads exact schedule
unfolding cycle_refusal list_refusal
refused_alike st size reads out exact schedule fine refused = search (earlier, not_last) depth 9

-- a refusal says nothing of the packets
said_refused : (packets others : List ℕ) (v : Verdict) → (v ≡ Accepted → ⊥) → said packets (answer_by Served v) ≡ said others (answer_by Served v)
said_refused packets others Accepted refused = absurd (refused refl)
said_refused packets others (Err refusal) refused = refl

-- what a cycle says whose buffers are zeros, of so many bytes for its packets
abbrev pub said_of : State → (s reads : List ℕ) → (room : ℕ) → List ℕ
said_of st s reads room =
    said (cycle_output st s reads (zeros room) (zeros (length (reads_in reads) * 2))) (cycle_outcome st (length s) reads room (length (reads_in reads) * 2)).answer

-- the answer in bytes with the room there is, and with room for all packets
pub same_said : (st : State) (s reads : List ℕ) (size : ℕ) → length s ≤ MOST_STORE → size ≡ min (length (reads_in reads) * st.shape.p) MOST_STORE
    → said_of st s reads size ≡ said_of st s reads (length (reads_in reads) * st.shape.p)
same_said st s reads size fits e =
    let all = length (reads_in reads) * st.shape.p in
    let lines = length (reads_in reads) * 2 in
    let fine : buffer_refusal st.shape (reads_in reads) all lines ≡ Accepted = rw (eq-eqb all all refl, eq-eqb lines lines refl) in
    dite (dec_lt MOST_STORE all)
    (λ l.
    let refused : cycle_refusal st (length s) reads all lines ≡ Accepted → ⊥ = λ a. omega (arith, within st (length s) reads all lines a) in
    rw (refused_alike st (length s) reads size all lines fine refused) (said_refused _ _ _ refused))
    (λ f. let same : size ≡ all = omega arith in rw same)
