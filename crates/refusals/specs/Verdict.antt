-- How the refusal of an operation is said: a list of checks, of which the first that is not passed gives its reason and place.
use Rattle.std.specs.Prelude.{Bool, true, false, ◌&&◌, List, [], ◌∷◌, ℕ, zero, suc, ◌-◌, nat_le, slice_index_or, Result, Ok, Err}
use Rattle.refusals.specs.declared.Refusal.{Refusal}
use Rattle.refusals.specs.declared.Reason.{Reason}
use Rattle.refusals.specs.declared.Reason.TheVariants as reason
use Rattle.refusals.specs.declared.Answer.{Answer}
use Rattle.refusals.specs.declared.Answer.TheVariants.{Ready, FullRows, Served}

-- Accepted, or refused.
abbrev pub Verdict : Type 0
Verdict = Result (Unit {0}) Refusal

pattern abbrev pub Accepted : Verdict
Accepted = Ok tt

-- The number of the refusals for a reason [form.answer].
abbrev pub number_of : Reason → ℕ
number_of reason.SymbolsOutOfRange = 1
number_of reason.GroupsOutOfRange = 2
number_of reason.PacketSizeOutOfRange = 3
number_of reason.RowsOutOfRange = 4
number_of reason.BrokenState = 5
number_of reason.StoreLength = 6
number_of reason.NoSuchRow = 7
number_of reason.FullRow = 8
number_of reason.EmptyRow = 9
number_of reason.PacketsLength = 10
number_of reason.ForeignCount = 11
number_of reason.TooManyReads = 12
number_of reason.ListLength = 13
number_of reason.NoSuchGroup = 14
number_of reason.NoSuchSymbol = 15
number_of reason.BufferLengths = 16
number_of reason.NoHexadecimal = 17
number_of reason.UnknownFrame = 18
number_of reason.NoMemory = 19
number_of reason.StoreTooLarge = 20

-- The reasons in the order of their numbers, from 1; and the reason for a number. (0 is given the first, a number above 20 the last: no
-- refusal has them.)
abbrev pub reasons : List Reason
reasons =
    reason.SymbolsOutOfRange
    ∷ reason.GroupsOutOfRange
    ∷ reason.PacketSizeOutOfRange
    ∷ reason.RowsOutOfRange
    ∷ reason.BrokenState
    ∷ reason.StoreLength
    ∷ reason.NoSuchRow
    ∷ reason.FullRow
    ∷ reason.EmptyRow
    ∷ reason.PacketsLength
    ∷ reason.ForeignCount
    ∷ reason.TooManyReads
    ∷ reason.ListLength
    ∷ reason.NoSuchGroup
    ∷ reason.NoSuchSymbol
    ∷ reason.BufferLengths
    ∷ reason.NoHexadecimal
    ∷ reason.UnknownFrame
    ∷ reason.NoMemory
    ∷ reason.StoreTooLarge
    ∷ []

abbrev pub reason_of : (number : ℕ) → Reason
reason_of number = slice_index_or reasons (number - 1) reason.StoreTooLarge

-- The refusal of this number, at this place; and an answer that is this refusal.
abbrev pub refusal_of : (number place : ℕ) → Refusal
refusal_of number place = record { reason = reason_of number; place = place }

abbrev pub refused : {A : Type 0} (number place : ℕ) → Result A Refusal
refused number place = Err (refusal_of number place)

-- The values of each answer: of a set-up, the banks of all groups and the most reads of one; the number of full rows; of a read cycle
-- none [form.answer].
abbrev pub values_of : Answer → List ℕ
values_of (Ready banks most_reads) = banks ∷ most_reads ∷ []
values_of (FullRows rows) = rows ∷ []
values_of Served = []

-- Whether n is from low to high.
abbrev pub between : (low high n : ℕ) → Bool
between low high n = nat_le low n && nat_le n high

-- The refusal of this number, at this place, unless the test is passed.
abbrev pub check : (number place : ℕ) → Bool → Verdict
check number place true = Accepted
check number place false = refused number place

-- The first where the verdict is a refusal, else the second [refusal.unchanged].
abbrev pub if_refused : {A : Type 0} → (before after : A) → Verdict → A
if_refused before after Accepted = after
if_refused before after (Err refusal) = before

-- What is answered by this verdict: the value, or the refusal.
abbrev pub answer_by : {A : Type 0} → A → Verdict → Result A Refusal
answer_by value Accepted = Ok value
answer_by value (Err refusal) = Err refusal

-- Whether an answer is a refusal, and which.
abbrev pub verdict_of : {A : Type 0} → Result A Refusal → Verdict
verdict_of (Ok value) = Accepted
verdict_of (Err refusal) = Err refusal

infixr 20 ◌then◌
-- The first refusal of the two [refusal.first].
abbrev pub ◌then◌ : Verdict → Verdict → Verdict
Accepted then next = next
Err refusal then next = Err refusal

-- The first refusal of f 0, f 1, .., f (n - 1).
abbrev pub first_refusal : (ℕ → Verdict) → ℕ → Verdict
first_refusal f zero = Accepted
first_refusal f (suc n) = first_refusal f n then f n
