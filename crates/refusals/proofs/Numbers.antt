-- The reason for a number and the number of a reason are each other's inverse.
use Rattle.std.proofs.Common.{ℕ, ◌≡◌, ◌≤◌, ◌-◌, List, map, refl, sym, ap, ◌∙◌, arith, get_or}
use Rattle.std.proofs.Math.ListN.{get_or-map}
use Rattle.std.proofs.lemmas.List.FromFn.{get_or-range_with_len}
use Rattle.std.specs.List.{range_with_len}
use Rattle.refusals.specs.declared.Reason.{Reason}
use Rattle.refusals.specs.declared.Reason.TheVariants as reason
use Rattle.refusals.specs.Verdict.{number_of, reasons, reason_of}

-- a reason is the one for its number
pub back : (r : Reason) → reason_of (number_of r) ≡ r
back reason.SymbolsOutOfRange = refl
back reason.GroupsOutOfRange = refl
back reason.PacketSizeOutOfRange = refl
back reason.RowsOutOfRange = refl
back reason.BrokenState = refl
back reason.StoreLength = refl
back reason.NoSuchRow = refl
back reason.FullRow = refl
back reason.EmptyRow = refl
back reason.PacketsLength = refl
back reason.ForeignCount = refl
back reason.TooManyReads = refl
back reason.ListLength = refl
back reason.NoSuchGroup = refl
back reason.NoSuchSymbol = refl
back reason.BufferLengths = refl
back reason.NoHexadecimal = refl
back reason.UnknownFrame = refl
back reason.NoMemory = refl
back reason.StoreTooLarge = refl

-- the numbers of the reasons in their order are those from 1 on
numbers : map number_of reasons ≡ range_with_len 1 20
numbers = refl

-- a number from 1 to 20 is that of its reason
pub forth : (n : ℕ) → 1 ≤ n → n ≤ 20 → number_of (reason_of n) ≡ n
forth n l u =
    sym (get_or-map number_of reasons (n - 1) reason.StoreTooLarge)
    ∙ ap (λ (xs : List ℕ). get_or xs (n - 1) 20) numbers
    ∙ get_or-range_with_len 1 20 (n - 1) 20 (omega (arith, l, u))
    ∙ omega (arith, l, u)
