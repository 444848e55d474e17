-- The audit: whether bytes are a plan for the counts.
use Rattle.std.specs.Prelude.{◌≡◌, Bool, true, false, ◌&&◌, if◌then◌else◌, List, [], ◌∷◌, ℕ, ◌+◌, ◌-◌, ◌*◌, ◌%◌, ◌≤◌, ◌==◌, nat_le, length, slice_index, drop, sum, Result, Ok, Option, Some, None}
use Rattle.std.specs.List.{list_all}
use Rattle.refusals.specs.declared.Refusal.{Refusal}
use Rattle.refusals.specs.Verdict.{Verdict, between, check, answer_by, ◌then◌}
use Rattle.simplex.specs.declared.TheConstants.{LEAST_SYMBOLS, MOST_SYMBOLS}
use Rattle.simplex.specs.Shape.{SymbolsInRange, limit_of, is_bank}
use Rattle.audit.specs.declared.Pair.{Pair}
use Rattle.audit.specs.Plan.{is_plan, IsPlan}

-- Every count is 0.
abbrev pub all_zero : List ℕ → Bool
all_zero counts = list_all (λ c. c == 0) counts

-- The refusals of a request vector: 1, K is out of its range; 11, one of the counts behind the first K is not 0 [audit.refusals].
abbrev pub counts_refusal : ℕ → List ℕ → Verdict
counts_refusal K counts =
    check 1 0 (between LEAST_SYMBOLS MOST_SYMBOLS K) then check 11 0 (all_zero (drop K counts))

-- A request vector of a group of K symbols, in words: five counts, with nothing but 0 behind the first K [plan.request].
pub record RequestOf (K : ℕ) (counts : List ℕ) : Type 0 where
  pub symbols : SymbolsInRange K
  pub size : length counts ≡ MOST_SYMBOLS
  pub beyond : (i : ℕ) → K ≤ i → slice_index counts i ≡ 0

-- A request within the limit: its counts total at most 2^(K-1).
pub record WithinLimit (K : ℕ) (counts : List ℕ) : Type 0 where
  pub request : RequestOf K counts
  pub total_most : sum counts ≤ limit_of K

-- The pairs that bytes stand for: a byte is a, and the next one its b; a last byte without one is left out.
abbrev pub pairs_of : List ℕ → List Pair
pairs_of [] = []
pairs_of (a ∷ []) = []
pairs_of (a ∷ b ∷ bytes) = record { a = a; b = b } ∷ pairs_of bytes

-- Pair n of them: byte 2n and the byte after it.
abbrev pub pair_in : List ℕ → ℕ → Pair
pair_in bytes n = record { a = slice_index bytes (n * 2); b = slice_index bytes (n * 2 + 1) }

-- The bytes of some pairs.
abbrev pub pair_bytes : List Pair → List ℕ
pair_bytes [] = []
pair_bytes (p ∷ pairs) = p.a ∷ p.b ∷ pair_bytes pairs

-- What an audit answers: yes, no, or a refusal.
abbrev pub Audited : Type 0
Audited = Result Bool Refusal

pattern abbrev pub Yes : Audited
Yes = Ok true

pattern abbrev pub No : Audited
No = Ok false

-- What the audit answers: a refusal, or yes exactly if the bytes are an even count and their pairs a plan [audit.yes], [audit.no].
unfoldable pub audit_of : ℕ → List ℕ → List ℕ → Audited
audit_of K counts bytes = answer_by (length bytes % 2 == 0 && is_plan (is_bank K) counts (pairs_of bytes)) (counts_refusal K counts)

-- When it says yes, in words.
pub record PlanIn (K : ℕ) (counts bytes : List ℕ) : Type 0 where
  pub request : RequestOf K counts
  pub even : length bytes % 2 ≡ 0
  pub plan : IsPlan (is_bank K) counts (pairs_of bytes)

-- What the counts leave of a number: nothing where they total more.
abbrev pub rest_of : ℕ → List ℕ → Option ℕ
rest_of room counts = if nat_le (sum counts) room then Some (room - sum counts) else None
