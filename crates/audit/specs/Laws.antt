-- Laws of plans and of the audit, for every K; but `few` asks that K is at most 5, and `otherwise` and `refused` speak of requests.
use Rattle.std.specs.Prelude.{◌≡◌, ◌≢◌, ◌↔◌, ◌⊎◌, Bool, true, false, List, map, ℕ, ◌+◌, ◌*◌, ◌≤◌, ◌<◌, length, slice_index, sum}
use Rattle.refusals.specs.Verdict.{Verdict, refused, verdict_of}
use Rattle.simplex.specs.declared.TheConstants.{MOST_SYMBOLS, MOST_PAIRS}
use Rattle.simplex.specs.Shape.{SymbolsInRange, limit_of, is_bank}
use Rattle.simplex.specs.Limit.{reads_of, ServedBy}
use Rattle.audit.specs.declared.Pair.{Pair}
use Rattle.audit.specs.Plan.{opened, is_plan, pair_at, IsPlan}
use Rattle.audit.specs.Audit.{RequestOf, pairs_of, pair_in, Yes, No, audit_of, PlanIn}

-- The banks that may be used are banks of a group of K symbols.
abbrev pub AreBanks : (K : ℕ) → (ℕ → Bool) → Type 0
AreBanks K usable = (b : ℕ) → usable b ≡ true → is_bank K b ≡ true

-- What refuses a request vector: each condition by its number, where the one before it is not met.
pub record WrongCounts (K : ℕ) (counts : List ℕ) (verdict : Verdict) : Type 0 where
  pub one : (SymbolsInRange K → ⊥) → verdict ≡ refused 1 0
  pub eleven : SymbolsInRange K → (i : ℕ) → K ≤ i → slice_index counts i ≢ 0 → verdict ≡ refused 11 0

-- words: the test passes exactly the lists of pairs that are a plan in words, whichever banks may be used.
-- yes: an audit of five counts says yes exactly if they are a request, and the bytes are an even count and a plan for it.
-- otherwise: any other audit of a request says no; none is refused.
-- served: the banks that a plan's pairs open serve its reads.
-- limit: where the total of the counts passes 2^(K-1), no list of pairs is a plan for them.
-- never: so an audit of such counts never says yes, whatever the bytes are.
-- few: where K is at most 5, a plan has at most sixteen pairs.
-- pair: pair n of a list of bytes is a, which is byte 2n, and b, which is the byte after it.
-- refused: in words, with which number an audit is refused.
pub record ThePlans : Type 0 where
  pub words : (usable : ℕ → Bool) (counts : List ℕ) (pairs : List Pair) → (is_plan usable counts pairs ≡ true) ↔ IsPlan usable counts pairs
  pub yes : (K : ℕ) (counts bytes : List ℕ) → length counts ≡ MOST_SYMBOLS → (audit_of K counts bytes ≡ Yes) ↔ PlanIn K counts bytes
  pub otherwise : (K : ℕ) (counts bytes : List ℕ) → RequestOf K counts → (audit_of K counts bytes ≡ Yes) ⊎ (audit_of K counts bytes ≡ No)
  pub served : (K P : ℕ) (usable : ℕ → Bool) (counts : List ℕ) (pairs : List Pair) → AreBanks K usable → IsPlan usable counts pairs
      → ServedBy K P (reads_of counts) (map opened pairs)
  pub limit : (K : ℕ) (usable : ℕ → Bool) (counts : List ℕ) (pairs : List Pair) → AreBanks K usable → limit_of K < sum counts
      → is_plan usable counts pairs ≡ false
  pub never : (K : ℕ) (counts bytes : List ℕ) → limit_of K < sum counts → audit_of K counts bytes ≡ Yes → ⊥
  pub few : (K : ℕ) (usable : ℕ → Bool) (counts : List ℕ) (pairs : List Pair) → AreBanks K usable → K ≤ MOST_SYMBOLS
      → is_plan usable counts pairs ≡ true → length pairs ≤ MOST_PAIRS
  pub pair : (bytes : List ℕ) (n : ℕ) → n * 2 + 1 < length bytes → pair_at (pairs_of bytes) n ≡ pair_in bytes n
  pub refused : (K : ℕ) (counts bytes : List ℕ) → WrongCounts K counts (verdict_of (audit_of K counts bytes))
