-- Every sorted request has its row, and the row's pairs are a plan for it.
use mathlib.Core.Path.{◌≡◌, refl, sym, subst}
use mathlib.Core.Bool.{Bool, true, false, not, ◌||◌, false≢true}
use mathlib.Core.List.{List}
use Prim.Native.Nat.{ℕ, zero, suc, ◌+◌, ◌-◌, ◌<◌}
use native.Mathlib.Omega.{arith}
use lib.Dec.{T, ltb, ltb→lt}
use lib.ListN.{length, get_or, drop}
use Rattle.simplex.specs.declared.TheConstants.{LEAST_SYMBOLS, MOST_SYMBOLS}
use Rattle.simplex.specs.Shape.{limit_of, is_bank}
use Rattle.simplex.proofs.Tables.{and_left, and_right}
use Rattle.audit.specs.Plan.{is_plan, IsPlan}
use Rattle.audit.specs.Audit.{all_zero}
use Rattle.audit.proofs.Reading.{sound}
use Rattle.audit.proofs.Requests.{zero_all}
use Rattle.table.specs.declared.rows.TheConstants.{TRIE}
use Rattle.table.specs.Table.{SortedRequest, walk, row_index, rows_of, row_of}
use Rattle.table.proofs.Sweep.{below_at, everywhere, everywhere_at}
use Rattle.table.proofs.Tested.{inside, row_fits, test_of, test}

given : (a b : Bool) → a ≡ true → T (not a || b) → T b
given true b e t = t
given false b e t = absurd (false≢true e)

module _ (K : ℕ) (counts : List ℕ) (s : SortedRequest K counts) where
  tested : T (test_of K)
  tested =
      let back : K - LEAST_SYMBOLS + LEAST_SYMBOLS ≡ K = omega (arith, s.request.symbols.least) in
      subst (λ (k : ℕ). T (test_of k)) back
      (below_at (suc MOST_SYMBOLS - LEAST_SYMBOLS) (λ (n : ℕ). test_of (n + LEAST_SYMBOLS)) test (K - LEAST_SYMBOLS) (omega (arith, s.request.symbols.most, s.request.symbols.least)))

  fits : T (row_fits K counts)
  fits =
      given (all_zero (drop K counts)) (row_fits K counts) (zero_all K counts s.request.beyond)
      (everywhere_at (λ (c : List ℕ). not (all_zero (drop K c)) || row_fits K c) (limit_of K) counts s.falling
      (subst (λ (t : ℕ). T (everywhere (λ (c : List ℕ). not (all_zero (drop K c)) || row_fits K c) (length counts) (limit_of K) t)) (sym s.full)
      (subst (λ (n : ℕ). T (everywhere (λ (c : List ℕ). not (all_zero (drop K c)) || row_fits K c) n (limit_of K) (limit_of K))) (sym s.request.size) tested)))

  pub within : T (inside K counts (get_or TRIE (K - LEAST_SYMBOLS) 0) (K - 2))
  unfolding row_fits
  within =
      and_left (inside K counts (get_or TRIE (K - LEAST_SYMBOLS) 0) (K - 2)) (is_plan (is_bank K) counts (row_of K counts)) fits

  is_plan_lem : T (is_plan (is_bank K) counts (row_of K counts))
  unfolding row_fits
  is_plan_lem =
      and_right (inside K counts (get_or TRIE (K - LEAST_SYMBOLS) 0) (K - 2)) (is_plan (is_bank K) counts (row_of K counts)) fits

holds : (b : Bool) → T b → b ≡ true
holds true t = refl
holds false t = absurd t

-- a walk that stays within the trie ends within the rows
ends : (K : ℕ) (counts : List ℕ) (at n : ℕ) → T (inside K counts at n) → walk counts at n + get_or counts 1 0 < length (rows_of K)
ends K counts at zero t = ltb→lt (at + get_or counts 1 0) (length (rows_of K)) t
ends K counts at (suc n) t =
    let next : ℕ = at + get_or counts (suc (suc n)) 0 in
    ends K counts (get_or TRIE next 0) n (and_right (ltb next (length TRIE)) (inside K counts (get_or TRIE next 0) n) t)

pub found : (K : ℕ) (counts : List ℕ) → SortedRequest K counts → row_index K counts < length (rows_of K)
found K counts s = ends K counts (get_or TRIE (K - LEAST_SYMBOLS) 0) (K - 2) (within K counts s)

pub valid : (K : ℕ) (counts : List ℕ) → SortedRequest K counts → IsPlan (is_bank K) counts (row_of K counts)
valid K counts s = sound (is_bank K) counts (row_of K counts) (holds (is_plan (is_bank K) counts (row_of K counts)) (is_plan_lem K counts s))
