-- A list that is put together symbol by symbol: how long it is, and what stands in it.
use mathlib.Core.Path.{◌≡◌, refl, sym, ap, ap₂, ◌∙◌}
use mathlib.Core.List.{List, [], ◌∷◌, map}
use Prim.Native.Nat.{ℕ, zero, suc, ◌+◌, ◌<◌}
use native.Mathlib.Nat.{not-suc-le-zero}
use native.Mathlib.Omega.{arith}
use lib.ListN.{length, get_or, length-append}
use Rattle.std.specs.List.{range_with_len, sum}
use Rattle.std.proofs.lemmas.List.FromFn.{length-map-range_with_len, get_or-map-range_with_len}
use Rattle.simplex.specs.Limit.{start}
use Rattle.audit.specs.declared.Pair.{Pair}
use Rattle.audit.specs.Plan.{no_pair, pair_at}
use Rattle.table.specs.Renaming.{grouped}
use Rattle.simplex.proofs.Contained.{sum_cons, start_cons}
use Rattle.audit.proofs.Places.{in_first, in_rest}

-- ---- the pairs f i j

pub length_grouped : (f : ℕ → ℕ → Pair) (i : ℕ) (counts : List ℕ) → length (grouped f i counts) ≡ sum counts
length_grouped f i [] = refl
length_grouped f i (c ∷ counts) =
    length-append (map (f i) (range_with_len 0 c)) (grouped f (suc i) counts) ∙ ap₂ ◌+◌ (length-map-range_with_len (f i) 0 c) (length_grouped f (suc i) counts)
    ∙ sym (sum_cons c counts)

grouped_from : (f : ℕ → ℕ → Pair) (counts : List ℕ) (k i j : ℕ) → j < get_or counts i 0
    → pair_at (grouped f k counts) (start counts i + j) ≡ f (k + i) j
grouped_from f [] k i j h = absurd (not-suc-le-zero h)
grouped_from f (c ∷ counts) k zero j h =
    in_first (map (f k) (range_with_len 0 c)) (grouped f (suc k) counts) c (length-map-range_with_len (f k) 0 c) no_pair j h ∙ get_or-map-range_with_len (f k) 0 c j j no_pair h (omega arith) ∙ ap (λ (n : ℕ). f n j) (omega arith)
grouped_from f (c ∷ counts) k (suc i) j h =
    ap (λ (n : ℕ). pair_at (grouped f k (c ∷ counts)) (n + j)) (start_cons c counts i)
    ∙ in_rest (map (f k) (range_with_len 0 c)) (grouped f (suc k) counts) c (length-map-range_with_len (f k) 0 c) no_pair (start counts i) j
    ∙ grouped_from f counts (suc k) i j h ∙ ap (λ (n : ℕ). f n j) (omega arith)

pub grouped_at : (f : ℕ → ℕ → Pair) (counts : List ℕ) (i j : ℕ) → j < get_or counts i 0 → pair_at (grouped f 0 counts) (start counts i + j) ≡ f i j
grouped_at f counts i j h = grouped_from f counts 0 i j h ∙ ap (λ (n : ℕ). f n j) (omega arith)
