-- One pair of banks: the tests by which it serves a symbol, and where it stands in the bytes.
use mathlib.Core.Path.{◌≡◌, refl, sym, ap, ◌∙◌}
use mathlib.Core.Bool.{Bool, true}
use mathlib.Core.List.{List, [], ◌∷◌}
use Prim.Native.Nat.{ℕ, zero, suc, ◌+◌, ◌*◌, ◌/◌, ◌≤◌, ◌<◌}
use native.Mathlib.Nat.{not-suc-le-zero}
use native.Mathlib.Omega.{arith}
use lib.Pow.{pow_mono}
use lib.ListN.{length, get_or, drop}
use Rattle.std.specs.List.{zip}
use Rattle.std.specs.Simd.{first_chunks}
use Rattle.std.proofs.lemmas.List.{get_or_default}
use Rattle.std.proofs.lemmas.Slice.Zip.{get_or-zip, length-zip}
use Rattle.refusals.specs.Verdict.{between}
use Rattle.simplex.specs.declared.Group.{Group}
use Rattle.simplex.specs.Shape.{SymbolsInRange, group_of, is_bank}
use Rattle.std.specs.List.{sum}
use Rattle.simplex.specs.Limit.{reads_of}
use Rattle.simplex.proofs.Tables.{banks_of_lem}
use Rattle.simplex.proofs.Requests.{length_reads}
use Rattle.audit.specs.Plan.{serves, pair_at}
use Rattle.audit.specs.Audit.{pairs_of, pair_in}
use Rattle.audit.proofs.Reading.{serves_sound, first_to}

-- ---- the tests, and what they say

-- the banks of a pair that serves are two, and below 64, since K is at most 5
module _ (K i a b : ℕ) (group : Group) (g : group ≡ group_of K) (k : SymbolsInRange K) (t : Bool)
    (e : t ≡ serves (between 1 group.banks) i (record { a = a; b = b })) where
  pub as_served : t ≡ serves (is_bank K) i (record { a = a; b = b })
  as_served = e ∙ ap (λ (N : ℕ). serves (between 1 N) i (record { a = a; b = b })) (banks_of_lem K g)

  pub first_below : t ≡ true → a < 64
  first_below h = omega (arith, first_to K (λ b e. e) (serves_sound (is_bank K) i (record { a = a; b = b }) (sym as_served ∙ h)), pow_mono k.most)

  pub second_below : t ≡ true → b < 64
  second_below h = omega (arith, first_below h, (serves_sound (is_bank K) i (record { a = a; b = b }) (sym as_served ∙ h)).above)

-- ---- the pairs of some bytes

pub length_pairs : (bytes : List ℕ) → length (pairs_of bytes) ≡ length bytes / 2
length_pairs [] = refl
length_pairs (a ∷ []) = refl
length_pairs (a ∷ b ∷ bytes) = let ih = length_pairs bytes in omega arith

-- pair n, byte by byte
pub pair_bytes_at : (bytes : List ℕ) (n : ℕ) → n * 2 + 1 < length bytes → pair_at (pairs_of bytes) n ≡ pair_in bytes n
pair_bytes_at [] n h = absurd (omega arith)
pair_bytes_at (a ∷ []) n h = absurd (omega arith)
pair_bytes_at (a ∷ b ∷ bytes) zero h = refl
pair_bytes_at (a ∷ b ∷ bytes) (suc n) h =
    let two : suc n * 2 ≡ suc (suc (n * 2)) = omega arith in
    let three : suc (suc (n * 2)) + 1 ≡ suc (suc (n * 2 + 1)) = omega arith in
    rw (two, three) (pair_bytes_at bytes n (omega arith))

-- pair n, by chunk n of two bytes
pub chunk_pair : (bytes : List ℕ) (k n : ℕ) → n < k → 2 * k ≤ length bytes → let chunk = get_or (first_chunks 2 k bytes) n [] in
    record { a = get_or chunk 0 0; b = get_or chunk 1 0 } ≡ pair_at (pairs_of bytes) n
chunk_pair bytes zero n l h = absurd (not-suc-le-zero l)
chunk_pair [] (suc k) n l h = absurd (omega arith)
chunk_pair (a ∷ []) (suc k) n l h = absurd (omega arith)
chunk_pair (a ∷ b ∷ bytes) (suc k) zero l h = refl
chunk_pair (a ∷ b ∷ bytes) (suc k) (suc n) l h = chunk_pair bytes k n (omega arith) (omega arith)

many_chunks : (k : ℕ) (bytes : List ℕ) → length (first_chunks 2 k bytes) ≡ k
many_chunks zero bytes = refl
many_chunks (suc k) bytes = ap suc (many_chunks k (drop 2 bytes))

-- what stands at place n of the pairs' chunks, each with the symbol of its read
pub zipped : (counts bytes : List ℕ) (n : ℕ) (chunk : List ℕ) (i : ℕ) → length bytes ≡ sum counts * 2
    → let both = zip (first_chunks 2 (length bytes / 2) bytes) (reads_of counts) in
    (n < length both) × ((chunk, i) ≡ get_or both n (chunk, i))
    → (n < sum counts) × (i ≡ get_or (reads_of counts) n 0) × (record { a = get_or chunk 0 0; b = get_or chunk 1 0 } ≡ pair_at (pairs_of bytes) n)
zipped counts bytes n chunk i e h =
    let chunks = first_chunks 2 (length bytes / 2) bytes in
    let many : length chunks ≡ length bytes / 2 = many_chunks (length bytes / 2) bytes in
    let less : n < sum counts = omega (arith, h.0, length-zip chunks (reads_of counts), many, length_reads counts, e) in
    let at = h.1 ∙ get_or-zip chunks (reads_of counts) n (chunk, i) (omega (arith, many)) (omega (arith, length_reads counts)) in
    let here : chunk ≡ get_or chunks n [] = ap (λ (p : List ℕ × ℕ). p.0) at ∙ get_or_default chunks n chunk [] (omega (arith, many)) in (
      less,
      ap (λ (p : List ℕ × ℕ). p.1) at ∙ get_or_default (reads_of counts) n i 0 (omega (arith, length_reads counts)),
      rw here (chunk_pair bytes (length bytes / 2) n (omega arith) (omega arith)),
    )

-- and where all of it has been gone over, so have the reads
pub zipped_all : (counts bytes : List ℕ) (n : ℕ) → length bytes ≡ sum counts * 2
    → n ≡ length (zip (first_chunks 2 (length bytes / 2) bytes) (reads_of counts)) → sum counts ≤ n
zipped_all counts bytes n e h =
    let chunks = first_chunks 2 (length bytes / 2) bytes in
    omega (arith, length-zip chunks (reads_of counts), many_chunks (length bytes / 2) bytes, length_reads counts)
