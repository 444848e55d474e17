-- Requests in which no symbol is read more than once (customers say: nobody collides), and the plan that opens one bank for each of their
-- reads.
use Rattle.std.specs.Prelude.{Bool, true, ◌&&◌, List, [], ◌∷◌, map, ℕ, ◌^◌, ◌≤◌, nat_le, slice_index}
use Rattle.simplex.specs.Limit.{reads_of}
use Rattle.audit.specs.declared.Pair.{Pair}

-- No symbol is read more than once: in words, and as a test.
abbrev pub CollisionFree : List ℕ → Type 0
CollisionFree counts = (i : ℕ) → slice_index counts i ≤ 1

abbrev pub collision_free : List ℕ → Bool
collision_free [] = true
collision_free (c ∷ counts) = nat_le c 1 && collision_free counts

-- The pair that opens the systematic bank of symbol i (customers say: its single bank), and no other.
abbrev pub systematic_pair : (symbol : ℕ) → Pair
systematic_pair symbol = record { a = 2 ^ symbol; b = 0 }

-- That pair for each read [plan.systematic].
abbrev pub systematic_plan : List ℕ → List Pair
systematic_plan counts = map systematic_pair (reads_of counts)
