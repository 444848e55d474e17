-- What is put at the front of a buffer.
use Rattle.std.proofs.Common.{◌≡◌, ℕ, List, [], ◌∷◌, ◌++◌, length, min, take, drop, refl, sym, ap, ◌∙◌, length-take, take_at}
use Rattle.cells.specs.Cell.{put}

-- as much as there is room for, and then what that leaves of the buffer
pub put_front : (s c : List ℕ) → let front = take (length s) c in front ++ drop (length front) s ≡ put s 0 c
unfolding put
put_front [] c = refl
put_front (x ∷ s) [] = refl
put_front (x ∷ s) (y ∷ c) = ap (λ (r : List ℕ). y ∷ r) (put_front s c)

-- that front is read back
pub front_put : (s c : List ℕ) (n : ℕ) → n ≡ min (length s) (length c) → take n (put s 0 c) ≡ take (length s) c
front_put s c n e =
    let front = take (length s) c in
    ap (take n) (sym (put_front s c)) ∙ take_at front (drop (length front) s) n (length-take (length s) c ∙ sym e)
