-- XOR of lists of bytes.
use Rattle.std.specs.Prelude.{List, [], ◌∷◌, ℕ, replicate}
use Rattle.std.specs.Int.Bits.{bit_xor}

-- Byte by byte, as far as both lists reach.
abbrev pub xor_bytes : List ℕ → List ℕ → List ℕ
xor_bytes [] q = []
xor_bytes (x ∷ p) [] = []
xor_bytes (x ∷ p) (y ∷ q) = bit_xor x y ∷ xor_bytes p q

-- p bytes, all 0: the XOR of no cells.
abbrev pub zeros : ℕ → List ℕ
zeros p = replicate p 0

-- The XOR of any number of cells of p bytes.
abbrev pub xor_all : ℕ → List (List ℕ) → List ℕ
xor_all p [] = zeros p
xor_all p (c ∷ cells) = xor_bytes c (xor_all p cells)
