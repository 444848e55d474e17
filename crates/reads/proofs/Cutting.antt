-- A list of bytes, cut into parts of three, is the list of its reads.
use Rattle.std.proofs.Common.{ℕ, zero, suc, ◌≡◌, ◌+◌, ◌*◌, ◌/◌, ◌≤◌, ◌<◌, List, [], ◌∷◌, length, refl, ap, ◌∙◌, arith}
use Rattle.std.proofs.lemmas.List.{length-map}
use Rattle.std.specs.Simd.{first_chunks}
use Rattle.layout.specs.Name.{name_of}
use lib.ListN.{get_or}
use Rattle.reads.specs.Reads.{names_of, reads_in, read_at}

pub names_many : (parts : List (List ℕ)) → length (names_of parts) ≡ length parts
names_many parts = length-map parts name_of

parts_of : (k : ℕ) (list : List ℕ) → 3 * k ≤ length list → length list < 3 * k + 3 → names_of (first_chunks 3 k list) ≡ reads_in list
parts_of zero [] l u = refl
parts_of zero (a ∷ []) l u = refl
parts_of zero (a ∷ b ∷ []) l u = refl
parts_of zero (a ∷ b ∷ c ∷ list) l u = absurd (omega arith)
parts_of (suc k) [] l u = absurd (omega arith)
parts_of (suc k) (a ∷ []) l u = absurd (omega arith)
parts_of (suc k) (a ∷ b ∷ []) l u = absurd (omega arith)
parts_of (suc k) (a ∷ b ∷ c ∷ list) l u = ap (λ reads. record { row = a; group = b; symbol = c } ∷ reads) (parts_of k list (omega arith) (omega arith))

pub cut : (list : List ℕ) (parts : List (List ℕ)) → parts ≡ first_chunks 3 (length list / 3) list → names_of parts ≡ reads_in list
cut list parts e = ap names_of e ∙ parts_of (length list / 3) list (omega arith) (omega arith)

pub many : (list : List ℕ) → length (reads_in list) ≡ length list / 3
many [] = refl
many (a ∷ []) = refl
many (a ∷ b ∷ []) = refl
many (a ∷ b ∷ c ∷ list) = omega (arith, many list)

-- read n is the bytes from 3n on
pub cut_read : (list : List ℕ) (n : ℕ) → n < length (reads_in list)
    → read_at (reads_in list) n ≡ record { row = get_or list (n * 3 + 0) 0; group = get_or list (n * 3 + 1) 0; symbol = get_or list (n * 3 + 2) 0 }
cut_read [] n l = absurd (omega arith)
cut_read (a ∷ []) n l = absurd (omega arith)
cut_read (a ∷ b ∷ []) n l = absurd (omega arith)
cut_read (a ∷ b ∷ c ∷ list) zero l = refl
cut_read (a ∷ b ∷ c ∷ list) (suc n) l =
    let past : (i : ℕ) → suc n * 3 + i ≡ suc (suc (suc (n * 3 + i))) = λ i. omega arith in
    rw (past 0, past 1, past 2) (cut_read list n (omega (arith, l)))
