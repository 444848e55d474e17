-- What is written in parts, one behind the other, and where a failure leaves it.
use Rattle.std.proofs.Common.{◌≡◌, ℕ, ◌-◌, ◌≤◌, ◌<◌, List, [], ◌∷◌, ◌++◌, Option, Result, Ok, Err, IsErr, length, take, drop, sym, ap, ◌∙◌, append_assoc, length-append, length-drop, take-append-drop, true≢false, arith}
use lib.Seq.{take-append_seam}
use Rattle.std.proofs.lemmas.List.{take_rest}
use Rattle.std.specs.Io.KnownBytes.{Appends}
use Rattle.std.proofs.KnownBytes.{Appends-trans, starts_with_rest}
use Rattle.lines.specs.Lines.{line_feed}
use Rattle.lines.specs.Hex.{digits_of}
use Rattle.frames.specs.Printing.{printed}
use Rattle.console.specs.Written.{WritesFront, Writes}

-- ---- one write after another

-- what is written of some bytes, and the rest of them, after n of the rest have been written too
pub moved : (all done rest : List ℕ) (n : ℕ) → all ≡ done ++ rest → all ≡ (done ++ take n rest) ++ take (length rest - n) (drop n rest)
moved all done rest n e =
    e ∙ ap (λ l. done ++ l) (sym (take-append-drop n rest)) ∙ sym (append_assoc done (take n rest) (drop n rest))
    ∙ ap (λ l. (done ++ take n rest) ++ l) (sym (take_rest rest n))

-- and something is left, if that was not all of the rest
pub some_left : (rest : List ℕ) (n : ℕ) → n < length rest → 0 < length (take (length rest - n) (drop n rest))
some_left rest n part = rw (take_rest rest n, length-drop) (omega arith)

-- a failure where something is left
pub stopped : (old new : Option (List ℕ)) (all done rest : List ℕ) → 0 < length rest → all ≡ done ++ rest → Appends old new done → WritesFront old new all
stopped old new all done rest some split a =
    let fewer : length done ≤ length all - 1 = rw split (omega (arith, length-append done rest)) in
    (done, ap (take (length done)) split ∙ take-append_seam done rest, fewer, a)

-- what the front of some bytes is to a failure
pub on_err : {T E : Type 0} (old new : Option (List ℕ)) (r : Result T E) (bytes : List ℕ) → IsErr r → WritesFront old new bytes → Writes old new r bytes
on_err old new (Ok x) bytes h w = absurd (true≢false (sym h))
on_err old new (Err e) bytes h w = w

-- ---- one line after another

-- a failure inside a line, which is not empty, behind some that were written
pub failed_inside : (old mid new : Option (List ℕ)) (all done line rest : List ℕ) → 0 < length line → all ≡ done ++ (line ++ rest) → Appends old mid done
    → WritesFront mid new line → WritesFront old new all
failed_inside old mid new all done line rest some e a w =
    let (front, starts, fewer, more) = w in
    let after = drop (length front) line in
    let parts : line ≡ front ++ after = starts_with_rest line front starts in
    let split : all ≡ (done ++ front) ++ (after ++ rest) =
    e ∙ ap (λ l. done ++ (l ++ rest)) parts
    ∙ ap (λ l. done ++ l) (append_assoc front after rest) ∙ sym (append_assoc done front (after ++ rest)) in
    let left : 0 < length (after ++ rest) = omega (arith, ap length parts, length-append front after, length-append after rest) in
    stopped old new all (done ++ front) (after ++ rest) left split (Appends-trans old mid new done front a more)

-- a printed line has its line feed
pub some_printed : (bytes : List ℕ) → 0 < length (printed bytes)
some_printed bytes = omega (arith, length-append (digits_of bytes) (line_feed ∷ []))
