-- What was read to the front of a text, which a session answers, and whether the input is longer.
use Rattle.std.proofs.Common.{◌≡◌, ℕ, ◌+◌, ◌≤◌, ◌<◌, ◌↔◌, min, Bool, IsTrue, List, Option, None, Some, Result, Ok, Err, IfSome, IfOk, IfErr, length, take, ap, ◌∙◌, subst, arith, length-append, length-take, take-take}
use Rattle.std.specs.Io.KnownBytes.{Consumes, Appends}
use lib.ListN.{length-replicate}
use Rattle.cells.specs.Xor.{zeros}
use Rattle.lines.specs.Input.{Fills}
use Rattle.lines.specs.Lines.{lines_of}
use Rattle.lines.proofs.Filled.{front_put}
use Rattle.frames.specs.declared.TheConstants.{MOST_STORE}
use Rattle.steps.specs.declared.TheConstants.{MOST_TEXT}
use Rattle.steps.specs.Session.{Fresh, lines_done, text_read, session_of}

-- what was read is the front of the input
front_read : (input text : List ℕ) (n : ℕ) → Fills (zeros MOST_TEXT) n text input → (n ≡ min MOST_TEXT (length input)) × (take n text ≡ take MOST_TEXT input)
front_read input text n read =
    let long : length (zeros MOST_TEXT) ≡ MOST_TEXT = length-replicate {A = ℕ} MOST_TEXT 0 in
    (read.0 ∙ ap (λ m. min m (length input)) long, ap (take n) read.1 ∙ front_put (zeros MOST_TEXT) input n read.0 ∙ ap (λ m. take m input) long)

-- as much is answered as of the whole input
pub as_input : (P : List ℕ → Type 0) (known : Option (List ℕ)) (text : List ℕ) (n : ℕ) → IfSome known (Fills (zeros MOST_TEXT) n text)
    → P (lines_done Fresh (zeros MOST_STORE) (text_read (take n text))).output → IfSome known (λ input. P (session_of input))
as_input P None text n read p = tt
as_input P (Some input) text n read p =
    let same : take MOST_TEXT (take n text) ≡ take MOST_TEXT input =
    ap (take MOST_TEXT) (front_read input text n read).1 ∙ take-take MOST_TEXT MOST_TEXT input (omega arith) in
    subst (λ l. P (lines_done Fresh (zeros MOST_STORE) (lines_of l)).output) same p

-- so all of it is written, where all that was read is
pub all_written : (old new known : Option (List ℕ)) (text : List ℕ) (n : ℕ) → IfSome known (Fills (zeros MOST_TEXT) n text)
    → Appends old new (lines_done Fresh (zeros MOST_STORE) (text_read (take n text))).output → IfSome known (λ input. Appends old new (session_of input))
all_written old new known text n read w = as_input (λ (output : List ℕ). Appends old new output) known text n read w

-- where as much was read as a session reads, the input has as much
pub reached : {E : Type 0} (known : Option (List ℕ)) (text : List ℕ) (n : ℕ) (look : Result Bool E) → MOST_TEXT ≤ n
    → IfSome known (Fills (zeros MOST_TEXT) n text) → IfSome known (λ input. IfErr look (λ e. MOST_TEXT ≤ length input))
reached None text n look all read = tt
reached (Some input) text n (Ok more) all read = tt
reached (Some input) text n (Err e) all read = omega (arith, (front_read input text n read).0)

-- where as much was read as a session reads, the input is longer exactly where something is left of it
pub longer : {E : Type 0} (known left : Option (List ℕ)) (text : List ℕ) (n : ℕ) (look : Result Bool E) → MOST_TEXT ≤ n
    → IfSome known (Fills (zeros MOST_TEXT) n text) → Consumes known left (take n text)
    → IfSome left (λ rest. IfOk look (λ more. IsTrue more ↔ (0 < length rest)))
    → IfSome known (λ input. IfOk look (λ more. IsTrue more ↔ (MOST_TEXT < length input)))
longer None left text n look all read used h = tt
longer (Some input) None text n look all read used h = absurd used
longer (Some input) (Some rest) text n (Err e) all read used h = tt
longer (Some input) (Some rest) text n (Ok more) all read used h =
    let front = front_read input text n read in
    let size : length input ≡ length (take n text) + length rest = ap length used ∙ length-append (take n text) rest in
    let part : length (take n text) ≡ min MOST_TEXT (length input) = ap length front.1 ∙ length-take MOST_TEXT input in
    (λ t. let some : 0 < length rest = h.0 t in omega (arith, front.0), λ l. h.1 (omega (arith, front.0)))
