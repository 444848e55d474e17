-- What a writer holds after bytes were written to it, and after lines were answered.
use Rattle.std.specs.Prelude.{◌≡◌, List, ◌∷◌, ◌++◌, ℕ, ◌-◌, ◌≤◌, length, Option, Result, MatchResult}
use Rattle.std.specs.Io.{StartsWith}
use Rattle.std.specs.Io.KnownBytes.{Appends}
use Rattle.frames.specs.Printing.{printed}
use Rattle.steps.specs.Session.{Session, After, line_done, lines_done}

-- Where it is known what a writer held, a front of these bytes stands behind it now and nothing else: not all of them, if there are any.
abbrev pub WritesFront : (old new : Option (List ℕ)) → (bytes : List ℕ) → Type 0
WritesFront old new bytes = (front : List ℕ) × StartsWith bytes front × (length front ≤ length bytes - 1) × Appends old new front

-- All of these bytes; after a failure, a front of them.
abbrev pub Writes : {T E : Type 0} → (old new : Option (List ℕ)) → Result T E → (bytes : List ℕ) → Type 0
Writes old new r bytes = MatchResult r (λ _. Appends old new bytes) (λ _. WritesFront old new bytes)

-- These lines are done, and their answers are written.
pub record AllDone (begun : Session) (first : List ℕ) (lines : List (List ℕ)) (session : Session) (store : List ℕ)
    (old new : Option (List ℕ)) : Type 0 where
  pub goes : session ≡ (lines_done begun first lines).session
  pub holds : store ≡ (lines_done begun first lines).store
  pub written : Appends old new (lines_done begun first lines).output

-- What a line does after others.
abbrev pub done_after : Session → (store : List ℕ) → (before : List (List ℕ)) → (line : List ℕ) → After
done_after begun first before line = let now = lines_done begun first before in line_done now.session now.store line

-- Some of these lines are done and their answers are written, and one more is done, of whose answer a front is written, but not all. Those
-- behind it are not done.
pub record Stopped (begun : Session) (first : List ℕ) (lines : List (List ℕ)) (session : Session) (store : List ℕ)
    (old new : Option (List ℕ)) : Type 0 where
  pub before : List (List ℕ)
  pub last : List ℕ
  pub behind : List (List ℕ)
  pub split : lines ≡ before ++ last ∷ behind
  pub goes : session ≡ (done_after begun first before last).session
  pub holds : store ≡ (done_after begun first before last).store
  pub middle : Option (List ℕ)
  pub written : Appends old middle (lines_done begun first before).output
  pub part : WritesFront middle new (printed (done_after begun first before last).answer)

-- The one where all was written, the other after a failure.
abbrev pub Answered : {T E : Type 0} → Session → (first : List ℕ) → (lines : List (List ℕ)) → Session → (store : List ℕ)
    → (old new : Option (List ℕ)) → Result T E → Type 0
Answered begun first lines session store old new r =
    MatchResult r (λ _. AllDone begun first lines session store old new) (λ _. Stopped begun first lines session store old new)
