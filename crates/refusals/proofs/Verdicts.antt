-- What a verdict tells: accepted, every check of it is passed; refused, one is not, and those before it are.
use mathlib.Core.Path.{◌≡◌, refl, sym, ap, ◌∙◌}
use mathlib.Core.Logic.{◌≢◌, ◌⊎◌, inl, inr, ⊎_elim, ◌↔◌}
use mathlib.Core.Bool.{Bool, true, false, ◌&&◌, false≢true}
use Prim.Native.Nat.{ℕ, zero, suc, ◌≤◌, ◌<◌}
use native.Mathlib.Nat.{eq-or-lt_of_le, le_of_suc-le-suc}
use native.Mathlib.Omega.{arith}
use borrow.Author.Tests.{le-leb, leb-true}
use lib.Dec.{leb}
use Rattle.std.proofs.lemmas.Bool.{false_from_ne_true}
use Rattle.std.specs.Prelude.{Result, Ok, Err}
use Rattle.std.specs.Result.{is_ok}
use Rattle.refusals.specs.declared.Refusal.{Refusal}
use Rattle.refusals.specs.Verdict.{Verdict, Accepted, reason_of, refusal_of, refused, between, check, answer_by, ◌then◌, first_refusal}

pub not_accepted : {A : Type 0} (r : Refusal) → ◌≡◌ {A = Verdict} (Err r) Accepted → A
not_accepted r e = cc

pub first_accepted : (v next : Verdict) → (v then next) ≡ Accepted → v ≡ Accepted
first_accepted Accepted next e = refl
first_accepted (Err r) next e = e

pub next_accepted : (v next : Verdict) → (v then next) ≡ Accepted → next ≡ Accepted
next_accepted Accepted next e = e
next_accepted (Err r) next e = not_accepted r e

pub check_passed : (number place : ℕ) (test : Bool) → check number place test ≡ Accepted → test ≡ true
check_passed number place true e = refl
check_passed number place false e = not_accepted (refusal_of number place) e

-- what every check of an accepted verdict tells
pub ruleset checks = (first_accepted, next_accepted, check_passed)

pub ok_accepted : (v : Verdict) → is_ok v ≡ true → v ≡ Accepted
ok_accepted Accepted e = refl
ok_accepted (Err r) e = absurd (false≢true e)

-- the other way round
pub accepted_then : (v next : Verdict) → v ≡ Accepted → next ≡ Accepted → (v then next) ≡ Accepted
accepted_then v next e f = rw (e, f)

-- a refusal is that of the first part, or the first is accepted and it is that of the next
pub then_refused : (v next : Verdict) (r : Refusal) → (v then next) ≡ Err r → (v ≡ Err r) ⊎ ((v ≡ Accepted) × (next ≡ Err r))
then_refused Accepted next r e = inr (refl, e)
then_refused (Err own) next r e = inl e

-- a check that is not passed refuses by its own number, at its own place
pub check_refused : (number place : ℕ) (test : Bool) (r : Refusal) → check number place test ≡ Err r
    → (reason_of number ≡ r.reason) × (place ≡ r.place) × (test ≡ false)
check_refused number place true r e = not_accepted r (sym e)
check_refused number place false r e = (cc, cc, refl)

-- ---- the first refusal of many

module _ (f : ℕ → Verdict) where
  -- the first that is refused settles it
  pub stops : (n i : ℕ) (r : Refusal) → i < n → first_refusal f i ≡ Accepted → f i ≡ Err r → first_refusal f n ≡ Err r
  stops zero i r l e h = absurd (omega arith)
  stops (suc n) i r l e h =
      ⊎_elim
      (λ (same : i ≡ n). rw (← same, e, h))
      (λ (less : i < n). rw (stops n i r less e h))
      (eq-or-lt_of_le (le_of_suc-le-suc l))

  pub all_accepted : (n : ℕ) → first_refusal f n ≡ Accepted → (i : ℕ) → i < n → f i ≡ Accepted
  all_accepted zero e i l = absurd (omega arith)
  all_accepted (suc n) e i l =
      ⊎_elim
      (λ (same : i ≡ n). ap f same ∙ next_accepted (first_refusal f n) (f n) e)
      (λ (less : i < n). all_accepted n (first_accepted (first_refusal f n) (f n) e) i less)
      (eq-or-lt_of_le (le_of_suc-le-suc l))

  pub accepted_all : (n : ℕ) → ((i : ℕ) → i < n → f i ≡ Accepted) → first_refusal f n ≡ Accepted
  accepted_all zero h = refl
  accepted_all (suc n) h = accepted_then (first_refusal f n) (f n) (accepted_all n (λ i l. h i (omega arith))) (h n (omega arith))

  -- a refusal is that of one of them, and those before it are accepted
  pub first_refused : (n : ℕ) (r : Refusal) → first_refusal f n ≡ Err r
      → (i : ℕ) × (i < n) × (f i ≡ Err r) × ((j : ℕ) → j < i → f j ≡ Accepted)
  first_refused zero r e = not_accepted r (sym e)
  first_refused (suc n) r e =
      ⊎_elim
      (λ h. let t = first_refused n r h in (t.0, omega (arith, t.1), t.2, t.3))
      (λ h. (n, omega arith, h.1, all_accepted n h.0))
      (then_refused (first_refusal f n) (f n) r e)

-- ---- a number that is not among those of its checks

abbrev pub Never : (number : ℕ) → Verdict → Type 0
Never number v = (place : ℕ) → v ≡ refused number place → ⊥

pub never_check : (number own place : ℕ) (test : Bool) → reason_of own ≢ reason_of number → Never number (check own place test)
never_check number own place test ne p e = ne (check_refused own place test (refusal_of number p) e).0

pub never_then : (number : ℕ) (v next : Verdict) → Never number v → Never number next → Never number (v then next)
never_then number v next a b place e = ⊎_elim (a place) (λ r. b place r.1) (then_refused v next (refusal_of number place) e)

pub never_first : (number : ℕ) (f : ℕ → Verdict) (n : ℕ) → ((i : ℕ) → Never number (f i)) → Never number (first_refusal f n)
never_first number f n h place e = let t = first_refused f n (refusal_of number place) e in h t.0 place t.2

-- so the refusal is that of what comes after it
pub skips : (number : ℕ) (v next : Verdict) (place : ℕ) → Never number v → (v then next) ≡ refused number place
    → (v ≡ Accepted) × (next ≡ refused number place)
skips number v next place never e =
    ⊎_elim (λ r. absurd (never place r)) (λ r. r) (then_refused v next (refusal_of number place) e)

pub first_same : (f g : ℕ → Verdict) (n : ℕ) → ((i : ℕ) → i < n → f i ≡ g i) → first_refusal f n ≡ first_refusal g n
first_same f g zero h = refl
first_same f g (suc n) h = rw (first_same f g n (λ i l. h i (omega arith)), h n (omega arith))

-- ---- answers

module _ {A : Type 0} (value : A) where
  -- an answer that is a value is the value, and nothing is refused
  pub answered : (v : Verdict) (x : A) → ◌≡◌ {A = Result A Refusal} (Ok x) (answer_by value v) → (x ≡ value) × (v ≡ Accepted)
  answered Accepted x e = (cc, refl)
  answered (Err r) x e = cc

-- ---- tests

-- two tests in one
pub both : (t u : Bool) → ((t && u) ≡ true) ↔ ((t ≡ true) × (u ≡ true))
both true u = (λ e. (refl, e), λ h. h.1)
both false u = (λ e. absurd (false≢true e), λ h. h.0)

-- a range, as a test and in words
pub between_words : (low high n : ℕ) → between low high n ≡ true → (low ≤ n) × (n ≤ high)
between_words low high n e = let t = (both (leb low n) (leb n high)).0 e in (leb-true low n t.0, leb-true n high t.1)

pub not_between : (low high n : ℕ) → ((low ≤ n) × (n ≤ high) → ⊥) → between low high n ≡ false
not_between low high n w = false_from_ne_true _ (λ e. w (between_words low high n e))

pub words_between : (low high n : ℕ) → (low ≤ n) × (n ≤ high) → between low high n ≡ true
words_between low high n w = rw (le-leb low n w.0, le-leb n high w.1)
