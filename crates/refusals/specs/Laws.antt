-- The laws of refusals.
use Rattle.std.specs.Prelude.{◌≡◌, ℕ, ◌≤◌}
use Rattle.refusals.specs.declared.Reason.{Reason}
use Rattle.refusals.specs.Verdict.{number_of, reason_of}

-- back, forth: the reason for a number, and the number of a reason, are each other's inverse, for the numbers from 1 to 20.
pub record TheNumbers : Type 0 where
  pub back : (reason : Reason) → reason_of (number_of reason) ≡ reason
  pub forth : (number : ℕ) → 1 ≤ number → number ≤ 20 → number_of (reason_of number) ≡ number
