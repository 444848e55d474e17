-- What the planner answers.
use Rattle.std.specs.Prelude.{◌≡◌, if◌then◌else◌, List, ℕ, ◌≤◌, ◌<◌, nat_le, slice_index, sum, Result}
use mathlib.Core.Path.{refl}
use Rattle.refusals.specs.declared.Refusal.{Refusal}
use Rattle.refusals.specs.Verdict.{Verdict, check, answer_by, ◌then◌}
use Rattle.simplex.specs.declared.TheConstants.{MOST_PAIRS}
use Rattle.simplex.specs.Shape.{limit_of}
use Rattle.audit.specs.declared.Pair.{Pair}
use Rattle.audit.specs.declared.Plan.{Plan}
use Rattle.audit.specs.Stored.{stored, pairs_in}
use Rattle.audit.specs.Audit.{counts_refusal, pair_bytes, Yes, audit_of}
use Rattle.table.specs.Finding.{table_plan}
use Rattle.plan.specs.Systematic.{collision_free, systematic_plan}

-- The plan for a request within the limit: of systematic banks where no symbol is read more than once, else by the stored table. The
-- definition is shut, and no proof of another crate can open it: which valid plan a request gets is free, and others have its laws alone
-- [plan.own].
pub plan_of : ℕ → List ℕ → List Pair
plan_of K counts = if collision_free counts then systematic_plan counts else table_plan K counts

-- What is in it, for the proofs of this crate. Elsewhere it says nothing: a crate that does not use `table` cannot name `table_plan`, nor
-- unfold it.
pub plan_of_is : (K : ℕ) (counts : List ℕ)
    → plan_of K counts ≡ (if collision_free counts then systematic_plan counts else table_plan K counts)
unfolding plan_of
plan_of_is K counts = refl

-- The refusals of a plan: 1 and 11 as of every request vector; 12, they are more reads than 2^(K-1) [plan.refusals].
unfoldable pub plan_refusal : ℕ → List ℕ → Verdict
plan_refusal K counts = counts_refusal K counts then check 12 0 (nat_le (sum counts) (limit_of K))

-- What the planner answers: a refusal, which has no pairs, or the plan.
unfoldable pub plan_answer : ℕ → List ℕ → Result Plan Refusal
plan_answer K counts = answer_by (stored (plan_of K counts)) (plan_refusal K counts)

-- A plan for the counts, in its arrays: there is a pair for each read; the audit says yes to the pairs; of each the greater bank is in the
-- first array; and behind the last pair both arrays are 0 [plan.pairs], [plan.places].
pub record PlanFor (K : ℕ) (counts : List ℕ) (plan : Plan) : Type 0 where
  pub reads : plan.len ≡ sum counts
  pub audited : audit_of K counts (pair_bytes (pairs_in plan)) ≡ Yes
  pub above : (n : ℕ) → n < plan.len → slice_index plan.second n < slice_index plan.first n
  pub behind : (n : ℕ) → plan.len ≤ n → n < MOST_PAIRS → (slice_index plan.first n ≡ 0) × (slice_index plan.second n ≡ 0)
