-- What holds of the planner.
use Rattle.std.specs.Prelude.{◌≡◌, ◌↔◌, ◌⊎◌, true, List, [], ◌∷◌, map, ℕ, ◌^◌, ◌<◌, length, slice_index_or, sum}
use Rattle.simplex.specs.declared.TheConstants.{MOST_SYMBOLS}
use Rattle.simplex.specs.Shape.{limit_of, is_bank}
use Rattle.simplex.specs.Limit.{reads_of, Servable}
use Rattle.refusals.specs.Verdict.{Verdict, Accepted, refused, verdict_of}
use Rattle.audit.specs.Plan.{opened, is_plan}
use Rattle.audit.specs.Laws.{WrongCounts}
use Rattle.audit.specs.Audit.{RequestOf, WithinLimit, pair_bytes, Yes, audit_of}
use Rattle.plan.specs.Systematic.{CollisionFree, collision_free, systematic_plan}
use Rattle.plan.specs.Planned.{plan_of, plan_refusal, plan_answer}

-- The reads can be served by sets of one or two banks each.
pub record ServableByFew (K P : ℕ) (reads : List ℕ) : Type 0 where
  pub servable : Servable K P reads
  pub few : (n : ℕ) → n < length reads → let set = slice_index_or servable.sets n [] in (length set ≡ 1) ⊎ (length set ≡ 2)

-- What refuses a request: as of every request vector; then 12, where its reads pass the limit.
pub record WrongRequest (K : ℕ) (counts : List ℕ) (verdict : Verdict) : Type 0 where
  pub vector : WrongCounts K counts verdict
  pub twelve : RequestOf K counts → limit_of K < sum counts → verdict ≡ refused 12 0

-- exactly: the planner accepts exactly the requests within the limit.
-- valid, audited: what it finds for each of them is a plan, and the audit says yes to it.
-- met: so the reads of each of them can be served, by one or two banks each: the limit is met.
-- refused: in words, with which number it refuses the others.
-- words: the test for collisions passes exactly the counts of which none is above 1.
-- fits: a request of such counts is within the limit.
-- systematic, one_bank: of such counts `plan_of` has for each read the systematic bank by itself, so the read opens that one bank. This
-- holds for every K, and of counts that are refused too.
pub record ThePlanner : Type 0 where
  pub exactly : (K : ℕ) (counts : List ℕ) → length counts ≡ MOST_SYMBOLS → (plan_refusal K counts ≡ Accepted) ↔ WithinLimit K counts
  pub valid : (K : ℕ) (counts : List ℕ) → WithinLimit K counts → is_plan (is_bank K) counts (plan_of K counts) ≡ true
  pub audited : (K : ℕ) (counts : List ℕ) → WithinLimit K counts → audit_of K counts (pair_bytes (plan_of K counts)) ≡ Yes
  pub met : (K P : ℕ) (counts : List ℕ) → WithinLimit K counts → ServableByFew K P (reads_of counts)
  pub refused : (K : ℕ) (counts : List ℕ) → WrongRequest K counts (verdict_of (plan_answer K counts))
  pub words : (counts : List ℕ) → (collision_free counts ≡ true) ↔ CollisionFree counts
  pub fits : (K : ℕ) (counts : List ℕ) → RequestOf K counts → CollisionFree counts → WithinLimit K counts
  pub systematic : (K : ℕ) (counts : List ℕ) → CollisionFree counts → plan_of K counts ≡ systematic_plan counts
  pub one_bank : (K : ℕ) (counts : List ℕ) → CollisionFree counts → map opened (plan_of K counts) ≡ map (λ i. 2 ^ i ∷ []) (reads_of counts)
