-- The planner's plan is a plan: systematic banks alone where no symbol is read more than once, else the stored row of the sorted request, renamed.
use mathlib.Core.Path.{◌≡◌, refl, ap, ◌∙◌}
use mathlib.Core.Logic.{◌⊎◌, inl, inr}
use mathlib.Core.Bool.{Bool, true, false}
use mathlib.Core.List.{List, [], ◌∷◌, map}
use Prim.Native.Nat.{ℕ, zero, suc, ◌^◌}
use lib.ListN.{length}
use Rattle.simplex.specs.Limit.{reads_of}
use Rattle.simplex.proofs.Requests.{length_reads}
use Rattle.std.proofs.lemmas.List.{get_or-map}
use Rattle.audit.specs.declared.Pair.{Pair}
use Rattle.simplex.specs.Shape.{is_bank}
use Rattle.audit.specs.Plan.{no_pair, opens, opened, is_plan, pair_at, IsPlan}
use Rattle.audit.specs.Audit.{RequestOf, WithinLimit}
use Rattle.audit.proofs.Reading.{complete}
use Rattle.audit.proofs.Served.{served_by}
use Rattle.table.specs.Finding.{table_plan}
use Rattle.table.proofs.ByTable.{table_plan_lem}
use Rattle.plan.specs.Systematic.{CollisionFree, collision_free, systematic_plan}
use Rattle.plan.specs.Planned.{plan_of, plan_of_is}
use Rattle.plan.specs.Laws.{ServableByFew}
use Rattle.plan.proofs.Systematic.{free_words, words_free, systematic_plan_lem, opened_one, few_reads}

-- ---- which of the two it is

pub is_systematic : (K : ℕ) (counts : List ℕ) → collision_free counts ≡ true → plan_of K counts ≡ systematic_plan counts
is_systematic K counts e = rw e at (plan_of_is K counts)

is_from_table : (K : ℕ) (counts : List ℕ) → collision_free counts ≡ false → plan_of K counts ≡ table_plan K counts
is_from_table K counts e = rw e at (plan_of_is K counts)

pub systematic_law : (K : ℕ) (counts : List ℕ) → CollisionFree counts → plan_of K counts ≡ systematic_plan counts
systematic_law K counts free = is_systematic K counts (words_free counts free)

pub one_bank_lem : (K : ℕ) (counts : List ℕ) → CollisionFree counts → map opened (plan_of K counts) ≡ map (λ i. 2 ^ i ∷ []) (reads_of counts)
one_bank_lem K counts free = ap (map opened) (systematic_law K counts free) ∙ opened_one (reads_of counts)

pub fits : (K : ℕ) (counts : List ℕ) → RequestOf K counts → CollisionFree counts → WithinLimit K counts
fits K counts request free = record { request = request; total_most = few_reads K counts request free }

-- ---- it is a plan

pub is_plan_lem : (K : ℕ) (counts : List ℕ) → WithinLimit K counts → IsPlan (is_bank K) counts (plan_of K counts)
is_plan_lem K counts w = go (collision_free counts) refl
  where
    go : (t : Bool) → collision_free counts ≡ t → IsPlan (is_bank K) counts (plan_of K counts)
    go true e = rw (is_systematic K counts e) (systematic_plan_lem K counts w.request (free_words counts e))
    go false e = rw (is_from_table K counts e) (table_plan_lem K counts w)

one_or_two : (pair : Pair) → (length (opened pair) ≡ 1) ⊎ (length (opened pair) ≡ 2)
one_or_two pair = go pair.b
  where
    go : (b : ℕ) → (length (opens pair.a b) ≡ 1) ⊎ (length (opens pair.a b) ≡ 2)
    go zero = inl refl
    go (suc b) = inr refl

pub met : (K P : ℕ) (counts : List ℕ) → WithinLimit K counts → ServableByFew K P (reads_of counts)
met K P counts w =
    let plan = is_plan_lem K counts w in
    record {
      servable = record { sets = map opened (plan_of K counts); served = served_by K (λ b e. e) P counts (plan_of K counts) plan };
      few = λ n h. rw (get_or-map opened (plan_of K counts) n no_pair [] (rw (plan.one_each, ← (length_reads counts)) h)) (one_or_two (pair_at (plan_of K counts) n));
    }

pub passes : (K : ℕ) (counts : List ℕ) → WithinLimit K counts → is_plan (is_bank K) counts (plan_of K counts) ≡ true
passes K counts w = complete (is_bank K) counts (plan_of K counts) (is_plan_lem K counts w)
