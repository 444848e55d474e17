-- The groups of a cycle: what the planner answers for each, and how they change one at a time.
use Rattle.std.proofs.Common.{ℕ, ◌≡◌, ◌≢◌, ◌≤◌, ◌<◌, Bool, true, false, eqb, leb, List, length, get_or, set, take, map, sum, Result, Ok, Err, IfOk, HoldsAt, refl, ◌∙◌, subst, arith}
use native.Mathlib.Nat.{le_trans}
use borrow.Author.Tests.{leb-true, eqb-true, eqb-false}
use Rattle.std.specs.List.{range_with_len}
use Rattle.std.proofs.lemmas.List.{length-set, length-take-le, get_or-take, get_or-set_same, get_or-set_other}
use Rattle.std.proofs.lemmas.List.FromFn.{length-map-range_with_len, get_or-map-range_with_len}
use Rattle.refusals.specs.declared.Refusal.{Refusal}
use Rattle.refusals.specs.Verdict.{Accepted, check, verdict_of}
use Rattle.refusals.proofs.Verdicts.{next_accepted, check_passed, answered}
use Rattle.simplex.specs.declared.TheConstants.{MOST_PAIRS}
use Rattle.simplex.specs.Shape.{SymbolsInRange, limit_of}
use Rattle.simplex.proofs.Tables.{limit_most}
use Rattle.audit.specs.Audit.{counts_refusal}
use Rattle.audit.proofs.Answer.{accepted}
use Rattle.audit.specs.declared.Plan.{Plan}
use Rattle.audit.specs.Stored.{stored}
use Rattle.plan.specs.Planned.{plan_of, plan_refusal, plan_answer}
use Rattle.layout.specs.declared.Shape.{Shape}
use Rattle.layout.specs.declared.TheConstants.{MOST_GROUPS}
use Rattle.layout.specs.Shape.{InRange}
use Rattle.reads.specs.Reads.{Reads, no_read, count_of, counts_of}
use Rattle.reads.specs.Refusals.{group_refusal}
use Rattle.reads.specs.Parts.{Named}
use Rattle.cycle.specs.declared.GroupReads.{GroupReads}
use Rattle.cycle.specs.Cycle.{Plans}
use Rattle.cycle.specs.Parts.{GroupAfter, GroupsAfter}
use Rattle.cycle.proofs.Pairs.{request}

-- ---- the planner's answer

module _ (K : ℕ) (counts : List ℕ) (range : SymbolsInRange K) (plan : Plan) (answer : ◌≡◌ {A = Result Plan Refusal} (Ok plan) (plan_answer K counts)) where
  planned : (plan ≡ stored (plan_of K counts)) × (plan_refusal K counts ≡ Accepted)
  unfolding plan_answer
  planned = answered (stored (plan_of K counts)) (plan_refusal K counts) plan answer

  pub plan_is : plan ≡ stored (plan_of K counts)
  plan_is = planned.0

  pub plan_few : sum counts ≤ MOST_PAIRS
  unfolding plan_refusal
  plan_few =
      let fits : leb (sum counts) (limit_of K) ≡ true =
      check_passed 12 0 (leb (sum counts) (limit_of K)) (next_accepted (counts_refusal K counts) _ planned.1) in
      le_trans (leb-true _ _ fits) (limit_most K range.most)

-- the first m of the counts of all groups
module _ (reads : Reads) (all : List (List ℕ)) (m : ℕ) (room : m ≤ MOST_GROUPS) (e : all ≡ map (counts_of reads) (range_with_len 0 MOST_GROUPS)) where
  pub counts_many : length (take m all) ≡ m
  counts_many = length-take-le m all (rw (e, length-map-range_with_len (counts_of reads) 0 MOST_GROUPS) room)

  pub group_counts : (group : ℕ) (d : List ℕ) → group < m → get_or (take m all) group d ≡ counts_of reads group
  group_counts group d l =
      get_or-take m all group d l ∙ rw e (get_or-map-range_with_len (counts_of reads) 0 MOST_GROUPS group group d (omega arith) (omega arith))

-- ---- the answer for a group of a list, whose refusal gets the group's place: its counts are a request vector, so only 12 is left

abbrev pub placed : {A : Type 0} → ℕ → Result A Refusal → Result A Refusal
placed x (Ok group) = Ok group
placed x (Err refusal) = Err (record { reason = refusal.reason; place = x })

placed_check : {A : Type 0} (x : ℕ) (r : Result A Refusal) (number : ℕ) (test : Bool) → verdict_of r ≡ check number 0 test
    → verdict_of (placed x r) ≡ check number x test
placed_check x (Ok group) number true e = refl
placed_check x (Ok group) number false e = cc
placed_check x (Err refusal) number true e = cc
placed_check x (Err refusal) number false e = cc

pub judged : (shape : Shape) (reads : Reads) (group : ℕ) (r : Result GroupReads Refusal) → InRange shape → Named shape reads
    → verdict_of r ≡ plan_refusal shape.k (counts_of reads group) → verdict_of (placed group r) ≡ group_refusal shape reads group
unfolding plan_refusal
judged shape reads group r range named answer =
    placed_check group r 12 (leb (sum (counts_of reads group)) (limit_of shape.k))
    (answer ∙ rw (accepted shape.k (counts_of reads group) (request shape.k reads group range.symbols (λ n l. (named n no_read l).symbol))) refl)

pub kept : (P : GroupReads → Type 0) (x : ℕ) (r : Result GroupReads Refusal) (group : GroupReads) → placed x r ≡ Ok group → IfOk r P → P group
kept P x (Ok g) group e h = let same : g ≡ group = cc in subst P same h
kept P x (Err refusal) group e h = absurd cc

-- ---- all groups, where that at x is replaced

pub groups_set : {plans : Plans} {reads : Reads} {n x : ℕ} {group : GroupReads} (m : ℕ) (groups : List GroupReads) → x < MOST_GROUPS → length groups ≡ MOST_GROUPS
    → GroupAfter (plans x) (counts_of reads x) (count_of (take n reads) x) group
    → ((y : ℕ) → y < m → y ≢ x → HoldsAt (GroupAfter (plans y) (counts_of reads y) (count_of (take n reads) y)) groups y)
    → GroupsAfter plans reads n m (set groups x group)
groups_set {plans} {reads} {n} {x} {group} m groups l size own others =
    record { size = length-set groups x group ∙ size; each = λ y h d. at y h d (eqb y x) refl }
  where
    at : (y : ℕ) → y < m → (d : GroupReads) (t : Bool) → eqb y x ≡ t
        → GroupAfter (plans y) (counts_of reads y) (count_of (take n reads) y) (get_or (set groups x group) y d)
    at y h d true e = rw (eqb-true y x e, get_or-set_same groups x group d (omega (arith, size))) own
    at y h d false e = rw (get_or-set_other groups x y group d (eqb-false y x e)) (others y h (eqb-false y x e) d)
