-- The planner's answer, from what its parts say.
use mathlib.Core.Path.{◌≡◌, refl, sym, ap, ◌∙◌, subst}
use mathlib.Core.Bool.{Bool, cond}
use mathlib.Core.Logic.{◌↔◌}
use mathlib.Core.List.{List}
use Prim.Native.Nat.{ℕ, ◌+◌, ◌-◌, ◌≤◌, ◌<◌}
use native.Mathlib.Omega.{arith}
use borrow.Author.Tests.{le-leb, leb-true}
use lib.Dec.{leb}
use lib.ListN.{length, get_or}
use Rattle.std.specs.Prelude.{Some, Ok}
use Rattle.refusals.specs.Verdict.{Verdict, Accepted, check, verdict_of, ◌then◌}
use Rattle.refusals.proofs.Verdicts.{first_accepted, next_accepted, check_passed}
use Rattle.simplex.specs.declared.Group.{Group}
use Rattle.simplex.specs.declared.TheConstants.{MOST_SYMBOLS, MOST_PAIRS}
use Rattle.simplex.specs.Shape.{group_of, limit_of, is_bank}
use Rattle.std.specs.List.{sum}
use Rattle.audit.specs.declared.Pair.{Pair}
use Rattle.audit.specs.Plan.{is_plan}
use Rattle.audit.specs.Audit.{counts_refusal, rest_of, WithinLimit, pair_bytes, Yes, audit_of}
use Rattle.audit.specs.Laws.{WrongCounts}
use Rattle.audit.proofs.Reading.{serves_at}
use Rattle.audit.proofs.Served.{at_most}
use Rattle.std.proofs.lemmas.Bool.{false_from_ne_true}
use Rattle.audit.proofs.Answer as Answer
use Rattle.audit.proofs.Answer.{request, accepted, verdict_by, wrong_counts, says_yes, pairs_bytes, even_bytes}
use Rattle.audit.specs.declared.Plan.{Plan}
use Rattle.plan.specs.Systematic.{CollisionFree, collision_free, systematic_plan}
use Rattle.table.specs.Finding.{table_plan}
use Rattle.audit.specs.Stored.{stored, pairs_in}
use Rattle.plan.specs.Planned.{plan_of, plan_of_is, plan_refusal, plan_answer, PlanFor}
use Rattle.plan.specs.Laws.{WrongRequest}
use Rattle.plan.proofs.Planning.{systematic_law, is_plan_lem, passes}
use Rattle.audit.proofs.Storing.{in_column, behind, read_back}

module _ (K : ℕ) (counts : List ℕ) where
  within : length counts ≡ MOST_SYMBOLS → counts_refusal K counts ≡ Accepted → sum counts ≤ limit_of K → WithinLimit K counts
  within n e h = record { request = request K counts n e; total_most = h }

  pub exactly : length counts ≡ MOST_SYMBOLS → (plan_refusal K counts ≡ Accepted) ↔ WithinLimit K counts
  unfolding plan_refusal
  exactly n = (
    λ e.
        let last : Verdict = check 12 0 (leb (sum counts) (limit_of K)) in
        within n (first_accepted (counts_refusal K counts) last e)
        (leb-true (sum counts) (limit_of K) (check_passed 12 0 (leb (sum counts) (limit_of K)) (next_accepted (counts_refusal K counts) last e))),
    λ w. rw (accepted K counts w.request, le-leb (sum counts) (limit_of K) w.total_most),
  )

  -- a refusal of the vector is the whole one's
  wrong_vector : (v next : Verdict) → WrongCounts K counts v → WrongCounts K counts (v then next)
  wrong_vector v next w = record { one = λ out. rw (w.one out) refl; eleven = λ range i l some. rw (w.eleven range i l some) refl }

  pub wrong_request : WrongRequest K counts (verdict_of (plan_answer K counts))
  unfolding plan_answer plan_refusal
  wrong_request =
      let last : Verdict = check 12 0 (leb (sum counts) (limit_of K)) in
      let same = verdict_by (stored (plan_of K counts)) (plan_refusal K counts) in
      record {
        vector = subst (WrongCounts K counts) (sym same) (wrong_vector (counts_refusal K counts) last (wrong_counts K counts));
        twelve = λ request many. same ∙ rw (accepted K counts request, false_from_ne_true (leb (sum counts) (limit_of K)) (λ e. omega (arith, leb-true (sum counts) (limit_of K) e))) refl;
      }

  pub audited : WithinLimit K counts → audit_of K counts (pair_bytes (plan_of K counts)) ≡ Yes
  audited w =
      says_yes K counts (pair_bytes (plan_of K counts)) (accepted K counts w.request) (even_bytes (plan_of K counts))
      (ap (is_plan (is_bank K) counts) (pairs_bytes (plan_of K counts)) ∙ passes K counts w)

  -- the plan of a request within the limit, in its arrays
  module _ (w : WithinLimit K counts) (plan : Plan) (is : plan ≡ stored (plan_of K counts)) where
    read : pairs_in plan ≡ plan_of K counts
    read = ap pairs_in is ∙ read_back (plan_of K counts) (at_most K (λ b e. e) counts (plan_of K counts) w.request.symbols.most (passes K counts w))

    valid : PlanFor K counts plan
    valid = record {
      reads = ap (λ (p : Plan). p.len) is ∙ (is_plan_lem K counts w).one_each;
      audited = ap (λ (ps : List Pair). audit_of K counts (pair_bytes ps)) read ∙ audited w;
      above = λ n l.
          let pairs = plan_of K counts in
          let n_less : n < sum counts = omega (arith, ap (λ (p : Plan). p.len) is, (is_plan_lem K counts w).one_each) in
          let room : n < MOST_PAIRS = omega (arith, at_most K (λ b e. e) counts pairs w.request.symbols.most (passes K counts w), (is_plan_lem K counts w).one_each) in
          omega (
            arith,
            (serves_at (is_bank K) counts pairs (is_plan_lem K counts w) n n_less).above,
            ap (λ (p : Plan). get_or p.first n 0) is ∙ in_column (λ q. q.a) pairs n room,
            ap (λ (p : Plan). get_or p.second n 0) is ∙ in_column (λ q. q.b) pairs n room,
          );
      behind = λ n l h.
          let past : length (plan_of K counts) ≤ n = omega (arith, ap (λ (p : Plan). p.len) is) in (
            ap (λ (p : Plan). get_or p.first n 0) is ∙ behind (λ q. q.a) (plan_of K counts) n past h,
            ap (λ (p : Plan). get_or p.second n 0) is ∙ behind (λ q. q.b) (plan_of K counts) n past h,
          );
    }

    systematic : CollisionFree counts → pairs_in plan ≡ systematic_plan counts
    systematic free = read ∙ systematic_law K counts free

  -- an accepted request, of which the limit leaves some reads
  module _ (n : length counts ≡ MOST_SYMBOLS) (e : Accepted ≡ counts_refusal K counts) (group : Group) (g : group ≡ group_of K) (left : ℕ)
      (r : Some left ≡ rest_of group.limit counts) where
    room_left : limit_of K ≡ sum counts + left
    room_left = rw (← ap (λ (x : Group). x.limit) g) (Answer.within group.limit counts left r)

    pub fits : WithinLimit K counts
    fits = let room = room_left in within n (sym e) (omega arith)

    pub left_is : left ≡ limit_of K - sum counts
    left_is = let room = room_left in omega arith

    pub total_is : group.limit - left ≡ sum counts
    total_is = let room = room_left in let limit : group.limit ≡ limit_of K = ap (λ (x : Group). x.limit) g in omega arith

    -- a plan of either kind keeps the promise
    pub kept : (test : Bool) → test ≡ collision_free counts → (plan : Plan) → plan ≡ stored (cond test (systematic_plan counts) (table_plan K counts))
        → (Ok plan ≡ plan_answer K counts) × PlanFor K counts plan × (CollisionFree counts → pairs_in plan ≡ systematic_plan counts)
    unfolding plan_answer
    kept test t plan as_test =
        let is = as_test ∙ ap (λ (b : Bool). stored (cond b (systematic_plan counts) (table_plan K counts))) t ∙ ap stored (sym (plan_of_is K counts)) in
        (rw ((exactly n).1 fits, is), valid fits plan is, systematic fits plan is)
