-- `cycle::begin_groups` meets its contract.
use Rattle.std.proofs.Common.{◌≡◌, ℕ, List, get_or, take, [], ◌+◌, ◌<◌, ap, ◌∙◌, sym, Err, rules, arith, add-one}
use Rattle.refusals.specs.Verdict.{verdict_of, first_refusal}
use Rattle.refusals.proofs.Verdicts.{accepted_then, stops}
use Rattle.plan.specs.Planned.{plan_refusal}
use Rattle.reads.specs.Reads.{names_of, counts_of}
use Rattle.reads.specs.Refusals.{group_refusal}
use Rattle.cycle.proofs.Groups.{counts_many, group_counts, placed, judged, kept, groups_set}
use Rattle.cycle.proofs.begin_groups.Goals.{After-map_err}
use Rattle.cycle.proofs.begin_groups.Goals as goal

-- the counts of this turn's group, and the answer for it
within : (c : After-map_err) → c.loop-x.x-counter < c.args.geometry.shape.m
within c = rw (counts_many (names_of c.args.reads.now) _ _ c.args.geometry.in_range.groups.1 c.count_reads-counts.ensures) at c.loop-x-test.true

own : (c : After-map_err) (d : List ℕ) → get_or (take c.args.geometry.shape.m c.count_reads-counts.result) c.loop-x.x-counter d ≡ counts_of (names_of c.args.reads.now) c.loop-x.x-counter
own c d = group_counts (names_of c.args.reads.now) _ _ c.args.geometry.in_range.groups.1 c.count_reads-counts.ensures _ d (within c)

moved : (c : After-map_err) → c.map_err.result ≡ placed c.loop-x.x-counter c.begin_group.result
moved c = search rules

answered : (c : After-map_err) → verdict_of c.map_err.result ≡ group_refusal c.args.geometry.shape (names_of c.args.reads.now) c.loop-x.x-counter
answered c =
    ap verdict_of (moved c)
    ∙ judged c.args.geometry.shape (names_of c.args.reads.now) c.loop-x.x-counter _ c.args.geometry.in_range c.requires
    (c.begin_group.ensures.verdict ∙ ap (plan_refusal c.args.geometry.shape.k) (own c _))

pub returns-in_err-groups-clause-verdict : goal.returns-in_err-groups-clause-verdict
returns-in_err-groups-clause-verdict c =
    let here = (goal.at.returns-in_err-groups-clause-verdict c).After-map_err in
    let result : c.from_residual.result ≡ Err c.in_err-groups.field-0.0 = search rules in
    ap verdict_of result
    ∙ sym (stops (group_refusal c.args.geometry.shape (names_of c.args.reads.now)) c.args.geometry.shape.m c.loop-x.x-counter _ (within here) c.loop-x.invariant.0
    (sym (answered here) ∙ ap verdict_of (c.in_err-groups.was {u = tt})))

pub loop-x-preserved : goal.loop-x-preserved
loop-x-preserved c =
    let l = c.loop-x in
    let here = (goal.at.loop-x-preserved c).After-map_err in
    let was = c.in_ok-groups.was {u = tt} in (
      rw (add-one l.x-counter) (accepted_then (first_refusal (group_refusal c.args.geometry.shape (names_of c.args.reads.now)) l.x-counter) _ l.invariant.0 (sym (answered here) ∙ ap verdict_of was)),
      groups_set (l.x-counter + 1) l.groups (omega (arith, within here)) l.invariant.1.size
          (rw (← own here []) (kept _ l.x-counter c.begin_group.result _ (sym (moved here) ∙ was) c.begin_group.ensures.planned))
          (λ y h ne. l.invariant.1.each y (omega arith)),
    )
