-- Where the bytes are no plan, by their number.
use Rattle.std.proofs.Common.{ℕ, ◌/◌, sym, ◌∙◌, length, arith}
use borrow.Author.Tests.{not-true, not-false, eqb-true, eqb-false}
use Rattle.audit.proofs.Answer.{in_range, odd, not_just, even, just}
use Rattle.audit.proofs.audit.Goals as goal
use Rattle.audit.proofs.audit.Goals.{then-bytes-ne0-via-then-bytes-ne0, then-bytes-ne0-via-else-bytes-ne0+then-ne}

pub returns-then-bytes-ne0 : goal.returns-then-bytes-ne0
returns-then-bytes-ne0 c =
    let accepted = sym (c.in_ok-judge_counts.ensures {u = tt}) in
    let room : ℕ = length c.args.bytes.now / 2 in
    elim c.then-bytes-ne0.branch [
      | then-bytes-ne0-via-then-bytes-ne0 w ↦ odd c.args.k c.args.counts c.args.bytes.now accepted (λ e. w.if-bytes-ne0.true (omega arith))
      | then-bytes-ne0-via-else-bytes-ne0+then-ne w ↦
          not_just c.args.k c.args.counts c.args.bytes.now accepted
          (eqb-false _ _ (sym (just room c.args.counts _ w.take_from.ensures) ∙ not-true _ (sym w.ne.ensures ∙ w.if-ne.true)))
    ]

pub audit_pairs-requires : goal.audit_pairs-requires
audit_pairs-requires c =
    let accepted = sym (c.in_ok-judge_counts.ensures {u = tt}) in
    let room : ℕ = length c.args.bytes.now / 2 in
    let all = eqb-true _ _ (sym (just room c.args.counts _ c.take_from.ensures) ∙ not-false _ (sym c.ne.ensures ∙ c.if-ne.false)) in
    record { symbols_in_range = in_range c.args.k c.args.counts accepted; even = omega arith }

pub returns : goal.returns
returns c =
    even c.args.k c.args.counts c.args.bytes.now (sym (c.in_ok-judge_counts.ensures {u = tt})) c.if-bytes-ne0.false c.audit_pairs.result c.audit_pairs.ensures
