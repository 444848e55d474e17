-- As far as the line goes: what `take_while` lets through of the text from `at` on.
use Rattle.std.proofs.Common.{◌≡◌, ◌+◌, ◌-◌, ℕ, List, min, length, take, drop, rules, tests, arith, ◌∙◌, ap, sym}
use Rattle.std.proofs.lemmas.Grind.{common_steps}
use Rattle.std.proofs.lemmas.List.{drop_min}
use Rattle.std.proofs.lemmas.Iterator.{YieldsList-from_slice}
use Rattle.std.proofs.lemmas.Iterator.Consumers.{YieldsList-at, count_from_yields_List}
use Rattle.std.proofs.lemmas.Iterator.Search.{YieldsList-from_take_while}
use Rattle.lines.proofs.Lines.{in_line, first_prefix}
use Rattle.lines.proofs.reader.line_end.Goals as goal

-- the part of a text from an index on, which may be past its end
from : (text : List ℕ) (at i : ℕ) → i ≡ min at (length text) → take (length text - i) (drop i text) ≡ drop at text
from text at i e = grind (arith, common_steps, drop_min)

pub returns : goal.returns
returns c =
    let rest = drop c.args.at c.args.text.now in
    let lent = c.iter.ensures.rest ∙ from c.args.text.now c.args.at c.min.result c.min.ensures in
    ap (λ n. c.args.at + n)
    (count_from_yields_List c.take_while.result _ c.count.ensures.ran
    (YieldsList-from_take_while _ in_line (YieldsList-at c.take_while.ensures.source (YieldsList-from_slice rest lent))
    c.take_while.ensures.closure c.take_while.ensures.done (λ x b q k. search (rules, tests)))
    ∙ ap length (sym (first_prefix rest)))
