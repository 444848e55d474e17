-- What was read of the text is the text that a session reads.
use Rattle.std.proofs.Common.{List, ℕ}
use Rattle.console.specs.Written.{Writes}
use Rattle.console.proofs.Reading.{as_input, all_written, longer, reached}
use Rattle.console.proofs.Turns.{in_bytes}
use Rattle.console.proofs.Written.{on_err}
use Rattle.console.proofs.answer_all.Goals as goal

pub returns-in_err-written-clause-written : goal.returns-in_err-written-clause-written
returns-in_err-written-clause-written g c =
    let contents = g.W.Write.contents in
    let r = c.from_residual-in_err-written.result in
    as_input (λ (output : List ℕ). Writes (contents c.args.writer.now) (contents c.answer-written.new.writer) r output)
    (g.R.Read.remaining c.args.reader) c.read_text.new.text c.in_ok-len.len c.in_ok-len.ensures.all
    (on_err _ _ r _ c.from_residual-in_err-written.ensures.0 (in_bytes (rw c.in_err-written.was at c.answer-written.ensures.answered)))

pub returns-then-len-lt-MOST_TEXT-clause-written : goal.returns-then-len-lt-MOST_TEXT-clause-written
returns-then-len-lt-MOST_TEXT-clause-written g c =
    all_written _ _ _ _ _ c.in_ok-len.ensures.all ((rw c.in_ok-written.was at c.answer-written.ensures.answered).written)

pub returns-clause-written : goal.returns-clause-written
returns-clause-written g c =
    all_written _ _ _ _ _ c.in_ok-len.ensures.all ((rw c.in_ok-written.was at c.answer-written.ensures.answered).written)

pub returns-clause-cut : goal.returns-clause-cut
returns-clause-cut g c =
    longer (g.R.Read.remaining c.args.reader) (g.R.Read.remaining c.read_text.new.reader) c.read_text.new.text c.in_ok-len.len c.has_more.result
    c.if-len-lt-MOST_TEXT.false c.in_ok-len.ensures.all c.in_ok-len.ensures.left c.has_more.ensures.more

pub returns-clause-whole : goal.returns-clause-whole
returns-clause-whole g c = reached _ _ _ c.has_more.result c.if-len-lt-MOST_TEXT.false c.in_ok-len.ensures.all
