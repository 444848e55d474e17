-- The turns of a loop over a text's lines, each of which does a line and writes its answer.
use Rattle.std.proofs.Common.{◌≡◌, ℕ, ◌+◌, ◌≤◌, ◌<◌, List, [], ◌∷◌, ◌++◌, Option, length, take, refl, sym, ap, ◌∙◌, subst, append_assoc, append-nil, arith}
use Rattle.std.specs.Io.KnownBytes.{Appends}
use Rattle.std.proofs.KnownBytes.{Appends-nil, Appends-trans}
use Rattle.cells.proofs.Cells.{cell_put, length_put}
use Rattle.lines.specs.Lines.{lines_of, first_line, behind_line}
use Rattle.lines.specs.Reader.{left_of}
use Rattle.lines.proofs.Lines.{the_lines}
use Rattle.frames.specs.Printing.{printed}
use Rattle.steps.specs.declared.Next.{Next}
use Rattle.steps.specs.declared.TheConstants.{MOST_TEXT}
use Rattle.steps.specs.Session.{Session, After, AfterLines, line_done, lines_done, text_read}
use Rattle.steps.specs.Steps.{AnswersLine}
use Rattle.steps.proofs.Sessions.{done_more, output_append}
use Rattle.console.specs.Written.{WritesFront, AllDone, done_after, Stopped}
use Rattle.console.proofs.Written.{failed_inside, some_printed}

-- before a turn: these lines are done, of all, and those of what is left are not
pub record Turn (begun : Session) (first : List ℕ) (lines : List (List ℕ)) (session : Session) (store left : List ℕ) (old new : Option (List ℕ)) : Type 0 where
  pub before : List (List ℕ)
  pub split : lines ≡ before ++ lines_of left
  pub done : AllDone begun first before session store old new

-- at the start of what is read of a text
pub at_first : {begun : Session} {first left : List ℕ} {held : Option (List ℕ)} (input : List ℕ) → left ≡ take MOST_TEXT input → Turn begun first (text_read input) begun first left held held
unfolding lines_done
at_first input e = record { before = []; split = ap lines_of (sym e); done = record { goes = refl; holds = refl; written = Appends-nil _ } }

module _ {begun : Session} {first : List ℕ} {lines : List (List ℕ)} {session : Session} {store left out : List ℕ} {r : Next} {kept text : List ℕ} {old new : Option (List ℕ)}
    (t : Turn begun first lines session store left old new) (a : AnswersLine session store left out r kept text) where
  -- the line that is done
  next : lines ≡ t.before ++ first_line left ∷ lines_of (behind_line left)
  next = t.split ∙ ap (λ (l : List (List ℕ)). t.before ++ l) (the_lines.next left a.some)

  same : line_done session store (first_line left) ≡ done_after begun first t.before (first_line left)
  same = rw (t.done.goes, t.done.holds)

  -- its answer stands at the front of the output
  pub front : take r.reply.len text ≡ printed (done_after begun first t.before (first_line left)).answer
  front =
      let p = a.line.line in
      let line = printed (line_done session store (first_line left)).answer in
      let room : 0 + length line ≤ length out = omega (arith, p.room) in
      let is : take r.reply.len text ≡ line = rw (p.len, p.output) (cell_put out 0 line (length line) refl room) in
      rw same at is

  -- its answer is written
  pub turned : {now : Option (List ℕ)} → Appends new now (take r.reply.len text) → Turn begun first lines r.reply.session kept (left_of r.reader) old now
  turned {now = now} w =
      let line = first_line left in
      let more = done_more begun first t.before line in
      let wrote : Appends new now (printed (done_after begun first t.before line).answer) = rw front at w in
      record {
        before = t.before ++ line ∷ [];
        split = next ∙ sym (append_assoc t.before (line ∷ []) (lines_of (behind_line left))) ∙ ap (λ (l : List ℕ). (t.before ++ line ∷ []) ++ lines_of l) (sym a.behind);
        done = record {
          goes = a.line.session ∙ ap (λ (x : After). x.session) same ∙ ap (λ (x : AfterLines). x.session) (sym more);
          holds = a.line.store ∙ ap (λ (x : After). x.store) same ∙ ap (λ (x : AfterLines). x.store) (sym more);
          written = subst (Appends old now) (ap (λ (x : AfterLines). x.output) (sym more)) (Appends-trans _ _ _ _ _ t.done.written wrote);
        };
      }

  -- it is written in part
  pub cut_short : {now : Option (List ℕ)} → WritesFront new now (take r.reply.len text) → Stopped begun first lines r.reply.session kept old now
  cut_short {now = now} w = record {
    before = t.before;
    last = first_line left;
    behind = lines_of (behind_line left);
    split = next;
    goes = a.line.session ∙ ap (λ (x : After). x.session) same;
    holds = a.line.store ∙ ap (λ (x : After). x.store) same;
    middle = new;
    written = t.done.written;
    part = rw front at w;
  }

  pub same_room : (length text ≡ length out) × (r.reply.len ≤ length out) × (0 < r.reply.len)
  same_room =
      let p = a.line.line in
      (rw p.output (length_put out 0 _), rw p.len p.room, rw p.len (some_printed _))

-- at the end of the text all lines are done
pub at_last : {begun : Session} {first : List ℕ} {lines : List (List ℕ)} {session : Session} {store left : List ℕ} {old new : Option (List ℕ)} → left ≡ []
    → Turn begun first lines session store left old new → AllDone begun first lines session store old new
at_last e t =
    let all = t.split ∙ ap (λ (l : List ℕ). t.before ++ lines_of l) e ∙ ap (λ (l : List (List ℕ)). t.before ++ l) the_lines.none ∙ append-nil t.before in
    rw all t.done

-- a failure at a line, in bytes: a front of the whole output is written
pub in_bytes : {begun : Session} {first : List ℕ} {lines : List (List ℕ)} {session : Session} {store : List ℕ} {old new : Option (List ℕ)}
    → Stopped begun first lines session store old new → WritesFront old new (lines_done begun first lines).output
in_bytes {begun = begun} {first = first} s =
    let output = ap (λ (l : List (List ℕ)). (lines_done begun first l).output) s.split ∙ output_append begun first s.before s.last s.behind in
    failed_inside _ _ _ _ _ _ _ (some_printed _) output s.written s.part
