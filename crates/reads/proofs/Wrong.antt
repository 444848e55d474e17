-- With which number and place a packet is refused, and a list.
use Rattle.std.proofs.Common.{ℕ, ◌≡◌, ◌≢◌, ◌*◌, ◌<◌, Bool, ◌&&◌, false, ◌⊎◌, eqb, List, length}
use mathlib.Core.Logic.{⊎_elim}
use borrow.Author.Tests.{lt-ltb, le-ltb, le-leb, eq-eqb, ne_eqb}
use Rattle.std.proofs.lemmas.Bool.{lt-leb}
use Rattle.std.proofs.Math.Bool.{and-false}
use Rattle.refusals.specs.Verdict.{Verdict, Accepted, refused, refusal_of, first_refusal}
use Rattle.refusals.proofs.Verdicts.{stops, accepted_all}
use Rattle.layout.specs.declared.Shape.{Shape}
use Rattle.layout.specs.declared.PacketName.{PacketName}
use Rattle.reads.specs.Reads.{Reads, reads_in, read_at}
use Rattle.reads.specs.Refusals.{packet_refusal, read_refusal, group_refusal, reads_refusal, list_refusal}
use Rattle.reads.specs.Laws.{WrongPacket, MayRead, MayReadFirst, WrongReads, WrongList}

pub wrong_packet : (shape : Shape) (full : ℕ → Bool) (place : ℕ) (name : PacketName) → WrongPacket shape full place name (packet_refusal shape full place name)
wrong_packet shape full place name = record {
  seven = λ e. rw (le-ltb _ _ e);
  fourteen = λ r e. rw (lt-ltb _ _ r, le-ltb _ _ e);
  fifteen = λ r g e. rw (lt-ltb _ _ r, lt-ltb _ _ g, le-ltb _ _ e);
  nine = λ p e. rw (lt-ltb _ _ p.row, lt-ltb _ _ p.group, lt-ltb _ _ p.symbol, e);
}

pub may_read : (shape : Shape) (full : ℕ → Bool) (place : ℕ) (name : PacketName) → MayRead shape full name → packet_refusal shape full place name ≡ Accepted
may_read shape full place name m = rw (lt-ltb _ _ m.there.row, lt-ltb _ _ m.there.group, lt-ltb _ _ m.there.symbol, m.full_row)

module _ (shape : Shape) (full : ℕ → Bool) (reads : Reads) (out schedule : ℕ) where
  abbrev verdict : Verdict
  verdict = reads_refusal shape full reads out schedule

  first_may : (n : ℕ) → MayReadFirst shape full reads n → first_refusal (read_refusal shape full reads) n ≡ Accepted
  first_may n may = accepted_all (read_refusal shape full reads) n (λ i l. may_read shape full i (read_at reads i) (may i l))

  -- a read that is refused, after those that may be read, settles the list
  settles : (number n : ℕ) → n < length reads → MayReadFirst shape full reads n → read_refusal shape full reads n ≡ refused number n → verdict ≡ refused number n
  settles number n l may e = rw (stops (read_refusal shape full reads) (length reads) n (refusal_of number n) l (first_may n may) e)

  unfit : (out ≢ length reads * shape.p) ⊎ (schedule ≢ length reads * 2) → (eqb out (length reads * shape.p) && eqb schedule (length reads * 2)) ≡ false
  unfit wrong = ⊎_elim (λ n. rw (ne_eqb out _ n)) (λ n. rw (ne_eqb schedule _ n, and-false (eqb out _))) wrong

  pub wrong_reads : WrongReads shape full reads out schedule verdict
  wrong_reads = record {
    read = λ n l may. let w = wrong_packet shape full n (read_at reads n) in record {
      seven = λ e. settles 7 n l may (w.seven e);
      fourteen = λ r e. settles 14 n l may (w.fourteen r e);
      fifteen = λ r g e. settles 15 n l may (w.fifteen r g e);
      nine = λ p e. settles 9 n l may (w.nine p e);
    };
    twelve = λ may group over.
        let accepted : (lower : ℕ) → lower < group → group_refusal shape reads lower ≡ Accepted = λ lower l. rw (le-leb _ _ (over.lowest lower l)) in
        let own : group_refusal shape reads group ≡ refused 12 group = rw (lt-leb _ _ over.many) in
        rw (
          first_may (length reads) may,
          stops (group_refusal shape reads) shape.m group (refusal_of 12 group) over.below (accepted_all _ group accepted) own,
        );
    sixteen = λ may few wrong.
        let groups : first_refusal (group_refusal shape reads) shape.m ≡ Accepted = accepted_all _ _ (λ x l. rw (le-leb _ _ (few x l))) in
        rw (first_may (length reads) may, groups, unfit wrong);
  }

pub wrong_list : (shape : Shape) (full : ℕ → Bool) (list : List ℕ) (out schedule : ℕ) → WrongList shape full list out schedule (list_refusal shape full list out schedule)
unfolding list_refusal
wrong_list shape full list out schedule = record {
  thirteen = λ e. rw (ne_eqb _ _ e);
  reads = λ whole. rw (eq-eqb _ _ whole) (wrong_reads shape full (reads_in list) out schedule);
}
