-- What an accepted list of reads tells: each check is passed.
use Rattle.std.proofs.Common.{ℕ, ◌≡◌, ◌*◌, ◌%◌, ◌≤◌, ◌<◌, Bool, true, ◌&&◌, eqb, List, length, sum}
use native.Mathlib.Nat.{le_trans}
use Rattle.std.proofs.lemmas.Bool.{and_parts}
use Rattle.std.proofs.lemmas.List.Elements.{All-from_get_or}
use borrow.Author.Tests.{ltb-true, leb-true, eqb-true, lt-ltb, le-leb, eq-eqb}
use Rattle.refusals.specs.Verdict.{Accepted, first_refusal}
use Rattle.refusals.proofs.Verdicts.{checks, all_accepted, accepted_all}
use Rattle.simplex.specs.declared.TheConstants.{MOST_PAIRS}
use Rattle.simplex.proofs.Tables.{limit_most}
use Rattle.layout.specs.declared.Shape.{Shape}
use Rattle.layout.specs.Shape.{InRange}
use Rattle.reads.specs.Reads.{Reads, reads_in, no_read, read_at, counts_of}
use Rattle.reads.specs.Refusals.{form_refusal, read_refusal, group_refusal, reads_refusal, list_refusal}
use Rattle.layout.specs.Name.{PacketOf}
use Rattle.reads.specs.Parts.{Named, Few}
use Rattle.reads.specs.Laws.{RightList}

pub record Accepts (shape : Shape) (full : ℕ → Bool) (reads : Reads) (out schedule : ℕ) : Type 0 where
  pub named : Named shape reads
  pub rows_full : (n : ℕ) → n < length reads → full (read_at reads n).row ≡ true
  pub few : Few shape reads
  pub out_size : out ≡ length reads * shape.p
  pub schedule_size : schedule ≡ length reads * 2

pub accepted_few : (shape : Shape) (reads : Reads) → first_refusal (group_refusal shape reads) shape.m ≡ Accepted → Few shape reads
accepted_few shape reads e group l = let a = all_accepted (group_refusal shape reads) shape.m e group l in search (checks, leb-true)

-- a plan's pairs have room in its arrays
pub few_pairs : (shape : Shape) (reads : Reads) → InRange shape → Few shape reads → (group : ℕ) → group < shape.m
    → sum (counts_of reads group) ≤ MOST_PAIRS
few_pairs shape reads range few group l = le_trans (few group l) (limit_most shape.k range.symbols.most)

-- what the form of a read tells
pub form_named : (shape : Shape) (reads : Reads) (n : ℕ) → form_refusal shape reads n ≡ Accepted → PacketOf shape (read_at reads n)
form_named shape reads n e =
    record { row = search (checks, ltb-true); group = search (checks, ltb-true); symbol = search (checks, ltb-true) }

pub all_named : (shape : Shape) (reads : Reads) → ((n : ℕ) → n < length reads → form_refusal shape reads n ≡ Accepted) → Named shape reads
all_named shape reads each = All-from_get_or (PacketOf shape) reads no_read (λ n l. form_named shape reads n (each n l))

module _ (shape : Shape) (full : ℕ → Bool) (reads : Reads) where
  module _ (e : first_refusal (read_refusal shape full reads) (length reads) ≡ Accepted) where
    read_accepted : (n : ℕ) → n < length reads → read_refusal shape full reads n ≡ Accepted
    read_accepted = all_accepted (read_refusal shape full reads) (length reads) e

    pub accepted_named : Named shape reads
    accepted_named = all_named shape reads (λ n l. let a = read_accepted n l in search checks)

    accepted_full : (n : ℕ) → n < length reads → full (read_at reads n).row ≡ true
    accepted_full n l = let a = read_accepted n l in search checks

  module _ (out schedule : ℕ) where
    pub reads_accepts : reads_refusal shape full reads out schedule ≡ Accepted → Accepts shape full reads out schedule
    reads_accepts e =
        let each : first_refusal (read_refusal shape full reads) (length reads) ≡ Accepted = search checks in
        let groups : first_refusal (group_refusal shape reads) shape.m ≡ Accepted = search checks in
        let sizes : (eqb out (length reads * shape.p) && eqb schedule (length reads * 2)) ≡ true = search checks in
        let fit = and_parts _ _ sizes in
        record {
          named = accepted_named each;
          rows_full = accepted_full each;
          few = accepted_few shape reads groups;
          out_size = eqb-true _ _ fit.0;
          schedule_size = eqb-true _ _ fit.1;
        }

    pub reads_accepted : Accepts shape full reads out schedule → reads_refusal shape full reads out schedule ≡ Accepted
    reads_accepted a =
        let each : first_refusal (read_refusal shape full reads) (length reads) ≡ Accepted =
        accepted_all _ _ (λ n l. let f = a.named n no_read l in rw (lt-ltb _ _ f.row, lt-ltb _ _ f.group, lt-ltb _ _ f.symbol, a.rows_full n l)) in
        let groups : first_refusal (group_refusal shape reads) shape.m ≡ Accepted = accepted_all _ _ (λ x l. rw (le-leb _ _ (a.few x l))) in
        rw (each, groups, eq-eqb _ _ a.out_size, eq-eqb _ _ a.schedule_size)

module _ (shape : Shape) (full : ℕ → Bool) (list : List ℕ) (out schedule : ℕ) where
  pub accepts : list_refusal shape full list out schedule ≡ Accepted → (length list % 3 ≡ 0) × Accepts shape full (reads_in list) out schedule
  unfolding list_refusal
  accepts e =
      let whole : length list % 3 ≡ 0 = search (checks, eqb-true) in
      let rest : reads_refusal shape full (reads_in list) out schedule ≡ Accepted = search checks in
      (whole, reads_accepts shape full (reads_in list) out schedule rest)

  pub accepted : length list % 3 ≡ 0 → Accepts shape full (reads_in list) out schedule → list_refusal shape full list out schedule ≡ Accepted
  unfolding list_refusal
  accepted whole a = rw (eq-eqb _ _ whole, reads_accepted shape full (reads_in list) out schedule a)

  -- the same in words
  pub list_right : list_refusal shape full list out schedule ≡ Accepted → RightList shape full list out schedule
  list_right e =
      let t = accepts e in
      record {
        whole = t.0;
        reads = λ n l. record { there = t.1.named n no_read l; full_row = t.1.rows_full n l };
        few = t.1.few;
        output = t.1.out_size;
        lines = t.1.schedule_size;
      }

  pub right_list : RightList shape full list out schedule → list_refusal shape full list out schedule ≡ Accepted
  right_list r = accepted r.whole (record {
    named = All-from_get_or (PacketOf shape) (reads_in list) no_read (λ n l. (r.reads n l).there);
    rows_full = λ n l. (r.reads n l).full_row;
    few = r.few;
    out_size = r.output;
    schedule_size = r.lines;
  })
