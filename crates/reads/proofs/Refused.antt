-- What a list that is refused with 12 tells: the place is the lowest group with too many reads, and every read names a packet that is there.
use Rattle.std.proofs.Common.{ℕ, ◌≡◌, ◌*◌, ◌%◌, Bool, ◌&&◌, eqb, leb, ltb, List, length, sum, subst}
use mathlib.Core.Logic.{⊎_elim}
use borrow.Author.Tests.{leb-true, leb-false}
use Rattle.refusals.specs.declared.Refusal.{Refusal}
use Rattle.refusals.specs.Verdict.{Verdict, refusal_of, refused, first_refusal}
use Rattle.refusals.proofs.Verdicts.{check_passed, check_refused, first_refused, then_refused, Never, never_check, never_then, never_first, skips}
use Rattle.simplex.specs.Shape.{limit_of}
use Rattle.layout.specs.declared.Shape.{Shape}
use Rattle.layout.specs.declared.PacketName.{PacketName}
use Rattle.reads.specs.Reads.{Reads, reads_in, read_at, counts_of}
use Rattle.reads.specs.Refusals.{length_refusal, name_refusal, packet_refusal, read_refusal, group_refusal, buffer_refusal, reads_refusal, list_refusal}
use Rattle.reads.specs.Parts.{Named}
use Rattle.reads.specs.Laws.{LowestOver}
use Rattle.reads.proofs.Accepted.{accepted_named}

pub record Over (shape : Shape) (reads : Reads) (group : ℕ) : Type 0 where
  pub named : Named shape reads
  pub lowest_over : LowestOver shape reads group

-- no packet is refused with 12
packet_never : (shape : Shape) (full : ℕ → Bool) (place : ℕ) (name : PacketName) → Never 12 (packet_refusal shape full place name)
packet_never shape full place name =
    let own = never_check 12 in
    let in_row = own 7 place (ltb name.row shape.g) (λ e. cc) in
    let in_group = own 14 place (ltb name.group shape.m) (λ e. cc) in
    let in_symbols = own 15 place (ltb name.symbol shape.k) (λ e. cc) in
    let is_full = own 9 place (full name.row) (λ e. cc) in
    let then_never = never_then 12 in
    then_never (name_refusal shape place name) _ (then_never _ _ in_row (then_never _ _ in_group in_symbols)) is_full

module _ (shape : Shape) (full : ℕ → Bool) where
  groups_over : (reads : Reads) (group : ℕ) → Named shape reads → first_refusal (group_refusal shape reads) shape.m ≡ refused 12 group
      → Over shape reads group
  groups_over reads group named e =
      let r : Refusal = refusal_of 12 group in
      let t = first_refused (group_refusal shape reads) shape.m r e in
      let c = check_refused 12 t.0 (leb (sum (counts_of reads t.0)) (limit_of shape.k)) r t.2 in
      subst (Over shape reads) c.1 (record {
        named = named;
        lowest_over = record {
          below = t.1;
          many = leb-false _ _ c.2;
          lowest = λ lower l. leb-true _ _ (check_passed 12 lower _ (t.3 lower l));
        };
      })

  reads_over : (reads : Reads) (out schedule group : ℕ) → reads_refusal shape full reads out schedule ≡ refused 12 group
      → Over shape reads group
  reads_over reads out schedule group e =
      let fit : Bool = eqb out (length reads * shape.p) && eqb schedule (length reads * 2) in
      let of_reads : Verdict = first_refusal (read_refusal shape full reads) (length reads) in
      let of_groups : Verdict = first_refusal (group_refusal shape reads) shape.m in
      let never_read = never_first 12 (read_refusal shape full reads) (length reads) (λ n. packet_never shape full n (read_at reads n)) in
      let past_reads = skips 12 of_reads _ group never_read e in
      ⊎_elim
      (groups_over reads group (accepted_named shape full reads past_reads.0))
      (λ r. absurd (never_check 12 16 0 fit (λ z. cc) group r.1))
      (then_refused of_groups (buffer_refusal shape reads out schedule) (refusal_of 12 group) past_reads.1)

  pub over : (list : List ℕ) (out schedule group : ℕ) → list_refusal shape full list out schedule ≡ refused 12 group
      → Over shape (reads_in list) group
  unfolding list_refusal
  over list out schedule group e =
      let whole : Bool = eqb (length list % 3) 0 in
      let past_length = skips 12 (length_refusal list) _ group (never_check 12 13 0 whole (λ z. cc)) e in
      reads_over (reads_in list) out schedule group past_length.1
