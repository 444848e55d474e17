-- The cycle law holds of every read cycle; and what a served read returns where its row's cells are those of the code.
use mathlib.Core.Path.{◌≡◌, refl, sym, ap, ◌∙◌}
use mathlib.Core.Bool.{true}
use mathlib.Core.List.{List, []}
use Prim.Native.Nat.{ℕ, zero, suc, ◌%◌, ◌≤◌, ◌<◌}
use native.Mathlib.Omega.{arith}
use Rattle.std.proofs.lemmas.Bool.{and_parts}
use borrow.Author.Tests.{eqb-true, eq-eqb, ne_eqb, lt-ltb}
use lib.Dec.{eqb}
use lib.ListN.{length, get_or}
use Rattle.std.specs.List.{sum}
use Rattle.std.specs.Prelude.{Ok, Err}
use Rattle.refusals.specs.declared.Refusal.{Refusal}
use Rattle.refusals.specs.declared.Answer.TheVariants.{Served}
use Rattle.refusals.specs.Verdict.{Verdict, Accepted, refusal_of, refused, answer_by}
use Rattle.refusals.proofs.Verdicts.{answered, check_passed, never_check, never_then, skips}
use Rattle.simplex.specs.Shape.{limit_of, is_bank}
use Rattle.simplex.specs.Code.{Packet, Sized, bank_cell, xor_of_banks}
use Rattle.simplex.proofs.Banks.{set_linear, cell_one}
use Rattle.simplex.proofs.Limit.{limit_of_reads}
use Rattle.audit.specs.declared.Pair.{Pair}
use Rattle.audit.specs.Plan.{opens, opened, Serves}
use Rattle.audit.proofs.Reading.{first_to, second_to}
use Rattle.audit.proofs.Served.{opens_xor, opened_yields}
use Rattle.layout.specs.declared.Shape.{Shape}
use Rattle.layout.specs.Shape.{banks, store_size, cell_at}
use Rattle.layout.specs.Occupancy.{is_full}
use Rattle.reads.specs.Reads.{Reads, reads_in, read_at, counts_of, symbols_read}
use Rattle.reads.specs.Parts.{Named}
use Rattle.reads.proofs.Counting.{reads_many}
use Rattle.reads.specs.Laws.{RightList}
use Rattle.reads.proofs.Accepted.{Accepts, accepts, accepted, form_named, all_named, list_right, right_list}
use Rattle.reads.proofs.Refused.{over}
use Rattle.cycle.specs.Cycle.{xor_of_cells}
use Rattle.cycle.specs.Served.{PlansAudited, SystematicLines, OpenedOnce}
use Rattle.cycle.proofs.Pairs.{plans_audited}
use Rattle.cycle.proofs.Lines.{systematic_lines, served_read, opened_once}
use Rattle.memory.specs.declared.State.{State}
use Rattle.memory.specs.State.{sound, Sound}
use Rattle.memory.specs.Operations.{store_refusal, cycle_refusal, cycle_output, cycle_schedule}
use Rattle.memory.specs.CycleLaw.{RightForm, NamedRowsFull, NoneTooMany, ServedCycle, TooMany, CycleLaw}
use Rattle.reads.proofs.Wrong.{wrong_list}
use Rattle.memory.specs.Laws.{RightCycle, WrongCycle, FormInWords}
use Rattle.memory.proofs.States.{tests, sound_words, words_sound, store_facts}

-- ---- what the acceptance of a cycle tells

pub record Readable (state : State) (size : ℕ) (list : List ℕ) (out schedule : ℕ) : Type 0 where
  pub sound_state : sound state ≡ true
  pub store : size ≡ store_size state.shape
  pub whole : length list % 3 ≡ 0
  pub reads : Accepts state.shape (is_full state.rows) (reads_in list) out schedule

pub read_facts : (state : State) (size : ℕ) (list : List ℕ) (out schedule : ℕ) → cycle_refusal state size list out schedule ≡ Accepted
    → Readable state size list out schedule
unfolding cycle_refusal
read_facts state size list out schedule e =
    let l : (length list % 3 ≡ 0) × Accepts state.shape (is_full state.rows) (reads_in list) out schedule = search (tests, accepts) in
    record { sound_state = search tests; store = search tests; whole = l.0; reads = l.1 }

pub facts_read : (state : State) (size : ℕ) (list : List ℕ) (out schedule : ℕ) → Readable state size list out schedule
    → cycle_refusal state size list out schedule ≡ Accepted
unfolding cycle_refusal
facts_read state size list out schedule f =
    rw (f.sound_state, eq-eqb _ _ f.store, accepted state.shape (is_full state.rows) list out schedule f.whole f.reads)

-- when it is accepted, in words
pub cycle_facts : (state : State) (size : ℕ) (list : List ℕ) (out schedule : ℕ) → cycle_refusal state size list out schedule ≡ Accepted
    → RightCycle state size list out schedule
unfolding cycle_refusal
cycle_facts state size list out schedule e =
    let r : RightList state.shape (is_full state.rows) list out schedule = search (tests, list_right) in
    record { sound = search (tests, sound_words); store = search tests; reads = r }

pub facts_cycle : (state : State) (size : ℕ) (list : List ℕ) (out schedule : ℕ) → RightCycle state size list out schedule
    → cycle_refusal state size list out schedule ≡ Accepted
unfolding cycle_refusal
facts_cycle state size list out schedule r =
    rw (words_sound state r.sound, eq-eqb _ _ r.store, right_list state.shape (is_full state.rows) list out schedule r.reads)

-- the right form in words
pub form_words : (state : State) (size : ℕ) (list : List ℕ) (out schedule : ℕ) → RightForm state size list out schedule
    → FormInWords state size list out schedule
form_words state size list out schedule f =
    let lent = store_facts state size f.store in
    let fit = and_parts _ _ (check_passed 16 0 _ f.buffers) in
    record {
      sound = sound_words state lent.0;
      store = lent.1;
      whole = eqb-true _ _ (check_passed 13 0 (eqb (length list % 3) 0) f.whole);
      named = λ n l. form_named state.shape (reads_in list) n (f.named n l);
      output = eqb-true _ _ fit.0;
      lines = eqb-true _ _ fit.1;
    }

pub words_form : (state : State) (size : ℕ) (list : List ℕ) (out schedule : ℕ) → FormInWords state size list out schedule
    → RightForm state size list out schedule
words_form state size list out schedule w = record {
  store = rw (words_sound state w.sound, eq-eqb _ _ w.store);
  whole = rw (eq-eqb _ _ w.whole);
  named = λ n l. let p = w.named n l in rw (lt-ltb _ _ p.row, lt-ltb _ _ p.group, lt-ltb _ _ p.symbol);
  buffers = rw (eq-eqb _ _ w.output, eq-eqb _ _ w.lines);
}

pub wrong_cycle : (state : State) (size : ℕ) (list : List ℕ) (out schedule : ℕ) → Sound state
    → WrongCycle state size list out schedule (cycle_refusal state size list out schedule)
unfolding cycle_refusal
wrong_cycle state size list out schedule s = record {
  six = λ e. rw (words_sound state s, ne_eqb _ _ e);
  reads = λ e. rw (words_sound state s, eq-eqb _ _ e) (wrong_list state.shape (is_full state.rows) list out schedule);
}

-- ---- what an answer tells of the verdict

answered_no : (v : Verdict) (refusal : Refusal) → answer_by Served v ≡ Err refusal → v ≡ Err refusal
answered_no v refusal e = grind (arith, e)

module _ (state : State) (store list out schedule : List ℕ) where
  abbrev shape : Shape
  shape = state.shape

  abbrev reads : Reads
  reads = reads_in list

  abbrev refusal : Verdict
  refusal = cycle_refusal state (length store) list (length out) (length schedule)

  -- ---- the cycle law

  -- a group's reads are as many as its counts total
  many : Sound state → Named shape reads → (group : ℕ) → length (symbols_read reads group) ≡ sum (counts_of reads group)
  many ok named group = reads_many reads group (λ n d l. let there = named n d l in omega (arith, there.symbol, ok.ranges.symbols.most))

  module _ (f : Readable state (length store) list (length out) (length schedule)) where
    ok : Sound state
    ok = sound_words state f.sound_state

    passed : refusal ≡ Accepted
    passed = facts_read state (length store) list (length out) (length schedule) f

    none_too_many : NoneTooMany shape reads
    none_too_many group l = rw (many ok f.reads.named group) (f.reads.few group l)

    pub serves_all_lem : ServedCycle state store reads (answer_by Served refusal) (cycle_output state store list out schedule) (cycle_schedule state store list out schedule)
    serves_all_lem = rw passed (record {
      answered = refl;
      each = served_read shape ok.ranges store reads f.store f.reads.named f.reads.few schedule f.reads.schedule_size out f.reads.out_size;
    })

    opens_once : OpenedOnce reads (cycle_schedule state store list out schedule)
    opens_once = rw passed (opened_once shape ok.ranges store reads f.store f.reads.named f.reads.few schedule f.reads.schedule_size)

  pub facts : answer_by Served refusal ≡ Ok Served → Readable state (length store) list (length out) (length schedule)
  facts e = read_facts state (length store) list (length out) (length schedule) ((answered Served refusal Served (sym e)).1)

  -- the right form, full rows and no group with too many reads are all that is asked
  readable : RightForm state (length store) list (length out) (length schedule) → NamedRowsFull state reads → NoneTooMany shape reads
      → Readable state (length store) list (length out) (length schedule)
  readable form full few =
      let lent = store_facts state (length store) form.store in
      let named = all_named shape reads form.named in
      let fit = and_parts _ _ (check_passed 16 0 _ form.buffers) in
      record {
        sound_state = lent.0;
        store = lent.1;
        whole = eqb-true _ _ (check_passed 13 0 (eqb (length list % 3) 0) form.whole);
        reads = record {
          named = named;
          rows_full = full;
          few = λ group l. rw (many (sound_words state lent.0) named group) at (few group l);
          out_size = eqb-true _ _ fit.0;
          schedule_size = eqb-true _ _ fit.1;
        };
      }

  too_many : (group : ℕ) → refusal ≡ refused 12 group → TooMany shape reads group
  unfolding cycle_refusal
  too_many group e =
      let five = never_check 12 5 0 (sound state) (λ z. cc) in
      let six = never_check 12 6 0 (eqb (length store) (store_size shape)) (λ z. cc) in
      let past = skips 12 (store_refusal state (length store)) _ group (never_then 12 _ _ five six) e in
      let ok = sound_words state (store_facts state (length store) past.0).0 in
      let o = over shape (is_full state.rows) list (length out) (length schedule) group past.1 in
      let over = o.lowest_over in
      let more : limit_of shape.k < length (symbols_read reads group) = rw (many ok o.named group) over.many in
      record {
        below = over.below;
        many = more;
        lowest = λ lower l. rw (many ok o.named lower) (over.lowest lower l);
        fails = λ sets. limit_of_reads shape.k shape.p (symbols_read reads group) ok.ranges.bytes.0 sets more;
      }

  pub cycle_law : CycleLaw state store list (length out) (length schedule) (answer_by Served refusal) (cycle_output state store list out schedule) (cycle_schedule state store list out schedule)
  cycle_law = record {
    exactly = λ form full. (λ served. none_too_many (facts served.answered), λ few. serves_all_lem (readable form full few));
    served = λ e. serves_all_lem (facts e);
    yields = λ e n l. opened_yields shape.k {usable = is_bank shape.k} (λ b h. h) shape.p (read_at reads n).symbol _ ((serves_all_lem (facts e)).each n l).pair;
    once = λ e. opens_once (facts e);
    limit = λ some group. limit_of_reads shape.k shape.p (symbols_read reads group) some;
    refused = λ group e. too_many group (answered_no refusal (refusal_of 12 group) e);
  }

  pub audited : answer_by Served refusal ≡ Ok Served → PlansAudited shape reads
  audited e = let f = facts e in plans_audited shape reads (sound_words state f.sound_state).ranges.symbols f.reads.named f.reads.few

  pub systematic : answer_by Served refusal ≡ Ok Served → SystematicLines reads (cycle_schedule state store list out schedule)
  systematic e =
      let f = facts e in
      rw (passed f) (systematic_lines shape reads schedule f.reads.schedule_size (ok f).ranges.symbols f.reads.named)

-- ---- the packet of a pair, where the cells of its row are those of the code

module _ (shape : Shape) (store : List ℕ) (group row : ℕ) (packets : List Packet) (sized : Sized shape.p packets)
    (cells : (b : ℕ) → 1 ≤ b → b ≤ banks shape → cell_at shape store group b row ≡ bank_cell shape.p packets b) where
  as_coded : (a b : ℕ) → 1 ≤ a → a ≤ banks shape → b ≤ banks shape
      → xor_of_cells shape store group row (opens a b) ≡ xor_of_banks shape.p packets (opens a b)
  as_coded a zero l u v = rw (cells a l u)
  as_coded a (suc b) l u v = rw (cells a l u, cells (suc b) (omega arith) v)

  pub coded_packet : (symbol : ℕ) (p : Pair) → symbol < length packets → Serves (is_bank shape.k) symbol p
      → xor_of_cells shape store group row (opened p) ≡ get_or packets symbol []
  coded_packet symbol p l serves =
      as_coded p.a p.b (omega (arith, serves.above)) (first_to shape.k (λ b h. h) serves) (second_to shape.k (λ b h. h) serves)
      ∙ set_linear shape.p packets (opened p) sized
      ∙ ap (bank_cell shape.p packets) (opens_xor p.a p.b ∙ serves.differ)
      ∙ cell_one shape.p packets symbol l sized
