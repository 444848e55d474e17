-- A read cycle changes nothing; served, it brings what was last written.
use mathlib.Core.Path.{◌≡◌, refl, sym, ap, ◌∙◌}
use mathlib.Core.Bool.{true}
use mathlib.Core.List.{List}
use Prim.Native.Nat.{ℕ, ◌*◌, ◌<◌}
use native.Mathlib.Omega.{arith}
use lib.ListN.{length}
use Rattle.std.specs.Prelude.{Ok}
use Rattle.refusals.specs.Verdict.{answer_by}
use Rattle.cells.specs.Cell.{cell}
use Rattle.simplex.proofs.Filling.{length_packets}
use Rattle.audit.specs.Plan.{opened}
use Rattle.layout.specs.declared.Shape.{Shape}
use Rattle.rows.specs.Rows.{packets_in, packet_in}
use Rattle.rows.proofs.Writing.{packet_in_lem, packets_in_sized}
use Rattle.reads.specs.Reads.{reads_in, no_read, read_at}
use Rattle.reads.specs.Refusals.{list_refusal}
use Rattle.cycle.specs.Cycle.{xor_of_cells}
use Rattle.cycle.specs.Served.{line}
use Rattle.memory.specs.declared.State.{State}
use Rattle.refusals.specs.declared.Answer.TheVariants.{Served}
use Rattle.memory.specs.Operations.{cycle_refusal, cycle_schedule}
use Rattle.memory.specs.Meaning.{read, Memory, Known, meaning_of}
use Rattle.memory.specs.History.{Returned, Agrees}
use Rattle.memory.proofs.Cycles.{serves_all_lem, facts, coded_packet}
use Rattle.memory.proofs.Lawful.{Lawful, lent, tests_store, same, lawful_by}

module _ (known : Known) (memory : Memory) (k : Agrees memory.state.shape known memory) (list out schedule : List ℕ) where
  abbrev state : State
  state = memory.state

  abbrev shape : Shape
  shape = state.shape

  -- each read brings what was last written to its row
  pub returned : answer_by Served (cycle_refusal state (length memory.store) list (length out) (length schedule)) ≡ Ok Served
      → (n : ℕ) → n < length (reads_in list) → let name = read_at (reads_in list) n in
      (known.full name.row ≡ true) × Returned shape memory list out schedule n name (known.last name.row)
  returned e n l =
      let f = facts state memory.store list out schedule e in
      let name = read_at (reads_in list) n in
      let row = k.rows name.row in
      let last = known.last name.row in
      let there = f.reads.named n no_read l in
      let on : known.full name.row ≡ true = sym row.mark ∙ f.reads.rows_full n l in
      let whole = row.whole on in
      let served = (serves_all_lem state memory.store list out schedule f).each n l in
      let many = length_packets shape.p shape.k (cell last (name.group * (shape.k * shape.p)) (shape.k * shape.p)) in
      let decoded : xor_of_cells shape memory.store name.group name.row (opened (line (cycle_schedule state memory.store list out schedule) n))
      ≡ packet_in shape last name.group name.symbol =
      coded_packet shape memory.store name.group name.row (packets_in shape last name.group) (packets_in_sized shape last name.group there.group whole)
      (λ b low high. row.cells name.group b (record { group = there.group; first = low; last = high; row = there.row }) on)
      name.symbol _ (omega (arith, many, there.symbol)) served.pair
      ∙ packet_in_lem shape last name.group name.symbol there.symbol in
      (on, record { packet = served.packet ∙ decoded; banks = decoded })

pub read_lawful : (list out schedule : List ℕ) → Lawful (meaning_of (read list out schedule))
unfolding cycle_refusal
read_lawful list out schedule =
    lawful_by (meaning_of (read list out schedule)) lent (λ shape full. list_refusal shape full list (length out) (length schedule)) (λ memory. memory.state)
    (λ memory. memory.store) (record {
      tests = tests_store;
      outcome = λ memory. ap (λ (state : State). record { state = state; answer = answer_by Served (cycle_refusal memory.state (length memory.store) list (length out) (length schedule)) })
          (same memory.state _);
      store = λ memory. same memory.store _;
      verdict = λ shape known. refl;
      accepted = λ known memory k e. record { agrees = k; count = omega arith };
    })
