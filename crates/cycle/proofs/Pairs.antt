-- The pair of each read: it stands in the plan of its group, serves its symbol, and shares no bank with another's.
use Rattle.std.proofs.Common.{ℕ, ◌≡◌, ◌≢◌, ◌≤◌, ◌<◌, Bool, true, false, ltb, List, length, get_or, sum, Contains, refl, ap, ◌∙◌, subst, arith}
use borrow.Author.Tests.{ltb-true, ltb-false}
use Rattle.std.proofs.lemmas.List.{get_or_past}
use Rattle.std.proofs.lemmas.List.Elements.{All-weaker}
use Rattle.std.proofs.lemmas.List.FromFn.{length-map-range_with_len}
use Rattle.simplex.specs.declared.TheConstants.{MOST_SYMBOLS}
use Rattle.simplex.specs.Shape.{SymbolsInRange, is_bank}
use Rattle.audit.specs.declared.Pair.{Pair}
use Rattle.audit.specs.Plan.{opened, Serves, pair_at, IsPlan}
use Rattle.audit.specs.Audit.{RequestOf, WithinLimit}
use Rattle.plan.specs.Systematic.{systematic_pair}
use Rattle.plan.proofs.Systematic.{systematic_at}
use Rattle.plan.proofs.Planning.{systematic_law, is_plan_lem}
use Rattle.plan.proofs.Answering.{audited}
use Rattle.layout.specs.declared.Shape.{Shape}
use Rattle.reads.specs.Reads.{Reads, no_read, read_at, is_for, count_of, counts_of, CollisionFreeIn}
use Rattle.reads.specs.Laws.{SymbolsBelow}
use Rattle.layout.specs.Name.{PacketOf}
use Rattle.reads.specs.Parts.{Named, Few}
use Rattle.reads.proofs.Counting.{count_at}
use Rattle.reads.proofs.Once.{for_both, none_counted, at_most_once}
use Rattle.cycle.specs.Cycle.{Plans, plans_of, slot_of, pair_of}
use Rattle.cycle.specs.Served.{PlansAudited}
use Rattle.cycle.proofs.Slots.{nth, slot_within, slots_apart}

pub symbols_below : (shape : Shape) (reads : Reads) → SymbolsInRange shape.k → Named shape reads → SymbolsBelow reads
symbols_below shape reads range named =
    All-weaker (PacketOf shape) (λ read. read.symbol < MOST_SYMBOLS) (λ read there. omega (arith, there.symbol, range.most)) reads named

pub pair_systematic : (K : ℕ) (reads : Reads) → SymbolsBelow reads → (n : ℕ) → n < length reads → CollisionFreeIn reads (read_at reads n).group
    → pair_of (plans_of K reads) reads n ≡ systematic_pair (read_at reads n).symbol
unfolding pair_of
pair_systematic K reads small n l free =
    let counts = counts_of reads (read_at reads n).group in
    ap (λ (pairs : List Pair). pair_at pairs (slot_of reads n)) (systematic_law K counts (at_most_once reads (read_at reads n).group free))
    ∙ systematic_at counts (read_at reads n).symbol _ (nth reads small n l)

-- ---- by any plans of the groups

abbrev pub Planned : Shape → Plans → Reads → Type 0
Planned shape plans reads = (group : ℕ) → group < shape.m → IsPlan (is_bank shape.k) (counts_of reads group) (plans group)

module _ (shape : Shape) (plans : Plans) (reads : Reads) (range : SymbolsInRange shape.k) (named : Named shape reads) (planned : Planned shape plans reads) where
  small : SymbolsBelow reads
  small = symbols_below shape reads range named

  pub pair_serves : (n : ℕ) → n < length reads → Serves (is_bank shape.k) (read_at reads n).symbol (pair_of plans reads n)
  unfolding pair_of
  pair_serves n l = (planned (read_at reads n).group (named n no_read l).group).in_order (read_at reads n).symbol _ (nth reads small n l)

  -- the pairs of two reads of a group open no bank in common: they stand in different slots of its plan
  pub pairs_once : (i j b : ℕ) → i < j → j < length reads → (read_at reads i).group ≡ (read_at reads j).group
      → Contains (opened (pair_of plans reads i)) b → Contains (opened (pair_of plans reads j)) b → ⊥
  unfolding pair_of
  pairs_once i j b l u g at_i at_j = go (ltb (slot_of reads i) (slot_of reads j)) refl
    where
      x : ℕ
      x = (read_at reads j).group

      plan : IsPlan (is_bank shape.k) (counts_of reads x) (plans x)
      plan = planned x (named j no_read u).group

      first : Contains (opened (pair_at (plans x) (slot_of reads i))) b
      first = subst (λ (y : ℕ). Contains (opened (pair_at (plans y) (slot_of reads i))) b) g at_i

      in_plan : slot_of reads i < length (plans x)
      in_plan =
          let within : slot_of reads i < sum (counts_of reads x) =
          subst (λ (y : ℕ). slot_of reads i < sum (counts_of reads y)) g (slot_within reads small i (omega arith)) in
          omega (arith, plan.one_each, within)

      apart : slot_of reads i ≢ slot_of reads j
      apart = slots_apart reads small i j l u g

      go : (t : Bool) → ltb (slot_of reads i) (slot_of reads j) ≡ t → ⊥
      go true e = plan.once _ _ b (ltb-true _ _ e) (omega (arith, plan.one_each, slot_within reads small j u)) first at_j
      go false e =
          let past : slot_of reads j ≤ slot_of reads i = ltb-false _ _ e in
          let less : slot_of reads j < slot_of reads i = omega (arith, past, apart) in
          plan.once _ _ b less in_plan at_j first

-- ---- the planner's plans

-- the counts of a group are a request vector
pub request : (K : ℕ) (reads : Reads) (group : ℕ) → SymbolsInRange K → ((n : ℕ) → n < length reads → (read_at reads n).symbol < K)
    → RequestOf K (counts_of reads group)
request K reads group range small = record { symbols = range; size = size; beyond = λ i l. beyond i l (ltb i MOST_SYMBOLS) refl }
  where
    size : length (counts_of reads group) ≡ MOST_SYMBOLS
    size = length-map-range_with_len (count_of reads group) 0 MOST_SYMBOLS

    beyond : (i : ℕ) → K ≤ i → (t : Bool) → ltb i MOST_SYMBOLS ≡ t → get_or (counts_of reads group) i 0 ≡ 0
    beyond i l true e =
        count_at reads group i (ltb-true i MOST_SYMBOLS e)
        ∙ none_counted (is_for group i) no_read reads (λ n b own. omega (arith, small n b, (for_both group i (read_at reads n) own).1))
    beyond i l false e = get_or_past (counts_of reads group) i 0 (omega (arith, size, ltb-false i MOST_SYMBOLS e))

module _ (shape : Shape) (reads : Reads) (range : SymbolsInRange shape.k) (named : Named shape reads) (few : Few shape reads) where
  within : (group : ℕ) → group < shape.m → WithinLimit shape.k (counts_of reads group)
  within group l = record { request = request shape.k reads group range (λ n b. (named n no_read b).symbol); total_most = few group l }

  pub plans_audited : PlansAudited shape reads
  plans_audited group l = audited shape.k (counts_of reads group) (within group l)

  pub all_planned : Planned shape (plans_of shape.k reads) reads
  all_planned group l = is_plan_lem shape.k (counts_of reads group) (within group l)
