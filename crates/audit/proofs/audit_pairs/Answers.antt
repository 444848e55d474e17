-- Each test of a pair, by the turn of the walk.
use Rattle.std.proofs.Common.{◌≡◌, ◌<◌, true, ◌/◌, ℕ, suc, List, [], ◌∷◌, Bor, length, replicate, refl, sym, ◌∙◌, arith, rules}
use Rattle.std.specs.List.{zip, flat_map, enumerate_from}
use Rattle.std.specs.Simd.{first_chunks}
use Rattle.std.specs.Iterator.Adapters.{flatten_source, map_callee}
use Rattle.std.proofs.lemmas.Iterator.{YieldsList, YieldsList-from_slice, YieldsList-from_zip}
use Rattle.std.proofs.lemmas.Iterator.Consumers.{YieldsList-at, YieldsList-from_enumerate, YieldsList-turn, YieldsList-end}
use Rattle.std.proofs.lemmas.Iterator.Adapters.{YieldsList-from_flat_map, YieldsList-from_repeat_n}
use Rattle.std.proofs.lemmas.List.{length_push}
use native.Mathlib.Numerals.{add-one}
use Rattle.simplex.specs.Shape.{is_bank}
use Rattle.simplex.specs.Limit.{reads_from}
use Rattle.audit.specs.declared.Pair.{Pair}
use Rattle.audit.specs.Plan.{serves}
use Rattle.audit.specs.Audit.{pairs_of}
use Rattle.audit.proofs.Pairs.{as_served, first_below, second_below, length_pairs, zipped, zipped_all}
use Rattle.audit.proofs.Walk.{Turn, all_passed, not_served, first_met, second_met, one_more}
use Rattle.audit.proofs.audit_pairs.Given as given
use Rattle.audit.proofs.audit_pairs.Goals as goal
use Rattle.audit.proofs.audit_pairs.Goals.{After-into_iter-a-iterator, After-serves_symbol, then-not-serves_symbol-via-then-not-serves_symbol, then-not-serves_symbol-via-else-not-serves_symbol+then-is_met, then-not-serves_symbol-via-else-not-serves_symbol+else-is_met+then-is_met-2}

abbrev symbols : (k : ℕ) (counts : List ℕ) → List ℕ
symbols k counts = flat_map (λ (p : ℕ × ℕ). replicate p.1 p.0) (enumerate_from k counts)

listed : (k : ℕ) (counts : List ℕ) → symbols k counts ≡ reads_from k counts
listed k [] = refl
listed k (c ∷ counts) = rw (add-one k, listed (suc k) counts)

-- what the loop goes over: the bytes of each pair, and the symbol of its read
road : (c : After-into_iter-a-iterator) → YieldsList (given.iterator-loop-a).next_gives (λ (p : Bor (List ℕ) × ℕ). (p.0.now, p.1)) c.into_iter-a-iterator.result (zip (first_chunks 2 (length c.args.bytes.now / 2) c.args.bytes.now) (symbols 0 c.args.counts))
road c =
    YieldsList-at c.into_iter-a-iterator.ensures.into_iter_gives
    (YieldsList-from_zip (YieldsList-at c.zip-a-items.ensures.first (YieldsList-from_slice _ (c.iter-2.ensures.rest ∙ c.as_chunks.ensures.front)))
    (YieldsList-at c.zip-a-items.ensures.second
    (YieldsList-from_flat_map _ _ _ (λ y. y) (λ (p : ℕ × ℕ). replicate p.1 p.0) (map_callee (flatten_source c.flat_map-symbols.result)) (λ x u q k. (search rules, λ j b. YieldsList-from_repeat_n (λ y z. z ≡ y) x.1.now x.0 (search rules) (search rules) (λ y e. e)))
    (YieldsList-at c.flat_map-symbols.ensures.source (YieldsList-from_enumerate (YieldsList-at c.enumerate.ensures.source (YieldsList-from_slice c.args.counts cc)) c.enumerate.ensures.count))
    refl c.flat_map-symbols.ensures.front c.flat_map-symbols.ensures.back c.flat_map-symbols.ensures.done)))

abbrev pair : After-serves_symbol → Pair
pair c = record { a = c.from-a.result; b = c.from-b.result }

turn : (c : After-serves_symbol) → YieldsList (given.iterator-loop-a).next_gives (λ (p : Bor (List ℕ) × ℕ). (p.0.now, p.1)) c.into_iter-a-iterator.result (zip (first_chunks 2 (length c.args.bytes.now / 2) c.args.bytes.now) (symbols 0 c.args.counts)) → Turn (is_bank c.args.k) c.args.counts (pairs_of c.args.bytes.now) (length c.loop-a.yielded) c.loop-a.met c.in-Some.symbol (pair c)
turn c gives =
    let t = rw listed at (YieldsList-turn gives c.loop-a.yielded c.loop-a.a-iterator c.loop-a.yielded_by c.next.result c.next.new.self _ c.in-Some.is c.next.ensures.steps) in
    let z = zipped c.args.counts c.args.bytes.now (length c.loop-a.yielded) _ _ c.requires.even t in
    record {
      within = z.0;
      symbol = z.1;
      pair = rw (c.from-a.ensures, c.from-b.ensures) z.2;
      walked = c.loop-a.invariant.2;
    }

tested : (c : After-serves_symbol) → c.serves_symbol.result ≡ serves (is_bank c.args.k) c.in-Some.symbol (pair c)
tested c = as_served _ c.in-Some.symbol _ c.from-b.result _ c.group_of-group.ensures c.requires.symbols_in_range _ c.serves_symbol.ensures

small : (c : After-serves_symbol) → c.serves_symbol.result ≡ true → c.from-a.result < 64
small c e = first_below _ c.in-Some.symbol _ c.from-b.result _ c.group_of-group.ensures c.requires.symbols_in_range _ c.serves_symbol.ensures e

pub is_met-requires : goal.is_met-requires
is_met-requires c = small (goal.at.is_met-requires c).After-serves_symbol c.if-not-serves_symbol.false

small_second : (c : After-serves_symbol) → c.serves_symbol.result ≡ true → c.from-b.result < 64
small_second c e = second_below _ c.in-Some.symbol _ c.from-b.result _ c.group_of-group.ensures c.requires.symbols_in_range _ c.serves_symbol.ensures e

pub is_met-requires-else-is_met : goal.is_met-requires-else-is_met
is_met-requires-else-is_met c = small_second (goal.at.is_met-requires-else-is_met c).After-serves_symbol c.if-not-serves_symbol.false

pub with_number-requires : goal.with_number-requires
with_number-requires c = small_second (goal.at.with_number-requires c).After-serves_symbol c.if-not-serves_symbol.false

pub with_number-met-requires : goal.with_number-met-requires
with_number-met-requires c = small (goal.at.with_number-met-requires c).After-serves_symbol c.if-not-serves_symbol.false

pub returns-then-not-serves_symbol : goal.returns-then-not-serves_symbol
returns-then-not-serves_symbol c =
    let at = (goal.at.returns-then-not-serves_symbol c).After-serves_symbol in
    let turn-now = turn at (road (goal.at.returns-then-not-serves_symbol c).After-into_iter-a-iterator) in
    elim c.then-not-serves_symbol.branch [
      | then-not-serves_symbol-via-then-not-serves_symbol w ↦ sym (not_served turn-now (sym (tested at) ∙ w.if-not-serves_symbol.true))
      | then-not-serves_symbol-via-else-not-serves_symbol+then-is_met w ↦
          sym
          (first_met turn-now (sym (tested at) ∙ w.if-not-serves_symbol.false) (small at w.if-not-serves_symbol.false) (sym w.is_met.ensures ∙ w.if-is_met.true))
      | then-not-serves_symbol-via-else-not-serves_symbol+else-is_met+then-is_met-2 w ↦
          sym
          (second_met turn-now (sym (tested at) ∙ w.if-not-serves_symbol.false) (small at w.if-not-serves_symbol.false)
          (sym w.is_met-else-is_met.ensures ∙ w.if-is_met-2.true))
    ]

pub loop-a-preserved : goal.loop-a-preserved
loop-a-preserved c =
    let at = (goal.at.loop-a-preserved c).After-serves_symbol in
    let turn-now = turn at (road (goal.at.loop-a-preserved c).After-into_iter-a-iterator) in (
      c.in-Some.ensures.goes.keeps,
      (c.in-Some.ensures.goes.on c.loop-a.invariant.1).1,
      rw (c.with_number-met.ensures, c.with_number.ensures, length_push)
          (one_more turn-now (sym (tested at) ∙ c.if-not-serves_symbol.false) (small at c.if-not-serves_symbol.false)
          (sym c.is_met.ensures ∙ c.if-is_met.false) (sym c.is_met-else-is_met.ensures ∙ c.if-is_met-2.false)),
    )

pub returns : goal.returns
returns c =
    let counts = c.args.counts in
    let bytes = c.args.bytes.now in
    let all = rw listed at (YieldsList-end (road (goal.at.returns c).After-into_iter-a-iterator) c.loop-a.yielded c.loop-a.a-iterator c.loop-a.yielded_by c.next.result c.next.new.self c.in-None.is c.next.ensures.steps).1 in
    sym (all_passed (is_bank c.args.k) counts (pairs_of bytes) (length c.loop-a.yielded) c.loop-a.met (omega (arith, length_pairs bytes)) (zipped_all counts bytes _ c.requires.even all) c.loop-a.invariant.2)
