-- The plan by the table is a plan; and the pair of each read, as the code finds it.
use mathlib.Core.Path.{◌≡◌, refl, sym, ap, ap₂, ◌∙◌}
use mathlib.Core.Bool.{true}
use mathlib.Core.List.{List}
use Prim.Native.Nat.{ℕ, suc, ◌+◌, ◌*◌, ◌^◌, ◌≤◌, ◌<◌}
use native.Mathlib.Omega.{arith, by_contra}
use lib.ListN.{length, get_or, take, length-take}
use lib.Seq.{get_or-take}
use lib.Pow.{pow_mono, lt_of_le_ones}
use Rattle.simplex.specs.declared.TheConstants.{MOST_SYMBOLS, MOST_PAIRS}
use Rattle.simplex.specs.Limit.{start}
use Rattle.simplex.specs.Shape.{is_bank}
use Rattle.audit.specs.declared.Pair.{Pair}
use Rattle.audit.specs.Plan.{is_plan, Serves, pair_at, IsPlan}
use Rattle.audit.specs.Audit.{WithinLimit}
use Rattle.audit.proofs.Places.{place_less, Located, locate}
use Rattle.audit.proofs.Reading.{complete, first_to, second_to}
use Rattle.table.specs.declared.Request.{Request}
use Rattle.table.specs.Table.{SortedRequest, row_of}
use Rattle.table.specs.Renaming.{Permutes, renamed_pair, taken}
use Rattle.table.specs.Finding.{rank, sorted_of, table_plan}
use Rattle.table.specs.Parts.{Named, Placed}
use Rattle.table.proofs.Found.{valid}
use Rattle.table.proofs.Grouped.{grouped_at}
use Rattle.table.proofs.Named.{names_renamed}
use Rattle.table.proofs.Ranking.{permutes_group}
use Rattle.table.proofs.Renaming.{renamed_plan}
use Rattle.table.proofs.Sorting.{sorted_request, enough, most_pairs_lem}

pub table_plan_lem : (K : ℕ) (counts : List ℕ) → WithinLimit K counts → IsPlan (is_bank K) counts (table_plan K counts)
unfolding table_plan
table_plan_lem K counts w =
    renamed_plan K (rank counts) (sorted_of K counts) counts (row_of K (sorted_of K counts)) (permutes_group K counts w.request.symbols.most w.request.beyond)
    (valid K (sorted_of K counts) (sorted_request K counts w)) (enough K counts w) w.request.beyond

pub row_passes : (K : ℕ) (counts : List ℕ) → SortedRequest K counts → is_plan (is_bank K) counts (row_of K counts) ≡ true
row_passes K counts s = complete (is_bank K) counts (row_of K counts) (valid K counts s)

pub plan_passes : (K : ℕ) (counts : List ℕ) → WithinLimit K counts → is_plan (is_bank K) counts (table_plan K counts) ≡ true
plan_passes K counts w = complete (is_bank K) counts (table_plan K counts) (table_plan_lem K counts w)

-- ---- the pair of read n

module _ (r : Request) where
  abbrev K : ℕ
  K = r.k

  abbrev w : WithinLimit K r.counts
  w = r.within

  abbrev pairs : List Pair
  pairs = table_plan K r.counts

  pub all_pairs : length pairs ≡ r.total
  all_pairs = (table_plan_lem K r.counts w).one_each ∙ sym r.all

  pub few_pairs : r.total ≤ MOST_PAIRS
  few_pairs = omega (arith, r.all, w.total_most, most_pairs_lem K r.counts w)

  -- a place of the array that is gone through is that of a read
  pub of_read : (places : List ℕ) (n : ℕ) → length places ≡ 2 * MOST_PAIRS → n < length (take r.total places) → n < r.total
  of_read places n long inside = omega (arith, inside, length-take r.total places, few_pairs)

  module _ (sorted : List ℕ) (is_sorted : sorted ≡ sorted_of K r.counts) (row : List Pair) (found : row ≡ row_of K sorted) (n : ℕ) (h : n < r.total) where
    read : Located r.counts n
    read = locate r.counts n (omega (arith, r.all))

    in_group : read.symbol < K
    in_group = by_contra (suc read.symbol) K (λ past. omega (arith, read.nth_less, w.request.beyond read.symbol (omega arith)))

    asked : read.nth < get_or sorted (rank r.counts read.symbol) 0
    asked = omega (arith, read.nth_less, enough K r.counts w read.symbol in_group, ap (λ (c : List ℕ). get_or c (rank r.counts read.symbol) 0) is_sorted)

    -- where it stands in the row
    place : ℕ
    place = start sorted (rank r.counts read.symbol) + read.nth

    row_plan : IsPlan (is_bank K) sorted row
    row_plan = rw (found, is_sorted) (valid K (sorted_of K r.counts) (sorted_request K r.counts w))

    abbrev pair : ℕ → Pair
    pair at = pair_at row at

    serves : Serves (is_bank K) (rank r.counts read.symbol) (pair place)
    unfolding place
    serves = row_plan.in_order (rank r.counts read.symbol) read.nth asked

    module _ (places : List ℕ) (placed : Placed r.counts sorted MOST_SYMBOLS places) (at : ℕ) (is : at ≡ get_or (take r.total places) n 0) where
      is_place : at ≡ place
      unfolding place
      is_place =
          is ∙ get_or-take r.total places n 0 h ∙ ap (λ (m : ℕ). get_or places m 0) read.place
          ∙ placed.at read.symbol read.nth (omega (arith, in_group, w.request.symbols.most)) read.nth_less

      pub in_row : at < length row
      unfolding place
      in_row = omega (arith, is_place, place_less sorted (rank r.counts read.symbol) read.nth asked, row_plan.one_each)

      first_less : (pair at).a < 2 ^ K
      first_less = rw is_place (lt_of_le_ones K (first_to K (λ b e. e) serves))

      second_less : (pair at).b < 2 ^ K
      second_less = rw is_place (lt_of_le_ones K (second_to K (λ b e. e) serves))

      pub first_named : (pair at).a < 32
      first_named = omega (arith, first_less, pow_mono w.request.symbols.most)

      pub second_named : (pair at).b < 32
      second_named = omega (arith, second_less, pow_mono w.request.symbols.most)

      module _ (names symbols : List ℕ) (named : Named symbols MOST_SYMBOLS names)
          (at_rank : (i : ℕ) → i < MOST_SYMBOLS → get_or symbols (rank r.counts i) 0 ≡ i) where
        there : pair_at pairs n ≡ renamed_pair K (rank r.counts) (pair at)
        unfolding table_plan place
        there =
            ap (pair_at pairs) read.place ∙ grouped_at (taken K (rank r.counts) (sorted_of K r.counts) (row_of K (sorted_of K r.counts))) r.counts read.symbol read.nth read.nth_less
            ∙ rw (← is_sorted, ← found, ← is_place) refl

        permutation : Permutes K (rank r.counts)
        permutation = permutes_group K r.counts w.request.symbols.most w.request.beyond

        back : (i : ℕ) → i < K → get_or symbols (rank r.counts i) 0 ≡ i
        back i l = at_rank i (omega (arith, w.request.symbols.most))

        pub pair_stored : record { a = get_or names (pair at).a 0; b = get_or names (pair at).b 0 } ≡ pair_at pairs n
        pair_stored =
            let name = names_renamed permutation symbols names MOST_SYMBOLS w.request.symbols.most named back in
            ap₂ (λ (x y : ℕ). record { a = x; b = y }) (name (pair at).a first_less) (name (pair at).b second_less) ∙ sym there
