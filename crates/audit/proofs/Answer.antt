-- The audit's answer, from what its parts say.
use mathlib.Core.Path.{◌≡◌, refl, sym, ap, ◌∙◌, subst}
use mathlib.Core.Logic.{◌≢◌, ◌↔◌, ◌⊎◌, inl, inr, ⊎_elim}
use mathlib.Core.Bool.{Bool, true, false, ◌&&◌, and-false, false≢true}
use mathlib.Core.List.{List, [], ◌∷◌}
use Prim.Native.Nat.{ℕ, ◌+◌, ◌/◌, ◌%◌, ◌≤◌, ◌<◌}
use native.Mathlib.Omega.{arith}
use borrow.Author.Tests.{leb-true, leb-false, eq-eqb, ne_eqb, eqb-true}
use lib.Dec.{eqb, leb}
use lib.ListN.{length, get_or, drop}
use Rattle.std.specs.Prelude.{cond, ◌-◌, Option, Ok, Err, Some, None}
use Rattle.std.specs.Option.{option_eq}
use Rattle.std.proofs.lemmas.Bool.{false_from_ne_true}
use Rattle.std.proofs.lemmas.Bool.Decides.{eqb_tells}
use Rattle.refusals.specs.Verdict.{Verdict, Accepted, between, answer_by, verdict_of}
use Rattle.refusals.proofs.Verdicts.{checks, both, between_words, words_between}
use Rattle.simplex.specs.declared.TheConstants.{LEAST_SYMBOLS, MOST_SYMBOLS}
use Rattle.simplex.specs.Shape.{SymbolsInRange, limit_of, is_bank}
use Rattle.std.specs.List.{sum}
use Rattle.audit.specs.declared.Pair.{Pair}
use Rattle.audit.specs.Plan.{is_plan}
use Rattle.audit.specs.Audit.{all_zero, counts_refusal, pairs_of, rest_of, Audited, Yes, No, audit_of, RequestOf, pair_bytes, PlanIn}
use Rattle.audit.specs.Laws.{WrongCounts}
use Rattle.audit.proofs.Reading.{sound, complete}
use Rattle.audit.proofs.Served.{past_limit}
use Rattle.audit.proofs.Requests.{all_zero_lem, zero_all}
use Rattle.audit.proofs.Walk.{not_as_many}

-- where the counts are not refused, both checks are passed
module _ (K : ℕ) (counts : List ℕ) (e : counts_refusal K counts ≡ Accepted) where
  pub in_range : SymbolsInRange K
  in_range =
      let k : between LEAST_SYMBOLS MOST_SYMBOLS K ≡ true = search checks in
      let w = between_words LEAST_SYMBOLS MOST_SYMBOLS K k in
      record { least = w.0; most = w.1 }

  beyond_zero : (i : ℕ) → K ≤ i → get_or counts i 0 ≡ 0
  beyond_zero = all_zero_lem K counts (search checks)

module _ (K : ℕ) (counts bytes : List ℕ) where
  module _ (e : counts_refusal K counts ≡ Accepted) where
    pub odd : (length bytes % 2 ≡ 0 → ⊥) → No ≡ audit_of K counts bytes
    unfolding audit_of
    odd h = rw (e, ne_eqb (length bytes % 2) 0 h)

    pub not_just : (length bytes / 2 ≡ sum counts → ⊥) → No ≡ audit_of K counts bytes
    unfolding audit_of
    not_just h = simp (e, not_as_many (is_bank K) counts bytes h, and-false)

    pub even : length bytes % 2 ≡ 0 → (t : Bool) → t ≡ is_plan (is_bank K) counts (pairs_of bytes) → Ok t ≡ audit_of K counts bytes
    unfolding audit_of
    even h t p = rw (e, eq-eqb (length bytes % 2) 0 h) (ap (λ (x : Bool). answer_by x Accepted) p)

-- what the counts leave of a room, by whether they fit in it
module _ (room all : ℕ) where
  left_is : (fits : Bool) (left : ℕ) → leb all room ≡ fits → Some left ≡ cond fits (Some (room - all)) None → room ≡ all + left
  left_is true left f e = let fits = leb-true all room f in let n : left ≡ room - all = cc in omega arith
  left_is false left f e = cc

  zero_is : (fits : Bool) → leb all room ≡ fits → option_eq eqb (cond fits (Some (room - all)) None) (Some 0) ≡ eqb room all
  zero_is true f =
      let fits = leb-true all room f in
      ⊎_elim (λ (w : (eqb room all ≡ true) × (room ≡ all)). rw (w.0, eq-eqb (room - all) 0 (omega arith)))
      (λ (w : (eqb room all ≡ false) × (room ≢ all)). rw (w.0, ne_eqb (room - all) 0 (λ z. w.1 (omega arith)))) (eqb_tells room all)
  zero_is false f = let less = leb-false all room f in rw (ne_eqb room all (λ e. omega arith))

module _ (room : ℕ) (counts : List ℕ) where
  pub within : (left : ℕ) → Some left ≡ rest_of room counts → room ≡ sum counts + left
  within left e = left_is room (sum counts) (leb (sum counts) room) left refl e

  -- whether they leave just nothing
  pub just : (r : Option ℕ) → r ≡ rest_of room counts → option_eq eqb r (Some 0) ≡ eqb room (sum counts)
  just r e = ap (λ (x : Option ℕ). option_eq eqb x (Some 0)) e ∙ zero_is room (sum counts) (leb (sum counts) room) refl

-- ---- refused

-- of an answer by a verdict the verdict is that
pub verdict_by : {A : Type 0} (value : A) (v : Verdict) → verdict_of (answer_by value v) ≡ v
verdict_by value Accepted = refl
verdict_by value (Err refusal) = refl

module _ (K : ℕ) (counts : List ℕ) where
  pub wrong_counts : WrongCounts K counts (counts_refusal K counts)
  wrong_counts = record {
    one = λ out.
        rw (false_from_ne_true (between LEAST_SYMBOLS MOST_SYMBOLS K)
        (λ e. let w = between_words LEAST_SYMBOLS MOST_SYMBOLS K e in out (record { least = w.0; most = w.1 }))) refl;
    eleven = λ range i l some.
        rw (words_between LEAST_SYMBOLS MOST_SYMBOLS K (range.least, range.most), false_from_ne_true (all_zero (drop K counts)) (λ e. some (all_zero_lem K counts e i l)))
        refl;
  }

  pub wrong_audit : (bytes : List ℕ) → WrongCounts K counts (verdict_of (audit_of K counts bytes))
  unfolding audit_of
  wrong_audit bytes =
      subst (WrongCounts K counts) (sym (verdict_by (eqb (length bytes % 2) 0 && is_plan (is_bank K) counts (pairs_of bytes)) (counts_refusal K counts))) wrong_counts

-- ---- yes

yes_or_no : (t : Bool) → (◌≡◌ {A = Audited} (Ok t) Yes) ⊎ (◌≡◌ {A = Audited} (Ok t) No)
yes_or_no true = inl refl
yes_or_no false = inr refl

yes_parts : (v : Verdict) (t : Bool) → answer_by t v ≡ Yes → (v ≡ Accepted) × (t ≡ true)
yes_parts Accepted t e = (refl, cc)
yes_parts (Err refusal) t e = cc

module _ (K : ℕ) (counts : List ℕ) where
  pub request : length counts ≡ MOST_SYMBOLS → counts_refusal K counts ≡ Accepted → RequestOf K counts
  request n e = record { symbols = in_range K counts e; size = n; beyond = beyond_zero K counts e }

  pub accepted : RequestOf K counts → counts_refusal K counts ≡ Accepted
  accepted r = rw (words_between LEAST_SYMBOLS MOST_SYMBOLS K (r.symbols.least, r.symbols.most), zero_all K counts r.beyond)

  module _ (bytes : List ℕ) where
    tests : audit_of K counts bytes ≡ Yes → (counts_refusal K counts ≡ Accepted) × (length bytes % 2 ≡ 0) × (is_plan (is_bank K) counts (pairs_of bytes) ≡ true)
    unfolding audit_of
    tests e =
        let p = yes_parts (counts_refusal K counts) (eqb (length bytes % 2) 0 && is_plan (is_bank K) counts (pairs_of bytes)) e in
        let t = (both (eqb (length bytes % 2) 0) (is_plan (is_bank K) counts (pairs_of bytes))).0 p.1 in
        (p.0, eqb-true (length bytes % 2) 0 t.0, t.1)

    pub says_yes : counts_refusal K counts ≡ Accepted → length bytes % 2 ≡ 0 → is_plan (is_bank K) counts (pairs_of bytes) ≡ true → audit_of K counts bytes ≡ Yes
    unfolding audit_of
    says_yes e h p = rw (e, eq-eqb (length bytes % 2) 0 h, p)

    pub yes : length counts ≡ MOST_SYMBOLS → (audit_of K counts bytes ≡ Yes) ↔ PlanIn K counts bytes
    yes n = (
      λ e. let t = tests e in record { request = request n t.0; even = t.1; plan = sound (is_bank K) counts (pairs_of bytes) t.2 },
      λ p. says_yes (accepted p.request) p.even (complete (is_bank K) counts (pairs_of bytes) p.plan),
    )

    pub otherwise : RequestOf K counts → (audit_of K counts bytes ≡ Yes) ⊎ (audit_of K counts bytes ≡ No)
    unfolding audit_of
    otherwise r = rw (accepted r) (yes_or_no (eqb (length bytes % 2) 0 && is_plan (is_bank K) counts (pairs_of bytes)))

    pub never : limit_of K < sum counts → audit_of K counts bytes ≡ Yes → ⊥
    never h e = false≢true (sym (past_limit K (λ b e. e) counts (pairs_of bytes) h) ∙ (tests e).2)

-- the bytes of pairs stand for them
pub pairs_bytes : (pairs : List Pair) → pairs_of (pair_bytes pairs) ≡ pairs
pairs_bytes [] = refl
pairs_bytes (p ∷ pairs) = ap (λ (ps : List Pair). p ∷ ps) (pairs_bytes pairs)

pub even_bytes : (pairs : List Pair) → length (pair_bytes pairs) % 2 ≡ 0
even_bytes [] = refl
even_bytes (p ∷ pairs) = omega (arith, even_bytes pairs)
