-- Set-up's ranges, as a test and in words; the sizes that fit them.
use mathlib.Core.Path.{◌≡◌, refl}
use mathlib.Core.Bool.{Bool, true, false}
use Prim.Native.Nat.{ℕ, ◌*◌, ◌^◌, ◌≤◌}
use native.Mathlib.Nat.{mul-le-mul}
use native.Mathlib.Omega.{arith}
use lib.Pow.{pow_mono}
use Rattle.refusals.specs.Verdict.{Accepted, between}
use Rattle.refusals.proofs.Verdicts.{checks, between_words, words_between}
use Rattle.simplex.specs.declared.TheConstants.{LEAST_SYMBOLS, MOST_SYMBOLS}
use Rattle.simplex.specs.Shape.{banks_of}
use Rattle.layout.specs.declared.Shape.{Shape}
use Rattle.layout.specs.declared.TheConstants.{MOST_GROUPS, MOST_PACKET_BYTES, MOST_ROWS}
use Rattle.layout.specs.Shape.{shape_refusal, InRange, banks}
use Rattle.layout.specs.Laws.{Within, WrongShape}

pub range_words : (sh : Shape) → shape_refusal sh ≡ Accepted → InRange sh
unfolding shape_refusal
range_words sh e =
    let k : between LEAST_SYMBOLS MOST_SYMBOLS sh.k ≡ true = search checks in
    let m : between 1 MOST_GROUPS sh.m ≡ true = search checks in
    let p : between 1 MOST_PACKET_BYTES sh.p ≡ true = search checks in
    let g : between 1 MOST_ROWS sh.g ≡ true = search checks in
    let symbols = between_words _ _ _ k in
    record {
      symbols = record { least = symbols.0; most = symbols.1 };
      groups = between_words _ _ _ m;
      bytes = between_words _ _ _ p;
      rows = between_words _ _ _ g;
    }

pub words_range : (sh : Shape) → InRange sh → shape_refusal sh ≡ Accepted
unfolding shape_refusal
words_range sh w = rw (
  words_between LEAST_SYMBOLS MOST_SYMBOLS sh.k (w.symbols.least, w.symbols.most),
  words_between 1 MOST_GROUPS sh.m w.groups,
  words_between 1 MOST_PACKET_BYTES sh.p w.bytes,
  words_between 1 MOST_ROWS sh.g w.rows,
)

-- a number outside a range
no_between : (low high n : ℕ) → (Within low high n → ⊥) → between low high n ≡ false
no_between low high n out = go (between low high n) refl
  where
    go : (t : Bool) → between low high n ≡ t → t ≡ false
    go true e = absurd (out (between_words low high n e))
    go false e = refl

pub wrong_shape : (sh : Shape) → WrongShape sh (shape_refusal sh)
unfolding shape_refusal
wrong_shape sh = record {
  one = λ k. rw (no_between 2 5 sh.k k);
  two = λ k m. rw (words_between 2 5 sh.k k, no_between 1 8 sh.m m);
  three = λ k m p. rw (words_between 2 5 sh.k k, words_between 1 8 sh.m m, no_between 1 2048 sh.p p);
  four = λ k m p g. rw (words_between 2 5 sh.k k, words_between 1 8 sh.m m, words_between 1 2048 sh.p p, no_between 1 64 sh.g g);
}

-- ---- sizes: no product of the numbers of a shape in range is large

pub few_banks : (sh : Shape) → InRange sh → banks sh ≤ banks_of MOST_SYMBOLS
few_banks sh w = let l : 2 ^ sh.k ≤ 2 ^ MOST_SYMBOLS = pow_mono w.symbols.most in omega arith

pub all_banks_lem : (sh : Shape) (x : ℕ) → InRange sh → x ≤ MOST_GROUPS → x * banks sh ≤ MOST_GROUPS * banks_of MOST_SYMBOLS
all_banks_lem sh x w l = mul-le-mul l (few_banks sh w)
