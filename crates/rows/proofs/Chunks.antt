-- A generation cut into the packets of its groups, as an iterator over them goes.
use Rattle.std.proofs.Common.{ℕ, ◌≡◌, ◌+◌, ◌-◌, ◌*◌, ◌≤◌, ◌<◌, List, ◌++◌, length, take, drop, Bor, Some, None, refl, sym, ap, ◌∙◌, arith}
use Rattle.std.specs.declared.slice.ChunksExact.{ChunksExact}
use Rattle.std.specs.declared.iter.Enumerate.{Enumerate}
use Rattle.std.specs.Slice.Iter.{chunks_exact_rest, chunks_exact_size, chunks_exact_steps}
use Rattle.std.specs.Iterator.Adapters.{enumerate_source, enumerate_count, enumerate_steps}
use native.Mathlib.Nat.{zero-mul, one-mul, add-mul, mul-le-mul, lt_of_mul-lt-mul_right}
use Rattle.std.proofs.lemmas.List.{drop-drop, drop_at, take_at, length-drop, length-append}
use Rattle.cells.specs.Cell.{cell}
use Rattle.simplex.specs.Filling.{packets_of}
use Rattle.layout.specs.declared.Shape.{Shape}
use Rattle.layout.specs.Shape.{InRange, generation_size}
use Rattle.rows.specs.Rows.{group_written, groups_written, row_written}
use Rattle.rows.proofs.Groups.{none_written, one_written}

-- The groups that came are put, and what is left of the generation starts after their packets.
pub record Turned (sh : Shape) (row : ℕ) (generation s now : List ℕ) (left : Enumerate (ChunksExact ℕ)) : Type 0 where
  pub size : chunks_exact_size (enumerate_source left) ≡ sh.k * sh.p
  pub rest : chunks_exact_rest (enumerate_source left) ≡ drop (enumerate_count left * (sh.k * sh.p)) generation
  pub below : enumerate_count left ≤ sh.m
  pub put : now ≡ groups_written sh row generation (enumerate_count left) s

-- One turn: group x is there, its packets are its part of the generation, and it is put.
pub record Turn (sh : Shape) (row : ℕ) (generation s now : List ℕ) (next : Enumerate (ChunksExact ℕ)) (x : ℕ) (packets : List ℕ) : Type 0 where
  pub there : x < sh.m
  pub size : length packets ≡ sh.k * sh.p
  pub put : (after : List ℕ) → after ≡ group_written sh x row (packets_of sh.p sh.k packets) now → Turned sh row generation s after next

pub begun : (sh : Shape) (row : ℕ) (generation s : List ℕ) (left : Enumerate (ChunksExact ℕ)) → chunks_exact_size (enumerate_source left) ≡ sh.k * sh.p
    → chunks_exact_rest (enumerate_source left) ≡ generation → enumerate_count left ≡ 0 → Turned sh row generation s s left
begun sh row generation s left size rest none = record {
  size = size;
  rest = rest ∙ rw (none, zero-mul (sh.k * sh.p)) refl;
  below = rw none (omega arith);
  put = rw none (none_written sh row generation s);
}

module _ {sh : Shape} {row : ℕ} {generation s now : List ℕ} {left : Enumerate (ChunksExact ℕ)} (w : InRange sh)
    (whole : length generation ≡ generation_size sh) (t : Turned sh row generation s now left) where
  abbrev size : ℕ
  size = sh.k * sh.p

  -- how much is left
  left_len : length (chunks_exact_rest (enumerate_source left)) ≡ sh.m * size - enumerate_count left * size
  unfolding generation_size
  left_len = ap length t.rest ∙ length-drop (enumerate_count left * size) generation ∙ omega (arith, whole)

  some : 1 ≤ size
  some =
      let symbol : 1 ≤ sh.k = omega (arith, w.symbols.least) in
      let least : 1 * 1 ≤ sh.k * sh.p = mul-le-mul symbol w.bytes.0 in
      omega arith

  pub turn : (x : ℕ) (packets : Bor (List ℕ)) (next : _) → enumerate_steps chunks_exact_steps left (Some (x, packets)) next
      → Turn sh row generation s now next x packets.now
  turn x packets next step =
      let at : x ≡ enumerate_count left = step.1 in
      let len : length packets.now ≡ size = step.0.1.1 ∙ t.size in
      let start : drop (x * size) generation ≡ packets.now ++ chunks_exact_rest (enumerate_source next) = rw at (sym t.rest ∙ step.0.1.0) in
      let part : packets.now ≡ cell generation (x * size) size =
      sym (ap (take size) start ∙ take_at packets.now (chunks_exact_rest (enumerate_source next)) size len) in
      let more : length packets.now + length (chunks_exact_rest (enumerate_source next)) ≡ sh.m * size - x * size =
      sym (length-append packets.now (chunks_exact_rest (enumerate_source next))) ∙ ap length (sym step.0.1.0) ∙ rw at left_len in
      let there : x < sh.m = lt_of_mul-lt-mul_right size (omega (arith, more, len, some)) in
      let past : drop size (drop (x * size) generation) ≡ chunks_exact_rest (enumerate_source next) =
      ap (drop size) start ∙ drop_at packets.now (chunks_exact_rest (enumerate_source next)) size len in
      let after : enumerate_count next ≡ x + 1 = rw at step.2 in
      record {
        there = there;
        size = len;
        put = λ new is. record {
          size = step.0.0 ∙ t.size;
          rest = sym past ∙ drop-drop size (x * size) generation ∙ ap (λ (n : ℕ). drop n generation) (rw after (omega (arith, add-mul x 1 size)));
          below = rw after (omega arith);
          put = is ∙ rw after (one_written sh row generation x s now packets.now (rw at t.put) part);
        };
      }

  pub all_put : (next : _) → enumerate_steps chunks_exact_steps left None next → now ≡ row_written sh row generation s
  all_put next step =
      let last : sh.m < enumerate_count left + 1 =
      lt_of_mul-lt-mul_right size (omega (arith, left_len, step.0.1.0, t.size, some, add-mul (enumerate_count left) 1 size, one-mul size)) in
      let all : enumerate_count left ≡ sh.m = omega (arith, t.below) in
      t.put ∙ ap (λ (n : ℕ). groups_written sh row generation n s) all
