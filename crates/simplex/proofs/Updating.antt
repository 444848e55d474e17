-- An update of a symbol's packet: which cells it sets, and that on the code's cells it leaves what a filling with the new packet gives.
use mathlib.Core.Path.{◌≡◌, refl, sym, ap, ap₂, ◌∙◌, subst}
use mathlib.Core.Logic.{inl, inr}
use mathlib.Core.Bool.{Bool, true, false, cond}
use mathlib.Core.List.{List, [], ◌∷◌}
use Prim.Native.Nat.{ℕ, zero, suc, ◌+◌, ◌-◌, ◌/◌, ◌%◌, ◌^◌, ◌≤◌, ◌<◌}
use native.Mathlib.Nat.{le_of_suc-le-suc, le_of_eq, le_refl, div-one, not-suc-le-zero}
use native.Mathlib.Omega.{arith}
use borrow.Author.Tests.{eq-eqb}
use lib.ListN.{length, get_or, set}
use lib.Pow.{pow_pos}
use Rattle.bits.specs.Bits.{bit}
use Rattle.bits.specs.Marks.{how_many}
use Rattle.bits.proofs.Digits.{digit, low_lt}
use Rattle.bits.proofs.Bits.{bit_half}
use Rattle.std.proofs.lemmas.Nat.Bits.{bit_at-pow_same}
use Rattle.bits.proofs.Marks.{bit_mark, unmarked, many_after, bit_many}
use Rattle.bits.proofs.Sets.{lt_none}
use Rattle.cells.specs.Cell.{cell, put}
use Rattle.cells.specs.Xor.{xor_bytes}
use Rattle.cells.proofs.Xors.{comm, left_comm, cancel, xor_back, length_xor}
use Rattle.cells.proofs.Cells.{put_swap, length_cell, cell_put_out}
use Rattle.simplex.specs.Shape.{banks_of}
use Rattle.simplex.specs.Symbols.{has_symbol}
use Rattle.simplex.specs.Code.{Packet, Sized, bank_cell}
use Rattle.simplex.specs.Banks.{Room, bank_set, each_bank, BanksSet}
use Rattle.simplex.specs.Filling.{filled}
use Rattle.simplex.specs.Updating.{bank_updated, symbol_updated}
use Rattle.simplex.proofs.Banks.{xor_if, cell_cons, cell_one, length_bank}
use Rattle.simplex.proofs.Filling.{filled_cells}
use Rattle.simplex.proofs.Setting.{fewer, each_more, none_set, each_same, bank_apart, each_set, cell_kept, each_agrees}

-- ---- the banks that hold a symbol

pub systematic_holds : (i : ℕ) → has_symbol (2 ^ i) i ≡ true
systematic_holds i = eq-eqb _ _ (bit_at-pow_same i)

-- 0, which is no bank, holds none, so counting may start at bank 1
pub holders : (K i : ℕ) → i < K → how_many (λ b. has_symbol (suc b) i) (banks_of K) ≡ 2 ^ (K - 1)
holders K i l =
    let all : suc (banks_of K) ≡ 2 ^ K = omega (arith, pow_pos K) in
    let none : has_symbol 0 i ≡ false = unmarked i in
    omega (arith, ap (how_many (λ b. has_symbol b i)) all, many_after (λ b. has_symbol b i) (banks_of K), ap (λ (t : Bool). cond {A = ℕ} t 1 0) none, bit_many K i l)

-- ---- the cells that are set

-- placings that agree on banks 1 to n
pub updated_same : (P i : ℕ) (packet : Packet) (place other : ℕ → ℕ) (n : ℕ) (s : List ℕ) → 2 ^ i ≤ n
    → ((b : ℕ) → 1 ≤ b → b ≤ n → place b ≡ other b) → symbol_updated P i packet place n s ≡ symbol_updated P i packet other n s
updated_same P i packet place other n s systematic same =
    each_same (λ b. has_symbol b i) (λ now. bank_updated P i packet place s) place (λ now. bank_updated P i packet other s) other n s
    (λ b l u. (
      same b l u,
      λ now. ap₂ (λ (at first : ℕ). xor_bytes (cell s at P) (xor_bytes (cell s first P) packet)) (same b l u) (same (2 ^ i) (pow_pos i) systematic),
    ))

-- of the store s as it came, and the store now, in the loop: it leaves the systematic bank, which still has the old packet, to the end, and with the new packet
-- there the store is that after banks 1 to b
pub record Turned (P i : ℕ) (packet : Packet) (place : ℕ → ℕ) (s : List ℕ) (b : ℕ) (now : List ℕ) : Type 0 where
  pub old : cell now (place (2 ^ i)) P ≡ cell s (place (2 ^ i)) P
  pub changed : put now (place (2 ^ i)) packet ≡ symbol_updated P i packet place b s

module _ (P i : ℕ) (packet : Packet) (place : ℕ → ℕ) (n : ℕ) (s : List ℕ) (size : length packet ≡ P) (systematic : 2 ^ i ≤ n)
    (room : Room P place n (length s)) where
  abbrev first : ℕ
  first = place (2 ^ i)

  abbrev holds : ℕ → Bool
  holds b = has_symbol b i

  abbrev what : ℕ → Packet
  what = bank_updated P i packet place s

  first_size : length (cell s first P) ≡ P
  first_size = length_cell s first P (room.within (2 ^ i) (pow_pos i) systematic)

  what_size : (b : ℕ) → 1 ≤ b → b ≤ n → length (what b) ≡ P
  what_size b l u =
      let change = length_xor (cell s first P) packet (first_size ∙ sym size) ∙ first_size in
      let own = length_cell s (place b) P (room.within b l u) in
      length_xor (cell s (place b) P) (xor_bytes (cell s first P) packet) (own ∙ sym change) ∙ own

  up_to : (m : ℕ) → m ≤ n → BanksSet P holds what place m s (symbol_updated P i packet place m s)
  up_to m h = each_set holds (λ now. what) place P m s (λ b l u on now len. what_size b l (omega arith)) (fewer m h room)

  pub updated : BanksSet P holds what place n s (symbol_updated P i packet place n s)
  updated = up_to n (le_refl n)

  -- what lies before the systematic bank holds no symbol i, and there the XOR is the new packet
  pub turned_first : Turned P i packet place s (2 ^ i) s
  turned_first =
      let none = none_set holds (λ now. what) place (2 ^ i - 1) s (λ b l u. lt_none b i (omega (arith, pow_pos i)) i (le_refl i)) in
      let back : what (2 ^ i) ≡ packet = xor_back (cell s first P) packet (first_size ∙ sym size) in
      record {
        old = refl;
        changed = sym
            (sym (each_more holds (λ now. what) place (2 ^ i) s (pow_pos i)) ∙ ap (bank_set holds (λ now. what) place (2 ^ i)) none
            ∙ rw (systematic_holds i) (ap (put s first) back));
      }

  -- a bank behind it: it is as it was, its change leaves the systematic bank so, and does not depend on it
  pub turned_more : (m b : ℕ) (now : List ℕ) → b ≡ suc m → 2 ^ i ≤ m → b ≤ n → length now ≡ length s → Turned P i packet place s m now
      → Turned P i packet place s b (bank_set holds (bank_updated P i packet place) place b now)
  unfolding each_bank
  turned_more m b now e l u same t =
      let within : place b + P ≤ length s = room.within b (omega arith) u in
      let behind : first + P ≤ place b = room.rising (2 ^ i) b (pow_pos i) (omega arith) u in
      let past : first + length packet ≤ place b = rw size behind in
      let own : cell now (place b) P ≡ cell s (place b) P =
      sym (cell_put_out now first packet (place b) P (inr past) (rw same within)) ∙ ap (λ (t : List ℕ). cell t (place b) P) t.changed
      ∙ cell_kept (up_to m (omega arith)) (place b) within (λ c p q on. inr (room.rising c b p (omega arith) u)) in
      let is : bank_updated P i packet place now b ≡ what b =
      ap₂ (λ (c old : Packet). xor_bytes c (xor_bytes old packet)) own t.old in
      subst (λ (c : Packet). Turned P i packet place s b (cond (holds b) (put now (place b) c) now)) (sym is)
      (record {
        old = bank_apart holds (λ now. what) place P b now first (λ on. (what_size b (omega arith) u, inl behind)) (omega arith) ∙ t.old;
        changed = swapped now (place b) (what b) past (holds b) ∙ rw e (ap (bank_set holds (λ now. what) place (suc m)) t.changed);
      })
    where
      swapped : (now : List ℕ) (at : ℕ) (c : Packet) → first + length packet ≤ at → (t : Bool)
          → put (cond t (put now at c) now) first packet ≡ cond t (put (put now first packet) at c) (put now first packet)
      swapped now at c past true = put_swap now first packet at c past
      swapped now at c past false = refl

-- ---- what the code puts into a bank, with one packet changed

xor_if_swap : (d e : ℕ) → d < 2 → e < 2 → (p q r : Packet) → xor_if d p (xor_if e q r) ≡ xor_if e q (xor_if d p r)
xor_if_swap d e hd he p q r =
    digit (λ (d : ℕ). xor_if d p (xor_if e q r) ≡ xor_if e q (xor_if d p r)) refl
    (digit (λ (e : ℕ). xor_bytes p (xor_if e q r) ≡ xor_if e q (xor_bytes p r)) refl (left_comm p q r) e he)
    d hd

-- the first packet p becomes q: the XOR of the two, where the lowest bit is 1
xor_if_changed : (d : ℕ) → d < 2 → (p q r : Packet) → length q ≤ length p → xor_if d q r ≡ xor_if d (xor_bytes p q) (xor_if d p r)
xor_if_changed d h p q r l = digit (λ (d : ℕ). xor_if d q r ≡ xor_if d (xor_bytes p q) (xor_if d p r)) refl (sym (cancel p q r l)) d h

bit_lt : (b i : ℕ) → bit b i < 2
bit_lt b i = low_lt (b / 2 ^ i)

edited_bank : (P : ℕ) (packets : List Packet) (i : ℕ) (packet : Packet) (b : ℕ) → i < length packets → Sized P packets → length packet ≡ P
    → bank_cell P (set packets i packet) b ≡ xor_if (bit b i) (xor_bytes (get_or packets i []) packet) (bank_cell P packets b)
edited_bank P [] i packet b l h e = absurd (not-suc-le-zero l)
edited_bank P (p ∷ packets) zero packet b l h e =
    let low : b % 2 ≡ bit b 0 = ap (λ (n : ℕ). n % 2) (sym (div-one b)) in
    let rest : Packet = bank_cell P packets (b / 2) in
    cell_cons P packet packets b
    ∙ xor_if_changed (b % 2) (low_lt b) p packet rest (le_of_eq (e ∙ sym h.0))
    ∙ ap (λ (d : ℕ). xor_if d (xor_bytes p packet) (xor_if (b % 2) p rest)) low
    ∙ ap (xor_if (bit b 0) (xor_bytes p packet)) (sym (cell_cons P p packets b))
edited_bank P (p ∷ packets) (suc i) packet b l h e =
    let change : Packet = xor_bytes (get_or packets i []) packet in
    let rest : Packet = bank_cell P packets (b / 2) in
    cell_cons P p (set packets i packet) b
    ∙ ap (xor_if (b % 2) p) (edited_bank P packets i packet (b / 2) (le_of_suc-le-suc l) h.1 e)
    ∙ xor_if_swap (b % 2) (bit (b / 2) i) (low_lt b) (bit_lt (b / 2) i) p change rest
    ∙ ap₂ (λ (d : ℕ) (r : Packet). xor_if d change r) (sym (bit_half b i refl)) (sym (cell_cons P p packets b))

-- ---- an update where the cells are the code's

module _ (P : ℕ) (packets : List Packet) (i : ℕ) (packet : Packet) (place : ℕ → ℕ) (n : ℕ) (s : List ℕ)
    (symbol : i < length packets) (systematic : 2 ^ i ≤ n) (sized : Sized P packets) (size : length packet ≡ P) (room : Room P place n (length s))
    (cells : (b : ℕ) → 1 ≤ b → b ≤ n → cell s (place b) P ≡ bank_cell P packets b) where
  abbrev old : Packet
  old = get_or packets i []

  -- the systematic bank has the old packet
  old_there : cell s (place (2 ^ i)) P ≡ old
  old_there = cells (2 ^ i) (pow_pos i) systematic ∙ cell_one P packets i symbol sized

  edited_sized : Sized P (set packets i packet)
  edited_sized = go packets i sized
    where
      go : (ps : List Packet) (j : ℕ) → Sized P ps → Sized P (set ps j packet)
      go [] j h = tt
      go (p ∷ ps) zero h = (size, h.1)
      go (p ∷ ps) (suc j) h = (h.0, go ps j h.1)

  each : (b : ℕ) → 1 ≤ b → b ≤ n
      → cond (has_symbol b i) (bank_updated P i packet place s b) (cell s (place b) P) ≡ bank_cell P (set packets i packet) b
  each b l u = go (has_symbol b i) refl ∙ sym (edited_bank P packets i packet b symbol sized size)
    where
      go : (t : Bool) → has_symbol b i ≡ t
          → cond t (bank_updated P i packet place s b) (cell s (place b) P) ≡ xor_if (bit b i) (xor_bytes old packet) (bank_cell P packets b)
      go true e =
          let one : bit b i ≡ 1 = bit_mark b i ∙ rw e in
          rw one
          (ap₂ (λ (c d : Packet). xor_bytes c (xor_bytes d packet)) (cells b l u) old_there ∙ comm (bank_cell P packets b) (xor_bytes old packet))
      go false e = let none : bit b i ≡ 0 = bit_mark b i ∙ rw e in rw none (cells b l u)

  pub fresh : symbol_updated P i packet place n s ≡ filled P (set packets i packet) place n s
  fresh =
      each_agrees P (λ b. has_symbol b i) (bank_updated P i packet place s) (bank_cell P (set packets i packet)) place n s
      (λ b. length_bank P (set packets i packet) b edited_sized) room each
      ∙ sym (filled_cells P (set packets i packet) place edited_sized n s room)
