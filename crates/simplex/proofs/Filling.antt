-- Laws of a group's banks in a store, filled by copies and steps: each bank's cell holds what the code says, and every other byte is as it was.
use mathlib.Core.Path.{◌≡◌, refl, sym, ap, ap₂, ◌∙◌}
use mathlib.Core.Logic.{⊎_elim}
use mathlib.Core.Bool.{true}
use mathlib.Core.List.{List, []}
use Prim.Native.Nat.{ℕ, zero, suc, ◌+◌, ◌-◌, ◌*◌, ◌^◌, ◌≤◌, ◌<◌}
use native.Mathlib.Nat.{le_of_suc-le-suc, suc-mul, zero-mul, not-suc-le-zero, mul-le-mul_right}
use native.Mathlib.Omega.{arith}
use borrow.Author.Tests.{eq-eqb, ne_eqb}
use lib.ListN.{length, get_or, take, drop, length-drop}
use lib.Pow.{pow_pos}
use lib.Seq.{length-take-le, drop-drop}
use Rattle.std.proofs.lemmas.List.{get_or_default}
use Rattle.cells.specs.Cell.{cell, put}
use Rattle.cells.specs.Xor.{xor_bytes, zeros}
use Rattle.simplex.specs.Shape.{banks_of, degree_of}
use Rattle.simplex.specs.Symbols.{highest_of, without_highest}
use Rattle.simplex.specs.Code.{Packet, Sized, bank_cell}
use Rattle.simplex.specs.Banks.{spaced, Room, each_bank, BanksSet}
use Rattle.simplex.specs.Filling.{packets_of, running_xor, running_step, bank_filled, filled, Fillable}
use Rattle.simplex.proofs.Banks.{cell_power, length_bank}
use Rattle.simplex.proofs.Setting.{fewer, each_more, each_same, each_set, spaced_room}
use Rattle.simplex.proofs.Running.{kind, systematic, some_rest, lower, symbol_below, bank_highest, two_below, systematic_bank, highest_one, highest_more}

-- ---- the packets of a list of bytes

pub length_packets : (p k : ℕ) (bytes : List ℕ) → length (packets_of p k bytes) ≡ k
unfolding packets_of
length_packets p zero bytes = refl
length_packets p (suc k) bytes = ap suc (length_packets p k (drop p bytes))

pub packets_sized : (p k : ℕ) (bytes : List ℕ) → k * p ≤ length bytes → Sized p (packets_of p k bytes)
unfolding packets_of
packets_sized p zero bytes h = tt
packets_sized p (suc k) bytes h =
    let e : suc k * p ≡ k * p + p = suc-mul k p in
    (length-take-le p bytes (omega arith), packets_sized p k (drop p bytes) (rw length-drop (omega arith)))

pub packet_at : (p k : ℕ) (bytes : List ℕ) (i : ℕ) → i < k → get_or (packets_of p k bytes) i [] ≡ cell bytes (i * p) p
unfolding packets_of
packet_at p zero bytes i h = absurd (not-suc-le-zero h)
packet_at p (suc k) bytes zero h = ap (λ (n : ℕ). cell bytes n p) (sym (zero-mul p))
packet_at p (suc k) bytes (suc i) h =
    let e : p + i * p ≡ suc i * p = omega (arith, suc-mul i p) in
    packet_at p k (drop p bytes) i (le_of_suc-le-suc h) ∙ ap (take p) (drop-drop (i * p) p bytes ∙ ap (λ (n : ℕ). drop n bytes) e)

-- ---- the banks

module _ (P : ℕ) (packets : List Packet) where
  abbrev top : ℕ → Packet
  top b = get_or packets (highest_of b) (zeros P)

  copy_filled : (place : ℕ → ℕ) (now : List ℕ) (b : ℕ) → degree_of b ≡ 1 → bank_filled P packets place now b ≡ top b
  copy_filled place now b one = rw (eq-eqb (degree_of b) 1 one) refl

  step_filled : (place : ℕ → ℕ) (now : List ℕ) (b : ℕ) → 2 ≤ degree_of b → bank_filled P packets place now b ≡ running_xor P (top b) place now b
  step_filled place now b two = rw (ne_eqb (degree_of b) 1 (λ e. omega arith)) refl

  -- placings that agree on banks 1 to n
  pub filled_same : (place other : ℕ → ℕ) (n : ℕ) (s : List ℕ) → ((b : ℕ) → 1 ≤ b → b ≤ n → place b ≡ other b)
      → filled P packets place n s ≡ filled P packets other n s
  filled_same place other n s same =
      each_same (λ b. true) (bank_filled P packets place) place (bank_filled P packets other) other n s
      (λ b l u. (
        same b l u,
        λ now. ⊎_elim
            (λ (one : degree_of b ≡ 1). copy_filled place now b one ∙ sym (copy_filled other now b one))
            (λ (two : 2 ≤ degree_of b).
            let source = lower b two in
            step_filled place now b two
            ∙ ap (λ (at : ℕ). xor_bytes (cell now at P) (top b)) (same (without_highest b) source.0 (omega (arith, source.1)))
            ∙ sym (step_filled other now b two))
            (kind b l),
      ))

  module _ (place : ℕ → ℕ) where
    -- filled up to bank b - 1, and then bank b
    pub copied : (b : ℕ) (s : List ℕ) → 1 ≤ b → degree_of b ≡ 1 → put (filled P packets place (b - 1) s) (place b) (top b) ≡ filled P packets place b s
    copied b s some one =
        ap (put (filled P packets place (b - 1) s) (place b)) (sym (copy_filled place (filled P packets place (b - 1) s) b one))
        ∙ each_more (λ b. true) (bank_filled P packets place) place b s some

    pub stepped : (b : ℕ) (s : List ℕ) → 2 ≤ degree_of b
        → put (filled P packets place (b - 1) s) (place b) (running_xor P (top b) place (filled P packets place (b - 1) s) b) ≡ filled P packets place b s
    stepped b s two =
        ap (put (filled P packets place (b - 1) s) (place b)) (sym (step_filled place (filled P packets place (b - 1) s) b two))
        ∙ each_more (λ b. true) (bank_filled P packets place) place b s (some_rest b two).0

    module _ (sized : Sized P packets) where
      -- a bank is filled with what the code says, where the one that a step comes from holds what the code says
      code_bank : (now : List ℕ) (b : ℕ) → 1 ≤ b
          → (2 ≤ degree_of b → cell now (place (without_highest b)) P ≡ bank_cell P packets (without_highest b))
          → bank_filled P packets place now b ≡ bank_cell P packets b
      code_bank now b some source =
          ⊎_elim
          (λ (one : degree_of b ≡ 1).
          copy_filled place now b one ∙ sym (cell_power P packets (highest_of b) sized) ∙ ap (bank_cell P packets) (systematic b some one))
          (λ (two : 2 ≤ degree_of b).
          step_filled place now b two ∙ ap (λ (c : Packet). xor_bytes c (top b)) (source two) ∙ bank_highest b some P packets sized)
          (kind b some)

      abbrev cells : ℕ → List ℕ → List ℕ
      cells n s = each_bank (λ b. true) (λ now. bank_cell P packets) place n s

      cells_set : (n : ℕ) (s : List ℕ) → Room P place n (length s) → BanksSet P (λ b. true) (bank_cell P packets) place n s (cells n s)
      cells_set n s room = each_set (λ b. true) (λ now. bank_cell P packets) place P n s (λ b l u on now len. length_bank P packets b sized) room

      -- so banks 1 to n are
      pub filled_cells : (n : ℕ) (s : List ℕ) → Room P place n (length s) → filled P packets place n s ≡ cells n s
      unfolding each_bank
      filled_cells zero s room = refl
      filled_cells (suc n) s room =
          let fewer = fewer n (omega arith) room in
          rw (filled_cells n s fewer)
          (ap (put (cells n s) (place (suc n)))
          (code_bank (cells n s) (suc n) (omega arith)
          (λ two. let source = lower (suc n) two in (cells_set n s fewer).banks (without_highest (suc n)) source.0 (omega (arith, source.1)) refl)))

      pub filled_holds : (n : ℕ) (s : List ℕ) → Room P place n (length s)
          → BanksSet P (λ b. true) (bank_cell P packets) place n s (filled P packets place n s)
      filled_holds n s room = rw (filled_cells n s room) (cells_set n s room)

-- ---- the filling of a group, bank by bank, from K packets of P bytes

module _ (K P : ℕ) (packets : List ℕ) where
  abbrev group : List Packet
  group = packets_of P K packets

  -- the packet of a bank's highest symbol
  highest_packet : (b : ℕ) → 1 ≤ b → b ≤ banks_of K → get_or group (highest_of b) (zeros P) ≡ cell packets (highest_of b * P) P
  highest_packet b some most =
      let symbol = symbol_below b some K most in
      get_or_default group (highest_of b) (zeros P) [] (rw (length_packets P K packets) symbol) ∙ packet_at P K packets (highest_of b) symbol

  pub packet_there : K * P ≤ length packets → (b : ℕ) → 1 ≤ b → b ≤ banks_of K → suc (highest_of b) * P ≤ length packets
  packet_there fits b some most =
      let up : suc (highest_of b) * P ≤ K * P = mul-le-mul_right P (symbol_below b some K most) in omega (arith, up, fits)

  module _ (place : ℕ → ℕ) (s : List ℕ) where
    abbrev before : ℕ → List ℕ
    before b = filled P group place (b - 1) s

    pub bank_copied : (b : ℕ) → 1 ≤ b → b ≤ banks_of K → degree_of b ≡ 1
        → put (before b) (place b) (cell packets (highest_of b * P) P) ≡ filled P group place b s
    bank_copied b some most one = ap (put (before b) (place b)) (sym (highest_packet b some most)) ∙ copied P group place b s some one

    pub steps : (b : ℕ) → 2 ≤ degree_of b → b ≤ banks_of K → running_step P packets place b (before b) ≡ filled P group place b s
    steps b two most =
        ap (λ (packet : Packet). put (before b) (place b) (running_xor P packet place (before b) b)) (sym (highest_packet b (some_rest b two).0 most))
        ∙ stepped P group place b s two

    pub copies : (i : ℕ) → i < K → put (before (2 ^ i)) (place (2 ^ i)) (cell packets (i * P) P) ≡ filled P group place (2 ^ i) s
    copies i symbol =
        let is = highest_one i in
        ap (λ (j : ℕ). put (before (2 ^ i)) (place (2 ^ i)) (cell packets (j * P) P)) (sym is.0)
        ∙ bank_copied (2 ^ i) (pow_pos i) (systematic_bank K i symbol) is.1

    pub sources : (i r : ℕ) → i < K → 1 ≤ r → r < 2 ^ i
        → put (before (2 ^ i + r)) (place (2 ^ i + r)) (xor_bytes (cell (before (2 ^ i + r)) (place r) P) (cell packets (i * P) P))
        ≡ filled P group place (2 ^ i + r) s
    sources i r symbol some below =
        let is = highest_more i r some below in
        let b : ℕ = 2 ^ i + r in
        let most : b ≤ banks_of K = omega (arith, two_below K i symbol) in
        ap₂ (λ (rest j : ℕ). put (before b) (place b) (xor_bytes (cell (before b) (place rest) P) (cell packets (j * P) P))) (sym is.1) (sym is.0)
        ∙ steps b is.2 most

pub fillable_sized : (K P at step : ℕ) (packets store : List ℕ) → Fillable K P at step packets store → Sized P (packets_of P K packets)
fillable_sized K P at step packets store f = packets_sized P K packets (omega arith)

pub fillable_room : (K P at step : ℕ) (packets store : List ℕ) → Fillable K P at step packets store
    → Room P (spaced at step) (banks_of K) (length store)
fillable_room K P at step packets store f = spaced_room P at step (banks_of K) (length store) f.step_size f.last

pub filling_holds : (K P at step : ℕ) (packets store : List ℕ) → Fillable K P at step packets store
    → BanksSet P (λ b. true) (bank_cell P (packets_of P K packets)) (spaced at step) (banks_of K) store
    (filled P (packets_of P K packets) (spaced at step) (banks_of K) store)
filling_holds K P at step packets store f =
    filled_holds P (packets_of P K packets) (spaced at step) (fillable_sized K P at step packets store f) (banks_of K) store
    (fillable_room K P at step packets store f)
