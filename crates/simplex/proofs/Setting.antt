-- Laws of banks that are set in a store: each has what it was set to, and every other byte is as it was.
use mathlib.Core.Path.{◌≡◌, refl, sym, ap, ◌∙◌}
use mathlib.Core.Logic.{inl, inr, ⊎_elim}
use mathlib.Core.Bool.{Bool, true, false, cond}
use mathlib.Core.List.{List, [], ◌∷◌}
use Prim.Native.Nat.{ℕ, zero, suc, ◌+◌, ◌-◌, ◌*◌, ◌≤◌, ◌<◌}
use native.Mathlib.Nat.{eq-or-lt_of_le, mul-le-mul_right, suc-mul}
use native.Mathlib.Omega.{arith}
use lib.ListN.{length, get_or}
use lib.Seq.{ext_get_or}
use Rattle.cells.specs.Cell.{cell, put, Outside, Apart}
use Rattle.cells.proofs.Cells.{length_put, length_cell, get_or_cell, cell_put, cell_put_out, get_or_put_out}
use Rattle.simplex.specs.Code.{Packet}
use Rattle.simplex.specs.Banks.{spaced, Room, bank_set, each_bank, BanksSet}

-- what lies at a place, put there
put_back : (s : List ℕ) (at p : ℕ) → put s at (cell s at p) ≡ s
unfolding put
put_back [] at p = refl
put_back (x ∷ s) (suc at) p = ap (◌∷◌ x) (put_back s at p)
put_back (x ∷ s) zero zero = refl
put_back (x ∷ s) zero (suc p) = ap (◌∷◌ x) (put_back s zero p)

-- fewer banks have room where more have
pub fewer : {P : ℕ} {place : ℕ → ℕ} {n size : ℕ} (m : ℕ) → m ≤ n → Room P place n size → Room P place m size
fewer m h r = record { within = λ b l u. r.within b l (omega arith); rising = λ a b l q u. r.rising a b l q (omega arith) }

-- banks a step apart have it
pub spaced_room : (P at step n size : ℕ) → P ≤ step → spaced at step n + P ≤ size → Room P (spaced at step) n size
spaced_room P at step n size q fits = record { within = within; rising = rising }
  where
    within : (b : ℕ) → 1 ≤ b → b ≤ n → spaced at step b + P ≤ size
    within b l u = let m : (b - 1) * step ≤ (n - 1) * step = mul-le-mul_right step (omega arith) in omega arith

    rising : (a b : ℕ) → 1 ≤ a → a < b → b ≤ n → spaced at step a + P ≤ spaced at step b
    rising a b l m u =
        let f : suc (a - 1) * step ≤ (b - 1) * step = mul-le-mul_right step (omega arith) in
        let e : suc (a - 1) * step ≡ (a - 1) * step + step = suc-mul (a - 1) step in
        omega arith

module _ (test : ℕ → Bool) (what : List ℕ → ℕ → Packet) (place : ℕ → ℕ) where
  -- set up to bank b - 1, and then bank b
  pub each_more : (b : ℕ) (s : List ℕ) → 1 ≤ b → bank_set test what place b (each_bank test what place (b - 1) s) ≡ each_bank test what place b s
  unfolding each_bank
  each_more zero s some = absurd (omega arith)
  each_more (suc n) s some = let before : suc n - 1 ≡ n = omega arith in rw before refl

  -- none of them passes the test
  pub none_set : (n : ℕ) (s : List ℕ) → ((b : ℕ) → 1 ≤ b → b ≤ n → test b ≡ false) → each_bank test what place n s ≡ s
  unfolding each_bank
  none_set zero s none = refl
  none_set (suc n) s none = rw (none (suc n) (omega arith) (omega arith)) (none_set n s (λ b l u. none b l (omega arith)))

  pub length_each : (n : ℕ) (s : List ℕ) → length (each_bank test what place n s) ≡ length s
  unfolding each_bank
  length_each zero s = refl
  length_each (suc n) s = go (test (suc n)) (each_bank test what place n s) ∙ length_each n s
    where
      go : (t : Bool) (s : List ℕ) → length (cond t (put s (place (suc n)) (what s (suc n))) s) ≡ length s
      go true s = length_put s (place (suc n)) (what s (suc n))
      go false s = refl

  -- what is set on banks 1 to n, and where, is all that counts
  pub each_same : (what' : List ℕ → ℕ → Packet) (place' : ℕ → ℕ) (n : ℕ) (s : List ℕ)
      → ((b : ℕ) → 1 ≤ b → b ≤ n → (place b ≡ place' b) × ((now : List ℕ) → what now b ≡ what' now b))
      → each_bank test what place n s ≡ each_bank test what' place' n s
  unfolding each_bank
  each_same what' place' zero s same = refl
  each_same what' place' (suc n) s same =
      let last = same (suc n) (omega arith) (omega arith) in
      rw (last.0, last.1 (each_bank test what place n s), each_same what' place' n s (λ b l u. same b l (omega arith))) refl

  module _ (P : ℕ) where
    -- one bank leaves a cell apart from its own, and a byte outside it
    pub bank_apart : (b : ℕ) (s : List ℕ) (f : ℕ) → (test b ≡ true → (length (what s b) ≡ P) × Apart P f (place b)) → f + P ≤ length s
        → cell (bank_set test what place b s) f P ≡ cell s f P
    bank_apart b s f out fits = go (test b) out
      where
        go : (t : Bool) → (t ≡ true → (length (what s b) ≡ P) × Apart P f (place b)) → cell (cond t (put s (place b) (what s b)) s) f P ≡ cell s f P
        go true out = let o = out refl in cell_put_out s (place b) (what s b) f P (rw o.0 o.1) fits
        go false out = refl

    bank_outside : (b : ℕ) (s : List ℕ) (x : ℕ) → (test b ≡ true → (length (what s b) ≡ P) × Outside P (place b) x)
        → get_or (bank_set test what place b s) x 0 ≡ get_or s x 0
    bank_outside b s x out = go (test b) out
      where
        go : (t : Bool) → (t ≡ true → (length (what s b) ≡ P) × Outside P (place b) x) → get_or (cond t (put s (place b) (what s b)) s) x 0 ≡ get_or s x 0
        go true out = let o = out refl in get_or_put_out s (place b) (what s b) x (rw o.0 o.1)
        go false out = refl

    -- what it may be set to has P bytes, in every store of this size
    abbrev Whole : (n size : ℕ) → Type 0
    Whole n size = (b : ℕ) → 1 ≤ b → b ≤ n → test b ≡ true → (now : List ℕ) → length now ≡ size → length (what now b) ≡ P

    -- each has what was given for the store as it then stood
    each_cell : (n : ℕ) (s : List ℕ) → Whole n (length s) → Room P place n (length s) → (b : ℕ) → 1 ≤ b → b ≤ n → test b ≡ true
        → cell (each_bank test what place n s) (place b) P ≡ what (each_bank test what place (b - 1) s) b
    unfolding each_bank
    each_cell zero s w r b l u on = absurd (omega arith)
    each_cell (suc n) s w r b l u on =
        let before : List ℕ = each_bank test what place n s in
        let len : length before ≡ length s = length_each n s in
        ⊎_elim
        (λ (e : b ≡ suc n).
        let here : test (suc n) ≡ true = rw e at on in
        let last : suc n - 1 ≡ n = omega arith in
        rw (e, here, last)
        (cell_put before (place (suc n)) (what before (suc n)) P (w (suc n) (omega arith) (omega arith) here before len)
        (rw len (r.within (suc n) (omega arith) (omega arith)))))
        (λ (m : b < suc n).
        bank_apart (suc n) before (place b) (λ here. (w (suc n) (omega arith) (omega arith) here before len, inl (r.rising b (suc n) l m (omega arith)))) (rw len (r.within b l u))
        ∙ each_cell n s (λ c p q. w c p (omega arith)) (fewer n (omega arith) r) b l (omega arith) on)
        (eq-or-lt_of_le u)

    each_other : (n : ℕ) (s : List ℕ) → Whole n (length s) → (x : ℕ) → ((b : ℕ) → 1 ≤ b → b ≤ n → test b ≡ true → Outside P (place b) x)
        → get_or (each_bank test what place n s) x 0 ≡ get_or s x 0
    unfolding each_bank
    each_other zero s w x out = refl
    each_other (suc n) s w x out =
        bank_outside (suc n) (each_bank test what place n s) x
        (λ here. (w (suc n) (omega arith) (omega arith) here (each_bank test what place n s) (length_each n s), out (suc n) (omega arith) (omega arith) here))
        ∙ each_other n s (λ b l u. w b l (omega arith)) x (λ b l u. out b l (omega arith))

    pub each_set : (n : ℕ) (s : List ℕ) → Whole n (length s) → Room P place n (length s)
        → BanksSet P test (λ b. what (each_bank test what place (b - 1) s) b) place n s (each_bank test what place n s)
    each_set n s w r = record { size = length_each n s; banks = each_cell n s w r; others = each_other n s w }

-- a cell apart from those that were set is as it was
pub cell_kept : {P : ℕ} {test : ℕ → Bool} {what : ℕ → Packet} {place : ℕ → ℕ} {n : ℕ} {s after : List ℕ} → BanksSet P test what place n s after
    → (at : ℕ) → at + P ≤ length s → ((b : ℕ) → 1 ≤ b → b ≤ n → test b ≡ true → Apart P at (place b)) → cell after at P ≡ cell s at P
cell_kept {P} {test} {what} {place} {n} {s} {after} set at fits apart =
    let len : length (cell after at P) ≡ P = length_cell after at P (rw set.size fits) in
    ext_get_or 0 (cell after at P) (cell s at P) (len ∙ sym (length_cell s at P fits))
    (λ j l. let below : j < P = rw len at l in
    get_or_cell after at P j below ∙ set.others (at + j) (λ b p q on. outside j below b (apart b p q on)) ∙ sym (get_or_cell s at P j below))
  where
    outside : (j : ℕ) → j < P → (b : ℕ) → Apart P at (place b) → Outside P (place b) (at + j)
    outside j l b a = ⊎_elim (λ (e : at + P ≤ place b). inl (omega arith)) (λ (e : place b + P ≤ at). inr (omega arith)) a

-- whether a bank that holds what it would be set to is set makes no difference
pub each_agrees : (P : ℕ) (test : ℕ → Bool) (what all : ℕ → Packet) (place : ℕ → ℕ) (n : ℕ) (s : List ℕ) → ((b : ℕ) → length (all b) ≡ P)
    → Room P place n (length s) → ((b : ℕ) → 1 ≤ b → b ≤ n → cond (test b) (what b) (cell s (place b) P) ≡ all b)
    → each_bank test (λ now. what) place n s ≡ each_bank (λ b. true) (λ now. all) place n s
unfolding each_bank
each_agrees P test what all place zero s size room same = refl
each_agrees P test what all place (suc n) s size room same =
    rw (each_agrees P test what all place n s size (fewer n (omega arith) room) (λ b l u. same b l (omega arith)))
    (go (test (suc n)) (same (suc n) (omega arith) (omega arith)))
  where
    before : List ℕ
    before = each_bank (λ b. true) (λ now. all) place n s

    kept : cell before (place (suc n)) P ≡ cell s (place (suc n)) P
    kept =
        cell_kept (each_set (λ b. true) (λ now. all) place P n s (λ b l u on now len. size b) (fewer n (omega arith) room)) (place (suc n))
        (room.within (suc n) (omega arith) (omega arith)) (λ b l u on. inr (room.rising b (suc n) l (omega arith) (omega arith)))

    go : (t : Bool) → cond t (what (suc n)) (cell s (place (suc n)) P) ≡ all (suc n)
        → cond t (put before (place (suc n)) (what (suc n))) before ≡ put before (place (suc n)) (all (suc n))
    go true e = ap (put before (place (suc n))) e
    go false e = sym (ap (put before (place (suc n))) (sym e ∙ sym kept) ∙ put_back before (place (suc n)) P)
