-- What the counts so far have left of the room; and where one is more than that, the counts are more than the room.
use Rattle.std.proofs.Common.{ℕ, ◌≡◌, ◌+◌, ◌<◌, ◌≤◌, Option, Some, None, List, [], ◌∷◌, map, length, get_or, take, refl, ap, ◌∙◌, arith}
use Rattle.std.specs.List.{FoldsTo}
use Rattle.std.specs.Option.{MatchOption}
use Rattle.std.specs.Iterator.{Yields}
use Rattle.std.proofs.lemmas.Grind.{get_or_default_zero}
use Rattle.std.proofs.lemmas.Iterator.{YieldsList, YieldsList-from_slice}
use Rattle.std.proofs.lemmas.Iterator.Consumers.{YieldsList-so_far, YieldsList-turn, YieldsList-end}
use Rattle.std.proofs.lemmas.Bool.Decides.{nat_tests}
use Rattle.std.specs.List.{sum}
use Rattle.simplex.proofs.Contained.{sum_cons}
use Rattle.audit.specs.Audit.{rest_of}
use Rattle.audit.proofs.Places.{place_most}
use Rattle.audit.proofs.take_from.Goals as goal

went : {A F : Type 0} (R : F × ℕ → A → F × ℕ → Type 0) (v : A → ℕ) → ((p q : F × ℕ) (x : A) → R p x q → p.1 ≡ v x + q.1)
    → (xs : List A) (p q : F × ℕ) → FoldsTo {P = F × ℕ} R p xs q → p.1 ≡ sum (map v xs) + q.1
went R v step [] p q c = omega (arith, ap (λ (w : _). w.1) c)
went R v step (x ∷ xs) p q c = omega (arith, step p c.0 x c.1, went R v step xs c.0 q c.2, sum_cons (v x) (map v xs))

fits : (room left : ℕ) (counts : List ℕ) → room ≡ sum counts + left → Some left ≡ rest_of room counts
fits room left counts e = grind (arith, nat_tests)

over : (room : ℕ) (counts : List ℕ) → room < sum counts → None ≡ rest_of room counts
over room counts h = grind (arith, nat_tests)

module _ {S A : Type 0} {steps : S → Option A → S → Type 0} {v : A → ℕ} {s : S} {all : List ℕ} (e : YieldsList steps v s all) (xs : List A) (t u : S) (y : Yields steps s xs t) (room left : ℕ) (so_far : room ≡ sum (map v xs) + left) where
  ends : (o : Option A) (r : Option ℕ) (P : A → Type 0) → steps t o u → MatchOption o (r ≡ Some left) P → ((x : A) → P x → (left < v x) × (r ≡ None)) → r ≡ rest_of room all
  ends None r P p m k = m ∙ fits room left all (rw (YieldsList-end e xs t y None u refl p).0 at so_far)
  ends (Some x) r P p m k =
      let here = YieldsList-turn e xs t y (Some x) u x refl p in
      let most : sum (take (length xs) all) + get_or all (length xs) 0 ≤ sum all = place_most all (length xs) in
      (k x m).1 ∙ over room all (omega (arith, (k x m).0, get_or_default_zero, ap sum (YieldsList-so_far e xs t y)))

pub returns : goal.returns
returns c =
    let r = c.try_fold.ensures.ran in
    ends (YieldsList-from_slice c.args.counts c.iter.ensures.rest) r.0 _ _ r.4.1 c.args.room r.3
    (went _ (λ y. y.now) (λ p q x t. grind (arith, nat_tests)) r.0 _ _ r.5) r.1 _ _ r.4.2 r.6 (λ x t. (grind (arith, nat_tests), t.5))
