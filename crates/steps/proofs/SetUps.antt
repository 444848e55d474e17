-- A 01 in words: what it leaves and answers, where it is accepted, and refused.
use mathlib.Core.Path.{◌≡◌, refl}
use mathlib.Core.Bool.{true, false}
use mathlib.Core.List.{List}
use Prim.Native.Nat.{ℕ, ◌-◌, ◌*◌, ◌^◌, ◌≤◌, ◌<◌}
use borrow.Author.Tests.{le-leb, lt-leb}
use lib.Dec.{leb}
use lib.ListN.{length, length-replicate}
use Rattle.std.proofs.lemmas.List.{get_or-replicate}
use Rattle.refusals.specs.Verdict.{refused, check}
use Rattle.layout.specs.declared.Shape.{Shape}
use Rattle.layout.specs.Shape.{shape_refusal, InRange, store_size}
use Rattle.layout.proofs.Ranges.{words_range}
use Rattle.frames.specs.declared.TheConstants.{MOST_STORE}
use Rattle.frames.specs.Frame.{set_up, frame_in}
use Rattle.frames.proofs.Framed.{in_line}
use Rattle.steps.specs.Session.{Session, set_up_refusal, set_up_done, answered, frame_done, line_done}
use Rattle.steps.specs.Laws.{Afresh, unserved}
use Rattle.refusals.proofs.Numbers.{forth}
use native.Mathlib.Omega.{arith}

-- what a 01 does
does : (session : Session) (store line : List ℕ) (shape : Shape) → frame_in line ≡ set_up shape
    → line_done session store line ≡ answered (set_up shape) (set_up_done session store shape)
unfolding line_done frame_done
does session store line shape is = let f = in_line line (set_up shape) is (λ e. cc) in rw (f.0, f.1)

-- in range, its store alone decides
judged : (shape : Shape) → InRange shape → set_up_refusal shape ≡ check 20 0 (leb (store_size shape) MOST_STORE)
unfolding set_up_refusal
judged shape range = rw (words_range shape range)

pub afresh : (session : Session) (store line : List ℕ) (shape : Shape) → frame_in line ≡ set_up shape → InRange shape
    → shape.m * (2 ^ shape.k - 1) * shape.g * shape.p ≤ 16384 → Afresh shape store (line_done session store line)
unfolding store_size
afresh session store line shape is range small =
    let fine : leb (shape.m * (2 ^ shape.k - 1) * shape.g * shape.p) MOST_STORE ≡ true = le-leb _ _ small in
    rw (does session store line shape is, judged shape range, fine)
    (record {
      session = refl;
      size = length-replicate {A = ℕ} (length store) 0;
      zero = λ i l. get_or-replicate (length store) i 0 0 l;
      answer = rw (words_range shape range);
    })

pub twenty : (session : Session) (store line : List ℕ) (shape : Shape) → frame_in line ≡ set_up shape → InRange shape
    → 16384 < shape.m * (2 ^ shape.k - 1) * shape.g * shape.p
    → line_done session store line ≡ unserved session store 0x81 20
unfolding store_size
twenty session store line shape is range large =
    let over : leb (shape.m * (2 ^ shape.k - 1) * shape.g * shape.p) MOST_STORE ≡ false = lt-leb _ _ large in
    rw (does session store line shape is, judged shape range, over)

pub one_to_four : (session : Session) (store line : List ℕ) (shape : Shape) (number : ℕ) → frame_in line ≡ set_up shape
    → 1 ≤ number → number ≤ 4 → shape_refusal shape ≡ refused number 0
    → line_done session store line ≡ unserved session store 0x81 number
unfolding set_up_refusal
one_to_four session store line shape number is least most e =
    rw (does session store line shape is, e, forth number least (omega arith))
