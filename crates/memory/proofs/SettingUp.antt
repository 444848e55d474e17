-- What a set-up gives, and what refuses it.
use Rattle.std.proofs.Common.{◌≡◌, refl, ap, not}
use Rattle.std.specs.Prelude.{Err}
use Rattle.refusals.specs.declared.Refusal.{Refusal}
use Rattle.refusals.specs.Verdict.{Verdict, Accepted, verdict_of, answer_by, if_refused}
use Rattle.layout.specs.declared.Shape.{Shape}
use Rattle.layout.specs.Shape.{shape_refusal, InRange}
use Rattle.layout.proofs.Ranges.{words_range, wrong_shape}
use Rattle.layout.proofs.FullRows.{empty_all}
use Rattle.memory.specs.State.{empty, zero_state}
use Rattle.memory.specs.Operations.{ready, set_up_of}
use Rattle.memory.specs.Laws.{Zeros, FreshMemory, SetUpLaws}

fresh : (shape : Shape) → InRange shape → FreshMemory shape (set_up_of shape)
fresh shape w = rw (words_range shape w) (record { of_shape = refl; empty = λ row. ap not (empty_all row); answer = refl })

told : (shape : Shape) (v : Verdict) → verdict_of (answer_by (ready shape) v) ≡ v
told shape Accepted = refl
told shape (Err r) = refl

zeros_by : (shape : Shape) (v : Verdict) (refusal : Refusal) → answer_by (ready shape) v ≡ Err refusal → Zeros (if_refused zero_state (empty shape) v)
zeros_by shape Accepted refusal e = cc
zeros_by shape (Err r) refusal e = record { shape = (refl, refl, refl, refl); rows = λ row. empty_all row }

pub set_up_laws : SetUpLaws
set_up_laws = record { fresh = fresh; refused = λ shape. rw (told shape (shape_refusal shape)) (wrong_shape shape); zeros = λ shape. zeros_by shape (shape_refusal shape) }
