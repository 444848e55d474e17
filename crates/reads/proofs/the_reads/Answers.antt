use Rattle.std.proofs.Common.{ℕ, ◌≡◌, Bool, [], arith}
use native.Mathlib.Nat.{zero-mul}
use borrow.Author.Tests.{le-leb}
use Rattle.refusals.specs.Verdict.{Accepted}
use Rattle.refusals.proofs.Verdicts.{accepted_all}
use Rattle.simplex.specs.Shape.{limit_of}
use Rattle.layout.specs.declared.Shape.{Shape}
use Rattle.reads.specs.Refusals.{group_refusal, list_refusal}
use Rattle.reads.proofs.Counting.{reads_many}
use Rattle.reads.proofs.Once.{at_most_once, none_twice}
use Rattle.reads.proofs.Wrong.{wrong_packet, wrong_list}
use Rattle.reads.proofs.Accepted.{list_right, right_list}
use Rattle.reads.proofs.Cutting.{many, cut_read}
use Rattle.reads.proofs.the_reads.Goals as goal

empty : (shape : Shape) (full : ℕ → Bool) → list_refusal shape full [] 0 0 ≡ Accepted
unfolding list_refusal
empty shape full = rw (accepted_all (group_refusal shape []) shape.m (λ group l. rw (le-leb 0 (limit_of shape.k) (omega arith))), zero-mul shape.p)

pub returns : goal.returns
returns c = record {
  counted = reads_many;
  collisions = λ reads group small. (at_most_once reads group, none_twice reads group small);
  empty = empty;
  packet = wrong_packet;
  list = wrong_list;
  accepted = λ shape full list out schedule. (list_right shape full list out schedule, right_list shape full list out schedule);
  many = many;
  cut = cut_read;
}
