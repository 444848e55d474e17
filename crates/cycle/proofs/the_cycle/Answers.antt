-- `cycle::the_cycle` carries the laws of what a cycle puts out.
use mathlib.Core.Path.{ap}
use Rattle.plan.specs.Planned.{plan_of}
use Rattle.reads.specs.Reads.{reads_in}
use Rattle.reads.proofs.Accepted.{accepts}
use Rattle.cycle.proofs.Slots.{slot_within, slots_apart, slot_first, slot_next}
use Rattle.cycle.proofs.Lines.{line_is, audited_is, packet_is}
use Rattle.cycle.proofs.the_cycle.Goals as goal

pub returns : goal.returns
returns c = record {
  own = λ K reads others group other e. ap (plan_of K) e;
  within = slot_within;
  apart = slots_apart;
  first = slot_first;
  next = λ reads m n h l. slot_next reads n l m h;
  audited = audited_is;
  lines = line_is;
  packets = λ shape full store list out schedule range size e.
      let a = (accepts shape full list _ _ e).1 in packet_is shape range store (reads_in list) size a.named a.few out a.out_size;
}
