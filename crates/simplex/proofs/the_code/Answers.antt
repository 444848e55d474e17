-- `simplex::the_code` meets its contract: the laws of the code.
use mathlib.Core.Path.{refl}
use borrow.Author.Tests.{le-leb, leb-true}
use lib.Dec.{leb}
use Rattle.std.proofs.lemmas.Bool.{and_parts}
use Rattle.bits.proofs.Marks.{ones_are}
use Rattle.simplex.specs.Shape.{banks_of}
use Rattle.simplex.proofs.Banks as banks
use Rattle.simplex.proofs.Setting.{each_set}
use Rattle.simplex.proofs.Filling.{copies, steps, sources, filled_holds, filling_holds}
use Rattle.simplex.proofs.Running.{highest_held, rest_held, lower, kinds}
use Rattle.simplex.proofs.Updating.{holders, updated, fresh}
use Rattle.simplex.proofs.Limit.{fails_yields}
use Rattle.simplex.proofs.Parity.{odd_banks_lem}
use Rattle.simplex.proofs.the_code.Goals as goal

pub returns-clause-table : goal.returns-clause-table
returns-clause-table c = record { two = (refl, refl); three = (refl, refl); four = (refl, refl); five = (refl, refl); pairs = (refl, refl) }

pub returns-clause-code : goal.returns-clause-code
returns-clause-code c = record {
  linear = λ P packets h a b. banks.linear P packets a b h;
  two = banks.two;
  alone = banks.alone;
  yields = banks.yields;
  fails = fails_yields;
}

pub returns-clause-symbols : goal.returns-clause-symbols
returns-clause-symbols c = record {
  numbers = λ K b. (
    λ e. let t = and_parts (leb 1 b) (leb b (banks_of K)) e in (leb-true 1 b t.0, leb-true b (banks_of K) t.1),
    λ w. rw (le-leb 1 b w.0, le-leb b (banks_of K) w.1),
  );
  degree = λ K b. ones_are b K;
  holders = holders;
  odd = odd_banks_lem;
  highest = highest_held;
  rest = rest_held;
  lower = lower;
  kinds = kinds;
}

pub returns-clause-banks : goal.returns-clause-banks
returns-clause-banks c = record {
  each = λ P test what place n store whole room. each_set test what place P n store whole room;
  copies = λ K P packets i place store. copies K P packets place store i;
  steps = λ K P packets b place store. steps K P packets place store b;
  sources = λ K P packets i r place store. sources K P packets place store i r;
  holds = λ P packets place n store sized. filled_holds P packets place sized n store;
  filling = filling_holds;
  updated = updated;
  fresh = fresh;
}
