-- `memory::the_memory` carries the laws of the memory.
use Rattle.std.proofs.Common.{refl}
use Rattle.std.proofs.lemmas.Bool.{false_from_ne_true}
use Rattle.layout.proofs.FullRows.{all_counted}
use Rattle.memory.proofs.States.{sound_words, words_sound, one_more, one_fewer}
use Rattle.memory.proofs.Lawful.Write.{write_facts, facts_write, wrong_write}
use Rattle.memory.proofs.Lawful.Update.{update_facts, facts_update, wrong_update}
use Rattle.memory.proofs.Lawful.Release.{release_facts, facts_release, wrong_release}
use Rattle.memory.proofs.SettingUp.{set_up_laws}
use Rattle.memory.proofs.Cycles.{cycle_facts, facts_cycle, form_words, words_form, wrong_cycle}
use Rattle.memory.proofs.Emptying.{set_facts, facts_set, seven, nine}
use Rattle.memory.proofs.Singly.{set_released_lem, empty_set_lem, singly, some_list}
use Rattle.rows.proofs.Writing.{row_written_lem}
use Rattle.rows.proofs.Updating.{store_updated}
use Rattle.memory.proofs.Recall.{lawful, recall_law}
use Rattle.memory.proofs.the_memory.Goals as goal

pub returns-clause-states : goal.returns-clause-states
returns-clause-states c = record {
  states = λ state. (sound_words state, words_sound state);
  broken = λ memory h operation. (lawful operation).broken memory (false_from_ne_true _ (λ e. h (sound_words memory.state e)));
  counted = λ state s. all_counted state.rows state.shape.g s.ranges.rows.1 s.rows;
}

pub returns-clause-set_ups : goal.returns-clause-set_ups
returns-clause-set_ups c = set_up_laws

pub returns-clause-writes : goal.returns-clause-writes
returns-clause-writes c = record {
  accepted = λ state size row len. (write_facts state size row len, facts_write state size row len);
  refused = wrong_write;
  written = λ state store row generation e. let w = write_facts _ _ _ _ e in
      rw e (row_written_lem state.shape row generation store w.below w.store w.whole, one_more state w.sound row w.below w.empty, refl);
  kept = λ state store row generation r e. rw e (refl, refl);
}

pub returns-clause-updates : goal.returns-clause-updates
returns-clause-updates c = record {
  accepted = λ state size name len. (update_facts state size name len, facts_update state size name len);
  refused = wrong_update;
  updated = λ state store name packet e. let w = update_facts _ _ _ _ e in
      rw e (store_updated state.shape name.row name.group name.symbol packet store w.packet w.store w.bytes, refl);
  kept = λ state store name packet r e. rw e (refl, refl);
}

pub returns-clause-releases : goal.returns-clause-releases
returns-clause-releases c = record {
  accepted = λ state row. (release_facts state row, facts_release state row);
  refused = wrong_release;
  released = λ state row e. let w = release_facts state row e in rw e (one_fewer state w.sound row w.below w.full, refl);
  kept = λ state row r e. rw e refl;
}

pub returns-clause-cycles : goal.returns-clause-cycles
returns-clause-cycles c = record {
  accepted = λ state size list out schedule. (cycle_facts state size list out schedule, facts_cycle state size list out schedule);
  form = λ state size list out schedule. (form_words state size list out schedule, words_form state size list out schedule);
  refused = wrong_cycle;
  kept = λ state store list out schedule r e. rw e (refl, refl, refl);
}

pub returns-clause-release_sets : goal.returns-clause-release_sets
returns-clause-release_sets c = record {
  accepted = λ state set. (set_facts state set, facts_set state set);
  emptied = λ state set small e. (set_released_lem state set small e, rw e refl);
  kept = λ state set r e. rw e refl;
  empty = empty_set_lem;
  seven = seven;
  nine = nine;
  singly = singly;
  named = some_list;
}

pub returns-clause-recall : goal.returns-clause-recall
returns-clause-recall c = recall_law
