use Rattle.std.proofs.Common.{refl}
use Rattle.layout.proofs.Ranges.{range_words, words_range, wrong_shape}
use Rattle.layout.proofs.Places.{places, inside, apart}
use Rattle.layout.proofs.FullRows.{none_full, full_none, empty_all, none_counted, filled, emptied, cleared, one_filled, one_emptied}
use Rattle.layout.proofs.the_layout.Goals as goal

pub returns-clause-layout : goal.returns-clause-layout
returns-clause-layout c = record {
  ranges = λ sh. (range_words sh, words_range sh);
  refused = wrong_shape;
  places = places;
  inside = inside;
  apart = apart;
  names = λ row group symbol. refl;
}

pub returns-clause-occupancy : goal.returns-clause-occupancy
returns-clause-occupancy c = record {
  none = λ rows g. (none_full rows g, full_none rows g);
  empty = empty_all;
  filled = λ rows row none there. filled rows none row there;
  emptied = λ rows row none there. emptied rows none row there;
  cleared = λ rows set none. cleared rows none set;
  counted_none = none_counted;
  one_more = λ rows row g none fits. one_filled rows none g fits row;
  one_less = λ rows row g none fits. one_emptied rows none g fits row;
}
