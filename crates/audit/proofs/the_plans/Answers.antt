-- The laws of plans.
use Rattle.audit.proofs.Answer.{yes, otherwise, never, wrong_audit}
use Rattle.audit.proofs.Pairs.{pair_bytes_at}
use Rattle.audit.proofs.Reading.{sound, complete}
use Rattle.audit.proofs.Served.{served_by, past_limit, at_most}
use Rattle.audit.proofs.the_plans.Goals as goal

pub returns : goal.returns
returns c = record {
  words = λ usable counts pairs. (sound usable counts pairs, complete usable counts pairs);
  yes = yes;
  otherwise = otherwise;
  served = λ K P usable counts pairs group. served_by K group P counts pairs;
  limit = λ K usable counts pairs group. past_limit K group counts pairs;
  never = never;
  few = λ K usable counts pairs group. at_most K group counts pairs;
  pair = pair_bytes_at;
  refused = wrong_audit;
}
