-- What serving needs: every read is there, and no group has too many.
use Rattle.std.proofs.Common.{sym}
use Rattle.layout.specs.Occupancy.{is_full}
use Rattle.reads.specs.Reads.{names_of}
use Rattle.reads.proofs.Accepted.{accepted_named, accepted_few}
use Rattle.cycle.proofs.run_reads.Goals as goal

pub begin_groups-requires : goal.begin_groups-requires
begin_groups-requires c = accepted_named c.args.store.geometry.shape (is_full c.args.rows) (names_of c.args.reads.now) (sym (c.in_ok-judge_reads.ensures {u = tt}))

pub serve-requires-clause-named : goal.serve-requires-clause-named
serve-requires-clause-named c = accepted_named c.args.store.geometry.shape (is_full c.args.rows) (names_of c.args.reads.now) (sym (c.in_ok-judge_reads.ensures {u = tt}))

pub serve-requires-clause-few : goal.serve-requires-clause-few
serve-requires-clause-few c = accepted_few c.args.store.geometry.shape (names_of c.args.reads.now) (sym c.in_ok-groups.ensures.verdict)
