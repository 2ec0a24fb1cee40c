use Rattle.std.proofs.Common.{List, arith, ap, length, refl, subst}
use Rattle.shb_witness.proofs.Words.{EndsBefore, Event}
use Rattle.shb_witness.proofs.CutLemmas.{made_printed, threads_of}
use Rattle.shb_witness.proofs.Printed.{race_ends}
use Rattle.shb_witness.proofs.schedules.schedule_runs.Goals as goal

pub cuts_of-requires-clause-first : goal.cuts_of-requires-clause-first
cuts_of-requires-clause-first g c = (race_ends _ _ _ c.requires.race).0

pub cuts_of-requires-clause-second : goal.cuts_of-requires-clause-second
cuts_of-requires-clause-second g c = (race_ends _ _ _ c.requires.race).1

pub end_of-end-requires-clause-few : goal.end_of-end-requires-clause-few
end_of-end-requires-clause-few g c = omega (arith, c.in_ok-found.ensures.few, ap length c.as_slice-cuts.ensures.value)

pub end_of-end-requires-clause-threads : goal.end_of-end-requires-clause-threads
end_of-end-requires-clause-threads g c = threads_of c.args.ordered.now.disciplined.now.events.now c.args.threads.now c.args.ordered.now.disciplined.now.sizes c.args.pair.first c.args.pair.second c.in_ok-found.found.items c.as_slice-cuts.result.now c.requires.of_trace c.args.ordered.now.disciplined.now.within c.in_ok-found.ensures.cuts c.as_slice-cuts.ensures.value

pub front_of-requires-clause-few : goal.front_of-requires-clause-few
front_of-requires-clause-few g c = omega (arith, c.in_ok-found.ensures.few, ap length c.as_slice-cuts.ensures.value)

pub front_of-requires-clause-threads : goal.front_of-requires-clause-threads
front_of-requires-clause-threads g c = threads_of c.args.ordered.now.disciplined.now.events.now c.args.threads.now c.args.ordered.now.disciplined.now.sizes c.args.pair.first c.args.pair.second c.in_ok-found.found.items c.as_slice-cuts.result.now c.requires.of_trace c.args.ordered.now.disciplined.now.within c.in_ok-found.ensures.cuts c.as_slice-cuts.ensures.value

pub passed-requires-clause-threads : goal.passed-requires-clause-threads
passed-requires-clause-threads g c = threads_of c.args.ordered.now.disciplined.now.events.now c.args.ordered.now.disciplined.now.events.now c.args.ordered.now.disciplined.now.sizes c.args.pair.first c.args.pair.second c.in_ok-found.found.items c.as_slice-cuts.result.now refl c.args.ordered.now.disciplined.now.within c.in_ok-found.ensures.cuts c.as_slice-cuts.ensures.value

pub passed-requires-clause-above : goal.passed-requires-clause-above
passed-requires-clause-above g c = subst (λ (trace : List Event). EndsBefore trace c.end_of-end.result c.as_slice-cuts.result.now) c.requires.of_trace c.end_of-end.ensures.above

pub returns-then-is_dense : goal.returns-then-is_dense
returns-then-is_dense g c = made_printed c.args.ordered.now.disciplined.now.events.now _ c.args.ordered.now.disciplined.now.sizes c.args.pair.first c.args.pair.second c.in_ok-found.found.items c.as_slice-cuts.result.now c.passed.result refl c.args.ordered.now.disciplined.now.within c.in_ok-found.ensures.cuts c.as_slice-cuts.ensures.value c.passed.ensures

pub gathered-requires-clause-few : goal.gathered-requires-clause-few
gathered-requires-clause-few g c = omega (arith, c.in_ok-found.ensures.few, ap length c.as_slice-cuts.ensures.value)

pub gathered-requires-clause-threads : goal.gathered-requires-clause-threads
gathered-requires-clause-threads g c = threads_of c.args.ordered.now.disciplined.now.events.now c.args.threads.now c.args.ordered.now.disciplined.now.sizes c.args.pair.first c.args.pair.second c.in_ok-found.found.items c.as_slice-cuts.result.now c.requires.of_trace c.args.ordered.now.disciplined.now.within c.in_ok-found.ensures.cuts c.as_slice-cuts.ensures.value

pub returns : goal.returns
returns g c = made_printed c.args.ordered.now.disciplined.now.events.now c.args.threads.now c.args.ordered.now.disciplined.now.sizes c.args.pair.first c.args.pair.second c.in_ok-found.found.items c.as_slice-cuts.result.now c.gathered.result c.requires.of_trace c.args.ordered.now.disciplined.now.within c.in_ok-found.ensures.cuts c.as_slice-cuts.ensures.value c.gathered.ensures
