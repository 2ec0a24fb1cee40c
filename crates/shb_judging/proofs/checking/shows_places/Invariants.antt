use Rattle.std.proofs.Common.{◌≡◌, take}
use Rattle.shb_judging.proofs.Words.{shown_places}
use Rattle.shb_judging.proofs.checking.shows_places.Given as goal

abbrev pub invariant-loop-q : goal.invariant-loop-q
invariant-loop-q l = take l.q l.section ≡ take l.q (shown_places l.trace l.counts)
