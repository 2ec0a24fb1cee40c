-- One race more.
use Rattle.std.proofs.Common.{◌≡◌, ◌+◌, ◌++◌, ◌<◌, ◌≤◌, ◌∙◌, List, [], ◌∷◌, ap, append-nil, arith, get_or, length, map, subst, sym}
use Rattle.std.specs.Prelude.{slice_range}
use Rattle.shb_lines.specs.declared.event.Pair.{Pair}
use Rattle.shb_counts.specs.Runs.{race_of}
use Rattle.shb_counts.specs.Sums.{AreSumsOf}
use Rattle.shb_counts.specs.declared.accesses.Entry.{Entry}
use Rattle.shb_counts.proofs.RunLemmas.{pairs_pushed, slice_pushed}
use Rattle.shb_counts.proofs.SliceLemmas.{slice_none}
use Rattle.shb_counts.proofs.TableLemmas.{one_pair}
use Rattle.shb_counts.proofs.runs.add_window.Goals as goal

pub loop-j-init : goal.loop-j-init
loop-j-init c trace numbers pairs before each at =
    let g = race_of c.args.access.event in
    subst (λ (l : List Pair). AreSumsOf trace numbers l c.args.table.now.sums.items) (sym (ap (λ (l : List Entry). pairs ++ map g l) (slice_none c.args.entries.now c.args.window.start) ∙ append-nil pairs)) before

pub loop-j-preserved : goal.loop-j-preserved
loop-j-preserved c trace numbers pairs before each at =
    let j = c.loop-j.j in
    let entries = c.args.entries.now in
    let start = c.args.window.start in
    let within = c.requires.within in
    let lt : j < length entries = omega (arith, c.loop-j-test.true, c.loop-j.auto.j-end, within) in
    let le : start ≤ j = c.loop-j.auto.j in
    let d : Entry = record { thread = 0; event = 0; time = 0; location = 0; end = 0; least = 0 } in
    let g = race_of c.args.access.event in
    let own = each j d lt in
    subst (λ (l : List Pair). AreSumsOf trace numbers l c.add.new.self.sums.items) (pairs_pushed g pairs (slice_range entries start j) (slice_range entries start (j + 1)) (get_or entries j d) (slice_pushed entries start j d le lt))
    (c.in_ok-add.ensures trace numbers (pairs ++ map g (slice_range entries start j)) (g (get_or entries j d) ∷ []) (c.loop-j.invariant trace numbers pairs before each at)
    (record { first = own.location; second = at.location; variable = at.variable }) (one_pair trace numbers (g (get_or entries j d))))

pub returns : goal.returns
returns c trace numbers pairs before each at =
    let forward = c.requires.forward in
    let bound = c.loop-j.auto.j-end forward in
    let end : c.loop-j.j ≡ c.args.window.end = omega (arith, c.loop-j-test.false, bound) in
    let g = race_of c.args.access.event in
    subst (λ (l : List Entry). AreSumsOf trace numbers (pairs ++ map g l) c.loop-j.table.sums.items) (ap (slice_range c.args.entries.now c.args.window.start) end) (c.loop-j.invariant trace numbers pairs before each at)
