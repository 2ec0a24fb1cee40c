-- The first bad line of a block is the one that was not read.
use Rattle.std.proofs.Common.{◌≡◌, ◌+◌, ◌-◌, ◌≤◌, arith, length, refl, [], ◌∷◌}
use Rattle.shb_reading.proofs.Words.{First, Named, Race, Schedule, Second}
use Rattle.shb_reading.proofs.EntryLemmas.{block_grows, block_read}
use Rattle.shb_reading.proofs.Passing.{bad_at, passes_by}
use Rattle.shb_reading.proofs.entries.read_block.Goals as goal

pub returns-in_default-clause-bad : goal.returns-in_default-clause-bad
returns-in_default-clause-bad g c = λ forms. bad_at (Race c.args.number) _ _ _ _ c.in_default.ensures.0 c.in_default.ensures.1

pub returns-in_default-read_named-clause-bad : goal.returns-in_default-read_named-clause-bad
returns-in_default-read_named-clause-bad g c = λ forms.
    let race = c.in-Some.ensures in
    passes_by (Race c.args.number) [] (Named First ∷ (Named Second ∷ (Schedule ∷ forms))) _ _ _ _ race.0 (_, _, race.1, race.2, refl, refl) _
    (bad_at (Named First) (Named Second ∷ (Schedule ∷ forms)) _ _ _ c.in_default-read_named.ensures.0 (c.in_default-read_named.ensures.1 First refl refl))

pub returns-in_default-read_named-2-clause-bad : goal.returns-in_default-read_named-2-clause-bad
returns-in_default-read_named-2-clause-bad g c = λ forms.
    let race = c.in-Some.ensures in
    passes_by (Race c.args.number) [] (Named First ∷ (Named Second ∷ (Schedule ∷ forms))) _ _ _ _ race.0 (_, _, race.1, race.2, refl, refl) _
    (passes_by (Named First) [] (Named Second ∷ (Schedule ∷ forms)) _ _ _ _ c.in-Some-read_named.ensures.0 (_, c.in-Some-read_named.ensures.1, refl, refl) _
    (bad_at (Named Second) (Schedule ∷ forms) _ _ _ c.in_default-read_named-2.ensures.0 (c.in_default-read_named-2.ensures.1 Second refl refl)))

pub returns-then-not-branch-clause-bad : goal.returns-then-not-branch-clause-bad
returns-then-not-branch-clause-bad g c = λ forms.
    let race = c.in-Some.ensures in
    let schedule = rw c.if-not-branch.true at c.in_ok-read_schedule.ensures in
    passes_by (Race c.args.number) [] (Named First ∷ (Named Second ∷ (Schedule ∷ forms))) _ _ _ _ race.0 (_, _, race.1, race.2, refl, refl) _
    (passes_by (Named First) [] (Named Second ∷ (Schedule ∷ forms)) _ _ _ _ c.in-Some-read_named.ensures.0 (_, c.in-Some-read_named.ensures.1, refl, refl) _
    (passes_by (Named Second) [] (Schedule ∷ forms) _ _ _ _ c.in-Some-read_named-2.ensures.0 (_, c.in-Some-read_named-2.ensures.1, refl, refl) _
    (bad_at Schedule forms _ _ _ schedule.0 schedule.1)))

pub returns-clause-passes : goal.returns-clause-passes
returns-clause-passes g c = λ forms n b.
    let race = c.in-Some.ensures in
    let schedule = rw c.if-not-branch.false at c.in_ok-read_schedule.ensures in
    passes_by (Race c.args.number) [] (Named First ∷ (Named Second ∷ (Schedule ∷ forms))) _ _ _ _ race.0 (_, _, race.1, race.2, refl, refl) _
    (passes_by (Named First) [] (Named Second ∷ (Schedule ∷ forms)) _ _ _ _ c.in-Some-read_named.ensures.0 (_, c.in-Some-read_named.ensures.1, refl, refl) _
    (passes_by (Named Second) [] (Schedule ∷ forms) _ _ _ _ c.in-Some-read_named-2.ensures.0 (_, c.in-Some-read_named-2.ensures.1, refl, refl) _
    (passes_by Schedule [] forms _ _ _ _ schedule.3 (schedule.0, schedule.1.shown, schedule.2, refl, refl) n b)))

pub returns-clause-read : goal.returns-clause-read
returns-clause-read g c =
    let race = c.in-Some.ensures in
    let first = c.in-Some-read_named.ensures in
    let second = c.in-Some-read_named-2.ensures in
    let schedule = rw c.if-not-branch.false at c.in_ok-read_schedule.ensures in
    let old = c.args.numbers.now in
    let new = c.read_schedule.new.numbers in
    let start : c.len-schedule_start.result ≡ length old.items = omega (arith, c.len-schedule_start.ensures, old.ok.0) in
    let grown : length old.items ≤ length new.items = block_grows _ _ _ _ _ schedule.1 in
    let whole : c.len-schedule_start.result + (c.len.result - c.len-schedule_start.result) ≡ length new.items = omega (arith, start, grown, c.len.ensures, new.ok.0) in
    block_read (g.K.Keeping.kept c.args.keeping.now) (g.K.Keeping.most_kept c.args.keeping.now) c.args.text.now _ _ _ _ _ c.args.number c.in-Some.first c.in-Some.second c.in-Some-read_named.first_line c.in-Some-read_named-2.second_line old.items new.items schedule.0 _ _
    race.0 race.1 race.2 first.0 first.1 first.2 second.0 second.1 second.2 schedule.1 schedule.2 schedule.3 start whole
