-- The first bad line of the head is the one that was not read.
use Rattle.std.proofs.Common.{refl, [], ◌∷◌}
use Rattle.shb_reading.proofs.Words.{CountsForm, Races, Version}
use Rattle.shb_reading.proofs.Passing.{bad_at, passes_by}
use Rattle.shb_reading.proofs.ScanLemmas.{passes_race_count, passes_version}
use Rattle.shb_reading.proofs.entries.read_head.Goals as goal

pub returns-in_default-clause-bad : goal.returns-in_default-clause-bad
returns-in_default-clause-bad c = λ forms. bad_at Version forms _ _ _ c.in_default.ensures.0 c.in_default.ensures.1

pub returns-in_default-read_counts-clause-bad : goal.returns-in_default-read_counts-clause-bad
returns-in_default-read_counts-clause-bad c = λ forms.
    passes_version forms _ _ _ c.in-Some.with_places c.in-Some.ensures _
    (bad_at CountsForm (Races c.in-Some.with_places ∷ forms) _ _ _ c.in_default-read_counts.ensures.0 c.in_default-read_counts.ensures.1)

pub returns-in_default-read_race_count-clause-bad : goal.returns-in_default-read_race_count-clause-bad
returns-in_default-read_race_count-clause-bad c = λ forms.
    let count = c.in_default-read_race_count.ensures in
    passes_version forms _ _ _ c.in-Some.with_places c.in-Some.ensures _
    (passes_by CountsForm [] (Races c.in-Some.with_places ∷ forms) _ _ _ _ c.in-Some-read_counts.ensures.0 (_, c.in-Some-read_counts.ensures.1, refl, refl) _
    (bad_at (Races c.in-Some.with_places) forms _ _ _ count.0 (count.1 c.in-Some.with_places)))

pub returns-clause-passes : goal.returns-clause-passes
returns-clause-passes c = λ forms n b.
    let count = c.in-Some-read_race_count.ensures in
    passes_version forms _ _ _ c.in-Some.with_places c.in-Some.ensures _
    (passes_by CountsForm [] (Races c.in-Some.with_places ∷ forms) _ _ _ _ c.in-Some-read_counts.ensures.0 (_, c.in-Some-read_counts.ensures.1, refl, refl) _
    (passes_race_count forms _ _ _ c.in-Some.with_places _ count.0 count.1 n b))
