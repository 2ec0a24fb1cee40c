-- The first bad line of a place is the one that was not read.
use Rattle.std.proofs.Common.{refl, [], ◌∷◌}
use Rattle.shb_reading.proofs.Words.{And, At, Named, PlaceForm}
use Rattle.shb_reading.proofs.Passing.{bad_at, passes_by}
use Rattle.shb_reading.proofs.entries.read_place.Goals as goal

pub returns-in_default-clause-bad : goal.returns-in_default-clause-bad
returns-in_default-clause-bad c = λ forms. bad_at (PlaceForm c.args.number) _ _ _ _ c.in_default.ensures.0 c.in_default.ensures.1

pub returns-in_default-read_named-clause-bad : goal.returns-in_default-read_named-clause-bad
returns-in_default-read_named-clause-bad c = λ forms.
    passes_by (PlaceForm c.args.number) [] (Named At ∷ (Named And ∷ forms)) _ _ _ _ c.in-Some.ensures.0 (_, c.in-Some.ensures.1, refl, refl) _
    (bad_at (Named At) (Named And ∷ forms) _ _ _ c.in_default-read_named.ensures.0 (c.in_default-read_named.ensures.1 At refl refl))

pub returns-in_default-read_named-2-clause-bad : goal.returns-in_default-read_named-2-clause-bad
returns-in_default-read_named-2-clause-bad c = λ forms.
    passes_by (PlaceForm c.args.number) [] (Named At ∷ (Named And ∷ forms)) _ _ _ _ c.in-Some.ensures.0 (_, c.in-Some.ensures.1, refl, refl) _
    (passes_by (Named At) [] (Named And ∷ forms) _ _ _ _ c.in-Some-read_named.ensures.0 (_, c.in-Some-read_named.ensures.1, refl, refl) _
    (bad_at (Named And) forms _ _ _ c.in_default-read_named-2.ensures.0 (c.in_default-read_named-2.ensures.1 And refl refl)))

pub returns-clause-passes : goal.returns-clause-passes
returns-clause-passes c = λ forms n b.
    passes_by (PlaceForm c.args.number) [] (Named At ∷ (Named And ∷ forms)) _ _ _ _ c.in-Some.ensures.0 (_, c.in-Some.ensures.1, refl, refl) _
    (passes_by (Named At) [] (Named And ∷ forms) _ _ _ _ c.in-Some-read_named.ensures.0 (_, c.in-Some-read_named.ensures.1, refl, refl) _
    (passes_by (Named And) [] forms _ _ _ _ c.in-Some-read_named-2.ensures.0 (_, c.in-Some-read_named-2.ensures.1, refl, refl) n b))
