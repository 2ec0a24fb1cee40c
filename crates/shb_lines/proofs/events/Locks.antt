-- In a disciplined trace no set of threads has released a lock more often than acquired it.
use Rattle.std.proofs.Common.{◌≡◌, ℕ, zero, suc, ◌+◌, ◌<◌, ◌≤◌, ◌⊎◌, inl, inr, Bool, true, false, List, Some, length, take, refl, arith, subst, sym, add-one}
use Rattle.std.specs.Prelude.{slice_get, cond, not, ◌&&◌, ◌==◌}
use Rattle.std.proofs.lemmas.Bool.{cases_Bool, eqb-true}
use Rattle.std.proofs.lemmas.Option.{slice_get_cases}
use Rattle.shb_lines.specs.declared.event.Event.{Event}
use Rattle.shb_lines.specs.declared.event.Op.TheVariants.{Release}
use Rattle.shb_lines.specs.events.Discipline.{MayCome, MayDo, only, acquires, releases, is_acquire, is_release, op_is_acquire, op_is_release}
use Rattle.shb_lines.proofs.events.Counts.{count_more_yes, count_more_no, count_mono, count_split, take_more_past}
use Rattle.shb_lines.proofs.events.Events.{is_release_parts}

-- the threads of a set but one
but : (ℕ → Bool) → ℕ → ℕ → Bool
but who t u = who u && not (t == u)

split_test : (x w q : Bool) → (q ≡ true → w ≡ true) → cond (w && x) 1 0 ≡ cond (q && x) 1 0 + cond ((w && not q) && x) 1 0
split_test true true true h = refl
split_test true true false h = refl
split_test true false false h = refl
split_test false true true h = refl
split_test false true false h = refl
split_test false false false h = refl
split_test x false true h = absurd (let f : false ≡ true = h refl in let g : ⊥ = cc in g)

in_set : (who : ℕ → Bool) (t u : ℕ) → who t ≡ true → (t == u) ≡ true → who u ≡ true
in_set who t u h is = subst (λ n. who n ≡ true) (eqb-true t u is) h

releases_split : (who : ℕ → Bool) (t l : ℕ) → who t ≡ true → (past : List Event) → releases who l past ≡ releases (only t) l past + releases (but who t) l past
unfolding is_release but
releases_split who t l h past = count_split (is_release who l) (is_release (only t) l) (is_release (but who t) l) (λ e. split_test (op_is_release l e.op) (who e.thread) (t == e.thread) (in_set who t e.thread h)) past

acquires_split : (who : ℕ → Bool) (t l : ℕ) → who t ≡ true → (past : List Event) → acquires who l past ≡ acquires (only t) l past + acquires (but who t) l past
unfolding is_acquire but
acquires_split who t l h past = count_split (is_acquire who l) (is_acquire (only t) l) (is_acquire (but who t) l) (λ e. split_test (op_is_acquire l e.op) (who e.thread) (t == e.thread) (in_set who t e.thread h)) past

release_allowed : (past : List Event) (e : Event) (l : ℕ) → MayCome past e → e.op ≡ Release l → releases (only e.thread) l past < acquires (only e.thread) l past
release_allowed past e l h is = subst (MayDo past e.thread) is h.may_do

-- the first n events are disciplined
abbrev pub DisciplinedBelow : List Event → ℕ → Type 0
DisciplinedBelow trace n = (k : ℕ) (e : Event) → k < n → slice_get trace k ≡ Some e → MayCome (take k trace) e

pub releases_le : (trace : List Event) (l n : ℕ) → DisciplinedBelow trace n → (who : ℕ → Bool) → releases who l (take n trace) ≤ acquires who l (take n trace)
releases_le trace l zero disciplined who = omega arith
releases_le trace l (suc n) disciplined who =
    let ih = λ (w : ℕ → Bool). releases_le trace l n (λ k e lt at. disciplined k e (omega arith) at) w in
    elim (slice_get_cases trace n).1 [
      | inl c ↦ rw add-one at (at_event c.0 c.2 ih (cases_Bool (is_release who l c.0)))
      | inr c ↦ rw add-one at (at_end c.0 (ih who))
    ]
  where
    at_end : length trace ≤ n → releases who l (take n trace) ≤ acquires who l (take n trace) → releases who l (take (n + 1) trace) ≤ acquires who l (take (n + 1) trace)
    at_end past ih = subst (λ zs. releases who l zs ≤ acquires who l zs) (sym (take_more_past trace n past)) ih

    at_event : (e : Event) → slice_get trace n ≡ Some e → ((w : ℕ → Bool) → releases w l (take n trace) ≤ acquires w l (take n trace)) → (is_release who l e ≡ true) ⊎ (is_release who l e ≡ false) → releases who l (take (n + 1) trace) ≤ acquires who l (take (n + 1) trace)
    at_event e at ih (inr fails) =
        let same = count_more_no (is_release who l) trace n e at fails in
        let more = count_mono (is_acquire who l) trace n (n + 1) (omega arith) in
        let prior = ih who in
        omega (arith, same, more, prior)
    at_event e at ih (inl passes) =
        let parts = is_release_parts who l e passes in
        let one = count_more_yes (is_release who l) trace n e at passes in
        let more = count_mono (is_acquire who l) trace n (n + 1) (omega arith) in
        let held = release_allowed (take n trace) e l (disciplined n e (omega arith) at) parts.1 in
        let others = ih (but who e.thread) in
        let split_r = releases_split who e.thread l parts.0 (take n trace) in
        let split_a = acquires_split who e.thread l parts.0 (take n trace) in
        omega (arith, one, more, held, others, split_r, split_a)
