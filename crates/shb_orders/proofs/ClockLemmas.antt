-- The clock before an event, one thread more.
use Rattle.shb_orders.proofs.Words.{AreEach, Event, IsBelowPredCount, IsClockBefore, IsWithin, Sizes, cases_lt, common_steps, get_or-append, get_or_default, get_or_past, get_or_push, length_push, thread_within}
use Rattle.std.proofs.Common.{◌≡◌, ℕ, ◌+◌, ◌<◌, ◌≤◌, inl, inr, List, [], ◌∷◌, ◌++◌, length, get_or, ap, arith, subst, sym, refl, ◌∙◌}

-- the entries of the first threads
pub record HasEntries (trace : List Event) (e threads : ℕ) (clock : List ℕ) : Type 0 where
  pub as_many : length clock ≡ threads
  pub each : (t : ℕ) → t < threads → IsBelowPredCount trace t e (get_or clock t 0)

pub entries_more : (trace : List Event) (e threads count : ℕ) (clock : List ℕ) → IsBelowPredCount trace threads e count → HasEntries trace e threads clock → HasEntries trace e (threads + 1) (clock ++ count ∷ [])
entries_more trace e threads count clock new old = grind (arith, common_steps, length_push, cases_lt, get_or-append, get_or_push)

pub clock_whole : (trace : List Event) (sizes : Sizes) (e threads : ℕ) (clock : List ℕ) → IsWithin trace sizes → sizes.threads ≤ threads → HasEntries trace e threads clock → IsClockBefore trace e clock
clock_whole trace sizes e threads clock within all has t = elim (cases_lt t threads) [
  | inl lt ↦ has.each t lt
  | inr le ↦ subst (IsBelowPredCount trace t e) (sym (get_or_past clock t 0 (let many = has.as_many in omega (arith, many, le)))) (record {
    members = [];
    rising = λ k lt. absurd (omega arith);
    all = λ k. ((λ c. absurd (let lt = c.1 in omega arith)), (λ h. absurd (let low = thread_within trace sizes k t within h.0 in omega (arith, low, all, le))));
    number = refl;
  })
]

-- the order's answer, from its clocks
pub clock_answer : (trace seen : List Event) (clocks : List (List ℕ)) (item clock : List ℕ) (e t n : ℕ) → trace ≡ seen → AreEach (IsClockBefore trace) (length trace) clocks → e < length seen → item ≡ get_or clocks e item → clock ≡ item → n ≡ get_or clock t 0 → IsBelowPredCount seen t e n
clock_answer trace seen clocks item clock e t n same has lt is shown entry =
    let within : e < length trace = (let size = ap length same in omega (arith, size, lt)) in
    let there : get_or clocks e [] ≡ clock = get_or_default clocks e [] item (let many = has.as_many in omega (arith, many, within)) ∙ sym is ∙ sym shown in
    subst (λ (tr : List Event). IsBelowPredCount tr t e n) same (subst (IsBelowPredCount trace t e) (ap (λ (xs : List ℕ). get_or xs t 0) there ∙ sym entry) (has.each e within t))
