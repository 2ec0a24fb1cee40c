-- The events of a thread that are below a predecessor are a front of that thread, so their number says which they are.
use Rattle.std.proofs.Common.{◌≡◌, ℕ, zero, suc, ◌+◌, ◌<◌, ◌≤◌, ◌⊎◌, inl, inr, Bool, true, List, Some, length, get_or, take, refl, arith, subst, ap, sym, ◌∙◌, add-one}
use Rattle.std.specs.Prelude.{slice_get, Contains, count_by, ◌↔◌, IsTrue}
use Rattle.std.proofs.Math.Dec.{leb}
use Rattle.std.proofs.lemmas.Bool.{cases_order, eqb-true, leb-true, le-leb}
use Rattle.std.proofs.lemmas.Option.{slice_get_within, slice_get-get_or, slice_get_cases}
use Rattle.shb_lines.specs.declared.event.Event.{Event}
use Rattle.shb_lines.specs.events.Events.{thread_at, events_at}
use Rattle.shb_lines.specs.events.Discipline.{is_of, local_time}
use Rattle.shb_lines.specs.events.Order.{same_thread, happens_before, BelowPred, IsBelowPredCount}
use Rattle.shb_lines.proofs.events.Counts.{count_more_yes, count_mono, counts_le, counts_ge}
use Rattle.shb_lines.proofs.events.Events.{thread_is, event_of_thread, is_of_true}
use Rattle.shb_lines.proofs.events.Indices.{index_of, contains_at}
use Rattle.shb_lines.proofs.events.Reordered.{event_at_index, length_events}
use Rattle.shb_lines.proofs.events.Schedulable.{below_pred_in_range, below_pred_closed}

-- where each of the first q passes, their count is q
all_counted : {X : Type 0} (f : X → Bool) (xs : List X) (q : ℕ) → q ≤ length xs → ((k : ℕ) (e : X) → k < q → slice_get xs k ≡ Some e → f e ≡ true) → count_by f (take q xs) ≡ q
all_counted f xs zero le all = refl
all_counted {X} f xs (suc q) le all =
    let ih = all_counted f xs q (omega arith) (λ k e lt at. all k e (omega arith) at) in
    elim (slice_get_cases xs q).1 [
      | inl c ↦ rw add-one at (let one = count_more_yes f xs q c.0 c.2 (all q c.0 (omega arith) c.2) in let r : count_by f (take (q + 1) xs) ≡ q + 1 = omega (arith, one, ih) in r)
      | inr c ↦ (let past = c.0 in absurd (omega arith))
    ]

pub is_of_thread : (t : ℕ) (e : Event) → is_of t e ≡ true → e.thread ≡ t
unfolding is_of
is_of_thread t e h = sym (eqb-true t e.thread h)

module _ (trace : List Event) (t e n : ℕ) (count : IsBelowPredCount trace t e n) where
  in_range : (a : ℕ) → Contains count.members a → a < length trace
  in_range a c = below_pred_in_range trace a e ((count.all a).0 c).1

  of_t : (b : ℕ) (d : Event) → Contains count.members b → slice_get trace b ≡ Some d → is_of t d ≡ true
  of_t b d c at_b =
      let x : Some d.thread ≡ Some t = sym (thread_is trace b d at_b) ∙ ((count.all b).0 c).0 in
      is_of_true t d (let g : d.thread ≡ t = cc in g)

  earlier_too : (k b : ℕ) (d : Event) → Contains count.members b → k < b → slice_get trace k ≡ Some d → is_of t d ≡ true → Contains count.members k
  earlier_too k b d c lt at_k is =
      let known = (count.all b).0 c in
      let of_k : thread_at trace k ≡ Some t = thread_is trace k d at_k ∙ ap (λ x. Some x) (is_of_thread t d is) in
      (count.all k).1 (of_k, below_pred_closed trace k b e (happens_before (record { earlier = lt; rule = same_thread t of_k known.0 })) known.1)

  event_there : (p a : ℕ) → slice_get count.members p ≡ Some a → (d : Event) × (slice_get (events_at trace count.members) p ≡ Some d) × (slice_get trace a ≡ Some d)
  event_there p a at_p = event_at_index trace count.members in_range p a at_p

  chosen_pass : (q k : ℕ) (d : Event) → q ≤ length count.members → k < q → slice_get (events_at trace count.members) k ≡ Some d → is_of t d ≡ true
  chosen_pass q k d le lt at_k =
      let at_s = slice_get-get_or count.members k 0 (omega arith) in
      let there = event_there k (get_or count.members k 0) at_s in
      let same : Some there.0 ≡ Some d = sym there.1 ∙ at_k in
      let equal : there.0 ≡ d = cc in
      rw (← equal) (of_t (get_or count.members k 0) there.0 (contains_at count.members k (get_or count.members k 0) at_s) there.2)

  -- the index of a member is the number of events of the thread before it
  index_count : (q b : ℕ) → slice_get count.members q ≡ Some b → count_by (is_of t) (take b trace) ≡ q
  index_count q b at_q =
      let within = slice_get_within count.members q b at_q in
      let total = length_events trace count.members in_range in
      let whole = all_counted (is_of t) (events_at trace count.members) q (omega (arith, within, total)) (λ k d lt at_k. chosen_pass q k d (omega arith) lt at_k) in
      let low = counts_le trace (events_at trace count.members) count.members count.rising event_there (is_of t) q b at_q in
      let high = counts_ge trace (events_at trace count.members) count.members count.rising event_there (is_of t) q b at_q (λ k d lt at_k passes. earlier_too k b d (contains_at count.members q b at_q) lt at_k passes) in
      omega (arith, whole, low, high)

  own_time : (k : ℕ) → thread_at trace k ≡ Some t → local_time trace t k ≡ count_by (is_of t) (take k trace) + 1
  own_time k of_k = let d = event_of_thread trace k t of_k in count_more_yes (is_of t) trace k d.0 d.1 (is_of_true t d.0 d.2)

  pub local_from_below : (i : ℕ) → thread_at trace i ≡ Some t → BelowPred trace i e → local_time trace t i ≤ n
  local_from_below i of_i below =
      let index = index_of count.members i ((count.all i).1 (of_i, below)) in
      let within = slice_get_within count.members index.0 i index.1 in
      let total = count.number in
      let before = index_count index.0 i index.1 in
      let own = own_time i of_i in
      omega (arith, within, total, before, own)

  pub below_from_local : (i : ℕ) → thread_at trace i ≡ Some t → local_time trace t i ≤ n → BelowPred trace i e
  below_from_local i of_i le = go (cases_order b i)
    where
      q : ℕ
      q = count_by (is_of t) (take i trace)

      b : ℕ
      b = get_or count.members q 0

      at_q : slice_get count.members q ≡ Some b
      at_q = let own = own_time i of_i in let total = count.number in slice_get-get_or count.members q 0 (omega (arith, own, total, le))

      known : (thread_at trace b ≡ Some t) × BelowPred trace b e
      known = (count.all b).0 (contains_at count.members q b at_q)

      before : count_by (is_of t) (take b trace) ≡ q
      before = index_count q b at_q

      go : (b ≡ i) ⊎ ((b < i) ⊎ (i < b)) → BelowPred trace i e
      go (inl same) = subst (λ k. BelowPred trace k e) same known.1
      go (inr (inl lt)) =
          let own = own_time b known.0 in
          let more = count_mono (is_of t) trace (b + 1) i (omega arith) in
          let is = before in
          absurd (omega (arith, own, more, is))
      go (inr (inr gt)) =
          let own = own_time i of_i in
          let more = count_mono (is_of t) trace (i + 1) b (omega arith) in
          let is = before in
          absurd (omega (arith, own, more, is))

-- the test of an order's answer against an event's local time
pub below_pred_test : (trace ordered : List Event) (t k e n m : ℕ) → ordered ≡ trace → IsBelowPredCount ordered t e n → thread_at trace k ≡ Some t → m ≡ local_time trace t k → IsTrue (leb m n) ↔ BelowPred trace k e
below_pred_test trace ordered t k e n m same count of_k index =
    let counted : IsBelowPredCount trace t e n = subst (λ (tr : List Event). IsBelowPredCount tr t e n) same count in (
      (λ h. below_from_local trace t e n counted k of_k (let le = leb-true m n h in omega (arith, le, index))),
      (λ below. le-leb m n (let le = local_from_below trace t e n counted k of_k below in omega (arith, le, index))),
    )
