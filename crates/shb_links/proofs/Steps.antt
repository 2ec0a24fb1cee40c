-- What the pass finds of one event.
use Rattle.shb_links.proofs.Words.{Event, Exactly, ForksThread, HasLocals, IsDisciplined, IsLatestBefore, IsLatestTable, IsPred, IsWithin, LastWrite, Latest, OfThread, Read, Sizes, WritesVariable, by_fork, cases_Bool, common_steps, count_gap, count_more_yes, counted_before, event_of_thread, in_thread, is_of, is_of_thread, is_of_true, length-take, local_time, op_at, thread_at, thread_is, thread_within}
use Rattle.std.proofs.Common.{◌≡◌, ◌≢◌, ℕ, ◌+◌, ◌<◌, ◌≤◌, List, Option, Some, None, length, get_or, take, arith, subst, ap, sym, ◌∙◌}
use Rattle.std.specs.Prelude.{count_by}
use Rattle.std.specs.Option.{option_or}
use Rattle.std.proofs.lemmas.List.Sums.{count_by-le-length}
use Rattle.shb_links.proofs.Tables.{thread_alone}

pub time_bound : (trace : List Event) (t e : ℕ) → local_time trace t e ≤ e + 1
time_bound trace t e = grind (arith, common_steps, count_by-le-length, length-take)

-- the local time of an event, from the last event of its thread
module _ (trace : List Event) (e t : ℕ) (of_e : thread_at trace e ≡ Some t) where
  time_here : local_time trace t e ≡ count_by (is_of t) (take e trace) + 1
  time_here = let d = event_of_thread trace e t of_e in count_more_yes (is_of t) trace e d.0 d.1 (is_of_true t d.0 d.2)

  none_of : (a : ℕ) → ((m : ℕ) → a ≤ m → m < e → thread_at trace m ≢ Some t) → a ≤ e → count_by (is_of t) (take e trace) ≡ count_by (is_of t) (take a trace)
  none_of a none le = grind (arith, common_steps, count_gap, cases_Bool, thread_is, is_of_thread)

  pub time_first : ((m : ℕ) → m < e → thread_at trace m ≢ Some t) → local_time trace t e ≡ 1
  time_first none = let gap = none_of 0 (λ m low high. none m high) (omega arith) in let own = time_here in omega (arith, gap, own)

  pub time_after : (p : ℕ) → IsLatestBefore (OfThread trace t) e p → local_time trace t e ≡ local_time trace t p + 1
  time_after p latest = let gap = none_of (p + 1) (λ m low high. latest.last m (omega arith) high) (let lt = latest.earlier in omega arith) in let own = time_here in omega (arith, gap, own)

  -- the first event of a thread
  pub none_earlier : local_time trace t e ≡ 1 → (m : ℕ) → m < e → thread_at trace m ≢ Some t
  none_earlier first m lt of_m = grind (arith, common_steps, event_of_thread, counted_before, is_of_true, time_here)

  pub pred_by_fork : IsDisciplined trace → (last fork : Option ℕ) → Latest (OfThread trace t) e last → Exactly (ForksThread trace t) fork → Exactly (λ p. IsPred trace p e) (option_or last fork)
  pred_by_fork disciplined (Some p) fork latest forks = in_thread t latest.holds of_e latest.earlier latest.last
  pred_by_fork disciplined None (Some f) none forks = by_fork t forks of_e none
  pred_by_fork disciplined None None none no_fork = λ p pred. refuse p pred
    where
      refuse : (p : ℕ) → IsPred trace p e → ⊥
      refuse p (in_thread u of_p of_e' lt last) = let same : u ≡ t = cc in none p lt (rw (← same) of_p)
      refuse p (by_fork u forks of_e' last) = let same : u ≡ t = cc in no_fork p (rw (← same) forks)

-- the predecessor of the first event of a thread, where the links are seen as the trace
pub pred_first : (trace seen : List Event) (e t time : ℕ) (fork : Option ℕ) → trace ≡ seen → IsDisciplined trace → thread_at trace e ≡ Some t → ((u : ℕ) → thread_at seen e ≡ Some u → time ≡ local_time seen u e) → time ≡ 1 → Exactly (ForksThread seen t) fork → Exactly (λ p. IsPred seen p e) fork
pred_first trace seen e t time fork same disciplined of_e local first forks =
    let of_seen : thread_at seen e ≡ Some t = subst (λ (tr : List Event). thread_at tr e ≡ Some t) same of_e in
    let meets : IsDisciplined seen = subst (λ (tr : List Event). IsDisciplined tr) same disciplined in
    pred_by_fork seen e t of_seen meets None fork (none_earlier seen e t of_seen (sym (local t of_seen) ∙ first)) forks

-- the last write of a read, and of what is no read
pub write_link : (trace : List Event) (e x : ℕ) → op_at trace e ≡ Some (Read x) → (o : Option ℕ) → Latest (WritesVariable trace x) e o → Exactly (λ w. LastWrite trace w e) o
write_link trace e x h o also = grind (arith, common_steps)

-- the entry of an event's thread in a table of latest positions
pub thread_entry : (P : ℕ → ℕ → Type 0) (trace : List Event) (sizes : Sizes) (table : List (Option ℕ)) (e t : ℕ) → IsWithin trace sizes → IsLatestTable P e sizes.threads table → thread_at trace e ≡ Some t → Latest (P t) e (get_or table t None)
thread_entry P trace sizes table e t within has of_e = has.each t (thread_within trace sizes e t within of_e)

-- what the pass finds of the event at e of thread t, from the tables of what stands before it
module _ (trace : List Event) (sizes : Sizes) (e t : ℕ) (within : IsWithin trace sizes) (of_e : thread_at trace e ≡ Some t) where
  of_same : (u : ℕ) → thread_at trace e ≡ Some u → t ≡ u
  of_same u of_u = thread_alone trace e u t of_u of_e

  next_here : (locals : List ℕ) (last : List (Option ℕ)) (p : ℕ) → HasLocals trace e locals → IsLatestTable (OfThread trace) e sizes.threads last → get_or last t None ≡ Some p → get_or locals p 0 + 1 ≡ local_time trace t e
  next_here locals last p times has is =
      let latest : IsLatestBefore (OfThread trace t) e p = subst (λ (o : Option ℕ). Latest (OfThread trace t) e o) is (thread_entry (OfThread trace) trace sizes last e t within has of_e) in
      let known = times.each p t latest.earlier latest.holds in
      let after = time_after trace e t of_e p latest in
      omega (arith, known, after)

  pub time_next : (locals : List ℕ) (last : List (Option ℕ)) (p : ℕ) → HasLocals trace e locals → IsLatestTable (OfThread trace) e sizes.threads last → get_or last t None ≡ Some p → (u : ℕ) → thread_at trace e ≡ Some u → get_or locals p 0 + 1 ≡ local_time trace u e
  time_next locals last p times has is u of_u = next_here locals last p times has is ∙ ap (λ v. local_time trace v e) (of_same u of_u)

  pub time_start : (last : List (Option ℕ)) → IsLatestTable (OfThread trace) e sizes.threads last → get_or last t None ≡ None → (u : ℕ) → thread_at trace e ≡ Some u → 1 ≡ local_time trace u e
  time_start last has is u of_u =
      sym (time_first trace e t of_e (subst (λ (o : Option ℕ). Latest (OfThread trace t) e o) is (thread_entry (OfThread trace) trace sizes last e t within has of_e)))
      ∙ ap (λ v. local_time trace v e) (of_same u of_u)

  pub time_small : (locals : List ℕ) (last : List (Option ℕ)) (p : ℕ) → e < length trace → HasLocals trace e locals → IsLatestTable (OfThread trace) e sizes.threads last → get_or last t None ≡ Some p → get_or locals p 0 < length trace
  time_small locals last p lt times has is = grind (arith, common_steps, next_here, time_bound)
