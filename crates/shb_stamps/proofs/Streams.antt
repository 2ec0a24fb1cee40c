-- What is kept of the events so far says the same of them when an event more comes.
use Rattle.std.proofs.Common.{◌≡◌, ◌≢◌, ℕ, ◌+◌, ◌<◌, ◌≤◌, ◌⊎◌, inl, inr, true, List, [], ◌∷◌, ◌++◌, Some, length, get_or, arith, length-append, refl, sym, subst, ◌∙◌, ap}
use Rattle.std.specs.Prelude.{◌↔◌, cond, count_by}
use Rattle.shb_stamps.proofs.Words.{AreClocks, Event, IsKnown, IsLatestStamp, IsRowFor, IsStampOf, KeepsWrite, ReleasesLock, ShbBelow, Stamp, below_longer, cases_lt, empty_stamp, is_of, local_time, of_event, of_none, op_longer, path_forward, sum_by_push, take-append-le, take_all, thread_at, thread_longer, time_longer}
use Rattle.shb_stamps.proofs.Fronts.{thread_in_range}
use Rattle.shb_stamps.proofs.Locals.{time_at}

module _ (past : List Event) (e : Event) where
  abbrev n : ℕ
  n = length past

  abbrev now : List Event
  now = past ++ e ∷ []

  pub long : length now ≡ n + 1
  long = length-append past (e ∷ [])

  pub count_more : (t : ℕ) → count_by (is_of t) now ≡ count_by (is_of t) past + cond (is_of t e) 1 0
  count_more t = sum_by_push (λ (x : Event). cond (is_of t x) 1 0) past e

  -- the event at the end has a local time above all before
  pub last_time : (t : ℕ) → thread_at now n ≡ Some t → local_time now t n ≡ count_by (is_of t) past + 1
  last_time t of_t = time_at now t n of_t ∙ ap (λ (m : ℕ). m + 1) (ap (count_by (is_of t)) (take-append-le n past (e ∷ []) (omega arith) ∙ take_all n past (omega arith)))

  pub row_longer : (rows : List (List ℕ)) (t r : ℕ) (P Q : ℕ → Type 0) → ((k : ℕ) → k < n → P k ↔ Q k) → (Q n → ⊥) → IsRowFor past rows t P r → IsRowFor now rows t Q r
  row_longer rows t r P Q same none old = record { in_range = old.in_range; front = record { within = within; exact = λ u k of_k ne. exact u k of_k ne (cases_lt k n) } }
    where
      row : List ℕ
      row = get_or rows r []

      within : (u : ℕ) → u ≢ t → get_or row u 0 ≤ count_by (is_of u) now
      within u ne = let le = old.front.within u ne in let more = count_more u in omega (arith, le, more)

      exact : (u k : ℕ) → thread_at now k ≡ Some u → u ≢ t → (k < n) ⊎ (n ≤ k) → (local_time now u k ≤ get_or row u 0) ↔ Q k
      exact u k of_k ne (inl lt) =
          let known = old.front.exact u k (sym (thread_longer past (e ∷ []) k lt) ∙ of_k) ne in
          let time = time_longer past (e ∷ []) u k lt in
          let both = same k lt in
          ((λ le. both.0 (known.0 (omega (arith, le, time)))), (λ q. let le = known.1 (both.1 q) in omega (arith, le, time)))
      exact u k of_k ne (inr ge) =
          let last : k ≡ n = (let low = thread_in_range now k u of_k in omega (arith, ge, low, long)) in
          let time = last_time u (subst (λ (m : ℕ). thread_at now m ≡ Some u) last of_k) in
          let most = old.front.within u ne in
          let here = ap (local_time now u) last in
          ((λ le. absurd (omega (arith, le, time, most, here))), (λ q. absurd (none (subst Q last q))))

  pub known_longer : (t k : ℕ) → IsKnown past t n k ↔ IsKnown now t n k
  known_longer t k = (
    (λ h. record {
      event = h.event;
      earlier = h.earlier;
      of_or_forks = elim h.of_or_forks [ inl of_t ↦ inl (thread_longer past (e ∷ []) h.event h.earlier ∙ of_t) | inr forks ↦ inr (op_longer past (e ∷ []) h.event h.earlier ∙ forks) ];
      below = (below_longer past (e ∷ []) k h.event h.earlier).1 h.below;
    }),
    (λ h. record {
      event = h.event;
      earlier = h.earlier;
      of_or_forks = elim h.of_or_forks [ inl of_t ↦ inl (sym (thread_longer past (e ∷ []) h.event h.earlier) ∙ of_t) | inr forks ↦ inr (sym (op_longer past (e ∷ []) h.event h.earlier) ∙ forks) ];
      below = (below_longer past (e ∷ []) k h.event h.earlier).0 h.below;
    }),
  )

  pub current_longer : (rows : List (List ℕ)) (t r : ℕ) → IsRowFor past rows t (IsKnown past t n) r → IsRowFor now rows t (IsKnown now t n) r
  current_longer rows t r = row_longer rows t r (IsKnown past t n) (IsKnown now t n) (λ k lt. known_longer t k) (λ h. let le = path_forward now n h.event h.below in let lt = h.earlier in omega (arith, le, lt))

  stamp_longer : (rows : List (List ℕ)) (r : ℕ) (stamp : Stamp) → r < n → IsStampOf past rows r stamp → IsStampOf now rows r stamp
  stamp_longer rows r stamp lt is = record {
    of_thread = thread_longer past (e ∷ []) r lt ∙ is.of_thread;
    time_is = is.time_is ∙ sym (time_longer past (e ∷ []) stamp.thread r lt);
    row_is = row_longer rows stamp.thread stamp.row (λ k. ShbBelow past k r) (λ k. ShbBelow now k r) (λ k low. (let both = below_longer past (e ∷ []) k r lt in (both.1, both.0))) (λ path. let le = path_forward now n r path in omega (arith, le, lt)) is.row_is;
  }

  latest_longer : (rows : List (List ℕ)) (P Q : ℕ → Type 0) (stamp : Stamp) → ((k : ℕ) → k < n → P k ↔ Q k) → IsLatestStamp past rows P n stamp → IsLatestStamp now rows Q n stamp
  latest_longer rows P Q stamp same (of_event r latest is) = of_event r (record { earlier = latest.earlier; holds = (same r latest.earlier).0 latest.holds; last = λ m low high q. latest.last m low high ((same m high).1 q) }) (stamp_longer rows r stamp latest.earlier is)
  latest_longer rows P Q stamp same (of_none absent zero) = of_none (λ k lt q. absent k lt ((same k lt).1 q)) zero

  lock_longer : (rows : List (List ℕ)) (l : ℕ) (stamp : Stamp) → IsLatestStamp past rows (ReleasesLock past l) n stamp → IsLatestStamp now rows (ReleasesLock now l) n stamp
  lock_longer rows l stamp = latest_longer rows (ReleasesLock past l) (ReleasesLock now l) stamp (λ k lt. ((λ h. op_longer past (e ∷ []) k lt ∙ h), (λ h. sym (op_longer past (e ∷ []) k lt) ∙ h)))

  variable_longer : (rows : List (List ℕ)) (x : ℕ) (stamp : Stamp) → IsLatestStamp past rows (KeepsWrite true past x) n stamp → IsLatestStamp now rows (KeepsWrite true now x) n stamp
  variable_longer rows x stamp = latest_longer rows (KeepsWrite true past x) (KeepsWrite true now x) stamp (λ k lt. ((λ h. (inl refl, op_longer past (e ∷ []) k lt ∙ h.1)), (λ h. (inl refl, sym (op_longer past (e ∷ []) k lt) ∙ h.1))))

  -- the clocks before the event
  pub clocks_longer : (rows : List (List ℕ)) (current : List ℕ) (locks variables : List Stamp) → AreClocks past n true rows current locks variables → AreClocks now n true rows current locks variables
  clocks_longer rows current locks variables old = record {
    some = old.some;
    few = old.few;
    current_are = λ t. current_longer rows t (get_or current t 0) (old.current_are t);
    locks_are = λ l. lock_longer rows l (get_or locks l empty_stamp) (old.locks_are l);
    variables_are = λ x. variable_longer rows x (get_or variables x empty_stamp) (old.variables_are x);
  }
