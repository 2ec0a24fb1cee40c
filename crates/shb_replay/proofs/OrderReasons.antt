-- The reasons of an event by its predecessor, and whether an event is next.
use Rattle.shb_replay.proofs.Words.{AreFlags, BelowPred, Event, Exactly, Fork, HasReason, IsDisciplined, IsLowestIn, IsNext, IsPred, IsUnbroken, StandsEarlier, Tells, TellsLack, by_fork, cases_order, common_steps, event_of_op, fork_allowed, get_or_from_slice_get, here, in_thread, op_at, pred_unique, thread_at, thread_is}
use Rattle.std.proofs.Common.{◌≡◌, ◌≢◌, ℕ, ◌<◌, ◌⊎◌, inl, inr, Bool, true, false, List, Option, Some, None, length, get_or, refl, sym, ◌∙◌, ap, arith, subst}
use Rattle.std.specs.Prelude.{slice_get, not, IfSome}
use Rattle.shb_lines.proofs.events.Schedulable.{below_pred_in_range, thread_below_pred, fork_below_pred}
use Rattle.shb_replay.specs.declared.broken.Why.TheVariants as whys
use Rattle.shb_replay.proofs.Standing.{member_stands, stands_member}
use Rattle.shb_replay.proofs.Closed.{thread_stands, fork_stands}
use Rattle.shb_replay.proofs.FrontDiscipline.{one_fork}
use Rattle.shb_replay.proofs.Lowest.{above}

-- what holds of the event at an index
pub at_index : (P : ℕ → Type 0) (s : List ℕ) (p : ℕ) → P (get_or s p 0) → (e : ℕ) → slice_get s p ≡ Some e → P e
at_index P s p h e at = subst P (get_or_from_slice_get s p e 0 at) h

pub pred_in_trace : (trace : List Event) (a e : ℕ) → IsPred trace a e → a < length trace
pred_in_trace trace a e pred = below_pred_in_range trace a e (a, pred, here)

-- what a flag tells that was read
pub flag_true : (P : ℕ → Type 0) (n k : ℕ) (flags : List Bool) (flag : Bool) → AreFlags P n flags → slice_get flags k ≡ Some flag → flag ≡ true → P k
flag_true P n k flags flag h at is = subst (λ (b : Bool). Tells b (P k)) is (h.each k flag at)

pub flag_false : (P : ℕ → Type 0) (n k : ℕ) (flags : List Bool) (flag : Bool) → AreFlags P n flags → slice_get flags k ≡ Some flag → flag ≡ false → P k → ⊥
flag_false P n k flags flag h at is = subst (λ (b : Bool). Tells b (P k)) is (h.each k flag at)

-- what a link is that was asked for
pub link_is : (P : ℕ → Type 0) (o : Option ℕ) (a : ℕ) → Exactly P o → o ≡ Some a → P a
link_is P o a known is = subst (λ (q : Option ℕ). Exactly P q) is known

pub link_none : (P : ℕ → Type 0) (o : Option ℕ) → Exactly P o → o ≡ None → (a : ℕ) → ¬ P a
link_none P o known is = subst (λ (q : Option ℕ). Exactly P q) is known

pub threads_same : (trace : List Event) (a x t u : ℕ) → thread_at trace a ≡ Some t → thread_at trace x ≡ Some u → t ≡ u → thread_at trace a ≡ thread_at trace x
threads_same trace a x t u of_a of_x h = of_a ∙ (ap (λ (n : ℕ). Some n) h ∙ sym of_x)

pub threads_differ : (trace : List Event) (a x t u : ℕ) → thread_at trace a ≡ Some t → thread_at trace x ≡ Some u → (t ≡ u → ⊥) → thread_at trace a ≢ thread_at trace x
threads_differ trace a x t u of_a of_x h same = grind (arith, common_steps)

pub lacks_true : (s : List ℕ) (p e n : ℕ) (flags : List Bool) (flag : Bool) → AreFlags (StandsEarlier s p) n flags → slice_get flags e ≡ Some flag → TellsLack s p (Some e) (not flag)
lacks_true s p e n flags true h at = λ a is. (let same : e ≡ a = cc in subst (λ (k : ℕ). StandsEarlier s p k) same (h.each e true at))
lacks_true s p e n flags false h at = (e, refl, h.each e false at)

module _ (trace : List Event) (disciplined : IsDisciplined trace) (s : List ℕ) (p x : ℕ) where
  pub order_none : ((a : ℕ) → IsPred trace a x → StandsEarlier s p a) → IsLowestIn 3 4 (HasReason trace s p x) None
  order_none all whys.ThreadOrder low high (a, before, absent) = absent (all a (in_thread before.thread before.before_of before.of before.earlier before.last))
  order_none all whys.ForkMissing low high (f, before, absent) = absent (all f (by_fork before.thread before.forks before.of before.first))
  order_none all whys.NoSuchEvent low high h = omega (arith, low)
  order_none all whys.Repeated low high h = omega (arith, low)
  order_none all _ low high h = omega (arith, high)

  pub order_standing : (a : ℕ) → IsPred trace a x → StandsEarlier s p a → IsLowestIn 3 4 (HasReason trace s p x) None
  order_standing a pred stands = order_none (λ b other. subst (λ (k : ℕ). StandsEarlier s p k) (pred_unique trace disciplined a b x pred other) stands)

  own_fork : (a t : ℕ) → op_at trace a ≡ Some (Fork t) → thread_at trace x ≡ Some t → thread_at trace a ≡ thread_at trace x → ⊥
  own_fork a t forks of_x same =
      let e = event_of_op trace a (Fork t) forks in
      let may = fork_allowed _ e.0 t (disciplined a e.0 e.1) e.2 in
      let own : Some e.0.thread ≡ Some t = sym (thread_is trace a e.0 e.1) ∙ (same ∙ of_x) in
      may.other (let g : t ≡ e.0.thread = cc in g)

  missing_in_thread : (a : ℕ) → IsPred trace a x → ¬ StandsEarlier s p a → thread_at trace a ≡ thread_at trace x → HasReason trace s p x whys.ThreadOrder
  missing_in_thread a (in_thread t of_a of_x lt last) absent same = (a, record { thread = t; before_of = of_a; of = of_x; earlier = lt; last = last }, absent)
  missing_in_thread a (by_fork t forks of_x first) absent same = absurd (own_fork a t forks of_x same)

  pub order_thread : (a : ℕ) → IsPred trace a x → ¬ StandsEarlier s p a → thread_at trace a ≡ thread_at trace x → IsLowestIn 3 4 (HasReason trace s p x) (Some whys.ThreadOrder)
  order_thread a pred absent same = (missing_in_thread a pred absent same, omega arith, λ other low h. low)

  missing_fork : (a : ℕ) → IsPred trace a x → ¬ StandsEarlier s p a → thread_at trace a ≢ thread_at trace x → HasReason trace s p x whys.ForkMissing
  missing_fork a (in_thread t of_a of_x lt last) absent differ = absurd (differ (of_a ∙ sym of_x))
  missing_fork a (by_fork t forks of_x first) absent differ = (a, record { thread = t; forks = forks; of = of_x; first = first }, absent)

  not_in_thread : (a : ℕ) → IsPred trace a x → thread_at trace a ≢ thread_at trace x → HasReason trace s p x whys.ThreadOrder → ⊥
  not_in_thread a pred differ (b, before, absent) =
      let same = pred_unique trace disciplined b a x (in_thread before.thread before.before_of before.of before.earlier before.last) pred in
      differ (subst (λ (k : ℕ). thread_at trace k ≡ thread_at trace x) same (before.before_of ∙ sym before.of))

  pub order_fork : (a : ℕ) → IsPred trace a x → ¬ StandsEarlier s p a → thread_at trace a ≢ thread_at trace x → IsLowestIn 3 4 (HasReason trace s p x) (Some whys.ForkMissing)
  order_fork a pred absent differ = (missing_fork a pred absent differ, omega arith, λ other. above (HasReason trace s p x) whys.ThreadOrder other (not_in_thread a pred differ))

-- whether an event is next after the list
module _ (trace : List Event) (disciplined : IsDisciplined trace) (s : List ℕ) (unbroken : IsUnbroken trace s (length s)) (e : ℕ) where
  -- its predecessor, where something must stand before it
  pred_needed : (o : Option ℕ) → Exactly (λ a. IsPred trace a e) o → ((a : ℕ) → o ≡ Some a → StandsEarlier s (length s) a) → (b : ℕ) → BelowPred trace b e → (a : ℕ) × IsPred trace a e × StandsEarlier s (length s) a
  pred_needed (Some a) is stands b below = (a, is, stands a refl)
  pred_needed None none stands b below = absurd (none below.0 below.1)

  thread_before : (t a b : ℕ) → IsPred trace a e → StandsEarlier s (length s) a → b < e → thread_at trace b ≡ Some t → thread_at trace e ≡ Some t → StandsEarlier s (length s) b
  thread_before t a b (in_thread u of_a of_e lt last) stands below of_b of_e' = go (cases_order b a)
    where
      same : thread_at trace e ≡ Some u → thread_at trace e ≡ Some t → t ≡ u
      same h g = let both : Some t ≡ Some u = sym g ∙ h in cc

      go : (b ≡ a) ⊎ ((b < a) ⊎ (a < b)) → StandsEarlier s (length s) b
      go (inl is) = subst (λ (k : ℕ). StandsEarlier s (length s) k) (sym is) stands
      go (inr (inl low)) =
          let prior = thread_stands trace s (length s) unbroken stands.index a b u stands.earlier stands.at low (of_b ∙ ap (λ (n : ℕ). Some n) (same of_e of_e')) of_a in
          record { index = prior.index; earlier = (let x = prior.earlier in let y = stands.earlier in omega (arith, x, y)); at = prior.at }
      go (inr (inr high)) = absurd (last b high below (of_b ∙ ap (λ (n : ℕ). Some n) (same of_e of_e')))
  thread_before t a b (by_fork u forks of_e first) stands below of_b of_e' = absurd (first b below (of_b ∙ (sym of_e' ∙ of_e)))

  fork_before : (t a f : ℕ) → IsPred trace a e → StandsEarlier s (length s) a → op_at trace f ≡ Some (Fork t) → thread_at trace e ≡ Some t → StandsEarlier s (length s) f
  fork_before t a f (in_thread u of_a of_e lt last) stands forks of_e' =
      let of_t : thread_at trace a ≡ Some t = of_a ∙ (sym of_e ∙ of_e') in
      let prior = fork_stands trace s (length s) unbroken stands.index a f t stands.earlier stands.at forks of_t in
      record { index = prior.index; earlier = (let x = prior.earlier in let y = stands.earlier in omega (arith, x, y)); at = prior.at }
  fork_before t a f (by_fork u forks' of_e first) stands forks of_e' =
      let both : Some u ≡ Some t = sym of_e ∙ of_e' in
      let same : u ≡ t = cc in
      subst (λ (k : ℕ). StandsEarlier s (length s) k) (one_fork trace disciplined t a f (subst (λ (v : ℕ). op_at trace a ≡ Some (Fork v)) same forks') forks) stands

  is_next : (o : Option ℕ) → Exactly (λ a. IsPred trace a e) o → ¬ StandsEarlier s (length s) e → ((a : ℕ) → o ≡ Some a → StandsEarlier s (length s) a) → IsNext trace s e
  is_next o pred absent stands = record {
    absent = λ c. absent (member_stands s e c);
    thread_done = λ t a lt of_a of_e. (let p = pred_needed o pred stands a (thread_below_pred trace t a e lt of_a of_e) in stands_member s (length s) a (thread_before t p.0 a p.1 p.2 lt of_a of_e));
    thread_forked = λ t f forks of_e. (let p = pred_needed o pred stands f (fork_below_pred trace disciplined t f e forks of_e) in stands_member s (length s) f (fork_before t p.0 f p.1 p.2 forks of_e));
  }

  lacked : (a : ℕ) → IsPred trace a e → ¬ StandsEarlier s (length s) a → ¬ IsNext trace s e
  lacked a (in_thread t of_a of_e lt last) absent next = absent (member_stands s a (next.thread_done t a lt of_a of_e))
  lacked a (by_fork t forks of_e first) absent next = absent (member_stands s a (next.thread_forked t a forks of_e))

  pred_is : (a : ℕ) (o : Option ℕ) → o ≡ Some a → Exactly (λ b. IsPred trace b e) o → IsPred trace a e
  pred_is a (Some b) same pred = (let is : b ≡ a = cc in subst (λ (k : ℕ). IsPred trace k e) is pred)
  pred_is a None same pred = absurd (let f : ⊥ = cc in f)

  pub next_tells : (o : Option ℕ) (lacks : Bool) → Exactly (λ a. IsPred trace a e) o → ¬ StandsEarlier s (length s) e → TellsLack s (length s) o lacks → Tells (not lacks) (IsNext trace s e)
  next_tells o true pred absent (a, is, missing) = lacked a (pred_is a o is pred) missing
  next_tells o false pred absent all = is_next o pred absent all

  pub standing_not_next : StandsEarlier s (length s) e → ¬ IsNext trace s e
  standing_not_next stands next = next.absent (stands_member s (length s) e stands)

pub preds_in_trace : (trace : List Event) (e : ℕ) (o : Option ℕ) (n : ℕ) → Exactly (λ a. IsPred trace a e) o → n ≡ length trace → IfSome o (λ a. a < n)
preds_in_trace trace e (Some a) n pred long = let low = pred_in_trace trace a e pred in omega (arith, low, long)
preds_in_trace trace e None n pred long = tt
