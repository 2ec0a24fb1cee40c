-- The passes' lists as those of a run of the machine.
use Rattle.std.proofs.Common.{◌≡◌, ℕ, zero, suc, ◌<◌, ◌≤◌, Bool, true, false, List, [], ◌∷◌, ◌++◌, Some, IsTrue, IsFalse, All, Any, length, length-append, get_or, set, map, replicate, cond, ◌+◌, sum_by, sym, refl, ap, ◌∙◌, subst, arith, append-nil}
use Rattle.std.specs.List.Sorted.{IsStrictlyIncreasing}
use Rattle.std.proofs.lemmas.List.{length-map, length-replicate}
use Rattle.std.proofs.lemmas.List.Sums.{sum_by-cons}
use Rattle.std.proofs.lemmas.Option.{slice_get-get_or}
use Rattle.shb_fan.specs.declared.step.Step.{Step}
use Rattle.shb_fan.specs.declared.step.Step.TheVariants.{Draw, Stop}
use Rattle.shb_fan.specs.declared.step.PieceState.TheVariants.{Empty}
use Rattle.shb_fan.specs.Numbers.{weight, times, once_below}
use Rattle.shb_fan.specs.Passes.{PassState}
use Rattle.shb_fan.specs.Machine.{ActorState, State, Runs, after, after_draw, new_actor, start}
use Rattle.shb_fan.specs.Turns.{AreDrawn, AreDraws, IsMachineRun, drawn_state, lists_of, spent_draws, spent_state}
use Rattle.shb_fan.proofs.Drawn.{exist, lead, stop, lt-false}
use Rattle.shb_fan.proofs.Ends.{any_from}

sum_lists : (x : ℕ) (passes : List PassState) → sum_by (times x) (lists_of passes) ≡ sum_by (λ (q : PassState). times x q.drawn) passes
sum_lists x [] = refl
sum_lists x (p ∷ ps) =
    let a = sum_by-cons (times x) p.drawn (lists_of ps) in
    let b = sum_by-cons (λ (q : PassState). times x q.drawn) p ps in
    let rest = sum_lists x ps in
    omega (arith, a, b, rest)

rises_in : (passes : List PassState) (a : ℕ) → All (λ p. IsStrictlyIncreasing p.drawn) passes → IsStrictlyIncreasing (get_or (lists_of passes) a [])
rises_in [] a all = λ i inside. absurd (omega arith)
rises_in (p ∷ ps) zero all = all 0 p (omega arith)
rises_in (p ∷ ps) (suc a) all = rises_in ps a (λ k d lt. all (suc k) d (omega (arith, lt)))

-- ---- one draw more for each spent pass

abbrev actor : List ℕ → Bool → ActorState
actor drawn spent = record { drawn = drawn; spent = spent }

abbrev unspent : PassState → ActorState
unspent p = actor p.drawn false

abbrev flagged : PassState → ActorState
flagged p = actor p.drawn p.spent

abbrev state_of : ℕ → List ActorState → ℕ → State
state_of next actors limit = record { next = next; actors = actors; pieces = replicate limit Empty; taken = 0; stopped = false }

get_between : (front rest : List ActorState) (x d : ActorState) (a : ℕ) → length front ≡ a → get_or (front ++ x ∷ rest) a d ≡ x
get_between [] rest x d zero long = refl
get_between [] rest x d (suc a) long = absurd (omega (arith, long))
get_between (y ∷ front) rest x d zero long = absurd (omega (arith, long))
get_between (y ∷ front) rest x d (suc a) long = get_between front rest x d a (omega (arith, long))

set_between : (front rest : List ActorState) (x y : ActorState) (a : ℕ) → length front ≡ a → set (front ++ x ∷ rest) a y ≡ front ++ y ∷ rest
set_between [] rest x y zero long = refl
set_between [] rest x y (suc a) long = absurd (omega (arith, long))
set_between (z ∷ front) rest x y zero long = absurd (omega (arith, long))
set_between (z ∷ front) rest x y (suc a) long = ap (λ (l : List ActorState). z ∷ l) (set_between front rest x y a (omega (arith, long)))

append_one : (front rest : List ActorState) (x : ActorState) → (front ++ x ∷ []) ++ rest ≡ front ++ x ∷ rest
append_one [] rest x = refl
append_one (y ∷ front) rest x = ap (λ (l : List ActorState). y ∷ l) (append_one front rest x)

runs_append : (xs ys : List Step) (s t u : State) → Runs s xs t → Runs t ys u → Runs s (xs ++ ys) u
runs_append [] ys s t u same more = subst (λ (v : State). Runs v ys u) same more
runs_append (x ∷ xs) ys s t u h more = (h.0, runs_append xs ys (after s x) t u h.1 more)

-- with one draw more for each of these that is spent
abbrev Spends : ℕ → List PassState → Type 0
Spends limit ps = (front : List ActorState) (a next : ℕ) → length front ≡ a → (0 < sum_by (λ (q : PassState). weight q.spent) ps → limit ≤ next) → Runs (state_of next (front ++ map unspent ps) limit) (spent_draws a ps) (state_of (next + sum_by (λ (q : PassState). weight q.spent) ps) (front ++ map flagged ps) limit)

module _ (limit : ℕ) where
  -- the draw of an actor where there is no more
  draw_none : (front rest : List ActorState) (drawn : List ℕ) (a next : ℕ) → length front ≡ a → limit ≤ next → after (state_of next (front ++ actor drawn false ∷ rest) limit) (Draw a) ≡ state_of (next + 1) (front ++ actor drawn true ∷ rest) limit
  draw_none front rest drawn a next long over =
      let pieces = length-replicate limit Empty in
      let last = lt-false next (length (replicate limit Empty)) (omega (arith, pieces, over)) in
      let here = get_between front rest (actor drawn false) new_actor a long in
      let step : after_draw next (length (replicate limit Empty)) (get_or (front ++ actor drawn false ∷ rest) a new_actor) ≡ actor drawn true = rw (here, last) refl in
      ap (λ (actors : List ActorState). state_of (next + 1) actors limit) (ap (λ (x : ActorState). set (front ++ actor drawn false ∷ rest) a x) step ∙ set_between front rest (actor drawn false) (actor drawn true) a long)

  spend : (front : List ActorState) (ps : List PassState) (a next : ℕ) → length front ≡ a → (0 < sum_by (λ (q : PassState). weight q.spent) ps → limit ≤ next)
      → Runs (state_of next (front ++ map unspent ps) limit) (spent_draws a ps) (state_of (next + sum_by (λ (q : PassState). weight q.spent) ps) (front ++ map flagged ps) limit)
  spend front [] a next long over = ap (λ (n : ℕ). state_of n (front ++ []) limit) (let e : next + 0 ≡ next = omega arith in e)
  spend front (p ∷ ps) a next long over =
      let c = sum_by-cons (λ (q : PassState). weight q.spent) p ps in
      subst (λ (n : ℕ). Runs (state_of next (front ++ unspent p ∷ map unspent ps) limit) (spent_draws a (p ∷ ps)) (state_of (next + n) (front ++ flagged p ∷ map flagged ps) limit)) (sym c)
      (by_spent (λ later_front b n. spend later_front ps b n) p.spent (λ some_spent. over (omega (arith, c, some_spent))))
    where
      later : (b : Bool) → length (front ++ actor p.drawn b ∷ []) ≡ a + 1
      later b = let l = length-append front (actor p.drawn b ∷ []) in omega (arith, l, long)

      rest_runs : Spends limit ps → (b : Bool) (n : ℕ) → (0 < sum_by (λ (q : PassState). weight q.spent) ps → limit ≤ n) → Runs (state_of n (front ++ actor p.drawn b ∷ map unspent ps) limit) (spent_draws (a + 1) ps) (state_of (n + sum_by (λ (q : PassState). weight q.spent) ps) (front ++ actor p.drawn b ∷ map flagged ps) limit)
      rest_runs again b n enough =
          subst (λ (l : List ActorState × List ActorState). Runs (state_of n l.0 limit) (spent_draws (a + 1) ps) (state_of (n + sum_by (λ (q : PassState). weight q.spent) ps) l.1 limit))
          (λ i. (append_one front (map unspent ps) (actor p.drawn b) i, append_one front (map flagged ps) (actor p.drawn b) i))
          (again (front ++ actor p.drawn b ∷ []) (a + 1) n (later b) enough)

      by_spent : Spends limit ps → (b : Bool) → (0 < weight b + sum_by (λ (q : PassState). weight q.spent) ps → limit ≤ next)
          → Runs (state_of next (front ++ unspent p ∷ map unspent ps) limit) (cond b (Draw a ∷ spent_draws (a + 1) ps) (spent_draws (a + 1) ps)) (state_of (next + (weight b + sum_by (λ (q : PassState). weight q.spent) ps)) (front ++ actor p.drawn b ∷ map flagged ps) limit)
      by_spent again false enough =
          subst (λ (n : ℕ). Runs (state_of next (front ++ unspent p ∷ map unspent ps) limit) (spent_draws (a + 1) ps) (state_of n (front ++ actor p.drawn false ∷ map flagged ps) limit))
          (let e : next + sum_by (λ (q : PassState). weight q.spent) ps ≡ next + (weight false + sum_by (λ (q : PassState). weight q.spent) ps) = omega arith in e)
          (rest_runs again false next (λ some_spent. enough (omega (arith, some_spent))))
      by_spent again true enough =
          let full : limit ≤ next = enough (omega arith) in
          let l = length-append front (unspent p ∷ map unspent ps) in
          let there = get_between front (map unspent ps) (unspent p) new_actor a long in (
            (omega (arith, l, long), ap (λ (x : ActorState). x.spent) there),
            subst (λ (s : State). Runs s (spent_draws (a + 1) ps) (state_of (next + (weight true + sum_by (λ (q : PassState). weight q.spent) ps)) (front ++ actor p.drawn true ∷ map flagged ps) limit)) (sym (draw_none front (map unspent ps) p.drawn a next long full))
                (subst (λ (n : ℕ). Runs (state_of (next + 1) (front ++ actor p.drawn true ∷ map unspent ps) limit) (spent_draws (a + 1) ps) (state_of n (front ++ actor p.drawn true ∷ map flagged ps) limit))
                (let e : next + 1 + sum_by (λ (q : PassState). weight q.spent) ps ≡ next + (weight true + sum_by (λ (q : PassState). weight q.spent) ps) = omega arith in e)
                (rest_runs again true (next + 1) (λ some_spent. omega (arith, full)))),
          )

map_lists : (passes : List PassState) → map (λ (xs : List ℕ). actor xs false) (lists_of passes) ≡ map unspent passes
map_lists [] = refl
map_lists (p ∷ ps) = ap (λ (l : List ActorState). unspent p ∷ l) (map_lists ps)

module _ (passes : List PassState) (drawn limit : ℕ) (once : (x : ℕ) → sum_by (λ (q : PassState). times x q.drawn) passes ≡ once_below x drawn) (rising : All (λ p. IsStrictlyIncreasing p.drawn) passes) (low : drawn ≤ limit) where
  are_drawn : AreDrawn (lists_of passes) drawn
  are_drawn = record { rising = λ a. rises_in passes a rising; each_once = λ x. sum_lists x passes ∙ once x }

  draws : (steps : List Step) × AreDraws (lists_of passes) drawn steps
  draws = exist (lists_of passes) drawn are_drawn

  long : length (lists_of passes) ≡ length passes
  long = length-map passes (λ (p : PassState). p.drawn)

  begun : (steps : List Step) (s : State) → Runs (start (length (lists_of passes)) limit) steps s → Runs (start (length passes) limit) steps s
  begun steps s runs = subst (λ (n : ℕ). Runs (start n limit) steps s) long runs

  -- one draw more for each spent pass leads on
  spent_run : (0 < sum_by (λ (q : PassState). weight q.spent) passes → drawn ≡ limit) → Runs (start (length passes) limit) (draws.0 ++ spent_draws 0 passes) (spent_state passes (drawn + sum_by (λ (q : PassState). weight q.spent) passes) limit)
  spent_run ended =
      let led = begun draws.0 (drawn_state (lists_of passes) drawn limit false) (lead (lists_of passes) drawn are_drawn limit low draws.0 draws.1) in
      let onward = spend limit [] passes 0 drawn refl (λ some_spent. let e = ended some_spent in omega (arith, e)) in
      runs_append draws.0 (spent_draws 0 passes) (start (length passes) limit) (drawn_state (lists_of passes) drawn limit false) (spent_state passes (drawn + sum_by (λ (q : PassState). weight q.spent) passes) limit) led
      (subst (λ (actors : List ActorState). Runs (state_of drawn actors limit) (spent_draws 0 passes) (spent_state passes (drawn + sum_by (λ (q : PassState). weight q.spent) passes) limit)) (sym (map_lists passes)) onward)

  pub machine_run : (stopped : Bool) → (IsTrue stopped → Any (λ p. IsTrue p.halted) passes) → (IsFalse stopped → Any (λ p. IsTrue p.spent) passes → drawn ≡ limit) → IsMachineRun limit passes drawn stopped
  machine_run false halted ended =
      let led = lead (lists_of passes) drawn are_drawn limit low draws.0 draws.1 in record {
        draws = draws.0;
        stops = [];
        are_draws = draws.1;
        are_stops = refl;
        ends = begun (draws.0 ++ []) (drawn_state (lists_of passes) drawn limit false) (subst (λ (xs : List Step). Runs (start (length (lists_of passes)) limit) xs (drawn_state (lists_of passes) drawn limit false)) (sym (append-nil draws.0)) led);
        spends = λ running. spent_run (λ some_spent. ended running (any_from (λ (p : PassState). p.spent) passes some_spent));
      }
  machine_run true halted ended =
      let one = halted refl in
      let inside : one.0 < length (lists_of passes) = (let lt = one.2 in let same = long in omega (arith, lt, same)) in record {
        draws = draws.0;
        stops = Stop one.0 ∷ [];
        are_draws = draws.1;
        are_stops = (one.0, one.1, slice_get-get_or passes one.0 one.1 one.2 ∙ ap (λ (p : PassState). Some p) one.3, one.4, refl);
        ends = begun (draws.0 ++ Stop one.0 ∷ []) (drawn_state (lists_of passes) drawn limit true) (stop (lists_of passes) drawn are_drawn limit low draws.0 draws.1 one.0 inside);
        spends = λ running. absurd (let f : weight true ≡ weight false = ap weight running in omega (arith, f));
      }
