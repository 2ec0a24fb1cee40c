-- What the stored events stand for, and what one more changes.
use Rattle.std.proofs.lemmas.Grind.{common_steps}
use Rattle.std.proofs.Common.{◌≡◌, ◌+◌, ◌-◌, ◌<◌, ◌≤◌, ℕ, List, [], ◌∷◌, ◌++◌, cond, get_or, length, leb, map, option_map, Some, slice_get, zero, suc, refl, sym, ap, subst, ◌∙◌, arith}
use Rattle.std.specs.List.{AllByRecursion, enumerate_from}
use Rattle.std.proofs.lemmas.Bool.{lt-leb}
use Rattle.std.proofs.lemmas.List.{length-map, map-append}
use Rattle.std.proofs.lemmas.List.FromFn.{get_or-enumerate_from, length-enumerate_from}
use Rattle.std.proofs.lemmas.List.Sums.{fold-append}
use Rattle.std.proofs.lemmas.Option.{slice_get-get_or, slice_get-map}
use Rattle.shb_lines.specs.declared.event.Event.{Event}
use Rattle.shb_lines.specs.declared.stored.Skipped.{Skipped}
use Rattle.shb_lines.specs.declared.stored.StoredEvent.{StoredEvent}
use Rattle.shb_lines.specs.text.Numbers.{op_for}
use Rattle.shb_lines.specs.text.Stored.{events_in, lines_before, with_line}
use Rattle.shb_lines.proofs.text.TraceLemmas.{enumerate_from-push}

pub lines_before-push : (skipped : List Skipped) (entry : Skipped) (k : ℕ) → lines_before (skipped ++ entry ∷ []) k ≡ cond (leb entry.event k) entry.lines (lines_before skipped k)
lines_before-push skipped entry k = fold-append (λ lines e. cond (leb e.event k) e.lines lines) 0 skipped (entry ∷ [])

pub lines_before-later : (skipped : List Skipped) (entry : Skipped) (k : ℕ) → k < entry.event → lines_before (skipped ++ entry ∷ []) k ≡ lines_before skipped k
lines_before-later skipped entry k lt = lines_before-push skipped entry k ∙ ap (λ b. cond b entry.lines (lines_before skipped k)) (lt-leb entry.event k lt)

from_zero : (k : ℕ) → 0 + k ≡ k
from_zero k = omega arith

pub length-events_in : (skipped : List Skipped) (stored : List StoredEvent) → length (events_in skipped stored) ≡ length stored
length-events_in skipped stored = length-map (enumerate_from 0 stored) (with_line skipped) ∙ length-enumerate_from 0 stored

pub stored_at : (skipped : List Skipped) (stored : List StoredEvent) (k : ℕ) (d : StoredEvent) → k < length stored → slice_get (events_in skipped stored) k ≡ Some (with_line skipped (k, get_or stored k d))
stored_at skipped stored k d below =
    slice_get-map (with_line skipped) (enumerate_from 0 stored) k
    ∙ ap (option_map (with_line skipped)) (slice_get-get_or (enumerate_from 0 stored) k (0, d) (omega (arith, below, length-enumerate_from 0 stored)) ∙ ap Some (get_or-enumerate_from 0 stored k (0, d) below))
    ∙ ap (λ n. Some (with_line skipped (n, get_or stored k d))) (from_zero k)

pub push_stored : (skipped : List Skipped) (stored : List StoredEvent) (s : StoredEvent) → events_in skipped (stored ++ s ∷ []) ≡ events_in skipped stored ++ with_line skipped (length stored, s) ∷ []
push_stored skipped stored s = ap (map (with_line skipped)) (enumerate_from-push 0 stored s ∙ ap (λ n. enumerate_from 0 stored ++ (n, s) ∷ []) (from_zero (length stored))) ∙ map-append (with_line skipped) (enumerate_from 0 stored) ((length stored, s) ∷ [])

-- an entry for a later event changes none
from_push : (skipped : List Skipped) (entry : Skipped) (n : ℕ) (stored : List StoredEvent) → n + length stored ≤ entry.event
    → map (with_line (skipped ++ entry ∷ [])) (enumerate_from n stored) ≡ map (with_line skipped) (enumerate_from n stored)
from_push skipped entry n [] le = refl
from_push skipped entry n (s ∷ stored) le =
    let same = lines_before-later skipped entry n (omega (arith, le)) in
    let rest = from_push skipped entry (n + 1) stored (omega (arith, le)) in
    λ i. record { thread = s.thread; op = op_for s.kind s.operand; line = n + same i + 1 } ∷ rest i

pub push_skipped : (skipped : List Skipped) (entry : Skipped) (stored : List StoredEvent) → length stored ≤ entry.event → events_in (skipped ++ entry ∷ []) stored ≡ events_in skipped stored
push_skipped skipped entry stored le = from_push skipped entry 0 stored (omega (arith, le))

pub all-push : {X : Type 0} (P : X → Type 0) (xs : List X) (x : X) → AllByRecursion P xs → P x → AllByRecursion P (xs ++ x ∷ [])
all-push P [] x all p = (p, tt)
all-push P (y ∷ xs) x all p = (all.0, all-push P xs x all.1 p)

pub all-at : {X : Type 0} (P : X → Type 0) (xs : List X) (k : ℕ) (x : X) → AllByRecursion P xs → slice_get xs k ≡ Some x → P x
all-at P [] k x all at = absurd cc
all-at P (y ∷ xs) zero x all at = (let same : y ≡ x = cc in subst P same all.0)
all-at P (y ∷ xs) (suc k) x all at = all-at P xs k x all.1 at

-- what is stored at k is event k
pub event_at : (skipped : List Skipped) (stored : List StoredEvent) (events : List Event) (k : ℕ) (s : StoredEvent) → events_in skipped stored ≡ events → k < length events → s ≡ get_or stored k s
    → slice_get events k ≡ Some (with_line skipped (k, s))
event_at skipped stored events k s is below at =
    ap (λ es. slice_get es k) (sym is) ∙ stored_at skipped stored k s (omega (arith, below, ap length is, length-events_in skipped stored)) ∙ ap (λ x. Some (with_line skipped (k, x))) (sym at)

-- one event more
pub pushed : (skipped more : List Skipped) (stored : List StoredEvent) (s : StoredEvent) (events : List Event) (line : ℕ)
    → events_in skipped stored ≡ events → events_in more stored ≡ events_in skipped stored → lines_before more (length stored) ≡ line - 1 - length stored → length stored < line
    → events_in more (stored ++ s ∷ []) ≡ events ++ record { thread = s.thread; op = op_for s.kind s.operand; line = line } ∷ []
pushed skipped more stored s events line is same noted below = grind (arith, common_steps, push_stored)
