-- A pair with a schedule is a race: a schedule is closed under SHB edges and has the predecessors of both accesses.
use Rattle.std.proofs.lemmas.Grind.{common_steps}
use Rattle.std.proofs.Common.{◌≡◌, ℕ, ◌<◌, ◌⊎◌, inl, inr, List, subst, sym, arith}
use Rattle.std.specs.Prelude.{Contains}
use Rattle.shb_lines.specs.declared.event.Event.{Event}
use Rattle.shb_lines.specs.events.Order.{ShbEdge, happens_before, read_from, here, step, ShbBelow, IsPred, in_thread, by_fork}
use Rattle.shb_lines.specs.events.Race.{Conflict, Race}
use Rattle.shb_lines.specs.events.Schedule.{IsCorrectReordering, KeepsHb, IsNext, IsSchedule, StandsBefore}
use Rattle.shb_lines.proofs.events.Indices.{contains_first}

stands_in : (s : List ℕ) (a b : ℕ) → (a ≡ b) ⊎ StandsBefore s a b → Contains s b → Contains s a
stands_in s a b (inl e) h = subst (λ x. Contains s x) (sym e) h
stands_in s a b (inr before) h = contains_first s a b before

edge_closed : (trace : List Event) (s : List ℕ) → IsCorrectReordering trace s → KeepsHb trace s → (a b : ℕ) → ShbEdge trace a b → Contains s b → Contains s a
edge_closed trace s correct keeps a b (happens_before e) h = stands_in s a b (keeps a b (step e here) h) h
edge_closed trace s correct keeps a b (read_from w) h = contains_first s a b ((correct.reads a b h).1 w).earlier

-- a schedule is closed under paths of SHB edges
path_closed : (trace : List Event) (s : List ℕ) → IsCorrectReordering trace s → KeepsHb trace s → (a b : ℕ) → ShbBelow trace a b → Contains s b → Contains s a
path_closed trace s correct keeps a b here h = h
path_closed trace s correct keeps a c (step {b = m} e rest) h = edge_closed trace s correct keeps a m e (path_closed trace s correct keeps m c rest h)

pred_in : (trace : List Event) (s : List ℕ) (p e : ℕ) → IsNext trace s e → IsPred trace p e → Contains s p
pred_in trace s p e next (in_thread t at_p at_e lt none) = next.thread_done t p lt at_p at_e
pred_in trace s p e next (by_fork t at_p at_e none) = next.thread_forked t p at_p at_e

pub race_of_schedule : (trace : List Event) (s : List ℕ) (i j : ℕ) → Conflict trace i j → i < j → IsSchedule trace s i j → Race trace i j
race_of_schedule trace s i j conflict earlier schedule = grind (arith, common_steps, path_closed, pred_in)
