-- Events read at an index of a slice, as the code reads them.
use Rattle.std.proofs.lemmas.Grind.{common_steps}
use Rattle.std.proofs.Common.{◌≡◌, ◌≢◌, ℕ, ◌<◌, true, false, List, Some, length, get_or, sym, ◌∙◌, ap, arith}
use Rattle.std.proofs.lemmas.Option.{slice_get-get_or}
use Rattle.shb_lines.specs.declared.event.Event.{Event}
use Rattle.shb_lines.specs.declared.event.Op.{Op}
use Rattle.shb_lines.specs.events.Events.{thread_at, op_at}
use Rattle.shb_lines.specs.events.Tests.{is_hb_rule}
use Rattle.shb_lines.specs.declared.event.Sizes.{Sizes}
use Rattle.shb_lines.specs.events.Sizes.{IsOpWithin, IsWithin}
use Rattle.shb_lines.specs.events.Order.{LastWrite, ShbEdge, happens_before, read_from}
use Rattle.shb_lines.proofs.events.Decide.{last_write_unique}
use Rattle.shb_lines.proofs.events.EdgeTests.{rule_from_test, test_from_rule}
use Rattle.shb_lines.proofs.events.Events.{event_of_op, event_of_thread, thread_is, op_is}

pub thread_item : (trace : List Event) (k : ℕ) (d : Event) → k < length trace → thread_at trace k ≡ Some (get_or trace k d).thread
thread_item trace k d lt = thread_is trace k (get_or trace k d) (slice_get-get_or trace k d lt)

pub op_item : (trace : List Event) (k : ℕ) (d : Event) → k < length trace → op_at trace k ≡ Some (get_or trace k d).op
op_item trace k d lt = op_is trace k (get_or trace k d) (slice_get-get_or trace k d lt)

-- the thread and the operation of an event are within the sizes
pub thread_within : (trace : List Event) (sizes : Sizes) (k t : ℕ) → IsWithin trace sizes → thread_at trace k ≡ Some t → t < sizes.threads
thread_within trace sizes k t within of_k = grind (arith, common_steps, event_of_thread)

pub op_within_at : (trace : List Event) (sizes : Sizes) (k : ℕ) (op : Op) → IsWithin trace sizes → op_at trace k ≡ Some op → IsOpWithin sizes op
op_within_at trace sizes k op within is = grind (arith, common_steps, event_of_op)

-- the same of an operation that is known
pub op_known : (trace : List Event) (k : ℕ) (op known : Op) → op_at trace k ≡ Some op → op ≡ known → op_at trace k ≡ Some known
op_known trace k op known at is = at ∙ ap (λ o. Some o) is

pub op_other_at : (trace : List Event) (k : ℕ) (op other : Op) → op_at trace k ≡ Some op → (op ≡ other → ⊥) → op_at trace k ≢ Some other
op_other_at trace k op other at differs is = differs (let s : Some op ≡ Some other = sym at ∙ is in cc)

-- the test of an edge
pub edge_by_rule : (trace : List Event) (a b : ℕ) (d : Event) → a < b → b < length trace → is_hb_rule (get_or trace a d) (get_or trace b d) ≡ true → ShbEdge trace a b
edge_by_rule trace a b d lt within h = happens_before (record { earlier = lt; rule = rule_from_test trace a b _ _ (slice_get-get_or trace a d (omega arith)) (slice_get-get_or trace b d within) h })

edge_is_write : (trace : List Event) (a b : ℕ) (d : Event) → a < b → b < length trace → is_hb_rule (get_or trace a d) (get_or trace b d) ≡ false → ShbEdge trace a b → LastWrite trace a b
edge_is_write trace a b d lt within h (read_from w) = w
edge_is_write trace a b d lt within h (happens_before e) = let g = test_from_rule trace a b _ _ (slice_get-get_or trace a d (omega arith)) (slice_get-get_or trace b d within) e.rule in absurd (let f : ⊥ = cc in f)

pub edge_by_write : (trace : List Event) (a b w : ℕ) (d : Event) → a < b → b < length trace → is_hb_rule (get_or trace a d) (get_or trace b d) ≡ false → LastWrite trace w b → ShbEdge trace a b → w ≡ a
edge_by_write trace a b w d lt within h last edge = last_write_unique trace w a b last (edge_is_write trace a b d lt within h edge)

pub no_edge : (trace : List Event) (a b : ℕ) (d : Event) → a < b → b < length trace → is_hb_rule (get_or trace a d) (get_or trace b d) ≡ false → ((w : ℕ) → LastWrite trace w b → ⊥) → ShbEdge trace a b → ⊥
no_edge trace a b d lt within h none edge = none a (edge_is_write trace a b d lt within h edge)
