-- The sweep that marks what is SHB-below an event.
use Rattle.shb_orders.proofs.Words.{AreEach, Event, IsBelowPredCount, IsDisciplined, IsNumberOf, IsPred, IsRowOf, MarksFrom, ShbBelow, ShbEdge, cases_eq, cases_lt, common_steps, edge_earlier, event_of_thread, get_or-replicate, get_or_default, get_or_past, here, length-replicate, length-set, number_same, path_forward, set, thread_at}
use Rattle.std.proofs.Common.{◌≡◌, ◌≢◌, ℕ, ◌+◌, ◌<◌, ◌≤◌, ◌⊎◌, inl, inr, Bool, true, false, List, [], Some, length, get_or, sym, ◌∙◌, ap, arith, subst, get_or-set_same, get_or-set_other}
use Rattle.std.specs.Prelude.{◌↔◌, replicate, slice_get}
use Rattle.std.proofs.lemmas.Option.{slice_get_within, get_or_from_slice_get}
use Rattle.shb_lines.specs.events.Tests.{is_hb_rule}
use Rattle.shb_lines.proofs.events.Decide.{path_cases, pred_unique}

-- the test of an edge, of the events as the code reads them
pub rule_read : (trace : List Event) (a b : ℕ) (d x y : Event) (test : Bool) → slice_get trace a ≡ Some x → slice_get trace b ≡ Some y → test ≡ is_hb_rule x y → is_hb_rule (get_or trace a d) (get_or trace b d) ≡ test
rule_read trace a b d x y test at_a at_b is = ap (λ (e : Event). is_hb_rule e (get_or trace b d)) (get_or_from_slice_get trace a x d at_a) ∙ (ap (λ (e : Event). is_hb_rule x e) (get_or_from_slice_get trace b y d at_b) ∙ sym is)

-- a list of unmarked events
unmarked : (n k : ℕ) (xs : List Bool) → xs ≡ replicate n false → get_or xs k false ≡ false
unmarked n k xs same = grind (arith, common_steps, cases_lt, get_or-replicate, get_or_past, length-replicate)

-- before the sweep p alone is marked
pub marks_start : (trace : List Event) (p : ℕ) (xs : List Bool) → p < length trace → xs ≡ replicate (length trace) false → MarksFrom trace p p (set xs p true)
marks_start trace p xs within same = record {
  as_long = length-set xs p true ∙ total;
  exact = λ k low high. exact k low high (cases_eq k p);
  none_before = λ k lt. let ne : k ≢ p = (λ e. omega arith) in get_or-set_other xs p k true false ne ∙ unmarked (length trace) k xs same;
}
  where
    total : length xs ≡ length trace
    total = ap length same ∙ length-replicate (length trace) false

    exact : (k : ℕ) → p ≤ k → k < length trace → (k ≡ p) ⊎ (k ≡ p → ⊥) → (get_or (set xs p true) k false ≡ true) ↔ ShbBelow trace k p
    exact k low high (inl e) = (
      (λ h. subst (λ x. ShbBelow trace x p) (sym e) here),
      (λ path. ap (λ x. get_or (set xs p true) x false) e ∙ get_or-set_same xs p true false (let t = total in omega arith)),
    )
    exact k low high (inr ne) = (
      (λ h. let other = get_or-set_other xs p k true false ne in let no_mark = unmarked (length trace) k xs same in absurd (let f : ⊥ = cc in f)),
      (λ path. absurd (let le = path_forward trace k p path in ne (omega arith))),
    )

-- an event from which no edge leads to a marked one does not reach p
pub no_reach : (trace : List Event) (a p : ℕ) (xs : List Bool) → a < p → p < length trace → ((k : ℕ) → a < k → k < length trace → (get_or xs k false ≡ true) ↔ ShbBelow trace k p) → ((m : ℕ) → a < m → m < p + 1 → get_or xs m false ≡ true → ShbEdge trace a m → ⊥) → ShbBelow trace a p → ⊥
no_reach trace a p xs lt within known none path = go (path_cases trace a p path)
  where
    go : (a ≡ p) ⊎ ((c : ℕ) × ShbEdge trace a c × ShbBelow trace c p) → ⊥
    go (inl e) = omega arith
    go (inr found) =
        let c = found.0 in
        let later = edge_earlier trace a c found.1 in
        let low = path_forward trace c p found.2 in
        none c later (omega arith) ((known c later (omega arith)).1 found.2) found.1

-- the marks below its predecessor are the row of an event
pub row_from_marks : (trace : List Event) → IsDisciplined trace → (e p : ℕ) (marks row : List Bool) → IsPred trace p e → MarksFrom trace p 0 marks → row ≡ marks → IsRowOf trace e row
row_from_marks trace disciplined e p marks row pred below same = subst (IsRowOf trace e) (sym same) (record {
  as_long = below.as_long;
  exact = λ k lt. (
    (λ h. (p, pred, (below.exact k (omega arith) lt).0 h)),
    (λ h. (below.exact k (omega arith) lt).1 (subst (λ q. ShbBelow trace k q) (pred_unique trace disciplined h.0 p e h.1 pred) h.2)),
  );
})

pub row_without_pred : (trace : List Event) (e : ℕ) (marks row : List Bool) → ((p : ℕ) → IsPred trace p e → ⊥) → marks ≡ replicate (length trace) false → row ≡ marks → IsRowOf trace e row
row_without_pred trace e marks row none clear same = subst (IsRowOf trace e) (sym same) (record {
  as_long = ap length clear ∙ length-replicate (length trace) false;
  exact = λ k lt. (
    (λ h. let no_mark = unmarked (length trace) k marks clear in absurd (let f : ⊥ = cc in f)),
    (λ h. absurd (none h.0 h.1)),
  );
})

-- the marked events of a thread are those that are below the predecessor
pub count_from_row : (trace : List Event) (e t n : ℕ) (row : List Bool) → IsRowOf trace e row → IsNumberOf (λ k. (thread_at trace k ≡ Some t) × (get_or row k false ≡ true)) n → IsBelowPredCount trace t e n
count_from_row trace e t n row marks count = number_same _ _ n (λ k. (
  (λ h. (h.0, (marks.exact k (within k h.0)).0 h.1)),
  (λ h. (h.0, (marks.exact k (within k h.0)).1 h.1)),
)) count
  where
    within : (k : ℕ) → thread_at trace k ≡ Some t → k < length trace
    within k h = let d = event_of_thread trace k t h in slice_get_within trace k d.0 d.1

-- the order's answer, from its rows
pub count_from_rows : (trace seen : List Event) (rows : List (List Bool)) (item row : List Bool) (e t n : ℕ) → trace ≡ seen → AreEach (IsRowOf trace) (length trace) rows → e < length seen → item ≡ get_or rows e item → row ≡ item → IsNumberOf (λ k. (thread_at trace k ≡ Some t) × (get_or row k false ≡ true)) n → IsBelowPredCount seen t e n
count_from_rows trace seen rows item row e t n same has lt is shown count =
    let within : e < length trace = (let size = ap length same in omega (arith, size, lt)) in
    let there : get_or rows e [] ≡ row = get_or_default rows e [] item (let m = has.as_many in omega arith) ∙ sym is ∙ sym shown in
    subst (λ (tr : List Event). IsBelowPredCount tr t e n) same (count_from_row trace e t n row (subst (IsRowOf trace e) there (has.each e within)) count)
