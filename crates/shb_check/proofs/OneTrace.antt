-- Some lines have one trace.
use Rattle.std.proofs.Common.{◌≡◌, ℕ, List, sym, ◌∙◌}
use Rattle.shb_check.proofs.Words.{IsTraceOf, TraceData, tables_in}
use Rattle.shb_discipline.proofs.Numbering.{one_trace}

-- some lines have one trace, with its names and its lines
pub one_whole_trace : (lines : List (List ℕ)) (a b : TraceData) → IsTraceOf lines a → IsTraceOf lines b → a ≡ b
one_whole_trace lines a b of_a of_b =
    let events : a.events ≡ b.events = one_trace lines a b of_a of_b in
    let texts : a.lines ≡ b.lines = of_a.lines_are ∙ sym of_b.lines_are in
    let tables : tables_in a ≡ tables_in b = of_a.tables_are ∙ sym of_b.tables_are in
    λ i. record { events = events i; lines = texts i; threads = (tables i).threads; locks = (tables i).locks; variables = (tables i).variables }
