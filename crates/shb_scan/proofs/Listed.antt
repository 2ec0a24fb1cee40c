-- What was found in a text is what its scan lists.
use Rattle.std.proofs.Common.{◌≡◌, ℕ, List, All, length, sym, ap, subst, ◌∙◌}
use Rattle.shb_scan.proofs.Words.{AreSpots, Counts, FoundRace, FoundScan, HasRaceNames, IsFoundIn, IsRaceMadeOf, Numbering, ScanNames, TraceData, counts_in, counts_of, lines_of}
use Rattle.shb_scan.proofs.FoundNames.{races_have_names, races_made_of}

module _ (text : List ℕ) (found : FoundScan) (h : IsFoundIn text found) where
  abbrev numbering : Numbering
  numbering = found.reader.numbering

  pub counts_are : counts_in numbering ≡ counts_of h.trace
  counts_are = counted numbering.events (length numbering.threads) (length numbering.locks) (length numbering.variables) h.trace h.count_is (ap (λ t. length t.threads) h.names_are) (ap (λ t. length t.locks) h.names_are) (ap (λ t. length t.variables) h.names_are)
    where
      counted : (events threads locks variables : ℕ) (trace : TraceData) → events ≡ length trace.events → threads ≡ length trace.threads → locks ≡ length trace.locks → variables ≡ length trace.variables
          → ◌≡◌ {A = Counts} (record { events = events; threads = threads; locks = locks; variables = variables }) (counts_of trace)
      counted events threads locks variables trace e t l v = cc

  module _ (names : ScanNames) (threads : names.threads.now ≡ numbering.threads) (variables : names.variables.now ≡ numbering.variables) (locations : names.locations.now ≡ found.locations) where
    located : AreSpots h.trace names.locations.now h.spots
    located = subst (λ l. AreSpots h.trace l h.spots) (sym locations) h.located

    pub made_of : (items : List FoundRace) → items ≡ found.races.items → All (IsRaceMadeOf names h.trace) items
    made_of items same = subst (All (IsRaceMadeOf names h.trace)) (sym same)
        (races_made_of (lines_of text) names h.trace h.spots h.trace_is (threads ∙ ap (λ t. t.threads) h.names_are) (variables ∙ ap (λ t. t.variables) h.names_are) located found.races.items h.accesses)

    pub have_names : (items : List FoundRace) → items ≡ found.races.items → All (HasRaceNames names) items
    have_names items same = subst (All (HasRaceNames names)) (sym same)
        (races_have_names (lines_of text) names h.trace h.spots h.trace_is (threads ∙ ap (λ t. t.threads) h.names_are) (variables ∙ ap (λ t. t.variables) h.names_are) located found.races.items h.accesses)
