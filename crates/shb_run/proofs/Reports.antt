-- The races of a report.
use Rattle.std.proofs.Common.{◌≡◌, ℕ, Bool, List, get_or, All, Contains, Option, sym, subst}
use Rattle.std.proofs.lemmas.List.Elements.{Contains-get_or}
use Rattle.shb_run.proofs.Words.{Choice, CutsBlocksOn, CutsReportOn, Event, IsReportOn, ListedBy, Race, These, TraceData, WritesReport, all_are_races}
use Rattle.shb_scan.proofs.OneScan.{races_listed as nearest_are_races}
use Rattle.shb_run.specs.declared.settings.Choice.TheVariants as choices

-- each pair that a report of this choice lists is a race
pub listed_are_races : (choice : Choice) (trace : TraceData) (races : List (ℕ × ℕ)) → ListedBy choice trace races → (i j : ℕ) → Contains races (i, j) → Race trace.events i j
listed_are_races choices.All trace races lists = all_are_races trace races lists
listed_are_races (choices.Nearest by_variable) trace races lists = nearest_are_races by_variable trace races lists

-- the events of the trace may have another name
pub races_listed : (choice : Choice) (trace : TraceData) (events : List Event) (races : List (ℕ × ℕ)) → events ≡ trace.events → ListedBy choice trace races → All (λ race. Race events race.0 race.1) races
races_listed choice trace events races same lists k d lt =
    let race = get_or races k d in
    subst (λ e. Race e race.0 race.1) (sym same) (listed_are_races choice trace races lists race.0 race.1 (Contains-get_or races k d lt))

-- a report on these races is one on the races of which they are known to be
module _ (Lists : TraceData → List (ℕ × ℕ) → Type 0) (ws : Bool) (trace : TraceData) (races : List (ℕ × ℕ)) (lists : Lists trace races) where
  abbrev known : (bytes : List ℕ) → IsReportOn (These races) ws trace bytes → IsReportOn Lists ws trace bytes
  known bytes report = record { races = report.races; blocks = report.blocks; races_are = subst (Lists trace) (sym report.races_are) lists; blocks_are = report.blocks_are; bytes_are = report.bytes_are }

  abbrev pub known_written : (old new : Option (List ℕ)) → WritesReport (These races) ws trace old new → WritesReport Lists ws trace old new
  known_written old new h = record { bytes = h.bytes; report = known h.bytes h.report; written = h.written }

  abbrev pub known_cut : (old new : Option (List ℕ)) → CutsReportOn (These races) ws trace old new → CutsReportOn Lists ws trace old new
  known_cut old new h = record { bytes = h.bytes; report = known h.bytes h.report; count = h.count; some_missing = h.some_missing; written = h.written }

  pub known_blocks : (old new : Option (List ℕ)) → CutsBlocksOn (These races) ws trace old new → CutsBlocksOn Lists ws trace old new
  known_blocks old new h = record { cut = known_cut old new h.cut; front = h.front }
