-- A line that is taken is the next one of the text, and its fault the first of the text.
use Rattle.std.proofs.Common.{◌≡◌, ◌≢◌, ◌⊎◌, inl, inr, ◌+◌, ◌==◌, ◌<◌, ◌≤◌, ℕ, Bool, true, false, cond, zero, suc, List, [], ◌∷◌, ◌++◌, length, map, take, slice_index_or, Option, None, Some, refl, sym, ap, subst, ◌∙◌, arith, append_assoc, append-nil, length-append}
use Rattle.std.specs.Io.KnownBytes.{IsAtEnd}
use Rattle.std.specs.List.{AllByRecursion, onto_first}
use Rattle.std.proofs.lemmas.Bool.{cases_lt, ne_eqb}
use Rattle.std.proofs.lemmas.Grind.{flat_map-append}
use Rattle.std.proofs.lemmas.List.{get_or_append_left, map-append, take-append-le}
use Rattle.std.proofs.lemmas.List.Splits.{slice_split-cons_no, slice_split_at, slice_split_none}
use Rattle.std.proofs.Math.Seq.{get_or-append_seam, take-append_seam}
use Rattle.shb_lines.specs.declared.event_reader.EventReader.{EventReader}
use Rattle.shb_lines.specs.declared.event_reader.Taken.{Taken}
use Rattle.shb_lines.specs.declared.event_reader.Taken.TheVariants as takens
use Rattle.shb_lines.specs.declared.fault.Fault.{Fault}
use Rattle.shb_lines.specs.declared.fault.Fault.TheVariants as faults
use Rattle.shb_lines.specs.declared.limits.Limits.{Limits}
use Rattle.shb_lines.specs.text.Faults.{HasFault, HasLineFault, HasNoLineFaultBefore, IsFirstLineFault, PassesLimit, number_of}
use Rattle.shb_lines.specs.text.Grammar.{Lacks, NamedEvent}
use Rattle.shb_lines.specs.text.Lines.{BeginsLong, Gives, IsShort, LinesState, Moves}
use Rattle.shb_lines.proofs.text.LinesRead.{moves_more, moves_none}
use Rattle.shb_lines.specs.text.Numbering.{HasNumbered}
use Rattle.shb_lines.specs.text.Numbers.{events_of}
use Rattle.shb_lines.specs.text.Taken.{AreFaultless, AreLinesOf, HasTaken, IsTaken, IsTakenLine, IsTakenNext, fed, rest_of, without_text_limit}
use Rattle.shb_lines.specs.text.Text.{LocatedEvent, lines_of, trace_of}
use Rattle.shb_lines.specs.Lowest.{IsLowest}
use Rattle.shb_lines.proofs.text.FirstFault.{IsLowest-same}
use Rattle.shb_lines.proofs.text.TraceLemmas.{trace_of-none, trace_of-some}

no_feed : (line : List ℕ) → Lacks 10 line → (k : ℕ) (d : ℕ) → k < length line → (slice_index_or line k d == 10) ≡ false
no_feed line lacks k d within = ne_eqb _ _ (lacks k d within)

-- the lines of a text that begins with some lines
pub lines_of_fed : (lines : List (List ℕ)) (rest : List ℕ) → AllByRecursion (Lacks 10) lines → lines_of (fed lines ++ rest) ≡ lines ++ lines_of rest
lines_of_fed [] rest all = refl
lines_of_fed (line ∷ lines) rest all =
    ap lines_of (append_assoc (line ++ 10 ∷ []) (fed lines) rest ∙ append_assoc line (10 ∷ []) (fed lines ++ rest))
    ∙ slice_split_at (λ b. b == 10) line 10 (fed lines ++ rest) (no_feed line all.0) refl ∙ ap (λ ls. line ∷ ls) (lines_of_fed lines rest all.1)

fed_push : (lines : List (List ℕ)) (line : List ℕ) → fed (lines ++ line ∷ []) ≡ fed lines ++ (line ++ 10 ∷ [])
fed_push lines line = flat_map-append (λ (l : List ℕ). l ++ 10 ∷ []) lines (line ∷ []) ∙ ap (λ x. fed lines ++ x) (append-nil (line ++ 10 ∷ []))

all_push : {X : Type 0} (P : X → Type 0) (xs : List X) (x : X) → AllByRecursion P xs → P x → AllByRecursion P (xs ++ x ∷ [])
all_push P [] x all here = (here, tt)
all_push P (y ∷ xs) x all here = (all.0, all_push P xs x all.1 here)

-- a line more that has no fault
faultless_push : (limits : Limits) (lines : List (List ℕ)) (line : List ℕ) → AreFaultless limits lines → IsLowest number_of (HasLineFault limits ⊥ (events_of lines) line) None → AreFaultless limits (lines ++ line ∷ [])
faultless_push limits lines line all none k fault within has = by (cases_lt k (length lines))
  where
    at : (front : List (List ℕ)) (own : List ℕ) → take k (lines ++ line ∷ []) ≡ front → slice_index_or (lines ++ line ∷ []) k [] ≡ own → HasLineFault limits ⊥ (events_of front) own fault
    at front own front_is own_is =
        subst (λ l. HasLineFault limits ⊥ (events_of front) l fault) own_is (subst (λ ls. HasLineFault limits ⊥ (events_of ls) (slice_index_or (lines ++ line ∷ []) k []) fault) front_is has)

    by : (k < length lines) ⊎ (length lines ≤ k) → ⊥
    by (inl below) = all k fault below (at (take k lines) (slice_index_or lines k []) (take-append-le k lines (line ∷ []) (omega arith)) (get_or_append_left lines (line ∷ []) [] k below))
    by (inr past) =
        let last : length lines ≡ k = omega (arith, within, length-append lines (line ∷ [])) in
        none fault (at lines line (ap (λ n. take n (lines ++ line ∷ [])) (sym last) ∙ take-append_seam lines (line ∷ [])) (ap (λ n. slice_index_or (lines ++ line ∷ []) n []) (sym last) ∙ get_or-append_seam lines line [] []))

-- no text is too long under limits without one of the text
to_bare : (limits : Limits) (text : List ℕ) (P : Type 0) (before : List NamedEvent) (line : List ℕ) → (P → ⊥) → (f : Fault) → HasLineFault (without_text_limit limits text) P before line f → HasLineFault limits ⊥ before line f
to_bare limits text P before line never faults.TextTooLong h = never h
to_bare limits text P before line never _ h = h

from_bare : (limits : Limits) (text : List ℕ) (P : Type 0) (before : List NamedEvent) (line : List ℕ) (f : Fault) → HasLineFault limits ⊥ before line f → HasLineFault (without_text_limit limits text) P before line f
from_bare limits text P before line faults.TextTooLong h = absurd h
from_bare limits text P before line _ h = h

module _ (limits : Limits) (text : List ℕ) (lines rest : List (List ℕ)) (split : lines_of text ≡ lines ++ rest) where
  never : (i : ℕ) → PassesLimit (without_text_limit limits text) text i → ⊥
  never i p = omega (arith, p.2)

  front_is : (i : ℕ) → i ≤ length lines → take i (lines_of text) ≡ take i lines
  front_is i le = ap (take i) split ∙ take-append-le i lines rest le

  -- the lines before have no fault in the text
  pub faultless_in : AreFaultless limits lines → HasNoLineFaultBefore (without_text_limit limits text) text (length lines)
  faultless_in all i fault below has =
      let before = events_of (take i (lines_of text)) in
      let own = slice_index_or (lines_of text) i [] in
      let bare = to_bare limits text (PassesLimit (without_text_limit limits text) text i) before own (never i) fault has in
      let own_is : own ≡ slice_index_or lines i [] = ap (λ ls. slice_index_or ls i []) split ∙ get_or_append_left lines rest [] i below in
      all i fault below (subst (λ l. HasLineFault limits ⊥ (events_of (take i lines)) l fault) own_is (subst (λ ls. HasLineFault limits ⊥ (events_of ls) own fault) (front_is i (omega (arith, below))) bare))

  pub front_whole : take (length lines) (lines_of text) ≡ lines
  front_whole = ap (take (length lines)) split ∙ take-append_seam lines rest

-- the fault of the line after these is the first of the text
pub first_fault : (limits : Limits) (text : List ℕ) (lines : List (List ℕ)) (line : List ℕ) (more : List (List ℕ)) (fault : Fault) → lines_of text ≡ lines ++ (line ∷ more) → AreFaultless limits lines
    → IsLowest number_of (HasLineFault limits ⊥ (events_of lines) line) (Some fault)
    → IsFirstLineFault (without_text_limit limits text) text (length lines) fault × (take (length lines) (lines_of text) ≡ lines)
first_fault limits text lines line more fault split all lowest =
    let n = length lines in
    let front = front_whole limits text lines (line ∷ more) split in
    let own_is : slice_index_or (lines_of text) n [] ≡ line = ap (λ ls. slice_index_or ls n []) split ∙ get_or-append_seam lines line more [] in
    let past = PassesLimit (without_text_limit limits text) text n in (
      record {
        within = omega (arith, ap length split, length-append lines (line ∷ more));
        lowest = IsLowest-same (HasLineFault limits ⊥ (events_of lines) line) (HasFault (without_text_limit limits text) text n)
            (λ f has. from_bare limits text past (events_of (take n (lines_of text))) (slice_index_or (lines_of text) n []) f
            (subst (λ l. HasLineFault limits ⊥ (events_of (take n (lines_of text))) l f) (sym own_is) (subst (λ ls. HasLineFault limits ⊥ (events_of ls) line f) (sym front) has)))
            (λ f has. subst (λ l. HasLineFault limits ⊥ (events_of lines) l f) own_is (subst (λ ls. HasLineFault limits ⊥ (events_of ls) (slice_index_or (lines_of text) n []) f) front
            (to_bare limits text past (events_of (take n (lines_of text))) (slice_index_or (lines_of text) n []) (never limits text lines (line ∷ more) split n) f has)))
            (Some fault) lowest;
        earlier = faultless_in limits text lines (line ∷ more) split all;
      },
      front,
    )

-- the first line of a text
pub record Begins (text : List ℕ) (len : ℕ) : Type 0 where
  pub line : List ℕ
  pub more : List (List ℕ)
  pub split : lines_of text ≡ line ∷ more
  pub long : len ≤ length line

begins : (text : List ℕ) → Begins text 0
begins [] = record { line = []; more = []; split = refl; long = omega arith }
begins (x ∷ text) =
    let first = by (x == 10) (begins text) in
    record { line = first.0; more = first.1; split = first.2; long = omega arith }
  where
    by : (b : Bool) → Begins text 0 → (line : List ℕ) × (more : List (List ℕ)) × (cond b ([] ∷ lines_of text) (onto_first x (lines_of text)) ≡ line ∷ more)
    by true rest = ([], lines_of text, refl)
    by false rest = (x ∷ rest.line, rest.more, ap (onto_first x) rest.split)

-- a text that begins without a line feed has a first line that is as long
pub begins_long : (front rest : List ℕ) → Lacks 10 front → Begins (front ++ rest) (length front)
begins_long [] rest lacks = begins rest
begins_long (x ∷ front) rest lacks =
    let first = begins_long front rest (λ k d within. lacks (suc k) d (omega (arith, within))) in
    record {
      line = x ∷ first.line;
      more = first.more;
      split = slice_split-cons_no (λ b. b == 10) x (front ++ rest) (ne_eqb x 10 (lacks zero 0 (omega arith))) ∙ ap (onto_first x) first.split;
      long = omega (arith, first.long);
    }

-- a line above the limit has this fault
too_long : (limits : Limits) (before : List NamedEvent) (line : List ℕ) → limits.line < length line → IsLowest number_of (HasLineFault limits ⊥ before line) (Some faults.LineTooLong)
too_long limits before line long = (long, least)
  where
    least : (g : Fault) → HasLineFault limits ⊥ before line g → 2 ≤ number_of g
    least faults.TextTooLong h = absurd h
    least _ h = omega arith

-- all bytes of a source that has ended were read
at_end : (left : Option (List ℕ)) → IsAtEnd left → rest_of left ≡ []
at_end None ended = refl
at_end (Some rest) ended = ended

-- what a line is taken for, where the lines of the text go on with it
module _ (limits : Limits) (read : List ℕ) (lines : List (List ℕ)) (left : Option (List ℕ)) (new : EventReader) (more : List (List ℕ))
    (are : AreLinesOf new.ended read (lines ++ new.lines.line ∷ []) new.lines.held left) (split : lines_of (read ++ rest_of left) ≡ lines ++ (new.lines.line ∷ more))
    (each : AllByRecursion (Lacks 10) lines) (lacks : Lacks 10 new.lines.line) (faultless : AreFaultless limits lines) (count : new.line ≡ length lines + 1) where
  abbrev line : List ℕ
  line = new.lines.line

  abbrev text : List ℕ
  text = read ++ rest_of left

  count_more : new.line ≡ length (lines ++ line ∷ [])
  count_more = omega (arith, count, length-append lines (line ∷ []))

  pub taken_as : (taken : Taken) → IsTakenLine limits (events_of lines) line new.numbering taken → IsTaken limits read lines left new taken
  taken_as takens.Nothing h =
      let same = trace_of-none lines line h.meaning_is in (
        record {
          lines_are = are;
          one_line_each = all_push (Lacks 10) lines line each lacks;
          numbered = subst (λ es. HasNumbered es new.numbering) (ap (map (λ (e : LocatedEvent). e.event)) (sym same)) h.numbered;
          faultless = faultless_push limits lines line faultless h.faultless;
          line_is = count_more;
        },
        same,
      )
  taken_as (takens.Step step) h =
      let trace = trace_of-some lines line h.named h.meaning_is in
      let events : events_of (lines ++ line ∷ []) ≡ events_of lines ++ h.named ∷ [] =
      ap (map (λ (e : LocatedEvent). e.event)) trace ∙ map-append (λ (e : LocatedEvent). e.event) (trace_of lines) _ in (
        record {
          lines_are = are;
          one_line_each = all_push (Lacks 10) lines line each lacks;
          numbered = subst (λ es. HasNumbered es new.numbering) (sym events) h.numbered;
          faultless = faultless_push limits lines line faultless h.faultless;
          line_is = count_more;
        },
        (h.named, h.step_is, events),
      )
  taken_as (takens.Fault fault) h = let first = first_fault limits text lines line more fault split faultless h in (first.0, first.1, count)
  taken_as takens.End h = absurd h

-- after a line with its line feed the lines of the text go on with it
pub fed_more : (read : List ℕ) (lines : List (List ℕ)) (held bytes full line now : List ℕ) → read ≡ fed lines ++ held → full ≡ held ++ bytes → full ≡ line ++ 10 ∷ now → read ++ bytes ≡ fed (lines ++ line ∷ []) ++ now
fed_more read lines held bytes full line now before joined next =
    ap (λ r. r ++ bytes) before ∙ append_assoc (fed lines) held bytes ∙ ap (λ x. fed lines ++ x) (sym joined ∙ next ∙ sym (append_assoc line (10 ∷ []) now))
    ∙ sym (append_assoc (fed lines) (line ++ 10 ∷ []) now) ∙ ap (λ x. x ++ now) (sym (fed_push lines line))

pub split_fed : (text : List ℕ) (lines : List (List ℕ)) (line now rest : List ℕ) → text ≡ fed (lines ++ line ∷ []) ++ now → AllByRecursion (Lacks 10) lines → Lacks 10 line
    → lines_of (text ++ rest) ≡ lines ++ (line ∷ lines_of (now ++ rest))
split_fed bytes lines line now rest is each lacks =
    ap lines_of (ap (λ t. t ++ rest) is ∙ append_assoc (fed (lines ++ line ∷ [])) now rest)
    ∙ lines_of_fed (lines ++ line ∷ []) (now ++ rest) (all_push (Lacks 10) lines line each lacks) ∙ append_assoc lines (line ∷ []) (lines_of (now ++ rest))

-- the last line
pub split_last : (read : List ℕ) (lines : List (List ℕ)) (held bytes full line : List ℕ) → read ≡ fed lines ++ held → full ≡ held ++ bytes → full ≡ line → AllByRecursion (Lacks 10) lines → Lacks 10 line → lines_of (read ++ bytes) ≡ lines ++ line ∷ []
split_last read lines held bytes full line before joined next each lacks =
    ap lines_of (ap (λ r. r ++ bytes) before ∙ append_assoc (fed lines) held bytes ∙ ap (λ x. fed lines ++ x) (sym joined ∙ next))
    ∙ lines_of_fed lines line each ∙ ap (λ ls. lines ++ ls) (slice_split_none (λ b. b == 10) line (no_feed line lacks))

-- the end
pub taken_end : (limits : Limits) (read : List ℕ) (lines : List (List ℕ)) (left : Option (List ℕ)) (reader : EventReader) → reader.ended ≡ true → HasTaken limits read lines left reader → IsTaken limits (read ++ []) lines left reader takens.End
taken_end limits read lines left reader ended h =
    let are = subst (λ b. AreLinesOf b read lines reader.lines.held left) ended h.lines_are in
    let text : List ℕ = (read ++ []) ++ rest_of left in
    let text_is : text ≡ read = ap (λ r. (read ++ []) ++ r) (at_end left are.1) ∙ append-nil (read ++ []) ∙ append-nil read in
    let all : lines_of text ≡ lines = ap lines_of text_is ∙ are.0 in
    let split : lines_of text ≡ lines ++ [] = all ∙ sym (append-nil lines) in
    let faultless = subst (λ n. HasNoLineFaultBefore (without_text_limit limits text) text n) (ap length (sym all)) (faultless_in limits text lines [] split h.faultless) in
    (all, faultless, are.1, subst (λ r. HasTaken limits r lines left reader) (sym (append-nil read)) h)

-- a line that is too long
pub taken_too_long : (limits : Limits) (read : List ℕ) (lines : List (List ℕ)) (left : Option (List ℕ)) (new : EventReader) (held bytes full : List ℕ) → read ≡ fed lines ++ held → full ≡ held ++ bytes → BeginsLong limits.line full → AllByRecursion (Lacks 10) lines → AreFaultless limits lines → new.line ≡ length lines + 1
    → IsTaken limits (read ++ bytes) lines left new (takens.Fault faults.LineTooLong)
taken_too_long limits read lines left new held bytes full before joined long each faultless counted =
    let rest : List ℕ = long.rest ++ rest_of left in
    let text_is : (read ++ bytes) ++ rest_of left ≡ fed lines ++ (long.front ++ rest) =
    ap (λ r. (r ++ bytes) ++ rest_of left) before ∙ ap (λ x. x ++ rest_of left) (append_assoc (fed lines) held bytes ∙ ap (λ x. fed lines ++ x) (sym joined ∙ long.joined))
    ∙ append_assoc (fed lines) (long.front ++ long.rest) (rest_of left) ∙ ap (λ x. fed lines ++ x) (append_assoc long.front long.rest (rest_of left)) in
    let first = begins_long long.front rest long.one_line in
    let fault = first_fault limits ((read ++ bytes) ++ rest_of left) lines first.line first.more faults.LineTooLong
    (ap lines_of text_is ∙ lines_of_fed lines (long.front ++ rest) each ∙ ap (λ ls. lines ++ ls) first.split) faultless
    (too_long limits (events_of lines) first.line (omega (arith, long.long, first.long))) in
    (fault.0, fault.1, counted)

-- a line with its line feed
pub line_taken : (limits : Limits) (read : List ℕ) (lines : List (List ℕ)) (left0 left1 : Option (List ℕ)) (old : EventReader) (mid : LinesState) (new : EventReader) (g0 g1 : ℕ) (full : List ℕ) (n : ℕ) → (given : Gives left0 left1 g0 g1 old.lines.held full n)
    → IsShort limits.line mid.line × (full ≡ mid.line ++ 10 ∷ mid.held) → HasTaken limits read lines left0 old → old.ended ≡ false → new.lines ≡ mid → new.line ≡ old.line + 1 → new.ended ≡ false → (taken : Taken)
    → ((before : List NamedEvent) → HasNumbered before old.numbering → length mid.line ≤ limits.line → IsTakenLine limits before mid.line new.numbering taken) → IsTaken limits (read ++ given.bytes) lines left1 new taken
line_taken limits read lines left0 left1 old mid new g0 g1 full n given is h was same counted ended taken found =
    let before : read ≡ fed lines ++ old.lines.held = subst (λ b. AreLinesOf b read lines old.lines.held left0) was h.lines_are in
    let next : full ≡ new.lines.line ++ 10 ∷ new.lines.held = subst (λ (s : LinesState). full ≡ s.line ++ 10 ∷ s.held) (sym same) is.1 in
    let lacks : Lacks 10 new.lines.line = subst (λ (s : LinesState). Lacks 10 s.line) (sym same) is.0.one_line in
    let fed_is = fed_more read lines old.lines.held given.bytes full new.lines.line new.lines.held before given.joined next in
    taken_as limits (read ++ given.bytes) lines left1 new (lines_of (new.lines.held ++ rest_of left1))
    (subst (λ b. AreLinesOf b (read ++ given.bytes) (lines ++ new.lines.line ∷ []) new.lines.held left1) (sym ended) fed_is)
    (split_fed (read ++ given.bytes) lines new.lines.line new.lines.held (rest_of left1) fed_is h.one_line_each lacks) h.one_line_each lacks h.faultless (omega (arith, counted, h.line_is))
    taken (subst (λ (s : LinesState). IsTakenLine limits (events_of lines) s.line new.numbering taken) (sym same) (found (events_of lines) h.numbered is.0.short))

-- the last line
pub last_taken : (limits : Limits) (read : List ℕ) (lines : List (List ℕ)) (left0 left1 : Option (List ℕ)) (old : EventReader) (mid : LinesState) (new : EventReader) (g0 g1 : ℕ) (full : List ℕ) (n : ℕ) → (given : Gives left0 left1 g0 g1 old.lines.held full n)
    → IsShort limits.line mid.line × (full ≡ mid.line) × (mid.held ≡ []) × IsAtEnd left1 → HasTaken limits read lines left0 old → old.ended ≡ false → new.lines ≡ mid → new.line ≡ old.line + 1 → new.ended ≡ true → (taken : Taken)
    → ((before : List NamedEvent) → HasNumbered before old.numbering → length mid.line ≤ limits.line → IsTakenLine limits before mid.line new.numbering taken) → IsTaken limits (read ++ given.bytes) lines left1 new taken
last_taken limits read lines left0 left1 old mid new g0 g1 full n given is h was same counted ended taken found =
    let before : read ≡ fed lines ++ old.lines.held = subst (λ b. AreLinesOf b read lines old.lines.held left0) was h.lines_are in
    let next : full ≡ new.lines.line = subst (λ (s : LinesState). full ≡ s.line) (sym same) is.1 in
    let lacks : Lacks 10 new.lines.line = subst (λ (s : LinesState). Lacks 10 s.line) (sym same) is.0.one_line in
    let all : lines_of (read ++ given.bytes) ≡ lines ++ new.lines.line ∷ [] = split_last read lines old.lines.held given.bytes full new.lines.line before given.joined next h.one_line_each lacks in
    let text_is : (read ++ given.bytes) ++ rest_of left1 ≡ read ++ given.bytes = ap (λ r. (read ++ given.bytes) ++ r) (at_end left1 is.3) ∙ append-nil (read ++ given.bytes) in
    taken_as limits (read ++ given.bytes) lines left1 new []
    (subst (λ b. AreLinesOf b (read ++ given.bytes) (lines ++ new.lines.line ∷ []) new.lines.held left1) (sym ended) (all, is.3))
    (ap lines_of text_is ∙ all) h.one_line_each lacks h.faultless (omega (arith, counted, h.line_is))
    taken (subst (λ (s : LinesState). IsTakenLine limits (events_of lines) s.line new.numbering taken) (sym same) (found (events_of lines) h.numbered is.0.short))

-- nothing was taken yet
pub taken_none : (limits : Limits) (left : Option (List ℕ)) (reader : EventReader) → reader.ended ≡ false → reader.lines.held ≡ [] → reader.line ≡ 0 → HasNumbered [] reader.numbering → HasTaken limits [] [] left reader
taken_none limits left reader open_yet empty none numbered = record {
  lines_are = subst (λ b. AreLinesOf b [] [] reader.lines.held left) (sym open_yet) (sym empty);
  one_line_each = tt;
  numbered = numbered;
  faultless = λ k f within has. omega (arith, within);
  line_is = none;
}

-- what was taken so far gave nothing
pub record HasPassed (limits : Limits) (read : List ℕ) (lines : List (List ℕ)) (l0 l1 : Option (List ℕ)) (g0 g1 : ℕ) (reader : EventReader) : Type 0 where
  pub more : List ℕ
  pub empty : List (List ℕ)
  pub moves : Moves l0 l1 g0 g1 more
  pub same : trace_of (lines ++ empty) ≡ trace_of lines
  pub taken : HasTaken limits (read ++ more) (lines ++ empty) l1 reader

pub passed_none : (limits : Limits) (read : List ℕ) (lines : List (List ℕ)) (left : Option (List ℕ)) (g : ℕ) (reader : EventReader) → HasTaken limits read lines left reader → HasPassed limits read lines left left g g reader
passed_none limits read lines left g reader h = record {
  more = [];
  empty = [];
  moves = moves_none left g;
  same = ap trace_of (append-nil lines);
  taken = subst (λ r. HasTaken limits r (lines ++ []) left reader) (sym (append-nil read)) (subst (λ ls. HasTaken limits read ls left reader) (sym (append-nil lines)) h);
}

-- what is taken after that
pub taken_after : (limits : Limits) (read : List ℕ) (lines : List (List ℕ)) (l0 l1 l2 : Option (List ℕ)) (g0 g1 g2 : ℕ) (old new : EventReader) (taken : Taken) → HasPassed limits read lines l0 l1 g0 g1 old
    → ((r : List ℕ) (ls : List (List ℕ)) → HasTaken limits r ls l1 old → (more : List ℕ) × Moves l1 l2 g1 g2 more × IsTaken limits (r ++ more) ls l2 new taken)
    → (more : List ℕ) × (empty : List (List ℕ)) × Moves l0 l2 g0 g2 more × (trace_of (lines ++ empty) ≡ trace_of lines) × IsTaken limits (read ++ more) (lines ++ empty) l2 new taken
taken_after limits read lines l0 l1 l2 g0 g1 g2 old new taken h next =
    let then = next (read ++ h.more) (lines ++ h.empty) h.taken in
    (h.more ++ then.0, h.empty, moves_more l0 l1 l2 g0 g1 g2 h.more then.0 h.moves then.1, h.same, subst (λ r. IsTaken limits r (lines ++ h.empty) l2 new taken) (append_assoc read h.more then.0) then.2)

pub passed_more : (limits : Limits) (read : List ℕ) (lines : List (List ℕ)) (l0 l1 l2 : Option (List ℕ)) (g0 g1 g2 : ℕ) (old new : EventReader) → HasPassed limits read lines l0 l1 g0 g1 old
    → ((r : List ℕ) (ls : List (List ℕ)) → HasTaken limits r ls l1 old → (more : List ℕ) × Moves l1 l2 g1 g2 more × IsTaken limits (r ++ more) ls l2 new takens.Nothing) → HasPassed limits read lines l0 l2 g0 g2 new
passed_more limits read lines l0 l1 l2 g0 g1 g2 old new h next =
    let then = taken_after limits read lines l0 l1 l2 g0 g1 g2 old new takens.Nothing h next in
    let line : List ℕ = new.lines.line in
    let joined : (lines ++ then.1) ++ line ∷ [] ≡ lines ++ (then.1 ++ line ∷ []) = append_assoc lines then.1 (line ∷ []) in
    record {
      more = then.0;
      empty = then.1 ++ line ∷ [];
      moves = then.2;
      same = ap trace_of (sym joined) ∙ then.4.1 ∙ then.3;
      taken = subst (λ ls. HasTaken limits (read ++ then.0) ls l2 new) joined then.4.0;
    }

-- what is not passed is what is taken next
pub taken_next : (limits : Limits) (read : List ℕ) (lines : List (List ℕ)) (left : Option (List ℕ)) (new : EventReader) (taken : Taken) → taken ≢ takens.Nothing → IsTaken limits read lines left new taken → IsTakenNext limits read lines left new taken
taken_next limits read lines left new takens.Nothing other h = absurd (other refl)
taken_next limits read lines left new (takens.Step step) other h = h
taken_next limits read lines left new (takens.Fault fault) other h = h
taken_next limits read lines left new takens.End other h = h
