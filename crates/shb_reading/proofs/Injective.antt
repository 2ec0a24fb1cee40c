-- A text is the text of one report.
use Rattle.std.proofs.Common.{◌≡◌, ℕ, ◌+◌, List, [], ◌∷◌, ◌++◌, length, codes, Option, None, Some, IfSome, refl, sym, ap, arith}
use Rattle.shb_reading.proofs.Words.{AllByRecursion, ArePlaces, AreShown, Block, Counts, End, Form, HasNoLineFeed, IsBlock, IsPlace, IsReportValue, IsShown, Place, ReportValue, Version, append_cancel_left, block_lines, counts_line, decimal, is_some, lines_text, listed, numbers_line, place_line, place_lines, places_section, race_numbers_line, report_lines, report_text, version_line}
use Rattle.shb_reading.proofs.Fronts.{same_ending, same_line, same_number}
use Rattle.shb_reading.proofs.Language.{AreLines}
use Rattle.shb_reading.proofs.Listing.{listed_same}
use Rattle.shb_reading.proofs.Machine.{versions_differ}
use Rattle.shb_reading.proofs.Values.{lines_of_value}

-- lines

one_line_each : (forms : List Form) (lines : List (List ℕ)) → AreLines forms lines → AllByRecursion HasNoLineFeed lines
one_line_each forms [] h = tt
one_line_each [] (line ∷ lines) h = absurd h
one_line_each (form ∷ forms) (line ∷ lines) h = (h.0, one_line_each (h.1.0 ++ forms) lines h.1.2)

longer : (line rest : List ℕ) → [] ≡ line ++ (10 ∷ rest) → ⊥
longer [] rest e = absurd (cc)
longer (b ∷ line) rest e = absurd (cc)

lines_same : (lines others : List (List ℕ)) → AllByRecursion HasNoLineFeed lines → AllByRecursion HasNoLineFeed others → lines_text lines ≡ lines_text others → lines ≡ others
lines_same [] [] h g e = refl
lines_same [] (l ∷ others) h g e = absurd (longer l (lines_text others) e)
lines_same (l ∷ lines) [] h g e = absurd (longer l (lines_text lines) (sym e))
lines_same (l ∷ lines) (k ∷ others) h g e =
    let same = same_line l k (lines_text lines) (lines_text others) h.0 g.0 e in
    let tails : lines ≡ others = lines_same lines others h.1 g.1 same.1 in
    let heads : l ≡ k = same.0 in
    cc

cons_head : (x y : List ℕ) (xs ys : List (List ℕ)) → x ∷ xs ≡ y ∷ ys → x ≡ y
cons_head x y xs ys e = cc

cons_tail : (x y : List ℕ) (xs ys : List (List ℕ)) → x ∷ xs ≡ y ∷ ys → xs ≡ ys
cons_tail x y xs ys e = cc

-- single lines

counts_same : (a b : Counts) → AreShown a → AreShown b → counts_line a ≡ counts_line b → a ≡ b
counts_same a b p q e =
    let threads_a = codes " threads " ++ (decimal a.threads ++ (codes " locks " ++ (decimal a.locks ++ (codes " variables " ++ decimal a.variables)))) in
    let threads_b = codes " threads " ++ (decimal b.threads ++ (codes " locks " ++ (decimal b.locks ++ (codes " variables " ++ decimal b.variables)))) in
    let events = same_number a.events b.events threads_a threads_b p.events q.events refl refl (append_cancel_left (codes "events ") _ _ e) in
    let locks_a = codes " locks " ++ (decimal a.locks ++ (codes " variables " ++ decimal a.variables)) in
    let locks_b = codes " locks " ++ (decimal b.locks ++ (codes " variables " ++ decimal b.variables)) in
    let threads = same_number a.threads b.threads locks_a locks_b p.threads q.threads refl refl (append_cancel_left (codes " threads ") _ _ events.1) in
    let variables_a = codes " variables " ++ decimal a.variables in
    let variables_b = codes " variables " ++ decimal b.variables in
    let locks = same_number a.locks b.locks variables_a variables_b p.locks q.locks refl refl (append_cancel_left (codes " locks ") _ _ threads.1) in
    let variables = same_ending (codes " variables ") a.variables b.variables p.variables q.variables locks.1 in
    λ i. record { events = events.0 i; threads = threads.0 i; locks = locks.0 i; variables = variables i }

place_line_same : (number m n : ℕ) → IsShown m → IsShown n → place_line number m ≡ place_line number n → m ≡ n
place_line_same number m n p q e = same_ending (codes ": ") m n p q (append_cancel_left (decimal number) _ _ (append_cancel_left (codes "place ") _ _ e))

race_line_same : (number i j k l : ℕ) → IsShown i → IsShown j → IsShown k → IsShown l → race_numbers_line number i j ≡ race_numbers_line number k l → (i ≡ k) × (j ≡ l)
race_line_same number i j k l p q r s e =
    let first = same_number i k (codes " " ++ decimal j) (codes " " ++ decimal l) p r refl refl (append_cancel_left (codes ": ") _ _ (append_cancel_left (decimal number) _ _ (append_cancel_left (codes "race ") _ _ e))) in
    (first.0, same_ending (codes " ") j l q s first.1)

numbers_line_same : (ns ms : List ℕ) → AllByRecursion IsShown ns → AllByRecursion IsShown ms → IsShown (length ns) → IsShown (length ms) → numbers_line ns ≡ numbers_line ms → ns ≡ ms
numbers_line_same ns ms h g p q e =
    let after = same_number (length ns) (length ms) (codes ":" ++ listed ns) (codes ":" ++ listed ms) p q refl refl (append_cancel_left (codes "schedule ") _ _ e) in
    listed_same ns ms h g (append_cancel_left (codes ":") _ _ after.1)

-- places and blocks

places_same : (number : ℕ) (places others : List Place) (xs ys : List (List ℕ)) → AllByRecursion IsPlace places → AllByRecursion IsPlace others → length places ≡ length others
    → place_lines number places ++ xs ≡ place_lines number others ++ ys → (places ≡ others) × (xs ≡ ys)
places_same number [] [] xs ys h g n e = (refl, e)
places_same number [] (q ∷ others) xs ys h g n e = absurd (omega arith)
places_same number (p ∷ places) [] xs ys h g n e = absurd (omega arith)
places_same number (p ∷ places) (q ∷ others) xs ys h g n e =
    let one = cons_tail _ _ _ _ e in
    let two = cons_tail _ _ _ _ one in
    let later = places_same (number + 1) places others xs ys h.1 g.1 (omega (arith, n)) (cons_tail _ _ _ _ two) in
    let count : p.count ≡ q.count = place_line_same number p.count q.count h.0.count g.0.count (cons_head _ _ _ _ e) in
    let first : p.first ≡ q.first = append_cancel_left (codes "at ") _ _ (cons_head _ _ _ _ one) in
    let second : p.second ≡ q.second = append_cancel_left (codes "and ") _ _ (cons_head _ _ _ _ two) in
    let same : p ≡ q = λ i. record { count = count i; first = first i; second = second i } in
    (λ i. same i ∷ later.0 i, later.1)

blocks_same : (number : ℕ) (blocks others : List Block) (xs ys : List (List ℕ)) → AllByRecursion IsBlock blocks → AllByRecursion IsBlock others → length blocks ≡ length others
    → block_lines number blocks ++ xs ≡ block_lines number others ++ ys → (blocks ≡ others) × (xs ≡ ys)
blocks_same number [] [] xs ys h g n e = (refl, e)
blocks_same number [] (q ∷ others) xs ys h g n e = absurd (omega arith)
blocks_same number (p ∷ blocks) [] xs ys h g n e = absurd (omega arith)
blocks_same number (p ∷ blocks) (q ∷ others) xs ys h g n e =
    let one = cons_tail _ _ _ _ e in
    let two = cons_tail _ _ _ _ one in
    let three = cons_tail _ _ _ _ two in
    let later = blocks_same (number + 1) blocks others xs ys h.1 g.1 (omega (arith, n)) (cons_tail _ _ _ _ three) in
    let pair = race_line_same number p.first p.second q.first q.second h.0.first h.0.second g.0.first g.0.second (cons_head _ _ _ _ e) in
    let first_line : p.first_line ≡ q.first_line = append_cancel_left (codes "first ") _ _ (cons_head _ _ _ _ one) in
    let second_line : p.second_line ≡ q.second_line = append_cancel_left (codes "second ") _ _ (cons_head _ _ _ _ two) in
    let schedule : p.schedule ≡ q.schedule = numbers_line_same p.schedule q.schedule h.0.numbers g.0.numbers h.0.few g.0.few (cons_head _ _ _ _ three) in
    let same : p ≡ q = λ i. record { first = pair.0 i; second = pair.1 i; first_line = first_line i; second_line = second_line i; schedule = schedule i } in
    (λ i. same i ∷ later.0 i, later.1)

section_same : (places others : Option (List Place)) (xs ys : List (List ℕ)) → IfSome places ArePlaces → IfSome others ArePlaces → version_line (is_some places) ≡ version_line (is_some others)
    → places_section places ++ xs ≡ places_section others ++ ys → (places ≡ others) × (xs ≡ ys)
section_same None None xs ys h g v e = (refl, e)
section_same None (Some qs) xs ys h g v e = absurd (versions_differ v)
section_same (Some ps) None xs ys h g v e = absurd (versions_differ (sym v))
section_same (Some ps) (Some qs) xs ys h g v e =
    let count : length ps ≡ length qs = same_ending (codes "places ") (length ps) (length qs) h.few g.few (cons_head _ _ _ _ e) in
    let same = places_same 1 ps qs xs ys h.each g.each count (cons_tail _ _ _ _ e) in
    (ap Some same.0, same.1)

report_lines_same : (a b : ReportValue) → IsReportValue a → IsReportValue b → report_lines a ≡ report_lines b → a ≡ b
report_lines_same a b h g e =
    let one = cons_tail _ _ _ _ e in
    let two = cons_tail _ _ _ _ one in
    let counts = counts_same a.counts b.counts h.counts g.counts (cons_head _ _ _ _ one) in
    let races : length a.blocks ≡ length b.blocks = same_ending (codes "races ") (length a.blocks) (length b.blocks) h.few g.few (cons_head _ _ _ _ two) in
    let section = section_same a.places b.places _ _ h.places g.places (cons_head _ _ _ _ e) (cons_tail _ _ _ _ two) in
    let blocks = blocks_same 1 a.blocks b.blocks _ _ h.blocks g.blocks races section.1 in
    λ i. record { counts = counts i; places = section.0 i; blocks = blocks.0 i }

-- the law: reading the text of a report can give no other report
pub report_same : (a b : ReportValue) → IsReportValue a → IsReportValue b → report_text a ≡ report_text b → a ≡ b
report_same a b h g e =
    let one_line_a = one_line_each (Version ∷ (End ∷ [])) (report_lines a) (lines_of_value a h) in
    let one_line_b = one_line_each (Version ∷ (End ∷ [])) (report_lines b) (lines_of_value b g) in
    report_lines_same a b h g (lines_same (report_lines a) (report_lines b) one_line_a one_line_b e)
