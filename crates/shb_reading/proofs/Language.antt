-- The forms are those of the lines of reports, and of no other lines.
use Rattle.std.proofs.Common.{◌≡◌, true, false, ℕ, zero, suc, ◌≤◌, List, [], ◌∷◌, ◌++◌, length, take, codes, refl, sym, ap, ◌∙◌, arith, append_assoc}
use Rattle.shb_reading.proofs.Words.{And, AreShown, At, Counts, CountsForm, End, First, Form, HasForm, HasNoLineFeed, IsRest, Label, Named, PlaceForm, Places, Race, Races, Schedule, Second, Takes, TakesForm, Version, counts_line, decimal, label_bytes, least_after, lines_text, listed, numbers_line, place_line, places_line, race_numbers_line, races_line}
use Rattle.shb_reading.proofs.Fronts.{one_line-append, one_line-decimal}

-- all of these lines have these forms, one after another
abbrev pub AreLines : List Form → List (List ℕ) → Type 0
AreLines forms [] = forms ≡ []
AreLines [] (line ∷ lines) = ⊥
AreLines (form ∷ forms) (line ∷ lines) = HasNoLineFeed line × ((added : List Form) × HasForm form line added × AreLines (added ++ forms) lines)

-- a line of a form before lines of the forms that are then expected
pub line_then : (form : Form) (forms : List Form) (line : List ℕ) (added : List Form) (lines : List (List ℕ)) → HasNoLineFeed line → HasForm form line added → AreLines (added ++ forms) lines → AreLines (form ∷ forms) (line ∷ lines)
line_then form forms line added lines free has later = (free, (added, has, later))

-- from lines to what is taken

pub takes_front : (forms : List Form) (lines : List (List ℕ)) (n : ℕ) (rest : List ℕ) → AreLines forms lines → n ≤ length lines → (left : List Form) × Takes forms (lines_text (take n lines) ++ rest) n left rest
takes_front forms lines zero rest h few = (forms, (refl, refl))
takes_front forms [] (suc n) rest h few = absurd (omega arith)
takes_front [] (line ∷ lines) (suc n) rest h few = absurd h
takes_front (form ∷ forms) (line ∷ lines) (suc n) rest h few =
    let later = takes_front (h.1.0 ++ forms) lines n rest h.1.2 (omega arith) in
    let more = lines_text (take n lines) ++ rest in
    let taken : TakesForm form (lines_text (take (suc n) (line ∷ lines)) ++ rest) line h.1.0 more = record { one_line = h.0; has_form = h.1.1; bytes_are = append_assoc line (10 ∷ lines_text (take n lines)) rest } in
    (later.0, (line, h.1.0, more, taken, later.1))

pub takes_all : (forms : List Form) (lines : List (List ℕ)) → AreLines forms lines → Takes forms (lines_text lines) (length lines) [] []
takes_all forms [] h = (h, refl)
takes_all [] (line ∷ lines) h = absurd h
takes_all (form ∷ forms) (line ∷ lines) h =
    let taken : TakesForm form (lines_text (line ∷ lines)) line h.1.0 (lines_text lines) = record { one_line = h.0; has_form = h.1.1; bytes_are = refl } in
    (line, h.1.0, lines_text lines, taken, takes_all (h.1.0 ++ forms) lines h.1.2)

-- lines of each form have no line feed inside

numbered : (label : List ℕ) (n : ℕ) (rest : List ℕ) → HasNoLineFeed label → HasNoLineFeed rest → HasNoLineFeed (label ++ (decimal n ++ rest))
numbered label n rest p q = one_line-append label (decimal n ++ rest) p (one_line-append (decimal n) rest (one_line-decimal n) q)

numbered_last : (label : List ℕ) (n : ℕ) → HasNoLineFeed label → HasNoLineFeed (label ++ decimal n)
numbered_last label n p = one_line-append label (decimal n) p (one_line-decimal n)

pub one_line-counts : (counts : Counts) → HasNoLineFeed (counts_line counts)
one_line-counts counts =
    numbered (codes "events ") counts.events _ refl
    (numbered (codes " threads ") counts.threads _ refl
    (numbered (codes " locks ") counts.locks _ refl
    (numbered_last (codes " variables ") counts.variables refl)))

pub one_line-races : (n : ℕ) → HasNoLineFeed (races_line n)
one_line-races n = numbered_last (codes "races ") n refl

pub one_line-places : (n : ℕ) → HasNoLineFeed (places_line n)
one_line-places n = numbered_last (codes "places ") n refl

pub one_line-place : (number n : ℕ) → HasNoLineFeed (place_line number n)
one_line-place number n = numbered (codes "place ") number _ refl (numbered_last (codes ": ") n refl)

pub one_line-race : (number i j : ℕ) → HasNoLineFeed (race_numbers_line number i j)
one_line-race number i j = numbered (codes "race ") number _ refl (numbered (codes ": ") i _ refl (numbered_last (codes " ") j refl))

one_line-label : (label : Label) → HasNoLineFeed (label_bytes label)
one_line-label First = refl
one_line-label Second = refl
one_line-label At = refl
one_line-label And = refl

pub one_line-named : (label : Label) (bytes : List ℕ) → HasNoLineFeed bytes → HasNoLineFeed (label_bytes label ++ bytes)
one_line-named label bytes h = one_line-append (label_bytes label) bytes (one_line-label label) h

one_line-listed : (ns : List ℕ) → HasNoLineFeed (listed ns)
one_line-listed [] = refl
one_line-listed (n ∷ ns) = numbered (codes " ") n (listed ns) refl (one_line-listed ns)

pub one_line-numbers : (ns : List ℕ) → HasNoLineFeed (numbers_line ns)
one_line-numbers ns = numbered (codes "schedule ") (length ns) _ refl (one_line-append (codes ":") (listed ns) refl (one_line-listed ns))

-- whatever is expected, lines can follow that end it

label_rest : (label : Label) → (bytes : List ℕ) × IsRest (least_after label) bytes
label_rest First = (1 ∷ [], record { enough = omega arith; most = omega arith; one_line = refl })
label_rest Second = (1 ∷ [], record { enough = omega arith; most = omega arith; one_line = refl })
label_rest At = ([], record { enough = omega arith; most = omega arith; one_line = refl })
label_rest And = ([], record { enough = omega arith; most = omega arith; one_line = refl })

zeros : Counts
zeros = record { events = 0; threads = 0; locks = 0; variables = 0 }

zeros-shown : AreShown zeros
unfolding zeros
zeros-shown = record { events = omega arith; threads = omega arith; locks = omega arith; variables = omega arith }

abbrev Ends : List Form → Type 0
Ends forms = (lines : List (List ℕ)) × AreLines forms lines

-- one line more in front, after which nothing else is expected
ends_more : (form : Form) (forms : List Form) (line : List ℕ) (added : List Form) → HasNoLineFeed line → HasForm form line added → Ends (added ++ forms) → Ends (form ∷ forms)
ends_more form forms line added free has later = (line ∷ later.0, (free, (added, has, later.1)))

pub can_end : (forms : List Form) → Ends forms
can_end [] = ([], refl)
can_end (Version ∷ forms) =
    ends_more Version forms (codes "shb-report 1") (CountsForm ∷ (Races false ∷ [])) refl (false, refl, refl)
    (ends_more CountsForm (Races false ∷ forms) (counts_line zeros) [] (one_line-counts zeros) (zeros, zeros-shown, refl, refl)
    (ends_more (Races false) forms (races_line 0) [] (one_line-races 0) (0, omega arith, refl, refl) (can_end forms)))
can_end (CountsForm ∷ forms) = ends_more CountsForm forms (counts_line zeros) [] (one_line-counts zeros) (zeros, zeros-shown, refl, refl) (can_end forms)
can_end (Races false ∷ forms) = ends_more (Races false) forms (races_line 0) [] (one_line-races 0) (0, omega arith, refl, refl) (can_end forms)
can_end (Races true ∷ forms) =
    ends_more (Races true) forms (races_line 0) (Places ∷ []) (one_line-races 0) (0, omega arith, refl, refl)
    (ends_more Places forms (places_line 0) [] (one_line-places 0) (0, omega arith, refl, refl) (can_end forms))
can_end (Places ∷ forms) = ends_more Places forms (places_line 0) [] (one_line-places 0) (0, omega arith, refl, refl) (can_end forms)
can_end (PlaceForm number ∷ forms) = ends_more (PlaceForm number) forms (place_line number 0) [] (one_line-place number 0) (0, omega arith, refl, refl) (can_end forms)
can_end (Race number ∷ forms) = ends_more (Race number) forms (race_numbers_line number 0 0) [] (one_line-race number 0 0) (0, 0, omega arith, omega arith, refl, refl) (can_end forms)
can_end (Named label ∷ forms) =
    let rest = label_rest label in
    ends_more (Named label) forms (label_bytes label ++ rest.0) [] (one_line-named label rest.0 rest.1.one_line) (rest.0, rest.1, refl, refl) (can_end forms)
can_end (Schedule ∷ forms) = ends_more Schedule forms (numbers_line []) [] (one_line-numbers []) ([], tt, omega arith, refl, refl) (can_end forms)
can_end (End ∷ forms) = ends_more End forms (codes "end") [] refl (refl, refl) (can_end forms)

-- lines of which the first n were taken
pub record Ending (forms : List Form) (bytes : List ℕ) (n : ℕ) : Type 0 where
  pub lines : List (List ℕ)
  pub are : AreLines forms lines
  pub enough : n ≤ length lines
  pub rest : List ℕ
  pub begins : bytes ≡ lines_text (take n lines) ++ rest

pub ending : (forms : List Form) (bytes : List ℕ) (n : ℕ) (left : List Form) (rest : List ℕ) → Takes forms bytes n left rest → Ending forms bytes n
ending forms bytes zero left rest h =
    let last = can_end forms in record { lines = last.0; are = last.1; enough = omega arith; rest = bytes; begins = refl }
ending [] bytes (suc n) left rest h = absurd h
ending (form ∷ forms) bytes (suc n) left rest h =
    let line = h.0 in
    let taken = h.3 in
    let later = ending (h.1 ++ forms) h.2 n left rest h.4 in record {
      lines = line ∷ later.lines;
      are = (taken.one_line, (h.1, taken.has_form, later.are));
      enough = omega (arith, later.enough);
      rest = later.rest;
      begins = taken.bytes_are ∙ ap (λ b. line ++ (10 ∷ b)) later.begins ∙ sym (append_assoc line (10 ∷ lines_text (take n later.lines)) later.rest);
    }
