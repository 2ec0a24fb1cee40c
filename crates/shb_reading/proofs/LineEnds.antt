-- Where a line ends, and which lines stand at a front.
use Rattle.std.proofs.Common.{◌≡◌, ◌≢◌, ℕ, suc, ◌+◌, ◌<◌, ◌==◌, Bool, true, false, not, List, [], ◌∷◌, ◌++◌, length, get_or, take, drop, None, Some, refl, sym, ap, subst, ◌∙◌, arith, append_assoc, take-append-drop, length-take, length-append, get_or-take}
use Rattle.shb_reading.proofs.Words.{BeginsWithLine, Form, HasForm, HasNoLineFeed, IsRest, IsSpanIn, Label, Lacks, Named, Position, Span, TakesForm, TakesLine, bytes_at, bytes_from, drop-append_seam, drop-cons, drop-drop, label_bytes, least_after, nat_tests, take-append_seam}
use Rattle.memchr.specs.Find.{IsFirstByte, is_byte}
use Rattle.shb_reading.proofs.Fronts.{both_true, second_true, same_line}

other_byte : (b : ℕ) → ((b == 10) ≡ true → ⊥) → not (b == 10) ≡ true
other_byte b h = by (b == 10) refl
  where
    by : (t : Bool) → (b == 10) ≡ t → not (b == 10) ≡ true
    by true e = absurd (h e)
    by false e = ap not e

all_other : (bytes : List ℕ) → ((k : ℕ) → k < length bytes → (get_or bytes k 0 == 10) ≡ true → ⊥) → HasNoLineFeed bytes
all_other [] h = refl
all_other (b ∷ bytes) h = both_true _ _ (other_byte b (h 0 (omega arith))) (all_other bytes (λ k below. h (suc k) (omega arith)))

pub free_whole : (bytes : List ℕ) → IsFirstByte (is_byte 10) bytes None → HasNoLineFeed bytes
free_whole bytes h = all_other bytes (λ k below. h k (omega arith) below)

is_feed : (b : ℕ) → (b == 10) ≡ true → b ≡ 10
is_feed b h = grind (arith, nat_tests)

pub line_found : (bytes : List ℕ) (len : ℕ) → IsFirstByte (is_byte 10) bytes (Some len) → BeginsWithLine bytes (take len bytes) (drop (length (take len bytes) + 1) bytes)
line_found bytes len h =
    let within : len < length bytes = h.0.high in
    let long : length (take len bytes) ≡ len = omega (arith, length-take len bytes) in
    let feed : get_or bytes len 0 ≡ 10 = is_feed (get_or bytes len 0) h.1 in
    let counts : suc len ≡ length (take len bytes) + 1 = omega (arith, long) in
    let after : drop (suc len) bytes ≡ drop (length (take len bytes) + 1) bytes = ap (λ n. drop n bytes) counts in record {
      one_line = all_other (take len bytes) (λ k below. λ e. h.0.before k (omega arith) (omega (arith, long)) (sym (ap (λ b. b == 10) (get_or-take len bytes k 0 (omega (arith, long)))) ∙ e));
      bytes_are = sym (take-append-drop len bytes) ∙ ap (λ r. take len bytes ++ r) (drop-cons bytes len 0 within ∙ ap (λ b. b ∷ drop (suc len) bytes) feed ∙ ap (λ r. 10 ∷ r) after);
    }

feed : (line rest : List ℕ) → HasNoLineFeed (line ++ (10 ∷ rest)) → ⊥
feed [] rest h = absurd (cc)
feed (b ∷ line) rest h = feed line rest (second_true _ _ h)

-- where another line stands at the front
pub lacks_by : (form : Form) (bytes line rest : List ℕ) → BeginsWithLine bytes line rest → ((added : List Form) → HasForm form line added → ⊥) → Lacks form bytes
lacks_by form bytes line rest b unlike l added more t = unlike added (subst (λ x. HasForm form x added) (same_line l line more rest t.one_line b.one_line (sym t.bytes_are ∙ b.bytes_are)).0 t.has_form)

pub takes_by : (form : Form) (bytes line rest : List ℕ) (added : List Form) → BeginsWithLine bytes line rest → HasForm form line added → TakesForm form bytes line added rest
takes_by form bytes line rest added b has = record { one_line = b.one_line; has_form = has; bytes_are = b.bytes_are }

-- a line of a label and bytes, where those bytes stand
pub named_bytes : (text label bytes rest : List ℕ) (start : ℕ) → drop start text ≡ (label ++ bytes) ++ (10 ∷ rest) → take (length bytes) (drop (start + length label) text) ≡ bytes
named_bytes text label bytes rest start e =
    ap (take (length bytes)) (sym (drop-drop (length label) start text) ∙ ap (drop (length label)) (e ∙ append_assoc label bytes (10 ∷ rest)) ∙ drop-append_seam label (bytes ++ (10 ∷ rest)))
    ∙ take-append_seam bytes (10 ∷ rest)

pub lacks_named : (bytes line rest : List ℕ) → BeginsWithLine bytes line rest → (l : Label) (label : List ℕ) (least : ℕ) → label ≡ label_bytes l → least ≡ least_after l → ((more : List ℕ) → IsRest least more → line ≢ label ++ more) → Lacks (Named l) bytes
lacks_named bytes line rest b l label least same_label same_least unlike = lacks_by (Named l) bytes line rest b
    (λ added h. unlike h.0 (subst (λ n. IsRest n h.0) (sym same_least) h.1) (h.2 ∙ ap (λ x. x ++ h.0) (sym same_label)))

pub named_taken : (text : List ℕ) (old new : Position) (line label bytes : List ℕ) (least : ℕ) → TakesLine text old new line → line ≡ label ++ bytes → IsRest least bytes → (span : Span) → span ≡ record { start = old.start + length label; len = length bytes }
    → TakesLine text old new (label ++ bytes_at text span) × IsRest least (bytes_at text span) × IsSpanIn text span
named_taken text old new line label bytes least taken is rest span same =
    let stands : bytes_at text (record { start = old.start + length label; len = length bytes }) ≡ bytes = named_bytes text label bytes (bytes_from text new) old.start (taken.begins.bytes_are ∙ ap (λ l. l ++ (10 ∷ bytes_from text new)) is) in
    let there : bytes_at text span ≡ bytes = ap (bytes_at text) same ∙ stands in
    let lengths : length line ≡ length label + length bytes = ap (λ (l : List ℕ). length l) is ∙ length-append label bytes in (
      subst (TakesLine text old new) (is ∙ ap (λ b. label ++ b) (sym there)) taken,
      subst (IsRest least) (sym there) rest,
      subst (IsSpanIn text) (sym same) (omega (arith, taken.moved, taken.at.within, lengths)),
    )
