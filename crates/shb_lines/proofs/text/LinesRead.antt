-- Bytes that are read of a source and given line by line.
use Rattle.std.proofs.Common.{◌≡◌, ◌≢◌, ◌⊎◌, inl, inr, ◌+◌, ◌-◌, ◌==◌, ◌<◌, ◌≤◌, ℕ, List, [], ◌∷◌, ◌++◌, length, take, drop, get_or, suc, add-one, Option, None, Some, Result, Ok, Err, IfOk, OnErr, true, refl, sym, ap, subst, ◌∙◌, arith, append_assoc, append-nil, length-append, length-take, length-take-le, true≢false}
use Rattle.std.proofs.lemmas.Bool.{cases_lt, eqb-true}
use Rattle.std.proofs.lemmas.List.{drop-drop, drop-take, drop_all, get_or-take, take-append-drop, take-append-le, take_all}
use Rattle.std.proofs.lemmas.List.Sums.{fails_before_first, passes_at_first}
use Rattle.std.proofs.Math.Seq.{split_at, take-append-add}
use Rattle.std.specs.Io.KnownBytes.{Keeps, ReadConsumes}
use Rattle.std.specs.List.{position_or_len}
use Rattle.shb_io.specs.Devices.{IsGivenCounted}
use Rattle.shb_lines.specs.text.Grammar.{Lacks}
use Rattle.shb_lines.specs.text.Lines.{BeginsLong, Gives, Moves}
use Rattle.shb_lines.specs.text.Stored.{part}
use Rattle.shb_lines.specs.text.Taking.{HasGiven}
use Rattle.shb_lines.proofs.text.TakingLemmas.{Consumes-then}

-- the part of a text from later on
pub part_after : (text : List ℕ) (start n end : ℕ) → part text (start + n) end ≡ drop n (part text start end)
part_after text start n end = by (cases_lt (start + n) end)
  where
    by : (start + n < end) ⊎ (end ≤ start + n) → part text (start + n) end ≡ drop n (part text start end)
    by (inl within) =
        let len : n + (end - (start + n)) ≡ end - start = omega arith in
        ap (take (end - (start + n))) (sym (drop-drop n start text)) ∙ sym (drop-take n (end - (start + n)) (drop start text))
        ∙ ap (λ k. drop n (take k (drop start text))) len
    by (inr past) =
        let none : end - (start + n) ≡ 0 = omega arith in
        ap (λ k. take k (drop (start + n) text)) none ∙ sym (drop_all n (part text start end) (omega (arith, length-take (end - start) (drop start text))))

-- what is always so is so of an error
pub on_err : {T E : Type 0} (r : Result T E) (P : Type 0) → P → OnErr r P
on_err (Ok x) P p = tt
on_err (Err e) P p = p

-- no byte went over
pub gives_none : (l0 l1 : Option (List ℕ)) (g0 g1 : ℕ) (held : List ℕ) → Keeps l0 l1 → g1 ≡ g0 → Gives l0 l1 g0 g1 held held 0
gives_none None l1 g0 g1 held kept same = record { bytes = []; count = refl; taken = tt; given = record { most = omega arith; exact = λ small. omega arith }; joined = sym (append-nil held) }
gives_none (Some x) None g0 g1 held kept same = absurd kept
gives_none (Some x) (Some y) g0 g1 held kept same = record { bytes = []; count = refl; taken = sym kept; given = record { most = omega arith; exact = λ small. omega arith }; joined = sym (append-nil held) }

-- bytes went over, and then more
pub gives_more : (l0 l1 l2 : Option (List ℕ)) (g0 g1 g2 : ℕ) (a b c : List ℕ) (n m : ℕ) → Gives l0 l1 g0 g1 a b n → Gives l1 l2 g1 g2 b c m → Gives l0 l2 g0 g2 a c (n + m)
gives_more l0 l1 l2 g0 g1 g2 a b c n m first more = record {
  bytes = first.bytes ++ more.bytes;
  count = omega (arith, length-append first.bytes more.bytes, first.count, more.count);
  taken = Consumes-then l0 l1 l2 first.bytes more.bytes first.taken more.taken;
  given = record {
    most = omega (arith, first.given.most, more.given.most);
    exact = λ small.
        let later = more.given.exact small in
        let before = first.given.exact (omega (arith, later, small)) in
        omega (arith, later, before);
  };
  joined = more.joined ∙ ap (λ x. x ++ more.bytes) first.joined ∙ append_assoc a first.bytes more.bytes;
}

-- a read after what is filled
pub gives_read : {E : Type 0} (old new : Option (List ℕ)) (g0 g1 filled : ℕ) (bytes buf rest : List ℕ) (r : Result ℕ E) → filled ≤ length bytes → IfOk r (λ n. n ≤ length buf) → ReadConsumes old new r buf → IsGivenCounted g0 g1 r
    → IfOk r (λ n. Gives old new g0 g1 (take filled bytes) (take (filled + n) (take filled bytes ++ (buf ++ rest))) n)
gives_read old new g0 g1 filled bytes buf rest (Err e) within bound taken given = tt
gives_read old new g0 g1 filled bytes buf rest (Ok n) within bound taken given =
    let front : List ℕ = take filled bytes in
    let long : length front ≡ filled = length-take-le filled bytes within in
    record {
      bytes = take n buf;
      count = length-take-le n buf bound;
      taken = taken.0;
      given = record { most = omega arith; exact = λ small. omega arith };
      joined = ap (λ k. take (k + n) (front ++ (buf ++ rest))) (sym long) ∙ take-append-add front (buf ++ rest) n ∙ ap (λ r. front ++ r) (take-append-le n buf rest bound);
    }

-- no line feed stands before the first one
pub lacks_before : (bytes : List ℕ) (n : ℕ) → n ≤ position_or_len (λ b. b == 10) bytes → Lacks 10 (take n bytes)
lacks_before bytes n before k d within e =
    let below : k < n = omega (arith, length-take n bytes) in
    let none = fails_before_first (λ b. b == 10) bytes k d (omega (arith, below, before)) in
    let byte : get_or bytes k d ≡ 10 = sym (get_or-take n bytes k d below) ∙ e in
    true≢false (sym (ap (λ b. b == 10) byte) ∙ none)

-- all that is held is a line, where no line feed is in it
pub lacks_all : (bytes : List ℕ) → position_or_len (λ b. b == 10) bytes ≡ length bytes → Lacks 10 bytes
lacks_all bytes none = subst (Lacks 10) (take_all (length bytes) bytes (omega arith)) (lacks_before bytes (length bytes) (omega (arith, none)))

-- the first line with its line feed, and what stands after it
pub line_of_held : (bytes : List ℕ) (len : ℕ) → len ≡ position_or_len (λ b. b == 10) bytes → len < length bytes → bytes ≡ take len bytes ++ 10 ∷ drop (len + 1) bytes
line_of_held bytes len is within =
    let feed : get_or bytes len 0 ≡ 10 = eqb-true _ _ (subst (λ k. (get_or bytes k 0 == 10) ≡ true) (sym is) (passes_at_first (λ b. b == 10) bytes 0 (omega (arith, is, within)))) in
    split_at bytes len 0 within ∙ ap (λ b. take len bytes ++ b ∷ drop (suc len) bytes) feed ∙ ap (λ n. take len bytes ++ 10 ∷ drop n bytes) (sym (add-one len))

-- a line that is above the limit, however it goes on
pub begins_long : (bytes : List ℕ) (len limit : ℕ) → len ≡ position_or_len (λ b. b == 10) bytes → limit < len → len ≤ length bytes → BeginsLong limit bytes
begins_long bytes len limit is above within = record {
  front = take len bytes;
  rest = drop len bytes;
  joined = sym (take-append-drop len bytes);
  one_line = lacks_before bytes len (omega (arith, is));
  long = omega (arith, length-take-le len bytes within, above);
}

-- a read that gave nothing left what was held
pub gives_nothing : (l0 l1 : Option (List ℕ)) (g0 g1 : ℕ) (a b : List ℕ) (n : ℕ) → Gives l0 l1 g0 g1 a b n → n ≡ 0 → b ≡ a
gives_nothing l0 l1 g0 g1 a b n gave none = gave.joined ∙ ap (λ x. a ++ x) (nil_of gave.bytes (gave.count ∙ none)) ∙ append-nil a
  where
    nil_of : (bytes : List ℕ) → length bytes ≡ 0 → bytes ≡ []
    nil_of [] e = refl
    nil_of (x ∷ xs) e = absurd (omega arith)

-- a line that ends before what is held does
pub held_before : (len held limit : ℕ) → len ≤ held → len ≤ limit → (len ≤ limit → len ≢ held) → len < held
held_before len held limit within short apart = by (cases_lt len held)
  where
    by : (len < held) ⊎ (held ≤ len) → len < held
    by (inl below) = below
    by (inr past) = absurd (apart short (omega (arith, within, past)))

-- what a source gave, without what was held before
pub moves_of : (l0 l1 : Option (List ℕ)) (g0 g1 : ℕ) (a b : List ℕ) (n : ℕ) → (gave : Gives l0 l1 g0 g1 a b n) → Moves l0 l1 g0 g1 gave.bytes
moves_of l0 l1 g0 g1 a b n gave = record { taken = gave.taken; given = subst (HasGiven g0 g1) (sym gave.count) gave.given }

pub moves_none : (left : Option (List ℕ)) (g : ℕ) → Moves left left g g []
moves_none None g = record { taken = tt; given = record { most = omega arith; exact = λ small. omega arith } }
moves_none (Some rest) g = record { taken = refl; given = record { most = omega arith; exact = λ small. omega arith } }

pub moves_more : (l0 l1 l2 : Option (List ℕ)) (g0 g1 g2 : ℕ) (first more : List ℕ) → Moves l0 l1 g0 g1 first → Moves l1 l2 g1 g2 more → Moves l0 l2 g0 g2 (first ++ more)
unfolding gives_more
moves_more l0 l1 l2 g0 g1 g2 first more h next =
    let joined = gives_more l0 l1 l2 g0 g1 g2 [] first (first ++ more) (length first) (length more)
    (record { bytes = first; count = refl; taken = h.taken; given = h.given; joined = refl }) (record { bytes = more; count = refl; taken = next.taken; given = next.given; joined = refl }) in
    record { taken = joined.taken; given = subst (HasGiven g0 g2) (sym (length-append first more)) joined.given }

-- the same, of bytes that aren't named
pub moved_more : (l0 l1 l2 : Option (List ℕ)) (g0 g1 g2 : ℕ) → (bytes : List ℕ) × Moves l0 l1 g0 g1 bytes → (bytes : List ℕ) × Moves l1 l2 g1 g2 bytes → (bytes : List ℕ) × Moves l0 l2 g0 g2 bytes
moved_more l0 l1 l2 g0 g1 g2 first more = (first.0 ++ more.0, moves_more l0 l1 l2 g0 g1 g2 first.0 more.0 first.1 more.1)
