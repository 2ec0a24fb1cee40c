-- How growths of known bytes join: for callers that write in several calls.
use Rattle.std.proofs.lemmas.Grind.{common_steps}
use Rattle.std.proofs.Common.{ℕ, ◌+◌, ◌<◌, List, [], ◌++◌, length, take, drop, ◌-◌, length-drop, Option, None, Some, Result, Ok, Err, IsErrAnd, OnOk, OnErr, sym, ap, subst, ◌∙◌, append_assoc, append-nil, arith, length-append}
use Rattle.std.proofs.lemmas.List.{take_all, take-append-le}
use Rattle.std.proofs.Math.Seq.{take-add, take-append-add, take-append_seam}
use Rattle.std.specs.Io.KnownBytes.{Appends}
use Rattle.shb_io.specs.Devices.{AppendsPrefix, Writes, HoldsBack}

-- ---- all of the bytes

-- nothing was appended
pub Appends-nil : (a : Option (List ℕ)) → Appends a a []
Appends-nil None = tt
Appends-nil (Some x) = sym (append-nil x)

-- xs, and then ys
pub Appends-trans : (a b c : Option (List ℕ)) (xs ys : List ℕ) → Appends a b xs → Appends b c ys → Appends a c (xs ++ ys)
Appends-trans None b c xs ys p q = tt
Appends-trans (Some x) None c xs ys p q = absurd p
Appends-trans (Some x) (Some y) None xs ys p q = absurd q
Appends-trans (Some x) (Some y) (Some z) xs ys p q = q ∙ ap (λ l. l ++ ys) p ∙ append_assoc x xs ys

-- the first i bytes of xs, and then n bytes of `&xs[i..]`
pub Appends-next : (a b c : Option (List ℕ)) (i n : ℕ) (xs : List ℕ) → Appends a b (take i xs) → Appends b c (take n (take (length xs - i) (drop i xs))) → Appends a c (take (i + n) xs)
Appends-next a b c i n xs p q = grind (arith, common_steps, take_all, length-drop, take-add, Appends-trans)

-- ---- the first of the bytes

-- the first bytes of xs are the first bytes of what begins with xs
pub AppendsPrefix-front : (a b : Option (List ℕ)) (xs ys : List ℕ) → AppendsPrefix a b xs → AppendsPrefix a b (xs ++ ys)
AppendsPrefix-front a b xs ys p =
    (p.0, omega (arith, length-append xs ys, p.1), subst (Appends a b) (sym (take-append-le p.0 xs ys (omega (arith, p.1)))) p.2)

-- xs, and then the first bytes of ys
pub AppendsPrefix-after : (a b c : Option (List ℕ)) (xs ys : List ℕ) → Appends a b xs → AppendsPrefix b c ys → AppendsPrefix a c (xs ++ ys)
AppendsPrefix-after a b c xs ys p q = (
  length xs + q.0,
  omega (arith, length-append xs ys, q.1),
  subst (Appends a c) (sym (take-append-add xs ys q.0)) (Appends-trans a b c xs (take q.0 ys) p q.2),
)

-- all of xs, where ys were still to come
pub AppendsPrefix-whole : (a b : Option (List ℕ)) (xs ys : List ℕ) → 0 < length ys → Appends a b xs → AppendsPrefix a b (xs ++ ys)
AppendsPrefix-whole a b xs ys some p =
    (length xs, omega (arith, length-append xs ys, some), subst (Appends a b) (sym (take-append_seam xs ys)) p)

-- ---- all of the bytes, or the first of them where the call failed

-- from the two clauses of `write_all`
pub Writes-both : {T E : Type 0} (r : Result T E) (a b : Option (List ℕ)) (xs : List ℕ) → OnOk r (Appends a b xs) → OnErr r (AppendsPrefix a b xs) → Writes a b r xs
Writes-both (Ok _) a b xs ok err = ok
Writes-both (Err _) a b xs ok err = err

-- all of xs, and then ys or the first of ys
pub Writes-then : {T E : Type 0} (r : Result T E) (a b c : Option (List ℕ)) (xs ys : List ℕ) → Appends a b xs → Writes b c r ys → Writes a c r (xs ++ ys)
Writes-then (Ok _) a b c xs ys p q = Appends-trans a b c xs ys p q
Writes-then (Err _) a b c xs ys p q = AppendsPrefix-after a b c xs ys p q

-- at the exit of a `?`
pub Writes-err : {T E : Type 0} (Q : E → Type 0) (r : Result T E) (a b : Option (List ℕ)) (xs : List ℕ) → IsErrAnd r Q → AppendsPrefix a b xs → Writes a b r xs
Writes-err Q (Ok _) a b xs is p = absurd is
Writes-err Q (Err _) a b xs is p = p

-- ---- some bytes written, and the rest held back

-- more is to be written after what is held back
pub HoldsBack-push : (a b : Option (List ℕ)) (rest all more : List ℕ) → HoldsBack a b rest all → HoldsBack a b (rest ++ more) (all ++ more)
HoldsBack-push a b rest all more p = grind (arith, common_steps, append_assoc)

-- of what was held back, only `less` still is
pub HoldsBack-trans : (a b c : Option (List ℕ)) (rest less all : List ℕ) → HoldsBack a b rest all → HoldsBack b c less rest → HoldsBack a c less all
HoldsBack-trans a b c rest less all p q = grind (arith, common_steps, Appends-trans, append_assoc)

-- the last call writes what was held back, or the first of it
pub HoldsBack-end : {T E : Type 0} (r : Result T E) (a b c : Option (List ℕ)) (rest all : List ℕ) → HoldsBack a b rest all → Writes b c r rest → Writes a c r all
HoldsBack-end r a b c rest all p q = subst (Writes a c r) p.joined (Writes-then r a b c p.sent rest p.appended q)
