-- What is computed of a line is what the grammar says of it.
use Rattle.std.proofs.lemmas.Grind.{common_steps}
use Rattle.std.proofs.Common.{◌≡◌, ◌≢◌, ◌⊎◌, inl, inr, ◌+◌, ◌-◌, ◌==◌, ◌<◌, ◌&&◌, ℕ, Bool, true, false, cond, not, nat_lt, zero, suc, List, [], ◌∷◌, ◌++◌, codes, length, take, drop, get_or, slice_index, Option, None, Some, Ok, Err, refl, sym, ap, subst, ◌∙◌, arith, length-append, length-take}
use Rattle.std.specs.List.{after_first, before_first, position_or_len}
use Rattle.std.specs.Str.{bytes_eq}
use Rattle.std.proofs.lemmas.Bool.{eq-eqb, eqb-false, eqb-true, ne_eqb}
use Rattle.std.proofs.lemmas.Bool.Decides.{nat_tests}
use Rattle.std.proofs.lemmas.Slice.Eq.{bytes_eq-Decides}
use Rattle.std.proofs.lemmas.List.{drop_more, take-append-drop, take_all}
use Rattle.std.proofs.lemmas.List.Elements.{All-head, All-tail}
use Rattle.std.proofs.lemmas.List.Sums.{fails_before_first, position_or_len_is}
use Rattle.std.proofs.Math.Seq.{drop-append-add, drop-append_seam, get_or-append_seam, take-append_seam}
use Rattle.shb_lines.specs.declared.event.Kind.{Kind}
use Rattle.shb_lines.specs.declared.event.Kind.TheVariants as kinds
use Rattle.shb_lines.specs.declared.fault.Fault.TheVariants as faults
use Rattle.shb_lines.specs.text.Grammar.{HasOperand, HasOperation, HasWord, IsLine, Lacks, Meaning, is_mark, word_of}
use Rattle.shb_lines.specs.text.Meaning.{event_with, is_bar, is_opening, kind_of, mark_operand, meaning, meaning_with, name_in, operand_of, operation_meaning}
use Rattle.shb_lines.proofs.text.Meanings.{meaning_is}

abbrev is : ℕ → ℕ → Bool
is c b = b == c

-- where a list without a byte ends at that byte
position_at : (c : ℕ) (front rest : List ℕ) → Lacks c front → position_or_len (is c) (front ++ c ∷ rest) ≡ length front
position_at c [] rest lacks = ap (λ t. cond (not t) (1 + position_or_len (is c) rest) 0) (eq-eqb c c refl)
position_at c (x ∷ front) rest lacks =
    let here = ne_eqb x c (All-head (λ b. b ≢ c) x front lacks) in
    let after = position_at c front rest (All-tail (λ b. b ≢ c) x front lacks) in
    ap (λ t. cond (not t) (1 + position_or_len (is c) (front ++ c ∷ rest)) 0) here ∙ omega (arith, after)

position_lacks : (c : ℕ) (bytes : List ℕ) → Lacks c bytes → position_or_len (is c) bytes ≡ length bytes
position_lacks c bytes lacks = position_or_len_is (is c) bytes (length bytes) 0 (omega arith) (λ k l. ne_eqb _ c (lacks k 0 l)) (λ l. absurd (omega arith))

before_at : (c : ℕ) (front rest : List ℕ) → Lacks c front → before_first (is c) (front ++ c ∷ rest) ≡ front
before_at c front rest lacks = ap (λ n. take n (front ++ c ∷ rest)) (position_at c front rest lacks) ∙ take-append_seam front (c ∷ rest)

pub after_at : (c : ℕ) (front rest : List ℕ) → Lacks c front → after_first (is c) (front ++ c ∷ rest) ≡ rest
after_at c front rest lacks = ap (λ n. drop (n + 1) (front ++ c ∷ rest)) (position_at c front rest lacks) ∙ drop-append-add front (c ∷ rest) 1

before_lacks : (c : ℕ) (bytes : List ℕ) → Lacks c bytes → before_first (is c) bytes ≡ bytes
before_lacks c bytes lacks = ap (λ n. take n bytes) (position_lacks c bytes lacks) ∙ take_all (length bytes) bytes (omega arith)

-- a list is cut at the first such byte, or lacks it
abbrev Cut : ℕ → List ℕ → Type 0
Cut c bytes = Lacks c bytes ⊎ ((front rest : List ℕ) × Lacks c front × (bytes ≡ front ++ c ∷ rest))

cut : (c : ℕ) (bytes : List ℕ) → Cut c bytes
cut c [] = inl (λ k d l. absurd (omega arith))
cut c (x ∷ bytes) = by (x == c) refl (cut c bytes)
  where
    more : (front : List ℕ) → (x == c) ≡ false → Lacks c front → Lacks c (x ∷ front)
    more front e lacks zero d l = eqb-false x c e
    more front e lacks (suc k) d l = lacks k d (omega arith)

    by : (t : Bool) → (x == c) ≡ t → Cut c bytes → Cut c (x ∷ bytes)
    by true e rest = inr ([], bytes, (λ k d l. absurd (omega arith)), ap (λ b. b ∷ bytes) (eqb-true x c e))
    by false e (inl lacks) = inl (more bytes e lacks)
    by false e (inr h) = inr (x ∷ h.0, h.1, more h.0 e h.2, ap (λ ls. x ∷ ls) h.3)

-- the words
kind_of-word_of : (k : Kind) → kind_of (word_of k) ≡ Some k
unfolding kind_of
kind_of-word_of kinds.Read = refl
kind_of-word_of kinds.Write = refl
kind_of-word_of kinds.Acquire = refl
kind_of-word_of kinds.Release = refl
kind_of-word_of kinds.Fork = refl
kind_of-word_of kinds.Join = refl
kind_of-word_of kinds.BeginMark = refl
kind_of-word_of kinds.EndMark = refl

word_or : (word : List ℕ) (here : Kind) (test : Bool) → bytes_eq word (word_of here) ≡ test → (rest : Option Kind) → ((k : Kind) → rest ≡ Some k → word ≡ word_of k) → (k : Kind) → cond test (Some here) rest ≡ Some k → word ≡ word_of k
word_or word here true same rest others k e = (bytes_eq-Decides word (word_of here)).0 same ∙ ap word_of cc
word_or word here false same rest others k e = others k e

word_of-kind_of : (word : List ℕ) (k : Kind) → kind_of word ≡ Some k → word ≡ word_of k
unfolding kind_of
word_of-kind_of word =
    word_or word kinds.Read _ refl _ (word_or word kinds.Write _ refl _ (word_or word kinds.Acquire _ refl _ (word_or word kinds.Release _ refl _
    (word_or word kinds.Fork _ refl _ (word_or word kinds.Join _ refl _ (word_or word kinds.BeginMark _ refl _ (word_or word kinds.EndMark _ refl None (λ k e. absurd cc))))))))

-- operands
drop_all : (xs : List ℕ) → drop (length xs) xs ≡ []
drop_all [] = refl
drop_all (x ∷ xs) = drop_all xs

last_of : (bytes : List ℕ) → 0 < length bytes → bytes ≡ take (length bytes - 1) bytes ++ get_or bytes (length bytes - 1) 0 ∷ []
last_of bytes some = grind (arith, common_steps, drop_more, drop_all, take-append-drop)

-- what stands after a word: `(`, bytes, `)`
closed : List ℕ → List ℕ
closed inner = 40 ∷ (inner ++ 41 ∷ [])

closed_last : (inner : List ℕ) → slice_index (closed inner) (length (closed inner) - 1) ≡ 41
unfolding closed
closed_last inner =
    let last : length (closed inner) - 1 ≡ suc (length inner) = omega (arith, length-append inner (41 ∷ [])) in
    ap (λ n. get_or (closed inner) n 0) last ∙ get_or-append_seam inner 41 [] 0

name_in-closed : (name : List ℕ) → name ≢ [] → name_in (closed name) ≡ Some name
unfolding closed name_in
name_in-closed [] some = absurd (some refl)
name_in-closed (x ∷ name) some =
    let len = length-append (x ∷ name) (41 ∷ []) in
    let long : nat_lt 2 (length (closed (x ∷ name))) ≡ true = grind (arith, nat_tests) in
    let name_len : length (closed (x ∷ name)) - 2 ≡ length (x ∷ name) = omega (arith, len) in
    let ends : (slice_index (closed (x ∷ name)) (length (closed (x ∷ name)) - 1) == 41) ≡ true = ap (λ b. b == 41) (closed_last (x ∷ name)) in
    ap (λ t. cond (t && (slice_index (closed (x ∷ name)) (length (closed (x ∷ name)) - 1) == 41)) (Some (take (length (closed (x ∷ name)) - 2) (drop 1 (closed (x ∷ name))))) None) long
    ∙ ap (λ t. cond t (Some (take (length (closed (x ∷ name)) - 2) (drop 1 (closed (x ∷ name))))) None) ends
    ∙ ap (λ n. Some (take n ((x ∷ name) ++ 41 ∷ []))) name_len
    ∙ ap Some (take-append_seam (x ∷ name) (41 ∷ []))

mark_operand-closed : (inner : List ℕ) → mark_operand (closed inner) ≡ Some []
unfolding closed mark_operand
mark_operand-closed inner =
    let len = length-append inner (41 ∷ []) in
    let long : nat_lt 1 (length (closed inner)) ≡ true = grind (arith, nat_tests) in
    let ends : (slice_index (closed inner) (length (closed inner) - 1) == 41) ≡ true = ap (λ b. b == 41) (closed_last inner) in
    grind (arith, nat_tests)

-- a call that begins with `(` and ends with `)` is closed
closed_of : (rest : List ℕ) → 0 < length rest → slice_index (40 ∷ rest) (length (40 ∷ rest) - 1) ≡ 41 → 40 ∷ rest ≡ closed (take (length rest - 1) rest)
unfolding closed
closed_of rest some ends =
    let index : suc (length rest - 1) ≡ length (40 ∷ rest) - 1 = omega arith in
    let at : get_or rest (length rest - 1) 0 ≡ 41 = ap (λ n. get_or (40 ∷ rest) n 0) index ∙ ends in
    ap (λ ls. 40 ∷ ls) (last_of rest some ∙ ap (λ b. take (length rest - 1) rest ++ b ∷ []) at)

lacks_of : (c : ℕ) (bytes : List ℕ) → position_or_len (is c) bytes ≡ length bytes → Lacks c bytes
lacks_of c bytes e = λ k d l. eqb-false _ c (fails_before_first (is c) bytes k d (omega arith))

word_lacks : (k : Kind) → Lacks 40 (word_of k)
word_lacks kinds.Read = lacks_of 40 (codes "r") refl
word_lacks kinds.Write = lacks_of 40 (codes "w") refl
word_lacks kinds.Acquire = lacks_of 40 (codes "acq") refl
word_lacks kinds.Release = lacks_of 40 (codes "rel") refl
word_lacks kinds.Fork = lacks_of 40 (codes "fork") refl
word_lacks kinds.Join = lacks_of 40 (codes "join") refl
word_lacks kinds.BeginMark = lacks_of 40 (codes "begin") refl
word_lacks kinds.EndMark = lacks_of 40 (codes "end") refl

after_word : (operation word call : List ℕ) → operation ≡ word ++ call → drop (length word) operation ≡ call
after_word operation word call e = ap (drop (length word)) e ∙ drop-append_seam word call

after_all : (operation word : List ℕ) → operation ≡ word → drop (length word) operation ≡ []
after_all operation word e = ap (drop (length word)) e ∙ drop_all word

operand_complete : (mark : Bool) (operation word operand : List ℕ) → Lacks 40 word → HasOperand mark operation word operand → HasWord operation word × (operand_of mark (drop (length word) operation) ≡ Some operand)
unfolding closed mark_operand
operand_complete false operation word name lacks h = (
  record { word_ends = lacks; spelled = inr (name ++ 41 ∷ [], h.spelled) },
  ap name_in (after_word operation word (closed name) h.spelled) ∙ name_in-closed name h.named,
)
operand_complete true operation word operand lacks (inl e, none) = (
  record { word_ends = lacks; spelled = inl e },
  ap mark_operand (after_all operation word e) ∙ ap Some (sym none),
)
operand_complete true operation word operand lacks (inr h, none) = (
  record { word_ends = lacks; spelled = inr (h.0 ++ 41 ∷ [], h.1) },
  ap mark_operand (after_word operation word (closed h.0) h.1) ∙ mark_operand-closed h.0 ∙ ap Some (sym none),
)

name_in-some : (call name : List ℕ) → name_in call ≡ Some name → (2 < length call) × (slice_index call (length call - 1) ≡ 41) × (take (length call - 2) (drop 1 call) ≡ name)
unfolding name_in
name_in-some call name e = grind (arith, nat_tests)

mark_operand-some : (rest operand : List ℕ) → mark_operand (40 ∷ rest) ≡ Some operand → (1 < length (40 ∷ rest)) × (slice_index (40 ∷ rest) (length (40 ∷ rest) - 1) ≡ 41) × (operand ≡ [])
unfolding mark_operand
mark_operand-some rest operand e = grind (arith, nat_tests)

operand_sound : (mark : Bool) (operation word operand : List ℕ) → HasWord operation word → operand_of mark (drop (length word) operation) ≡ Some operand → HasOperand mark operation word operand
unfolding closed name_in mark_operand
operand_sound mark operation word operand has e = by mark has.spelled e
  where
    in_call : (rest inner : List ℕ) → operation ≡ word ++ 40 ∷ rest → 40 ∷ rest ≡ closed inner → operation ≡ word ++ closed inner
    in_call rest inner spelled call = spelled ∙ ap (λ c. word ++ c) call

    by : (m : Bool) → (operation ≡ word) ⊎ ((rest : List ℕ) × (operation ≡ word ++ 40 ∷ rest)) → operand_of m (drop (length word) operation) ≡ Some operand → HasOperand m operation word operand
    by false (inl bare) found = absurd (let none = ap name_in (after_all operation word bare) in cc)
    by true (inl bare) found = (inl bare, (let none = ap mark_operand (after_all operation word bare) in cc))
    by false (inr h) found =
        let some = name_in-some (40 ∷ h.0) operand (sym (ap name_in (after_word operation word (40 ∷ h.0) h.1)) ∙ found) in
        let size = some.0 in
        let inner : List ℕ = take (length h.0 - 1) h.0 in
        let count : length (40 ∷ h.0) - 2 ≡ length h.0 - 1 = omega arith in
        let name_is : inner ≡ operand = sym (ap (λ n. take n h.0) count) ∙ some.2 in
        let len : length inner ≡ length h.0 - 1 = omega (arith, length-take (length h.0 - 1) h.0) in
        record {
          named = λ none. absurd (omega (arith, ap length name_is, ap length none));
          spelled = in_call h.0 inner h.1 (closed_of h.0 (omega arith) some.1) ∙ ap (λ n. word ++ closed n) name_is;
        }
    by true (inr h) found =
        let some = mark_operand-some h.0 operand (sym (ap mark_operand (after_word operation word (40 ∷ h.0) h.1)) ∙ found) in
        let size = some.0 in
        (inr (take (length h.0 - 1) h.0, in_call h.0 _ h.1 (closed_of h.0 (omega arith) some.1)), some.2)

-- lines
no_bytes : (bytes : List ℕ) → length bytes ≡ 0 → bytes ≡ []
no_bytes [] e = refl
no_bytes (x ∷ bytes) e = absurd (omega arith)

with_rest : (thread operation rest : List ℕ) → thread ≢ [] → Lacks 124 thread → before_first is_bar rest ≡ operation → meaning (thread ++ 124 ∷ rest) ≡ operation_meaning thread operation
with_rest thread operation rest named lacks operation_is = grind (arith, common_steps, position_at, length-append, meaning_is, no_bytes, before_at, after_at)

meaning-operation : (line thread operation : List ℕ) → HasOperation line thread operation → meaning line ≡ operation_meaning thread operation
meaning-operation line thread operation h = elim h.spelled [
  | inl e ↦ ap meaning e ∙ with_rest thread operation operation h.named h.thread_ends (before_lacks 124 operation h.operation_ends)
  | inr l ↦ ap meaning l.1 ∙ with_rest thread operation (operation ++ 124 ∷ l.0) h.named h.thread_ends (before_at 124 operation l.0 h.operation_ends)
]

word_before : (operation word : List ℕ) → HasWord operation word → before_first is_opening operation ≡ word
word_before operation word h = elim h.spelled [
  | inl e ↦ ap (before_first is_opening) e ∙ before_lacks 40 word h.word_ends
  | inr r ↦ ap (before_first is_opening) r.1 ∙ before_at 40 word r.0 h.word_ends
]

meaning-word : (line thread operation word : List ℕ) → HasOperation line thread operation → HasWord operation word → meaning line ≡ meaning_with thread (kind_of word) (drop (length word) operation)
unfolding operation_meaning
meaning-word line thread operation word has word_has =
    meaning-operation line thread operation has ∙ ap (λ w. meaning_with thread (kind_of w) (drop (length w) operation)) (word_before operation word word_has)

meaning-kind : (line thread operation : List ℕ) (k : Kind) → HasOperation line thread operation → HasWord operation (word_of k) → meaning line ≡ event_with thread k (operand_of (is_mark k) (drop (length (word_of k)) operation))
meaning-kind line thread operation k has word_has =
    meaning-word line thread operation (word_of k) has word_has ∙ ap (λ o. meaning_with thread o (drop (length (word_of k)) operation)) (kind_of-word_of k)

meaning-bare : (line : List ℕ) → length line ≢ 0 → position_or_len is_bar line ≡ length line → meaning line ≡ Err faults.MissingField
unfolding meaning
meaning-bare line some index = grind (arith, nat_tests)

meaning-unnamed : (line : List ℕ) → length line ≢ 0 → position_or_len is_bar line ≡ 0 → meaning line ≡ Err faults.EmptyThread
unfolding meaning
meaning-unnamed line some index = grind (arith, nat_tests)

meaning-empty : meaning [] ≡ Ok None
unfolding meaning
meaning-empty = refl

no_kind : (word : List ℕ) → ((k : Kind) → word ≢ word_of k) → (found : Option Kind) → kind_of word ≡ found → kind_of word ≡ None
no_kind word none None e = e
no_kind word none (Some k) e = absurd (none k (word_of-kind_of word k e))

no_operand : (found : Option (List ℕ)) → ((operand : List ℕ) → found ≡ Some operand → ⊥) → found ≡ None
no_operand None none = refl
no_operand (Some operand) none = absurd (none operand refl)

-- what the grammar says is what is computed
pub meaning_of-IsLine : (line : List ℕ) (m : Meaning) → IsLine line m → meaning line ≡ m
meaning_of-IsLine line (Ok None) h = ap meaning h ∙ meaning-empty
meaning_of-IsLine line (Ok (Some e)) h =
    let operand = operand_complete (is_mark e.kind) h.0 (word_of e.kind) e.operand (word_lacks e.kind) h.2 in
    meaning-kind line e.thread h.0 e.kind h.1 operand.0 ∙ ap (event_with e.thread e.kind) operand.1
meaning_of-IsLine line (Err faults.MissingField) h = meaning-bare line (λ e. h.0 (no_bytes line e)) (position_lacks 124 line h.1)
meaning_of-IsLine line (Err faults.EmptyThread) h = ap meaning h.1 ∙ meaning-unnamed (124 ∷ h.0) (λ e. absurd (omega arith)) refl
meaning_of-IsLine line (Err faults.UnknownOperation) h =
    meaning-word line h.0 h.1 h.2 h.3 h.4 ∙ ap (λ o. meaning_with h.0 o (drop (length h.2) h.1)) (no_kind h.2 h.5 _ refl)
meaning_of-IsLine line (Err faults.BadOperand) h =
    meaning-kind line h.0 h.1 h.2 h.3 h.4 ∙ ap (event_with h.0 h.2) (no_operand _ (λ operand e. h.5 operand (operand_sound (is_mark h.2) h.1 (word_of h.2) operand h.4 e)))
meaning_of-IsLine line (Err _) h = absurd h

-- the grammar says something of each line
abbrev Said : List ℕ → Type 0
Said line = (m : Meaning) × IsLine line m

said_operand : (line thread operation : List ℕ) (k : Kind) → HasOperation line thread operation → HasWord operation (word_of k) → (found : Option (List ℕ)) → operand_of (is_mark k) (drop (length (word_of k)) operation) ≡ found → Said line
said_operand line thread operation k has word_has None e =
    (Err faults.BadOperand, (thread, operation, k, has, word_has, (λ operand h. absurd (let there = (operand_complete (is_mark k) operation (word_of k) operand (word_lacks k) h).1 in cc))))
said_operand line thread operation k has word_has (Some operand) e =
    (Ok (Some (record { thread = thread; kind = k; operand = operand })), (operation, has, operand_sound (is_mark k) operation (word_of k) operand word_has e))

said_word : (line thread operation word : List ℕ) → HasOperation line thread operation → HasWord operation word → (found : Option Kind) → kind_of word ≡ found → Said line
said_word line thread operation word has word_has None e =
    (Err faults.UnknownOperation, (thread, operation, word, has, word_has, (λ k same. absurd (let there = ap kind_of same ∙ kind_of-word_of k in cc))))
said_word line thread operation word has word_has (Some k) e =
    said_operand line thread operation k has (subst (HasWord operation) (word_of-kind_of word k e) word_has) _ refl

said_operation : (line thread operation : List ℕ) → HasOperation line thread operation → Said line
said_operation line thread operation has = by (cut 40 operation)
  where
    by : Cut 40 operation → Said line
    by (inl lacks) = said_word line thread operation operation has (record { word_ends = lacks; spelled = inl refl }) _ refl
    by (inr h) = said_word line thread operation h.0 has (record { word_ends = h.2; spelled = inr (h.1, h.3) }) _ refl

said_thread : (line thread rest : List ℕ) → thread ≢ [] → Lacks 124 thread → line ≡ thread ++ 124 ∷ rest → Said line
said_thread line thread rest named lacks spelled = by (cut 124 rest)
  where
    by : Cut 124 rest → Said line
    by (inl bare) = said_operation line thread rest (record { named = named; thread_ends = lacks; operation_ends = bare; spelled = inl spelled })
    by (inr h) = said_operation line thread h.0 (record { named = named; thread_ends = lacks; operation_ends = h.2; spelled = inr (h.1, spelled ∙ ap (λ r. thread ++ 124 ∷ r) h.3) })

said : (line : List ℕ) → Said line
said [] = (Ok None, refl)
said (x ∷ line) = by (cut 124 (x ∷ line))
  where
    by : Cut 124 (x ∷ line) → Said (x ∷ line)
    by (inl lacks) = (Err faults.MissingField, ((λ e. absurd cc), lacks))
    by (inr h) = threads h.0 h.1 h.2 h.3
      where
        threads : (thread rest : List ℕ) → Lacks 124 thread → x ∷ line ≡ thread ++ 124 ∷ rest → Said (x ∷ line)
        threads [] rest lacks e = (Err faults.EmptyThread, (rest, e))
        threads (y ∷ thread) rest lacks e = said_thread (x ∷ line) (y ∷ thread) rest (λ none. absurd cc) lacks e

-- what is computed is what the grammar says
pub IsLine-meaning : (line : List ℕ) → IsLine line (meaning line)
IsLine-meaning line = let h = said line in subst (IsLine line) (sym (meaning_of-IsLine line h.0 h.1)) h.1
