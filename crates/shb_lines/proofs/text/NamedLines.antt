-- The line of an operation on a name is made of what it says.
use Rattle.std.proofs.Common.{◌≡◌, inl, inr, ◌++◌, ◌∷◌, ◌||◌, [], ℕ, List, Bool, true, false, cond, length, Option, None, Some, Ok, refl, sym, ap, subst, ◌∙◌, arith}
use Rattle.std.specs.List.{after_first, list_any, position_or_len}
use Rattle.std.specs.Option.{unwrap_or}
use Rattle.std.proofs.Math.ListN.{drop_of_length-le}
use Rattle.std.proofs.lemmas.Bool.{false_from_ne_true, ne_eqb}
use Rattle.std.proofs.lemmas.List.{append_assoc}
use Rattle.std.proofs.lemmas.List.Folds.{list_any_at, list_any_none}
use Rattle.std.proofs.lemmas.List.Sums.{position_or_len_is}
use Rattle.shb_lines.specs.text.Grammar.{HasOperation, HasOperand, IsCall, IsLine, Lacks, NamedEvent, is_mark, word_of}
use Rattle.shb_lines.specs.text.Meaning.{is_bar}
use Rattle.shb_lines.specs.text.TraceData.{call_line, location_after, location_of}
use Rattle.shb_lines.proofs.text.GrammarLaw.{after_at}

any_bar-lacks : (bytes : List ℕ) → Lacks 124 bytes → list_any is_bar bytes ≡ false
any_bar-lacks bytes lacks = list_any_none is_bar bytes (λ k d below. ne_eqb _ 124 (lacks k d below))

any_bar-there : (front : List ℕ) (rest : List ℕ) → list_any is_bar (front ++ 124 ∷ rest) ≡ true
any_bar-there [] rest = refl
any_bar-there (x ∷ front) rest = by (is_bar x) (any_bar-there front rest)
  where
    by : (b : Bool) → list_any is_bar (front ++ 124 ∷ rest) ≡ true → (b || list_any is_bar (front ++ 124 ∷ rest)) ≡ true
    by true there = refl
    by false there = there

-- the location, by what stands after the first bar
after : List ℕ → Option (List ℕ)
after fields = cond (list_any is_bar fields) (Some (after_first is_bar fields)) None

location-of_fields : (thread fields : List ℕ) → Lacks 124 thread → location_after (thread ++ 124 ∷ fields) ≡ after fields
unfolding after
location-of_fields thread fields lacks = ap after (after_at 124 thread fields lacks)

location-bare : (thread operation : List ℕ) → Lacks 124 thread → Lacks 124 operation → location_after (thread ++ 124 ∷ operation) ≡ None
unfolding after
location-bare thread operation thread_lacks lacks =
    location-of_fields thread operation thread_lacks ∙ ap (λ b. cond b (Some (after_first is_bar operation)) None) (any_bar-lacks operation lacks)

location-barred : (thread operation location : List ℕ) → Lacks 124 thread → Lacks 124 operation → location_after (thread ++ 124 ∷ (operation ++ 124 ∷ location)) ≡ Some location
unfolding after
location-barred thread operation location thread_lacks lacks =
    let fields : List ℕ = operation ++ 124 ∷ location in
    location-of_fields thread fields thread_lacks ∙ ap (λ b. cond b (Some (after_first is_bar fields)) None) (any_bar-there operation location)
    ∙ ap Some (after_at 124 operation location lacks)

-- a call, and what stands after it
call_before : (word name rest : List ℕ) → (word ++ 40 ∷ (name ++ 41 ∷ [])) ++ rest ≡ word ++ 40 ∷ (name ++ 41 ∷ rest)
call_before word name rest = append_assoc word (40 ∷ (name ++ 41 ∷ [])) rest ∙ ap (λ bytes. word ++ 40 ∷ bytes) (append_assoc name (41 ∷ []) rest)

call_line-operation : (line : List ℕ) (e : NamedEvent) (operation : List ℕ) → HasOperation line e.thread operation → IsCall operation (word_of e.kind) e.operand
    → line ≡ call_line e.thread e.kind e.operand (location_after line)
call_line-operation line e operation has call = elim has.spelled [
  | inl bare ↦
      bare ∙ ap (λ bytes. e.thread ++ 124 ∷ bytes) call.spelled
      ∙ ap (call_line e.thread e.kind e.operand) (sym (ap location_after bare ∙ location-bare e.thread operation has.thread_ends has.operation_ends))
  | inr more ↦
      more.1 ∙ ap (λ bytes. e.thread ++ 124 ∷ (bytes ++ 124 ∷ more.0)) call.spelled
      ∙ ap (λ bytes. e.thread ++ 124 ∷ bytes) (call_before (word_of e.kind) e.operand (124 ∷ more.0))
      ∙ ap (call_line e.thread e.kind e.operand) (sym (ap location_after more.1 ∙ location-barred e.thread operation more.0 has.thread_ends has.operation_ends))
]

pub made_of_its_names : (line : List ℕ) (e : NamedEvent) → IsLine line (Ok (Some e)) → is_mark e.kind ≡ false → line ≡ call_line e.thread e.kind e.operand (location_after line)
made_of_its_names line e h call =
    call_line-operation line e h.0 h.1 (subst (λ mark. HasOperand mark h.0 (word_of e.kind) e.operand) call h.2)

-- the location in a line is what stands after its second bar, and no bytes where there is none
pub location_from_after : (line : List ℕ) → location_of line ≡ unwrap_or (location_after line) []
location_from_after line = by (list_any is_bar fields) refl
  where
    fields : List ℕ
    fields = after_first is_bar line

    ends : list_any is_bar fields ≡ false → position_or_len is_bar fields ≡ length fields
    ends bare = position_or_len_is is_bar fields (length fields) 0 (omega arith)
        (λ k below. false_from_ne_true _ (λ there. absurd (let found = list_any_at is_bar fields k 0 below there in cc))) (λ below. absurd (omega arith))

    by : (any : Bool) → list_any is_bar fields ≡ any → location_of line ≡ unwrap_or (cond any (Some (location_of line)) None) []
    by true some = refl
    by false bare = drop_of_length-le fields (omega (arith, ends bare))
