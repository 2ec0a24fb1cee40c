-- The pieces of a block, one after another, are its lines.
use Rattle.shb_format.proofs.Words.{TraceData, block_bytes, common_steps, decimal, event_lines, event_numbers, length-map, lines_text, listed, race_numbers_line, schedule_lines, schedule_start}
use Rattle.std.proofs.Common.{◌≡◌, ℕ, ◌+◌, List, [], ◌∷◌, ◌++◌, length, map, codes, Option, Some, refl, sym, ap, ◌∙◌, append_assoc, arith}

numbers_are : (events : List ℕ) → event_numbers events ≡ listed (map (λ event. event + 1) events)
numbers_are [] = refl
numbers_are (e ∷ events) = append_assoc (codes " ") (decimal (e + 1)) (event_numbers events) ∙ ap (λ l. codes " " ++ (decimal (e + 1) ++ l)) (numbers_are events)

schedule_pieces : (count events : List ℕ) → (codes "schedule " ++ (count ++ codes ":")) ++ (events ++ codes "\n") ≡ (codes "schedule " ++ (count ++ (codes ":" ++ events))) ++ (10 ∷ [])
schedule_pieces count events = simp append_assoc

-- what is put together for a schedule is its line
pub schedule_is : (events : List ℕ) → schedule_start (length events) ++ (event_numbers events ++ codes "\n") ≡ lines_text (schedule_lines (Some events))
schedule_is events =
    schedule_pieces (decimal (length events)) (event_numbers events)
    ∙ ap (λ numbers. (codes "schedule " ++ (decimal (length events) ++ (codes ":" ++ numbers))) ++ (10 ∷ [])) (numbers_are events)
    ∙ ap (λ n. (codes "schedule " ++ (decimal n ++ (codes ":" ++ listed (map (λ event. event + 1) events)))) ++ (10 ∷ [])) (sym (length-map events (λ event. event + 1)))

block_pieces : (line first second schedule : List ℕ) → (line ++ codes "\n") ++ (((codes "first " ++ (first ++ codes "\n")) ++ (codes "second " ++ (second ++ codes "\n"))) ++ schedule)
    ≡ line ++ (10 ∷ ((codes "first " ++ first) ++ (10 ∷ ((codes "second " ++ second) ++ (10 ∷ schedule)))))
block_pieces line first second schedule = simp append_assoc

-- what is put together after the line of the race is the block
pub block_is : (trace : TraceData) (number : ℕ) (pair : ℕ × ℕ) (schedule : Option (List ℕ)) (line : List ℕ) → line ≡ race_numbers_line number (pair.0 + 1) (pair.1 + 1) ++ codes "\n"
    → line ++ (event_lines trace pair ++ lines_text (schedule_lines schedule)) ≡ block_bytes trace number pair schedule
block_is trace number pair schedule line is = grind (arith, common_steps, block_pieces)
