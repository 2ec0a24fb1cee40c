-- The text of some lines, and the lines of some places and blocks, one part after another.
use Rattle.std.proofs.Common.{◌≡◌, ℕ, ◌+◌, List, [], ◌∷◌, ◌++◌, length, take, refl, sym, ap, ◌∙◌, arith, append_assoc}
use Rattle.shb_format.proofs.Words.{Block, Place, block_lines, lines_text, place_lines}

pub lines_text-append : (front last : List (List ℕ)) → lines_text (front ++ last) ≡ lines_text front ++ lines_text last
lines_text-append [] last = refl
lines_text-append (line ∷ front) last = ap (λ t. line ++ (10 ∷ t)) (lines_text-append front last) ∙ sym (append_assoc line (10 ∷ lines_text front) (lines_text last))

pub joined : (front last : List (List ℕ)) (old mid new : List ℕ) → old ≡ lines_text front ++ mid → mid ≡ lines_text last ++ new → old ≡ lines_text (front ++ last) ++ new
joined front last old mid new p q =
    p ∙ ap (λ m. lines_text front ++ m) q ∙ sym (append_assoc (lines_text front) (lines_text last) new) ∙ ap (λ t. t ++ new) (sym (lines_text-append front last))

pub place_lines-append : (number : ℕ) (places more : List Place) → place_lines number (places ++ more) ≡ place_lines number places ++ place_lines (number + length places) more
place_lines-append number [] more = ap (λ n. place_lines n more) {x = number} {y = number + 0} (omega arith)
place_lines-append number (p ∷ places) more =
    let count : number + 1 + length places ≡ number + length (p ∷ places) = omega arith in
    ap (λ l. take 3 (place_lines number (p ∷ places)) ++ l) (place_lines-append (number + 1) places more ∙ ap (λ n. place_lines (number + 1) places ++ place_lines n more) count)

pub block_lines-append : (number : ℕ) (blocks more : List Block) → block_lines number (blocks ++ more) ≡ block_lines number blocks ++ block_lines (number + length blocks) more
block_lines-append number [] more = ap (λ n. block_lines n more) {x = number} {y = number + 0} (omega arith)
block_lines-append number (b ∷ blocks) more =
    let count : number + 1 + length blocks ≡ number + length (b ∷ blocks) = omega arith in
    ap (λ l. take 4 (block_lines number (b ∷ blocks)) ++ l) (block_lines-append (number + 1) blocks more ∙ ap (λ n. block_lines (number + 1) blocks ++ block_lines n more) count)
