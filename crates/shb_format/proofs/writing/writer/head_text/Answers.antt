use Rattle.std.proofs.Common.{◌≡◌, ℕ, List, [], ◌∷◌, ◌++◌, codes, ◌∙◌, append_assoc}
use Rattle.shb_format.proofs.Words.{decimal}
use Rattle.shb_format.proofs.writing.writer.head_text.Goals as goal

-- pieces that were pushed one after another
pushed : (a b c d e f : List ℕ) → (((((([] ++ a) ++ b) ++ c) ++ d) ++ e) ++ f) ≡ a ++ (b ++ (c ++ (d ++ (e ++ f))))
pushed a b c d e f =
    append_assoc (((a ++ b) ++ c) ++ d) e f ∙ append_assoc ((a ++ b) ++ c) d (e ++ f) ∙ append_assoc (a ++ b) c (d ++ (e ++ f)) ∙ append_assoc a b (c ++ (d ++ (e ++ f)))

-- the lines that they are
head_pieces : (events threads locks variables races : List ℕ)
    → (codes "shb-report 2\nevents " ++ events) ++ ((codes " threads " ++ threads) ++ ((codes " locks " ++ locks) ++ ((codes " variables " ++ variables) ++ ((codes "\nraces " ++ races) ++ codes "\n"))))
    ≡ codes "shb-report 2" ++ (10 ∷ ((codes "events " ++ (events ++ (codes " threads " ++ (threads ++ (codes " locks " ++ (locks ++ (codes " variables " ++ variables))))))) ++ (10 ∷ ((codes "races " ++ races) ++ (10 ∷ [])))))
head_pieces events threads locks variables races = simp append_assoc

pub returns : goal.returns
returns c =
    let counts = c.args.counts.now in
    rw (
      c.push_byte.ensures,
      c.push_labelled-5.ensures.text,
      c.push_labelled-4.ensures.text,
      c.push_labelled-3.ensures.text,
      c.push_labelled-2.ensures.text,
      c.push_labelled.ensures.text,
      c.new-text.ensures,
    )
    (pushed
    (codes "shb-report 2\nevents " ++ decimal counts.events)
    (codes " threads " ++ decimal counts.threads)
    (codes " locks " ++ decimal counts.locks)
    (codes " variables " ++ decimal counts.variables)
    (codes "\nraces " ++ decimal c.args.races)
    (codes "\n")
    ∙ head_pieces (decimal counts.events) (decimal counts.threads) (decimal counts.locks) (decimal counts.variables) (decimal c.args.races))
