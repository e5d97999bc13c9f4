-- The words of a summary row, put together.
use Rattle.std.proofs.Common.{◌≡◌, ℕ, List, [], ◌∷◌, ◌++◌, length, reverse, refl, sym, ap, ◌∙◌}
use Rattle.std.specs.List.{join_with_byte}
use Rattle.std.specs.Prelude.{codes, decimal}
use Rattle.std.proofs.lemmas.Grind.{flat_map-append}
use Rattle.std.proofs.lemmas.List.{append_assoc}
use Rattle.irq_base.specs.declared.numbers.LineNo.{LineNo}
use Rattle.irq_base.specs.declared.entries.Entry.{Entry}
use Rattle.log_text.specs.Spaced.{spaced}
use Rattle.log_text.proofs.Spacing.{joined}
use Rattle.log_summary.specs.Gained.{AreCountsOf, count_words}
use Rattle.log_summary.specs.Texts.{state_word, summary_words, summary_text}
use Rattle.log_summary.specs.declared.counts.Counts.{Counts}

-- pieces that are added one after another are one row of words
spaced_on : (text : List ℕ) (xs ys : List (List ℕ)) → (text ++ spaced xs) ++ spaced ys ≡ text ++ spaced (xs ++ ys)
spaced_on text xs ys = append_assoc text (spaced xs) (spaced ys) ∙ ap (λ rest. text ++ rest) (sym (flat_map-append (λ word. 32 ∷ word) xs ys))

four : (word : List ℕ) (a b c d : List (List ℕ)) → (((word ++ spaced a) ++ spaced b) ++ spaced c) ++ spaced d
    ≡ join_with_byte 32 (word ∷ (((a ++ b) ++ c) ++ d))
four word a b c d =
    ap (λ text. (text ++ spaced c) ++ spaced d) (spaced_on word a b)
    ∙ (ap (λ text. text ++ spaced d) (spaced_on word (a ++ b) c) ∙ (spaced_on word ((a ++ b) ++ c) d ∙ sym (joined word (((a ++ b) ++ c) ++ d))))

-- the words of the counts and of the state are the words of the history's summary
words_are : (line : LineNo) (h : List Entry) (c : Counts) (state : List ℕ) → AreCountsOf h c → state ≡ state_word (reverse h)
    → codes "line" ∷ ((((decimal line.0 ∷ []) ++ (codes "entries" ∷ decimal (length h) ∷ [])) ++ count_words c) ++ (state ∷ [])) ≡ summary_words line h
words_are line h c state k is = rw (k.asks, k.takes, k.runs, k.threads, k.served, is) refl

-- so a row to which they are added piece by piece is the summary row
pub row_is : (line : LineNo) (h : List Entry) (c : Counts) (state : List ℕ) (number count : ℕ) → AreCountsOf h c
    → state ≡ state_word (reverse h) → number ≡ line.0 → count ≡ length h
    → (empty named numbered begun counted stated whole : List ℕ)
    → empty ≡ [] → named ≡ empty ++ codes "line" → numbered ≡ named ++ spaced (decimal number ∷ [])
    → begun ≡ numbered ++ spaced (codes "entries" ∷ decimal count ∷ []) → counted ≡ begun ++ spaced (count_words c)
    → stated ≡ counted ++ spaced (state ∷ []) → whole ≡ stated ++ codes "\n" → whole ≡ summary_text line h
row_is line h c state number count k is a_line a_length empty named numbered begun counted stated whole e0 e1 e2 e3 e4 e5 e6 =
    let n1 : named ≡ codes "line" = e1 ∙ ap (λ text. text ++ codes "line") e0 in
    let n2 = e2 ∙ (ap (λ text. text ++ spaced (decimal number ∷ [])) n1 ∙ ap (λ n. codes "line" ++ spaced (decimal n ∷ [])) a_line) in
    let n3 = e3 ∙ (ap (λ text. text ++ spaced (codes "entries" ∷ decimal count ∷ [])) n2
    ∙ ap (λ n. (codes "line" ++ spaced (decimal line.0 ∷ [])) ++ spaced (codes "entries" ∷ decimal n ∷ []))
    a_length) in
    let n4 = e4 ∙ ap (λ text. text ++ spaced (count_words c)) n3 in
    let n5 = e5 ∙ ap (λ text. text ++ spaced (state ∷ [])) n4 in
    e6 ∙ ap (λ text. text ++ codes "\n")
    (n5 ∙ (four (codes "line") (decimal line.0 ∷ []) (codes "entries" ∷ decimal (length h) ∷ []) (count_words c)
    (state ∷ []) ∙ ap (join_with_byte 32) (words_are line h c state k is)))
