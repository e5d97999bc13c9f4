use Rattle.std.proofs.Common.{◌≡◌, ℕ, List, [], ◌∷◌, ◌++◌, codes, decimal, ap, ◌∙◌, append_assoc}
use Rattle.board_words.specs.FaultTexts.{fault_text}
use Rattle.program_io.proofs.error_rows.push_fault.Goals as goal

-- five pieces after what stands
regroup : (r a n b t e : List ℕ) → ((((r ++ a) ++ n) ++ b) ++ t) ++ e ≡ r ++ ((((a ++ n) ++ b) ++ t) ++ e)
regroup r a n b t e =
    ap (λ xs. xs ++ e) (ap (λ xs. xs ++ t) (ap (λ xs. xs ++ b) (append_assoc r a n) ∙ append_assoc r (a ++ n) b) ∙ append_assoc r ((a ++ n) ++ b) t)
    ∙ append_assoc r (((a ++ n) ++ b) ++ t) e

pub returns : goal.returns
returns c =
    let number = decimal c.args.fault.at in
    let text = fault_text c.args.fault.kind in
    let two = c.push_number.ensures.text ∙ ap (λ xs. xs ++ number) c.push_bytes.ensures in
    let three = c.push_bytes-2.ensures ∙ ap (λ xs. xs ++ codes ": ") two in
    let four = c.push_bytes-3.ensures ∙ (ap (λ xs. c.push_bytes-2.new.self ++ xs)
    (c.as_bytes.ensures.value ∙ c.text.ensures.text) ∙ ap (λ xs. xs ++ text) three) in
    c.push.ensures ∙ (ap (λ xs. xs ++ 10 ∷ []) four ∙ regroup c.args.row.now (codes "board: line ") number (codes ": ") text (10 ∷ []))
