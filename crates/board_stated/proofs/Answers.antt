-- More answers of a told device keep the rules of boards.
use Rattle.std.proofs.Common.{◌≡◌, ◌+◌, ◌≤◌, true, false, ◌&&◌, nat_lt, Option, Some, None, List, [], ◌∷◌}
use Rattle.std.proofs.Common.{length, refl, sym, ap, ◌∙◌, subst, arith}
use Rattle.std.specs.List.{All, flat_map}
use Rattle.std.proofs.Math.ListN.{length-append, length-replicate}
use Rattle.std.proofs.lemmas.Bool.{ltb-false, not-false, or_parts, eq-eqb}
use Rattle.std.proofs.lemmas.List.Elements.{All-nil, All-append, All-replicate, All-head, All-tail}
use Rattle.irq_base.specs.declared.devices.DeviceDef.{DeviceDef}
use Rattle.irq_base.specs.declared.devices.Kind.{Kind}
use Rattle.irq_base.specs.declared.devices.Kind.TheVariants as kinds
use Rattle.irq_base.specs.declared.devices.Part.{Part}
use Rattle.irq_base.specs.declared.devices.Part.TheVariants as parts
use Rattle.irq_base.specs.declared.devices.ToldAnswer.{ToldAnswer}
use Rattle.irq_base.specs.declared.numbers.DevNo.{DevNo}
use Rattle.irq_base.specs.declared.numbers.LineNo.{LineNo}
use Rattle.irq_model.specs.Kinds.{same_dev}
use Rattle.irq_model.specs.Places.{count_of}
use Rattle.irq_model.specs.ValidRuns.{is_told, may_answer}
use Rattle.board_def.specs.Rules.{find_device, IsBoard}
use Rattle.board_def.specs.Runs.{is_told_one, is_allowed_answer}
use Rattle.board_def.specs.Seen.{BoardSeen}
use Rattle.board_def.specs.declared.rows.ToldRow.{ToldRow}
use Rattle.board_def.proofs.Answering.{grows_answers}
use Rattle.board_def.proofs.Grows.{all_from}
use Rattle.board_words.specs.declared.statements.AnswerWord.{AnswerWord}
use Rattle.board_words.specs.declared.statements.Statement.TheVariants as statements
use Rattle.board_stated.specs.FaultsAfter.{has_no_part, cannot_answer, count_of_answers, is_not_there, has_bad_run, is_one_too_many}
use Rattle.board_stated.specs.Sound.{IsWellFormed}
use Rattle.board_stated.specs.Stated.{line_or_none, line_of_device, answers_told, told_rows, with_statement}
use Rattle.board_stated.specs.declared.writers.Writer.{Writer}

-- ---- what holds of each answer of the words

each_told : (P : ToldRow → Type 0) (line : LineNo) (dev : DevNo) (part : Part) (answers : List AnswerWord)
    → All (λ (a : AnswerWord). P (record { line = line; dev = dev; part = part; answer = a.answer })) answers
    → All P (flat_map (answers_told line dev part) answers)
each_told P line dev part [] all = All-nil P
each_told P line dev part (a ∷ answers) all =
    let Q : AnswerWord → Type 0 = λ (a : AnswerWord). P (record { line = line; dev = dev; part = part; answer = a.answer }) in
    All-append P (answers_told line dev part a) (flat_map (answers_told line dev part) answers)
    (All-replicate P a.times (record { line = line; dev = dev; part = part; answer = a.answer }) (All-head Q a answers all))
    (each_told P line dev part answers (All-tail Q a answers all))

pub count_told : (line : LineNo) (dev : DevNo) (part : Part) (answers : List AnswerWord)
    → length (flat_map (answers_told line dev part) answers) ≡ count_of_answers answers
count_told line dev part [] = refl
count_told line dev part (a ∷ answers) =
    let row : ToldRow = record { line = line; dev = dev; part = part; answer = a.answer } in
    omega (
      arith,
      count_told line dev part answers,
      length-replicate a.times row,
      length-append (answers_told line dev part a) (flat_map (answers_told line dev part) answers),
    )

-- ---- the device may answer so

-- a told device, by its parts
may_by : (kind : Kind) (part : Part) (a : ToldAnswer) → is_told kind ≡ true → (is_told kind && has_no_part part (Some (record {
  dev = record { 0 = 0 };
  line = record { 0 = 0 };
  kind = kind;
  held = false;
  forgets = false;
}))) ≡ false
    → may_answer (kinds.Told true) part a ≡ true → may_answer kind part a ≡ true
may_by (kinds.Told t) parts.Primary a told there h = refl
may_by (kinds.Told true) parts.Thread a told there h = h
may_by (kinds.Told false) parts.Thread a told there h = absurd cc
may_by kinds.Direct part a told there h = absurd cc
may_by kinds.Check part a told there h = absurd cc
may_by kinds.Null part a told there h = absurd cc
may_by kinds.Stuck part a told there h = absurd cc
may_by kinds.Odd part a told there h = absurd cc

-- of the device that is found
row_may : (o : Option DeviceDef) (dev : DevNo) (part : Part) (a : ToldAnswer) → is_told_one o ≡ true → cannot_answer part o ≡ false
    → may_answer (kinds.Told true) part a ≡ true
    → is_allowed_answer (record { line = line_or_none o; dev = dev; part = part; answer = a }) o ≡ true
row_may None dev part a told there h = absurd cc
row_may (Some x) dev part a told there h =
    ap (λ b. b && may_answer x.kind part a) (eq-eqb x.line.0 x.line.0 refl) ∙ may_by x.kind part a told (same_part part there) h
  where
    same_part : (part : Part) → (is_told x.kind && has_no_part part (Some x)) ≡ false → (is_told x.kind && has_no_part part (Some (record {
      dev = record { 0 = 0 };
      line = record { 0 = 0 };
      kind = x.kind;
      held = false;
      forgets = false;
    }))) ≡ false
    same_part parts.Primary h = h
    same_part parts.Thread h = h

rows_may : (o : Option DeviceDef) (dev : DevNo) (part : Part) (answers : List AnswerWord) → is_told_one o ≡ true → cannot_answer part o ≡ false
    → All (λ (a : AnswerWord). may_answer (kinds.Told true) part a.answer ≡ true) answers
    → All (λ (a : AnswerWord). is_allowed_answer (record { line = line_or_none o; dev = dev; part = part; answer = a.answer }) o ≡ true) answers
rows_may o dev part answers told there =
    all_from (λ (a : AnswerWord). may_answer (kinds.Told true) part a.answer ≡ true)
    (λ (a : AnswerWord). is_allowed_answer (record { line = line_or_none o; dev = dev; part = part; answer = a.answer }) o ≡ true)
    (λ a h. row_may o dev part a.answer told there h) answers

-- ---- more

pub answers_kept : (whose : Writer) (b : BoardSeen) (dev : DevNo) (part : Part) (answers : List AnswerWord) → IsBoard b
    → IsWellFormed (statements.Answers dev part answers)
    → is_not_there b (statements.Answers dev part answers) ≡ false
    → has_bad_run whose b (statements.Answers dev part answers) ≡ false
    → is_one_too_many whose b (statements.Answers dev part answers) ≡ false
    → IsBoard (with_statement whose (statements.Answers dev part answers) b)
answers_kept whose b dev part answers board formed there run room =
    let rows = told_rows b dev part answers in
    let line = line_of_device b.devices dev in
    let told = not-false (is_told_one (find_device b.devices dev)) run in
    let count = count_told line dev part answers in
    let few = or_parts (nat_lt 65536 (length b.told + count_of_answers answers))
    (nat_lt 4096 (count_of (λ (r : ToldRow). same_dev dev r.dev) b.told + count_of_answers answers)) room in
    let all = ltb-false 65536 (length b.told + count_of_answers answers) few.0 in
    let own = ltb-false 4096 (count_of (λ (r : ToldRow). same_dev dev r.dev) b.told + count_of_answers answers) few.1 in
    grows_answers b dev rows board
    (each_told (λ (r : ToldRow). r.dev ≡ dev) line dev part answers (λ k d within. refl)) told
    (subst (λ n. length b.told + n ≤ 65536) (sym count) all)
    (subst (λ n. count_of (λ (r : ToldRow). same_dev dev r.dev) b.told + n ≤ 4096) (sym count) own)
    (each_told (λ (r : ToldRow). is_allowed_answer r (find_device b.devices r.dev) ≡ true) line dev part answers
    (rows_may (find_device b.devices dev) dev part answers told there formed))
