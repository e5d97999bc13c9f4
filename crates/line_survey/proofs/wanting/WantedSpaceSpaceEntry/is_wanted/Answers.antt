use Rattle.std.proofs.Common.{◌≡◌, ◌≤◌, List, length, ap, sym, subst, ◌∙◌, arith}
use Rattle.irq_base.specs.declared.entries.Entry.{Entry}
use Rattle.irq_base.specs.declared.lines.LineDef.{LineDef}
use Rattle.irq_model.specs.Legal.{IsLegalPast}
use Rattle.irq_model.specs.ValidRuns.{HasValidRuns}
use Rattle.line_space.proofs.SearchLaws.{path_is_legal}
use Rattle.line_wanted.specs.Left.{Leaves}
use Rattle.line_words.specs.Node.{node}
use Rattle.line_survey.proofs.Lefts.{same_left}
use Rattle.line_survey.proofs.Meeting.{row_met, moves_on, rest_met, rest_unmet, other_left}
use Rattle.line_survey.specs.Kept.{IsValidLine}
use Rattle.line_survey.specs.Rests.{IsStill}
use Rattle.line_survey.specs.Wanting.{WantedSeen}
use Rattle.line_survey.proofs.wanting.WantedSpaceSpaceEntry.is_wanted.Goals as goal

pub returns-in-Row-clause-wanted : goal.returns-in-Row-clause-wanted
returns-in-Row-clause-wanted c = λ yes.
    let is = sym (ap (λ (v : WantedSeen). v.wanted) c.self.view_is) ∙ c.in-Row.is in
    row_met c.args.self.now c.args.words.now c.args.found.now c.requires.steps c.in-Row.entry is (c.has_entry.ensures.has yes)

pub returns-then-len-gt0-clause-unwanted : goal.returns-then-len-gt0-clause-unwanted
returns-then-len-gt0-clause-unwanted c = λ no.
    let is = sym (ap (λ (v : WantedSeen). v.wanted) c.self.view_is) ∙ c.in-Rest.is in
    let asked : IsValidLine c.args.self.now.def = subst (λ (v : WantedSeen). IsValidLine v.def) c.self.view_is
    (record { valid = c.self.invariant.valid; runs = c.self.invariant.valid_runs }) in
    moves_on c.args.self.now c.args.words.now c.args.found.now c.requires.steps asked c.in-Rest.left is (omega (arith, c.len.ensures, c.if-len-gt0.true))

pub left-requires-clause-past : goal.left-requires-clause-past
left-requires-clause-past c =
    let P : LineDef → Type 0 = λ d. (past : List Entry) × IsLegalPast d past × (c.args.words.now ≡ node d past) × (length past ≤ 100000000) in
    let r = c.requires.reached in
    let def = c.args.self.now.def in
    let same : def ≡ c.def.result.now = sym (ap (λ (v : WantedSeen). v.def) c.self.view_is) ∙ sym c.def.ensures in
    let past : P def = (r.0, path_is_legal def r.0 r.1, sym r.2, omega (arith, r.3)) in
    subst P same past

pub returns-in_ok-left-in-Rest-clause-wanted : goal.returns-in_ok-left-in-Rest-clause-wanted
returns-in_ok-left-in-Rest-clause-wanted c = λ yes.
    let is = sym (ap (λ (v : WantedSeen). v.wanted) c.self.view_is) ∙ c.in-Rest.is in
    let asked : IsValidLine c.args.self.now.def = subst (λ (v : WantedSeen). IsValidLine v.def) c.self.view_is
    (record { valid = c.self.invariant.valid; runs = c.self.invariant.valid_runs }) in
    let none : length c.args.found.now ≡ 0 = omega (arith, c.len.ensures, c.if-len-gt0.false) in
    let told = c.in_ok-left-in-Rest.field-0 in
    let T : LineDef → Type 0 = λ d. (past : List Entry) → HasValidRuns d → IsLegalPast d past → c.args.words.now ≡ node d past
    → IsStill d past → Leaves d told past in
    let tells = subst T (c.def.ensures ∙ ap (λ (v : WantedSeen). v.def) c.self.view_is) c.in_ok-left-in-Rest.ensures.left in
    rest_met c.args.self.now c.args.words.now c.args.found.now c.requires.steps asked c.in-Rest.left is none told (λ past. tells past asked.runs)
    (same_left told c.in-Rest.left (sym c.eq.ensures ∙ yes))

pub returns-in_ok-left-in-Rest-clause-unwanted : goal.returns-in_ok-left-in-Rest-clause-unwanted
returns-in_ok-left-in-Rest-clause-unwanted c = λ no.
    let is = sym (ap (λ (v : WantedSeen). v.wanted) c.self.view_is) ∙ c.in-Rest.is in
    let asked : IsValidLine c.args.self.now.def = subst (λ (v : WantedSeen). IsValidLine v.def) c.self.view_is
    (record { valid = c.self.invariant.valid; runs = c.self.invariant.valid_runs }) in
    let none : length c.args.found.now ≡ 0 = omega (arith, c.len.ensures, c.if-len-gt0.false) in
    let told = c.in_ok-left-in-Rest.field-0 in
    let T : LineDef → Type 0 = λ d. (past : List Entry) → HasValidRuns d → IsLegalPast d past → c.args.words.now ≡ node d past
    → IsStill d past → Leaves d told past in
    let tells = subst T (c.def.ensures ∙ ap (λ (v : WantedSeen). v.def) c.self.view_is) c.in_ok-left-in-Rest.ensures.left in
    rest_unmet c.args.self.now c.args.words.now c.args.found.now c.requires.steps asked c.in-Rest.left is none told (λ past. tells past asked.runs)
    (other_left told c.in-Rest.left (sym c.eq.ensures ∙ no))
