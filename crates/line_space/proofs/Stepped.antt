-- One more entry: the drivers' places after it.
use Rattle.std.proofs.Common.{◌≡◌, ℕ, zero, suc, ◌<◌, ◌≤◌, ◌^◌, Bool, true, false, cond, Some, List, [], ◌∷◌, ◌++◌}
use Rattle.std.proofs.Common.{length, drop, reverse, refl, ap, subst, ◌∙◌, arith}
use Rattle.std.proofs.lemmas.List.{reverse-reverse, length-reverse}
use Rattle.irq_base.specs.declared.calls.Call.{Call}
use Rattle.irq_base.specs.declared.entries.Actor.{Actor}
use Rattle.irq_base.specs.declared.entries.Entry.{Entry}
use Rattle.irq_base.specs.declared.lines.LineDef.{LineDef}
use Rattle.irq_base.specs.declared.numbers.DriverNo.{DriverNo}
use Rattle.irq_model.specs.Due.{calls_by, entries_by, entries_of_call}
use Rattle.irq_model.specs.Kinds.{same_driver}
use Rattle.irq_model.specs.Legal.{IsDue}
use Rattle.irq_model.specs.Next.{next, next_past}
use Rattle.irq_model.specs.Valid.{IsValid}
use Rattle.irq_model.specs.Laid.{Laid}
use Rattle.irq_laws.proofs.LogLaws.{log_is_no_rule}
use Rattle.irq_laws.proofs.OwnLaws.{due_is_own_past}
use Rattle.irq_laws.specs.LogLimit.{with_log}
use Rattle.line_scripts.specs.Rows.{RowSeen, place_of, within_of}
use Rattle.line_marks.specs.Line.{IsLine}
use Rattle.line_marks.specs.Scripts.{IsAt}
use Rattle.line_marks.specs.State.{state_of, state_after}
use Rattle.line_state.specs.Seen.{LineStateSeen, runs_seen}
use Rattle.run_scripts.specs.Runs.{RunsSeen}
use Rattle.line_core.proofs.More.{newest, can_move, line_more}
use Rattle.line_core.specs.Moves.{Moves, CanMove}
use Rattle.line_words.specs.Scripts.{AreScripts}
use Rattle.line_space.proofs.Beside.{seen, line}
use Rattle.line_space.proofs.ReadAt.{ReadAt}

none_laid : (cs : List Call) (es : List Entry) (p k : ℕ) → cs ≡ [] → Laid cs es p k → (p ≡ 0) × (k ≡ 0)
none_laid [] es zero k none h = (refl, h.1)
none_laid [] es (suc p) k none h = absurd h
none_laid (c ∷ cs) es p k none h = absurd (let x : ⊥ = cc none in x)

laid_few : (cs : List Call) (es : List Entry) (p k : ℕ) → Laid cs es p k → p ≤ length cs
laid_few [] es zero k h = omega arith
laid_few [] es (suc p) k h = absurd h
laid_few (c ∷ cs) es zero k h = omega arith
laid_few (c ∷ cs) es (suc p) k h = let few = laid_few cs (drop (entries_of_call c es) es) p k h.1 in omega (arith, few)

calls_few : (r : DriverNo) (cs : List (DriverNo × Call)) → length (calls_by r cs) ≤ length cs
calls_few r [] = omega arith
calls_few r (c ∷ cs) = by_test (same_driver r c.0) (calls_few r cs)
  where
    by_test : (b : Bool) → length (calls_by r cs) ≤ length cs → length (cond b (c.1 ∷ calls_by r cs) (calls_by r cs)) ≤ length (c ∷ cs)
    by_test true few = omega (arith, few)
    by_test false few = omega (arith, few)

module _ (def : LineDef) (valid : IsValid def) (g : List Entry) where
  pub places_few : (p k : ℕ) (r : DriverNo) → IsAt def g r p k → p < 2 ^ 32
  places_few p k r at =
      let few = laid_few (calls_by r def.calls) (entries_by r g) p k at in
      let own = calls_few r def.calls in
      let all = valid.few_calls in
      omega (arith, few, own, all)

-- an entry that is next of an actor there
module _ {def : LineDef} {g : List Entry} {l : LineStateSeen} {scripts : List (DriverNo × RowSeen)} (read : ReadAt def g l scripts)
    (a : Actor) {e : Entry} (due : next_past def g a ≡ Some e) where
  pub is_due : IsDue def e g
  is_due = ap (next_past def g) (due_is_own_past def g a e due) ∙ due

  due_there : next (with_log def 100000000) (reverse g) a ≡ Some e
  due_there = log_is_no_rule def 100000000 (reverse g) a ∙ (ap (λ (x : List Entry). next_past def x a) (reverse-reverse g) ∙ due)

  pub may_move : CanMove a scripts
  may_move = can_move (with_log def 100000000) (reverse g) (state_of def g) scripts scripts (runs_seen (seen read)) e (line read) a due_there

  module _ (after : List (DriverNo × RowSeen)) (moves : Moves a e scripts after) where
    abbrev runs_after : RunsSeen
    runs_after = record {
      calls = l.fixed.calls;
      answers = l.fixed.answers;
      places = (state_after (with_log def 100000000) e (state_of def g)).places;
    }

    more : IsLine (with_log def 100000000) (reverse g ++ e ∷ []) (state_after (with_log def 100000000) e (state_of def g)) after runs_after
    more =
        let long = length-reverse g in
        let few = read.few in
        line_more (with_log def 100000000) (reverse g) (state_of def g) scripts after (runs_seen (seen read)) e (line read) a runs_after due_there
        (omega (arith, long, few)) moves (record { calls = read.runs.calls; answers = read.runs.answers }) refl

    back_more : reverse (reverse g ++ e ∷ []) ≡ e ∷ g
    back_more = newest (reverse g) e ∙ ap (λ (x : List Entry). e ∷ x) (reverse-reverse g)

    pub at_more : (r : DriverNo) → IsAt def (e ∷ g) r (place_of after r) (within_of after r)
    at_more r = subst (λ (x : List Entry). IsAt def x r (place_of after r) (within_of after r)) back_more (more.at r)

    pub are_more : AreScripts def after
    are_more = record {
      calls = more.calls;
      idle = λ r none. none_laid (calls_by r def.calls) (entries_by r (e ∷ g)) (place_of after r) (within_of after r) none (at_more r);
    }

    pub few_more : (r : DriverNo) → place_of after r < 2 ^ 32
    few_more r = places_few def read.valid (e ∷ g) (place_of after r) (within_of after r) r (at_more r)
