-- A state that was read stands beside a line's history.
use Rattle.std.proofs.Common.{◌≡◌, ◌≤◌, ◌<◌, ◌+◌, ◌^◌, List, length, reverse, refl, sym, ap, subst, ◌∙◌, arith}
use Rattle.std.proofs.lemmas.List.{reverse-reverse, length-reverse}
use Rattle.irq_base.specs.declared.entries.Entry.{Entry}
use Rattle.irq_base.specs.declared.lines.LineDef.{LineDef}
use Rattle.irq_base.specs.declared.numbers.DriverNo.{DriverNo}
use Rattle.irq_model.specs.Legal.{IsLegalPast}
use Rattle.irq_model.specs.Valid.{IsValid}
use Rattle.irq_model.specs.ValidRuns.{HasValidRuns}
use Rattle.irq_laws.specs.LogLimit.{with_log}
use Rattle.act_list.specs.Actions.{has}
use Rattle.device_table.specs.Rows.{at}
use Rattle.run_scripts.specs.Groups.{group_of}
use Rattle.run_scripts.specs.Places.{place_at}
use Rattle.run_scripts.specs.Runs.{AreRunsOf}
use Rattle.run_scripts.specs.declared.rows.RunPlace.{RunPlace}
use Rattle.line_scripts.specs.Rows.{RowSeen, place_of, within_of}
use Rattle.line_marks.specs.Line.{IsLine}
use Rattle.line_marks.specs.Scripts.{IsAt}
use Rattle.line_marks.specs.State.{StateSeen, state_of}
use Rattle.line_state.specs.Entries.{IsActivated}
use Rattle.line_state.specs.Seen.{LineStateSeen, FixedSeen, IsScripted, runs_seen}
use Rattle.line_core.proofs.More.{line_scripted}
use Rattle.line_futures.proofs.Actions.{has_same}
use Rattle.line_futures.proofs.RunsAfter.{place_same}
use Rattle.line_futures.specs.Canon.{canon, is_working, is_thread_working}
use Rattle.line_words.proofs.Past.{longer}
use Rattle.line_words.specs.Again.{unbitted}
use Rattle.line_words.specs.Scripts.{AreScripts}
use Rattle.line_space.proofs.ReadAt.{ReadAt}

-- the greatest limit of a log is as good as any
longer_runs : (def : LineDef) → HasValidRuns def → HasValidRuns (with_log def 100000000)
longer_runs def v = record {
  few_calls = v.few_calls;
  short_scripts = v.short_scripts;
  few_answers = v.few_answers;
  short_answers = v.short_answers;
  devices = v.devices;
  scripts = v.scripts;
  stand = v.stand;
  named = v.named;
  named_by_drivers = v.named_by_drivers;
  told_arms = v.told_arms;
  answers = v.answers;
  threads = v.threads;
}

-- a state that was read, with that of the history in its place
module _ (def : LineDef) (g : List Entry) (l : LineStateSeen) (scripts : List (DriverNo × RowSeen)) (valid : IsValid def) (valid_runs : HasValidRuns def)
    (legal : IsLegalPast def g) (few : length g ≤ 100000000) (runs : AreRunsOf def (runs_seen l)) (are : AreScripts def scripts)
    (places : (r : DriverNo) → IsAt def g r (place_of scripts r) (within_of scripts r)) where
  line_at : IsLine (with_log def 100000000) (reverse g) (state_of def g) scripts (runs_seen (record l { state = state_of def g }))
  line_at =
      let back = reverse-reverse g in
      let long = length-reverse g in
      record {
        valid = longer def valid;
        valid_runs = longer_runs def valid_runs;
        legal = subst (λ (x : List Entry). IsLegalPast def x) (sym back) legal;
        state = ap (state_of def) (sym back);
        calls = are.calls;
        at = λ r. subst (λ (x : List Entry). IsAt def x r (place_of scripts r) (within_of scripts r)) (sym back) (places r);
        scripted = record { calls = runs.calls; answers = runs.answers };
        places = refl;
        room = omega (arith, long, few);
      }

  scripted : IsScripted (with_log def 100000000) (record l { state = state_of def g })
  scripted = line_scripted (with_log def 100000000) (reverse g) (record { seen = record l { state = state_of def g }; scripts = scripts; is = line_at })

  -- the runs that are there are of the line's devices, and one more entry fits in each call
  pub scripted_at : unbitted l.state ≡ canon (state_of def g) → IsScripted def l
  scripted_at again = record {
    runs = runs;
    linked = λ d is. scripted.linked d (sym (has_same d (state_of def g).list.actions)
        ∙ (sym (ap (λ (x : StateSeen). has d x.list.actions) again) ∙ (has_same d l.state.list.actions ∙ is)));
    working = λ d is. scripted.working d (sym (ap (λ (x : StateSeen). x.round.working) again) ∙ is);
    threads = λ d r is. scripted.threads d r (ap (λ (x : StateSeen). at x.threads d) (sym again) ∙ is);
    within = λ d part.
        let same : place_at l.state.places d part ≡ place_at (state_of def g).places d part =
        ap (λ (x : StateSeen). place_at x.places d part) again
        ∙ place_same (is_working (state_of def g).round.working) (is_thread_working (state_of def g).threads) (state_of def g).places d part in
        subst (λ (p : RunPlace). p.within + 1 < 2 ^ 32) (sym same) (scripted.within d part);
  }

module _ {def : LineDef} {g : List Entry} {l : LineStateSeen} {scripts : List (DriverNo × RowSeen)} (read : ReadAt def g l scripts) where
  -- with the state of the history in place of the one that was read
  abbrev pub seen : LineStateSeen
  seen = record l { state = state_of def g }

  short : length g ≤ 100000000
  short = let few = read.few in omega (arith, few)

  pub line : IsLine (with_log def 100000000) (reverse g) (state_of def g) scripts (runs_seen (record l { state = state_of def g }))
  line = line_at def g l scripts read.valid read.valid_runs read.legal short read.runs read.are read.places

  pub scripted_again : IsScripted def l
  scripted_again = scripted_at def g l scripts read.valid read.valid_runs read.legal short read.runs read.are read.places read.again

  -- the chips of a state that was read are active
  pub activated_again : IsActivated l.state
  activated_again = record { enabled = λ zero. read.active; linked = λ some. read.active }

-- what no step changes
pub same_runs : (def : LineDef) (old new : LineStateSeen) → new.fixed ≡ old.fixed → AreRunsOf def (runs_seen old) → AreRunsOf def (runs_seen new)
same_runs def old new fixed are = record {
  calls = λ d part there. ap (λ (f : FixedSeen). group_of f.calls d part) fixed ∙ are.calls d part there;
  answers = λ d part there. ap (λ (f : FixedSeen). group_of f.answers d part) fixed ∙ are.answers d part there;
}
