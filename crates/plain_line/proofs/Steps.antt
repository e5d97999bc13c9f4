-- One more entry on a plain line.
use Rattle.std.proofs.Common.{◌≡◌, ◌+◌, ◌<◌, ◌≤◌, List, [], ◌∷◌, ◌++◌, Option, Some, length, reverse, sym, ap, subst, ◌∙◌, arith}
use Rattle.std.proofs.lemmas.List.{length-reverse, reverse-append, length-append}
use Rattle.irq_base.specs.declared.devices.Run.{Run}
use Rattle.irq_base.specs.declared.entries.Actor.{Actor}
use Rattle.irq_base.specs.declared.entries.Entry.{Entry}
use Rattle.irq_base.specs.declared.lines.LineDef.{LineDef}
use Rattle.irq_model.specs.Legal.{IsLegal, IsLegalPast, IsDue}
use Rattle.irq_model.specs.Next.{next, next_past}
use Rattle.irq_model.specs.Valid.{IsValid}
use Rattle.irq_laws.proofs.OwnLaws.{due_is_own, due_is_own_past}
use Rattle.callbacks.specs.Heard.{Heard, one_run}
use Rattle.irq_line.specs.Answers.{Adds}
use Rattle.irq_line.specs.Runs.{run_of, run_of_entry, run_ended}
use Rattle.irq_line.specs.Seen.{LineSeen}
use Rattle.plain_line.specs.Line.{IsPlain}
use Rattle.plain_line.specs.Looked.{IsLooked}
use Rattle.plain_line.specs.declared.looking.Looked.{Looked}

-- what is due of the actor is due
pub due_there : (def : LineDef) (past : List Entry) (a : Actor) (e : Entry) → next_past def past a ≡ Some e → IsDue def e past
due_there def past a e due = ap (next_past def past) (due_is_own_past def past a e due) ∙ due

pub adds : (old new : LineSeen) (who : Actor) (entry : Entry)
    → next old.def old.entries who ≡ Some entry
    → length old.entries < old.def.log
    → new.def ≡ old.def → new.entries ≡ old.entries ++ entry ∷ [] → old.spare ≤ new.spare + 1
    → Adds old who entry new
adds old new who entry due below def entries spare = record {
  due = due;
  actor = due_is_own old.def old.entries who entry due;
  below = below;
  def = def;
  entries = entries;
  spare = spare;
}

pub legal_more : (def : LineDef) (entries past more : List Entry) (e : Entry)
    → past ≡ reverse entries → more ≡ e ∷ past → IsDue def e past → IsLegal def entries → IsLegalPast def more
legal_more def entries past more e is made due legal =
    subst (λ (p : List Entry). IsLegalPast def p) (sym made) (due, subst (λ (p : List Entry). IsLegalPast def p) (sym is) legal)

pub few_more : (def : LineDef) (entries past more : List Entry) (e : Entry)
    → IsValid def → length entries < def.log → past ≡ reverse entries → more ≡ e ∷ past → length more ≤ 100000000
few_more def entries past more e valid below is made =
    let long : length past ≡ length entries = ap length is ∙ length-reverse entries in
    let one : length more ≡ length past + 1 = ap length made ∙ omega arith in
    omega (arith, long, one, below, valid.small_log)

newest : (entries : List Entry) (e : Entry) → reverse (entries ++ e ∷ []) ≡ e ∷ reverse entries
newest entries e = reverse-append entries (e ∷ [])

pub plain_more : (def : LineDef) (entries past more : List Entry) (e : Entry) (l k : Looked)
    → IsPlain def entries l → length entries < def.log → past ≡ reverse entries → more ≡ e ∷ past → IsDue def e past → IsLooked def more k
    → IsPlain def (entries ++ e ∷ []) k
plain_more def entries past more e l k old below is made due looked =
    let all : more ≡ reverse (entries ++ e ∷ []) = made ∙ (ap (λ (p : List Entry). e ∷ p) is ∙ sym (newest entries e)) in
    let long : length (entries ++ e ∷ []) ≡ length entries + 1 = length-append entries (e ∷ []) in
    record {
      valid = old.valid;
      runs = old.runs;
      legal = subst (λ (p : List Entry). IsLegalPast def p) all (legal_more def entries past more e is made due old.legal);
      log = omega (arith, long, below);
      looked = subst (λ (p : List Entry). IsLooked def p k) all looked;
    }

-- what was looked up in the past of the line is due on it
pub due_on : (line : LineSeen) (past : List Entry) (o : Option Entry) (a : Actor) (e : Entry)
    → past ≡ reverse line.entries → o ≡ next_past line.def past a → o ≡ Some e → next line.def line.entries a ≡ Some e
due_on line past o a e is looked there = sym (looked ∙ ap (λ (p : List Entry). next_past line.def p a) is) ∙ there

-- the run that ends on the line is the one that was looked up in its past
pub ended_on : (line : LineSeen) (past : List Entry) (e : Entry) → past ≡ reverse line.entries
    → run_ended line.def past e ≡ run_ended line.def (reverse line.entries) e
ended_on line past e is = ap (λ (p : List Entry). run_ended line.def p e) is

module _ {E : Type 0} (hears : E → Run → E → Type 0) where
  pub heard_on : (line : LineSeen) (past : List Entry) (e : Entry) (ears after : E) → past ≡ reverse line.entries
      → Heard hears (one_run (run_ended line.def past e)) ears after
      → Heard hears (one_run (run_ended line.def (reverse line.entries) e)) ears after
  heard_on line past e ears after is h = subst (λ (o : Option Run). Heard hears (one_run o) ears after) (ended_on line past e is) h

-- the run of the entry that is due of the actor
pub run_on : (line : LineSeen) (a : Actor) (e : Entry) (run : Run) → next line.def line.entries a ≡ Some e
    → run_ended line.def (reverse line.entries) e ≡ Some run → run_of line.def line.entries a ≡ Some run
run_on line a e run due ends = ap (run_of_entry line.def (reverse line.entries)) due ∙ ends
