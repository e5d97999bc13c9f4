-- What was done once room was made was done to the line as it was.
use Rattle.std.proofs.Common.{◌≡◌, ◌<◌, true, is_some, Option, List, [], ◌∷◌, ◌++◌, length, reverse, sym, ap, subst, ◌∙◌, arith}
use Rattle.irq_base.specs.declared.devices.Run.{Run}
use Rattle.irq_base.specs.declared.entries.Actor.{Actor}
use Rattle.irq_base.specs.declared.entries.Entry.{Entry}
use Rattle.irq_base.specs.declared.lines.LineDef.{LineDef}
use Rattle.irq_model.specs.Next.{next}
use Rattle.irq_line.specs.Answers.{Adds, WantsAnswer}
use Rattle.irq_line.specs.Room.{MakesRoom}
use Rattle.irq_line.specs.Runs.{run_ended, run_of}
use Rattle.irq_line.specs.Seen.{LineSeen}

module _ (old mid : LineSeen) (room : MakesRoom old mid) where
  pub same_next : (who : Actor) → next mid.def mid.entries who ≡ next old.def old.entries who
  same_next who = ap (λ (d : LineDef). next d mid.entries who) room.def ∙ ap (λ (h : List Entry). next old.def h who) room.entries

  pub same_run : (who : Actor) → run_of mid.def mid.entries who ≡ run_of old.def old.entries who
  same_run who = ap (λ (d : LineDef). run_of d mid.entries who) room.def ∙ ap (λ (h : List Entry). run_of old.def h who) room.entries

  pub same_ended : (e : Entry) → run_ended mid.def (reverse mid.entries) e ≡ run_ended old.def (reverse old.entries) e
  same_ended e = ap (λ (d : LineDef). run_ended d (reverse mid.entries) e) room.def
      ∙ ap (λ (h : List Entry). run_ended old.def (reverse h) e) room.entries

  pub below_mid : length mid.entries < mid.def.log
  below_mid = subst (λ (d : LineDef). length mid.entries < d.log) (sym room.def)
      (subst (λ (h : List Entry). length h < old.def.log) (sym room.entries) room.below)

  pub added_old : (who : Actor) (e : Entry) (new : LineSeen) → Adds mid who e new → Adds old who e new
  added_old who e new a =
      let more = room.spare in
      let less = a.spare in
      record {
        due = sym (same_next who) ∙ a.due;
        actor = a.actor;
        below = room.below;
        def = a.def ∙ room.def;
        entries = a.entries ∙ ap (λ (h : List Entry). h ++ e ∷ []) room.entries;
        spare = omega (arith, more, less);
      }

  pub wants_old : (who : Actor) (new : LineSeen) → WantsAnswer mid who new → WantsAnswer old who new
  wants_old who new a =
      let more = room.spare in
      let less = a.spare in
      record {
        due = subst (λ (o : Option Run). is_some o ≡ true) (same_run who) a.due;
        below = room.below;
        def = a.def ∙ room.def;
        entries = a.entries ∙ room.entries;
        spare = omega (arith, more, less);
        kept = λ some. a.kept room.room ∙ room.kept some;
      }
