-- One try of a worker: steps of the shared line until none of them needs an answer first.
use Rattle.std.proofs.Common.{◌≡◌, ◌<◌, ℕ, Bool, false, true, nat_eq, reverse, IfSome, IsSome, Option, Some, None, Result, Ok, Err, List, [], ◌∷◌, ◌++◌, length}
use Rattle.std.proofs.Common.{refl, sym, ap, subst, arith, ◌∙◌, append_assoc}
use Rattle.std.proofs.lemmas.Bool.Decides.{nat_tests}
use Rattle.irq_base.specs.declared.devices.Answer.{Answer}
use Rattle.irq_base.specs.declared.devices.Run.{Run}
use Rattle.irq_base.specs.declared.entries.Actor.{Actor}
use Rattle.irq_base.specs.declared.entries.Entry.{Entry}
use Rattle.irq_base.specs.declared.lines.LineDef.{LineDef}
use Rattle.irq_model.specs.Legal.{IsLegal}
use Rattle.irq_model.specs.Next.{next}
use Rattle.callbacks.specs.Heard.{Heard, one_run}
use Rattle.callbacks.specs.Seen.{IsSaidFor, SaidSeen, answer_to}
use Rattle.callbacks.proofs.Calls.{was_heard}
use Rattle.irq_line.specs.Runs.{run_ended}
use Rattle.irq_line.specs.Seen.{LineSeen, IsSound}
use Rattle.irq_line.specs.declared.answers.StepRefused.{StepRefused}
use Rattle.irq_line.specs.declared.answers.StepRefused.TheVariants as refusals
use Rattle.irq_line.specs.declared.answers.Stepped.{Stepped}
use Rattle.irq_line.specs.declared.answers.Stepped.TheVariants as stepped
use Rattle.line_lock.specs.Knows.{BeginsWith, glanced}
use Rattle.line_lock.specs.Passes.{LockSeen, PassSeen, IsPassOf}
use Rattle.line_lock.specs.Placed.{placed}
use Rattle.line_lock.specs.declared.view.Known.{Known}
use Rattle.line_lock.proofs.Placing.{begins_self, begins_more}
use Rattle.line_shared.specs.Stepping.{Steps}
use Rattle.workers.specs.Given.{IsGiven}
use Rattle.workers.specs.Tries.{CameTo, Glances, IsIdle, Tries, with_looks}
use Rattle.workers.specs.Terms.{Terms, terms_of}

-- what stays while answers are asked for
pub record Waits (line : LockSeen) (old now : PassSeen) : Type 0 where
  pub of_line : IsPassOf line now
  pub idle : now.turn ≡ false
  pub actor : now.knows.actor ≡ old.knows.actor
  pub mine : now.knows.mine ≡ old.knows.mine
  pub begins : BeginsWith now.knows.seen old.knows.seen
  pub looks : (more : List ℕ) × (now.knows.looks ≡ more ++ old.knows.looks)

pub waits_first : (line : LockSeen) (old : PassSeen) → IsPassOf line old → old.turn ≡ false → Waits line old old
waits_first line old of_line idle = record {
  of_line = of_line;
  idle = idle;
  actor = refl;
  mine = refl;
  begins = begins_self old.knows.seen;
  looks = ([], refl);
}

-- a step that left the history as it was
module _ (def : LineDef) (who : Actor) (old mid new : Known) (begins : BeginsWith mid.seen old.seen)
    (entries : List Entry) (sees : BeginsWith entries mid.seen) where
  pub same_begins : new.seen ≡ entries → BeginsWith new.seen old.seen
  same_begins is = subst (λ (h : List Entry). BeginsWith h old.seen) (sym is) (begins_more entries mid.seen old.seen sees begins)

  more_begins : (e : Entry) → new.seen ≡ entries ++ e ∷ [] → BeginsWith new.seen old.seen
  more_begins e is =
      let b = begins_more entries mid.seen old.seen sees begins in
      subst (λ (h : List Entry). BeginsWith h old.seen) (sym is) (b.0 ++ e ∷ [], ap (λ (h : List Entry). h ++ e ∷ []) b.1 ∙ append_assoc old.seen b.0 (e ∷ []))

-- what a call says is given
pub called_given : (gave : Run → Answer → Type 0) (run : Run) (said : SaidSeen) → said ≡ record { run = run; answer = answer_to run }
    → gave run said.answer → gave said.run (answer_to said.run)
called_given gave run said is given =
    subst (λ (r : Run). gave r (answer_to r)) (sym (ap (λ (s : SaidSeen). s.run) is))
    (subst (gave run) (ap (λ (s : SaidSeen). s.answer) is) given)

-- what was said before was given
pub said_given : (gave : Run → Answer → Type 0) (said : Option SaidSeen) (run : Run) → IfSome said (λ x. gave x.run (answer_to x.run))
    → IsSaidFor said run → gave run (answer_to run)
said_given gave None run given is = absurd is
said_given gave (Some x) run given is = subst (λ (r : Run). gave r (answer_to r)) is given

module _ {T E : Type 0} (seen_of : T → LineSeen) (may_want : Option Entry → Type 0) (hears : E → Run → E → Type 0)
    (lacks : E → Run → Run → Type 0) (gave : Run → Answer → Type 0) where
  module _ (line : LockSeen) (who : Actor) (old mid new : PassSeen) (ears after : E) (w : Waits line old mid) where
    abbrev pub StepsSo : Result (Stepped Run) StepRefused → Type 0
    StepsSo result = Steps seen_of may_want hears lacks line.def who mid.knows ears result new.knows after

    -- the run that ended was given
    given_of : (run : Option Run) → ((run : Run) → hears ears run after → gave run (answer_to run)) → Heard hears (one_run run) ears after
        → IfSome run (λ run. gave run (answer_to run))
    given_of None given heard = tt
    given_of (Some run) given heard = given run (was_heard hears run ears after heard)

    -- what is seen is the line's history, which is legal, and the pass knows its actor's entries there
    module _ (result : Result (Stepped Run) StepRefused) (s : StepsSo result) where
      seen_is : new.knows.seen ≡ s.after.entries
      seen_is = ap (λ (k : Known). k.seen) s.seen

      is_legal : IsLegal line.def new.knows.seen
      is_legal = subst (λ (h : List Entry). IsLegal line.def h) (sym seen_is)
          (subst (λ (d : LineDef). IsLegal d s.after.entries) s.def_after s.sound_after.legal)

      is_own : new.knows.mine ≡ placed who new.knows.seen
      is_own = s.own ∙ ap (λ (h : List Entry). placed who h) (sym seen_is)

    pub tries_added : (e : Entry) → ((run : Run) → hears ears run after → gave run (answer_to run)) → StepsSo (Ok (stepped.Added e))
        → Tries (terms_of seen_of may_want gave) line.def who old.knows (Ok (Some e)) new.knows
    tries_added e given s =
        record {
          begins = more_begins line.def who old.knows mid.knows new.knows w.begins s.line.entries s.begins e s.gains.0;
          legal = λ was. is_legal (Ok (stepped.Added e)) s;
          own = λ was. is_own (Ok (stepped.Added e)) s;
          came = record {
            history = s.line.entries;
            onto = begins_more s.line.entries mid.knows.seen old.knows.seen s.begins w.begins;
            own = sym w.mine ∙ s.mine;
            due = subst (λ (d : LineDef). next d s.line.entries who ≡ Some e) s.def s.answer.due;
            below = subst (λ (d : LineDef). length s.line.entries < d.log) s.def s.answer.below;
            seen = s.gains.0;
            mine = s.gains.1 ∙ ap (λ ps. ps ++ record { place = length s.line.entries; entry = e } ∷ []) w.mine;
            given = subst (λ (d : LineDef). IsGiven gave d (reverse s.line.entries) e) s.def
                (given_of (run_ended s.line.def (reverse s.line.entries) e) given s.heard);
          };
        }

    pub tries_not_yet : StepsSo (Ok stepped.NotYet)
        → Tries (terms_of seen_of may_want gave) line.def who old.knows (Ok None) new.knows
    tries_not_yet s =
        record {
          begins = same_begins line.def who old.knows mid.knows new.knows w.begins s.line.entries s.begins s.gains.0;
          legal = λ was. is_legal (Ok stepped.NotYet) s;
          own = λ was. is_own (Ok stepped.NotYet) s;
          came = (
            ap (λ (h : List Entry). next line.def h who) s.gains.0
                ∙ subst (λ (d : LineDef). next d s.line.entries who ≡ None) s.def s.answer.0,
            s.gains.1 ∙ w.mine,
            record {
              before = w.looks.0;
              looks = ap (λ (k : Known). k.looks) s.seen
                  ∙ (ap (λ (h : List Entry). length h ∷ mid.knows.looks) (sym (seen_is (Ok stepped.NotYet) s))
                  ∙ ap (λ (ns : List ℕ). length new.knows.seen ∷ ns) w.looks.1);
            },
          );
        }

    pub tries_refused : (refused : StepRefused) → StepsSo (Err refused) → Tries (terms_of seen_of may_want gave) line.def who old.knows (Err refused) new.knows
    tries_refused (refusals.Full number len) s =
        record {
          begins = same_begins line.def who old.knows mid.knows new.knows w.begins s.line.entries s.begins s.gains.0;
          legal = λ was. is_legal (Err (refusals.Full number len)) s;
          own = λ was. is_own (Err (refusals.Full number len)) s;
          came = (
            record {
              due = subst (λ (h : List Entry). IsSome (next line.def h who)) (sym s.gains.0)
                  (subst (λ (d : LineDef). IsSome (next d s.line.entries who)) s.def s.answer.0.due);
              length = ap length s.gains.0 ∙ full;
            },
            s.answer.0.line_is ∙ ap (λ (d : LineDef). d.line) s.def,
            s.answer.0.told ∙ full,
            s.gains.1 ∙ w.mine,
          );
        }
      where
        full : length s.line.entries ≡ line.def.log
        full = s.answer.0.log ∙ ap (λ (d : LineDef). d.log) s.def
    tries_refused refusals.NoMemory s =
        record {
          begins = same_begins line.def who old.knows mid.knows new.knows w.begins s.line.entries s.begins s.gains.0;
          legal = λ was. is_legal (Err refusals.NoMemory) s;
          own = λ was. is_own (Err refusals.NoMemory) s;
          came = (
            record {
              line = s.held;
              def = ap (λ (l : LineSeen). l.def) s.is ∙ s.def;
              entries = ap (λ (l : LineSeen). l.entries) s.is ∙ sym s.gains.0;
              sound = subst IsSound (sym s.is) s.sound;
              wants = λ room. subst (λ (h : List Entry). may_want (next line.def h who)) (sym s.gains.0)
                  (subst (λ (d : LineDef). may_want (next d s.line.entries who)) s.def
                  (s.memory (let e = ap (λ (l : LineSeen). l.spare) s.is in omega (arith, room, e))));
            },
            s.gains.1 ∙ w.mine,
          );
        }

    pub waits_on : (run : Run) → StepsSo (Ok (stepped.Lacks run)) → IsPassOf line new
        → new.turn ≡ false → new.knows.actor ≡ mid.knows.actor → Waits line old new
    waits_on run s of_line idle actor =
        record {
          of_line = of_line;
          idle = idle;
          actor = actor ∙ w.actor;
          mine = s.gains.1 ∙ w.mine;
          begins = same_begins line.def who old.knows mid.knows new.knows w.begins s.line.entries s.begins s.gains.0;
          looks = (
            length s.after.entries ∷ w.looks.0,
            ap (λ (k : Known). k.looks) s.seen ∙ ap (λ (ns : List ℕ). length s.after.entries ∷ ns) w.looks.1,
          );
        }

pub its_actor : (o : Option Actor) → IsSome o → (who : Actor) × (o ≡ Some who)
its_actor None is = cc
its_actor (Some who) is = (who, refl)

-- when a look found that nothing happened since nothing was due
pub tries_still : (terms : Terms) (def : LineDef) (who : Actor) (k new : Known) → IsIdle def who k → Glances k true new
    → Tries terms def who k (Ok None) new
tries_still terms def who k new idle glanced =
    subst (λ (x : Known). Tries terms def who k (Ok None) x) (sym glanced) (record {
      begins = begins_self k.seen;
      legal = λ was. was;
      own = λ was. was;
      came = (idle, refl, record { before = []; looks = refl });
    })

-- looks before a try are no part of what it comes to
pub after_looks : (terms : Terms) (def : LineDef) (who : Actor) (k mid new : Known) (tried : Result (Option Entry) StepRefused)
    → Glances k false mid → Tries terms def who mid tried new → Tries terms def who k tried new
after_looks terms def who k mid new tried glanced t =
    of_looks (subst (λ (x : Known). Tries terms def who x tried new) glanced.1 t)
  where
    came_as : (r : Result (Option Entry) StepRefused) → CameTo terms def who (with_looks k glanced.0) r new → CameTo terms def who k r new
    came_as (Ok (Some e)) g = record {
      history = g.history;
      onto = g.onto;
      own = g.own;
      due = g.due;
      below = g.below;
      seen = g.seen;
      mine = g.mine;
      given = g.given;
    }
    came_as (Ok None) came = (
      came.0,
      came.1,
      record {
        before = came.2.before ++ glanced.0;
        looks = came.2.looks ∙ ap (λ (ns : List ℕ). length new.seen ∷ ns) (sym (append_assoc came.2.before glanced.0 k.looks));
      },
    )
    came_as (Err (refusals.Full number len)) came = came
    came_as (Err refusals.NoMemory) came = came

    of_looks : Tries terms def who (with_looks k glanced.0) tried new → Tries terms def who k tried new
    of_looks u = record { begins = u.begins; legal = u.legal; own = u.own; came = came_as tried u.came }

pub actor_after_looks : (k mid : Known) → Glances k false mid → mid.actor ≡ k.actor
actor_after_looks k mid glanced = ap (λ (x : Known). x.actor) glanced.1

-- a look at the count
pub glances_so : (k mid new : Known) (found front : ℕ) → mid ≡ k → new ≡ glanced mid found → front ≡ length new.seen
    → Glances k (nat_eq found front) new
glances_so k mid new found front same is all = by_test (nat_eq found front) refl
  where
    glanced_is : new ≡ with_looks k (found ∷ [])
    glanced_is = is ∙ ap (λ (x : Known). with_looks x (found ∷ [])) same

    front_is : front ≡ length k.seen
    front_is = all ∙ ap (λ (x : Known). length x.seen) glanced_is

    by_test : (b : Bool) → nat_eq found front ≡ b → Glances k b new
    by_test true equal = let e : found ≡ front = grind (arith, nat_tests, equal) in
        glanced_is ∙ ap (λ (n : ℕ). with_looks k (n ∷ [])) (e ∙ front_is)
    by_test false apart = (found ∷ [], glanced_is)
