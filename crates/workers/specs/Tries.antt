-- What a try of a worker on one line comes to.
use Rattle.std.specs.Prelude.{◌≡◌, ◌<◌, ℕ, Bool, true, false, IsSome, Option, Some, None, Result}
use Rattle.std.specs.Prelude.{Ok}
use Rattle.std.specs.Prelude.{Err, List, [], ◌∷◌, ◌++◌, length, reverse}
use Rattle.irq_base.specs.declared.devices.Answer.{Answer}
use Rattle.irq_base.specs.declared.devices.Run.{Run}
use Rattle.irq_base.specs.declared.entries.Actor.{Actor}
use Rattle.irq_base.specs.declared.entries.Entry.{Entry}
use Rattle.irq_base.specs.declared.lines.LineDef.{LineDef}
use Rattle.irq_model.specs.Legal.{IsLegal}
use Rattle.irq_model.specs.Next.{next}
use Rattle.irq_line.specs.declared.answers.StepRefused.{StepRefused}
use Rattle.irq_line.specs.declared.answers.StepRefused.TheVariants as refusals
use Rattle.line_lock.specs.Knows.{BeginsWith}
use Rattle.line_lock.specs.Placed.{placed}
use Rattle.line_lock.specs.declared.view.Known.{Known}
use Rattle.workers.specs.Given.{IsGiven}
use Rattle.workers.specs.Terms.{Terms}

-- The entry was due of the actor after some history. That history began with what the pass had
-- seen, and the actor's entries in it were those that the pass knew as its own. The entry stands at
-- the end of what is seen now, and is one of the pass's own.
-- If it ends a run, the run was answered by a call.
pub record Gains (gave : Run → Answer → Type 0) (def : LineDef) (who : Actor) (old : Known)
    (e : Entry) (new : Known) : Type 0 where
  pub history : List Entry
  pub onto : BeginsWith history old.seen
  pub own : old.mine ≡ placed who history
  pub due : next def history who ≡ Some e
  pub below : length history < def.log
  pub seen : new.seen ≡ history ++ e ∷ []
  pub mine : new.mine ≡ old.mine ++ record { place = length history; entry = e } ∷ []
  pub given : IsGiven gave def (reverse history) e

-- the pass after it looked at how many entries there are, and found these numbers, the last first
abbrev pub with_looks : Known → List ℕ → Known
with_looks k found = record k { looks = found ++ k.looks }

-- The pass has looked at the line since, and its last look found as many entries as it has seen: at
-- that moment what it has seen was the line's history.
pub record HasLooked (old new : Known) : Type 0 where
  pub before : List ℕ
  pub looks : new.looks ≡ length new.seen ∷ (before ++ old.looks)

-- a look found as many entries as were seen; or one found another number, or none was made
abbrev pub Glances : Known → Bool → Known → Type 0
Glances old true new = new ≡ with_looks old (length old.seen ∷ [])
Glances old false new = (found : List ℕ) × (new ≡ with_looks old found)

-- nothing is due of the actor on what is seen
abbrev pub IsIdle : LineDef → Actor → Known → Type 0
IsIdle def who k = next def k.seen who ≡ None

-- an entry is due of the actor on what is seen, and what is seen has the greatest length that the
-- definition allows
pub record IsFull (def : LineDef) (who : Actor) (k : Known) : Type 0 where
  pub due : IsSome (next def k.seen who)
  pub length : length k.seen ≡ def.log

-- the terms say when memory may be refused, and what the handlers gave
module _ (terms : Terms) where
  abbrev pub CameTo : LineDef → Actor → Known → Result (Option Entry) StepRefused → Known → Type 0
  CameTo def who old (Ok (Some e)) new = Gains terms.gave def who old e new
  CameTo def who old (Ok None) new =
      IsIdle def who new × (new.mine ≡ old.mine) × HasLooked old new
  CameTo def who old (Err (refusals.Full number len)) new =
      IsFull def who new × (number ≡ def.line) × (len ≡ def.log) × (new.mine ≡ old.mine)
  CameTo def who old (Err refusals.NoMemory) new =
      terms.wanted def new.seen who × (new.mine ≡ old.mine)

  -- what is seen afterwards begins with what was seen, and is legal; the pass's own entries are its
  -- actor's; and the answer is right
  pub record Tries (def : LineDef) (who : Actor) (old : Known)
      (result : Result (Option Entry) StepRefused) (new : Known) : Type 0 where
    pub begins : BeginsWith new.seen old.seen
    pub legal : IsLegal def old.seen → IsLegal def new.seen
    pub own : old.mine ≡ placed who old.seen → new.mine ≡ placed who new.seen
    pub came : CameTo def who old result new

abbrev pub rests_after : Result (Option Entry) StepRefused → Bool
rests_after (Ok None) = true
rests_after _ = false
