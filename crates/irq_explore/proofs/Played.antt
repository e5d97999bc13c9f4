-- A play that comes to a log, ending by ending.
use Rattle.std.proofs.Common.{◌≡◌, ℕ, ◌⊎◌, inl, inr, Bool, true, false, Option, Result, Ok, Err, List, [], refl, sym, ap, subst, Some}
use Rattle.std.specs.Global.{Global}
use Rattle.std.specs.declared.vec.Vec.{Vec}
use Rattle.board_def.specs.Seen.{BoardSeen}
use Rattle.explore_picks.specs.Printed.{PlaysTo, PrintsPlayTo}
use Rattle.explore_picks.specs.declared.failing.ExploreFailed.{ExploreFailed}
use Rattle.explore_picks.specs.declared.failing.ExploreFailed.TheVariants as fails
use Rattle.explore_picks.specs.Made.{IsAlone}
use Rattle.irq_base.specs.declared.devices.Run.{Run}
use Rattle.irq_base.specs.declared.entries.Entry.{Entry}
use Rattle.irq_base.specs.declared.numbers.LineNo.{LineNo}
use Rattle.irq_io.specs.Whole.{WritesAll}
use Rattle.irq_io.specs.declared.whole.WriteFailed.{WriteFailed}
use Rattle.line_survey.specs.declared.answer.Answer.{Answer}
use Rattle.line_survey.specs.declared.answer.Answer.TheVariants as answers
use Rattle.line_wanted.specs.declared.wanted.Wanted.{Wanted}
use Rattle.irq_explore.specs.Answered.{Answered, answer_text}
use Rattle.irq_explore.specs.Explored.{found_by, is_printing}
use Rattle.irq_explore.specs.Played.{ExploresPlay, SaysPlay, found_by_play}
use Rattle.irq_explore.specs.Present.{has_all}
use Rattle.irq_explore.specs.declared.exploring.Explored.{Explored}

-- a play that failed before it was printed left the output as it was
pub unprinted : {O : Type 0} (old new : O) (b : BoardSeen) (line : LineNo) (es : List Entry) (heard : List Run → Type 0) (before now : Option (List ℕ))
    (failed : ExploreFailed) → PlaysTo b line es heard before now (Err failed)
    → (◌≡◌ {A = Result Bool ExploreFailed} (Err failed) (Err fails.NoMemory) → new ≡ old) → is_printing (Err failed) ≡ false → new ≡ old
unprinted old new b line es heard before now fails.NotThere is refused quiet = absurd is
unprinted old new b line es heard before now fails.NoMemory is refused quiet = refused refl
unprinted old new b line es heard before now (fails.Write failed) is refused quiet = cc

module _ (states : ℕ) (b : BoardSeen) (line : LineNo) (wanted : Wanted) (heard : List Run → Type 0) (before now : Option (List ℕ))
    (there : has_all b line wanted ≡ true) where
  -- a log was found
  module _ (v : Vec Entry Global) (es : List Entry) (log : v.items ≡ es) (answered : Answered states b line wanted (answers.Found v)) where
    says : (write : Result Unit WriteFailed) → PrintsPlayTo b line es heard before now write
        → SaysPlay states b line wanted heard before now write (answers.Found v)
    says write prints = record {
      there = there;
      answered = answered;
      written = subst (λ (xs : List Entry). PrintsPlayTo b line xs heard before now write) (sym log) prints;
    }

    -- and a play to it, or none
    pub played : (found : Bool) → PlaysTo b line es heard before now (Ok found) → (IsAlone b line es → found ≡ false → ⊥)
        → ExploresPlay states b line wanted heard before now (Ok (found_by_play found))
    played true is alone = (answers.Found v, refl, says (Ok tt) is)
    played false is alone = (
      record {
        there = there;
        answer = answers.Found v;
        answered = answered;
        entries = es;
        found = ap Some log;
        not_alone = λ fits. alone fits refl;
      },
      is.1,
    )

    -- and then the play, or its printing, failed
    pub unplayed : (failed : ExploreFailed) → PlaysTo b line es heard before now (Err failed)
        → ExploresPlay states b line wanted heard before now (Err failed)
    unplayed fails.NotThere is = absurd is
    unplayed fails.NoMemory is = is.1
    unplayed (fails.Write failed) is = (answers.Found v, says (Err failed) is)

  -- that no log was found is printed, or a beginning of it
  pub unsaid : (write : Result Unit WriteFailed) (answer : Answer) → (answer ≡ answers.Never) ⊎ ((n : ℕ) × (answer ≡ answers.NotWithin n))
      → Answered states b line wanted answer → WritesAll before now (answer_text line answer) write → heard []
      → SaysPlay states b line wanted heard before now write answer
  unsaid write answers.Never none answered written none_heard = record { there = there; answered = answered; written = (written, none_heard) }
  unsaid write (answers.NotWithin n) none answered written none_heard = record { there = there; answered = answered; written = (written, none_heard) }
  unsaid write (answers.Found v) (inl is) answered written none_heard = cc
  unsaid write (answers.Found v) (inr is) answered written none_heard = let same = is.1 in cc

  -- all of it is printed
  pub unfound : (answer : Answer) → SaysPlay states b line wanted heard before now (Ok tt) answer → (found : Explored) → found ≡ found_by line answer
      → ExploresPlay states b line wanted heard before now (Ok found)
  unfound answer said found same = subst (λ (f : Explored). ExploresPlay states b line wanted heard before now (Ok f)) (sym same) (by_answer answer said)
    where
      by_answer : (a : Answer) → SaysPlay states b line wanted heard before now (Ok tt) a
          → ExploresPlay states b line wanted heard before now (Ok (found_by line a))
      by_answer (answers.Found v) said = (answers.Found v, refl, said)
      by_answer answers.Never said = (answers.Never, refl, said)
      by_answer (answers.NotWithin n) said = (answers.NotWithin n, refl, said)
