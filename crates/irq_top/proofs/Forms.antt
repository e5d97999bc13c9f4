-- What is done of what the arguments ask for.
use Rattle.std.proofs.Common.{◌≡◌, ◌↔◌, ℕ, Bool, inl, inr, Option, Some, None, Err, List, [], refl, sym, ap, ◌∙◌, subst}
use Rattle.irq_base.specs.declared.devices.Answer.{Answer}
use Rattle.irq_base.specs.declared.devices.Run.{Run}
use Rattle.irq_base.specs.declared.entries.Entry.{Entry}
use Rattle.irq_base.specs.declared.reporting.LineReport.{LineReport}
use Rattle.irq_check.specs.Ends.{ReadsInput}
use Rattle.irq_check.specs.declared.failing.CheckFailed.TheVariants as checks
use Rattle.irq_io.specs.StdStreams.{StdSourceSeen}
use Rattle.irq_words.specs.Words.{Asks, AsksNothing}
use Rattle.irq_words.specs.declared.Command.{Command}
use Rattle.irq_words.specs.declared.Command.TheVariants as commands
use Rattle.notifiers.specs.Told.{Notice}
use Rattle.play_report.specs.declared.failing.PlayFailed.TheVariants as plays
use Rattle.program_io.proofs.Forms.{of_form, of_words, unasked}
use Rattle.program_io.specs.Arguments.{Arguments, AreText, IsForm, IsNotText}
use Rattle.program_io.specs.Reading.{ReadsBoard}
use Rattle.program_io.specs.declared.inputs.InputRefused.TheVariants as refusals
use Rattle.irq_top.specs.declared.ending.Ending.{Ending}
use Rattle.irq_top.specs.declared.ending.Ending.TheVariants as endings
use Rattle.irq_top.specs.Commands.{CallsNobody, Does, DoesAsked, ReadsNothing, TellsWanted}

-- ---- memory was refused before anything was read

no_board : (told left : Option (List ℕ)) → ReadsBoard told left (Err refusals.NoMemory)
no_board None left = tt
no_board (Some bytes) left = tt

no_judgement : (why : Bool) (told left : Option (List ℕ)) → ReadsInput why told left (Err refusals.NoMemory)
no_judgement why None left = tt
no_judgement why (Some bytes) left = tt

module _ (heard : List Run → Type 0) (gave : Run → Answer → Type 0) (placed : List Notice → Type 0) (told left : Option (List ℕ))
    (reports : List LineReport) (before now : Option (List ℕ)) (unheard : heard []) (unplaced : placed []) (none : reports ≡ []) where
  by_command : (asked : Command) → Does heard gave placed asked told left reports before now endings.NoMemory
  by_command (commands.Run summary) =
      (inl (record { read = no_board told left; reports_are = none; uncalled = tt }), (unheard, unplaced))
  by_command (commands.Play summary) =
      (inl (record { read = no_board told left; reports_are = none; uncalled = unheard }), unplaced)
  by_command (commands.Check why) = (
    (Err (checks.Input refusals.NoMemory), refl, record { reads = no_judgement why told left; says = tt; reports_are = none }),
    (unheard, unplaced),
  )
  by_command (commands.Gen n) = ((Err plays.NoMemory, refl, (none, unheard)), unplaced)
  by_command commands.Chained = (inl (record { read = no_board told left; reports_are = none; uncalled = unheard }), unplaced)
  by_command (commands.Hotplug vectors events) =
      inl (record { read = no_board told left; reports_are = none; uncalled = (unheard, unplaced) })
  by_command (commands.Sleep armed) = (inl (record { read = no_board told left; reports_are = none; uncalled = unheard }), unplaced)

nothing_wanted : (may_want : Option Entry → Type 0) (told : Option (List ℕ)) (reports : List LineReport) (asked : Command)
    → TellsWanted may_want asked told reports endings.NoMemory
nothing_wanted may_want told reports (commands.Run summary) = tt
nothing_wanted may_want told reports (commands.Play summary) = tt
nothing_wanted may_want told reports (commands.Check why) = tt
nothing_wanted may_want told reports (commands.Gen n) = tt
nothing_wanted may_want told reports commands.Chained = tt
nothing_wanted may_want told reports (commands.Hotplug vectors events) = tt
nothing_wanted may_want told reports (commands.Sleep armed) = tt

differ : endings.NoMemory ≡ endings.Usage → ⊥
differ is = cc

-- ---- what the arguments ask for

module _ (heard : List Run → Type 0) (gave : Run → Answer → Type 0) (placed : List Notice → Type 0) (may_want : Option Entry → Type 0)
    (same : Type 0) (args : Arguments) (told left : Option (List ℕ)) (reports : List LineReport) (before now : Option (List ℕ)) where
  abbrev Did : Ending → Type 0
  Did ending = DoesAsked heard gave placed may_want same (IsForm Asks args) told left reports before now ending

  -- they are text, and this is done of its words
  pub of_text : (ending : Ending) (words : List (List ℕ)) → AreText args words → (ending ≡ endings.Usage) ↔ AsksNothing words
      → (ending ≡ endings.Usage → reports ≡ []) → (ending ≡ endings.Usage → CallsNobody heard placed) → (ReadsNothing words → same)
      → ((asked : Command) → Asks words asked → Does heard gave placed asked told left reports before now ending)
      → ((asked : Command) → Asks words asked → TellsWanted may_want asked told reports ending) → Did ending
  of_text ending words are usage handed called unread does wanted =
      let nothing : ((asked : Command) → IsForm Asks args asked → ⊥) → AsksNothing words =
      λ none. λ asked asks. none asked (of_words Asks asked args words are asks) in
      record {
        form = λ asked is so. usage.0 so asked (of_form Asks asked args words are is);
        usage = λ none. inl (usage.1 (nothing none));
        unasked = λ none. handed (usage.1 (nothing none));
        uncalled = λ none. called (usage.1 (nothing none));
        unread = λ none. unread (λ asked asks. none asked (of_words Asks asked args words are asks));
        does = λ asked is. does asked (of_form Asks asked args words are is);
        wanted = λ asked is. wanted asked (of_form Asks asked args words are is);
      }

  module _ (unheard : heard []) (unplaced : placed []) (unread : same) (handed : reports ≡ []) where
    -- memory was refused
    pub without_memory : (ending : Ending) → ending ≡ endings.NoMemory → Did ending
    without_memory ending is = subst (λ (e : Ending). Did e) (sym is) (record {
      form = λ asked form so. differ so;
      usage = λ none. inr refl;
      unasked = λ none. handed;
      uncalled = λ none. (unheard, unplaced);
      unread = λ none. unread;
      does = λ asked form. by_command heard gave placed told left reports before now unheard unplaced handed asked;
      wanted = λ asked form. nothing_wanted may_want told reports asked;
    })

    -- they aren't text
    pub without_text : (ending : Ending) → IsNotText args → ending ≡ endings.Usage → Did ending
    without_text ending not is = record {
      form = λ asked form so. unasked Asks asked args not form;
      usage = λ none. inl is;
      unasked = λ none. handed;
      uncalled = λ none. (unheard, unplaced);
      unread = λ none. unread;
      does = λ asked form. absurd (unasked Asks asked args not form);
      wanted = λ asked form. absurd (unasked Asks asked args not form);
    }

-- ---- the same of streams of std

pub same_reader : {R : Type 0} (now before : StdSourceSeen R) (input : R) → before.reader ≡ input → now ≡ before → now.reader ≡ input
same_reader {R} now before input is same = ap (λ (s : StdSourceSeen R). s.reader) same ∙ is

module _ (heard : List Run → Type 0) (gave : Run → Answer → Type 0) (placed : List Notice → Type 0) (may_want : Option Entry → Type 0)
    (IsAsked : Command → Type 0) (left : Option (List ℕ)) (reports : List LineReport) (now : Option (List ℕ)) (ending : Ending) where
  pub of_streams : (same as_it_was : Type 0) (told input before output : Option (List ℕ)) → (same → as_it_was) → told ≡ input → before ≡ output
      → DoesAsked heard gave placed may_want same IsAsked told left reports before now ending
      → DoesAsked heard gave placed may_want as_it_was IsAsked input left reports output now ending
  of_streams same as_it_was told input before output so read written does =
      subst (λ (t : Option (List ℕ)). DoesAsked heard gave placed may_want as_it_was IsAsked t left reports output now ending) read
      (subst (λ (b : Option (List ℕ)). DoesAsked heard gave placed may_want as_it_was IsAsked told left reports b now ending) written (record {
        form = does.form;
        usage = does.usage;
        unasked = does.unasked;
        uncalled = does.uncalled;
        unread = λ none. so (does.unread none);
        does = does.does;
        wanted = does.wanted;
      }))
