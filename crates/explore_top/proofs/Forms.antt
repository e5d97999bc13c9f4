-- What is done of what the arguments ask for.
use Rattle.std.proofs.Common.{◌≡◌, ◌⊎◌, inl, inr, ℕ, Option, List, [], sym, ap, ◌∙◌, subst}
use Rattle.irq_base.specs.declared.devices.Run.{Run}
use Rattle.explore_words.specs.Words.{Asks, AsksNothing}
use Rattle.explore_words.specs.declared.Asked.{Asked}
use Rattle.irq_io.specs.StdStreams.{StdSourceSeen}
use Rattle.program_io.proofs.Forms.{of_form, of_words, unasked}
use Rattle.program_io.specs.Arguments.{Arguments, AreText, IsForm, IsNotText}
use Rattle.explore_top.specs.Does.{Does, DoesAsked}
use Rattle.explore_top.specs.declared.ending.Ending.{Ending}
use Rattle.explore_top.specs.declared.ending.Ending.TheVariants as endings

module _ (heard : List Run → Type 0) (same_source same_handlers : Type 0) (told left before now : Option (List ℕ)) (ending : Ending)
    (args : Arguments) where
  -- they are text, and this is done of its words
  pub of_text : (words : List (List ℕ)) → AreText args words → (AsksNothing words → ending ≡ endings.Usage) → (AsksNothing words → same_source)
      → (AsksNothing words → same_handlers) → ((asked : Asked) → Asks words asked → Does asked heard told left before now ending)
      → DoesAsked (IsForm Asks args) heard same_source same_handlers told left before now ending
  of_text words are usage unread unheard does = record {
    usage = λ none. inl (usage (λ asked asks. none asked (of_words Asks asked args words are asks)));
    unread = λ none. unread (λ asked asks. none asked (of_words Asks asked args words are asks));
    unheard = λ none. unheard (λ asked asks. none asked (of_words Asks asked args words are asks));
    does = λ asked is. does asked (of_form Asks asked args words are is);
  }

module _ (heard : List Run → Type 0) (same_source same_handlers : Type 0) (told left before now : Option (List ℕ)) (ending : Ending)
    (args : Arguments) (unheard : heard []) (source : same_source) (handlers : same_handlers) where
  -- memory was refused
  pub without_memory : ending ≡ endings.NoMemory → DoesAsked (IsForm Asks args) heard same_source same_handlers told left before now ending
  without_memory is = record {
    usage = λ none. inr is;
    unread = λ none. source;
    unheard = λ none. handlers;
    does = λ asked form. subst (λ (e : Ending). Does asked heard told left before now e) (sym is) (inl unheard);
  }

  -- they aren't text
  pub without_text : IsNotText args → ending ≡ endings.Usage
      → DoesAsked (IsForm Asks args) heard same_source same_handlers told left before now ending
  without_text not is = record {
    usage = λ none. inl is;
    unread = λ none. source;
    unheard = λ none. handlers;
    does = λ asked form. absurd (unasked Asks asked args not form);
  }

-- ---- the same of streams of std

pub same_reader : {R : Type 0} (now before : StdSourceSeen R) (input : R) → before.reader ≡ input → now ≡ before → now.reader ≡ input
same_reader {R} now before input is same = ap (λ (s : StdSourceSeen R). s.reader) same ∙ is

module _ (IsAsked : Asked → Type 0) (heard : List Run → Type 0) (same_handlers : Type 0) (left now : Option (List ℕ)) (ending : Ending) where
  pub of_streams : (same as_it_was : Type 0) (told input before output : Option (List ℕ)) → (same → as_it_was) → told ≡ input → before ≡ output
      → DoesAsked IsAsked heard same same_handlers told left before now ending
      → DoesAsked IsAsked heard as_it_was same_handlers input left output now ending
  of_streams same as_it_was told input before output so read written does =
      subst (λ (t : Option (List ℕ)). DoesAsked IsAsked heard as_it_was same_handlers t left output now ending) read
      (subst (λ (b : Option (List ℕ)). DoesAsked IsAsked heard as_it_was same_handlers told left b now ending) written (record {
        usage = does.usage;
        unread = λ none. so (does.unread none);
        unheard = does.unheard;
        does = does.does;
      }))
