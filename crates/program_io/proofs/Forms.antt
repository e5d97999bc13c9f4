-- Arguments that are text, and what their words ask for.
use Rattle.std.proofs.Common.{◌≡◌, ℕ, inl, inr, Ok, Err, List, subst, sym}
use Rattle.program_io.specs.Arguments.{Arguments, AreText, IsForm, IsNotText, IsRefusal}
use Rattle.program_io.specs.declared.arguments.ArgumentsRefused.TheVariants as refusals

module _ {A : Type 0} (Asks : List (List ℕ) → A → Type 0) (asked : A) where
  pub of_words : (args : Arguments) (words : List (List ℕ)) → AreText args words → Asks words asked → IsForm Asks args asked
  of_words (Ok args) words are asks = subst (λ (ws : List (List ℕ)). Asks ws asked) are asks
  of_words (Err error) words are asks = absurd are

  pub of_form : (args : Arguments) (words : List (List ℕ)) → AreText args words → IsForm Asks args asked → Asks words asked
  of_form (Ok args) words are is = subst (λ (ws : List (List ℕ)). Asks ws asked) (sym are) is
  of_form (Err error) words are is = absurd are

  -- text that isn't UTF-8 asks for nothing
  pub unasked : (args : Arguments) → IsNotText args → IsForm Asks args asked → ⊥
  unasked (Ok args) not is = not
  unasked (Err error) not is = is

refused_otherwise : refusals.NotText ≡ refusals.NoMemory → ⊥
refused_otherwise is = cc

pub not_text : (args : Arguments) → IsRefusal args refusals.NotText → IsNotText args
not_text args (inl (not, is)) = not
not_text args (inr (text, is)) = absurd (refused_otherwise is)
