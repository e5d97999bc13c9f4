-- The arguments of a program, as std gives them: a list that begins with the program's name; or why
-- there is no list.
use Rattle.std.specs.Prelude.{◌≡◌, ◌⊎◌, List, ℕ, drop, map, Ok, Err, Result, string_bytes}
use Rattle.std.specs.Global.{Global}
use Rattle.std.specs.IoError.{error_kind}
use Rattle.std.specs.Vec.Iter.{into_iter_items}
use Rattle.std.specs.declared.string.String.{String}
use Rattle.std.specs.declared.vec.IntoIter.{IntoIter}
use Rattle.std.specs.declared.io.Error.{Error}
use Rattle.std.specs.declared.io.ErrorKind.TheVariants as kinds
use Rattle.program_io.specs.declared.arguments.ArgumentsRefused.{ArgumentsRefused}
use Rattle.program_io.specs.declared.arguments.ArgumentsRefused.TheVariants as refusals

-- what std gives as the program's arguments
abbrev pub Arguments : Type 0
Arguments = Result (IntoIter (String Global) Global) Error

-- all but the program's name
abbrev pub after_name : {A : Type 0} → List A → List A
after_name all = drop 1 all

-- the arguments are text, and these are the words after the program's name
abbrev pub AreText : Arguments → List (List ℕ) → Type 0
AreText (Ok args) words = words ≡ map string_bytes (after_name (into_iter_items args))
AreText (Err error) words = ⊥

-- one of the arguments isn't UTF-8
abbrev pub IsNotText : Arguments → Type 0
IsNotText (Ok args) = ⊥
IsNotText (Err error) = error_kind error ≡ kinds.InvalidData

-- why the arguments give no words: they aren't text; or they are, and memory was refused
abbrev pub IsRefusal : Arguments → ArgumentsRefused → Type 0
IsRefusal args refused = (IsNotText args × (refused ≡ refusals.NotText))
    ⊎ ((IsNotText args → ⊥) × (refused ≡ refusals.NoMemory))

-- the arguments are the program's name and words that ask for this
abbrev pub IsForm : {A : Type 0} → (List (List ℕ) → A → Type 0) → Arguments → A → Type 0
IsForm Asks (Ok args) asked = Asks (map string_bytes (after_name (into_iter_items args))) asked
IsForm Asks (Err error) asked = ⊥
