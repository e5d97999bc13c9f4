-- One more of the things that a system is made of: a line, a script, a call.
use Rattle.std.proofs.Common.{◌≡◌, ℕ, zero, suc, ◌+◌, ◌<◌, ◌≤◌, ◌==◌, ◌⊎◌, inl, inr, IsSomeAnd, Option, Some, List, []}
use Rattle.std.proofs.Common.{◌∷◌, ◌++◌, map, length, get_or, take, slice_get, refl, sym, ap, ◌∙◌, subst, arith}
use Rattle.std.proofs.Common.{add-one}
use Rattle.irq_base.specs.declared.lines.LineDef.{LineDef}
use Rattle.irq_base.specs.declared.numbers.DriverNo.{DriverNo}
use Rattle.irq_base.specs.declared.numbers.LineNo.{LineNo}
use Rattle.board_core.specs.Numbers.{numbers_of_defs, numbers_of_lines}
use Rattle.irq_laws.proofs.Chosen.{the_same}
use Rattle.irq_base.specs.declared.entries.Entry.{Entry}
use Rattle.std.specs.Option.{option_map}
use Rattle.std.proofs.Math.ListN.{length-map}
use Rattle.std.proofs.lemmas.Option.{slice_get-map, slice_get_read, slice_get_within}
use Rattle.irq_line.specs.Seen.{LineSeen, IsSound}
use Rattle.irq_model.specs.Due.{calls_by, due_of, due_call}
use Rattle.irq_model.proofs.Same.{line_from_same, same_self_line}
use Rattle.irq_laws.proofs.Progress.{fresh}
use Rattle.board_def.specs.Rules.{IsBoard}
use Rattle.board_def.specs.Seen.{BoardSeen}
use Rattle.board_def.specs.declared.rows.ScriptCall.{ScriptCall}
use Rattle.board_play.specs.Kept.{IsUpTo, AreKept}
use Rattle.board_play.specs.Lines.{BoardLine, defs_of}
use Rattle.board_play.proofs.KeptAlways.{nothing_yet, kept_fresh}
use Rattle.board_play.proofs.Members.{AreApart, def_there, defs_at, past_at}
use Rattle.board_play.proofs.OfBoard.{apart_defs, has_calls}
use Rattle.board_core.specs.Inside.{IsSystem}
use Rattle.board_core.specs.Making.{AreNew, IsCut, AreNewScripts, AreSound}
use Rattle.board_core.specs.Seen.{board_lines}
use Rattle.board_core.proofs.Few.{few_lines}
use Rattle.board_core.proofs.ScriptLaws.{HaveCalls, due_there}
use Rattle.board_core.specs.Scripts.{ScriptSeen, cut, calls_of, IsScript}
use Rattle.board_core.specs.declared.scripts.PlacedCall.{PlacedCall}

module _ {A : Type 0} where
  pub taken : (xs : List A) (i : ℕ) (x : A) → slice_get xs i ≡ Some x → take (i + 1) xs ≡ take i xs ++ x ∷ []
  taken xs i x at = ap (λ (n : ℕ). take n xs) (add-one i) ∙ go xs i x at
    where
      go : (xs : List A) (i : ℕ) (x : A) → slice_get xs i ≡ Some x → take (suc i) xs ≡ take i xs ++ x ∷ []
      go [] i x at = cc
      go (y ∷ ys) zero x at = ap (λ (z : A). z ∷ []) (the_same y x at)
      go (y ∷ ys) (suc i) x at = ap (λ (zs : List A). y ∷ zs) (go ys i x at)

  pub all_taken : (xs : List A) (i : ℕ) → length xs ≤ i → take i xs ≡ xs
  all_taken [] zero end = refl
  all_taken [] (suc i) end = refl
  all_taken (y ∷ ys) zero end = absurd (omega (arith, end))
  all_taken (y ∷ ys) (suc i) end = ap (λ (zs : List A). y ∷ zs) (all_taken ys i (omega (arith, end)))

pub map_more : {A B : Type 0} (f : A → B) (xs : List A) (x : A) → map f (xs ++ x ∷ []) ≡ map f xs ++ f x ∷ []
map_more f [] x = refl
map_more f (y ∷ ys) x = ap (λ (zs : List _). f y ∷ zs) (map_more f ys x)

-- ---- a script with no call complete

pub number_back : (lines : List BoardLine) (k : ℕ) (line : LineNo)
    → slice_get (numbers_of_defs (map (λ (x : BoardLine). x.def) lines)) k ≡ Some line.0
    → IsSomeAnd (slice_get lines k) (λ y. y.def.line ≡ line)
number_back [] k line at = cc
number_back (x ∷ xs) zero line at = line_from_same x.def.line line (ap (λ (n : ℕ). n == line.0) (the_same x.def.line.0 line.0 at) ∙ same_self_line line)
number_back (x ∷ xs) (suc k) line at = number_back xs k line at

module _ (board : BoardSeen) (lines : List LineSeen) (new : AreNew board lines) where
  defs_new : map (λ (x : BoardLine). x.def) (board_lines lines) ≡ defs_of board
  defs_new = ap (λ (ls : List BoardLine). map (λ (x : BoardLine). x.def) ls) new ∙ defs_at (defs_of board) []

  -- a place of a line's number is the line's
  pub line_there : (k : ℕ) (line : LineNo) → slice_get (numbers_of_defs (defs_of board)) k ≡ Some line.0
      → IsSomeAnd (slice_get (board_lines lines) k) (λ y. y.def.line ≡ line)
  line_there k line at = number_back (board_lines lines) k line (ap (λ (ds : List LineDef). slice_get (numbers_of_defs ds) k) defs_new ∙ at)

  module _ (isb : IsBoard board) where
    apart_new : AreApart (map (λ (x : BoardLine). x.def) (board_lines lines))
    apart_new = subst AreApart (sym defs_new) (apart_defs board isb)

    have_new : HaveCalls board.calls (board_lines lines)
    have_new i x at = has_calls board i x.def (subst (λ (ds : List LineDef). slice_get ds i ≡ Some x.def) defs_new (def_there (board_lines lines) i x at))

    pub new_script : (s : ScriptSeen) → IsCut board (length board.calls) s → IsScript board.calls (board_lines lines) s
    new_script s is =
        record {
          cut = its_cut;
          places = λ i x at. line_there x.place x.call.line (is.places i x at);
          up_to = up;
          due = due;
        }
      where
        its_cut : calls_of s.calls ≡ cut (map (λ (x : BoardLine). x.def) (board_lines lines)) s.driver board.calls
        its_cut =
            is.cut ∙ (ap (λ (cs : List ScriptCall). cut (defs_of board) s.driver cs)
            (all_taken board.calls (length board.calls) (omega arith))
            ∙ ap (λ (ds : List LineDef). cut ds s.driver board.calls) (sym defs_new))

        up : IsUpTo (calls_of s.calls) (board_lines lines) s.driver s.at
        up =
            subst (λ (n : ℕ). IsUpTo (calls_of s.calls) (board_lines lines) s.driver n) (sym is.at)
            (subst (λ (ls : List BoardLine). IsUpTo (calls_of s.calls) ls s.driver 0) (sym new) (nothing_yet board (calls_of s.calls) s.driver))

        no_past : (i : ℕ) (y : BoardLine) → slice_get (board_lines lines) i ≡ Some y → y.past ≡ []
        no_past i y at = past_at (defs_of board) [] i y (subst (λ (ls : List BoardLine). slice_get ls i ≡ Some y) new at)

        due : (x : PlacedCall) (y : BoardLine) → slice_get s.calls s.at ≡ Some x
            → slice_get (board_lines lines) x.place ≡ Some y
            → due_call y.def s.driver y.past ≡ Some (x.call.call, s.made)
        due x y at there =
            let line : y.def.line ≡ x.call.line = subst
            (λ (o : Option BoardLine). IsSomeAnd o (λ z. z.def.line ≡ x.call.line)) there
            (line_there x.place x.call.line (is.places s.at x at)) in
            let d = due_there board.calls (board_lines lines) have_new apart_new s.driver s.calls its_cut s.at up x y at there line in
            let first : due_of (calls_by s.driver y.def.calls) []
            ≡ Some (x.call.call, d.0) = ap (λ (past : List Entry). due_call y.def s.driver past)
            (sym (no_past x.place y there)) ∙ d.1 in
            d.1 ∙ ap (λ (n : ℕ). Some (x.call.call, n)) (fresh (calls_by s.driver y.def.calls) x.call.call d.0 first ∙ sym is.made)

    pub new_system : (scripts : List ScriptSeen) → AreSound lines → AreNewScripts board scripts → IsSystem board lines scripts
    new_system scripts sound are =
        record {
          kept = subst (λ (ls : List BoardLine). AreKept board ls) (sym new) (kept_fresh board);
          sound = sound;
          drivers = are.drivers;
          each = λ i s at. new_script s (are.each i s at);
        }

-- ---- loops

two : (k i : ℕ) → k < i + 1 → (k < i) ⊎ (k ≡ i)
two k i h = grind arith

pub sound_more : {X : Type 0} (f : X → LineSeen) (xs : List X) (i : ℕ) (y : X) → i < length xs → y ≡ get_or xs i y
    → IsSound (f y) → ((k : ℕ) (x : LineSeen) → k < i → slice_get (map f xs) k ≡ Some x → IsSound x)
    → (k : ℕ) (x : LineSeen) → k < i + 1 → slice_get (map f xs) k ≡ Some x → IsSound x
sound_more f xs i y within is sound old k x less at = elim (two k i less) [
  | inl before ↦ old k x before at
  | inr here ↦
      let there : slice_get (map f xs) i ≡ Some (f y) = slice_get-map f xs i ∙ ap (option_map f) (slice_get_read xs (length xs) i y refl within is) in
      subst IsSound (the_same (f y) x (sym there ∙ (ap (λ (n : ℕ). slice_get (map f xs) n) (sym here) ∙ at))) sound
]

pub all_sound : {X : Type 0} (f : X → LineSeen) (xs : List X) (i : ℕ) → length xs ≤ i
    → ((k : ℕ) (x : LineSeen) → k < i → slice_get (map f xs) k ≡ Some x → IsSound x) → AreSound (map f xs)
all_sound f xs i end old k x at = old k x (let l = slice_get_within (map f xs) k x at in let m = length-map xs f in omega (arith, l, m, end)) at

-- ---- how many there are, and their numbers

numbers_are : (lines : List LineSeen) → numbers_of_lines lines ≡ numbers_of_defs (map (λ (x : BoardLine). x.def) (board_lines lines))
numbers_are [] = refl
numbers_are (x ∷ xs) = ap (λ (ns : List ℕ). x.def.line.0 ∷ ns) (numbers_are xs)

pub new_numbers : (board : BoardSeen) (lines : List LineSeen) → AreNew board lines → numbers_of_lines lines ≡ numbers_of_defs (defs_of board)
new_numbers board lines new = numbers_are lines ∙ ap (λ (ds : List LineDef). numbers_of_defs ds) (defs_new board lines new)

pub new_few : (board : BoardSeen) (lines : List LineSeen) → AreNew board lines → IsBoard board → length lines ≤ 64
new_few board lines new isb = few_lines board isb lines (defs_new board lines new)

pub new_few_scripts : (board : BoardSeen) → IsBoard board → (scripts : List ScriptSeen) → AreNewScripts board scripts → length scripts ≤ 64
new_few_scripts board isb scripts are =
    let a = ap (λ (rs : List DriverNo). length rs) are.drivers in
    let b = length-map scripts (λ (s : ScriptSeen). s.driver) in
    let f = isb.few_drivers in
    omega (arith, a, b, f)
