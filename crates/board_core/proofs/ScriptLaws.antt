-- Where a script stands, and what a move makes of it.
use Rattle.std.proofs.Common.{◌≡◌, ℕ, zero, suc, ◌+◌, ◌<◌, ◌≤◌, ◌==◌, Bool, true, false, ◌&&◌, is_some, cond, IsSomeAnd}
use Rattle.std.proofs.Common.{Option, Some, None, List, [], ◌∷◌, map, filter, min, take, slice_get, refl, sym, ap, ◌∙◌}
use Rattle.std.proofs.Common.{subst, arith, add-one}
use Rattle.irq_base.specs.declared.calls.Call.{Call}
use Rattle.irq_base.specs.declared.entries.Actor.TheVariants as actors
use Rattle.irq_base.specs.declared.lines.LineDef.{LineDef}
use Rattle.irq_base.specs.declared.numbers.DriverNo.{DriverNo}
use Rattle.irq_base.specs.declared.numbers.LineNo.{LineNo}
use Rattle.irq_model.specs.Due.{calls_by, due_call}
use Rattle.irq_model.specs.Kinds.{same_line, same_driver, is_by_driver}
use Rattle.irq_model.specs.Next.{next_of_driver, next_past}
use Rattle.irq_model.proofs.Same.{same_self_line}
use Rattle.irq_laws.proofs.Chosen.{the_same}
use Rattle.board_def.specs.LineOf.{with_driver}
use Rattle.board_def.specs.declared.rows.ScriptCall.{ScriptCall}
use Rattle.board_play.specs.Current.{calls_on, current_from, current_line}
use Rattle.board_play.specs.Kept.{IsUpTo}
use Rattle.board_play.specs.Lines.{BoardLine, Move, line_after, lines_after}
use Rattle.board_play.proofs.Counting.{kth_is_due, no_more}
use Rattle.board_play.proofs.Members.{AreApart, find_there, found}
use Rattle.board_play.proofs.Moving.{defs_moved, moved_at, not_own, goes_on, is_complete, none_begun}
use Rattle.board_play.proofs.Script.{is_on, fewer, one_longer, done, IsThe, Current, current, is_current}
use Rattle.line_scripts.specs.Endings.{completes}
use Rattle.board_core.specs.Scripts.{ScriptSeen, takes_part, cut, advanced_by, advanced_at, advanced, calls_of, IsScript}
use Rattle.board_core.specs.declared.scripts.PlacedCall.{PlacedCall}
use Rattle.board_core.proofs.CutLaws.{part_found, cut_mine, current_cut, kth_call}
use Rattle.line_scripts.proofs.LastEntry.{completes_at, last_is, goes, ends, one_more}

pub call_there : (steps : List PlacedCall) (i : ℕ) (x : PlacedCall) → slice_get steps i ≡ Some x → slice_get (calls_of steps) i ≡ Some x.call
call_there [] i x at = cc
call_there (y ∷ ys) zero x at = ap (λ (z : PlacedCall). Some z.call) (the_same y x at)
call_there (y ∷ ys) (suc i) x at = call_there ys i x at

before_end : (steps : List PlacedCall) (p a : ℕ) (c : ScriptCall) → slice_get (calls_of steps) p ≡ Some c → slice_get steps a ≡ None → p < a
before_end [] p a c at end = cc
before_end (y ∷ ys) p zero c at end = cc
before_end (y ∷ ys) zero (suc a) c at end = omega arith
before_end (y ∷ ys) (suc p) (suc a) c at end = let l = before_end ys p a c at end in omega (arith, l)

-- the definitions have the calls about their lines
abbrev pub HaveCalls : List ScriptCall → List BoardLine → Type 0
HaveCalls calls lines = (i : ℕ) (x : BoardLine) → slice_get lines i ≡ Some x → x.def.calls ≡ map with_driver (filter (λ c. c.line.0 == x.def.line.0) calls)

abbrev pub line_of_step : List BoardLine → Option PlacedCall → Option BoardLine
line_of_step lines None = None
line_of_step lines (Some x) = slice_get lines x.place

module _ (calls : List ScriptCall) (lines : List BoardLine) (apart : AreApart (map (λ (x : BoardLine). x.def) lines))
    (s : ScriptSeen) (is : IsScript calls lines s) where
  passed : (y : BoardLine) → IsThe lines y → calls_on y.def.line s.driver [] + calls_on y.def.line s.driver (take s.at (calls_of s.calls)) ≤ done y s.driver
  passed y the =
      let f = found lines y.def.line y the in
      let e = is.up_to.complete f.place y f.at in
      omega (arith, e)

  mine : (i : ℕ) (x : PlacedCall) → slice_get s.calls i ≡ Some x → same_driver s.driver x.call.driver ≡ true
  mine i x at = (cut_mine (map (λ (x : BoardLine). x.def) lines) s.driver calls i x.call
      (ap (λ (cs : List ScriptCall). slice_get cs i) (sym is.cut) ∙ call_there s.calls i x at)).0

  by_cut : current_line calls lines s.driver ≡ current_from lines s.driver [] (calls_of s.calls)
  by_cut = current_cut lines s.driver calls ∙ ap (λ (cs : List ScriptCall). current_from lines s.driver [] cs) (sym is.cut)

  at_step : (x : PlacedCall) (y : BoardLine) → slice_get s.calls s.at ≡ Some x → slice_get lines x.place ≡ Some y
      → y.def.line ≡ x.call.line → current_from lines s.driver [] (calls_of s.calls) ≡ Some y
  at_step x y at there line =
      is_current lines s.driver [] (calls_of s.calls) s.at x.call y passed (call_there s.calls s.at x at)
      (mine s.at x at) (sym line) (find_there lines apart x.place y there)
      (let e = is.up_to.complete x.place y there in omega (arith, e))

  pub line_of : (x : PlacedCall) (y : BoardLine) → slice_get s.calls s.at ≡ Some x → slice_get lines x.place ≡ Some y → y.def.line ≡ x.call.line
  line_of x y at there = subst (λ (o : Option BoardLine). IsSomeAnd o (λ y. y.def.line ≡ x.call.line)) there (is.places s.at x at)

  at_end : slice_get s.calls s.at ≡ None → (o : Option BoardLine) → current_from lines s.driver [] (calls_of s.calls) ≡ o → o ≡ None
  at_end end None its = refl
  at_end end (Some y) its =
      absurd
      (let k = current lines s.driver [] (calls_of s.calls) y its in
      let f = found lines y.def.line y k.found in
      let more : k.place < s.at = before_end s.calls k.place s.at k.call k.at end in
      let on : is_on y.def.line s.driver k.call ≡ true =
      ap (λ (l : LineNo). same_line l y.def.line && same_driver s.driver k.call.driver) k.line
      ∙ (ap (λ (b : Bool). b && same_driver s.driver k.call.driver) (same_self_line y.def.line) ∙ k.mine) in
      let longer : calls_on y.def.line s.driver (take (suc k.place) (calls_of s.calls)) ≡ calls_on y.def.line s.driver (take k.place (calls_of s.calls)) + 1 =
      one_longer y.def.line s.driver (calls_of s.calls) k.place k.call k.at
      ∙ ap (λ (b : Bool). cond b (calls_on y.def.line s.driver (take k.place (calls_of s.calls)) + 1)
      (calls_on y.def.line s.driver (take k.place (calls_of s.calls)))) on in
      let le = fewer y.def.line s.driver (calls_of s.calls) (suc k.place) s.at (omega (arith, more)) in
      let e = is.up_to.complete f.place y f.at in
      let waits : done y s.driver ≤ calls_on y.def.line s.driver [] + calls_on y.def.line s.driver (take k.place (calls_of s.calls)) = k.waits in
      omega (arith, longer, le, e, waits))

  pub script_line : (o : Option PlacedCall) → slice_get s.calls s.at ≡ o → current_line calls lines s.driver ≡ line_of_step lines o
  script_line None end = by_cut ∙ at_end end (current_from lines s.driver [] (calls_of s.calls)) refl
  script_line (Some x) at = by_line (slice_get lines x.place) refl (is.places s.at x at)
    where
      by_line : (o : Option BoardLine) → slice_get lines x.place ≡ o → IsSomeAnd o (λ y. y.def.line ≡ x.call.line)
          → current_line calls lines s.driver ≡ slice_get lines x.place
      by_line None there line = absurd line
      by_line (Some y) there line = by_cut ∙ (at_step x y at there line ∙ sym there)

  -- the current call, at the script's place
  pub at_place : (x : PlacedCall) (y : BoardLine) → slice_get s.calls s.at ≡ Some x → slice_get lines x.place ≡ Some y
      → Current lines s.driver [] (calls_of s.calls) y
  at_place x y at there =
      record {
        place = s.at;
        call = x.call;
        at = call_there s.calls s.at x at;
        mine = mine s.at x at;
        line = sym (line_of x y at there);
        found = find_there lines apart x.place y there;
        waits = let e = is.up_to.complete x.place y there in omega (arith, e);
        passed = λ y the le. passed y the;
      }

-- ---- which call is due at a place

pub due_there : (calls : List ScriptCall) (lines : List BoardLine) → HaveCalls calls lines
    → AreApart (map (λ (x : BoardLine). x.def) lines) → (r : DriverNo) (steps : List PlacedCall)
    → calls_of steps ≡ cut (map (λ (x : BoardLine). x.def) lines) r calls
    → (p : ℕ) → IsUpTo (calls_of steps) lines r p → (x : PlacedCall) (y : BoardLine) → slice_get steps p ≡ Some x
    → slice_get lines x.place ≡ Some y → y.def.line ≡ x.call.line
    → (n : ℕ) × (due_call y.def r y.past ≡ Some (x.call.call, n))
due_there calls lines have apart r steps is p u x y at there line =
    let ds : List LineDef = map (λ (x : BoardLine). x.def) lines in
    let part : takes_part ds y.def.line ≡ true = part_found lines y.def.line
    ∙ ap (λ (o : Option BoardLine). is_some o) (find_there lines apart x.place y there) in
    let in_cut : slice_get (cut ds r calls) p ≡ Some x.call = ap (λ (cs : List ScriptCall). slice_get cs p) (sym is) ∙ call_there steps p x at in
    let kth = kth_call ds r y.def.line part calls p x.call in_cut (sym line) in
    let count : done y r ≡ calls_on y.def.line r (take p (cut ds r calls)) = u.complete x.place y there
    ∙ ap (λ (cs : List ScriptCall). calls_on y.def.line r (take p cs)) is in
    kth_is_due y.def r y.past x.call.call
    (ap (λ (n : ℕ). slice_get (calls_by r y.def.calls) n) count
    ∙ (ap (λ (cs : List (DriverNo × Call)). slice_get (calls_by r cs)
    (calls_on y.def.line r (take p (cut ds r calls)))) (have x.place y there) ∙ kth))

-- ---- a move

module _ (calls : List ScriptCall) (lines : List BoardLine) (m : Move) where
  pub have_after : HaveCalls calls lines → HaveCalls calls (lines_after m lines)
  have_after have i y at =
      let s = moved_at lines m i y at in
      subst (λ (z : BoardLine). z.def.calls ≡ map with_driver (filter (λ c. c.line.0 == z.def.line.0) calls)) s.is (have i s.line s.at)

  -- what stands at a place afterwards
  after_at : (ls : List BoardLine) (i : ℕ) (x : BoardLine) → slice_get ls i ≡ Some x → slice_get (lines_after m ls) i ≡ Some (line_after m x)
  after_at [] i x at = cc
  after_at (y ∷ ys) zero x at = ap (λ (z : BoardLine). Some (line_after m z)) (the_same y x at)
  after_at (y ∷ ys) (suc i) x at = after_at ys i x at

  places_after : (steps : List PlacedCall) → ((i : ℕ) (x : PlacedCall) → slice_get steps i ≡ Some x
      → IsSomeAnd (slice_get lines x.place) (λ y. y.def.line ≡ x.call.line))
      → (i : ℕ) (x : PlacedCall) → slice_get steps i ≡ Some x → IsSomeAnd (slice_get (lines_after m lines) x.place) (λ y. y.def.line ≡ x.call.line)
  places_after steps places i x at = by_line (slice_get lines x.place) refl (places i x at)
    where
      by_line : (o : Option BoardLine) → slice_get lines x.place ≡ o → IsSomeAnd o (λ y. y.def.line ≡ x.call.line)
          → IsSomeAnd (slice_get (lines_after m lines) x.place) (λ y. y.def.line ≡ x.call.line)
      by_line None there line = absurd line
      by_line (Some y) there line = subst (λ (o : Option BoardLine). IsSomeAnd o (λ y. y.def.line ≡ x.call.line)) (sym (after_at lines x.place y there)) line

  pub other_script : (s : ScriptSeen) → IsScript calls lines s → is_by_driver s.driver m.1 ≡ false → IsScript calls (lines_after m lines) s
  other_script s is other =
      record {
        cut = is.cut ∙ ap (λ (ds : List LineDef). cut ds s.driver calls) (sym (defs_moved lines m));
        places = places_after s.calls is.places;
        up_to = not_own (calls_of s.calls) lines m s.driver s.at other is.up_to;
        due = due;
      }
    where
      same_due : (x : BoardLine) (b : Bool) → due_call x.def s.driver (cond b (m.1 ∷ x.past) x.past) ≡ due_call x.def s.driver x.past
      same_due x true = no_more x.def s.driver m.1 x.past other
      same_due x false = refl

      due : (x : PlacedCall) (y : BoardLine) → slice_get s.calls s.at ≡ Some x
          → slice_get (lines_after m lines) x.place ≡ Some y
          → due_call y.def s.driver y.past ≡ Some (x.call.call, s.made)
      due x y at there =
          let w = moved_at lines m x.place y there in
          subst (λ (z : BoardLine). due_call z.def s.driver z.past ≡ Some (x.call.call, s.made)) w.is
          (same_due w.line (same_line w.line.def.line m.0) ∙ is.due x w.line at w.at)

  module _ (apart : AreApart (map (λ (x : BoardLine). x.def) lines)) (have : HaveCalls calls lines) (s : ScriptSeen) (is : IsScript calls lines s)
      (own : is_by_driver s.driver m.1 ≡ true) (x : PlacedCall) (at : slice_get s.calls s.at ≡ Some x) (y : BoardLine)
      (there : slice_get lines x.place ≡ Some y) (number : m.0 ≡ y.def.line)
      (owed : next_past y.def y.past (actors.Driver s.driver) ≡ Some m.1) where
    its : current_from lines s.driver [] (calls_of s.calls) ≡ Some y
    its = at_step calls lines apart s is x y at there (line_of calls lines apart s is x y at there)

    moved_here : line_after m y ≡ record { def = y.def; past = m.1 ∷ y.past }
    moved_here = ap (λ (b : Bool). record { def = y.def; past = cond b (m.1 ∷ y.past) y.past })
        (ap (λ (l : LineNo). same_line y.def.line l) number ∙ same_self_line y.def.line)

    cut_after : calls_of s.calls ≡ cut (map (λ (x : BoardLine). x.def) (lines_after m lines)) s.driver calls
    cut_after = is.cut ∙ ap (λ (ds : List LineDef). cut ds s.driver calls) (sym (defs_moved lines m))

    its_last : completes x.call.call m.1 ≡ completes_at x.call.call s.made m.1
    its_last = last_is y.def s.driver y.past x.call.call s.made m.1 (ap (next_of_driver y.def s.driver y.past) (sym (is.due x y at there)) ∙ owed)

    goes_further : completes_at x.call.call s.made m.1 ≡ false → IsScript calls (lines_after m lines) (advanced_by false s)
    unfolding at_place
    goes_further last =
        record {
          cut = cut_after;
          places = places_after s.calls is.places;
          up_to = goes_on (calls_of s.calls) lines apart m s.driver s.at is.up_to y x.place there number
              (at_place calls lines apart s is x y at there) own its x.call.call s.made now;
          due = due;
        }
      where
        now : due_call y.def s.driver (m.1 ∷ y.past) ≡ Some (x.call.call, suc s.made)
        now = goes y.def s.driver m.1 y.past x.call.call s.made own (is.due x y at there) last

        due : (z : PlacedCall) (w : BoardLine) → slice_get s.calls s.at ≡ Some z
            → slice_get (lines_after m lines) z.place ≡ Some w
            → due_call w.def s.driver w.past ≡ Some (z.call.call, min (s.made + 1) 2)
        due z w at_z there_w =
            let same : x ≡ z = the_same x z (sym at ∙ at_z) in
            let here : line_after m y ≡ w = the_same (line_after m y) w
            (sym (after_at lines x.place y there) ∙
            (ap (λ (v : PlacedCall). slice_get (lines_after m lines) v.place) same ∙ there_w)) in
            subst (λ (v : BoardLine). due_call v.def s.driver v.past ≡ Some (z.call.call, min (s.made + 1) 2)) (sym moved_here ∙ here)
            (now ∙ (ap (λ (v : PlacedCall). Some (v.call.call, suc s.made)) same
            ∙ ap (λ (n : ℕ). Some (z.call.call, n)) (sym (one_more x.call.call s.made m.1 last))))

    goes_past : completes_at x.call.call s.made m.1 ≡ true → IsScript calls (lines_after m lines) (advanced_by true s)
    unfolding at_place
    goes_past last =
        record {
          cut = cut_after;
          places = places_after s.calls is.places;
          up_to = up;
          due = due;
        }
      where
        not_now : (d : Call) (n : ℕ) → due_call y.def s.driver (m.1 ∷ y.past) ≡ Some (d, suc n) → ⊥
        not_now = ends y.def s.driver m.1 y.past x.call.call s.made own (is.due x y at there) last

        up : IsUpTo (calls_of s.calls) (lines_after m lines) s.driver (s.at + 1)
        up =
            subst (λ (n : ℕ). IsUpTo (calls_of s.calls) (lines_after m lines) s.driver n) (sym (add-one s.at))
            (is_complete (calls_of s.calls) lines apart m s.driver s.at is.up_to y x.place there number
            (at_place calls lines apart s is x y at there) own its (x.call.call, s.made) (is.due x y at there)
            not_now)

        due : (z : PlacedCall) (w : BoardLine) → slice_get s.calls (s.at + 1) ≡ Some z
            → slice_get (lines_after m lines) z.place ≡ Some w → due_call w.def s.driver w.past ≡ Some (z.call.call, 0)
        due z w at_z there_w =
            let line : w.def.line ≡ z.call.line = subst
            (λ (o : Option BoardLine). IsSomeAnd o (λ y. y.def.line ≡ z.call.line)) there_w
            (places_after s.calls is.places (s.at + 1) z at_z) in
            let d = due_there calls (lines_after m lines) (have_after have)
            (subst AreApart (sym (defs_moved lines m)) apart) s.driver s.calls cut_after (s.at + 1) up z w at_z
            there_w line in
            by_count d.0 d.1
          where
            by_count : (n : ℕ) → due_call w.def s.driver w.past ≡ Some (z.call.call, n) → due_call w.def s.driver w.past ≡ Some (z.call.call, 0)
            by_count zero is = is
            by_count (suc n) is_due =
                absurd (none_begun (calls_of s.calls) lines apart m s.driver s.at is.up_to y x.place there number
                (at_place calls lines apart s is x y at there) not_now its z.place w z.call.call n there_w is_due)

    pub own_script : IsScript calls (lines_after m lines) (advanced m.1 s)
    own_script = subst (λ (o : Option PlacedCall). IsScript calls (lines_after m lines) (advanced_at o m.1 s)) (sym at)
        (by_last (completes x.call.call m.1) refl)
      where
        by_last : (b : Bool) → completes x.call.call m.1 ≡ b → IsScript calls (lines_after m lines) (advanced_by b s)
        by_last true last = goes_past (sym its_last ∙ last)
        by_last false last = goes_further (sym its_last ∙ last)
