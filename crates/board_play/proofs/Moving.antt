-- A move keeps that the drivers' calls are made in the order of their scripts.
use Rattle.std.proofs.Common.{◌≡◌, ℕ, zero, suc, ◌+◌, ◌<◌, ◌≤◌, ◌⊎◌, inl, inr, Bool, true, false, ◌&&◌, cond, IsSomeAnd}
use Rattle.std.proofs.Common.{Option, Some, None, List, [], ◌∷◌, map, take, slice_get, refl, sym, ap, ◌∙◌, subst, arith}
use Rattle.std.proofs.Common.{eq-eqb}
use Rattle.irq_base.specs.declared.calls.Call.{Call}
use Rattle.irq_base.specs.declared.entries.Actor.{Actor}
use Rattle.irq_base.specs.declared.entries.Actor.TheVariants as actors
use Rattle.irq_base.specs.declared.entries.Entry.{Entry}
use Rattle.irq_base.specs.declared.lines.LineDef.{LineDef}
use Rattle.irq_base.specs.declared.numbers.DriverNo.{DriverNo}
use Rattle.irq_base.specs.declared.numbers.LineNo.{LineNo}
use Rattle.irq_model.specs.Due.{due_call}
use Rattle.irq_model.specs.Kinds.{same_line, same_driver, is_driver, is_by_driver}
use Rattle.irq_model.specs.Next.{next_of_driver, next_past}
use Rattle.irq_model.proofs.Same.{driver_from_same, line_from_same, same_self_line}
use Rattle.irq_laws.proofs.Chosen.{the_same}
use Rattle.irq_laws.proofs.Lists.{both_ways}
use Rattle.irq_laws.proofs.OwnLaws.{due_is_own_past}
use Rattle.irq_laws.proofs.Progress.{due_at, same_call}
use Rattle.board_def.specs.Seen.{BoardSeen}
use Rattle.board_def.specs.declared.rows.ScriptCall.{ScriptCall}
use Rattle.board_play.specs.Current.{calls_on, current_from}
use Rattle.board_play.specs.Kept.{IsCallOn, IsUpTo}
use Rattle.board_play.specs.Lines.{BoardLine, Move, part, lines_at, line_after, lines_after}
use Rattle.board_play.specs.Order.{line_for}
use Rattle.board_play.proofs.Counting.{no_more, not_completed, one_completed, others_complete}
use Rattle.board_play.proofs.Members.{AreApart, find_there, found}
use Rattle.board_play.proofs.Moves.{MovesOn}
use Rattle.board_play.proofs.Parts.{the_line}
use Rattle.board_play.proofs.Script.{is_on, fewer, one_longer, done, IsThe, Current, current, is_current}

pub lines_more : (ds : List LineDef) (m : Move) (g : List Move) → lines_at ds (m ∷ g) ≡ lines_after m (lines_at ds g)
lines_more [] m g = refl
lines_more (d ∷ ds) m g = ap (λ (xs : List BoardLine). line_after m (record { def = d; past = part d.line g }) ∷ xs) (lines_more ds m g)

pub defs_moved : (lines : List BoardLine) (m : Move) → map (λ (x : BoardLine). x.def) (lines_after m lines) ≡ map (λ (x : BoardLine). x.def) lines
defs_moved [] m = refl
defs_moved (x ∷ xs) m = ap (λ (ds : List LineDef). x.def ∷ ds) (defs_moved xs m)

-- what stands at a place after the move
pub record Moved (lines : List BoardLine) (m : Move) (i : ℕ) (y : BoardLine) : Type 0 where
  pub line : BoardLine
  pub at : slice_get lines i ≡ Some line
  pub is : line_after m line ≡ y

pub moved_at : (lines : List BoardLine) (m : Move) (i : ℕ) (y : BoardLine) → slice_get (lines_after m lines) i ≡ Some y → Moved lines m i y
moved_at [] m i y at = cc
moved_at (x ∷ xs) m zero y at = record { line = x; at = refl; is = the_same (line_after m x) y at }
moved_at (x ∷ xs) m (suc i) y at = let s = moved_at xs m i y at in record { line = s.line; at = s.at; is = s.is }

-- ---- whose entry it is

due_some : (def : LineDef) (r : DriverNo) (past : List Entry) (e : Entry)
    → next_past def past (actors.Driver r) ≡ Some e → (x : Call × ℕ) × (due_call def r past ≡ Some x)
due_some def r past e is = by_due (due_call def r past) refl is
  where
    by_due : (o : Option (Call × ℕ)) → due_call def r past ≡ o → next_of_driver def r past o ≡ Some e → (x : Call × ℕ) × (due_call def r past ≡ Some x)
    by_due None due is = cc
    by_due (Some x) due is = (x, due)

none_some : (o : Option (Call × ℕ)) (d : Call) (n : ℕ) → o ≡ None → o ≡ Some (d, n) → ⊥
none_some None d n none some = cc
none_some (Some x) d n none some = cc

zero_suc : (d c : Call) (n : ℕ) → due_at d zero ≡ due_at c (suc n) → ⊥
zero_suc d c n h = let k = (same_call d c zero (suc n) h).1 in omega (arith, k)

-- ---- another's move

module _ (calls : List ScriptCall) (lines : List BoardLine) (m : Move) (r : DriverNo) (p : ℕ) where
  pub not_own : is_by_driver r m.1 ≡ false → IsUpTo calls lines r p → IsUpTo calls (lines_after m lines) r p
  not_own other u = record { complete = complete; begun = begun }
    where
      same_done : (x : BoardLine) (b : Bool) → done (record { def = x.def; past = cond b (m.1 ∷ x.past) x.past }) r ≡ done x r
      same_done x true = others_complete x.def r m.1 x.past other
      same_done x false = refl

      same_due : (x : BoardLine) (b : Bool) → due_call x.def r (cond b (m.1 ∷ x.past) x.past) ≡ due_call x.def r x.past
      same_due x true = no_more x.def r m.1 x.past other
      same_due x false = refl

      complete : (i : ℕ) (y : BoardLine) → slice_get (lines_after m lines) i ≡ Some y → done y r ≡ calls_on y.def.line r (take p calls)
      complete i y at =
          let s = moved_at lines m i y at in
          subst (λ (z : BoardLine). done z r ≡ calls_on z.def.line r (take p calls)) s.is
          (same_done s.line (same_line s.line.def.line m.0) ∙ u.complete i s.line s.at)

      begun : (i : ℕ) (y : BoardLine) (c : Call) (n : ℕ) → slice_get (lines_after m lines) i ≡ Some y
          → due_call y.def r y.past ≡ Some (c, suc n) → IsSomeAnd (slice_get calls p) (IsCallOn y.def.line r)
      begun i y c n at due =
          let s = moved_at lines m i y at in
          let was : due_call s.line.def r s.line.past ≡ Some (c, suc n) =
          sym (same_due s.line (same_line s.line.def.line m.0)) ∙ subst (λ (z : BoardLine). due_call z.def r z.past ≡ Some (c, suc n)) (sym s.is) due in
          subst (λ (z : BoardLine). IsSomeAnd (slice_get calls p) (IsCallOn z.def.line r)) s.is (u.begun i s.line c n s.at was)

-- ---- the driver's own move

two : (a b : ℕ) → (a < b) ⊎ (b ≤ a)
two a b = grind arith

not_above : (a b : ℕ) → (a < b → ⊥) → b ≤ a
not_above a b not = elim (two a b) [ inl less ↦ absurd (not less) | inr le ↦ le ]

-- a call that has begun is the current one
call_at : (lines : List BoardLine) (calls : List ScriptCall) (r : DriverNo) (p : ℕ) (x : BoardLine)
    → (o : Option ScriptCall) → slice_get calls p ≡ o → IsSomeAnd o (IsCallOn x.def.line r)
    → IsThe lines x → ((y : BoardLine) → IsThe lines y → calls_on y.def.line r (take p calls) ≤ done y r)
    → done x r ≤ calls_on x.def.line r (take p calls) → current_from lines r [] calls ≡ Some x
call_at lines calls r p x None at on the passed waits = absurd on
call_at lines calls r p x (Some c) at on the passed waits =
    let mine : same_driver r c.driver ≡ true = same_driver_of r c.driver on.1 in
    is_current lines r [] calls p c x (λ y the. let le = passed y the in omega (arith, le)) at mine on.0 the (omega (arith, waits))
  where
    same_driver_of : (r s : DriverNo) → s ≡ r → same_driver r s ≡ true
    same_driver_of r s same = eq-eqb r.0 s.0 (ap (λ (d : DriverNo). d.0) (sym same))

pub begun_is_current : (lines : List BoardLine) (calls : List ScriptCall)
    → AreApart (map (λ (x : BoardLine). x.def) lines) → (r : DriverNo) (p : ℕ) → IsUpTo calls lines r p
    → (i : ℕ) (x : BoardLine) (c : Call) (n : ℕ) → slice_get lines i ≡ Some x
    → due_call x.def r x.past ≡ Some (c, suc n) → current_from lines r [] calls ≡ Some x
begun_is_current lines calls apart r p u i x c n at due =
    call_at lines calls r p x (slice_get calls p) refl (u.begun i x c n at due) (find_there lines apart i x at) passed
    (let e = u.complete i x at in omega (arith, e))
  where
    passed : (y : BoardLine) → IsThe lines y → calls_on y.def.line r (take p calls) ≤ done y r
    passed y the =
        let f = found lines y.def.line y the in
        let e = u.complete f.place y f.at in
        omega (arith, e)

module _ (calls : List ScriptCall) (lines : List BoardLine) (apart : AreApart (map (λ (x : BoardLine). x.def) lines))
    (m : Move) (r : DriverNo) (p : ℕ) (u : IsUpTo calls lines r p)
    (x : BoardLine) (i : ℕ) (at_x : slice_get lines i ≡ Some x) (number : m.0 ≡ x.def.line) (k : Current lines r [] calls x) where
  -- up to the place of the current call
  up_to_here : (y : BoardLine) (j : ℕ) → slice_get lines j ≡ Some y → done y r ≡ calls_on y.def.line r (take k.place calls)
  up_to_here y j at =
      let is = u.complete j y at in
      let passed = k.passed y (find_there lines apart j y at) (omega arith) in
      let short = fewer y.def.line r calls p k.place before in
      omega (arith, is, passed, short)
    where
      is_x : is_on x.def.line r k.call ≡ true
      is_x = ap (λ (l : LineNo). same_line l x.def.line && same_driver r k.call.driver) k.line
          ∙ (ap (λ (b : Bool). b && same_driver r k.call.driver) (same_self_line x.def.line) ∙ k.mine)

      beyond : k.place < p → ⊥
      beyond more =
          let longer : calls_on x.def.line r (take (suc k.place) calls) ≡ calls_on x.def.line r (take k.place calls) + 1 =
          one_longer x.def.line r calls k.place k.call k.at
          ∙ ap (λ (b : Bool). cond b (calls_on x.def.line r (take k.place calls) + 1)
          (calls_on x.def.line r (take k.place calls))) is_x in
          let le = fewer x.def.line r calls (suc k.place) p (omega (arith, more)) in
          let is = u.complete i x at_x in
          let waits : done x r ≤ calls_on x.def.line r [] + calls_on x.def.line r (take k.place calls) = k.waits in
          omega (arith, longer, le, is, waits)

      before : p ≤ k.place
      before = not_above k.place p beyond

  -- the moved line is x, and no other has a call that has begun
  is_moved_line : (y : BoardLine) (j : ℕ) → slice_get lines j ≡ Some y → same_line y.def.line m.0 ≡ true → x ≡ y
  is_moved_line y j at same = the_line lines apart i j x y at_x at (sym number ∙ sym (line_from_same y.def.line m.0 same))

  moved_is_x : same_line x.def.line m.0 ≡ true
  moved_is_x = ap (λ (l : LineNo). same_line x.def.line l) number ∙ same_self_line x.def.line

  only_x : current_from lines r [] calls ≡ Some x → (y : BoardLine) (j : ℕ) (c : Call) (n : ℕ)
      → slice_get lines j ≡ Some y → due_call y.def r y.past ≡ Some (c, suc n) → x ≡ y
  only_x is y j c n at due = the_same x y (sym is ∙ begun_is_current lines calls apart r p u j y c n at due)

  is_x_call : is_on x.def.line r k.call ≡ true
  is_x_call = ap (λ (l : LineNo). same_line l x.def.line && same_driver r k.call.driver) k.line
      ∙ (ap (λ (b : Bool). b && same_driver r k.call.driver) (same_self_line x.def.line) ∙ k.mine)

  -- another line's count doesn't grow past the call
  not_others_call : (y : BoardLine) → same_line y.def.line m.0 ≡ false → is_on y.def.line r k.call ≡ false
  not_others_call y differs = by_test (same_line k.call.line y.def.line) refl
    where
      by_test : (b : Bool) → same_line k.call.line y.def.line ≡ b → (b && same_driver r k.call.driver) ≡ false
      by_test false other = refl
      by_test true same =
          let its : y.def.line ≡ m.0 = sym (line_from_same k.call.line y.def.line same) ∙ (k.line ∙ sym number) in
          both_ways (same_line y.def.line m.0) (ap (λ (l : LineNo). same_line y.def.line l) (sym its) ∙ same_self_line y.def.line) differs

  -- the call goes on
  pub goes_on : is_by_driver r m.1 ≡ true → current_from lines r [] calls ≡ Some x → (d : Call) (n : ℕ)
      → due_call x.def r (m.1 ∷ x.past) ≡ Some (d, suc n) → IsUpTo calls (lines_after m lines) r k.place
  goes_on own is d n due = record { complete = complete; begun = begun }
    where
      same_done : (y : BoardLine) (j : ℕ) → slice_get lines j ≡ Some y → (b : Bool) → same_line y.def.line m.0 ≡ b
          → done (record { def = y.def; past = cond b (m.1 ∷ y.past) y.past }) r ≡ done y r
      same_done y j at true same = subst (λ (z : BoardLine). done (record { def = z.def; past = m.1 ∷ z.past }) r
          ≡ done z r) (is_moved_line y j at same) (not_completed x.def r m.1 x.past d n own due)
      same_done y j at false differs = refl

      complete : (j : ℕ) (y : BoardLine) → slice_get (lines_after m lines) j ≡ Some y → done y r ≡ calls_on y.def.line r (take k.place calls)
      complete j y at =
          let s = moved_at lines m j y at in
          subst (λ (z : BoardLine). done z r ≡ calls_on z.def.line r (take k.place calls)) s.is
          (same_done s.line j s.at (same_line s.line.def.line m.0) refl ∙ up_to_here s.line j s.at)

      here : (y : BoardLine) → x ≡ y → IsSomeAnd (slice_get calls k.place) (IsCallOn y.def.line r)
      here y same =
          subst (λ (z : BoardLine). IsSomeAnd (slice_get calls k.place) (IsCallOn z.def.line r)) same
          (subst (λ (o : Option ScriptCall). IsSomeAnd o (IsCallOn x.def.line r)) (sym k.at) (k.line, sym (driver_from_same r k.call.driver k.mine)))

      of_line : (y : BoardLine) (j : ℕ) → slice_get lines j ≡ Some y → (b : Bool) → same_line y.def.line m.0 ≡ b
          → (c : Call) (o : ℕ) → due_call y.def r (cond b (m.1 ∷ y.past) y.past) ≡ Some (c, suc o) → x ≡ y
      of_line y j at true same c o due = is_moved_line y j at same
      of_line y j at false differs c o due = only_x is y j c o at due

      begun : (j : ℕ) (y : BoardLine) (c : Call) (o : ℕ) → slice_get (lines_after m lines) j ≡ Some y
          → due_call y.def r y.past ≡ Some (c, suc o) → IsSomeAnd (slice_get calls k.place) (IsCallOn y.def.line r)
      begun j y c o at due =
          let s = moved_at lines m j y at in
          let was = subst (λ (z : BoardLine). due_call z.def r z.past ≡ Some (c, suc o)) (sym s.is) due in
          subst (λ (z : BoardLine). IsSomeAnd (slice_get calls k.place) (IsCallOn z.def.line r)) s.is
          (here s.line (of_line s.line j s.at (same_line s.line.def.line m.0) refl c o was))

  -- if it doesn't go on, no call has begun
  none : ((d : Call) (n : ℕ) → due_call x.def r (m.1 ∷ x.past) ≡ Some (d, suc n) → ⊥) → current_from lines r [] calls ≡ Some x
      → (y : BoardLine) (j : ℕ) → slice_get lines j ≡ Some y → (b : Bool) → same_line y.def.line m.0 ≡ b
      → (c : Call) (o : ℕ) → due_call y.def r (cond b (m.1 ∷ y.past) y.past) ≡ Some (c, suc o) → ⊥
  none not is y j at true same c o due = not c o (subst
      (λ (z : BoardLine). due_call z.def r (m.1 ∷ z.past) ≡ Some (c, suc o)) (sym (is_moved_line y j at same)) due)
  none not is y j at false differs c o due =
      let here : x ≡ y = only_x is y j c o at due in
      both_ways (same_line y.def.line m.0) (subst (λ (z : BoardLine). same_line z.def.line m.0 ≡ true) here moved_is_x) differs

  pub none_begun : ((d : Call) (n : ℕ) → due_call x.def r (m.1 ∷ x.past) ≡ Some (d, suc n) → ⊥) → current_from lines r [] calls ≡ Some x
      → (j : ℕ) (y : BoardLine) (c : Call) (o : ℕ) → slice_get (lines_after m lines) j ≡ Some y → due_call y.def r y.past ≡ Some (c, suc o) → ⊥
  none_begun not is j y c o at due =
      let s = moved_at lines m j y at in
      none not is s.line j s.at (same_line s.line.def.line m.0) refl c o (subst (λ (z : BoardLine). due_call z.def r z.past ≡ Some (c, suc o)) (sym s.is) due)

  -- the call is complete
  pub is_complete : is_by_driver r m.1 ≡ true → current_from lines r [] calls ≡ Some x → (z : Call × ℕ)
      → due_call x.def r x.past ≡ Some z → ((d : Call) (n : ℕ) → due_call x.def r (m.1 ∷ x.past) ≡ Some (d, suc n) → ⊥)
      → IsUpTo calls (lines_after m lines) r (suc k.place)
  is_complete own is z was not = record { complete = complete; begun = begun }
    where
      counted : (y : BoardLine) (j : ℕ) → slice_get lines j ≡ Some y → (b : Bool) → same_line y.def.line m.0 ≡ b
          → done (record { def = y.def; past = cond b (m.1 ∷ y.past) y.past }) r ≡ calls_on y.def.line r (take (suc k.place) calls)
      counted y j at true same =
          subst (λ (z : BoardLine). done (record { def = z.def; past = m.1 ∷ z.past }) r
          ≡ calls_on z.def.line r (take (suc k.place) calls)) (is_moved_line y j at same)
          (one_completed x.def r m.1 x.past z own was not ∙ (ap (λ (n : ℕ). n + 1) (up_to_here x i at_x)
          ∙ (ap (λ (b : Bool). cond b (calls_on x.def.line r (take k.place calls) + 1)
          (calls_on x.def.line r (take k.place calls))) (sym is_x_call)
          ∙ sym (one_longer x.def.line r calls k.place k.call k.at))))
      counted y j at false differs =
          up_to_here y j at
          ∙ (ap (λ (b : Bool). cond b (calls_on y.def.line r (take k.place calls) + 1)
          (calls_on y.def.line r (take k.place calls))) (sym (not_others_call y differs))
          ∙ sym (one_longer y.def.line r calls k.place k.call k.at))

      complete : (j : ℕ) (y : BoardLine) → slice_get (lines_after m lines) j ≡ Some y → done y r ≡ calls_on y.def.line r (take (suc k.place) calls)
      complete j y at =
          let s = moved_at lines m j y at in
          subst (λ (z : BoardLine). done z r ≡ calls_on z.def.line r (take (suc k.place) calls)) s.is
          (counted s.line j s.at (same_line s.line.def.line m.0) refl)

      begun : (j : ℕ) (y : BoardLine) (c : Call) (o : ℕ) → slice_get (lines_after m lines) j ≡ Some y
          → due_call y.def r y.past ≡ Some (c, suc o) → IsSomeAnd (slice_get calls (suc k.place))
          (IsCallOn y.def.line r)
      begun j y c o at due =
          absurd (none_begun not is j y c o at due)

  own_move : is_by_driver r m.1 ≡ true → current_from lines r [] calls ≡ Some x → (z : Call × ℕ)
      → due_call x.def r x.past ≡ Some z → (q : ℕ) × IsUpTo calls (lines_after m lines) r q
  own_move own is z was = by_due (due_call x.def r (m.1 ∷ x.past)) refl
    where
      by_due : (o : Option (Call × ℕ)) → due_call x.def r (m.1 ∷ x.past) ≡ o → (q : ℕ) × IsUpTo calls (lines_after m lines) r q
      by_due None due = (suc k.place, is_complete own is z was (λ d n h. none_some (due_call x.def r (m.1 ∷ x.past)) d (suc n) due h))
      by_due (Some (d, zero)) due = (suc k.place, is_complete own is z was (λ c n h. zero_suc d c n (sym due ∙ h)))
      by_due (Some (d, suc n)) due = (k.place, goes_on own is d n due)

-- ---- each move

pub up_to_more : (board : BoardSeen) (lines : List BoardLine) → AreApart (map (λ (x : BoardLine). x.def) lines)
    → (a : Actor) (m : Move) → MovesOn board lines a m → (r : DriverNo) (p : ℕ) → IsUpTo board.calls lines r p
    → (q : ℕ) × IsUpTo board.calls (lines_after m lines) r q
up_to_more board lines apart a m moves r p u = by_test (is_by_driver r m.1) refl
  where
    whose : is_by_driver r m.1 ≡ is_driver r a
    whose = ap (is_driver r) (due_is_own_past moves.line.def moves.line.past a m.1 moves.due)

    of_driver : (s : DriverNo) → a ≡ actors.Driver s → r ≡ s → is_by_driver r m.1 ≡ true → (q : ℕ) × IsUpTo board.calls (lines_after m lines) r q
    of_driver s is same own =
        let me : a ≡ actors.Driver r = is ∙ ap (λ (d : DriverNo). actors.Driver d) (sym same) in
        let its : line_for board lines (actors.Driver r) ≡ Some moves.line = ap (λ (b : Actor). line_for board lines b) (sym me) ∙ moves.its in
        let due = due_some moves.line.def r moves.line.past m.1 (ap (λ (b : Actor). next_past moves.line.def moves.line.past b) (sym me) ∙ moves.due) in
        own_move board.calls lines apart m r p u moves.line moves.place moves.at moves.number
        (current lines r [] board.calls moves.line its) own its due.0 due.1

    by_actor : (b : Actor) → a ≡ b → is_driver r b ≡ true → is_by_driver r m.1 ≡ true → (q : ℕ) × IsUpTo board.calls (lines_after m lines) r q
    by_actor (actors.Driver s) is test own = of_driver s is (driver_from_same r s test) own
    by_actor (actors.Cpu c) is test own = cc
    by_actor (actors.Thread d) is test own = cc

    by_test : (b : Bool) → is_by_driver r m.1 ≡ b → (q : ℕ) × IsUpTo board.calls (lines_after m lines) r q
    by_test true own = by_actor a refl (sym whose ∙ own) own
    by_test false other = (p, not_own board.calls lines m r p other u)
