-- A driver's attempts keep that its calls are made in the order of its script.
use Rattle.std.proofs.Common.{◌≡◌, ℕ, zero, suc, ◌+◌, ◌<◌, ◌≤◌, ◌==◌, ◌⊎◌, inl, inr, Bool, true, false, ◌&&◌, cond}
use Rattle.std.proofs.Common.{IsSomeAnd, Option, Some, None, List, [], ◌∷◌, length, map, filter, take, reverse, set}
use Rattle.std.proofs.Common.{slice_get, refl, sym, ap, ◌∙◌, subst, arith, add-one}
use Rattle.std.proofs.lemmas.Bool.{and_parts, false_from_ne_true}
use Rattle.irq_base.specs.declared.calls.Call.{Call}
use Rattle.irq_base.specs.declared.entries.Actor.{Actor}
use Rattle.irq_base.specs.declared.entries.Actor.TheVariants as actors
use Rattle.irq_base.specs.declared.entries.Entry.{Entry}
use Rattle.irq_base.specs.declared.lines.LineDef.{LineDef}
use Rattle.irq_base.specs.declared.numbers.DriverNo.{DriverNo}
use Rattle.irq_base.specs.declared.numbers.LineNo.{LineNo}
use Rattle.irq_model.specs.Due.{calls_by, entries_by, due_of, due_call}
use Rattle.irq_model.specs.Kinds.{same_line, same_driver, is_driver, is_by_driver}
use Rattle.irq_model.specs.Next.{next, next_of_driver}
use Rattle.irq_model.proofs.Same.{driver_from_same, line_from_same, same_self_line, same_self_driver}
use Rattle.irq_laws.proofs.Chosen.{the_same}
use Rattle.irq_laws.proofs.OwnLaws.{due_is_own}
use Rattle.board_def.specs.LineOf.{with_driver}
use Rattle.board_def.specs.Rules.{IsBoard}
use Rattle.board_def.specs.Seen.{BoardSeen}
use Rattle.board_def.specs.declared.rows.ScriptCall.{ScriptCall}
use Rattle.board_play.specs.Current.{calls_on, current_from}
use Rattle.board_play.specs.Kept.{IsCallOn, IsUpTo}
use Rattle.board_play.specs.Lines.{BoardLine, Move, line_after, lines_after, defs_of}
use Rattle.board_play.proofs.Counting.{kth_is_due}
use Rattle.board_play.proofs.Members.{AreApart, find_there, found}
use Rattle.board_play.proofs.Moving.{goes_on, is_complete}
use Rattle.board_play.proofs.OfBoard.{has_calls, apart_defs}
use Rattle.board_play.proofs.Script.{is_on, one_longer, done, IsThe, Current, is_current}
use Rattle.line_lock.specs.Passes.{LockSeen}
use Rattle.workers.specs.Fit.{IsPlaceOf, own_past, own_line, own_lines}
use Rattle.workers.specs.Seen.{PostSeen}
use Rattle.line_scripts.specs.Endings.{completes}
use Rattle.line_scripts.proofs.LastEntry.{completes_at, last_is, goes, ends}
use Rattle.workers.proofs.Lists.{at_map, of_map, at_set, there}
use Rattle.workers.proofs.Manning.{not_placed}
use Rattle.workers.proofs.Own.{AreAlike}

-- ---- calls that are passed over

-- each line is one of the shared ones
abbrev pub AreAmong : List LockSeen → List BoardLine → Type 0
AreAmong lines own = (i : ℕ) (x : BoardLine) → slice_get own i ≡ Some x → (l : LockSeen) × (slice_get lines i ≡ Some l) × (x.def ≡ l.def)

module _ (calls : List ScriptCall) (lines : List LockSeen) (own : List BoardLine) (among : AreAmong lines own) (r : DriverNo) where
  not_on : (c : ScriptCall) → (c.driver ≡ r → IsPlaceOf lines c.line None) → (i : ℕ) (x : BoardLine)
      → slice_get own i ≡ Some x → c.line ≡ x.def.line → c.driver ≡ r → ⊥
  not_on c passed i x at of_line mine =
      let l = among i x at in
      not_placed lines c.line i l.0 l.1 (ap (λ (d : LineDef). d.line) (sym l.2) ∙ sym of_line) (passed mine)

  pub passed_one : (p : ℕ) (c : ScriptCall) → slice_get calls p ≡ Some c → (c.driver ≡ r → IsPlaceOf lines c.line None)
      → IsUpTo calls own r p → IsUpTo calls own r (suc p)
  passed_one p c at_p passed u =
      record {
        complete = λ i x at. u.complete i x at ∙ sym (one_longer x.def.line r calls p c at_p
            ∙ ap (λ (b : Bool). cond b (calls_on x.def.line r (take p calls) + 1)
            (calls_on x.def.line r (take p calls))) (off i x at));
        begun = λ i x d n at due. absurd (stood i x at (slice_get calls p) at_p (u.begun i x d n at due));
      }
    where
      off : (i : ℕ) (x : BoardLine) → slice_get own i ≡ Some x → is_on x.def.line r c ≡ false
      off i x at =
          false_from_ne_true (is_on x.def.line r c)
          (λ on. let b = and_parts (same_line c.line x.def.line) (same_driver r c.driver) on in
          not_on c passed i x at (line_from_same c.line x.def.line b.0) (sym (driver_from_same r c.driver b.1)))

      stood : (i : ℕ) (x : BoardLine) → slice_get own i ≡ Some x → (o : Option ScriptCall) → o ≡ Some c → IsSomeAnd o (IsCallOn x.def.line r) → ⊥
      stood i x at None is on = absurd on
      stood i x at (Some d) is on =
          let same : d ≡ c = the_same d c is in
          not_on c passed i x at (ap (λ (e : ScriptCall). e.line) (sym same) ∙ on.0) (ap (λ (e : ScriptCall). e.driver) (sym same) ∙ on.1)

  pub passed_all : (d p q : ℕ) → p + d ≡ q → q ≤ length calls
      → ((k : ℕ) (c : ScriptCall) → p ≤ k → k < q → slice_get calls k ≡ Some c → c.driver ≡ r
      → IsPlaceOf lines c.line None) → IsUpTo calls own r p → IsUpTo calls own r q
  passed_all zero p q is few passed u = subst (λ (n : ℕ). IsUpTo calls own r n) (let e : p ≡ q = omega (arith, is) in e) u
  passed_all (suc d) p q is few passed u =
      let c = there calls p (omega (arith, is, few)) in
      passed_all d (suc p) q (omega (arith, is)) few (λ k c from to at mine. passed k c (omega (arith, from)) to at mine)
      (passed_one p c.0 c.1 (λ mine. passed p c.0 (omega arith) (omega (arith, is)) c.1 mine) u)

-- ---- the current call

-- the call at a place of the scripts is the driver's call on its line of that number
kth_call : (r : DriverNo) (line : LineNo) (cs : List ScriptCall) (p : ℕ) (c : ScriptCall) → slice_get cs p ≡ Some c → c.line ≡ line → c.driver ≡ r
    → slice_get (calls_by r (map with_driver (filter (λ c. c.line.0 == line.0) cs))) (calls_on line r (take p cs)) ≡ Some c.call
kth_call r line [] p c at of_line mine = cc
kth_call r line (d ∷ cs) zero c at of_line mine =
    let same : d ≡ c = the_same d c at in
    let l : (d.line.0 == line.0) ≡ true = ap (λ (x : ScriptCall). x.line.0 == line.0) same
    ∙ (ap (λ (n : LineNo). n.0 == line.0) of_line ∙ same_self_line line) in
    let s : same_driver r d.driver ≡ true = ap (λ (x : ScriptCall). same_driver r x.driver) same ∙ (ap (same_driver r) mine ∙ same_self_driver r) in
    ap (λ (b : Bool). slice_get (calls_by r (map with_driver (cond b (d ∷ filter (λ c. c.line.0 == line.0) cs) (filter (λ c. c.line.0 == line.0) cs)))) 0) l
    ∙ (ap (λ (b : Bool). slice_get (cond b (d.call ∷ calls_by r (map with_driver (filter (λ c. c.line.0 == line.0) cs)))
    (calls_by r (map with_driver (filter (λ c. c.line.0 == line.0) cs)))) 0) s
    ∙ ap (λ (x : ScriptCall). Some x.call) same)
kth_call r line (d ∷ cs) (suc p) c at of_line mine = by_line (d.line.0 == line.0) (kth_call r line cs p c at of_line mine)
  where
    by_driver : (s : Bool) (xs : List Call) (n : ℕ) → slice_get xs n ≡ Some c.call → slice_get (cond s (d.call ∷ xs) xs) (cond s (n + 1) n) ≡ Some c.call
    by_driver true xs n deeper = ap (λ (m : ℕ). slice_get (d.call ∷ xs) m) (add-one n) ∙ deeper
    by_driver false xs n deeper = deeper

    by_line : (l : Bool) → slice_get (calls_by r (map with_driver (filter (λ c. c.line.0 == line.0) cs))) (calls_on line r (take p cs)) ≡ Some c.call
        → slice_get (calls_by r (map with_driver (cond l (d ∷ filter (λ c. c.line.0 == line.0) cs)
        (filter (λ c. c.line.0 == line.0) cs)))) (cond (l && same_driver r d.driver)
        (calls_on line r (take p cs) + 1) (calls_on line r (take p cs))) ≡ Some c.call
    by_line true deeper = by_driver (same_driver r d.driver)
        (calls_by r (map with_driver (filter (λ c. c.line.0 == line.0) cs))) (calls_on line r (take p cs)) deeper
    by_line false deeper = deeper

module _ (board : BoardSeen) (isb : IsBoard board) (own : List BoardLine)
    (defs : map (λ (x : BoardLine). x.def) own ≡ defs_of board) (r : DriverNo) (p : ℕ) (u : IsUpTo board.calls own r p)
    (c : ScriptCall) (at_p : slice_get board.calls p ≡ Some c) (mine : c.driver ≡ r) (i : ℕ) (y : BoardLine)
    (at_y : slice_get own i ≡ Some y) (line : c.line ≡ y.def.line) where
  apart : AreApart (map (λ (x : BoardLine). x.def) own)
  apart = subst AreApart (sym defs) (apart_defs board isb)

  passed : (z : BoardLine) → IsThe own z → calls_on z.def.line r [] + calls_on z.def.line r (take p board.calls) ≤ done z r
  passed z the =
      let f = found own z.def.line z the in
      let e = u.complete f.place z f.at in
      omega (arith, e)

  same_r : same_driver r c.driver ≡ true
  same_r = ap (same_driver r) mine ∙ same_self_driver r

  waits : done y r ≤ calls_on y.def.line r [] + calls_on y.def.line r (take p board.calls)
  waits = let e = u.complete i y at_y in omega (arith, e)

  its : current_from own r [] board.calls ≡ Some y
  its = is_current own r [] board.calls p c y passed at_p same_r line (find_there own apart i y at_y) waits

  now : Current own r [] board.calls y
  now = record {
    place = p;
    call = c;
    at = at_p;
    mine = same_r;
    line = line;
    found
        = find_there own apart i y at_y;
    waits = waits;
    passed = λ z the le. passed z the;
  }

  pub its_due : (n : ℕ) × (due_call y.def r y.past ≡ Some (c.call, n))
  its_due =
      kth_is_due y.def r y.past c.call
      (ap (λ (n : ℕ). slice_get (calls_by r y.def.calls) n) (u.complete i y at_y)
      ∙ (ap (λ (cs : List _). slice_get (calls_by r cs) (calls_on y.def.line r (take p board.calls)))
      (has_calls board i y.def (ap (λ (ds : List LineDef). slice_get ds i) (sym defs)
      ∙ at_map (λ (x : BoardLine). x.def) own i y at_y))
      ∙ kth_call r y.def.line board.calls p c at_p line mine))

  -- one more entry of the driver there
  module _ (h : List Entry) (e : Entry) (due : next y.def h (actors.Driver r) ≡ Some e) (alike : entries_by r y.past ≡ entries_by r (reverse h)) where
    d : (n : ℕ) × (due_call y.def r y.past ≡ Some (c.call, n))
    d = its_due

    by_r : is_by_driver r e ≡ true
    by_r = ap (λ (a : Actor). is_driver r a) (due_is_own y.def h (actors.Driver r) e due) ∙ same_self_driver r

    its_last : completes c.call e ≡ completes_at c.call d.0 e
    its_last =
        last_is y.def r (reverse h) c.call d.0 e
        (ap (λ (o : Option (Call × ℕ)). next_of_driver y.def r (reverse h) o)
        (sym d.1 ∙ ap (λ (es : List Entry). due_of (calls_by r y.def.calls) es) alike) ∙ due)

    m : Move
    m = (y.def.line, e)

    pub up_after : (last : Bool) → completes c.call e ≡ last → IsUpTo board.calls (lines_after (y.def.line, e) own) r (cond last (p + 1) p)
    unfolding now m
    up_after true is =
        subst (λ (n : ℕ). IsUpTo board.calls (lines_after (y.def.line, e) own) r n) (sym (add-one p))
        (is_complete board.calls own apart m r p u y i at_y refl now by_r its (c.call, d.0) d.1 (ends y.def r e y.past c.call d.0 by_r d.1 (sym its_last ∙ is)))
    up_after false is = goes_on board.calls own apart m r p u y i at_y refl now by_r its c.call d.0
        (goes y.def r e y.past c.call d.0 by_r d.1 (sym its_last ∙ is))

-- ---- the lines after it

apart_at : (ds : List LineDef) → AreApart ds → (i k : ℕ) (d e : LineDef) → slice_get ds i ≡ Some d
    → slice_get ds k ≡ Some e → (k ≡ i → ⊥) → same_line e.line d.line ≡ false
apart_at [] apart i k d e at_i at_k other = cc
apart_at (x ∷ xs) apart zero zero d e at_i at_k other = absurd (other refl)
apart_at (x ∷ xs) apart zero (suc k) d e at_i at_k other = subst (λ (y : LineDef). same_line e.line y.line ≡ false) (the_same x d at_i) (apart.0 k e at_k)
apart_at (x ∷ xs) apart (suc i) zero d e at_i at_k other
    = flipped d.line e.line (subst (λ (y : LineDef). same_line d.line y.line ≡ false) (the_same x e at_k)
    (apart.0 i d at_i))
  where
    flipped : (a b : LineNo) → same_line a b ≡ false → same_line b a ≡ false
    flipped a b h = grind (arith, h)
apart_at (x ∷ xs) apart (suc i) (suc k) d e at_i at_k other = apart_at xs apart.1 i k d e at_i at_k (λ same. other (ap suc same))

module _ (posts : List PostSeen) (apart : AreApart (map (λ (x : BoardLine). x.def) (own_lines posts))) (i : ℕ)
    (s after : PostSeen) (at_s : slice_get posts i ≡ Some s) (def : after.pass.def ≡ s.pass.def) (e : Entry)
    (past : own_past after.pass.knows.mine ≡ e ∷ own_past s.pass.knows.mine) (r : DriverNo) where
  at_def : (k : ℕ) (t : PostSeen) → slice_get posts k ≡ Some t → slice_get (map (λ (x : BoardLine). x.def) (own_lines posts)) k ≡ Some t.pass.def
  at_def k t at = at_map (λ (x : BoardLine). x.def) (own_lines posts) k (own_line t) (at_map own_line posts k t at)

  pub alike_after : AreAlike r (own_lines (set posts i after)) (lines_after (s.pass.def.line, e) (own_lines posts))
  alike_after k x at =
      let t = of_map own_line (set posts i after) k x at in
      subst (λ (y : BoardLine). (z : BoardLine) × (slice_get (lines_after (s.pass.def.line, e) (own_lines posts)) k
      ≡ Some z) × (y.def ≡ z.def) × (entries_by r y.past ≡ entries_by r z.past)) t.2
      (by_place t.0 (at_set posts i after k t.0 t.1))
    where
      m : Move
      m = (s.pass.def.line, e)

      by_place : (t : PostSeen) → ((k ≡ i) × (t ≡ after)) ⊎ ((k ≡ i → ⊥) × (slice_get posts k ≡ Some t))
          → (z : BoardLine) × (slice_get (lines_after (s.pass.def.line, e) (own_lines posts)) k ≡ Some z)
          × (t.pass.def ≡ z.def) × (entries_by r (own_past t.pass.knows.mine) ≡ entries_by r z.past)
      by_place t (inl here) = (
        line_after (s.pass.def.line, e) (own_line s),
        at_map (line_after (s.pass.def.line, e)) (own_lines posts) k (own_line s) (at_map own_line posts k s (ap (λ (n : ℕ). slice_get posts n) here.0 ∙ at_s)),
        ap (λ (y : PostSeen). y.pass.def) here.1 ∙ def,
        ap (λ (y : PostSeen). entries_by r (own_past y.pass.knows.mine)) here.1
            ∙ (ap (entries_by r) past ∙ sym (ap (λ (b : Bool). entries_by r
            (cond b (e ∷ own_past s.pass.knows.mine) (own_past s.pass.knows.mine)))
            (same_self_line s.pass.def.line))),
      )
      by_place t (inr other) = (
        line_after (s.pass.def.line, e) (own_line t),
        at_map (line_after (s.pass.def.line, e)) (own_lines posts) k (own_line t) (at_map own_line posts k t other.1),
        refl,
        sym (ap (λ (b : Bool). entries_by r (cond b (e ∷ own_past t.pass.knows.mine) (own_past t.pass.knows.mine)))
            (apart_at (map (λ (x : BoardLine). x.def) (own_lines posts)) apart i k s.pass.def t.pass.def
            (at_def i s at_s) (at_def k t other.1) other.0)),
      )
