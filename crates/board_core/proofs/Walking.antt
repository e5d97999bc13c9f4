-- A walk over a log.
use Rattle.std.proofs.Common.{◌≡◌, inl, inr, ℕ, zero, suc, ◌+◌, ◌-◌, ◌<◌, ◌≤◌, ◌==◌, Bool, true, false, cond, Option}
use Rattle.std.proofs.Common.{Some, None, Result, Ok, Err, List, [], ◌∷◌, ◌++◌, map, length, reverse, drop, get_or, set}
use Rattle.std.proofs.Common.{replicate, slice_get, IfSome, refl, sym, ap, ◌∙◌, subst, arith, add-one, zero-add}
use Rattle.std.proofs.Common.{length-append}
use Rattle.std.specs.List.{All}
use Rattle.std.proofs.lemmas.Bool.Decides.{nat_tests}
use Rattle.std.proofs.lemmas.List.{length-set, reverse-append, length-reverse, get_or-reverse, get_or-set_same, get_or-set_other}
use Rattle.std.proofs.lemmas.List.Elements.{All-head, All-tail, All-append, All-nil}
use Rattle.std.proofs.lemmas.Option.{slice_get-get_or, slice_get_within, get_or_from_slice_get}
use Rattle.irq_base.specs.declared.entries.Entry.{Entry}
use Rattle.irq_base.specs.declared.entries.Actor.{Actor}
use Rattle.irq_line.specs.Seen.{LineSeen}
use Rattle.irq_line.specs.declared.answers.StepRefused.{StepRefused}
use Rattle.irq_line.specs.declared.answers.Stepped.{Stepped}
use Rattle.irq_line.specs.declared.answers.Stepped.TheVariants as stepped
use Rattle.irq_line.specs.declared.answers.StepRefused.TheVariants as refusals
use Rattle.board_core.specs.Places.{SteppedAt}
use Rattle.irq_laws.proofs.Chosen.{the_same}
use Rattle.board_def.proofs.Rising.{all_of}
use Rattle.board_def.specs.Rules.{IsBoard}
use Rattle.board_def.specs.Seen.{BoardSeen}
use Rattle.board_play.specs.Lines.{BoardLine, Move, defs_of}
use Rattle.board_play.proofs.Members.{defs_at, past_at}
use Rattle.board_core.specs.Making.{AreNew}
use Rattle.board_core.proofs.Few.{few_lines}
use Rattle.board_core.specs.Log.{older, without_newest, with_newest, merged, moves_of, times, IsWalk, StandsAt}
use Rattle.irq_base.specs.declared.numbers.LineNo.{LineNo}
use Rattle.board_core.specs.Seen.{board_line, board_lines}
use Rattle.board_core.proofs.Searches.{there, dropped}
use Rattle.board_core.proofs.InLists.{set_there, set_other, set_cases, map_there}

-- ---- the oldest of the moves

-- line k has one entry more than the order takes of it: e, which comes before all that the order
-- tells
module _ (k : ℕ) (m : Move) where
  abbrev HasNext : Option BoardLine → ℕ → Type 0
  HasNext None n = ⊥
  HasNext (Some x) n = (x.def.line ≡ m.0) × (slice_get x.past n ≡ Some m.1)

  newest_next : (x : BoardLine) → HasNext (Some x) 0 → with_newest (Some x) [] ≡ m ∷ []
  newest_next x h = by_past x.past h.1
    where
      by_past : (past : List Entry) → slice_get past 0 ≡ Some m.1 → with_newest (Some (record { def = x.def; past = past })) [] ≡ m ∷ []
      by_past [] at = cc
      by_past (e ∷ past) at = ap (λ (l : _). (l, e) ∷ []) h.0 ∙ ap (λ (e : Entry). (m.0, e) ∷ []) (the_same e m.1 at)

  behind : (o : Option BoardLine) (g : List Move) → with_newest o (g ++ m ∷ []) ≡ with_newest o g ++ m ∷ []
  behind None g = refl
  behind (Some x) g = by_past x.past
    where
      by_past : (past : List Entry) → with_newest (Some (record { def = x.def; past = past })) (g ++ m ∷ [])
          ≡ with_newest (Some (record { def = x.def; past = past })) g ++ m ∷ []
      by_past [] = refl
      by_past (e ∷ past) = refl

  -- without the newest entry of the line at place j
  next_without : (lines : List BoardLine) (j n : ℕ) → HasNext (slice_get lines k) (cond (j == k) 1 0 + n)
      → HasNext (slice_get (without_newest (slice_get lines j) j lines) k) n
  next_without lines j n h = by_line (slice_get lines j) refl
    where
      older_next : (past : List Entry) (n : ℕ) → slice_get past (1 + n) ≡ Some m.1 → slice_get (older past) n ≡ Some m.1
      older_next past n at = by_past past (ap (λ (i : ℕ). slice_get past i) (let e : suc n ≡ 1 + n = omega arith in e) ∙ at)
        where
          by_past : (past : List Entry) → slice_get past (suc n) ≡ Some m.1 → slice_get (older past) n ≡ Some m.1
          by_past [] at = cc
          by_past (e ∷ past) at = at

      by_test : (b : Bool) → (j == k) ≡ b → (x : BoardLine) → slice_get lines j ≡ Some x
          → HasNext (slice_get lines k) (cond b 1 0 + n) → HasNext (slice_get (without_newest (Some x) j lines) k) n
      by_test true is x at h =
          let same : j ≡ k = grind (arith, nat_tests) in
          let at_k : slice_get lines k ≡ Some x = ap (λ (i : ℕ). slice_get lines i) (sym same) ∙ at in
          let its = subst (λ (o : Option BoardLine). HasNext o (1 + n)) at_k h in
          subst (λ (o : Option BoardLine). HasNext o n)
          (sym (ap (λ (i : ℕ). slice_get (without_newest (Some x) i lines) k) same ∙ set_there lines k x _ at_k))
          (its.0, older_next x.past n its.1)
      by_test false is x at h =
          let other : k ≡ j → ⊥ = λ same. (let d : (j == k) ≡ false = is in grind (arith, nat_tests)) in
          subst (λ (o : Option BoardLine). HasNext o n) (sym (set_other lines j k _ other)) (subst (λ (i : ℕ). HasNext (slice_get lines k) i) (zero-add n) h)

      by_line : (o : Option BoardLine) → slice_get lines j ≡ o → HasNext (slice_get (without_newest o j lines) k) n
      by_line None none = by_place (j == k) refl h
        where
          by_place : (b : Bool) → (j == k) ≡ b → HasNext (slice_get lines k) (cond b 1 0 + n) → HasNext (slice_get lines k) n
          by_place false is h = subst (λ (i : ℕ). HasNext (slice_get lines k) i) (zero-add n) h
          by_place true is h =
              let same : j ≡ k = grind (arith, nat_tests) in
              absurd (subst (λ (o : Option BoardLine). HasNext o (1 + n)) (ap (λ (i : ℕ). slice_get lines i) (sym same) ∙ none) h)
      by_line (Some x) there = by_test (j == k) refl x there h

  oldest : (ks : List ℕ) (lines : List BoardLine) → HasNext (slice_get lines k) (times k ks) → merged (ks ++ k ∷ []) lines ≡ merged ks lines ++ m ∷ []
  oldest [] lines h = by_line (slice_get lines k) h
    where
      by_line : (o : Option BoardLine) → HasNext o 0 → with_newest o [] ≡ m ∷ []
      by_line None h = absurd h
      by_line (Some x) h = newest_next x h
  oldest (j ∷ ks) lines h =
      ap (λ (g : List Move). with_newest (slice_get lines j) g) (oldest ks (without_newest (slice_get lines j) j lines) (next_without lines j (times k ks) h))
      ∙ behind (slice_get lines j) (merged ks (without_newest (slice_get lines j) j lines))

-- ---- the next move

module _ {A : Type 0} where
  from_the_end : (xs : List A) (c n : ℕ) (x : A) → slice_get xs c ≡ Some x → c + (1 + n) ≡ length xs → slice_get (reverse xs) n ≡ Some x
  from_the_end xs c n x at is =
      let len = length-reverse xs in
      let within : n < length (reverse xs) = omega (arith, is, len) in
      let place : length xs - 1 - n ≡ c = omega (arith, is) in
      slice_get-get_or (reverse xs) n x within
      ∙ ap (λ (y : A). Some y) (get_or-reverse xs n x (omega (arith, is)) ∙ (ap (λ (i : ℕ). get_or xs i x) place ∙ get_or_from_slice_get xs c x x at))

reverse_more : (ks : List ℕ) (k : ℕ) → reverse (k ∷ ks) ≡ reverse ks ++ k ∷ []
reverse_more ks k = reverse-append (k ∷ []) ks

times_append : (k : ℕ) (xs ys : List ℕ) → times k (xs ++ ys) ≡ times k xs + times k ys
times_append k [] ys = omega arith
times_append k (j ∷ xs) ys = let d = times_append k xs ys in omega (arith, d)

times_reverse : (k : ℕ) (ks : List ℕ) → times k (reverse ks) ≡ times k ks
times_reverse k [] = refl
times_reverse k (j ∷ ks) =
    let a = ap (times k) (reverse_more ks j) in
    let b = times_append k (reverse ks) (j ∷ []) in
    let d = times_reverse k ks in
    omega (arith, a, b, d)

itself : (k : ℕ) → (k == k) ≡ true
itself k = grind (arith, nat_tests)

pub record NextMove (cursors : List ℕ) (k : ℕ) (order : List ℕ) (lines : List LineSeen) : Type 0 where
  pub line : LineSeen
  pub entry : Entry
  pub at : slice_get lines k ≡ Some line
  pub entry_at : slice_get line.entries (get_or cursors k 0) ≡ Some entry
  pub moves : moves_of (k ∷ order) lines ≡ (line.def.line, entry) ∷ moves_of order lines
  pub walk : IsWalk (set cursors k (get_or cursors k 0 + 1)) order lines

pub next_move : (cursors : List ℕ) (k : ℕ) (order : List ℕ) (lines : List LineSeen) → IsWalk cursors (k ∷ order) lines → NextMove cursors k order lines
next_move cursors k order lines w =
    let x = there lines k (All-head (λ j. j < length lines) k order w.places) in
    let counts : get_or cursors k 0 + (1 + times k order)
    ≡ length x.0.entries = (let e = w.from k x.0 x.1 in
    let one = ap (λ (b : Bool). cond {A = ℕ} b 1 0) (itself k) in omega (arith, e, one)) in
    let e = there x.0.entries (get_or cursors k 0) (omega (arith, counts)) in
    let m : Move = (x.0.def.line, e.0) in
    let back = from_the_end x.0.entries (get_or cursors k 0) (times k order) e.0 e.1 counts in
    let has : HasNext k m (slice_get (board_lines lines) k) (times k (reverse order)) =
    subst (λ (n : ℕ). HasNext k m (slice_get (board_lines lines) k) n) (sym (times_reverse k order))
    (subst (λ (o : Option BoardLine). HasNext k m o (times k order)) (sym (map_there board_line lines k x.0 x.1)) (refl, back)) in
    record {
      line = x.0;
      entry = e.0;
      at = x.1;
      entry_at = e.1;
      moves = ap (λ (g : List Move). reverse g) (ap (λ (ks : List ℕ). merged ks (board_lines lines))
          (reverse_more order k) ∙ oldest k m (reverse order) (board_lines lines) has)
          ∙ reverse-append (merged (reverse order) (board_lines lines)) (m ∷ []);
      walk = record {
        few = w.few;
        all = length-set cursors k (get_or cursors k 0 + 1)
            ∙ w.all;
        places = All-tail (λ j. j < length lines) k order w.places;
        from = from;
      };
    }
  where
    from : (j : ℕ) (x : LineSeen) → slice_get lines j ≡ Some x → get_or (set cursors k (get_or cursors k 0 + 1)) j 0 + times j order ≡ length x.entries
    from j x at = by_test (k == j) refl
      where
        within : j < length cursors
        within = let l = slice_get_within lines j x at in let f = w.few in let a = w.all in omega (arith, l, f, a)

        by_test : (b : Bool) → (k == j) ≡ b → get_or (set cursors k (get_or cursors k 0 + 1)) j 0 + times j order ≡ length x.entries
        by_test true is =
            let same : k ≡ j = grind (arith, nat_tests) in
            let e = w.from j x at in
            let one = ap (λ (b : Bool). cond {A = ℕ} b 1 0) is in
            let new : get_or (set cursors j (get_or cursors j 0 + 1)) j 0
            ≡ get_or cursors j 0 + 1 = get_or-set_same cursors j (get_or cursors j 0 + 1) 0 within in
            subst (λ (i : ℕ). get_or (set cursors i (get_or cursors i 0 + 1)) j 0 + times j order ≡ length x.entries) (sym same) (omega (arith, e, one, new))
        by_test false is =
            let other : j ≡ k → ⊥ = λ same. (let d : (k == j) ≡ false = is in grind (arith, nat_tests)) in
            let e = w.from j x at in
            let none = ap (λ (b : Bool). cond {A = ℕ} b 1 0) is in
            let old = get_or-set_other cursors k j (get_or cursors k 0 + 1) 0 other in
            omega (arith, e, none, old)

-- when the order has a further place
pub record NextAt (cursors order : List ℕ) (at k : ℕ) (lines : List LineSeen) : Type 0 where
  pub within : k < length lines
  pub few : k < 64
  pub next : NextMove cursors k (drop (at + 1) order) lines
  pub moves : moves_of (drop at order) lines ≡ (next.line.def.line, next.entry) ∷ moves_of (drop (at + 1) order) lines

pub next_at : (order : List ℕ) (at : ℕ) {cursors : List ℕ} {k : ℕ} {lines : List LineSeen} → slice_get order at ≡ Some k
    → IsWalk cursors (drop at order) lines → NextAt cursors order at k lines
next_at order at {cursors} {k} {lines} here w =
    let left : drop at order ≡ k ∷ drop (at + 1) order = dropped order at k here ∙ ap (λ (n : ℕ). k ∷ drop n order) (sym (add-one at)) in
    let v = subst (λ (ks : List ℕ). IsWalk cursors ks lines) left w in
    let n = next_move cursors k (drop (at + 1) order) lines v in
    let less = slice_get_within lines k n.line n.at in
    record {
      within = less;
      few = (let f = w.few in omega (arith, less, f));
      next = n;
      moves
          = ap (λ (ks : List ℕ). moves_of ks lines) left ∙ n.moves;
    }

-- nothing is left out
pub walk_length : (order cursors : List ℕ) (lines : List LineSeen) → IsWalk cursors order lines → length (moves_of order lines) ≡ length order
walk_length [] cursors lines w = refl
walk_length (k ∷ order) cursors lines w =
    let n = next_move cursors k order lines w in
    let deeper = walk_length order (set cursors k (get_or cursors k 0 + 1)) lines n.walk in
    ap (λ (g : List Move). length g) n.moves ∙ ap (λ (i : ℕ). suc i) deeper

-- ---- one more move of a system

pub walk_more : (cursors order : List ℕ) (lines : List LineSeen) (k : ℕ) (x y : LineSeen) → slice_get lines k ≡ Some x
    → length y.entries ≡ length x.entries + 1 → IsWalk cursors order lines
    → IsWalk cursors (order ++ k ∷ []) (set lines k y)
walk_more cursors order lines k x y at longer w =
    let l = length-set lines k y in
    record {
      few = let f = w.few in omega (arith, f, l);
      all = w.all;
      places = subst (λ (n : ℕ). All (λ i. i < n) (order ++ k ∷ [])) (sym l)
          (All-append (λ i. i < length lines) order (k ∷ []) w.places
          (all_of (λ i. i < length lines) k [] (slice_get_within lines k x at) (All-nil (λ i. i < length lines))));
      from = from;
    }
  where
    from : (j : ℕ) (z : LineSeen) → slice_get (set lines k y) j ≡ Some z → get_or cursors j 0 + times j (order ++ k ∷ []) ≡ length z.entries
    from j z at_z = elim (set_cases lines k j y z at_z) [
      | inl h ↦
          let same : j ≡ k = h.0 in
          let e = w.from k x at in
          let a = times_append k order (k ∷ []) in
          let one = ap (λ (b : Bool). cond {A = ℕ} b 1 0) (itself k) in
          let len = ap (λ (v : LineSeen). length v.entries) h.1 in
          subst (λ (i : ℕ). get_or cursors i 0 + times i (order ++ k ∷ []) ≡ length z.entries) (sym same) (omega (arith, e, a, one, len, longer))
      | inr h ↦
          let other : (k == j) ≡ false = (let o = h.0 in by_test (k == j) refl o) in
          let e = w.from j z h.1 in
          let a = times_append j order (k ∷ []) in
          let none = ap (λ (b : Bool). cond {A = ℕ} b 1 0) other in
          omega (arith, e, a, none)
    ]
      where
        by_test : (b : Bool) → (k == j) ≡ b → ((j ≡ k) → ⊥) → b ≡ false
        by_test true is o = absurd (o (grind (arith, nat_tests)))
        by_test false is o = refl

walk_same : (cursors order longer : List ℕ) (old new : List LineSeen) → new ≡ old → longer ≡ order → IsWalk cursors order old → IsWalk cursors longer new
walk_same cursors order longer old new ls ks w = subst (λ (x : List LineSeen). IsWalk cursors longer x) (sym ls)
    (subst (λ (x : List ℕ). IsWalk cursors x old) (sym ks) w)

-- nothing is told yet
pub walk_fresh : (cursors : List ℕ) (lines : List LineSeen) → length lines ≤ 64 → length cursors ≡ 64
    → ((k : ℕ) (x : LineSeen) → slice_get lines k ≡ Some x → get_or cursors k 0 ≡ length x.entries)
    → IsWalk cursors [] lines
walk_fresh cursors lines few all from = record {
  few = few;
  all = all;
  places = All-nil (λ k. k < length lines);
  from
      = λ k x at. (let e = from k x at in omega (arith, e));
}

-- after a step of one line
pub walk_after : {L : Type 0} (cursors order longer : List ℕ) (old new : List LineSeen) (k : ℕ) (a : Actor)
    (r : Result (Stepped L) StepRefused) → SteppedAt old order k a r new longer → IsWalk cursors order old
    → IsWalk cursors longer new
walk_after cursors order longer old new k a (Ok (stepped.Added e)) s w =
    let more = length-append s.before.entries (e ∷ []) in
    let len = ap (λ (es : List Entry). length es) s.adds.entries in
    subst (λ (ls : List LineSeen). IsWalk cursors longer ls) (sym s.rest)
    (subst (λ (ks : List ℕ). IsWalk cursors ks (set old k s.after)) (sym s.told)
    (walk_more cursors order old k s.before s.after s.at (omega (arith, more, len)) w))
walk_after cursors order longer old new k a (Ok (stepped.Lacks lack)) s w = absurd s
walk_after cursors order longer old new k a (Ok stepped.NotYet) s w = walk_same cursors order longer old new s.1 s.2 w
walk_after cursors order longer old new k a (Err (refusals.Full line len)) s w = walk_same cursors order longer old new s.1 s.2 w
walk_after cursors order longer old new k a (Err refusals.NoMemory) s w = walk_same cursors order longer old new s.0 s.1 w

zeros : (n k : ℕ) → get_or {A = ℕ} (replicate n 0) k 0 ≡ 0
zeros zero k = refl
zeros (suc n) zero = refl
zeros (suc n) (suc k) = zeros n k

pub walk_new : (board : BoardSeen) (lines : List LineSeen) → IsBoard board → AreNew board lines → (order : List ℕ)
    → order ≡ [] → IsWalk (replicate 64 0) order lines
walk_new board lines isb new order none =
    subst (λ (ks : List ℕ). IsWalk (replicate 64 0) ks lines) (sym none)
    (walk_fresh (replicate 64 0) lines (few_lines board isb lines
    (ap (λ (ls : List BoardLine). map (λ (x : BoardLine). x.def) ls) new ∙ defs_at (defs_of board) [])) refl
    (λ k x at. zeros 64 k ∙ sym (no_entries x (past_at (defs_of board) [] k (board_line x)
    (subst (λ (ls : List BoardLine). slice_get ls k ≡ Some (board_line x)) new
    (map_there board_line lines k x at))))))
  where
    no_entries : (x : LineSeen) → reverse x.entries ≡ [] → length x.entries ≡ 0
    no_entries x none = sym (length-reverse x.entries) ∙ ap (λ (es : List Entry). length es) none

-- ---- what a walk answers

pub none_left : (order : List ℕ) (at : ℕ) (lines : List LineSeen) {view : List Move} {o : Option ℕ} → o ≡ slice_get order at
    → o ≡ None → view ≡ moves_of (drop at order) lines → view ≡ []
none_left order at lines its none is = is ∙ ap (λ (ks : List ℕ). moves_of ks lines) (past_end order at (sym its ∙ none))
  where
    past_end : (xs : List ℕ) (i : ℕ) → slice_get xs i ≡ None → drop i xs ≡ []
    past_end [] zero end = refl
    past_end [] (suc i) end = refl
    past_end (x ∷ xs) zero end = cc
    past_end (x ∷ xs) (suc i) end = past_end xs i end

module _ {cursors order : List ℕ} {at k : ℕ} {lines : List LineSeen} (n : NextAt cursors order at k lines) where
  pub cursor_within : IfSome (slice_get lines k) (λ (x : LineSeen). get_or cursors k 0 < length x.entries)
  cursor_within =
      subst (λ (o : Option LineSeen). IfSome o (λ (x : LineSeen). get_or cursors k 0 < length x.entries)) (sym n.next.at)
      (slice_get_within n.next.line.entries (get_or cursors k 0) n.next.entry n.next.entry_at)

  module _ {view : List Move} (is : view ≡ moves_of (drop at order) lines) where
    pub rest_left : moves_of (drop (at + 1) order) lines ≡ drop 1 view
    rest_left = sym (ap (λ (g : List Move). drop 1 g) (is ∙ n.moves))

    -- where the next of them stands
    pub stands_left : (line : LineNo) (entries : List Entry) (place : ℕ)
        → IfSome (slice_get lines k) (λ (x : LineSeen). (line ≡ x.def.line) × (entries ≡ x.entries)) → place ≡ get_or cursors k 0
        → StandsAt line entries place (slice_get view 0)
    stands_left line entries place its same =
        let of = subst (λ (o : Option LineSeen). IfSome o (λ (x : LineSeen). (line ≡ x.def.line) × (entries ≡ x.entries))) n.next.at its in (
          n.next.entry,
          ap (λ (es : List Entry). slice_get es place) of.1 ∙ (ap (λ (i : ℕ). slice_get n.next.line.entries i) same ∙ n.next.entry_at),
          ap (λ (g : List Move). slice_get g 0) (is ∙ n.moves) ∙ ap (λ (l : LineNo). Some (l, n.next.entry)) (sym of.0),
        )
