-- The system of lines as they stand: its scripts are placed by what is counted on all lines.
use Rattle.std.proofs.Common.{◌≡◌, ℕ, zero, suc, ◌+◌, ◌<◌, ◌≤◌, ◌⊎◌, inl, inr, max, IsSomeAnd, Option, Some, List}
use Rattle.std.proofs.Common.{[], ◌∷◌, ◌++◌, map, length, get_or, take, reverse, slice_get, slice_set, refl, sym, ap}
use Rattle.std.proofs.Common.{◌∙◌, subst, arith}
use Rattle.std.specs.List.{sum_by}
use Rattle.std.proofs.Math.ListN.{length-map}
use Rattle.std.proofs.lemmas.List.{map-set, length-set, reverse-append}
use Rattle.std.proofs.lemmas.List.Sums.{sum_by_push, sum_by-take-le}
use Rattle.std.proofs.lemmas.Option.{get_or_from_slice_get, slice_get_within}
use Rattle.irq_base.specs.declared.entries.Entry.{Entry}
use Rattle.irq_base.specs.declared.lines.LineDef.{LineDef}
use Rattle.irq_base.specs.declared.numbers.DriverNo.{DriverNo}
use Rattle.irq_line.specs.Seen.{LineSeen}
use Rattle.irq_model.specs.Legal.{IsDue, IsLegal, IsLegalPast}
use Rattle.irq_laws.proofs.Chosen.{the_same}
use Rattle.board_play.specs.Lines.{BoardLine}
use Rattle.board_core.specs.Inside.{drivers_of}
use Rattle.board_core.specs.Log.{IsWalk}
use Rattle.board_core.specs.Placing.{completed_on, made_on, most_made, placed, ArePlaced, HaveRoom, IsOwn}
use Rattle.board_core.specs.Placing.{AreOwn, joined, CanJoin, AreJoined, AreLengths}
use Rattle.board_core.specs.Scripts.{ScriptSeen}
use Rattle.board_core.specs.Seen.{board_line, board_lines}
use Rattle.board_core.proofs.MadeOf.{taken, all_taken}
use Rattle.board_core.proofs.Readiness.{seen_at}
use Rattle.board_core.proofs.Searches.{there}
use Rattle.board_core.proofs.InLists.{map_there, set_same, set_there, set_other}
use Rattle.board_core.proofs.Walking.{walk_fresh}

-- ---- the most of what is made

max_is : (a b c : ℕ) → max (max a b) c ≡ max a (max b c)
max_is a b c = omega arith

most_more : (r : DriverNo) (lines : List BoardLine) (x : BoardLine) → most_made r (lines ++ x ∷ []) ≡ max (most_made r lines) (made_on r x)
most_more r [] x = omega arith
most_more r (y ∷ ys) x = let d = most_more r ys x in omega (arith, d)

pub most_at_most : (r : DriverNo) (n : ℕ) (lines : List BoardLine)
    → ((i : ℕ) (x : BoardLine) → slice_get lines i ≡ Some x → made_on r x ≤ n) → most_made r lines ≤ n
most_at_most r n [] each = omega arith
most_at_most r n (x ∷ xs) each =
    let a = each zero x refl in
    let b = most_at_most r n xs (λ i y at. each (suc i) y at) in
    omega (arith, a, b)

pub at_most : (r : DriverNo) (lines : List BoardLine) (k : ℕ) (y : BoardLine) → slice_get lines k ≡ Some y → made_on r y ≤ most_made r lines
at_most r [] k y at = cc
at_most r (x ∷ xs) zero y at = let e = ap (λ (z : BoardLine). made_on r z) (the_same x y at) in omega (arith, e)
at_most r (x ∷ xs) (suc k) y at = let d = at_most r xs k y at in omega (arith, d)

-- ---- line by line

pub none_placed : (scripts : List ScriptSeen) → ArePlaced [] scripts scripts
none_placed scripts = record { drivers = refl; each = λ j s at. at ∙ ap (λ (t : ScriptSeen). Some t) (same s) }
  where
    same : (s : ScriptSeen) → s ≡ placed [] s
    same s =
        let a : s.at ≡ s.at + 0 = omega arith in
        let m : s.made ≡ max s.made 0 = omega arith in
        ap (λ (n : ℕ). record s { at = n }) a ∙ ap (λ (n : ℕ). record s { at = s.at + 0; made = n }) m

placed_more : (lines : List BoardLine) (x : BoardLine) (s o : ScriptSeen) → s.driver ≡ o.driver → IsOwn x o
    → joined o (placed lines s) ≡ placed (lines ++ x ∷ []) s
placed_more lines x s o same own =
    let c : o.at ≡ completed_on s.driver x = own.at ∙ ap (λ (r : DriverNo). completed_on r x) (sym same) in
    let d : o.made ≡ made_on s.driver x = own.made ∙ ap (λ (r : DriverNo). made_on r x) (sym same) in
    let push = sum_by_push (completed_on s.driver) lines x in
    let most = most_more s.driver lines x in
    let a : s.at + sum_by (completed_on s.driver) lines + o.at ≡ s.at + sum_by (completed_on s.driver) (lines ++ x ∷ []) = omega (arith, c, push) in
    let m : max (max s.made (most_made s.driver lines)) o.made ≡ max s.made (most_made s.driver (lines ++ x ∷ [])) = omega (arith, d, most) in
    ap (λ (n : ℕ). record s { at = n; made = max (max s.made (most_made s.driver lines)) o.made }) a
    ∙ ap (λ (n : ℕ). record s { at = s.at + sum_by (completed_on s.driver) (lines ++ x ∷ []); made = n }) m

module _ (lines : List BoardLine) (k : ℕ) {x : BoardLine} (at : slice_get lines k ≡ Some x) {first now : List ScriptSeen}
    (are : ArePlaced (take k lines) first now) {rs : List DriverNo} (all : drivers_of first ≡ rs) {own : List ScriptSeen}
    (its : AreOwn rs x own) where
  as_many : (xs ys : List ScriptSeen) → drivers_of xs ≡ drivers_of ys → length xs ≡ length ys
  as_many xs ys same =
      let a = length-map xs (λ (s : ScriptSeen). s.driver) in
      let b = length-map ys (λ (s : ScriptSeen). s.driver) in
      let c = ap (λ (ds : List DriverNo). length ds) same in
      omega (arith, a, b, c)

  own_drivers : drivers_of first ≡ drivers_of own
  own_drivers = all ∙ sym its.drivers

  -- the script of the driver on the line
  own_there : (j : ℕ) (s : ScriptSeen) → slice_get first j ≡ Some s → (o : ScriptSeen) × (slice_get own j ≡ Some o) × (s.driver ≡ o.driver)
  own_there j s at_s =
      let within = slice_get_within first j s at_s in
      let many = as_many first own own_drivers in
      let o = there own j (omega (arith, within, many)) in (
        o.0,
        o.1,
        the_same s.driver o.0.driver
            (sym (map_there (λ (s : ScriptSeen). s.driver) first j s at_s)
            ∙ (ap (λ (ds : List DriverNo). slice_get ds j) own_drivers
            ∙ map_there (λ (s : ScriptSeen). s.driver) own j o.0 o.1)),
      )

  -- what it was at first
  first_there : (j : ℕ) (t : ScriptSeen) → slice_get now j ≡ Some t → (s : ScriptSeen) × (slice_get first j ≡ Some s) × (placed (take k lines) s ≡ t)
  first_there j t at_t =
      let within = slice_get_within now j t at_t in
      let many = as_many now first are.drivers in
      let s = there first j (omega (arith, within, many)) in
      (s.0, s.1, the_same (placed (take k lines) s.0) t (sym (are.each j s.0 s.1) ∙ at_t))

  pub can_join : HaveRoom lines first → CanJoin own now
  can_join room j t at_t =
      let s = first_there j t at_t in
      let o = own_there j s.0 s.1 in
      let r = room j s.0 s.1 in
      let le = sum_by-take-le (completed_on s.0.driver) lines (k + 1) in
      let more = ap (λ (ls : List BoardLine). sum_by (completed_on s.0.driver) ls) (taken lines k x at) in
      let push = sum_by_push (completed_on s.0.driver) (take k lines) x in
      let its_at : o.0.at ≡ completed_on s.0.driver x = (its.each j o.0 o.1).at ∙ ap (λ (r : DriverNo). completed_on r x) (sym o.2) in
      subst (λ (p : Option ScriptSeen). IsSomeAnd p (λ o. t.at + o.at ≤ length t.calls)) (sym o.1)
      (subst (λ (u : ScriptSeen). u.at + o.0.at ≤ length u.calls) s.2 (omega (arith, r, le, more, push, its_at)))

  pub as_many_own : length now ≡ length own
  as_many_own = as_many now own (are.drivers ∙ own_drivers)

  pub placed_next : {new : List ScriptSeen} → AreJoined own now new → ArePlaced (take (k + 1) lines) first new
  placed_next join =
      record {
        drivers = join.drivers ∙ are.drivers;
        each = λ j s at_s.
            (let o = own_there j s at_s in
            join.each j (placed (take k lines) s) o.0 (are.each j s at_s) o.1
            ∙ ap (λ (t : ScriptSeen). Some t) (placed_more (take k lines) x s o.0 o.2 (its.each j o.0 o.1)
            ∙ ap (λ (ls : List BoardLine). placed ls s) (sym (taken lines k x at))));
      }

pub all_placed_seen : {X : Type 0} (f : X → LineSeen) (xs : List X) {k : ℕ} {first now : List ScriptSeen}
    → length xs ≤ k → ArePlaced (take k (board_lines (map f xs))) first now
    → ArePlaced (board_lines (map f xs)) first now
all_placed_seen f xs {k} {first} {now} end are =
    subst (λ (ls : List BoardLine). ArePlaced ls first now)
    (all_taken (board_lines (map f xs)) k (let a = length-map xs f in let b = length-map (map f xs) board_line in omega (arith, end, a, b))) are

-- ---- script by script

pub record JoinedTo (own old : List ScriptSeen) (n : ℕ) (now : List ScriptSeen) : Type 0 where
  pub drivers : drivers_of now ≡ drivers_of old
  pub each : (j : ℕ) (s o : ScriptSeen) → j < n → slice_get old j ≡ Some s → slice_get own j ≡ Some o → slice_get now j ≡ Some (joined o s)
  pub rest : (j : ℕ) → n ≤ j → slice_get now j ≡ slice_get old j

pub none_joined : (own old : List ScriptSeen) → JoinedTo own old 0 old
none_joined own old = record { drivers = refl; each = λ j s o less. absurd (omega (arith, less)); rest = λ j le. refl }

two : (j n : ℕ) → j < n + 1 → (j < n) ⊎ (j ≡ n)
two j n h = grind arith

pub one_joined : {own old now : List ScriptSeen} {n : ℕ} {s o : ScriptSeen} → slice_get now n ≡ Some s
    → slice_get own n ≡ Some o → {new : List ScriptSeen} → new ≡ slice_set now n (joined o s) → JoinedTo own old n now
    → JoinedTo own old (n + 1) new
one_joined {own} {old} {now} {n} {s} {o} at at_own is so =
    subst (λ (ss : List ScriptSeen). JoinedTo own old (n + 1) ss) (sym is)
    (record {
      drivers = map-set (λ (s : ScriptSeen). s.driver) now n (joined o s)
          ∙ (set_same (drivers_of now) n s.driver (map_there (λ (s : ScriptSeen). s.driver) now n s at) ∙ so.drivers);
      each = each;
      rest = λ j le. set_other now n j (joined o s) (λ same. omega (arith, le, same)) ∙ so.rest j (omega (arith, le));
    })
  where
    each : (j : ℕ) (t u : ScriptSeen) → j < n + 1 → slice_get old j ≡ Some t → slice_get own j ≡ Some u
        → slice_get (slice_set now n (joined o s)) j ≡ Some (joined u t)
    each j t u less at_t at_u = elim (two j n less) [
      | inl before ↦ set_other now n j (joined o s) (λ same. omega (arith, before, same)) ∙ so.each j t u before at_t at_u
      | inr here ↦
          let same_s : s ≡ t = the_same s t (sym at ∙ (so.rest n (omega arith) ∙ (ap (λ (i : ℕ). slice_get old i) (sym here) ∙ at_t))) in
          let same_o : o ≡ u = the_same o u (sym at_own ∙ (ap (λ (i : ℕ). slice_get own i) (sym here) ∙ at_u)) in
          ap (λ (i : ℕ). slice_get (slice_set now n (joined o s)) i) here
          ∙ (set_there now n s (joined o s) at ∙ (ap (λ (v : ScriptSeen). Some (joined v s)) same_o ∙ ap (λ (v : ScriptSeen). Some (joined u v)) same_s))
    ]

pub all_joined : {own old now : List ScriptSeen} {n : ℕ} → length old ≤ n → JoinedTo own old n now → AreJoined own old now
all_joined {own} {old} {now} {n} end so = record {
  drivers = so.drivers;
  each
      = λ j s o at at_o. (let l = slice_get_within old j s at in so.each j s o (omega (arith, l, end)) at at_o);
}

-- the one at a place can join
pub join_fits : {own old now : List ScriptSeen} {n : ℕ} {s o : ScriptSeen} → CanJoin own old → JoinedTo own old n now
    → slice_get now n ≡ Some s → slice_get own n ≡ Some o → s.at + o.at ≤ length s.calls
join_fits {own} {old} {now} {n} {s} {o} can so at at_own =
    subst (λ (p : Option ScriptSeen). IsSomeAnd p (λ o. s.at + o.at ≤ length s.calls)) at_own (can n s (sym (so.rest n (omega arith)) ∙ at))

-- ---- entry by entry

pub past_more : (h : List Entry) (i : ℕ) (e : Entry) → slice_get h i ≡ Some e → reverse (take (i + 1) h) ≡ e ∷ reverse (take i h)
past_more h i e at = ap (λ (es : List Entry). reverse es) (taken h i e at) ∙ reverse-append (take i h) (e ∷ [])

older_legal : (def : LineDef) (xs ys : List Entry) → IsLegalPast def (xs ++ ys) → IsLegalPast def ys
older_legal def [] ys l = l
older_legal def (z ∷ xs) ys l = older_legal def xs ys l.1

split : (h : List Entry) (n : ℕ) → (rest : List Entry) × (take n h ++ rest ≡ h)
split h zero = (h, refl)
split [] (suc n) = ([], refl)
split (y ∷ ys) (suc n) = let s = split ys n in (s.0, ap (λ (zs : List Entry). y ∷ zs) s.1)

pub due_at : (def : LineDef) (h : List Entry) (i : ℕ) (e : Entry) → slice_get h i ≡ Some e → IsLegal def h → IsDue def e (reverse (take i h))
due_at def h i e at legal =
    let whole = split h (i + 1) in
    let back : reverse h ≡ reverse whole.0 ++ reverse (take (i + 1) h)
    = ap (λ (es : List Entry). reverse es) (sym whole.1) ∙ reverse-append (take (i + 1) h) whole.0 in
    let up_to : IsLegalPast def (reverse (take (i + 1) h))
    = older_legal def (reverse whole.0) (reverse (take (i + 1) h))
    (subst (λ (es : List Entry). IsLegalPast def es) back legal) in
    (subst (λ (es : List Entry). IsLegalPast def es) (past_more h i e at) up_to).0

-- ---- the lengths of the lines

pub line_seen : {X : Type 0} (f : X → LineSeen) (xs : List X) (k : ℕ) (x : X) → k < length xs → x ≡ get_or xs k x
    → slice_get (board_lines (map f xs)) k ≡ Some (board_line (f x))
line_seen f xs k x within is = map_there board_line (map f xs) k (f x) (seen_at f xs k x within is)

pub record LengthsTo (lines : List LineSeen) (n : ℕ) (lengths : List ℕ) : Type 0 where
  pub all : length lengths ≡ 64
  pub each : (k : ℕ) (x : LineSeen) → k < n → slice_get lines k ≡ Some x → slice_get lengths k ≡ Some (length x.entries)

pub no_lengths : (lines : List LineSeen) (lengths : List ℕ) → length lengths ≡ 64 → LengthsTo lines 0 lengths
no_lengths lines lengths all = record { all = all; each = λ k x less. absurd (omega (arith, less)) }

pub one_length : (lines : List LineSeen) (n : ℕ) (x : LineSeen) (lengths new : List ℕ) → slice_get lines n ≡ Some x
    → n < 64 → new ≡ slice_set lengths n (length x.entries) → LengthsTo lines n lengths → LengthsTo lines (n + 1) new
one_length lines n x lengths new at few is so =
    subst (λ (ls : List ℕ). LengthsTo lines (n + 1) ls) (sym is)
    (record { all = length-set lengths n (length x.entries) ∙ so.all; each = each })
  where
    each : (k : ℕ) (y : LineSeen) → k < n + 1 → slice_get lines k ≡ Some y → slice_get (slice_set lengths n (length x.entries)) k ≡ Some (length y.entries)
    each k y less at_y = elim (two k n less) [
      | inl before ↦ set_other lengths n k (length x.entries) (λ same. omega (arith, before, same)) ∙ so.each k y before at_y
      | inr here ↦
          let same : x ≡ y = the_same x y (sym at ∙ (ap (λ (i : ℕ). slice_get lines i) (sym here) ∙ at_y)) in
          let old = there lengths n (let a = so.all in omega (arith, a, few)) in
          ap (λ (i : ℕ). slice_get (slice_set lengths n (length x.entries)) i) here
          ∙ (set_there lengths n old.0 (length x.entries) old.1 ∙ ap (λ (z : LineSeen). Some (length z.entries)) same)
    ]

pub all_lengths : (lines : List LineSeen) (lengths : List ℕ) (n : ℕ) → length lines ≤ n → LengthsTo lines n lengths → AreLengths lines lengths
all_lengths lines lengths n end so = record { all = so.all; each = λ k x at. (let l = slice_get_within lines k x at in so.each k x (omega (arith, l, end)) at) }

pub walk_now : (lines : List LineSeen) (lengths order : List ℕ) → length lines ≤ 64 → AreLengths lines lengths → order ≡ [] → IsWalk lengths order lines
walk_now lines lengths order few are none =
    subst (λ (ks : List ℕ). IsWalk lengths ks lines) (sym none)
    (walk_fresh lengths lines few are.all (λ k x at. get_or_from_slice_get lengths k (length x.entries) 0
    (are.each k x at)))
