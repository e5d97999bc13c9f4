-- A driver's script on one line alone goes on with the line's entries.
use Rattle.std.proofs.Common.{◌≡◌, ℕ, zero, suc, ◌+◌, ◌<◌, ◌≤◌, ◌==◌, inl, inr, Bool, true, false, cond, IfSome, Option}
use Rattle.std.proofs.Common.{Some, None, Ok, List, [], ◌∷◌, ◌++◌, map, length, take, slice_get, slice_set, refl, sym}
use Rattle.std.proofs.Common.{ap, ◌∙◌, subst, arith, append-nil}
use Rattle.std.proofs.Math.ListN.{length-map}
use Rattle.std.proofs.lemmas.Bool.{false_from_ne_true}
use Rattle.std.proofs.lemmas.List.{map-set}
use Rattle.irq_base.specs.Who.{actor_of}
use Rattle.irq_base.specs.declared.calls.Call.{Call}
use Rattle.irq_base.specs.declared.entries.Actor.{Actor}
use Rattle.irq_base.specs.declared.entries.Actor.TheVariants as actors
use Rattle.irq_base.specs.declared.entries.Entry.{Entry}
use Rattle.irq_base.specs.declared.lines.LineDef.{LineDef}
use Rattle.irq_base.specs.declared.numbers.DriverNo.{DriverNo}
use Rattle.irq_model.specs.Due.{calls_by, due_call}
use Rattle.irq_model.specs.Kinds.{same_driver, is_driver, is_by_driver}
use Rattle.irq_model.specs.Legal.{IsDue}
use Rattle.irq_model.specs.Next.{next_of_driver, next_past}
use Rattle.irq_model.proofs.Same.{driver_from_same, same_self_driver}
use Rattle.irq_laws.proofs.Chosen.{the_same}
use Rattle.irq_laws.proofs.Progress.{fresh}
use Rattle.board_def.proofs.Rising.{Rises}
use Rattle.board_def.specs.Seen.{BoardSeen}
use Rattle.board_def.specs.declared.rows.ScriptCall.{ScriptCall}
use Rattle.board_play.specs.Lines.{BoardLine}
use Rattle.board_play.proofs.Counting.{no_more, not_all_complete, not_completed, others_complete, one_completed, none_complete, kth_is_due}
use Rattle.irq_line.specs.declared.answers.Stepped.TheVariants as stepped
use Rattle.board_core.specs.Inside.{drivers_of}
use Rattle.board_core.specs.Making.{AreCut, call_put, with_call}
use Rattle.board_core.specs.Numbers.{IsPlaceOfNumber, numbers_of_drivers}
use Rattle.board_core.specs.Placing.{made_of, with_entry, IsOwn, AreOwn, IsPlaceOfActor}
use Rattle.line_scripts.specs.Endings.{completes}
use Rattle.board_core.specs.Scripts.{ScriptSeen, calls_of, advanced_by, advanced_at, advanced}
use Rattle.board_core.specs.Turned.{script_after, scripts_after}
use Rattle.board_core.specs.declared.scripts.PlacedCall.{PlacedCall}
use Rattle.board_core.proofs.Cutting.{script_there}
use Rattle.line_scripts.proofs.LastEntry.{completes_at, last_is, goes, ends, one_more}
use Rattle.board_core.proofs.MadeOf.{taken, map_more}
use Rattle.board_core.proofs.InLists.{map_there, set_cases, set_same}
use Rattle.board_core.proofs.InLists.{one_place}

-- ---- one driver's script is changed

-- the script at place j, if there is one, changed by f
abbrev put : (ScriptSeen → ScriptSeen) → Option ScriptSeen → ℕ → List ScriptSeen → List ScriptSeen
put f None j scripts = scripts
put f (Some s) j scripts = slice_set scripts j (f s)

abbrev put_at : (ScriptSeen → ScriptSeen) → Option ℕ → List ScriptSeen → List ScriptSeen
put_at f None scripts = scripts
put_at f (Some j) scripts = put f (slice_get scripts j) j scripts

abbrev longer : ℕ → ScriptCall → ScriptSeen → ScriptSeen
longer k c s = record s { calls = s.calls ++ record { place = k; call = c } ∷ [] }

call_is : (q : Option ℕ) (k : ℕ) (c : ScriptCall) (scripts : List ScriptSeen) → with_call q (Some k) c scripts ≡ put_at (longer k c) q scripts
call_is None k c scripts = refl
call_is (Some j) k c scripts = by_script (slice_get scripts j)
  where
    by_script : (o : Option ScriptSeen) → call_put o j k c scripts ≡ put (longer k c) o j scripts
    by_script None = refl
    by_script (Some s) = refl

entry_is : (L : Type 0) (q : Option ℕ) (e : Entry) (scripts : List ScriptSeen)
    → scripts_after {L = L} q (Ok (stepped.Added e)) scripts ≡ put_at (advanced e) q scripts
entry_is L None e scripts = refl
entry_is L (Some j) e scripts = by_script (slice_get scripts j)
  where
    by_script : (o : Option ScriptSeen) → script_after o j e scripts ≡ put (advanced e) o j scripts
    by_script None = refl
    by_script (Some s) = refl

driver_back : (r : DriverNo) (rs : List DriverNo) (j : ℕ) → slice_get (numbers_of_drivers rs) j ≡ Some r.0 → slice_get rs j ≡ Some r
driver_back r [] j h = cc
driver_back r (t ∷ rs) zero h = ap (λ (d : DriverNo). Some d) (driver_from_same t r (ap (λ (n : ℕ). n == r.0) (the_same t.0 r.0 h) ∙ same_self_driver r))
driver_back r (t ∷ rs) (suc j) h = driver_back r rs j h

no_script : (o : Option ScriptSeen) (s : ScriptSeen) → o ≡ None → o ≡ Some s → ⊥
no_script None s none some = cc
no_script (Some t) s none some = cc

module _ (rs : List DriverNo) (rises : Rises (λ (r : DriverNo). r.0) rs) (r : DriverNo) (scripts : List ScriptSeen)
    (are : drivers_of scripts ≡ rs) (f : ScriptSeen → ScriptSeen) (same : (s : ScriptSeen) → (f s).driver ≡ s.driver)
  where
    driver_at : (j : ℕ) (s : ScriptSeen) → slice_get scripts j ≡ Some s → slice_get rs j ≡ Some s.driver
    driver_at j s at = subst (λ (ds : List DriverNo). slice_get ds j ≡ Some s.driver) are (map_there (λ (s : ScriptSeen). s.driver) scripts j s at)

    drivers_put : (q : Option ℕ) → drivers_of (put_at f q scripts) ≡ rs
    drivers_put None = are
    drivers_put (Some j) = by_script (slice_get scripts j) refl
      where
        by_script : (o : Option ScriptSeen) → slice_get scripts j ≡ o → drivers_of (put f o j scripts) ≡ rs
        by_script None there = are
        by_script (Some t) there =
            map-set (λ (s : ScriptSeen). s.driver) scripts j (f t)
            ∙ (ap (λ (d : DriverNo). slice_set (drivers_of scripts) j d) (same t)
            ∙ (set_same (drivers_of scripts) j t.driver (map_there (λ (s : ScriptSeen). s.driver) scripts j t there)
            ∙ are))

    module _ (P Q : ScriptSeen → Type 0) (all : (j : ℕ) (s : ScriptSeen) → slice_get scripts j ≡ Some s → P s)
        (own : (s : ScriptSeen) → s.driver ≡ r → P s → Q (f s))
        (other : (s : ScriptSeen) → same_driver s.driver r ≡ false → P s → Q s) where
      left : (j : ℕ) (s : ScriptSeen) → slice_get scripts j ≡ Some s → (s.driver ≡ r → ⊥) → Q s
      left j s at differs = other s (false_from_ne_true (same_driver s.driver r) (λ h. differs (driver_from_same s.driver r h))) (all j s at)

      each_put : (q : Option ℕ) → IsPlaceOfNumber (numbers_of_drivers rs) r.0 q → (j : ℕ) (s : ScriptSeen) → slice_get (put_at f q scripts) j ≡ Some s → Q s
      each_put None none j s at = left j s at (λ is. none j
          (map_there (λ (d : DriverNo). d.0) rs j s.driver (driver_at j s at) ∙ ap (λ (d : DriverNo). Some d.0) is))
      each_put (Some q) place j s at = by_script (slice_get scripts q) refl at
        where
          mine : slice_get rs q ≡ Some r
          mine = driver_back r rs q place

          by_script : (o : Option ScriptSeen) → slice_get scripts q ≡ o → slice_get (put f o q scripts) j ≡ Some s → Q s
          by_script None there at =
              left j s at (λ is. no_script (slice_get scripts q) s there
              (ap (λ (n : ℕ). slice_get scripts n) (sym
              (one_place rs rises j q s.driver r (driver_at j s at) mine is)) ∙ at))
          by_script (Some t) there at = elim (set_cases scripts q j (f t) s at) [
            | inl h ↦ subst Q h.1 (own t (the_same t.driver r (sym (driver_at q t there) ∙ mine)) (all q t there))
            | inr h ↦ left j s h.1 (λ is. h.0 (one_place rs rises j q s.driver r (driver_at j s h.1) mine is))
          ]

-- ---- one more entry of the line

due_some : (def : LineDef) (r : DriverNo) (past : List Entry) (e : Entry)
    → next_past def past (actors.Driver r) ≡ Some e → (x : Call × ℕ) × (due_call def r past ≡ Some x)
due_some def r past e is = by_due (due_call def r past) refl is
  where
    by_due : (o : Option (Call × ℕ)) → due_call def r past ≡ o → next_of_driver def r past o ≡ Some e → (x : Call × ℕ) × (due_call def r past ≡ Some x)
    by_due None due is = cc
    by_due (Some x) due is = (x, due)

past_end : {A : Type 0} (xs : List A) (i : ℕ) → slice_get xs i ≡ None → length xs ≤ i
past_end [] i end = omega arith
past_end (x ∷ xs) zero end = cc
past_end (x ∷ xs) (suc i) end = let l = past_end xs i end in omega (arith, l)

module _ (x : BoardLine) (e : Entry) where
  -- of another
  other_goes : (s : ScriptSeen) → is_by_driver s.driver e ≡ false → IsOwn x s → IsOwn (with_entry e x) s
  other_goes s other is =
      record {
        calls = is.calls;
        at = is.at ∙ sym (others_complete x.def s.driver e x.past other);
        made = is.made ∙ sym (ap made_of (no_more x.def s.driver e x.past other));
      }

  -- of the driver itself
  module _ (s : ScriptSeen) (is : IsOwn x s) (mine : is_by_driver s.driver e ≡ true) where
    module _ (st : PlacedCall) (due : due_call x.def s.driver x.past ≡ Some (st.call.call, s.made))
        (owed : next_past x.def x.past (actors.Driver s.driver) ≡ Some e) where
      its_last : completes st.call.call e ≡ completes_at st.call.call s.made e
      its_last = last_is x.def s.driver x.past st.call.call s.made e (ap (next_of_driver x.def s.driver x.past) (sym due) ∙ owed)

      further : completes_at st.call.call s.made e ≡ false → IsOwn (with_entry e x) (advanced_by false s)
      further last =
          let now = goes x.def s.driver e x.past st.call.call s.made mine due last in
          record {
            calls = is.calls;
            at = is.at ∙ sym (not_completed x.def s.driver e x.past st.call.call s.made mine now);
            made = one_more st.call.call s.made e last ∙ sym (ap made_of now);
          }

      none_begun : (o : Option (Call × ℕ)) → due_call x.def s.driver (e ∷ x.past) ≡ o → completes_at st.call.call s.made e ≡ true → 0 ≡ made_of o
      none_begun None is_due last = refl
      none_begun (Some (c, zero)) is_due last = refl
      none_begun (Some (c, suc n)) is_due last = absurd (ends x.def s.driver e x.past st.call.call s.made mine due last c n is_due)

      past_it : completes_at st.call.call s.made e ≡ true → IsOwn (with_entry e x) (advanced_by true s)
      past_it last =
          record {
            calls = is.calls;
            at = ap (λ (n : ℕ). n + 1) is.at ∙ sym (one_completed x.def s.driver e x.past (st.call.call, s.made) mine
                due (ends x.def s.driver e x.past st.call.call s.made mine due last));
            made = none_begun (due_call x.def s.driver (e ∷ x.past)) refl last;
          }

      by_last : (b : Bool) → completes st.call.call e ≡ b → IsOwn (with_entry e x) (advanced_by b s)
      by_last true last = past_it (sym its_last ∙ last)
      by_last false last = further (sym its_last ∙ last)

    -- the call at the script's place is the one that is due
    due_here : (st : PlacedCall) → slice_get s.calls s.at ≡ Some st → due_call x.def s.driver x.past ≡ Some (st.call.call, s.made)
    due_here st at =
        let kth : slice_get (calls_by s.driver x.def.calls) s.at
        ≡ Some st.call.call = ap (λ (cs : List Call). slice_get cs s.at) (sym is.calls)
        ∙ map_there (λ (y : PlacedCall). y.call.call) s.calls s.at st at in
        let d = kth_is_due x.def s.driver x.past st.call.call (ap (λ (n : ℕ). slice_get (calls_by s.driver x.def.calls) n) (sym is.at) ∙ kth) in
        d.1 ∙ ap (λ (n : ℕ). Some (st.call.call, n)) (sym (ap made_of d.1) ∙ sym is.made)

    own_goes : next_past x.def x.past (actors.Driver s.driver) ≡ Some e → IsOwn (with_entry e x) (advanced e s)
    own_goes due = by_step (slice_get s.calls s.at) refl
      where
        by_step : (o : Option PlacedCall) → slice_get s.calls s.at ≡ o → IsOwn (with_entry e x) (advanced_at o e s)
        by_step None at =
            absurd
            (let d = due_some x.def s.driver x.past e due in
            let less = not_all_complete x.def s.driver x.past d.0 d.1 in
            let many = length-map s.calls (λ (y : PlacedCall). y.call.call) in
            let same = ap (λ (cs : List Call). length cs) is.calls in
            let end = past_end s.calls s.at at in
            let count = is.at in
            omega (arith, less, many, same, end, count))
        by_step (Some st) at = by_last st (due_here st at) due (completes st.call.call e) refl

same_driver_put : (e : Entry) (s : ScriptSeen) → (advanced e s).driver ≡ s.driver
same_driver_put e s = by_step (slice_get s.calls s.at)
  where
    by_last : (b : Bool) → (advanced_by b s).driver ≡ s.driver
    by_last true = refl
    by_last false = refl

    by_step : (o : Option PlacedCall) → (advanced_at o e s).driver ≡ s.driver
    by_step None = refl
    by_step (Some st) = by_last (completes st.call.call e)

-- the drivers' scripts on the line after one more entry, which was due
pub own_more : (L : Type 0) {rs : List DriverNo} → Rises (λ (r : DriverNo). r.0) rs → {numbers : List ℕ}
    → numbers ≡ numbers_of_drivers rs → {x : BoardLine} (e : Entry) → IsDue x.def e x.past → (q : Option ℕ)
    → IsPlaceOfActor numbers (actor_of e) q → {scripts new : List ScriptSeen}
    → new ≡ scripts_after {L = L} q (Ok (stepped.Added e)) scripts → AreOwn rs x scripts → AreOwn rs (with_entry e x) new
own_more L {rs} rises {numbers} are {x} e due q place {scripts} {new} is own
    = subst (λ (ss : List ScriptSeen). AreOwn rs (with_entry e x) ss) (sym (is ∙ entry_is L q e scripts))
    (by_actor (actor_of e) refl place)
  where
    nobody : (a : Actor) → actor_of e ≡ a → ((r : DriverNo) → is_driver r a ≡ false) → q ≡ None
        → AreOwn rs (with_entry e x) (put_at (advanced e) q scripts)
    nobody a who none at =
        subst (λ (o : Option ℕ). AreOwn rs (with_entry e x) (put_at (advanced e) o scripts)) (sym at)
        (record {
          drivers = own.drivers;
          each = λ j s at_s. other_goes x e s
              (ap (is_driver s.driver) who ∙ none s.driver) (own.each j s at_s);
        })

    by_actor : (a : Actor) → actor_of e ≡ a → IsPlaceOfActor numbers a q → AreOwn rs (with_entry e x) (put_at (advanced e) q scripts)
    by_actor (actors.Cpu c) who at = nobody (actors.Cpu c) who (λ r. refl) at
    by_actor (actors.Thread d) who at = nobody (actors.Thread d) who (λ r. refl) at
    by_actor (actors.Driver r) who at =
        record {
          drivers = drivers_put rs rises r scripts own.drivers (advanced e) (same_driver_put e) q;
          each = each_put rs rises r scripts own.drivers (advanced e) (same_driver_put e) (IsOwn x)
              (IsOwn (with_entry e x)) own.each its others q (subst (λ (ns : List ℕ). IsPlaceOfNumber ns r.0 q) are at);
        }
      where
        by : (d : DriverNo) → is_by_driver d e ≡ same_driver d r
        by d = ap (is_driver d) who

        others : (s : ScriptSeen) → same_driver s.driver r ≡ false → IsOwn x s → IsOwn (with_entry e x) s
        others s differs is_own = other_goes x e s (by s.driver ∙ differs) is_own

        its : (s : ScriptSeen) → s.driver ≡ r → IsOwn x s → IsOwn (with_entry e x) (advanced e s)
        its s mine is_own =
            own_goes x e s is_own (by s.driver ∙ (ap (λ (d : DriverNo). same_driver d r) mine ∙ same_self_driver r))
            (ap (λ (d : DriverNo). next_past x.def x.past (actors.Driver d)) mine ∙ (ap (λ (a : Actor). next_past x.def x.past a) (sym who) ∙ due))

-- at the actor's place there is a script
pub actor_fits : (board : BoardSeen) (scripts : List ScriptSeen) (numbers : List ℕ) (a : Actor) (q : Option ℕ)
    → drivers_of scripts ≡ board.drivers → numbers ≡ numbers_of_drivers board.drivers → IsPlaceOfActor numbers a q
    → IfSome q (λ j. j < length scripts)
actor_fits board scripts numbers (actors.Driver r) q are is place = script_there board scripts numbers r.0 q are is place
actor_fits board scripts numbers (actors.Cpu c) q are is place = subst (λ (o : Option ℕ). IfSome o (λ j. j < length scripts)) (sym place) tt
actor_fits board scripts numbers (actors.Thread d) q are is place = subst (λ (o : Option ℕ). IfSome o (λ j. j < length scripts)) (sym place) tt

-- ---- the scripts on a line without entries, call by call

-- the driver's calls among cs, with no call complete
pub record IsBare (cs : List (DriverNo × Call)) (s : ScriptSeen) : Type 0 where
  pub calls : map (λ (y : PlacedCall). y.call.call) s.calls ≡ calls_by s.driver cs
  pub at : s.at ≡ 0
  pub made : s.made ≡ 0

pub record AreBare (all : List DriverNo) (cs : List (DriverNo × Call)) (scripts : List ScriptSeen) : Type 0 where
  pub drivers : drivers_of scripts ≡ all
  pub each : (j : ℕ) (s : ScriptSeen) → slice_get scripts j ≡ Some s → IsBare cs s

calls_more : (r : DriverNo) (cs : List (DriverNo × Call)) (c : DriverNo × Call)
    → calls_by r (cs ++ c ∷ []) ≡ calls_by r cs ++ cond (same_driver r c.0) (c.1 ∷ []) []
calls_more r [] c = refl
calls_more r (d ∷ cs) c = by_test (same_driver r d.0) (calls_more r cs c)
  where
    by_test : (b : Bool) → calls_by r (cs ++ c ∷ []) ≡ calls_by r cs ++ cond (same_driver r c.0) (c.1 ∷ []) []
        → cond b (d.1 ∷ calls_by r (cs ++ c ∷ [])) (calls_by r (cs ++ c ∷ []))
        ≡ cond b (d.1 ∷ calls_by r cs) (calls_by r cs) ++ cond (same_driver r c.0) (c.1 ∷ []) []
    by_test true deeper = ap (λ (zs : List Call). d.1 ∷ zs) deeper
    by_test false deeper = deeper

no_calls : (steps : List PlacedCall) → calls_of steps ≡ [] → map (λ (y : PlacedCall). y.call.call) steps ≡ []
no_calls [] is = refl
no_calls (y ∷ ys) is = cc

pub bare_first : (board : BoardSeen) (scripts : List ScriptSeen) → AreCut board 0 scripts
    → (cs : List (DriverNo × Call)) → AreBare board.drivers (take 0 cs) scripts
bare_first board scripts are cs = record {
  drivers = are.drivers;
  each
      = λ j s at. (let c = are.each j s at in record { calls = no_calls s.calls c.cut; at = c.at; made = c.made });
}

pub bare_more : {rs : List DriverNo} → Rises (λ (r : DriverNo). r.0) rs → {numbers : List ℕ}
    → numbers ≡ numbers_of_drivers rs → (cs : List (DriverNo × Call)) (i : ℕ) {r : DriverNo} (c : ScriptCall)
    {pair : DriverNo × Call} → slice_get cs i ≡ Some pair → pair.0 ≡ r → pair.1 ≡ c.call → (q : Option ℕ)
    → IsPlaceOfNumber numbers r.0 q → {scripts new : List ScriptSeen} → new ≡ with_call q (Some 0) c scripts
    → AreBare rs (take i cs) scripts → AreBare rs (take (i + 1) cs) new
bare_more {rs} rises {numbers} are cs i {r} c {pair} at first second q place {scripts} {new} is bare =
    subst (λ (ss : List ScriptSeen). AreBare rs (take (i + 1) cs) ss) (sym (is ∙ call_is q 0 c scripts))
    (record {
      drivers = drivers_put rs rises r scripts bare.drivers (longer 0 c) (λ s. refl) q;
      each = each_put rs rises r scripts bare.drivers (longer 0 c) (λ s. refl) (IsBare (take i cs))
          (IsBare (take (i + 1) cs)) bare.each its others q
          (subst (λ (ns : List ℕ). IsPlaceOfNumber ns r.0 q) are place);
    })
  where
    next : (s : ScriptSeen) → calls_by s.driver (take (i + 1) cs) ≡ calls_by s.driver (take i cs) ++ cond (same_driver s.driver r) (c.call ∷ []) []
    next s =
        ap (calls_by s.driver) (taken cs i pair at) ∙ (calls_more s.driver (take i cs) pair
        ∙ (ap (λ (d : DriverNo). calls_by s.driver (take i cs) ++ cond (same_driver s.driver d) (pair.1 ∷ []) []) first
        ∙ ap (λ (k : Call). calls_by s.driver (take i cs) ++ cond (same_driver s.driver r) (k ∷ []) []) second))

    its : (s : ScriptSeen) → s.driver ≡ r → IsBare (take i cs) s → IsBare (take (i + 1) cs) (longer 0 c s)
    its s mine b =
        record {
          calls = map_more (λ (y : PlacedCall). y.call.call) s.calls (record { place = 0; call = c }) ∙ (ap (λ (zs : List Call). zs ++ c.call ∷ []) b.calls
              ∙ sym (next s ∙ ap (λ (t : Bool). calls_by s.driver (take i cs) ++ cond t (c.call ∷ []) [])
              (ap (λ (d : DriverNo). same_driver d r) mine ∙ same_self_driver r)));
          at = b.at;
          made = b.made;
        }

    others : (s : ScriptSeen) → same_driver s.driver r ≡ false → IsBare (take i cs) s → IsBare (take (i + 1) cs) s
    others s differs b =
        record {
          calls = b.calls ∙ sym (next s ∙ (ap (λ (t : Bool). calls_by s.driver (take i cs) ++ cond t (c.call ∷ []) [])
              differs ∙ append-nil (calls_by s.driver (take i cs))));
          at = b.at;
          made = b.made;
        }

none_made : (def : LineDef) (r : DriverNo) (o : Option (Call × ℕ)) → due_call def r [] ≡ o → 0 ≡ made_of o
none_made def r None is = refl
none_made def r (Some (c, n)) is = sym (fresh (calls_by r def.calls) c n is)

pub bare_own : {rs : List DriverNo} (def : LineDef) {cs : List (DriverNo × Call)} {scripts : List ScriptSeen}
    → cs ≡ def.calls → AreBare rs cs scripts → AreOwn rs (record { def = def; past = [] }) scripts
bare_own {rs} def {cs} {scripts} all bare =
    record {
      drivers = bare.drivers;
      each = λ j s at.
          (let b = bare.each j s at in
          record {
            calls = b.calls ∙ ap (calls_by s.driver) all;
            at = b.at ∙ sym (none_complete def s.driver);
            made = b.made ∙ none_made def s.driver (due_call def s.driver []) refl;
          });
    }
