-- The linked devices of a history can be linked again, one after another.
use Rattle.std.proofs.Common.{◌≡◌, ℕ, ◌<◌, ◌≤◌, Bool, true, false, not, ◌||◌, ◌&&◌, cond, ltb, is_some, List, [], ◌∷◌}
use Rattle.std.proofs.Common.{◌++◌, length, refl, sym, ap, subst, ◌∙◌, arith}
use Rattle.std.proofs.lemmas.Bool.Decides.{nat_tests}
use Rattle.std.proofs.lemmas.List.{append_assoc, append-nil, length-append}
use Rattle.std.specs.List.{list_any}
use Rattle.std.specs.Map.{remove_entry}
use Rattle.irq_base.specs.declared.calls.Flags.{Flags}
use Rattle.irq_base.specs.declared.entries.AffinityAnswer.TheVariants as moves
use Rattle.irq_base.specs.declared.entries.Entry.{Entry}
use Rattle.irq_base.specs.declared.entries.Entry.TheVariants as by
use Rattle.irq_base.specs.declared.entries.CpuEntry.TheVariants as cpus
use Rattle.irq_base.specs.declared.entries.DriverEntry.TheVariants as drivers
use Rattle.irq_base.specs.declared.entries.CallEntry.{CallEntry}
use Rattle.irq_base.specs.declared.entries.CallEntry.TheVariants as called
use Rattle.irq_base.specs.declared.entries.Errno.TheVariants as errors
use Rattle.irq_base.specs.declared.entries.LinkAnswer.TheVariants as links
use Rattle.irq_base.specs.declared.entries.UnlinkAnswer.TheVariants as unlinks
use Rattle.irq_base.specs.declared.lines.LineDef.{LineDef}
use Rattle.irq_base.specs.declared.numbers.DevNo.{DevNo}
use Rattle.irq_model.specs.Kinds.{same_dev}
use Rattle.irq_model.specs.Legal.{IsLegalPast}
use Rattle.irq_model.specs.Next.{flags_differ}
use Rattle.irq_model.specs.Signal.{lowest_in}
use Rattle.irq_model.specs.Valid.{IsValid}
use Rattle.act_list.specs.Actions.{has, is_mismatch}
use Rattle.act_list.specs.Lists.{flags_of, action_by}
use Rattle.act_list.specs.declared.actions.Action.{Action}
use Rattle.affinity.specs.Kept.{HasProcessor}
use Rattle.line_marks.proofs.ExpectedOf.{expected}
use Rattle.line_marks.specs.Actions.{actions_of, actions_after, actions_by_call}
use Rattle.line_marks.specs.Aim.{waiting_of}
use Rattle.line_marks.specs.Expected.{IsExpected}
use Rattle.line_marks.specs.State.{StateSeen, state_of}
use Rattle.line_words.proofs.Shaped.{flags_more}
use Rattle.line_words.specs.Again.{CanLinkAll}

abbrev Item : Type 0
Item = DevNo × Flags

abbrev is_dev : DevNo → Item → Bool
is_dev d a = same_dev d a.0

abbrev differs : Flags → Item → Bool
differs f a = flags_differ f a.1

-- the device can be linked behind these
abbrev Goes : Item → List Item → Type 0
Goes e pre = (list_any (is_dev e.0) pre ≡ false) × (list_any (differs e.1) pre ≡ false) × (e.1.oneshot ≡ true → length pre < 64)

abbrev AllGo : List Item → List Item → Type 0
AllGo pre [] = Unit {0}
AllGo pre (e ∷ es) = Goes e pre × AllGo (pre ++ e ∷ []) es

-- ---- by devices and flags

has_by : (d : DevNo) (t : List (DevNo × Action)) → has d t ≡ list_any (is_dev d) (flags_of t)
has_by d [] = refl
has_by d (e ∷ es) = by_test (same_dev d e.0) (has_by d es)
  where
    by_test : (b : Bool) → has d es ≡ list_any (is_dev d) (flags_of es) → cond b true (has d es) ≡ (b || list_any (is_dev d) (flags_of es))
    by_test true h = refl
    by_test false h = h

mismatch_by : (f : Flags) (t : List (DevNo × Action)) → is_mismatch f t ≡ list_any (differs f) (flags_of t)
mismatch_by f [] = refl
mismatch_by f (e ∷ es) = ap (λ b. flags_differ f e.1.flags || b) (mismatch_by f es)

long_by : (t : List (DevNo × Action)) → length t ≡ length (flags_of t)
long_by [] = refl
long_by (e ∷ es) = let h = long_by es in omega (arith, h)

pub can_link : (es : List Item) (t : List (DevNo × Action)) → AllGo (flags_of t) es → CanLinkAll es t
can_link [] t h = tt
can_link (e ∷ es) t h =
    let long = long_by t in (
      has_by e.0 t ∙ h.0.0,
      mismatch_by e.1 t ∙ h.0.1,
      λ o. let few = h.0.2 o in omega (arith, few, long),
      can_link es (t ++ (e.0, action_by e.1 t) ∷ []) (let P : List Item → Type 0 = λ pre. AllGo pre es in
          subst P (sym (flags_more t e.0 (action_by e.1 t))) h.1),
    )

-- ---- one more

one_more : (pre es : List Item) (e : Item) → AllGo pre es → Goes e (pre ++ es) → AllGo pre (es ++ e ∷ [])
one_more pre [] e h g = (let P : List Item → Type 0 = λ l. Goes e l in subst P (append-nil pre) g, tt)
one_more pre (x ∷ es) e h g =
    (h.0, one_more (pre ++ x ∷ []) es e h.1 (let P : List Item → Type 0 = λ l. Goes e l in subst P (sym (append_assoc pre (x ∷ []) es)) g))

-- ---- one less

record Within (less pre : List Item) : Type 0 where
  any : (q : Item → Bool) → list_any q pre ≡ false → list_any q less ≡ false
  few : length less ≤ length pre

any_last : (q : Item → Bool) (xs : List Item) (x : Item) → list_any q (xs ++ x ∷ []) ≡ (list_any q xs || q x)
any_last q [] x = by_test (q x)
  where
    by_test : (b : Bool) → (b || false) ≡ b
    by_test true = refl
    by_test false = refl
any_last q (y ∷ ys) x = by_test (q y) (any_last q ys x)
  where
    by_test : (b : Bool) → list_any q (ys ++ x ∷ []) ≡ (list_any q ys || q x) → (b || list_any q (ys ++ x ∷ [])) ≡ ((b || list_any q ys) || q x)
    by_test true h = refl
    by_test false h = h

first_false : (a b : Bool) → (a || b) ≡ false → a ≡ false
first_false true b h = cc
first_false false b h = refl

second_false : (a b : Bool) → (a || b) ≡ false → b ≡ false
second_false true b h = cc
second_false false b h = h

both_false : (a b : Bool) → a ≡ false → b ≡ false → (a || b) ≡ false
both_false a b h k = rw h k

within_more : (less pre : List Item) (e : Item) → Within less pre → Within (less ++ e ∷ []) (pre ++ e ∷ [])
within_more less pre e w =
    let a = length-append less (e ∷ []) in
    let b = length-append pre (e ∷ []) in
    record {
      any = λ q h. any_last q less e ∙ both_false (list_any q less) (q e)
          (w.any q (first_false (list_any q pre) (q e) (sym (any_last q pre e) ∙ h))) (second_false (list_any q pre) (q e) (sym (any_last q pre e) ∙ h));
      few = let f = w.few in omega (arith, a, b, f);
    }

within_less : (less pre : List Item) (e : Item) → Within less pre → Within less (pre ++ e ∷ [])
within_less less pre e w =
    let b = length-append pre (e ∷ []) in
    record {
      any = λ q h. w.any q (first_false (list_any q pre) (q e) (sym (any_last q pre e) ∙ h));
      few = let f = w.few in omega (arith, b, f);
    }

goes_within : (less pre : List Item) (e : Item) → Within less pre → Goes e pre → Goes e less
goes_within less pre e w g = (w.any (is_dev e.0) g.0, w.any (differs e.1) g.1, λ o. let few = g.2 o in let f = w.few in omega (arith, few, f))

all_within : (less pre es : List Item) → Within less pre → AllGo pre es → AllGo less es
all_within less pre [] w h = tt
all_within less pre (e ∷ es) w h =
    (goes_within less pre e w h.0, all_within (less ++ e ∷ []) (pre ++ e ∷ []) es (within_more less pre e w) h.1)

one_less : (test : DevNo → Bool) (less pre es : List Item) → Within less pre → AllGo pre es → AllGo less (remove_entry test es)
one_less test less pre [] w h = tt
one_less test less pre (e ∷ es) w h =
    by_test (test e.0) (all_within less (pre ++ e ∷ []) es (within_less less pre e w) h.1)
    (one_less test (less ++ e ∷ []) (pre ++ e ∷ []) es (within_more less pre e w) h.1)
  where
    by_test : (b : Bool) → AllGo less es → AllGo (less ++ e ∷ []) (remove_entry test es) → AllGo less (cond b es (e ∷ remove_entry test es))
    by_test true gone rest = gone
    by_test false gone rest = (goes_within less pre e w h.0, rest)

flags_less : (test : DevNo → Bool) (t : List (DevNo × Action)) → flags_of (remove_entry test t) ≡ remove_entry test (flags_of t)
flags_less test [] = refl
flags_less test (e ∷ es) = by_test (test e.0) (flags_less test es)
  where
    by_test : (b : Bool) → flags_of (remove_entry test es) ≡ remove_entry test (flags_of es)
        → flags_of (cond b es (e ∷ remove_entry test es)) ≡ cond b (flags_of es) ((e.0, e.1.flags) ∷ remove_entry test (flags_of es))
    by_test true h = refl
    by_test false h = ap (λ (l : List Item). (e.0, e.1.flags) ∷ l) h

-- ---- histories

linked_by : (a b c d : Bool) → links.Linked ≡ cond a (links.Refused errors.Inval) (cond b (links.Refused errors.Busy)
    (cond c (links.Refused errors.Busy) (cond d (links.Refused errors.Inval) links.Linked))) → (b ≡ false) × (c ≡ false)
linked_by true b c d h = cc
linked_by false true c d h = cc
linked_by false false true d h = cc
linked_by false false false d h = (refl, refl)

few_by : (o : Bool) (n : ℕ) → (o && not (ltb n 64)) ≡ false → o ≡ true → n < 64
few_by true n h k = grind (arith, nat_tests)
few_by false n h k = cc

later_by : (some later : Bool) → moves.Later ≡ cond some (cond later moves.Later moves.Now) (moves.Refused errors.Inval) → some ≡ true
later_by true later h = refl
later_by false later h = cc

call_step : (call : CallEntry) (t : List (DevNo × Action)) → AllGo [] (flags_of t) → AllGo [] (flags_of (actions_by_call call t))
call_step (called.Unlink (unlinks.Unlinked last) dev) t h =
    let P : List Item → Type 0 = λ l. AllGo [] l in
    subst P (sym (flags_less (same_dev dev) t)) (one_less (same_dev dev) [] [] (flags_of t) (record { any = λ q k. k; few = omega arith }) h)
call_step _ t h = h

module _ (def : LineDef) where
  step : (e : Entry) (s : StateSeen) → IsExpected def e s → AllGo [] (flags_of s.list.actions) → AllGo [] (flags_of (actions_after e s.list.actions))
  step (by.Driver driver (drivers.Request flags links.Linked opened dev)) s x h =
      let t = s.list.actions in
      let b = linked_by (flags.shared && flags.noauto) (is_mismatch flags t) (flags.oneshot && not (ltb (length t) 64)) _ x.1 in
      let long = long_by t in
      let P : List Item → Type 0 = λ l. AllGo [] l in
      subst P (sym (flags_more t dev (action_by flags t)))
      (one_more [] (flags_of t) (dev, flags) h
      (sym (has_by dev t) ∙ x.0, sym (mismatch_by flags t) ∙ b.0, λ o. let few = few_by flags.oneshot (length t) b.1 o in omega (arith, few, long)))
  step (by.Driver driver (drivers.Request flags (links.Refused error) opened dev)) s x h = h
  step (by.CpuCall cpu call) s x h = call_step call s.list.actions h
  step (by.ThreadCall dev call) s x h = call_step call s.list.actions h
  step (by.DriverCall driver call) s x h = call_step call s.list.actions h
  step _ s x h = h

  waits : (e : Entry) (past : List Entry) → IsExpected def e (state_of def past) → HasProcessor def.cpus (waiting_of past)
      → HasProcessor def.cpus (waiting_of (e ∷ past))
  waits (by.Driver driver (drivers.Affinity moves.Later mask)) past x h = later_by (is_some (lowest_in def.cpus mask)) def.later x
  waits (by.Driver driver (drivers.Affinity moves.Now mask)) past x h = tt
  waits (by.Driver driver (drivers.Affinity (moves.Refused error) mask)) past x h = h
  waits (by.Cpu cpu (cpus.Take way answer)) past x h = tt
  waits _ past x h = h

  module _ (valid : IsValid def) where
    pub all_go : (past : List Entry) → IsLegalPast def past → length past ≤ def.log → AllGo [] (flags_of (actions_of past))
    all_go [] legal few = tt
    all_go (e ∷ past) legal few =
        let short : length past ≤ def.log = omega (arith, few) in
        step e (state_of def past) (expected def past valid legal.1 short e legal.0) (all_go past legal.1 short)

    pub has_processor : (past : List Entry) → IsLegalPast def past → length past ≤ def.log → HasProcessor def.cpus (waiting_of past)
    has_processor [] legal few = tt
    has_processor (e ∷ past) legal few =
        let short : length past ≤ def.log = omega (arith, few) in
        waits e past (expected def past valid legal.1 short e legal.0) (has_processor past legal.1 short)
