-- One more call, and the owners of the devices.
use Rattle.std.proofs.Common.{◌≡◌, ℕ, ◌==◌, ◌⊎◌, inl, inr, Bool, true, false, cond, ◌&&◌, ◌||◌, Option}
use Rattle.std.proofs.Common.{Some, None, List, [], ◌∷◌, ◌++◌, reverse, refl, sym, ap, ◌∙◌, arith}
use Rattle.std.specs.Option.{option_map}
use Rattle.std.proofs.lemmas.Bool.Decides.{nat_tests}
use Rattle.std.proofs.lemmas.List.{reverse-append}
use Rattle.indexmap.specs.IndexMap.{insert_entry}
use Rattle.irq_base.specs.declared.numbers.DevNo.{DevNo}
use Rattle.irq_base.specs.declared.numbers.DriverNo.{DriverNo}
use Rattle.irq_model.specs.Kinds.{same_dev}
use Rattle.irq_base.specs.declared.calls.Call.{Call}
use Rattle.irq_base.specs.declared.calls.Call.TheVariants as kinds
use Rattle.irq_base.specs.declared.calls.Flags.{Flags}
use Rattle.irq_model.specs.Valid.{requests_dev, frees_dev}
use Rattle.board_def.specs.Rules.{is_owning, first_owning, is_a_request}
use Rattle.board_def.specs.declared.rows.ScriptCall.{ScriptCall}
use Rattle.board_text.specs.Owned.{owner_in, is_requested, Owns, owner_noted}
use Rattle.board_text.specs.declared.owners.Owner.{Owner}

-- a look-up after an insertion, by the numbers
step : (d k e : ℕ) (v w : Owner) (rest more : Option Owner) (b : Bool) → (k == e) ≡ b → more ≡ cond (d == k) (Some v) rest
    → cond b (cond (d == e) (Some v) rest) (cond (d == e) (Some w) more) ≡ cond (d == k) (Some v) (cond (d == e) (Some w) rest)
step d k e v w rest more true at h = grind (arith, nat_tests)
step d k e v w rest more false at h = grind (arith, nat_tests)

split : (d : DevNo) (b : Bool) (x : DevNo × Owner) (v : Owner) (es more : List (DevNo × Owner))
    → owner_in d (cond b ((x.0, v) ∷ es) (x ∷ more)) ≡ cond b (cond (d.0 == x.0.0) (Some v) (owner_in d es))
    (cond (d.0 == x.0.0) (Some x.1) (owner_in d more))
split d true x v es more = refl
split d false x v es more = refl

pub owner_inserted : (d k : DevNo) (v : Owner) (es : List (DevNo × Owner))
    → owner_in d (insert_entry same_dev es k v) ≡ cond (same_dev d k) (Some v) (owner_in d es)
owner_inserted d k v [] = refl
owner_inserted d k v (x ∷ es) =
    split d (same_dev k x.0) x v es (insert_entry same_dev es k v)
    ∙ step d.0 k.0 x.0.0 v x.1 (owner_in d es) (owner_in d (insert_entry same_dev es k v)) (same_dev k x.0) refl (owner_inserted d k v es)

abbrev or_call : Option ScriptCall → Option ScriptCall → Option ScriptCall
or_call (Some c) other = Some c
or_call None other = other

-- the first request or free, with one call more
first_more : (d : DevNo) (calls : List ScriptCall) (c : ScriptCall)
    → first_owning d (calls ++ c ∷ []) ≡ or_call (first_owning d calls) (cond (is_owning d c) (Some c) None)
first_more d [] c = refl
first_more d (x ∷ xs) c = by (is_owning d x) (first_more d xs c)
  where
    by : (b : Bool) → first_owning d (xs ++ c ∷ []) ≡ or_call (first_owning d xs) (cond (is_owning d c) (Some c) None)
        → cond b (Some x) (first_owning d (xs ++ c ∷ [])) ≡ or_call (cond b (Some x) (first_owning d xs)) (cond (is_owning d c) (Some c) None)
    by true h = refl
    by false h = h

-- the last one, with one call more
last_more : (d : DevNo) (calls : List ScriptCall) (c : ScriptCall)
    → first_owning d (reverse (calls ++ c ∷ [])) ≡ cond (is_owning d c) (Some c) (first_owning d (reverse calls))
last_more d calls c = ap (first_owning d) (reverse-append calls (c ∷ []))

same_number : (d k : DevNo) → (d.0 == k.0) ≡ true → d ≡ k
same_number d k e = let of : ℕ → DevNo = λ n. record { 0 = n } in let n : d.0 ≡ k.0 = grind (arith, nat_tests) in ap of n

kept_driver : (o : Option Owner) (f : Option ScriptCall) (c : ScriptCall) (requested : Bool) → option_map (λ o. o.driver) o ≡ option_map (λ c. c.driver) f
    → Some (owner_noted o c.driver requested).driver ≡ option_map (λ c. c.driver) (or_call f (Some c))
kept_driver (Some o) (Some x) c requested h = h
kept_driver (Some o) None c requested h = cc
kept_driver None (Some x) c requested h = cc
kept_driver None None c requested h = refl

-- what Owns says of one device
abbrev Owned : DevNo → List (DevNo × Owner) → List ScriptCall → Type 0
Owned d owners calls =
    (option_map (λ o. o.driver) (owner_in d owners) ≡ option_map (λ c. c.driver) (first_owning d calls))
    × (is_requested (owner_in d owners) ≡ is_a_request d (first_owning d (reverse calls)))

-- a call that is no request or free of the device
other : (d : DevNo) (owners more : List (DevNo × Owner)) (calls : List ScriptCall) (c : ScriptCall)
    → owner_in d more ≡ owner_in d owners → is_owning d c ≡ false → Owned d owners calls
    → Owned d more (calls ++ c ∷ [])
other d owners more calls c e apart h =
    let first : first_owning d (calls ++ c ∷ []) ≡ first_owning d calls = first_more d calls c ∙ rw apart (same (first_owning d calls)) in
    let last : first_owning d (reverse (calls ++ c ∷ [])) ≡ first_owning d (reverse calls) = rw apart at (last_more d calls c) in
    (ap (option_map (λ o. o.driver)) e ∙ (h.0 ∙ sym (ap (option_map (λ c. c.driver)) first)), ap is_requested e ∙ (h.1 ∙ sym (ap (is_a_request d) last)))
  where
    same : (f : Option ScriptCall) → or_call f None ≡ f
    same (Some c) = refl
    same None = refl

-- a request or a free of the device
own : (d : DevNo) (owners more : List (DevNo × Owner)) (calls : List ScriptCall) (c : ScriptCall) (requested : Bool)
    → owner_in d more ≡ Some (owner_noted (owner_in d owners) c.driver requested) → is_owning d c ≡ true
    → requests_dev d c.call ≡ requested → Owned d owners calls → Owned d more (calls ++ c ∷ [])
own d owners more calls c requested e owns asks h =
    let first : first_owning d (calls ++ c ∷ []) ≡ or_call (first_owning d calls) (Some c) = rw owns at (first_more d calls c) in
    let last : first_owning d (reverse (calls ++ c ∷ [])) ≡ Some c = rw owns at (last_more d calls c) in (
      ap (option_map (λ o. o.driver)) e ∙ (kept_driver (owner_in d owners) (first_owning d calls) c requested h.0
          ∙ sym (ap (option_map (λ c. c.driver)) first)),
      ap is_requested e ∙ (requested_noted (owner_in d owners) c.driver requested ∙ (sym asks ∙ sym (ap (is_a_request d) last))),
    )
  where
    requested_noted : (o : Option Owner) (driver : DriverNo) (requested : Bool) → (owner_noted o driver requested).requested ≡ requested
    requested_noted (Some o) driver requested = refl
    requested_noted None driver requested = refl

pub noted : (owners : List (DevNo × Owner)) (calls : List ScriptCall) (c : ScriptCall) (k : DevNo) (requested : Bool)
    → ((d : DevNo) → is_owning d c ≡ same_dev d k) → ((d : DevNo) → requests_dev d c.call ≡ (same_dev d k && requested)) → Owns owners calls
    → Owns (insert_entry same_dev owners k (owner_noted (owner_in k owners) c.driver requested)) (calls ++ c ∷ [])
noted owners calls c k requested owning asking h = λ d. by d (same_dev d k) refl
  where
    by : (d : DevNo) (b : Bool) → same_dev d k ≡ b → Owned d
        (insert_entry same_dev owners k (owner_noted (owner_in k owners) c.driver requested)) (calls ++ c ∷ [])
    by d false e = other d owners (insert_entry same_dev owners k (owner_noted (owner_in k owners) c.driver requested)) calls c
        (rw e at (owner_inserted d k (owner_noted (owner_in k owners) c.driver requested) owners)) (owning d ∙ e) (h d)
    by d true e =
        let is : d ≡ k = same_number d k e in
        own d owners (insert_entry same_dev owners k (owner_noted (owner_in k owners) c.driver requested)) calls c requested
        (rw e at (owner_inserted d k (owner_noted (owner_in k owners) c.driver requested) owners)
        ∙ ap (λ x. Some (owner_noted (owner_in x owners) c.driver requested)) (sym is))
        (owning d ∙ e) (rw e at (asking d)) (h d)

pub unnoted : (owners : List (DevNo × Owner)) (calls : List ScriptCall) (c : ScriptCall)
    → ((d : DevNo) → is_owning d c ≡ false) → Owns owners calls → Owns owners (calls ++ c ∷ [])
unnoted owners calls c none h = λ d. other d owners owners calls c refl (none d) (h d)

or_neither : (b : Bool) → (b || false) ≡ b
or_neither true = refl
or_neither false = refl

and_so : (b : Bool) → b ≡ (b && true)
and_so true = refl
and_so false = refl

and_not : (b : Bool) → false ≡ (b && false)
and_not true = refl
and_not false = refl

pub request_noted : (owners more : List (DevNo × Owner)) (calls : List ScriptCall) (c : ScriptCall) (k : DevNo) (flags : Flags) → c.call ≡ kinds.Request k flags
    → more ≡ insert_entry same_dev owners k (owner_noted (owner_in k owners) c.driver true) → Owns owners calls → Owns more (calls ++ c ∷ [])
request_noted owners more calls c k flags is now h = rw now
    (noted owners calls c k true (λ d. rw is (or_neither (same_dev d k))) (λ d. rw is (and_so (same_dev d k))) h)

pub free_noted : (owners more : List (DevNo × Owner)) (calls : List ScriptCall) (c : ScriptCall) (k : DevNo) → c.call ≡ kinds.Free k
    → more ≡ insert_entry same_dev owners k (owner_noted (owner_in k owners) c.driver false) → Owns owners calls → Owns more (calls ++ c ∷ [])
free_noted owners more calls c k is now h = rw now (noted owners calls c k false (λ d. rw is refl) (λ d. rw is (and_not (same_dev d k))) h)

abbrev pub owns : DevNo → Call → Bool
owns d call = requests_dev d call || frees_dev d call

-- a call that neither requests nor frees a device
abbrev pub IsOther : Call → Type 0
IsOther c = ((dev : DevNo) × c ≡ kinds.Ask dev) ⊎ ((c ≡ kinds.Disable) ⊎ ((c ≡ kinds.DisableNosync) ⊎ ((c ≡ kinds.Enable) ⊎ ((c ≡ kinds.Sync)
    ⊎ (((mask : ℕ) × c ≡ kinds.Affinity mask) ⊎ (((at : ℕ) × c ≡ kinds.Moment at) ⊎ ((c ≡ kinds.SyncHard) ⊎ ((c ≡ kinds.DisableHard)
    ⊎ (((dev : DevNo) × c ≡ kinds.Wake dev) ⊎ (((dev : DevNo) × c ≡ kinds.Quiet dev) ⊎ (((dev : DevNo) × c ≡ kinds.Arm dev)
    ⊎ ((dev : DevNo) × c ≡ kinds.Serve dev))))))))))))

owns_none : (d : DevNo) (c : Call) → IsOther c → owns d c ≡ false
owns_none d c (inl (dev, is)) = rw is refl
owns_none d c (inr (inl is)) = rw is refl
owns_none d c (inr (inr (inl is))) = rw is refl
owns_none d c (inr (inr (inr (inl is)))) = rw is refl
owns_none d c (inr (inr (inr (inr (inl is))))) = rw is refl
owns_none d c (inr (inr (inr (inr (inr (inl (mask, is))))))) = rw is refl
owns_none d c (inr (inr (inr (inr (inr (inr (inl (at, is)))))))) = rw is refl
owns_none d c (inr (inr (inr (inr (inr (inr (inr (inl is)))))))) = rw is refl
owns_none d c (inr (inr (inr (inr (inr (inr (inr (inr (inl is))))))))) = rw is refl
owns_none d c (inr (inr (inr (inr (inr (inr (inr (inr (inr (inl (dev, is))))))))))) = rw is refl
owns_none d c (inr (inr (inr (inr (inr (inr (inr (inr (inr (inr (inl (dev, is)))))))))))) = rw is refl
owns_none d c (inr (inr (inr (inr (inr (inr (inr (inr (inr (inr (inr (inl (dev, is))))))))))))) = rw is refl
owns_none d c (inr (inr (inr (inr (inr (inr (inr (inr (inr (inr (inr (inr (dev, is))))))))))))) = rw is refl

pub other_noted : (owners : List (DevNo × Owner)) (calls : List ScriptCall) (c : ScriptCall)
    → IsOther c.call → Owns owners calls → Owns owners (calls ++ c ∷ [])
other_noted owners calls c other h = unnoted owners calls c (λ d. owns_none d c.call other) h
