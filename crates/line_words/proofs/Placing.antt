-- The drivers at the places that the numbers of a history tell.
use Rattle.std.proofs.Common.{◌≡◌, ◌⊎◌, inl, inr, ℕ, suc, ◌+◌, ◌*◌, Bool, true, false, ◌||◌, cond, Option, Some, None}
use Rattle.std.proofs.Common.{List, [], ◌∷◌, drop, length, refl, sym, ap, subst, ◌∙◌, arith}
use Rattle.std.proofs.lemmas.List.{drop-drop}
use Rattle.std.specs.Prelude.{unwrap_or}
use Rattle.std.specs.List.{list_any}
use Rattle.std.specs.Map.{lookup, set_value}
use Rattle.irq_base.specs.declared.calls.Call.{Call}
use Rattle.irq_base.specs.declared.entries.Entry.{Entry}
use Rattle.irq_base.specs.declared.lines.LineDef.{LineDef}
use Rattle.irq_base.specs.declared.numbers.DriverNo.{DriverNo}
use Rattle.irq_model.specs.Due.{calls_by, entries_by, due_of}
use Rattle.irq_model.specs.Kinds.{same_driver}
use Rattle.irq_model.specs.Legal.{IsLegalPast}
use Rattle.irq_laws.specs.Kept.{complete}
use Rattle.irq_model.proofs.Same.{driver_from_same}
use Rattle.line_scripts.specs.Rows.{RowSeen, row_of, calls_of, place_of, within_of, unbegun, placed, gone_to}
use Rattle.line_marks.specs.Scripts.{IsAt}
use Rattle.line_futures.proofs.Placed.{placed as at_place}
use Rattle.line_futures.specs.Places.{place_by, within_by, count_in}
use Rattle.line_words.specs.Node.{drivers_in, places_words}
use Rattle.line_words.specs.Reading.{go_all}
use Rattle.line_words.specs.Scripts.{AreScripts}

-- ---- one driver goes to its place

abbrev Rows : Type 0
Rows = List (DriverNo × RowSeen)

own_found : (r : DriverNo) (s : Rows) (x v : RowSeen) → lookup (same_driver r) s ≡ Some x → lookup (same_driver r) (set_value (same_driver r) s v) ≡ Some v
own_found r [] x v h = cc
own_found r (e ∷ es) x v h = by_test (same_driver r e.0) refl h (own_found r es x v)
  where
    by_test : (b : Bool) → same_driver r e.0 ≡ b → cond b (Some e.1) (lookup (same_driver r) es) ≡ Some x
        → (lookup (same_driver r) es ≡ Some x → lookup (same_driver r) (set_value (same_driver r) es v) ≡ Some v)
        → lookup (same_driver r) (cond b ((e.0, v) ∷ es) (e ∷ set_value (same_driver r) es v)) ≡ Some v
    by_test true is h rest = rw is refl
    by_test false is h rest = rw is (rest h)

other_found : (q r : DriverNo) (s : Rows) (v : RowSeen) → same_driver q r ≡ false
    → lookup (same_driver q) (set_value (same_driver r) s v) ≡ lookup (same_driver q) s
other_found q r [] v other = refl
other_found q r (e ∷ es) v other = by_test (same_driver r e.0) refl (other_found q r es v other)
  where
    by_test : (b : Bool) → same_driver r e.0 ≡ b → lookup (same_driver q) (set_value (same_driver r) es v) ≡ lookup (same_driver q) es
        → lookup (same_driver q) (cond b ((e.0, v) ∷ es) (e ∷ set_value (same_driver r) es v)) ≡ lookup (same_driver q) (e ∷ es)
    by_test true is rest =
        let apart : same_driver q e.0 ≡ false = ap (same_driver q) (sym (driver_from_same r e.0 is)) ∙ other in
        rw apart refl
    by_test false is rest = ap (λ (o : Option RowSeen). cond (same_driver q e.0) (Some e.1) o) rest

row_is : (s : Rows) (r : DriverNo) (x : RowSeen) → lookup (same_driver r) s ≡ Some x → row_of s r ≡ x
row_is s r x h = ap (λ (o : Option RowSeen). unwrap_or o (unbegun [])) h

module _ (r : DriverNo) (p w : ℕ) (s : Rows) where
  -- another driver's row stays
  others_stay : (q : DriverNo) → same_driver q r ≡ false → row_of (gone_to r p w s) q ≡ row_of s q
  others_stay q other = by_found (lookup (same_driver r) s)
    where
      by_found : (o : Option RowSeen) → row_of (placed r p w s o) q ≡ row_of s q
      by_found None = refl
      by_found (Some x) = ap (λ (o : Option RowSeen). unwrap_or o (unbegun [])) (other_found q r s (record x { place = p; within = w }) other)

  abbrev Went : Rows → Type 0
  Went new = ((row_of s r ≡ unbegun []) × (row_of new r ≡ row_of s r))
      ⊎ ((calls_of new r ≡ calls_of s r) × (place_of new r ≡ p) × (within_of new r ≡ w))

  went : Went (gone_to r p w s)
  went = by_found (lookup (same_driver r) s) refl
    where
      by_found : (o : Option RowSeen) → lookup (same_driver r) s ≡ o → Went (placed r p w s o)
      by_found None h = inl (ap (λ (o : Option RowSeen). unwrap_or o (unbegun [])) h, refl)
      by_found (Some x) h =
          let now : row_of (set_value (same_driver r) s (record x { place = p; within = w })) r ≡ record x { place = p; within = w } =
          row_is (set_value (same_driver r) s (record x { place = p; within = w })) r (record x { place = p; within = w })
          (own_found r s x (record x { place = p; within = w }) h) in
          inr (
            ap (λ (y : RowSeen). y.calls) now ∙ ap (λ (y : RowSeen). y.calls) (sym (row_is s r x h)),
            ap (λ (y : RowSeen). y.place) now,
            ap (λ (y : RowSeen). y.within) now,
          )

-- a driver that isn't among them has no calls
pub none_called : (r : DriverNo) (cs : List (DriverNo × Call)) → list_any (same_driver r) (drivers_in cs) ≡ false → calls_by r cs ≡ []
none_called r [] none = refl
none_called r (c ∷ cs) none = by_there (list_any (same_driver c.0) (drivers_in cs)) refl none (none_called r cs)
  where
    by_same : (b : Bool) → same_driver r c.0 ≡ b → (b ≡ true → ⊥) → calls_by r cs ≡ [] → cond b (c.1 ∷ calls_by r cs) (calls_by r cs) ≡ []
    by_same true is other rest = absurd (other refl)
    by_same false is other rest = rest

    split : (x y : Bool) → (x || y) ≡ false → (x ≡ false) × (y ≡ false)
    split true y h = cc
    split false y h = (refl, h)

    by_there : (b : Bool) → list_any (same_driver c.0) (drivers_in cs) ≡ b
        → list_any (same_driver r) (cond b (drivers_in cs) (c.0 ∷ drivers_in cs)) ≡ false
        → (list_any (same_driver r) (drivers_in cs) ≡ false → calls_by r cs ≡ []) → calls_by r (c ∷ cs) ≡ []
    by_there true there n rest =
        by_same (same_driver r c.0) refl (λ is. let k : list_any (same_driver r) (drivers_in cs)
        ≡ true = ap (λ (x : DriverNo). list_any (same_driver x) (drivers_in cs)) (driver_from_same r c.0 is)
        ∙ there in let x : ⊥ = cc (sym n ∙ k) in x) (rest n)
    by_there false there n rest =
        let s = split (same_driver r c.0) (list_any (same_driver r) (drivers_in cs)) n in
        by_same (same_driver r c.0) refl (λ is. let x : ⊥ = cc (sym s.0 ∙ is) in x) (rest s.1)

-- ---- all drivers

module _ (def : LineDef) (past : List Entry) where
  -- the driver is at its place, or has no calls
  abbrev Stands : Rows → DriverNo → Type 0
  Stands s q = (calls_of s q ≡ []) ⊎ ((place_of s q ≡ place_by def q past) × (within_of s q ≡ within_by def q past))

  pub none_placed : (r : DriverNo) → calls_by r def.calls ≡ [] → (place_by def r past ≡ 0) × (within_by def r past ≡ 0)
  none_placed r none = (
    ap (λ (cs : List Call). length (complete [] cs (entries_by r past))) none,
    ap (λ (cs : List Call). count_in (due_of cs (entries_by r past))) none,
  )

  module _ (r : DriverNo) (s : Rows) where
    abbrev next : Rows
    next = gone_to r (place_by def r past) (within_by def r past) s

    to_r : (P : DriverNo → Type 0) (q : DriverNo) → same_driver q r ≡ true → P r → P q
    to_r P q same h = subst P (sym (driver_from_same q r same)) h

    own_stands : Stands (gone_to r (place_by def r past) (within_by def r past) s) r
    own_stands = by_went (went r (place_by def r past) (within_by def r past) s)
      where
        by_went : Went r (place_by def r past) (within_by def r past) s (gone_to r (place_by def r past) (within_by def r past) s)
            → Stands (gone_to r (place_by def r past) (within_by def r past) s) r
        by_went (inl h) = inl (ap (λ (y : RowSeen). y.calls) (h.1 ∙ h.0))
        by_went (inr h) = inr (h.1, h.2)

    stays : (q : DriverNo) → Stands s q → Stands (gone_to r (place_by def r past) (within_by def r past) s) q
    stays q h = by_same (same_driver q r) refl h
      where
        same_row : row_of (gone_to r (place_by def r past) (within_by def r past) s) q ≡ row_of s q → Stands s q
            → Stands (gone_to r (place_by def r past) (within_by def r past) s) q
        same_row same (inl k) = inl (ap (λ (y : RowSeen). y.calls) same ∙ k)
        same_row same (inr k) = inr (ap (λ (y : RowSeen). y.place) same ∙ k.0, ap (λ (y : RowSeen). y.within) same ∙ k.1)

        by_same : (b : Bool) → same_driver q r ≡ b → Stands s q → Stands (gone_to r (place_by def r past) (within_by def r past) s) q
        by_same true same k = to_r (λ x. Stands (gone_to r (place_by def r past) (within_by def r past) s) x) q same own_stands
        by_same false other k = same_row (others_stay r (place_by def r past) (within_by def r past) s q other) k

    scripts_stay : AreScripts def s → AreScripts def (gone_to r (place_by def r past) (within_by def r past) s)
    scripts_stay are = record { calls = λ q. calls_so q (same_driver q r) refl; idle = λ q none. idle_so q (same_driver q r) refl none }
      where
        n : Rows
        n = gone_to r (place_by def r past) (within_by def r past) s

        own_calls : Went r (place_by def r past) (within_by def r past) s n → calls_of n r ≡ calls_of s r
        own_calls (inl h) = ap (λ (y : RowSeen). y.calls) h.1
        own_calls (inr h) = h.0

        calls_so : (q : DriverNo) (b : Bool) → same_driver q r ≡ b → calls_of n q ≡ calls_by q def.calls
        calls_so q true same = to_r (λ x. calls_of n x ≡ calls_by x def.calls) q same
            (own_calls (went r (place_by def r past) (within_by def r past) s) ∙ are.calls r)
        calls_so q false other = ap (λ (y : RowSeen). y.calls) (others_stay r (place_by def r past) (within_by def r past) s q other) ∙ are.calls q

        own_idle : calls_by r def.calls ≡ [] → Went r (place_by def r past) (within_by def r past) s n → (place_of n r ≡ 0) × (within_of n r ≡ 0)
        own_idle none (inl h) = (ap (λ (y : RowSeen). y.place) (h.1 ∙ h.0), ap (λ (y : RowSeen). y.within) (h.1 ∙ h.0))
        own_idle none (inr h) = (h.1 ∙ (none_placed r none).0, h.2 ∙ (none_placed r none).1)

        idle_so : (q : DriverNo) (b : Bool) → same_driver q r ≡ b → calls_by q def.calls ≡ [] → (place_of n q ≡ 0) × (within_of n q ≡ 0)
        idle_so q true same none =
            to_r (λ x. (place_of n x ≡ 0) × (within_of n x ≡ 0)) q same
            (own_idle (ap (λ (x : DriverNo). calls_by x def.calls) (sym (driver_from_same q r same)) ∙ none)
            (went r (place_by def r past) (within_by def r past) s))
        idle_so q false other none =
            let same = others_stay r (place_by def r past) (within_by def r past) s q other in
            let k = are.idle q none in
            (ap (λ (y : RowSeen). y.place) same ∙ k.0, ap (λ (y : RowSeen). y.within) same ∙ k.1)

  all_stay : (rs : List DriverNo) (rest : List ℕ) (s : Rows) (q : DriverNo) → Stands s q → Stands (go_all rs (places_words def past rs rest) s) q
  all_stay [] rest s q h = h
  all_stay (r ∷ rs) rest s q h = all_stay rs rest (gone_to r (place_by def r past) (within_by def r past) s) q (stays r s q h)

  all_stand : (rs : List DriverNo) (rest : List ℕ) (s : Rows) (q : DriverNo) → list_any (same_driver q) rs ≡ true
      → Stands (go_all rs (places_words def past rs rest) s) q
  all_stand [] rest s q there = absurd (let x : ⊥ = cc there in x)
  all_stand (r ∷ rs) rest s q there =
      by_same (same_driver q r) refl there (all_stand rs rest (gone_to r (place_by def r past) (within_by def r past) s) q)
    where
      n : Rows
      n = gone_to r (place_by def r past) (within_by def r past) s

      by_same : (b : Bool) → same_driver q r ≡ b → (b || list_any (same_driver q) rs) ≡ true
          → (list_any (same_driver q) rs ≡ true → Stands (go_all rs (places_words def past rs rest) n) q)
          → Stands (go_all rs (places_words def past rs rest) n) q
      by_same true same k more = to_r r s (λ x. Stands (go_all rs (places_words def past rs rest) n) x) q same (all_stay rs rest n r (own_stands r s))
      by_same false other k more = more k

  pub scripts_all : (rs : List DriverNo) (rest : List ℕ) (s : Rows) → AreScripts def s → AreScripts def (go_all rs (places_words def past rs rest) s)
  scripts_all [] rest s are = are
  scripts_all (r ∷ rs) rest s are = scripts_all rs rest (gone_to r (place_by def r past) (within_by def r past) s) (scripts_stay r s are)

  -- what stands behind the numbers of the places
  pub behind_places : (rs : List DriverNo) (rest : List ℕ) → drop (2 * length rs) (places_words def past rs rest) ≡ rest
  behind_places [] rest = refl
  behind_places (r ∷ rs) rest =
      let ws = places_words def past (r ∷ rs) rest in
      ap (λ n. drop n ws) (let e : 2 * suc (length rs) ≡ 2 + 2 * length rs = omega arith in e)
      ∙ (sym (drop-drop (2 * length rs) 2 ws) ∙ behind_places rs rest)

  module _ (legal : IsLegalPast def past) (rest : List ℕ) (s : Rows) (are : AreScripts def s) where
    abbrev after : Rows
    after = go_all (drivers_in def.calls) (places_words def past (drivers_in def.calls) rest) s

    abbrev At : ℕ → ℕ → DriverNo → Type 0
    At p w r = IsAt def past r p w

    at_by : (r : DriverNo) (p w : ℕ) → p ≡ place_by def r past → w ≡ within_by def r past → IsAt def past r p w
    at_by r p w i j =
        subst (λ (n : ℕ). IsAt def past r n w) (sym i) (subst (λ (n : ℕ). IsAt def past r (place_by def r past) n) (sym j) (at_place def past legal r))

    pub all_at : (r : DriverNo) → IsAt def past r (place_of after r) (within_of after r)
    all_at r = by_there (list_any (same_driver r) (drivers_in def.calls)) refl
      where
        now : AreScripts def after
        now = scripts_all (drivers_in def.calls) rest s are

        idle : calls_by r def.calls ≡ [] → IsAt def past r (place_of after r) (within_of after r)
        idle none =
            let i = now.idle r none in
            let z = none_placed r none in
            at_by r (place_of after r) (within_of after r) (i.0 ∙ sym z.0) (i.1 ∙ sym z.1)

        stood : Stands after r → IsAt def past r (place_of after r) (within_of after r)
        stood (inl none) = idle (sym (now.calls r) ∙ none)
        stood (inr h) = at_by r (place_of after r) (within_of after r) h.0 h.1

        by_there : (b : Bool) → list_any (same_driver r) (drivers_in def.calls) ≡ b → IsAt def past r (place_of after r) (within_of after r)
        by_there true there = stood (all_stand (drivers_in def.calls) rest s r there)
        by_there false none = idle (none_called r def.calls none)
