-- What a search says of a line on which nothing more is due.
use Rattle.std.proofs.Common.{◌≡◌, ◌≤◌, ◌<◌, ◌⊎◌, inl, inr, Contains, ℕ, zero, suc, Bool, true, false, ltb, Option}
use Rattle.std.proofs.Common.{None, Some, List, map, take, length}
use Rattle.std.proofs.Common.{slice_get, refl, ap, sym, subst, ◌∙◌, arith}
use Rattle.std.specs.Option.{option_map}
use Rattle.std.proofs.lemmas.Bool.Decides.{nat_tests}
use Rattle.std.proofs.lemmas.Option.{slice_get_within, none-some}
use Rattle.irq_base.specs.Who.{actor_of}
use Rattle.irq_base.specs.declared.entries.Actor.{Actor}
use Rattle.irq_base.specs.declared.entries.Entry.{Entry}
use Rattle.irq_base.specs.declared.lines.LineDef.{LineDef}
use Rattle.irq_laws.proofs.OwnLaws.{due_is_own_past}
use Rattle.irq_model.specs.Legal.{IsDue, IsLegalPast}
use Rattle.irq_model.specs.Next.{next_past}
use Rattle.irq_model.specs.Waits.{IsLowestHungPast}
use Rattle.line_futures.proofs.Futures.{due_alike}
use Rattle.line_space.proofs.Nodes.{node_tells}
use Rattle.line_space.proofs.SearchLaws.{path_is_legal, legal_is_path}
use Rattle.line_space.proofs.HungAgain.{hung_alike}
use Rattle.line_wanted.specs.Left.{Leaves}
use Rattle.line_wanted.specs.Wanted.{IsShortest}
use Rattle.line_wanted.specs.declared.left.Left.{Left}
use Rattle.line_wanted.specs.declared.wanted.Wanted.TheVariants as wants
use Rattle.line_words.specs.Node.{node}
use Rattle.state_search.proofs.Places.{all_at, one_at, same_some, contains_at, map_at, map_from, there}
use Rattle.state_search.specs.Paths.{IsPath, IsBelow, IsCount}
use Rattle.state_search.specs.Seen.{SearchSeen, cut_of}
use Rattle.line_survey.proofs.Lefts.{left_alike}
use Rattle.line_survey.proofs.Lists.{taken}
use Rattle.line_survey.proofs.OneLeft.{one_hung}
use Rattle.line_survey.specs.Kept.{IsOfLine, IsValidLine}
use Rattle.line_survey.specs.Rests.{IsStill, LeavesAt, RestsAt, MovesAt, IsFirstAt}

module _ (def : LineDef) (asked : IsValidLine def) where
  -- nothing is due of anybody
  abbrev NoneDue : List Entry → Type 0
  NoneDue p = (e : Entry) → IsDue def e p → ⊥

  pub settled_none : (p : List Entry) → IsStill def p → NoneDue p
  settled_none p still e due = let none = still (actor_of e) in cc

  pub none_settled : (p : List Entry) → NoneDue p → IsStill def p
  none_settled p none a = by_due (next_past def p a) refl
    where
      by_due : (o : Option Entry) → next_past def p a ≡ o → next_past def p a ≡ None
      by_due None is = is
      by_due (Some e) is = absurd (none e (ap (next_past def p) (due_is_own_past def p a e is) ∙ is))

  -- a past that is alike leaves the line alike
  pub leaves_alike : (left : Left) (g h : List Entry) → IsLegalPast def g → IsLegalPast def h → node def g ≡ node def h → Leaves def left g → Leaves def left h
  leaves_alike left g h legal other same leaves =
      let like = node_tells def asked.valid g h legal other same in
      let back = node_tells def asked.valid h g other legal (sym same) in
      let none = settled_none g leaves.still in
      let hung = hung_alike def g h asked.valid asked.runs legal other like in
      let one : left.hung ≡ hung.0 = one_hung def g left.hung hung.0 leaves.hung hung.1 in
      record {
        still = none_settled h (λ e due. none e (due_alike def asked.valid h g other legal back e due));
        hung = subst (λ (o : Option Actor). IsLowestHungPast def h o) (sym one) hung.2;
        left_is = sym (left_alike def g h asked.valid legal other like.state left.hung) ∙ leaves.left_is;
      }

  -- how many entries are due says whether nothing more is
  pub count_settled : (p : List Entry) → IsCount (IsDue def) p 0 → IsStill def p
  count_settled p count = none_settled p (λ e due. no_entry e (count.all e due))
    where
      no_entry : (e : Entry) → Contains count.labels e → ⊥
      no_entry e has = absurd (omega (arith, has.1, count.many))

  pub count_goes_on : (p : List Entry) (n : ℕ) → IsCount (IsDue def) p (suc n) → IsStill def p → ⊥
  count_goes_on p n count settled =
      let first = there count.labels 0 (omega (arith, count.many)) in
      settled_none p settled first.0 (all_at (λ e. IsDue def e p) count.labels 0 first.0 count.each first.1)

  module _ (s : SearchSeen Entry) (line : IsOfLine def s) where
    pub legal_at : (k : ℕ) (p : List Entry) → slice_get s.paths k ≡ Some p → IsLegalPast def p
    legal_at k p is = path_is_legal def p (all_at (IsPath (IsDue def)) s.paths k p line.searches.paths_are is)

    pub rests_at : (k n : ℕ) → slice_get s.counts k ≡ Some n → n ≡ 0 → RestsAt def s.paths k
    rests_at k n is none p at = count_settled p (subst (IsCount (IsDue def) p) none (line.counts k p n at is))

    pub moves_at : (k n : ℕ) → slice_get s.counts k ≡ Some n → (n ≡ 0 → ⊥) → MovesAt def s.paths k
    moves_at k n is some p at = by_count n refl
      where
        by_count : (m : ℕ) → n ≡ m → IsStill def p → ⊥
        by_count zero same settled = some same
        by_count (suc m) same settled = count_goes_on p m (subst (IsCount (IsDue def) p) same (line.counts k p n at is)) settled

    pub short_at : (k : ℕ) (p : List Entry) → slice_get s.paths k ≡ Some p → length p ≤ 100000000
    short_at k p is = omega (arith, line.searches.short k p is, line.few, slice_get_within s.paths k p is)

    -- the numbers at a place are those of a past
    pub words_at : (k : ℕ) (ws : List ℕ) (p : List Entry) → Some ws ≡ slice_get s.states k → slice_get s.paths k ≡ Some p → ws ≡ node def p
    words_at k ws p words at =
        same_some ws (node def p) (words ∙ (ap (λ (x : List (List ℕ)). slice_get x k) line.states ∙ map_at (node def) s.paths k p at))

    pub past_at : (k : ℕ) (ws : List ℕ) → Some ws ≡ slice_get s.states k → (p : List Entry) × (slice_get s.paths k ≡ Some p)
    past_at k ws words =
        let x = map_from (node def) s.paths k ws (sym (words ∙ ap (λ (x : List (List ℕ)). slice_get x k) line.states)) in (x.0, x.1)

    pub cut_small : (d : ℕ) → cut_of s ≡ Some d → d ≤ 100000000
    cut_small d is = by_next (slice_get s.paths s.looked) refl is
      where
        by_next : (o : Option (List Entry)) → slice_get s.paths s.looked ≡ o → option_map length o ≡ Some d → d ≤ 100000000
        by_next None at none = absurd (none-some d none)
        by_next (Some q) at some = let same : length q ≡ d = same_some (length q) d some in omega (arith, same, short_at s.looked q at)

    pub depth_small : (k d : ℕ) → Some d ≡ option_map length (slice_get s.paths k) → d ≤ 100000000
    depth_small k d is = by_past (slice_get s.paths k) refl is
      where
        by_past : (o : Option (List Entry)) → slice_get s.paths k ≡ o → Some d ≡ option_map length o → d ≤ 100000000
        by_past None at none = absurd (none-some d (sym none))
        by_past (Some q) at some = let same : d ≡ length q = same_some d (length q) some in omega (arith, same, short_at k q at)

  module _ (s : SearchSeen Entry) (line : IsOfLine def s) (left : Left) where
    -- a past that leaves the line so, and whose state was looked at
    pub record Known (h : List Entry) : Type 0 where
      pub place : ℕ
      pub within : place < s.looked
      pub past : List Entry
      pub there : slice_get s.paths place ≡ Some past
      pub leaves : Leaves def left past
      pub least : length past ≤ length h

    pub known : (h : List Entry) → IsLegalPast def h → Leaves def left h → IsBelow (cut_of s) (length h) → Known h
    known h legal leaves below =
        let has = contains_at (map (node def) (take s.looked s.paths)) (node def h) (line.searches.all h (legal_is_path def h legal) below) in
        let from = map_from (node def) (take s.looked s.paths) has.0 (node def h) has.1 in
        let old = taken s.looked s.paths has.0 from.0 from.1 in
        let own = legal_at s line has.0 from.0 old.1 in
        let L : List Entry → Type 0 = λ p. (h : List Entry) → IsPath (IsDue def) h → node def h ≡ node def p → length p ≤ length h in
        let least : L from.0 = all_at L s.paths has.0 from.0 line.searches.least old.1 in
        record {
          place = has.0;
          within = old.0;
          past = from.0;
          there = old.1;
          leaves = leaves_alike left h from.0 legal own (sym from.2) leaves;
          least = least h (legal_is_path def h legal) (sym from.2);
        }

    -- it is below the cut, or at least as long
    cut_cases : (h : List Entry) → IsBelow (cut_of s) (length h) ⊎ ((q : List Entry) × (slice_get s.paths s.looked ≡ Some q) × (length q ≤ length h))
    cut_cases h = by_next (slice_get s.paths s.looked) refl
      where
        by_less : (q : List Entry) (b : Bool) → ltb (length h) (length q) ≡ b → slice_get s.paths s.looked ≡ Some q
            → IsBelow (Some (length q)) (length h) ⊎ ((q : List Entry) × (slice_get s.paths s.looked ≡ Some q) × (length q ≤ length h))
        by_less q true less is = let lt : length h < length q = grind (arith, nat_tests) in inl lt
        by_less q false more is = let ge : length q ≤ length h = grind (arith, nat_tests) in inr (q, is, ge)

        by_next : (o : Option (List Entry)) → slice_get s.paths s.looked ≡ o
            → IsBelow (option_map length o) (length h) ⊎ ((q : List Entry) × (slice_get s.paths s.looked ≡ Some q) × (length q ≤ length h))
        by_next None is = inl tt
        by_next (Some q) is = by_less q (ltb (length h) (length q)) refl is

    pub rest_found : (k : ℕ) (p : List Entry) → k < s.looked → IsFirstAt def s.paths left k → slice_get s.paths k ≡ Some p → IsShortest def (wants.Rest left) p
    rest_found k p within first is = record {
      meets = (legal_at s line k p is, mine);
      least = λ h meets. shorter h meets.0 meets.1 (cut_cases h);
    }
      where
        mine : Leaves def left p
        mine = subst (Leaves def left) (one_at s.paths k first.there.0 p first.there.1 is) first.there.2

        later : (j : ℕ) (b : Bool) → ltb j k ≡ b → LeavesAt def s.paths left j → k ≤ j
        later j true less at = let lt : j < k = grind (arith, nat_tests) in absurd (first.first j lt at)
        later j false more at = grind (arith, nat_tests)

        shorter : (h : List Entry) → IsLegalPast def h → Leaves def left h
            → IsBelow (cut_of s) (length h) ⊎ ((q : List Entry) × (slice_get s.paths s.looked ≡ Some q) × (length q ≤ length h)) → length p ≤ length h
        shorter h legal leaves (inl below) =
            let x = known h legal leaves below in
            let after : k ≤ x.place = later x.place (ltb x.place k) refl (x.past, x.there, x.leaves) in
            let rises = line.searches.rising k x.place p x.past after is x.there in omega (arith, rises, x.least)
        shorter h legal leaves (inr long) =
            let rises = line.searches.rising k s.looked p long.0 (omega (arith, within)) is long.1 in omega (arith, rises, long.2)
