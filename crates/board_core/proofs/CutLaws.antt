-- A driver's script without the calls on refused lines has the same current call.
use Rattle.std.proofs.Common.{◌≡◌, ℕ, zero, suc, ◌+◌, ◌==◌, Bool, true, false, ◌&&◌, ◌||◌, cond, is_some, Option, Some}
use Rattle.std.proofs.Common.{None, List, [], ◌∷◌, map, filter, take, slice_get, refl, sym, ap, ◌∙◌, subst, add-one}
use Rattle.std.proofs.lemmas.Bool.{and_parts}
use Rattle.irq_base.specs.declared.lines.LineDef.{LineDef}
use Rattle.irq_base.specs.declared.numbers.DriverNo.{DriverNo}
use Rattle.irq_base.specs.declared.numbers.LineNo.{LineNo}
use Rattle.irq_model.specs.Due.{calls_by}
use Rattle.irq_model.specs.Kinds.{same_line, same_driver}
use Rattle.irq_model.proofs.Same.{line_from_same, same_self_line}
use Rattle.irq_laws.proofs.Chosen.{the_same}
use Rattle.irq_laws.proofs.Lists.{both_ways}
use Rattle.board_def.specs.LineOf.{with_driver}
use Rattle.board_def.specs.declared.rows.ScriptCall.{ScriptCall}
use Rattle.board_play.specs.Current.{calls_on, is_open, current_from}
use Rattle.board_play.specs.Lines.{BoardLine, find_line}
use Rattle.board_play.proofs.Members.{found}
use Rattle.board_play.proofs.Script.{is_on, IsThe}
use Rattle.board_core.specs.Scripts.{takes_part, cut}

pub part_found : (lines : List BoardLine) (line : LineNo) → takes_part (map (λ (x : BoardLine). x.def) lines) line ≡ is_some (find_line lines line)
part_found [] line = refl
part_found (x ∷ xs) line = by_test (same_line line x.def.line) (part_found xs line)
  where
    by_test : (b : Bool) → takes_part (map (λ (x : BoardLine). x.def) xs) line ≡ is_some (find_line xs line)
        → (b || takes_part (map (λ (x : BoardLine). x.def) xs) line) ≡ is_some (cond b (Some x) (find_line xs line))
    by_test true deeper = refl
    by_test false deeper = deeper

-- the driver's calls in a cut script
pub cut_mine : (ds : List LineDef) (r : DriverNo) (cs : List ScriptCall) (i : ℕ) (c : ScriptCall)
    → slice_get (cut ds r cs) i ≡ Some c → (same_driver r c.driver ≡ true) × (takes_part ds c.line ≡ true)
cut_mine ds r [] i c at = cc
cut_mine ds r (d ∷ cs) i c at = by_test (same_driver r d.driver && takes_part ds d.line) refl i at (λ i at. cut_mine ds r cs i c at)
  where
    by_test : (b : Bool) → (same_driver r d.driver && takes_part ds d.line) ≡ b → (i : ℕ) → slice_get (cond b (d ∷ cut ds r cs) (cut ds r cs)) i ≡ Some c
        → ((i : ℕ) → slice_get (cut ds r cs) i ≡ Some c
        → (same_driver r c.driver ≡ true) × (takes_part ds c.line ≡ true))
        → (same_driver r c.driver ≡ true) × (takes_part ds c.line ≡ true)
    by_test true test zero at deeper =
        let p = and_parts (same_driver r d.driver) (takes_part ds d.line) test in
        subst (λ (x : ScriptCall). (same_driver r x.driver ≡ true) × (takes_part ds x.line ≡ true)) (the_same d c at) p
    by_test true test (suc i) at deeper = deeper i at
    by_test false test i at deeper = deeper i at

module _ (lines : List BoardLine) (r : DriverNo) where
  -- both lists have equally many of the driver's calls on each line
  abbrev SameCounts : List ScriptCall → List ScriptCall → Type 0
  SameCounts before other = (y : BoardLine) → IsThe lines y → calls_on y.def.line r before ≡ calls_on y.def.line r other

  both_more : (c : ScriptCall) (before other : List ScriptCall) → SameCounts before other → SameCounts (c ∷ before) (c ∷ other)
  both_more c before other same y the = ap (λ (n : ℕ). cond (is_on y.def.line r c) (n + 1) n) (same y the)

  left_more : (c : ScriptCall) (before other : List ScriptCall)
      → (same_driver r c.driver && takes_part (map (λ (x : BoardLine). x.def) lines) c.line) ≡ false
      → SameCounts before other → SameCounts (c ∷ before) other
  left_more c before other test same y the = by_line (same_line c.line y.def.line) refl
    where
      not_mine : same_line c.line y.def.line ≡ true → same_driver r c.driver ≡ false
      not_mine of_line =
          let there : takes_part (map (λ (x : BoardLine). x.def) lines) c.line ≡ true =
          part_found lines c.line ∙ (ap (λ (l : LineNo). is_some (find_line lines l))
          (line_from_same c.line y.def.line of_line) ∙ ap (λ (o : Option BoardLine). is_some o) the) in
          only (same_driver r c.driver) (takes_part (map (λ (x : BoardLine). x.def) lines) c.line) test there
        where
          only : (a b : Bool) → (a && b) ≡ false → b ≡ true → a ≡ false
          only true b h t = both_ways b t h
          only false b h t = refl

      by_line : (b : Bool) → same_line c.line y.def.line ≡ b → calls_on y.def.line r (c ∷ before) ≡ calls_on y.def.line r other
      by_line false other_line = ap (λ (b : Bool). cond (b && same_driver r c.driver) (calls_on y.def.line r before + 1)
          (calls_on y.def.line r before)) other_line ∙ same y the
      by_line true of_line =
          ap (λ (b : Bool). cond (b && same_driver r c.driver) (calls_on y.def.line r before + 1) (calls_on y.def.line r before)) of_line
          ∙ (ap (λ (b : Bool). cond b (calls_on y.def.line r before + 1) (calls_on y.def.line r before)) (not_mine of_line) ∙ same y the)

  same_open : (c : ScriptCall) (before other : List ScriptCall) → SameCounts before other
      → is_open (find_line lines c.line) r (calls_on c.line r before)
      ≡ is_open (find_line lines c.line) r (calls_on c.line r other)
  same_open c before other same = by_found (find_line lines c.line) refl
    where
      by_found : (o : Option BoardLine) → find_line lines c.line ≡ o → is_open o r (calls_on c.line r before) ≡ is_open o r (calls_on c.line r other)
      by_found None is = refl
      by_found (Some y) is =
          let line : c.line ≡ y.def.line = (found lines c.line y is).number in
          ap (λ (n : ℕ). is_open (Some y) r n)
          (ap (λ (l : LineNo). calls_on l r before) line
          ∙ (same y (subst (λ (l : LineNo). find_line lines l ≡ Some y) line is)
          ∙ ap (λ (l : LineNo). calls_on l r other) (sym line)))

  cut_from : (cs before other : List ScriptCall) → SameCounts before other
      → current_from lines r before cs ≡ current_from lines r other (cut (map (λ (x : BoardLine). x.def) lines) r cs)
  cut_from [] before other same = refl
  cut_from (c ∷ cs) before other same =
      by_test (same_driver r c.driver && takes_part (map (λ (x : BoardLine). x.def) lines) c.line) refl
      (cut_from cs (c ∷ before) (c ∷ other) (both_more c before other same))
      (λ counts. cut_from cs (c ∷ before) other counts)
    where
      closed : (a t : Bool) (o : Option BoardLine) (k : ℕ) → t ≡ is_some o → (a && t) ≡ false → (a && is_open o r k) ≡ false
      closed false t o k is h = refl
      closed true t None k is h = refl
      closed true t (Some y) k is h = both_ways t is h

      by_test : (b : Bool) → (same_driver r c.driver && takes_part (map (λ (x : BoardLine). x.def) lines) c.line) ≡ b
          → current_from lines r (c ∷ before) cs ≡ current_from lines r (c ∷ other) (cut (map (λ (x : BoardLine). x.def) lines) r cs)
          → (SameCounts (c ∷ before) other → current_from lines r (c ∷ before) cs
          ≡ current_from lines r other (cut (map (λ (x : BoardLine). x.def) lines) r cs))
          → cond (same_driver r c.driver && is_open (find_line lines c.line) r (calls_on c.line r before))
          (find_line lines c.line) (current_from lines r (c ∷ before) cs)
          ≡ current_from lines r other (cond b (c ∷ cut (map (λ (x : BoardLine). x.def) lines) r cs) (cut (map (λ (x : BoardLine). x.def) lines) r cs))
      by_test true test both left =
          ap (λ (b : Bool). cond (same_driver r c.driver && b) (find_line lines c.line) (current_from lines r (c ∷ before) cs)) (same_open c before other same)
          ∙ ap (λ (o : Option BoardLine). cond (same_driver r c.driver && is_open (find_line lines c.line) r
          (calls_on c.line r other)) (find_line lines c.line) o) both
      by_test false test both left =
          ap (λ (b : Bool). cond b (find_line lines c.line) (current_from lines r (c ∷ before) cs))
          (closed (same_driver r c.driver) (takes_part (map (λ (x : BoardLine). x.def) lines) c.line)
          (find_line lines c.line) (calls_on c.line r before) (part_found lines c.line) test)
          ∙ left (left_more c before other test same)

  pub current_cut : (cs : List ScriptCall) → current_from lines r [] cs ≡ current_from lines r [] (cut (map (λ (x : BoardLine). x.def) lines) r cs)
  current_cut cs = cut_from cs [] [] (λ y the. refl)

-- the call at a place of a cut script is the driver's call on its line of that number
pub kth_call : (ds : List LineDef) (r : DriverNo) (line : LineNo) → takes_part ds line ≡ true
    → (cs : List ScriptCall) (p : ℕ) (c : ScriptCall) → slice_get (cut ds r cs) p ≡ Some c → c.line ≡ line
    → slice_get (calls_by r (map with_driver (filter (λ c. c.line.0 == line.0) cs))) (calls_on line r (take p (cut ds r cs))) ≡ Some c.call
kth_call ds r line part [] p c at of_line = cc
kth_call ds r line part (d ∷ cs) p c at of_line =
    by_tests (d.line.0 == line.0) refl (same_driver r d.driver) refl (takes_part ds d.line) refl p at (λ p at. kth_call ds r line part cs p c at of_line)
  where
    by_tests : (l : Bool) → (d.line.0 == line.0) ≡ l → (s : Bool) → same_driver r d.driver ≡ s → (t : Bool)
        → takes_part ds d.line ≡ t → (p : ℕ) → slice_get (cond (s && t) (d ∷ cut ds r cs) (cut ds r cs)) p ≡ Some c
        → ((p : ℕ) → slice_get (cut ds r cs) p ≡ Some c
        → slice_get (calls_by r (map with_driver (filter (λ c. c.line.0 == line.0) cs)))
        (calls_on line r (take p (cut ds r cs))) ≡ Some c.call)
        → slice_get (calls_by r (map with_driver (cond l (d ∷ filter (λ c. c.line.0 == line.0) cs)
        (filter (λ c. c.line.0 == line.0) cs)))) (calls_on line r
        (take p (cond (s && t) (d ∷ cut ds r cs) (cut ds r cs)))) ≡ Some c.call
    by_tests true is_l true is_s true is_t zero at deeper =
        ap (λ (b : Bool). slice_get (cond b (d.call ∷ calls_by r
        (map with_driver (filter (λ c. c.line.0 == line.0) cs)))
        (calls_by r (map with_driver (filter (λ c. c.line.0 == line.0) cs)))) 0) is_s
        ∙ ap (λ (x : ScriptCall). Some x.call) (the_same d c at)
    by_tests true is_l true is_s true is_t (suc p) at deeper =
        let on : is_on line r d ≡ true = ap (λ (b : Bool). b && same_driver r d.driver) is_l ∙ is_s in
        ap (λ (b : Bool). slice_get (calls_by r (map with_driver (d ∷ filter (λ c. c.line.0 == line.0) cs)))
        (cond b (calls_on line r (take p (cut ds r cs)) + 1) (calls_on line r (take p (cut ds r cs))))) on
        ∙ (ap (λ (b : Bool). slice_get (cond b (d.call
        ∷ calls_by r (map with_driver (filter (λ c. c.line.0 == line.0) cs)))
        (calls_by r (map with_driver (filter (λ c. c.line.0 == line.0) cs))))
        (calls_on line r (take p (cut ds r cs)) + 1)) is_s
        ∙ (ap (λ (n : ℕ). slice_get (d.call ∷ calls_by r (map with_driver (filter (λ c. c.line.0 == line.0) cs))) n)
        (add-one (calls_on line r (take p (cut ds r cs)))) ∙ deeper p at))
    by_tests true is_l true is_s false is_t p at deeper
        = both_ways (takes_part ds d.line) (ap (λ (l : LineNo). takes_part ds l) (line_from_same d.line line is_l)
        ∙ part) is_t
    by_tests true is_l false is_s t is_t p at deeper =
        ap (λ (b : Bool). slice_get (cond b (d.call ∷ calls_by r
        (map with_driver (filter (λ c. c.line.0 == line.0) cs)))
        (calls_by r (map with_driver (filter (λ c. c.line.0 == line.0) cs))))
        (calls_on line r (take p (cut ds r cs)))) is_s
        ∙ deeper p at
    by_tests false is_l true is_s true is_t zero at deeper =
        both_ways (d.line.0 == line.0) (ap (λ (x : ScriptCall). x.line.0 == line.0) (the_same d c at)
        ∙ (ap (λ (l : LineNo). l.0 == line.0) of_line ∙ same_self_line line)) is_l
    by_tests false is_l true is_s true is_t (suc p) at deeper =
        let off : is_on line r d ≡ false = ap (λ (b : Bool). b && same_driver r d.driver) is_l in
        ap (λ (b : Bool). slice_get (calls_by r (map with_driver (filter (λ c. c.line.0 == line.0) cs)))
        (cond b (calls_on line r (take p (cut ds r cs)) + 1) (calls_on line r (take p (cut ds r cs))))) off
        ∙ deeper p at
    by_tests false is_l true is_s false is_t p at deeper = deeper p at
    by_tests false is_l false is_s t is_t p at deeper = deeper p at
