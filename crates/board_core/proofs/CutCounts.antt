-- A driver's calls, cut to the lines that take part, counted line by line.
use Rattle.std.proofs.Common.{◌≡◌, ℕ, zero, suc, ◌+◌, ◌≤◌, Bool, true, false, ◌&&◌, ◌||◌, cond, is_some, IsSomeAnd}
use Rattle.std.proofs.Common.{Option, Some, None, List, [], ◌∷◌, map, length, take, slice_get, refl, sym, ap, ◌∙◌}
use Rattle.std.proofs.Common.{subst, arith}
use Rattle.std.specs.List.{sum_by}
use Rattle.std.proofs.lemmas.Bool.{and_parts, false_from_ne_true}
use Rattle.std.proofs.lemmas.List.Sums.{sum_by-cons}
use Rattle.irq_base.specs.declared.calls.Call.{Call}
use Rattle.irq_base.specs.declared.lines.LineDef.{LineDef}
use Rattle.irq_base.specs.declared.numbers.DriverNo.{DriverNo}
use Rattle.irq_base.specs.declared.numbers.LineNo.{LineNo}
use Rattle.irq_model.specs.Due.{due_call}
use Rattle.irq_model.specs.Kinds.{same_line, same_driver}
use Rattle.irq_model.proofs.Same.{line_from_same, same_self_driver}
use Rattle.irq_laws.proofs.Chosen.{the_same}
use Rattle.irq_laws.proofs.Lists.{both_ways}
use Rattle.board_def.specs.declared.rows.ScriptCall.{ScriptCall}
use Rattle.board_play.specs.Current.{calls_on}
use Rattle.board_play.specs.Kept.{IsCallOn, IsUpTo}
use Rattle.board_play.specs.Lines.{BoardLine}
use Rattle.board_play.proofs.Members.{AreApart, def_there, find_there}
use Rattle.board_play.proofs.Script.{is_on}
use Rattle.board_core.specs.Placing.{completed_on}
use Rattle.board_core.specs.Scripts.{takes_part, cut}
use Rattle.board_core.proofs.CutLaws.{part_found}

-- ---- sums over lines

pub sum_same : (f g : BoardLine → ℕ) (lines : List BoardLine)
    → ((i : ℕ) (x : BoardLine) → slice_get lines i ≡ Some x → f x ≡ g x) → sum_by f lines ≡ sum_by g lines
sum_same f g [] same = refl
sum_same f g (x ∷ xs) same =
    let a = sum_by-cons f x xs in
    let b = sum_by-cons g x xs in
    let c = same zero x refl in
    let d = sum_same f g xs (λ i y at. same (suc i) y at) in
    omega (arith, a, b, c, d)

sum_both : (f g h : BoardLine → ℕ) (lines : List BoardLine) → ((x : BoardLine) → f x ≡ g x + h x) → sum_by f lines ≡ sum_by g lines + sum_by h lines
sum_both f g h [] both = omega arith
sum_both f g h (x ∷ xs) both =
    let a = sum_by-cons f x xs in
    let b = sum_by-cons g x xs in
    let c = sum_by-cons h x xs in
    let d = both x in
    let e = sum_both f g h xs both in
    omega (arith, a, b, c, d, e)

sum_none : (lines : List BoardLine) → sum_by (λ (x : BoardLine). 0) lines ≡ 0
sum_none [] = refl
sum_none (x ∷ xs) = let a = sum_by-cons (λ (x : BoardLine). 0) x xs in let b = sum_none xs in omega (arith, a, b)

-- one for the line of that number
abbrev one_at : LineNo → BoardLine → ℕ
one_at line x = cond (same_line line x.def.line) 1 0

one_line : (lines : List BoardLine) → AreApart (map (λ (x : BoardLine). x.def) lines) → (line : LineNo)
    → takes_part (map (λ (x : BoardLine). x.def) lines) line ≡ true → sum_by (one_at line) lines ≡ 1
one_line [] apart line part = cc
one_line (y ∷ ys) apart line part = by_test (same_line line y.def.line) refl (λ h. one_line ys apart.1 line h)
  where
    others : same_line line y.def.line ≡ true → (i : ℕ) (z : BoardLine) → slice_get ys i ≡ Some z → one_at line z ≡ 0
    others same i z at =
        ap (λ (b : Bool). cond {A = ℕ} b 1 0)
        (false_from_ne_true (same_line line z.def.line)
        (λ h. both_ways (same_line z.def.line y.def.line)
        (ap (λ (l : LineNo). same_line l y.def.line) (sym (line_from_same line z.def.line h)) ∙ same)
        (apart.0 i z.def (def_there ys i z at))))

    by_test : (b : Bool) → same_line line y.def.line ≡ b
        → (takes_part (map (λ (x : BoardLine). x.def) ys) line ≡ true → sum_by (one_at line) ys ≡ 1)
        → sum_by (one_at line) (y ∷ ys) ≡ 1
    by_test true same deeper =
        let a = sum_by-cons (one_at line) y ys in
        let b : one_at line y ≡ 1 = ap (λ (b : Bool). cond {A = ℕ} b 1 0) same in
        let c = sum_same (one_at line) (λ (x : BoardLine). 0) ys (others same) in
        let d = sum_none ys in
        omega (arith, a, b, c, d)
    by_test false other deeper =
        let a = sum_by-cons (one_at line) y ys in
        let b : one_at line y ≡ 0 = ap (λ (b : Bool). cond {A = ℕ} b 1 0) other in
        let c = deeper (ap (λ (b : Bool). b || takes_part (map (λ (x : BoardLine). x.def) ys) line) (sym other) ∙ part) in
        omega (arith, a, b, c)

-- ---- the calls before a place

module _ (ds : List LineDef) (r : DriverNo) where
  -- how many of the first p calls are kept
  abbrev pub kept : ℕ → List ScriptCall → ℕ
  kept p cs = length (cut ds r (take p cs))

  pub take_cut : (cs : List ScriptCall) (p : ℕ) → take (kept p cs) (cut ds r cs) ≡ cut ds r (take p cs)
  take_cut cs zero = refl
  take_cut [] (suc p) = refl
  take_cut (c ∷ cs) (suc p) = by_test (same_driver r c.driver && takes_part ds c.line) (take_cut cs p)
    where
      by_test : (b : Bool) → take (kept p cs) (cut ds r cs) ≡ cut ds r (take p cs)
          → take (length (cond b (c ∷ cut ds r (take p cs)) (cut ds r (take p cs))))
          (cond b (c ∷ cut ds r cs) (cut ds r cs)) ≡ cond b (c ∷ cut ds r (take p cs)) (cut ds r (take p cs))
      by_test true deeper = ap (λ (zs : List ScriptCall). c ∷ zs) deeper
      by_test false deeper = deeper

  pub kept_few : (cs : List ScriptCall) (p : ℕ) → kept p cs ≤ length (cut ds r cs)
  kept_few cs zero = omega arith
  kept_few [] (suc p) = omega arith
  kept_few (c ∷ cs) (suc p) = by_test (same_driver r c.driver && takes_part ds c.line) (kept_few cs p)
    where
      by_test : (b : Bool) → kept p cs ≤ length (cut ds r cs)
          → length (cond b (c ∷ cut ds r (take p cs)) (cut ds r (take p cs))) ≤ length
          (cond b (c ∷ cut ds r cs) (cut ds r cs))
      by_test true deeper = omega (arith, deeper)
      by_test false deeper = deeper

  -- the call at place p stands behind the kept ones before it
  pub at_cut : (cs : List ScriptCall) (p : ℕ) (d : ScriptCall) → slice_get cs p ≡ Some d
      → (same_driver r d.driver && takes_part ds d.line) ≡ true → slice_get (cut ds r cs) (kept p cs) ≡ Some d
  at_cut [] p d at test = cc
  at_cut (c ∷ cs) zero d at test =
      let same : c ≡ d = the_same c d at in
      ap (λ (b : Bool). slice_get (cond b (c ∷ cut ds r cs) (cut ds r cs)) 0)
      (ap (λ (x : ScriptCall). same_driver r x.driver && takes_part ds x.line) same ∙ test)
      ∙ ap (λ (x : ScriptCall). Some x) same
  at_cut (c ∷ cs) (suc p) d at test = by_test (same_driver r c.driver && takes_part ds c.line) (at_cut cs p d at test)
    where
      by_test : (b : Bool) → slice_get (cut ds r cs) (kept p cs) ≡ Some d
          → slice_get (cond b (c ∷ cut ds r cs) (cut ds r cs))
          (length (cond b (c ∷ cut ds r (take p cs)) (cut ds r (take p cs)))) ≡ Some d
      by_test true deeper = deeper
      by_test false deeper = deeper

  -- the cut script has as many calls on each line that takes part
  pub same_on : (line : LineNo) → takes_part ds line ≡ true → (cs : List ScriptCall) → calls_on line r (cut ds r cs) ≡ calls_on line r cs
  same_on line part [] = refl
  same_on line part (c ∷ cs) = by_on (is_on line r c) refl (same_on line part cs)
    where
      by_test : (b : Bool) → is_on line r c ≡ false → calls_on line r (cut ds r cs) ≡ calls_on line r cs
          → calls_on line r (cond b (c ∷ cut ds r cs) (cut ds r cs)) ≡ calls_on line r cs
      by_test true off deeper = ap (λ (b : Bool). cond b (calls_on line r (cut ds r cs) + 1) (calls_on line r (cut ds r cs))) off ∙ deeper
      by_test false off deeper = deeper

      by_on : (b : Bool) → is_on line r c ≡ b → calls_on line r (cut ds r cs) ≡ calls_on line r cs
          → calls_on line r (cut ds r (c ∷ cs)) ≡ cond b (calls_on line r cs + 1) (calls_on line r cs)
      by_on true on deeper =
          let both = and_parts (same_line c.line line) (same_driver r c.driver) on in
          let here : takes_part ds c.line ≡ true = ap (λ (l : LineNo). takes_part ds l) (line_from_same c.line line both.0) ∙ part in
          let kept_here : (same_driver r c.driver && takes_part ds c.line) ≡ true = ap (λ (b : Bool). b && takes_part ds c.line) both.1 ∙ here in
          ap (λ (b : Bool). calls_on line r (cond b (c ∷ cut ds r cs) (cut ds r cs))) kept_here
          ∙ (ap (λ (b : Bool). cond b (calls_on line r (cut ds r cs) + 1) (calls_on line r (cut ds r cs))) on ∙ ap (λ (n : ℕ). n + 1) deeper)
      by_on false off deeper = by_test (same_driver r c.driver && takes_part ds c.line) off deeper

-- ---- on all lines together

module _ (lines : List BoardLine) (apart : AreApart (map (λ (x : BoardLine). x.def) lines)) (r : DriverNo) where
  abbrev defs : List LineDef
  defs = map (λ (x : BoardLine). x.def) lines

  part_of : (i : ℕ) (x : BoardLine) → slice_get lines i ≡ Some x → takes_part defs x.def.line ≡ true
  part_of i x at = part_found lines x.def.line ∙ ap (λ (o : Option BoardLine). is_some o) (find_there lines apart i x at)

  -- each of the calls is on one line
  on_all : (cs : List ScriptCall) → sum_by (λ (x : BoardLine). calls_on x.def.line r (cut defs r cs)) lines ≡ length (cut defs r cs)
  on_all [] = sum_none lines
  on_all (c ∷ cs) = by_test (same_driver r c.driver && takes_part defs c.line) refl (on_all cs)
    where
      by_test : (b : Bool) → (same_driver r c.driver && takes_part defs c.line) ≡ b
          → sum_by (λ (x : BoardLine). calls_on x.def.line r (cut defs r cs)) lines ≡ length (cut defs r cs)
          → sum_by (λ (x : BoardLine). calls_on x.def.line r (cond b (c ∷ cut defs r cs) (cut defs r cs))) lines
          ≡ length (cond b (c ∷ cut defs r cs) (cut defs r cs))
      by_test false test deeper = deeper
      by_test true test deeper =
          let parts = and_parts (same_driver r c.driver) (takes_part defs c.line) test in
          let one = one_line lines apart c.line parts.1 in
          let all = sum_both (λ (x : BoardLine). calls_on x.def.line r (c ∷ cut defs r cs))
          (λ (x : BoardLine). calls_on x.def.line r (cut defs r cs)) (one_at c.line) lines (λ x. one_more x parts.0)
          in
          omega (arith, one, all, deeper)
        where
          by_line : (b : Bool) (n : ℕ) → cond b (n + 1) n ≡ n + cond b 1 0
          by_line true n = refl
          by_line false n = omega arith

          and_true : (a b : Bool) → b ≡ true → (a && b) ≡ a
          and_true true b h = h
          and_true false b h = refl

          one_more : (x : BoardLine) → same_driver r c.driver ≡ true
              → calls_on x.def.line r (c ∷ cut defs r cs) ≡ calls_on x.def.line r (cut defs r cs) + one_at c.line x
          one_more x mine =
              ap (λ (b : Bool). cond b (calls_on x.def.line r (cut defs r cs) + 1)
              (calls_on x.def.line r (cut defs r cs)))
              (and_true (same_line c.line x.def.line) (same_driver r c.driver) mine)
              ∙ by_line (same_line c.line x.def.line) (calls_on x.def.line r (cut defs r cs))

  module _ (calls : List ScriptCall) (p : ℕ) (u : IsUpTo calls lines r p) where
    -- the complete calls on all lines are the calls of the cut script before its place
    pub complete_all : sum_by (completed_on r) lines ≡ kept defs r p calls
    complete_all =
        sum_same (completed_on r) (λ (x : BoardLine). calls_on x.def.line r (cut defs r (take p calls))) lines
        (λ i x at. u.complete i x at ∙ sym (same_on defs r x.def.line (part_of i x at) (take p calls)))
        ∙ on_all (take p calls)

    -- the cut script has the same place
    pub cut_up_to : IsUpTo (cut defs r calls) lines r (kept defs r p calls)
    cut_up_to = record { complete = complete; begun = begun }
      where
        complete : (i : ℕ) (x : BoardLine) → slice_get lines i ≡ Some x
            → completed_on r x ≡ calls_on x.def.line r (take (kept defs r p calls) (cut defs r calls))
        complete i x at =
            u.complete i x at ∙ sym (ap (λ (cs : List ScriptCall). calls_on x.def.line r cs) (take_cut defs r calls p)
            ∙ same_on defs r x.def.line (part_of i x at) (take p calls))

        begun : (i : ℕ) (x : BoardLine) (c : Call) (n : ℕ) → slice_get lines i ≡ Some x
            → due_call x.def r x.past ≡ Some (c, suc n)
            → IsSomeAnd (slice_get (cut defs r calls) (kept defs r p calls)) (IsCallOn x.def.line r)
        begun i x c n at due = by_call (slice_get calls p) refl (u.begun i x c n at due)
          where
            by_call : (o : Option ScriptCall) → slice_get calls p ≡ o → IsSomeAnd o (IsCallOn x.def.line r)
                → IsSomeAnd (slice_get (cut defs r calls) (kept defs r p calls)) (IsCallOn x.def.line r)
            by_call None there on = absurd on
            by_call (Some d) there on =
                let part : takes_part defs d.line ≡ true = ap (λ (l : LineNo). takes_part defs l) on.0 ∙ part_of i x at in
                let mine : same_driver r d.driver ≡ true = ap (λ (s : DriverNo). same_driver r s) on.1 ∙ same_self_driver r in
                subst (λ (o : Option ScriptCall). IsSomeAnd o (IsCallOn x.def.line r))
                (sym (at_cut defs r calls p d there (ap (λ (b : Bool). b && takes_part defs d.line) mine ∙ part)))
                on
