-- One more line that is shared.
use Rattle.std.proofs.Common.{◌≡◌, ℕ, inl, inr, false, IsSomeAnd, Option, Some, None, List, [], ◌∷◌, ◌++◌, map, length}
use Rattle.std.proofs.Common.{slice_get, refl, sym, ap, ◌∙◌, subst, arith}
use Rattle.irq_base.specs.declared.lines.FlowKind.{FlowKind}
use Rattle.irq_base.specs.declared.lines.LineDef.{LineDef}
use Rattle.irq_base.specs.declared.numbers.LineNo.{LineNo}
use Rattle.irq_line.specs.Seen.{LineSeen}
use Rattle.line_lock.specs.Knows.{nothing_known}
use Rattle.line_lock.specs.Passes.{LockSeen, PassSeen, IsPassOf}
use Rattle.line_lock.specs.declared.view.Known.{Known}
use Rattle.workers.specs.Fit.{numbers_of, flows_of, actors_on, IsFirst, AreFirsts}
use Rattle.workers.specs.Grown.{HaveSeenNothing}
use Rattle.workers.proofs.Lists.{at_snoc, at_old, at_end, length_snoc}
use Rattle.workers.proofs.Manning.{map_more}

-- the lines so far are shared, and each has its first pass
pub record AreShared (done : List LineSeen) (lines : List LockSeen) (numbers : List LineNo) (flows : List FlowKind) (firsts : List PassSeen) : Type 0 where
  pub defs : map (λ (l : LockSeen). l.def) lines ≡ map (λ (x : LineSeen). x.def) done
  pub numbered : numbers ≡ numbers_of lines
  pub flowing : flows ≡ flows_of lines
  pub each : AreFirsts lines [] firsts
  pub new : HaveSeenNothing firsts

pub none_shared : AreShared [] [] [] [] []
none_shared = record { defs = refl; numbered = refl; flowing = refl; each = record { as_many = refl; each = λ k p at. cc }; new = λ k p at. cc }

pub one_shared : (done : List LineSeen) (lines : List LockSeen) (numbers : List LineNo) (flows : List FlowKind)
    (firsts : List PassSeen) (x : LineSeen) (l : LockSeen) (n : LineNo) (w : FlowKind) (p : PassSeen)
    → AreShared done lines numbers flows firsts → l.def ≡ x.def → n ≡ x.def.line → w ≡ x.def.flow
    → IsPassOf l p → p.knows ≡ nothing_known → p.turn ≡ false
    → AreShared (done ++ x ∷ []) (lines ++ l ∷ []) (numbers ++ n ∷ []) (flows ++ w ∷ []) (firsts ++ p ∷ [])
one_shared done lines numbers flows firsts x l n w p s def number flow of_line knows idle =
    record {
      defs = map_more (λ (l : LockSeen). l.def) lines l
          ∙ (ap (λ (ds : List LineDef). ds ++ l.def ∷ []) s.defs
          ∙ (ap (λ (d : LineDef). map (λ (x : LineSeen). x.def) done ++ d ∷ []) def
          ∙ sym (map_more (λ (x : LineSeen). x.def) done x)));
      numbered = ap (λ (ns : List LineNo). ns ++ n ∷ []) s.numbered
          ∙ (ap (λ (m : LineNo). numbers_of lines ++ m ∷ []) (number ∙ ap (λ (d : LineDef). d.line) (sym def))
          ∙ sym (map_more (λ (l : LockSeen). l.def.line) lines l));
      flowing = ap (λ (ns : List FlowKind). ns ++ w ∷ []) s.flowing
          ∙ (ap (λ (m : FlowKind). flows_of lines ++ m ∷ []) (flow ∙ ap (λ (d : LineDef). d.flow) (sym def))
          ∙ sym (map_more (λ (l : LockSeen). l.def.flow) lines l));
      each = record {
        as_many = let a = s.each.as_many in let b = length_snoc firsts p in let c = length_snoc lines l in omega (arith, a, b, c);
        each = each;
      };
      new = new;
    }
  where
    is_first : IsFirst l (actors_on (length firsts) []) p
    is_first = record {
      of_line = of_line;
      idle = idle;
      actor = ap (λ (k : Known). k.actor) knows;
      nothing = ap (λ (k : Known). k.seen) knows;
      given
          = ap (λ (k : Known). k.given) knows;
      out = ap (λ (k : Known). k.out) knows;
    }

    old_line : (k : ℕ) (q : PassSeen) (o : Option LockSeen) → slice_get lines k ≡ o
        → IsSomeAnd o (λ l. IsFirst l (actors_on k []) q)
        → IsSomeAnd (slice_get (lines ++ l ∷ []) k) (λ l. IsFirst l (actors_on k []) q)
    old_line k q None at is = absurd is
    old_line k q (Some y) at is = subst (λ (o : Option LockSeen). IsSomeAnd o (λ l. IsFirst l (actors_on k []) q)) (sym (at_old lines (l ∷ []) k y at)) is

    each : (k : ℕ) (q : PassSeen) → slice_get (firsts ++ p ∷ []) k ≡ Some q → IsSomeAnd (slice_get (lines ++ l ∷ []) k) (λ l. IsFirst l (actors_on k []) q)
    each k q at = elim (at_snoc firsts p k q at) [
      | inl before ↦ old_line k q (slice_get lines k) refl (s.each.each k q before)
      | inr now ↦
          let here : slice_get (lines ++ l ∷ []) k ≡ Some l = ap (λ (m : ℕ). slice_get (lines ++ l ∷ []) m) (now.0 ∙ s.each.as_many) ∙ at_end lines l in
          subst (λ (o : Option LockSeen). IsSomeAnd o (λ l. IsFirst l (actors_on k []) q)) (sym here) (subst (λ (r : PassSeen). IsFirst l [] r) now.1 is_first)
    ]

    new : HaveSeenNothing (firsts ++ p ∷ [])
    new k q at = elim (at_snoc firsts p k q at) [
      | inl before ↦ s.new k q before
      | inr now ↦ ap (λ (x : PassSeen). x.knows.seen) (sym now.1) ∙ ap (λ (x : Known). x.seen) knows
    ]

pub all_shared : (done all : List LineSeen) (lines : List LockSeen) (numbers : List LineNo) (flows : List FlowKind)
    (firsts : List PassSeen) → AreShared done lines numbers flows firsts → done ≡ all
    → map (λ (l : LockSeen). l.def) lines ≡ map (λ (x : LineSeen). x.def) all
all_shared done all lines numbers flows firsts s same = s.defs ∙ ap (map (λ (x : LineSeen). x.def)) same

pub shared_as : (done also : List LineSeen) (lines more : List LockSeen) (numbers nos : List LineNo)
    (flows ways : List FlowKind) (firsts ones : List PassSeen) → AreShared done lines numbers flows firsts → also ≡ done
    → more ≡ lines → nos ≡ numbers → ways ≡ flows → ones ≡ firsts → AreShared also more nos ways ones
shared_as done also lines more numbers nos flows ways firsts ones s a b c d e =
    subst (λ (x : List LineSeen). AreShared x more nos ways ones) (sym a)
    (subst (λ (x : List LockSeen). AreShared done x nos ways ones) (sym b)
    (subst (λ (x : List LineNo). AreShared done lines x ways ones) (sym c)
    (subst (λ (x : List FlowKind). AreShared done lines numbers x ones) (sym d)
    (subst (λ (x : List PassSeen). AreShared done lines numbers flows x) (sym e) s))))

pub map_same : {A : Type 0} (xs : List A) → map (λ y. y) xs ≡ xs
map_same [] = refl
map_same (x ∷ xs) = ap (λ (ys : List _). x ∷ ys) (map_same xs)
