-- One row after another.
use Rattle.std.proofs.Common.{◌≡◌, ℕ, All, Option, Some, List, [], ◌∷◌, ◌++◌, drop, slice_get, refl, sym, ap, subst, ◌∙◌, append_assoc, Ok, Err}
use Rattle.std.specs.List.{flat_map}
use Rattle.std.proofs.lemmas.List.{append-nil}
use Rattle.std.proofs.lemmas.List.Elements.{All-head}
use Rattle.irq_io.specs.Whole.{WritesAll}
use Rattle.irq_io.specs.declared.whole.WriteFailed.{WriteFailed}
use Rattle.irq_laws.proofs.Chosen.{the_same}
use Rattle.board_report.proofs.Writing.{nothing, and_then, failed_within}

-- what was written is all of the text but for what is left
pub record IsPrinting (before now : Option (List ℕ)) (all left : List ℕ) : Type 0 where
  pub done : List ℕ
  pub written : WritesAll before now done (Ok tt)
  pub rest : done ++ left ≡ all

pub none_printed : (told : Option (List ℕ)) (all : List ℕ) → IsPrinting told told all all
none_printed told all = record { done = []; written = nothing told; rest = refl }

module _ (before now after : Option (List ℕ)) (all left row rest : List ℕ) (is : left ≡ row ++ rest) (p : IsPrinting before now all left) where
  with_row : (p.done ++ row) ++ rest ≡ all
  with_row = append_assoc p.done row rest ∙ (ap (λ (xs : List ℕ). p.done ++ xs) (sym is) ∙ p.rest)

  pub row_printed : WritesAll now after row (Ok tt) → IsPrinting before after all rest
  row_printed w = record { done = p.done ++ row; written = and_then before now after p.done row (Ok tt) p.written w; rest = with_row }

  pub row_failed : (failed : WriteFailed) → WritesAll now after row (Err failed) → WritesAll before after all (Err failed)
  row_failed failed w =
      subst (λ (text : List ℕ). WritesAll before after text (Err failed)) with_row
      (failed_within before after (p.done ++ row) rest failed (and_then before now after p.done row (Err failed) p.written w))

pub all_printed : (before now : Option (List ℕ)) (all left : List ℕ) → left ≡ [] → IsPrinting before now all left → WritesAll before now all (Ok tt)
all_printed before now all left none p =
    subst (λ (text : List ℕ). WritesAll before now text (Ok tt))
    (sym (append-nil p.done) ∙ (ap (λ (xs : List ℕ). p.done ++ xs) (sym none) ∙ p.rest)) p.written

-- the row of the first step, and the text of those after it
pub first_text : {E : Type 0} (f : E → List ℕ) (left after : List E) (e : E) (row : List ℕ) → slice_get left 0 ≡ Some e → after ≡ drop 1 left
    → row ≡ f e → flat_map f left ≡ row ++ flat_map f after
first_text f [] after e row at rest is = cc
first_text f (x ∷ xs) after e row at rest is =
    ap (λ y. f y ++ flat_map f xs) (the_same x e at) ∙ (ap (λ r. r ++ flat_map f xs) (sym is) ∙ ap (λ ys. row ++ flat_map f ys) (sym rest))

-- the first of items that have rows has one
pub first_has : {E : Type 0} (P : E → Type 0) (left : List E) (e : E) → All P left → slice_get left 0 ≡ Some e → P e
first_has P [] e all at = cc
first_has P (x ∷ xs) e all at = subst P (the_same x e at) (All-head P x xs all)
