-- The row of the driver that stands first.
use Rattle.std.proofs.Common.{◌≡◌, ℕ, ◌+◌, true, cond, not, nat_lt, Option, Some, None, unwrap_or, List, [], ◌∷◌, slice_get, position, length, sym, ap}
use Rattle.std.proofs.Common.{◌∙◌, eqb, eq-eqb, eqb-true, lt-ltb, arith}
use Rattle.std.specs.List.{position_or_len}
use Rattle.std.specs.Map.{keys_of, lookup}
use Rattle.irq_base.specs.declared.numbers.DriverNo.{DriverNo}
use Rattle.irq_model.specs.Kinds.{same_driver}
use Rattle.line_scripts.specs.Rows.{RowSeen, row_of, unbegun}

is_first : (e : DriverNo × RowSeen) (k who : DriverNo) (x : RowSeen) → (k, x) ≡ e → eqb k.0 who.0 ≡ true → same_driver who e.0 ≡ true
is_first e k who x here same =
    ap (λ (d : DriverNo × RowSeen). same_driver who d.0) (sym here)
    ∙ eq-eqb who.0 k.0 (sym (eqb-true k.0 who.0 same))

pub first_row : (s : List (DriverNo × RowSeen)) (k who : DriverNo) (x : RowSeen) → Some (k, x) ≡ slice_get s 0 → eqb k.0 who.0 ≡ true
    → row_of s who ≡ x
first_row [] k who x found same = cc
first_row (e ∷ es) k who x found same =
    let here : (k, x) ≡ e = cc in
    ap (λ b. unwrap_or (cond b (Some e.1) (lookup (same_driver who) es)) (unbegun [])) (is_first e k who x here same)
    ∙ ap (λ (d : DriverNo × RowSeen). d.1) (sym here)

-- its driver has the first place
pub first_place : (s : List (DriverNo × RowSeen)) (k who : DriverNo) (x : RowSeen) → Some (k, x) ≡ slice_get s 0 → eqb k.0 who.0 ≡ true
    → Some 0 ≡ position (same_driver who) (keys_of s)
first_place [] k who x found same = cc
first_place (e ∷ es) k who x found same =
    let here : (k, x) ≡ e = cc in
    sym (ap (λ b. place_by (cond (not b) (1 + position_or_len (same_driver who) (keys_of es)) 0)) (is_first e k who x here same)
    ∙ ap (λ b. cond b (Some 0) None) (lt-ltb 0 (length (keys_of (e ∷ es))) (omega arith)))
  where
    place_by : ℕ → Option ℕ
    place_by n = cond (nat_lt n (length (keys_of (e ∷ es)))) (Some n) None
