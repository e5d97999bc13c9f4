-- Draws, and lists that grow by one.
use Rattle.std.proofs.Common.{◌≡◌, ℕ, zero, suc, ◌+◌, List, [], ◌∷◌, ◌++◌, length, refl, ap, ◌∙◌, arith, false}
use Rattle.std.proofs.lemmas.List.FromFn.{map-range_with_len_more, length-map-range_with_len}
use Rattle.irq_base.specs.declared.devices.DeviceDef.{DeviceDef}
use Rattle.irq_base.specs.declared.devices.Kind.{Kind}
use Rattle.board_gen.specs.Drawing.{next_x, x_after, draw}
use Rattle.board_gen.specs.Generated.{numbered}
use Rattle.board_gen.specs.Plans.{kind_of, kinds_drawn}

-- one draw more
pub x_more : (n x : ℕ) → x_after (n + 1) x ≡ next_x (x_after n x)
x_more n x = let e : n + 1 ≡ suc n = omega arith in ap (λ m. x_after m x) e

-- draws that follow others
pub x_on : (m n x : ℕ) → x_after m (x_after n x) ≡ x_after (m + n) x
x_on zero n x = ap (λ k. x_after k x) (omega arith)
x_on (suc m) n x = let e : suc (m + n) ≡ suc m + n = omega arith in ap next_x (x_on m n x) ∙ ap (λ k. x_after k x) e

-- one kind more
pub kinds_more : (n x : ℕ) → kinds_drawn (n + 1) x ≡ kinds_drawn n x ++ kind_of (draw (n + 1) 3 x) ∷ []
kinds_more n x = map-range_with_len_more (λ k. kind_of (draw k 3 x)) 1 n (n + 1) (omega arith)

pub kinds_length : (n x : ℕ) → length (kinds_drawn n x) ≡ n
kinds_length n x = length-map-range_with_len (λ k. kind_of (draw k 3 x)) 1 n

-- one device more
pub numbered_more : (line first : ℕ) (kinds : List Kind) (kind : Kind)
    → numbered line first (kinds ++ kind ∷ []) ≡ numbered line first kinds
    ++ record { dev = record { 0 = first + length kinds }; line = record { 0 = line }; kind = kind; held = false; forgets = false } ∷ []
numbered_more line first [] kind =
    let named : ℕ → List DeviceDef = λ n. record { dev = record { 0 = n }; line = record { 0 = line }; kind = kind; held = false; forgets = false } ∷ [] in
    ap named (omega arith)
numbered_more line first (k ∷ ks) kind =
    let named : ℕ → List DeviceDef = λ n. numbered line (first + 1) ks
    ++ record { dev = record { 0 = n }; line = record { 0 = line }; kind = kind; held = false; forgets = false }
    ∷ [] in
    let e : first + 1 + length ks ≡ first + length (k ∷ ks) = omega arith in
    ap (λ devices. record {
      dev = record { 0 = first };
      line = record { 0 = line };
      kind = k;
      held = false;
      forgets = false;
    } ∷ devices) (numbered_more line (first + 1) ks kind ∙ ap named e)

pub numbered_length : (line first : ℕ) (kinds : List Kind) → length (numbered line first kinds) ≡ length kinds
numbered_length line first [] = refl
numbered_length line first (k ∷ ks) = ap (λ n. suc n) (numbered_length line (first + 1) ks)
