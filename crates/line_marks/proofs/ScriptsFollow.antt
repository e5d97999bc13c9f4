-- The drivers' places follow the history, for every kind of call.
use Rattle.std.proofs.Common.{◌≡◌, ℕ, ◌<◌, Bool, true, false, Option, Some, None, List, [], ◌∷◌, ◌++◌, length, slice_get, sym, ap, subst, ◌∙◌}
use Rattle.std.proofs.Common.{option_map}
use Rattle.irq_base.specs.declared.calls.Call.{Call}
use Rattle.irq_base.specs.declared.entries.Actor.TheVariants as actors
use Rattle.irq_base.specs.declared.entries.Entry.{Entry}
use Rattle.irq_base.specs.declared.lines.LineDef.{LineDef}
use Rattle.irq_base.specs.declared.numbers.DriverNo.{DriverNo}
use Rattle.irq_model.specs.Due.{calls_by, entries_by, entries_of_call, due_call}
use Rattle.irq_model.specs.Kinds.{is_by_driver}
use Rattle.irq_model.specs.Next.{next_past, next_of_driver}
use Rattle.irq_model.proofs.DueSteps.{due_laid, laid_more, laid_done, laid_within, part_at, part_length, entries_more, entries_same}
use Rattle.irq_model.specs.Laid.{Laid, with_count}
use Rattle.line_scripts.proofs.LastEntry.{last_is}
use Rattle.line_scripts.specs.Endings.{completes}
use Rattle.line_marks.proofs.CallGoes.{Goes, GoesBy, goes_by}
use Rattle.line_marks.specs.Scripts.{IsAt, place_after, within_after}

pub found : (o : Option Call) (k : ℕ) (c : Call) (n : ℕ) → with_count o k ≡ Some (c, n) → (o ≡ Some c) × (k ≡ n)
found None k c n h = cc
found (Some x) k c n h =
    let first : Option (Call × ℕ) → Option Call = option_map (λ y. y.0) in
    let second : Option (Call × ℕ) → Option ℕ = option_map (λ y. y.1) in
    let some : Some k ≡ Some n = ap second h in
    (ap first h, (let e : k ≡ n = cc in e))

goes_to : (b : Bool) (cs : List Call) (es : List Entry) (p k : ℕ) (c : Call) (e : Entry) → Laid cs es p k
    → slice_get cs p ≡ Some c → Goes b c (part_at cs es p) e k
    → Laid cs (es ++ e ∷ []) (place_after b p) (within_after b k)
goes_to true cs es p k c e h at g = laid_done cs es p k c e h at g
goes_to false cs es p k c e h at g = laid_more cs es p k c e h at g

-- the driver whose entry it is
pub own_place : (def : LineDef) (past : List Entry) (e : Entry) (w : DriverNo) (p k : ℕ) (c : Call) (n : ℕ)
    → next_past def past (actors.Driver w) ≡ Some e → is_by_driver w e ≡ true → due_call def w past ≡ Some (c, n)
    → IsAt def past w p k
    → IsAt def (e ∷ past) w (place_after (completes c e) p) (within_after (completes c e) k)
own_place def past e w p k c n due by call at =
    let cs = calls_by w def.calls in
    let es = entries_by w past in
    let here = found (slice_get cs p) k c n (sym (due_laid cs es p k at) ∙ call) in
    let len : length (part_at cs es p) ≡ k = part_length cs es p k c at here.0 in
    let within : k < entries_of_call c (part_at cs es p) = laid_within cs es p k c at here.0 in
    let last = last_is def w past c n e (ap (next_of_driver def w past) (sym call) ∙ due) in
    let goes : GoesBy c k e = subst (λ m. GoesBy c m e) (sym here.1) (goes_by c n e last) in
    subst (λ (xs : List Entry). Laid cs xs (place_after (completes c e) p) (within_after (completes c e) k)) (sym (entries_more w e past by))
    (goes_to (completes c e) cs es p k c e at here.0 (goes (part_at cs es p) len within))

-- any other
pub other_place : (def : LineDef) (past : List Entry) (e : Entry) (r : DriverNo) (p k : ℕ) → is_by_driver r e ≡ false
    → IsAt def past r p k → IsAt def (e ∷ past) r p k
other_place def past e r p k by at = subst (λ (xs : List Entry). Laid (calls_by r def.calls) xs p k) (sym (entries_same r e past by)) at
