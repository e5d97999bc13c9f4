-- What is read off the actions doesn't read their thread bits.
use Rattle.std.proofs.Common.{◌≡◌, suc, Bool, true, false, not, ◌&&◌, ◌||◌, cond, ltb, Option, Some, List, [], ◌∷◌, ◌++◌, length, refl, sym, ap, ◌∙◌}
use Rattle.std.specs.Map.{remove_entry}
use Rattle.irq_base.specs.declared.calls.Flags.{Flags}
use Rattle.irq_base.specs.declared.devices.Kind.{Kind}
use Rattle.irq_base.specs.declared.numbers.DevNo.{DevNo}
use Rattle.irq_base.specs.declared.entries.LinkAnswer.{LinkAnswer}
use Rattle.irq_base.specs.declared.entries.LinkAnswer.TheVariants as links
use Rattle.irq_base.specs.declared.entries.UnlinkAnswer.TheVariants as unlinks
use Rattle.irq_base.specs.declared.entries.Errno.TheVariants as errors
use Rattle.irq_model.specs.Kinds.{same_dev}
use Rattle.irq_model.specs.Next.{flags_differ, is_null}
use Rattle.act_list.specs.Actions.{has, is_bare, is_mismatch, answer_by, is_only_action}
use Rattle.act_list.specs.Lists.{flags_of, begun_at, first_left, unlink_by}
use Rattle.act_list.specs.declared.actions.Action.{Action}
use Rattle.line_futures.specs.Canon.{without_bits}

abbrev pub Actions : Type 0
Actions = List (DevNo × Action)

abbrev pub bare : Actions → Actions
bare t = without_bits (flags_of t)

pub flags_same : (t : Actions) → flags_of (bare t) ≡ flags_of t
flags_same [] = refl
flags_same (e ∷ es) = ap (λ (x : List (DevNo × Flags)). (e.0, e.1.flags) ∷ x) (flags_same es)

pub none_same : (t : Actions) → is_bare (bare t) ≡ is_bare t
none_same [] = refl
none_same (e ∷ es) = refl

pub has_same : (d : DevNo) (t : Actions) → has d (bare t) ≡ has d t
has_same d [] = refl
has_same d (e ∷ es) = ap (λ b. cond (same_dev d e.0) true b) (has_same d es)

length_same : (t : Actions) → length (bare t) ≡ length t
length_same [] = refl
length_same (e ∷ es) = ap suc (length_same es)

mismatch_same : (f : Flags) (t : Actions) → is_mismatch f (bare t) ≡ is_mismatch f t
mismatch_same f [] = refl
mismatch_same f (e ∷ es) = ap (λ b. flags_differ f e.1.flags || b) (mismatch_same f es)

only_same : (d : DevNo) (t : Actions) → is_only_action d (bare t) ≡ is_only_action d t
only_same d [] = refl
only_same d (e ∷ es) = ap (λ b. same_dev d e.0 && b) (none_same es)

pub left_same : (b : List (DevNo × Bool)) (t : Actions) → first_left b (bare t) ≡ first_left b t
left_same b [] = refl
left_same b (e ∷ es) = ap (λ (o : Option DevNo). cond (begun_at b e.0) o (Some e.0)) (left_same b es)

pub answer_same : (k : Kind) (f : Flags) (t : Actions) → answer_by k f (bare t) ≡ answer_by k f t
answer_same k f t =
    let by : Bool → Bool → LinkAnswer = λ (m many : Bool).
    cond (f.shared && f.noauto) (links.Refused errors.Inval)
    (cond m (links.Refused errors.Busy)
    (cond (f.oneshot && many) (links.Refused errors.Busy)
    (cond (is_null k && not f.oneshot) (links.Refused errors.Inval) links.Linked))) in
    ap (λ m. by m (not (ltb (length (bare t)) 64))) (mismatch_same f t)
    ∙ ap (λ n. by (is_mismatch f t) (not (ltb n 64))) (length_same t)

pub unlink_same : (d : DevNo) (t : Actions) → unlink_by d (bare t) ≡ unlink_by d t
unlink_same d t =
    ap (λ b. cond b (unlinks.Unlinked (is_only_action d (bare t))) unlinks.NotThere) (has_same d t)
    ∙ ap (λ b. cond (has d t) (unlinks.Unlinked b) unlinks.NotThere) (only_same d t)

flags_last : (t : Actions) (d : DevNo) (a : Action) → flags_of (t ++ (d, a) ∷ []) ≡ flags_of t ++ (d, a.flags) ∷ []
flags_last [] d a = refl
flags_last (e ∷ es) d a = ap (λ (x : List (DevNo × Flags)). (e.0, e.1.flags) ∷ x) (flags_last es d a)

-- one more action
pub more_same : (t : Actions) (d : DevNo) (a b : Action) → a.flags ≡ b.flags → bare (bare t ++ (d, a) ∷ []) ≡ bare (t ++ (d, b) ∷ [])
more_same t d a b h =
    ap without_bits (flags_last (bare t) d a
    ∙ (ap (λ (x : List (DevNo × Flags)). x ++ (d, a.flags) ∷ []) (flags_same t)
    ∙ (ap (λ (f : Flags). flags_of t ++ (d, f) ∷ []) h ∙ sym (flags_last t d b))))

flags_less : (d : DevNo) (t : Actions) → flags_of (remove_entry (same_dev d) (bare t)) ≡ flags_of (remove_entry (same_dev d) t)
flags_less d [] = refl
flags_less d (e ∷ es) = by_test (same_dev d e.0) (flags_less d es)
  where
    by_test : (b : Bool) → flags_of (remove_entry (same_dev d) (bare es)) ≡ flags_of (remove_entry (same_dev d) es)
        → flags_of (cond b (bare es) ((e.0, record { flags = e.1.flags; bit = 0 })
        ∷ remove_entry (same_dev d) (bare es))) ≡ flags_of (cond b es (e ∷ remove_entry (same_dev d) es))
    by_test true rest = flags_same es
    by_test false rest = ap (λ (x : List (DevNo × Flags)). (e.0, e.1.flags) ∷ x) rest

-- one action less
pub less_same : (d : DevNo) (t : Actions) → bare (remove_entry (same_dev d) (bare t)) ≡ bare (remove_entry (same_dev d) t)
less_same d t = ap without_bits (flags_less d t)
