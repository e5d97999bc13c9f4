-- Statements of calls.
use Rattle.std.proofs.Common.{◌≡◌, ℕ, Bool, true, false, not, cond, ◌&&◌, ◌||◌, codes, List, Option, Some, None, Ok, Err, refl}
use Rattle.std.specs.List.{list_any}
use Rattle.board_words.specs.Forms.{is, is_of_later, form_after, call_form}
use Rattle.board_words.specs.Keywords.{call_text, call_texts, run_call_texts}
use Rattle.board_words.specs.Places.{outcome}
use Rattle.board_words.specs.Statements.{statement_after, call_of}
use Rattle.board_words.specs.Versions.{has_moments, has_runs}
use Rattle.board_words.specs.declared.faults.FaultKind.{FaultKind}
use Rattle.board_words.specs.declared.keywords.CallWord.{CallWord}
use Rattle.board_words.specs.declared.keywords.CallWord.TheVariants as calls
use Rattle.board_words.specs.declared.statements.Statement.TheVariants as statements

pub said_call : (call : CallWord) (words : List (List ℕ)) → statement_after (call_text call) words ≡ statements.Call (call_of (call_text call) words)
said_call calls.Request words = refl
said_call calls.Free words = refl
said_call calls.Ask words = refl
said_call calls.Disable words = refl
said_call calls.DisableNosync words = refl
said_call calls.Enable words = refl
said_call calls.Sync words = refl
said_call calls.Affinity words = refl
said_call calls.Moment words = refl
said_call calls.SyncHard words = refl
said_call calls.DisableHard words = refl
said_call calls.Wake words = refl
said_call calls.Quiet words = refl
said_call calls.Arm words = refl
said_call calls.Serve words = refl

pub outcome_is_ok : {A : Type 0} (found : Option FaultKind) (v x : A) → Ok x ≡ outcome found v → (found ≡ None) × (x ≡ v)
outcome_is_ok None v x h = (refl, cc)
outcome_is_ok (Some kind) v x h = cc

pub outcome_is_err : {A : Type 0} (found : Option FaultKind) (v : A) (kind : FaultKind) → Err kind ≡ outcome found v → found ≡ Some kind
outcome_is_err None v kind h = cc
outcome_is_err (Some k) v kind h = cc

-- a call's form is the same in each version
pub same_form : (version : ℕ) (call : CallWord) (words : List (List ℕ)) → form_after version (call_text call) words ≡ call_form (call_text call) words
same_form version calls.Request words = refl
same_form version calls.Free words = refl
same_form version calls.Ask words = refl
same_form version calls.Disable words = refl
same_form version calls.DisableNosync words = refl
same_form version calls.Enable words = refl
same_form version calls.Sync words = refl
same_form version calls.Affinity words = refl
same_form version calls.Moment words = refl
same_form version calls.SyncHard words = refl
same_form version calls.DisableHard words = refl
same_form version calls.Wake words = refl
same_form version calls.Quiet words = refl
same_form version calls.Arm words = refl
same_form version calls.Serve words = refl

-- a word that is no call is of a later version only if it begins a part

first_false : (a b : Bool) → (a || b) ≡ false → a ≡ false
first_false false b h = refl
first_false true b h = absurd cc

second_false : (a b : Bool) → (a || b) ≡ false → b ≡ false
second_false false b h = h
second_false true b h = absurd cc

-- the ninth, and those after it
from_ninth : (a b c d e f g h r : Bool) → (a || (b || (c || (d || (e || (f || (g || (h || r)))))))) ≡ false → r ≡ false
from_ninth a b c d e f g h r none =
    second_false h r (second_false g _ (second_false f _ (second_false e _ (second_false d _ (second_false c _ (second_false b _ (second_false a _ none)))))))

by_parts : (t k : Bool) (a h s : Bool) (m r : Bool) → t ≡ false → k ≡ false → cond t m ((a || (h || (s || k))) && r) ≡ ((a || (h || s)) && r)
by_parts false false true h s m r is_t is_k = refl
by_parts false false false true s m r is_t is_k = refl
by_parts false false false false true m r is_t is_k = refl
by_parts false false false false false m r is_t is_k = refl
by_parts true k a h s m r is_t is_k = absurd cc
by_parts false true a h s m r is_t is_k = absurd cc

pub later_part : (version : ℕ) (word : List ℕ) → list_any (is word) call_texts ≡ false
    → is_of_later version word ≡ ((is word (codes "answers") || (is word (codes "handler") || is word (codes "thread"))) && not (has_runs version))
later_part version word none =
    let rest : (is word (codes "moment") || list_any (is word) run_call_texts) ≡ false =
    from_ninth (is word (codes "request")) (is word (codes "free")) (is word (codes "ask")) (is word (codes "disable"))
    (is word (codes "disable_nosync")) (is word (codes "enable")) (is word (codes "sync")) (is word (codes "affinity"))
    (is word (codes "moment") || list_any (is word) run_call_texts) none in
    by_parts (is word (codes "moment")) (list_any (is word) run_call_texts)
    (is word (codes "answers")) (is word (codes "handler")) (is word (codes "thread")) (not (has_moments version)) (not (has_runs version))
    (first_false (is word (codes "moment")) (list_any (is word) run_call_texts) rest)
    (second_false (is word (codes "moment")) (list_any (is word) run_call_texts) rest)
