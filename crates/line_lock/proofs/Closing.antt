-- If no actor is out, the closed table has the value, and the first pass has seen its history.
use Rattle.std.proofs.Common.{◌≡◌, ◌⊎◌, ℕ, false, Option, Some, None, List, [], sym, ap, ◌∙◌, inl, inr}
use Rattle.std.proofs.lemmas.Bool.{false≢true}
use mathlib.Core.Option.{some}
use lib.ListN.{get_elem?}
use Rattle.atomic_table.specs.Table.{State, Final, Seen}
use Rattle.irq_base.specs.declared.entries.Entry.{Entry}
use Rattle.irq_base.specs.declared.lines.LineDef.{LineDef}
use Rattle.line_lock.specs.Rule.{IsFree, IsTaken, Holds}
use Rattle.line_lock.specs.declared.view.View.{View}
use Rattle.line_lock.proofs.Passing.{seen_all, alone}

module _ {T : Type 0} (def_of : T → LineDef) (entries_of : T → List Entry) where
  pub record IsHome (key : LineDef) (v : View) (slots : List (Option T)) : Type 0 where
    pub value : T
    pub home : get_elem? slots 0 ≡ some (Some value)
    pub def : def_of value ≡ key
    pub entries : entries_of value ≡ v.knows.seen

  at_home : (key : LineDef) (id : ℕ) (v : View) (slots : List (Option T)) (s : State (Option T) View)
      (rule : Holds def_of entries_of key s) → get_elem? s.views id ≡ some v
      → v.spent ≡ false → v.turn ≡ false → v.knows.actor ≡ None → v.knows.out ≡ []
      → ((k : ℕ) (y : Option T) → get_elem? s.homes k ≡ some (some y) → get_elem? slots k ≡ some y)
      → (IsFree def_of entries_of key rule.history s ⊎ IsTaken def_of entries_of rule.history s) → IsHome key v slots
  at_home key id v slots s rule at there off firstly nobody same (inl f) = record {
    value = f.value;
    home = same 0 (Some f.value) (ap (λ hs. get_elem? hs 0) f.home);
    def = f.def;
    entries = f.entries ∙ seen_all key rule.history s.views rule.passes id v at there firstly nobody;
  }
  at_home key id v slots s rule at there off firstly nobody same (inr t) =
      absurd (false≢true (sym off ∙ (ap (λ (y : View). y.turn)
      (sym (alone key rule.history s.views rule.passes id v at there firstly nobody t.holder t.view t.at t.there))
      ∙ t.turn)))

  pub ended : (key : LineDef) (id : ℕ) (v : View) (words : List ℕ) (slots : List (Option T)) → v.spent ≡ false
      → v.turn ≡ false → v.knows.actor ≡ None → v.knows.out ≡ []
      → Final (Seen (Holds def_of entries_of key) id v) words slots → IsHome key v slots
  ended key id v words slots there off firstly nobody last =
      at_home key id v slots last.0 last.1.0 last.1.1 there off firstly nobody last.4 last.1.0.turn
