-- A new lock keeps the rule; and the first pass is still right after it gave a pass.
use Rattle.std.proofs.Common.{◌≡◌, ℕ, true, false, Option, Some, List, [], ◌∷◌, ◌++◌, refl, sym, ap, subst, inl, inr}
use Rattle.atomic_table.specs.Table.{Me, opening}
use Rattle.irq_base.specs.declared.entries.Actor.{Actor}
use Rattle.irq_base.specs.declared.entries.Entry.{Entry}
use Rattle.irq_base.specs.declared.lines.LineDef.{LineDef}
use Rattle.line_lock.specs.Knows.{is_among}
use Rattle.line_lock.specs.Passes.{IsPass}
use Rattle.line_lock.specs.Rule.{Holds, first_view, left_view}
use Rattle.line_lock.specs.declared.view.View.{View}
use Rattle.line_lock.proofs.Actors.{among_old, among_new, among_either, among_neither}
use Rattle.line_lock.proofs.Passing.{at_first, only_one}

module _ {T : Type 0} (def_of : T → LineDef) (entries_of : T → List Entry) where
  pub opened : (def : LineDef) (value : T) → def_of value ≡ def → entries_of value ≡ []
      → Holds def_of entries_of def (opening (0 ∷ 0 ∷ []) (Some value ∷ []) (first_view def))
  opened def value is none = record {
    history = [];
    turn = inl (record {
      words = refl;
      value = value;
      home = refl;
      def = is;
      entries = none;
      idle = λ id v e. ap (λ (y : View). y.turn) (sym (only_one (first_view def) v id e).1);
    });
    passes = at_first def;
  }

pub still_pass : {T : Type 0} (me : Me (Option T) View) (a : Option Actor) (seen held : ℕ) (who : Actor)
    → IsPass me a seen held → me.0.turn ≡ false → IsPass (left_view me.0 who, me.1) a seen held
still_pass me a seen held who p off = record {
  there = p.there;
  known = record {
    mine = p.known.mine;
    strangers = λ b none not_given. p.known.strangers b none (among_neither b who me.0.knows.given not_given).0;
    given = λ b out. elim (among_either b who me.0.knows.out out) [
      | inl t ↦ among_old b who me.0.knows.given (p.known.given b t)
      | inr t ↦ subst (λ x. is_among x (me.0.knows.given ++ who ∷ []) ≡ true) (sym t) (among_new who me.0.knows.given)
    ];
  };
  actor = p.actor;
  front = p.front;
  idle = p.idle;
  holding = λ on. (let h = p.holding on in record { carried = h.carried; count = h.count; mine = h.mine });
}
