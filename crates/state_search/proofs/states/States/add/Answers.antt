use Rattle.std.proofs.Common.{◌≡◌, ◌<◌, IfSome, [], ◌∷◌, ◌++◌, length, ap, sym, subst, ◌∙◌}
use Rattle.indexmap.proofs.CallerLemmas.{insert_entry-new}
use Rattle.state_search.specs.Growing.{IsIn, AreRooted}
use Rattle.state_search.specs.Packed.{IsPacked, unpacked}
use Rattle.state_search.specs.Paths.{states_of}
use Rattle.state_search.specs.Rows.{rows_of, ArePacked}
use Rattle.state_search.proofs.Kept.{is_key, has_none, rows_push, rooted_push, packed_push}
use Rattle.state_search.proofs.states.States.add.Goals as goal

key_is : (g : _) (c : goal.In_ok-insert g) → c.extend_from_slice.new.self.items ≡ c.args.packed.now
key_is g c = c.in_ok-extend_from_slice.ensures.items ∙ ap (λ t. t ++ c.args.packed.now) c.in_ok-key.ensures.items

inserted : (g : _) (c : goal.In_ok-insert g)
    → c.insert.new.self.entries ≡ c.self.inside.rows.entries ++ (c.extend_from_slice.new.self, c.args.came) ∷ []
inserted g c =
    let key = c.extend_from_slice.new.self in
    let m = c.self.inside.rows in
    let none = has_none m.entries key.items (λ h. c.requires.new
    (subst (λ t. IsIn (states_of t) (unpacked c.args.packed.now)) c.self.view_is
    (subst (λ t. IsIn (states_of (rows_of m.entries)) (unpacked t)) (key_is g c) h))) in
    c.in_ok-insert.ensures.entries ∙ insert_entry-new (λ a b. is_key a.items b) m key c.args.came none

added : (g : _) (c : goal.In_ok-insert g)
    → rows_of c.insert.new.self.entries ≡ rows_of c.self.inside.rows.entries ++ (unpacked c.args.packed.now, c.args.came) ∷ []
added g c =
    ap rows_of (inserted g c)
    ∙ rows_push c.self.inside.rows.entries c.extend_from_slice.new.self c.args.came c.args.packed.now (key_is g c)

pub returns : goal.returns
returns g c = added g c ∙ ap (λ t. t ++ (unpacked c.args.packed.now, c.args.came) ∷ []) c.self.view_is

pub invariant_of-self-2 : goal.invariant_of-self-2
invariant_of-self-2 g c = (
  subst AreRooted (sym (added g c))
      (rooted_push (rows_of c.self.inside.rows.entries) (unpacked c.args.packed.now) c.args.came c.self.invariant.0
      (subst (λ t. IfSome c.args.came (λ k. k.from < length t)) (sym c.self.view_is) c.requires.earlier)),
  subst ArePacked (sym (inserted g c))
      (packed_push c.self.inside.rows.entries c.extend_from_slice.new.self c.args.came c.self.invariant.1
      (subst IsPacked (sym (key_is g c)) c.requires.packed)),
)
