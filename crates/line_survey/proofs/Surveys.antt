-- What a survey says, from what its loops keep.
use Rattle.std.proofs.Common.{◌≡◌, ◌+◌, ℕ, Some, List, [], ◌∷◌, map, take, length, slice_get}
use Rattle.std.proofs.Common.{true, refl, ap, sym, subst}
use Rattle.std.proofs.Common.{◌∙◌, arith}
use Rattle.std.proofs.lemmas.Option.{get_or_from_slice_get}
use Rattle.irq_base.proofs.SameEntries.{same_entries}
use Rattle.irq_base.specs.contracts.entries.EntryEq.TheImpl.Laws as entry_laws
use Rattle.irq_base.specs.declared.entries.Entry.{Entry}
use Rattle.irq_base.specs.declared.lines.LineDef.{LineDef}
use Rattle.line_space.proofs.SearchLaws.{met, legal_is_path}
use Rattle.line_space.specs.Found.{IsShortest as IsShortestBefore}
use Rattle.line_wanted.specs.Left.{Leaves}
use Rattle.line_wanted.specs.declared.wanted.Wanted.TheVariants as wants
use Rattle.state_search.proofs.Places.{all_from, contains_from, map_at, map_from}
use Rattle.state_search.specs.Seen.{SearchSeen, cut_of}
use Rattle.state_search.specs.declared.firsts.First.{First}
use Rattle.line_survey.proofs.Entries.{shortest_of}
use Rattle.line_survey.proofs.Rests.{rest_found, known}
use Rattle.line_survey.specs.Growing.{AreRestsTo}
use Rattle.line_survey.specs.Kept.{same_entry, IsOfLine, IsValidLine}
use Rattle.line_survey.specs.Seen.{depth_at}
use Rattle.line_survey.specs.Surveyed.{AreSoMany, IsLeast, AreRests, AreEntries, rows_of}
use Rattle.line_survey.specs.declared.survey.EntryRow.{EntryRow}
use Rattle.line_survey.specs.declared.survey.RestRow.{RestRow}

-- the length of the past at a place
depth_is : (paths : List (List Entry)) (k : ℕ) (p : List Entry) → slice_get paths k ≡ Some p → length p ≡ depth_at paths k
depth_is paths k p is = ap length (sym (get_or_from_slice_get paths k p [] is))

module _ (def : LineDef) (asked : IsValidLine def) (s : SearchSeen Entry) (line : IsOfLine def s) where
  pub rests_are : (rows : List RestRow) → AreRestsTo def s.paths s.looked rows → AreRests def (cut_of s) (take s.looked s.paths) rows
  rests_are rows are = record {
    each = all_from (λ r. IsLeast def (wants.Rest r.left) r.len) rows least_at;
    states = all_from (λ r. AreSoMany (Leaves def r.left) (take s.looked s.paths) r.states) rows are.states;
    all = λ h left legal leaves below.
        let x = known def asked s line left h legal leaves below in
        let y = are.all x.place left x.within (x.past, x.there, x.leaves) in
        contains_from (map (λ r. r.left) rows) y.0 left (map_at (λ r. r.left) rows y.0 y.1 y.2.0 ∙ ap Some y.2.1);
    once = λ j k left ja kb.
        let a = map_from (λ r. r.left) rows j left ja in
        let b = map_from (λ r. r.left) rows k left kb in
        are.once j k a.0 b.0 a.1 b.1 (a.2 ∙ sym b.2);
    rising = are.rising;
  }
    where
      least_at : (k : ℕ) (r : RestRow) → slice_get rows k ≡ Some r → IsLeast def (wants.Rest r.left) r.len
      least_at k r is =
          let x = are.each k r is in
          let p = x.2.there.0 in
          (p, rest_found def asked s line r.left x.0 p x.1 x.2 x.2.there.1, depth_is s.paths x.0 p x.2.there.1 ∙ sym x.3)

  -- an entry that was met, with a shortest past before it
  record Met (f : First Entry) : Type 0 where
    past : List Entry
    there : slice_get s.paths f.place ≡ Some past
    shortest : IsShortestBefore def f.label past

  itself : (e : Entry) → same_entry e e ≡ true
  itself e = entry_laws.laws-law.refl e

  met_at : (k : ℕ) (f : First Entry) → slice_get s.firsts k ≡ Some f → Met f
  met_at k f is =
      let m = met def same_entry s.paths s.looked (cut_of s) s.firsts line.searches line.firsts k f is (itself f.label) in
      record { past = m.0; there = m.1; shortest = m.2 }

  abbrev row : First Entry → EntryRow
  row f = record { entry = f.label; len = depth_at s.paths f.place + 1 }

  pub entries_are : AreEntries def (cut_of s) (rows_of s.paths s.firsts)
  entries_are = record {
    each = all_from (λ r. IsLeast def (wants.Row r.entry) r.len) (rows_of s.paths s.firsts) least_at;
    all = λ e h legal below.
        let x = line.firsts.all h e (legal_is_path def h legal.1) below legal.0 in
        let at = map_at (λ r. r.entry) (rows_of s.paths s.firsts) x.0 (row x.1) (map_at row s.firsts x.0 x.1 x.2) in
        contains_from (map (λ r. r.entry) (rows_of s.paths s.firsts)) x.0 e (at ∙ ap Some (same_entries x.1.label e x.3));
    once = λ j k e ja kb.
        let a = map_from (λ r. r.entry) (rows_of s.paths s.firsts) j e ja in
        let b = map_from (λ r. r.entry) (rows_of s.paths s.firsts) k e kb in
        let f = map_from row s.firsts j a.0 a.1 in
        let g = map_from row s.firsts k b.0 b.1 in
        let same : f.0.label ≡ g.0.label = ap (λ (r : EntryRow). r.entry) f.2 ∙ (a.2 ∙ (sym b.2 ∙ ap (λ (r : EntryRow). r.entry) (sym g.2))) in
        line.firsts.apart j k f.0 g.0 f.1 g.1 (subst (λ (x : Entry). same_entry f.0.label x ≡ true) same (itself f.0.label));
    rising = λ j k a b le ja kb.
        let f = map_from row s.firsts j a ja in
        let g = map_from row s.firsts k b kb in
        let m = met_at j f.0 f.1 in
        let n = met_at k g.0 g.1 in
        let places = line.firsts.rising j k f.0 g.0 le f.1 g.1 in
        let rises = line.searches.rising f.0.place g.0.place m.past n.past places m.there n.there in
        let x = ap (λ (r : EntryRow). r.len) f.2 in
        let y = ap (λ (r : EntryRow). r.len) g.2 in
        let v = depth_is s.paths f.0.place m.past m.there in
        let w = depth_is s.paths g.0.place n.past n.there in
        omega (arith, rises, x, y, v, w);
  }
    where
      least_at : (k : ℕ) (r : EntryRow) → slice_get (rows_of s.paths s.firsts) k ≡ Some r → IsLeast def (wants.Row r.entry) r.len
      least_at k r is =
          let f = map_from row s.firsts k r is in
          let m = met_at k f.0 f.1 in
          let long : length (f.0.label ∷ m.past) ≡ depth_at s.paths f.0.place + 1 = omega (arith, depth_is s.paths f.0.place m.past m.there) in
          let least : IsLeast def (wants.Row f.0.label) (depth_at s.paths f.0.place + 1) =
          (f.0.label ∷ m.past, shortest_of def s line f.0.label m.past m.shortest, long) in
          subst (λ (x : EntryRow). IsLeast def (wants.Row x.entry) x.len) f.2 least
