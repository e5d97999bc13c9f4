use Rattle.std.proofs.Common.{◌≡◌, ◌++◌, ◌+◌, ℕ, [], ◌∷◌, length, refl, ap, sym, ◌∙◌, arith}
use Rattle.std.proofs.lemmas.List.{length-append, append-nil}
use Rattle.std.proofs.lemmas.Option.{slice_get_within}
use Rattle.device_table.specs.Sums.{one_if}
use Rattle.act_list.specs.Lists.{ListSeen, flags_of}
use Rattle.line_words.proofs.Loops.{written_next, action_words, none_behind}
use Rattle.line_words.specs.Words.{linked_words}
use Rattle.line_words.proofs.linking.write_linked.Goals as goal

pub loop-dev-preserved : goal.loop-dev-preserved
loop-dev-preserved c =
    let old = c.loop-dev.words.items in
    let new = c.extend_from_slice.new.self.items in
    let t = c.actions-actions.result.now.list.actions in
    let there = sym c.action.ensures ∙ c.in-Some.is in
    let d : ℕ = c.in-Some.dev.0 in
    let flags = c.in-Some.action.flags in
    let added : new ≡ old ++ action_words (c.in-Some.dev, c.in-Some.action) =
    c.in_ok-extend_from_slice.ensures.items
    ∙ (ap (λ (n : ℕ). old ++ (d ∷ n ∷ c.flag-in-Some.result ∷ c.flag-in-Some-2.result ∷ [])) c.flag.ensures
    ∙ (ap (λ (n : ℕ). old ++ (d ∷ one_if flags.shared ∷ n ∷ c.flag-in-Some-2.result ∷ [])) c.flag-in-Some.ensures
    ∙ ap (λ (n : ℕ). old ++ (d ∷ one_if flags.shared ∷ one_if flags.oneshot ∷ n ∷ [])) c.flag-in-Some-2.ensures)) in
    let long : length new ≡ length old + 4 = ap length added ∙ length-append old (action_words (c.in-Some.dev, c.in-Some.action)) in
    let within = slice_get_within t c.loop-dev.place (c.in-Some.dev, c.in-Some.action) there in
    record {
      written = written_next (λ xs. linked_words (flags_of xs)) action_words (λ x xs. refl) t c.loop-dev.place
          (c.in-Some.dev, c.in-Some.action) there old new added ∙ c.loop-dev.invariant.written;
      long = omega (arith, long, c.loop-dev.invariant.long);
      within = omega (arith, within);
      same = c.loop-dev.invariant.same;
    }

pub returns : goal.returns
returns c =
    let t = c.actions-actions.result.now.list.actions in
    let none = none_behind t c.loop-dev.place (sym c.in_default.ensures) in
    sym (append-nil c.loop-dev.words.items)
    ∙ (ap (λ xs. c.loop-dev.words.items ++ linked_words (flags_of xs)) (sym none)
    ∙ (c.loop-dev.invariant.written
    ∙ ap (λ (l : ListSeen). c.args.words.now.items ++ linked_words (flags_of l.actions)) c.loop-dev.invariant.same))
