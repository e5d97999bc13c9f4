use Rattle.std.proofs.Common.{◌≡◌, ◌++◌, ◌-◌, ◌*◌, ◌≤◌, drop, length}
use Rattle.act_list.specs.Lists.{flags_of}
use Rattle.line_words.specs.Words.{linked_words}
use Rattle.line_words.proofs.linking.write_linked.Given as goal

abbrev pub invariant-loop-dev : goal.invariant-loop-dev
invariant-loop-dev l = record {
  written : l.words.items ++ linked_words (flags_of (drop l.place l.actions.list.actions))
      ≡ l.fn.words.items ++ linked_words (flags_of l.actions.list.actions);
  long : l.place * 4 ≤ length l.words.items;
  within : l.place ≤ length l.actions.list.actions;
  same : l.actions.list ≡ l.state.state.list;
}

abbrev pub decreases-loop-dev : goal.decreases-loop-dev
decreases-loop-dev l = length l.actions.list.actions - l.place
