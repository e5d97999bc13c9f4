-- The chain's next step, over the definitions alone.
use Rattle.std.proofs.Common.{◌≡◌, ℕ, ◌==◌, ◌<◌, Bool, true, false, not, ◌&&◌, ◌||◌, cond, is_some, IsTrue, Option}
use Rattle.std.proofs.Common.{Some, None, List, [], ◌∷◌, ◌++◌, length, reverse, slice_get, refl, sym, ap, ◌∙◌, subst}
use Rattle.std.proofs.Common.{eqb-true}
use Rattle.std.proofs.lemmas.List.{append_assoc, reverse-append}
use Rattle.std.proofs.lemmas.Option.{slice_get_within}
use Rattle.irq_base.specs.Cell.{Cell, after_high, signals}
use Rattle.irq_base.specs.Who.{actor_of}
use Rattle.irq_base.specs.declared.entries.Actor.{Actor}
use Rattle.irq_base.specs.declared.entries.Actor.TheVariants as actors
use Rattle.irq_base.specs.declared.entries.Entry.{Entry}
use Rattle.irq_base.specs.declared.lines.Trigger.TheVariants as triggers
use Rattle.irq_base.specs.declared.numbers.CpuNo.{CpuNo}
use Rattle.irq_line.specs.Queries.{is_some_take}
use Rattle.irq_model.specs.Kinds.{is_take}
use Rattle.irq_model.specs.Next.{next_past}
use Rattle.irq_model.specs.Places.{EachEntry}
use Rattle.irq_laws.proofs.Chosen.{the_same}
use Rattle.irq_laws.proofs.Lists.{both_ways}
use Rattle.irq_laws.proofs.OwnLaws.{due_is_own_past}
use Rattle.board_def.specs.Seen.{BoardSeen}
use Rattle.board_play.specs.Lines.{BoardLine, Move}
use Rattle.board_play.specs.Order.{actors_of, due_on, flow_line, line_for, move_on}
use Rattle.board_ready.specs.First.{first_of}
use Rattle.board_ready.specs.Sets.{has}
use Rattle.board_ready.proofs.Lowest.{first_none, first_some}
use Rattle.board_core.specs.Firsts.{is_take_due}
use Rattle.board_core.specs.Places.{line_at}
use Rattle.board_play.specs.Orders.{IsMade, moves_in, onto}
use Rattle.irq_chained.specs.Chain.{IsChainLegal, chain_next, chain_order, child, children, choice_by, cpu_0}
use Rattle.irq_chained.specs.Chain.{first_left, first_step, has_take_due, in_chain, is_left, is_taken, is_taken_on}
use Rattle.irq_chained.specs.Chain.{lines_in, of_cpu_0, open_status, or_choice, or_exit, or_step, status_of, stepper_of}
use Rattle.irq_chained.specs.Chain.{told, with_left}
use Rattle.irq_chained.specs.Parent.{is_asked, parent_after, parent_cell}
use Rattle.irq_chained.specs.Promise.{IsWalked, KeepsSignals, LosesNothing}
use Rattle.irq_chained.specs.declared.chain.ChainEntry.{ChainEntry}
use Rattle.irq_chained.specs.declared.chain.ChainEntry.TheVariants as steps
use Rattle.irq_chained.proofs.StatusBits.{asked_by}

pub same_children : (b : BoardSeen) (g : List ChainEntry) → children g ≡ moves_in (chain_order b) g
same_children b [] = refl
same_children b (e ∷ g) = ap (λ (m : List Move). onto (told e) m) (same_children b g)

-- ---- the parent

abbrev pub level : Bool → Bool → Cell
level masked high = record {
  trigger = triggers.Level;
  keeps = false;
  recalls = false;
  retriggers = false;
  serves
      = false;
  masked = masked;
  stored = false;
  sent = false;
  high = high;
  in_service = false;
}

pub parent_is : (b : BoardSeen) (g : List ChainEntry) → parent_cell b g ≡ level (is_some (open_status g)) (is_asked (lines_in b g))
parent_is b [] = refl
parent_is b (steps.Enter cpu status ∷ g) = ap (λ (c : Cell). after_high
    (is_asked (lines_in b (steps.Enter cpu status ∷ g))) (parent_after (steps.Enter cpu status) c)) (parent_is b g)
parent_is b (steps.Child line e ∷ g) = ap (λ (c : Cell). after_high (is_asked (lines_in b (steps.Child line e ∷ g)))
    (parent_after (steps.Child line e) c)) (parent_is b g)
parent_is b (steps.Exit cpu ∷ g) = ap (λ (c : Cell). after_high (is_asked (lines_in b (steps.Exit cpu ∷ g))) (parent_after (steps.Exit cpu) c)) (parent_is b g)

pub loses_nothing : (b : BoardSeen) (g : List ChainEntry) → LosesNothing b g
loses_nothing b g = record { masked = ap (λ (c : Cell). c.masked) (parent_is b g); high = ap (λ (c : Cell). c.high) (parent_is b g); seen = seen }
  where
    by_open : (o : Option ℕ) → IsTrue (is_some o || signals (level (is_some o) true))
    by_open None = refl
    by_open (Some s) = refl

    seen : (i : ℕ) (x : BoardLine) → slice_get (lines_in b g) i ≡ Some x → has_take_due x ≡ true → IsTrue (is_some (open_status g) || signals (parent_cell b g))
    seen i x at due =
        let asked : is_asked (lines_in b g) ≡ true = ap not (asked_by (lines_in b g) i x at due) in
        let is : parent_cell b g ≡ level (is_some (open_status g)) true = parent_is b g ∙ ap (λ (h : Bool). level (is_some (open_status g)) h) asked in
        subst (λ (c : Cell). IsTrue (is_some (open_status g) || signals c)) (sym is) (by_open (open_status g))

-- ---- whose step it is

pub due_own : (o : Option BoardLine) (a : Actor) (m : Move) → due_on o a ≡ Some m → actor_of m.1 ≡ a
due_own None a m is = cc
due_own (Some x) a m is = by_entry (next_past x.def x.past a) refl is
  where
    by_entry : (e : Option Entry) → next_past x.def x.past a ≡ e → move_on x.def.line e ≡ Some m → actor_of m.1 ≡ a
    by_entry None next is = cc
    by_entry (Some e) next is =
        let made : Move = (x.def.line, e) in
        let same : made ≡ m = the_same made m is in
        subst (λ (n : Move). actor_of n.1 ≡ a) same (due_is_own_past x.def x.past a e next)

child_own : (o : Option BoardLine) (a : Actor) (e : ChainEntry) → child (due_on o a) ≡ Some e → stepper_of e ≡ a
child_own o a e is = by_due (due_on o a) refl is
  where
    by_due : (d : Option Move) → due_on o a ≡ d → child d ≡ Some e → stepper_of e ≡ a
    by_due None due is = cc
    by_due (Some m) due is = subst (λ (s : ChainEntry). stepper_of s ≡ a) (the_same (steps.Child m.0 m.1) e is) (due_own o a m due)

cpu_is_0 : (c : CpuNo) → (c.0 == 0) ≡ true → actors.Cpu cpu_0 ≡ actors.Cpu c
cpu_is_0 c is = ap (λ (n : ℕ). actors.Cpu (record { 0 = n })) (sym (eqb-true c.0 0 is))

of_cpu_0_own : (g : List ChainEntry) (lines : List BoardLine) (o : Option ℕ) (e : ChainEntry) → of_cpu_0 g lines o ≡ Some e → stepper_of e ≡ actors.Cpu cpu_0
of_cpu_0_own g lines None e is = by_status (status_of lines == 0) is
  where
    by_status : (b : Bool) → cond b None (Some (steps.Enter cpu_0 (status_of lines))) ≡ Some e → stepper_of e ≡ actors.Cpu cpu_0
    by_status true is = cc
    by_status false is = subst (λ (s : ChainEntry). stepper_of s ≡ actors.Cpu cpu_0) (the_same (steps.Enter cpu_0 (status_of lines)) e is) refl
of_cpu_0_own g lines (Some status) e is = by_flow (flow_line lines cpu_0) is
  where
    by_take : (d : Option ChainEntry) → child (due_on (first_left g lines status) (actors.Cpu cpu_0)) ≡ d → or_exit d ≡ Some e → stepper_of e ≡ actors.Cpu cpu_0
    by_take None due is = subst (λ (s : ChainEntry). stepper_of s ≡ actors.Cpu cpu_0) (the_same (steps.Exit cpu_0) e is) refl
    by_take (Some s) due is = child_own (first_left g lines status) (actors.Cpu cpu_0) e (due ∙ is)

    by_flow : (x : Option BoardLine) → in_chain g lines status x ≡ Some e → stepper_of e ≡ actors.Cpu cpu_0
    by_flow None is = by_take (child (due_on (first_left g lines status) (actors.Cpu cpu_0))) refl is
    by_flow (Some x) is = child_own (Some x) (actors.Cpu cpu_0) e is

pub own_step : (b : BoardSeen) (g : List ChainEntry) (a : Actor) (e : ChainEntry) → chain_next b g a ≡ Some e → stepper_of e ≡ a
own_step b g (actors.Thread d) e is = child_own (line_for b (lines_in b g) (actors.Thread d)) (actors.Thread d) e is
own_step b g (actors.Cpu c) e is = by_zero (c.0 == 0) refl is
  where
    by_zero : (z : Bool) → (c.0 == 0) ≡ z → cond z (of_cpu_0 g (lines_in b g) (open_status g)) None ≡ Some e → stepper_of e ≡ actors.Cpu c
    by_zero true same is = of_cpu_0_own g (lines_in b g) (open_status g) e is ∙ cpu_is_0 c same
    by_zero false same is = cc
own_step b g (actors.Driver r) e is = child_own (line_for b (lines_in b g) (actors.Driver r)) (actors.Driver r) e is

-- ---- plays

module _ {E : Type 0} (can : Actor → Option E) where
  pub first_is_some : (all : List Actor) (e : E) → first_step can all ≡ Some e → (a : Actor) × (can a ≡ Some e)
  first_is_some [] e is = cc
  first_is_some (a ∷ rest) e is = by_first (can a) refl is (λ h. first_is_some rest e h)
    where
      by_first : (o : Option E) → can a ≡ o → or_step o (first_step can rest) ≡ Some e
          → (first_step can rest ≡ Some e → (a : Actor) × (can a ≡ Some e)) → (a : Actor) × (can a ≡ Some e)
      by_first None none is deeper = deeper is
      by_first (Some f) some is deeper = (a, some ∙ is)

  same_pair : (f e : E) (l k : List Actor) → ◌≡◌ {A = Option (E × List Actor)} (Some (f, l)) (Some (e, k)) → f ≡ e
  same_pair f e l k h =
      let p : E × List Actor = (f, l) in
      let q : E × List Actor = (e, k) in
      ap (λ (x : E × List Actor). x.0) (the_same p q h)

  pub choice_is_some : (all left : List Actor) (e : E) (after : List Actor) → choice_by can all left ≡ Some (e, after) → (a : Actor) × (can a ≡ Some e)
  choice_is_some all [] e after is = by_first (first_step can all) refl is
    where
      by_first : (o : Option E) → first_step can all ≡ o → with_left [] o ≡ Some (e, after) → (a : Actor) × (can a ≡ Some e)
      by_first None none is = cc
      by_first (Some f) some is = first_is_some all e (some ∙ ap (λ (x : E). Some x) (same_pair f e [] after is))
  choice_is_some all (pick ∷ picks) e after is = by_pick (can pick) refl is (λ h. choice_is_some all picks e after h)
    where
      by_pick : (o : Option E) → can pick ≡ o → or_choice (with_left picks o) (choice_by can all picks)
          ≡ Some (e, after) → (choice_by can all picks ≡ Some (e, after) → (a : Actor) × (can a ≡ Some e))
          → (a : Actor) × (can a ≡ Some e)
      by_pick None none is deeper = deeper is
      by_pick (Some f) some is deeper = (pick, some ∙ ap (λ (x : E). Some x) (same_pair f e picks after is))

pub plays_are_legal : (b : BoardSeen) (picks : List Actor) (g : List ChainEntry) (left : List Actor) → IsMade (chain_order b) picks g left → IsChainLegal b g
plays_are_legal b picks [] left made = tt
plays_are_legal b picks (e ∷ g) left made =
    let s = choice_is_some (chain_next b g) (actors_of b) made.0 e left made.2 in
    (subst (λ (a : Actor). chain_next b g a ≡ Some e) (sym (own_step b g s.0 e s.1)) s.1, plays_are_legal b picks g made.0 made.1)

-- ---- as a chain is left

-- a take that is due
pub take_is_due : (o : Option BoardLine) → is_take_due cpu_0 o ≡ true → (m : Move) × (due_on o (actors.Cpu cpu_0) ≡ Some m) × (is_take m.1 ≡ true)
take_is_due None due = cc
take_is_due (Some x) due = by_entry (next_past x.def x.past (actors.Cpu cpu_0)) refl due
  where
    by_entry : (e : Option Entry) → next_past x.def x.past (actors.Cpu cpu_0) ≡ e → is_some_take e ≡ true
        → (m : Move) × (move_on x.def.line (next_past x.def x.past (actors.Cpu cpu_0)) ≡ Some m) × (is_take m.1 ≡ true)
    by_entry None next due = cc
    by_entry (Some e) next due = ((x.def.line, e), ap (λ (o : Option Entry). move_on x.def.line o) next, due)

second : (a b : Bool) → (a && b) ≡ true → b ≡ true
second true b h = h
second false b h = cc

first : (a b : Bool) → (a && b) ≡ true → a ≡ true
first true b h = refl
first false b h = cc

-- if no take of the status comes next, no child of it is left
pub none_is_left : (g : List ChainEntry) (lines : List BoardLine) (status : ℕ)
    → due_on (first_left g lines status) (actors.Cpu cpu_0) ≡ None
    → first_of (is_left g lines status) (length lines) ≡ None
none_is_left g lines status none = by_first (first_of (is_left g lines status) (length lines)) refl none
  where
    by_first : (o : Option ℕ) → first_of (is_left g lines status) (length lines) ≡ o → due_on (line_at lines o) (actors.Cpu cpu_0) ≡ None → o ≡ None
    by_first None is none = refl
    by_first (Some t) is none =
        let f = first_some (is_left g lines status) (length lines) t is in
        let due = first (is_take_due cpu_0 (slice_get lines t)) (not (is_taken_on g (slice_get lines t))) (second (has status t) _ f.1) in
        let d = take_is_due (slice_get lines t) due in
        let bad : None ≡ Some d.0 = sym none ∙ d.1 in
        cc

all_true : (g : List ChainEntry) (lines : List BoardLine) (status : ℕ)
    → first_of (is_left g lines status) (length lines) ≡ None → (i : ℕ) (x : BoardLine) → slice_get lines i ≡ Some x
    → i < length lines → has status i ≡ true → has_take_due x ≡ true → is_taken g x.def.line ≡ true
all_true g lines status none i x at within set due = by_taken (is_taken g x.def.line) refl
  where
    by_taken : (b : Bool) → is_taken g x.def.line ≡ b → b ≡ true
    by_taken true is = refl
    by_taken false is =
        let left : is_left g lines status i ≡ true =
        ap (λ (o : Option BoardLine). has status i && (is_take_due cpu_0 o && not (is_taken_on g o))) at
        ∙ (ap (λ (b : Bool). b && (has_take_due x && not (is_taken g x.def.line))) set
        ∙ (ap (λ (b : Bool). b && not (is_taken g x.def.line)) due ∙ ap not is)) in
        both_ways (is_left g lines status i) left (first_none (is_left g lines status) (length lines) i none within)

pub exit_is_walked : (b : BoardSeen) (g : List ChainEntry) (c : CpuNo) → chain_next b g (actors.Cpu cpu_0) ≡ Some (steps.Exit c) → IsWalked b g
exit_is_walked b g c is = by_open (open_status g) refl is
  where
    lines : List BoardLine
    lines = lines_in b g

    by_status : (z : Bool) (s : ℕ) → cond z None (Some (steps.Enter cpu_0 s)) ≡ Some (steps.Exit c) → IsWalked b g
    by_status true s is = cc
    by_status false s is = cc

    by_take : (s : ℕ) → open_status g ≡ Some s → flow_line lines cpu_0 ≡ None → (d : Option Move)
        → due_on (first_left g lines s) (actors.Cpu cpu_0) ≡ d → or_exit (child d) ≡ Some (steps.Exit c) → IsWalked b g
    by_take s opens_at rests None due is =
        record {
          status = s;
          is = opens_at;
          at_rest = rests;
          each
              = λ i x at set asks. all_true g lines s (none_is_left g lines s due) i x at (slice_get_within lines i x at)
              set asks;
        }
    by_take s opens_at rests (Some m) due is = cc

    by_move : (d : Option Move) → child d ≡ Some (steps.Exit c) → IsWalked b g
    by_move None is = cc
    by_move (Some m) is = cc

    by_flow : (s : ℕ) → open_status g ≡ Some s → (x : Option BoardLine) → flow_line lines cpu_0 ≡ x → in_chain g lines s x ≡ Some (steps.Exit c) → IsWalked b g
    by_flow s opens_at None rests is = by_take s opens_at rests (due_on (first_left g lines s) (actors.Cpu cpu_0)) refl is
    by_flow s opens_at (Some x) rests is = by_move (due_on (Some x) (actors.Cpu cpu_0)) is

    by_open : (o : Option ℕ) → open_status g ≡ o → of_cpu_0 g lines o ≡ Some (steps.Exit c) → IsWalked b g
    by_open None opens_at is = by_status (status_of lines == 0) (status_of lines) is
    by_open (Some s) opens_at is = by_flow s opens_at (flow_line lines cpu_0) refl is

-- ---- of a whole log

later_part : {A : Type 0} (P : A → List A → Type 0) (xs ys : List A) → EachEntry P (xs ++ ys) → EachEntry P ys
later_part P [] ys each = each
later_part P (x ∷ xs) ys each = later_part P xs ys each.1

pub keeps_signals : (b : BoardSeen) (log : List ChainEntry) → IsChainLegal b (reverse log) → KeepsSignals b log
keeps_signals b log legal = record { always = λ before after is. loses_nothing b (reverse before); exits = exits }
  where
    exits : (before after : List ChainEntry) → log ≡ before ++ steps.Exit cpu_0 ∷ after → IsWalked b (reverse before)
    exits before after is =
        let turned : reverse log ≡ reverse after ++ (steps.Exit cpu_0 ∷ reverse before) =
        ap (λ (l : List ChainEntry). reverse l) is
        ∙ (reverse-append before (steps.Exit cpu_0 ∷ after)
        ∙ (ap (λ (l : List ChainEntry). l ++ reverse before) (reverse-append (steps.Exit cpu_0 ∷ []) after)
        ∙ append_assoc (reverse after) (steps.Exit cpu_0 ∷ []) (reverse before))) in
        let each = later_part _ (reverse after) (steps.Exit cpu_0 ∷ reverse before) (subst (λ (l : List ChainEntry). IsChainLegal b l) turned legal) in
        exit_is_walked b (reverse before) cpu_0 each.0
