-- A processor's tries keep that it has a flow in progress on one line at most.
use Rattle.std.proofs.Common.{◌≡◌, ℕ, ◌+◌, ◌<◌, ◌≤◌, ◌⊎◌, inl, inr, Bool, true, false, ◌&&◌, ◌||◌, cond, IsSomeAnd, Option}
use Rattle.std.proofs.Common.{Some, None, is_some, Result, Ok, Err, IfErr, List, [], ◌∷◌, ◌++◌, length, map, reverse}
use Rattle.std.proofs.Common.{slice_get, refl, sym, ap, ◌∙◌, subst, arith}
use Rattle.std.proofs.Math.ListN.{length-set}
use Rattle.std.proofs.lemmas.List.{reverse-append}
use Rattle.irq_base.specs.declared.entries.Actor.{Actor}
use Rattle.irq_base.specs.declared.entries.Actor.TheVariants as actors
use Rattle.irq_base.specs.declared.entries.Entry.{Entry}
use Rattle.irq_base.specs.declared.entries.Entry.TheVariants as by
use Rattle.irq_base.specs.declared.entries.CpuEntry.TheVariants as cpus
use Rattle.irq_base.specs.declared.lines.FlowKind.{FlowKind}
use Rattle.irq_base.specs.declared.lines.LineDef.{LineDef}
use Rattle.irq_base.specs.declared.numbers.CpuNo.{CpuNo}
use Rattle.irq_laws.proofs.Chosen.{the_same}
use Rattle.irq_laws.proofs.OwnLaws.{due_is_own}
use Rattle.irq_line.specs.declared.answers.StepRefused.{StepRefused}
use Rattle.irq_line.specs.declared.answers.StepRefused.TheVariants as refusals
use Rattle.irq_model.specs.Kinds.{is_handle}
use Rattle.irq_model.specs.Lines.{is_eoi_flow}
use Rattle.irq_model.specs.Places.{last_of}
use Rattle.irq_model.specs.Rounds.{closes, cpu_of_handle, flow, has_flow}
use Rattle.line_lock.specs.Passes.{LockSeen}
use Rattle.line_lock.specs.declared.view.Known.{Known}
use Rattle.line_lock.specs.declared.view.Placed.{Placed}
use Rattle.workers.specs.Fit.{IsPost, ArePosted, own_past, HasOneFlow, IsInFlow, HasItsFlow}
use Rattle.workers.specs.Grown.{PostsGrow}
use Rattle.workers.specs.Seen.{PostSeen, JobSeen}
use Rattle.workers.specs.Tries.{Gains, IsFull, Tries, rests_after}
use Rattle.workers.specs.Attempts.{StepsPost, flow_after, KeepsPosts, IsRefusedOn, StepsCpu, RestsInFlow, AttemptsCpu}
use Rattle.workers.proofs.InFlow.{flow_by, handle_cpu}
use Rattle.workers.proofs.Lists.{at_set, set_there, two, within}
use Rattle.workers.proofs.Manning.{map_more}
use Rattle.workers.proofs.Rooms.{StaysSo, room_after, room_as, room_from}
use Rattle.workers.proofs.Attempting.{still_posted}
use Rattle.workers.proofs.Growing.{posts_grew, posts_self, posts_more}
use Rattle.workers.specs.Terms.{Terms}

-- one more entry of one's own
pub own_more : (old new : List Placed) (n : ℕ) (e : Entry) → new ≡ old ++ record { place = n; entry = e } ∷ [] → own_past new ≡ e ∷ own_past old
own_more old new n e is =
    ap own_past is ∙ (ap reverse (map_more (λ (x : Placed). x.entry) old (record { place = n; entry = e }))
    ∙ reverse-append (map (λ (x : Placed). x.entry) old) (e ∷ []))

pub keeps_posts : (terms : Terms) (lines : List LockSeen) (place : ℕ)
    (tried : Result (Option Entry) StepRefused) (old new : JobSeen) → ArePosted lines old
    → StepsPost terms lines place tried old new → KeepsPosts terms lines old new
keeps_posts terms lines place tried old new posted s =
    record {
      actor = ap (λ (j : JobSeen). j.actor) s.is;
      first = ap (λ (j : JobSeen). j.first) s.is;
      as_many = ap (λ (j : JobSeen). length j.posts) s.is ∙ length-set old.posts place s.after;
      posted = still_posted terms lines place tried old new posted s;
      grew = posts_grew terms lines place tried old new posted s;
    }

-- the pass that was tried, and the others
pub post_now : (terms : Terms) (lines : List LockSeen) (place : ℕ) (tried : Result (Option Entry) StepRefused) (old new : JobSeen)
    (s : StepsPost terms lines place tried old new) (i : ℕ) (t : PostSeen) → slice_get new.posts i ≡ Some t
    → ((i ≡ place) × (t ≡ s.after)) ⊎ ((i ≡ place → ⊥) × (slice_get old.posts i ≡ Some t))
post_now terms lines place tried old new s i t at = at_set old.posts place s.after i t (ap (λ (j : JobSeen). slice_get j.posts i) (sym s.is) ∙ at)

pub post_there : (terms : Terms) (lines : List LockSeen) (place : ℕ) (tried : Result (Option Entry) StepRefused) (old new : JobSeen)
    (s : StepsPost terms lines place tried old new) → slice_get new.posts place ≡ Some s.after
post_there terms lines place tried old new s = ap (λ (j : JobSeen). slice_get j.posts place) s.is ∙ set_there old.posts place s.after s.post s.at_post

pub refused_is_so : (terms : Terms) (lines : List LockSeen) (place : ℕ) (tried : Result (Option Entry) StepRefused) (old new : JobSeen)
    → StepsPost terms lines place tried old new → IfErr tried (IsRefusedOn terms new)
refused_is_so terms lines place tried old new s = by_tried tried s.tries
  where
    by_tried : (tried : Result (Option Entry) StepRefused)
        → Tries terms s.line.def old.actor s.post.pass.knows tried s.after.pass.knows
        → IfErr tried (IsRefusedOn terms new)
    by_tried (Ok moved) t = tt
    by_tried (Err (refusals.Full number len)) t =
        let def : s.after.pass.def ≡ s.line.def = s.is_post.of_line.1 in
        record {
          place = place;
          post = s.after;
          at = post_there terms lines place tried old new s;
          number = ap (λ (d : LineDef). d.line) def ∙ sym t.came.1;
          is = subst (λ (d : LineDef). IsFull d new.actor s.after.pass.knows) (sym def)
              (subst (λ (a : Actor). IsFull s.line.def a s.after.pass.knows) (sym (ap (λ (j : JobSeen). j.actor) s.is))
              t.came.0);
          log = t.came.2 ∙ ap (λ (d : LineDef). d.log) (sym def);
        }
    by_tried (Err refusals.NoMemory) t =
        record {
          place = place;
          post = s.after;
          at = post_there terms lines place tried old new s;
          is = subst (λ (d : LineDef). terms.wanted d s.after.pass.knows.seen new.actor) (sym s.is_post.of_line.1)
              (subst (λ (a : Actor). terms.wanted s.line.def s.after.pass.knows.seen a) (sym (ap (λ (j : JobSeen). j.actor) s.is)) t.came.0);
        }

-- without an entry the pass's own stay
pub nothing_gained : (terms : Terms) (def : LineDef) (who : Actor) (old new : Known)
    (tried : Result (Option Entry) StepRefused) → ((e : Entry) → tried ≡ Ok (Some e) → ⊥) → Tries terms def who old tried new
    → new.mine ≡ old.mine
nothing_gained terms def who old new (Ok (Some e)) not t = absurd (not e refl)
nothing_gained terms def who old new (Ok None) not t = t.came.1
nothing_gained terms def who old new (Err (refusals.Full number len)) not t = t.came.3
nothing_gained terms def who old new (Err refusals.NoMemory) not t = t.came.1

-- ---- flows

and_false : (b : Bool) → (b && false) ≡ false
and_false true = refl
and_false false = refl

closing : (def : LineDef) (e : Entry) → closes def e ≡ true → cpu_of_handle (Some e) ≡ None
closing def (by.Cpu cpu (cpus.End again unmask note)) is = refl
closing def (by.Cpu cpu (cpus.Take way answer)) is = absurd (let h : false ≡ true = sym (and_false (is_eoi_flow def.flow)) ∙ is in not_both h)
  where
    not_both : false ≡ true → ⊥
    not_both h = cc
closing def e is = refl

-- the flow after an entry that neither begins nor ends one
flow_on : (def : LineDef) (e : Entry) (past : List Entry) (h c : Bool) → is_handle e ≡ h → closes def e ≡ c → h ≡ false
    → (c ≡ true → has_flow def (e ∷ past) ≡ false) × (c ≡ false → has_flow def (e ∷ past) ≡ has_flow def past)
flow_on def e past h c is_h is_c none = (
  (λ yes. ap (λ (b : Bool). is_some (cpu_of_handle (cond b (Some e) (last_before past))))
      (ap (λ (b : Bool). b || closes def e) (is_h ∙ none) ∙ (is_c ∙ yes))
      ∙ ap (λ (o : Option _). is_some o) (closing def e (is_c ∙ yes))),
  (λ no. ap (λ (b : Bool). is_some (cpu_of_handle (cond b (Some e) (last_before past)))) (ap (λ (b : Bool). b || closes def e) (is_h ∙ none) ∙ (is_c ∙ no))),
)
  where
    last_before : List Entry → Option Entry
    last_before es = last_of (λ f. is_handle f || closes def f) es

module _ (terms : Terms) (lines : List LockSeen) (place : ℕ) (old mid : JobSeen)
    (posted : ArePosted lines old) (one : HasOneFlow old)
    (its : HasItsFlow old) (free : (i : ℕ) → old.flow ≡ Some i → i ≡ place) where
  others_flow : (i : ℕ) (t : PostSeen) → (i ≡ place → ⊥) → slice_get old.posts i ≡ Some t → has_flow t.pass.def (own_past t.pass.knows.mine) ≡ false
  others_flow i t other at = one i t at (λ is. other (free i is))

  module _ (tried : Result (Option Entry) StepRefused) (s : StepsPost terms lines place tried old mid) where
    post_def : s.post.pass.def ≡ s.line.def
    post_def = (subst (λ (o : Option LockSeen). IsSomeAnd o (λ l. IsPost l old.actor s.post)) s.at_line (posted place s.post s.at_post)).of_line.1

    -- when no entry was added
    pub cpu_rests : ((e : Entry) → tried ≡ Ok (Some e) → ⊥) → StepsCpu terms lines place tried old mid
    cpu_rests not =
        record {
          keeps = keeps_posts terms lines place tried old mid posted s;
          flow = one_flow;
          its = still_its;
          rests = rests;
          still = λ is. ap (λ (j : JobSeen). j.flow) s.is;
          others = others;
          refused = refused_is_so terms lines place tried old mid s;
          room = room_after terms lines place tried old mid posted s;
        }
      where
        one_flow : HasOneFlow mid
        one_flow i t at none = elim (post_now terms lines place tried old mid s i t at) [
          | inl here ↦
              let mine = nothing_gained terms s.line.def old.actor s.post.pass.knows s.after.pass.knows tried not s.tries in
              ap (λ (x : PostSeen). has_flow x.pass.def (own_past x.pass.knows.mine)) here.1
              ∙ (ap (λ (d : LineDef). has_flow d (own_past s.after.pass.knows.mine)) (s.is_post.of_line.1 ∙ sym post_def)
              ∙ (ap (λ (ps : List Placed). has_flow s.post.pass.def (own_past ps)) mine
              ∙ one place s.post s.at_post (λ is. none (ap (λ (j : JobSeen). j.flow) s.is ∙ (is ∙ ap (λ (k : ℕ). Some k) (sym here.0))))))
          | inr other ↦ others_flow i t other.0 other.1
        ]

        still_its : HasItsFlow mid
        still_its i is =
            let was : old.flow ≡ Some i = sym (ap (λ (j : JobSeen). j.flow) s.is) ∙ is in
            let here : i ≡ place = free i was in
            let at_place : old.flow ≡ Some place = was ∙ ap (λ (k : ℕ). Some k) here in
            let f = its place at_place in
            let same : f.1 ≡ s.post = the_same f.1 s.post (sym f.3 ∙ s.at_post) in
            let mine = nothing_gained terms s.line.def old.actor s.post.pass.knows s.after.pass.knows tried not s.tries in (
              f.0,
              s.after,
              ap (λ (j : JobSeen). j.actor) s.is ∙ f.2,
              ap (λ (k : ℕ). slice_get mid.posts k) here ∙ post_there terms lines place tried old mid s,
              ap (λ (d : LineDef). flow d (own_past s.after.pass.knows.mine)) (s.is_post.of_line.1 ∙ sym post_def)
                  ∙ (ap (λ (ps : List Placed). flow s.post.pass.def (own_past ps)) mine
                  ∙ subst (λ (x : PostSeen). IsInFlow x.pass.def f.0 x.pass.knows) same f.4),
            )

        rests : tried ≡ Ok None → (t : PostSeen) → slice_get mid.posts place ≡ Some t → t.rests ≡ true
        rests is t at = elim (post_now terms lines place tried old mid s place t at) [
          | inl here ↦ ap (λ (x : PostSeen). x.rests) here.1 ∙ (s.rests ∙ ap rests_after is)
          | inr other ↦ absurd (other.0 refl)
        ]

        others : (i : ℕ) (t : PostSeen) → (i ≡ place → ⊥) → slice_get mid.posts i ≡ Some t → slice_get old.posts i ≡ Some t
        others i t apart at = elim (post_now terms lines place tried old mid s i t at) [ inl here ↦ absurd (apart here.0) | inr other ↦ other.1 ]

  -- when an entry was added
  pub cpu_moved : (e : Entry) (s : StepsPost terms lines place (Ok (Some e)) old mid) (w : FlowKind) (new : JobSeen)
      → w ≡ s.line.def.flow → new ≡ record mid { flow = flow_after w e place mid.flow }
      → StepsCpu terms lines place (Ok (Some e)) old new
  cpu_moved e s w new way is =
      let k = keeps_posts terms lines place (Ok (Some e)) old mid posted s in
      record {
        keeps = record {
          actor = ap (λ (j : JobSeen). j.actor) is ∙ k.actor;
          first = ap (λ (j : JobSeen). j.first) is ∙ k.first;
          as_many = ap (λ (j : JobSeen). length j.posts) is ∙ k.as_many;
          posted = subst (λ (j : JobSeen). ArePosted lines j) (sym is) k.posted;
          grew = subst (λ (j : JobSeen). PostsGrow terms.gave old.posts j.posts) (sym is) k.grew;
        };
        flow = one_flow;
        its = new_its;
        rests = λ h. cc;
        still = λ h. cc;
        others = others;
        refused = tt;
        room = room_as (Ok (Some e)) old mid new (ap (λ (j : JobSeen). j.posts) is) (ap (λ (j : JobSeen). j.left) is)
            (room_after terms lines place (Ok (Some e)) old mid posted s);
      }
    where
      post_at : (i : ℕ) (t : PostSeen) → slice_get new.posts i ≡ Some t → ((i ≡ place) × (t ≡ s.after)) ⊎ ((i ≡ place → ⊥) × (slice_get old.posts i ≡ Some t))
      post_at i t at = post_now terms lines place (Ok (Some e)) old mid s i t (ap (λ (j : JobSeen). slice_get j.posts i) (sym is) ∙ at)

      others : (i : ℕ) (t : PostSeen) → (i ≡ place → ⊥) → slice_get new.posts i ≡ Some t → slice_get old.posts i ≡ Some t
      others i t apart at = elim (post_at i t at) [ inl here ↦ absurd (apart here.0) | inr other ↦ other.1 ]

      gains : Gains terms.gave s.line.def old.actor s.post.pass.knows e s.after.pass.knows
      gains = s.tries.came

      def_is : s.after.pass.def ≡ s.post.pass.def
      def_is = s.is_post.of_line.1 ∙ sym (post_def (Ok (Some e)) s)

      flow_is : (h c : Bool) → is_handle e ≡ h → closes s.post.pass.def e ≡ c → new.flow ≡ cond h (Some place) (cond c None old.flow)
      flow_is h c is_h is_c =
          ap (λ (j : JobSeen). j.flow) is
          ∙ (ap (λ (v : FlowKind). flow_after v e place mid.flow) (way ∙ ap (λ (d : LineDef). d.flow) (sym (post_def (Ok (Some e)) s)))
          ∙ (ap (λ (b : Bool). cond b (Some place) (cond (closes s.post.pass.def e) None mid.flow)) is_h
          ∙ (ap (λ (b : Bool). cond h (Some place) (cond b None mid.flow)) is_c
          ∙ ap (λ (j : JobSeen). cond h (Some place) (cond c None j.flow)) s.is)))

      past_is : own_past s.after.pass.knows.mine ≡ e ∷ own_past s.post.pass.knows.mine
      past_is = own_more s.post.pass.knows.mine s.after.pass.knows.mine (length gains.history) e gains.mine

      here_flow : (h c : Bool) → is_handle e ≡ h → closes s.post.pass.def e ≡ c → (new.flow ≡ Some place → ⊥)
          → has_flow s.post.pass.def (e ∷ own_past s.post.pass.knows.mine) ≡ false
      here_flow true c is_h is_c none = absurd (none (flow_is true c is_h is_c))
      here_flow false true is_h is_c none = (flow_on s.post.pass.def e (own_past s.post.pass.knows.mine) false true is_h is_c refl).0 refl
      here_flow false false is_h is_c none = (flow_on s.post.pass.def e (own_past s.post.pass.knows.mine) false false
          is_h is_c refl).1 refl ∙ one place s.post s.at_post (λ was. none (flow_is false false is_h is_c ∙ was))

      flow_now : (h c : Bool) → is_handle e ≡ h → closes s.post.pass.def e ≡ c → flow s.after.pass.def (own_past s.after.pass.knows.mine)
          ≡ cpu_of_handle (cond (h || c) (Some e) (last_of (λ f. is_handle f || closes s.post.pass.def f) (own_past s.post.pass.knows.mine)))
      flow_now h c is_h is_c =
          ap (λ (d : LineDef). flow d (own_past s.after.pass.knows.mine)) def_is
          ∙ (ap (λ (es : List Entry). flow s.post.pass.def es) past_is
          ∙ flow_by s.post.pass.def e (own_past s.post.pass.knows.mine) h c is_h is_c)

      -- the pass that was tried, with such a flow
      its_at : (c : CpuNo) (i : ℕ) → i ≡ place → old.actor ≡ actors.Cpu c → flow s.after.pass.def (own_past s.after.pass.knows.mine) ≡ Some c
          → (c : CpuNo) × (t : PostSeen) × (new.actor ≡ actors.Cpu c) × (slice_get new.posts i ≡ Some t)
          × IsInFlow t.pass.def c t.pass.knows
      its_at c i here actor its_flow = (
        c,
        s.after,
        ap (λ (j : JobSeen). j.actor) is ∙ (ap (λ (j : JobSeen). j.actor) s.is ∙ actor),
        ap (λ (j : JobSeen). slice_get j.posts i) is ∙
            (ap (λ (k : ℕ). slice_get mid.posts k) here ∙ post_there terms lines place (Ok (Some e)) old mid s),
        its_flow,
      )

      new_its : HasItsFlow new
      new_its i at = by_tests (is_handle e) (closes s.post.pass.def e) refl refl
        where
          by_tests : (h c : Bool) → is_handle e ≡ h → closes s.post.pass.def e ≡ c
              → (c : CpuNo) × (t : PostSeen) × (new.actor ≡ actors.Cpu c) × (slice_get new.posts i ≡ Some t)
              × IsInFlow t.pass.def c t.pass.knows
          by_tests true c is_h is_c =
              let f = handle_cpu e is_h in
              its_at f.0 i (the_same i place (sym at ∙ flow_is true c is_h is_c))
              (sym (due_is_own s.line.def gains.history old.actor e gains.due) ∙ f.2)
              (flow_now true c is_h is_c ∙ f.1)
          by_tests false true is_h is_c = let n : Some i ≡ None = sym at ∙ flow_is false true is_h is_c in cc
          by_tests false false is_h is_c =
              let was : old.flow ≡ Some i = sym (flow_is false false is_h is_c) ∙ at in
              let here : i ≡ place = free i was in
              let f = its i was in
              let same : f.1 ≡ s.post = the_same f.1 s.post (sym f.3 ∙ (ap (λ (k : ℕ). slice_get old.posts k) here ∙ s.at_post)) in
              its_at f.0 i here f.2 (flow_now false false is_h is_c ∙ subst (λ (x : PostSeen). IsInFlow x.pass.def f.0 x.pass.knows) same f.4)

      one_flow : HasOneFlow new
      one_flow i t at none = elim (post_at i t at) [
        | inl here ↦
            ap (λ (x : PostSeen). has_flow x.pass.def (own_past x.pass.knows.mine)) here.1
            ∙ (ap (λ (d : LineDef). has_flow d (own_past s.after.pass.knows.mine)) def_is ∙ (ap (λ (es : List Entry). has_flow s.post.pass.def es) past_is
            ∙ here_flow (is_handle e) (closes s.post.pass.def e) refl refl (λ its. none (its ∙ ap (λ (k : ℕ). Some k) (sym here.0)))))
        | inr other ↦ others_flow i t other.0 other.1
      ]

-- ---- one pass after another

pub keeps_first : {terms : Terms} (lines : List LockSeen) (j : JobSeen) → ArePosted lines j → KeepsPosts terms lines j j
keeps_first {terms} lines j posted = record { actor = refl; first = refl; as_many = refl; posted = posted; grew = posts_self terms.gave j.posts }

pub keeps_on : {terms : Terms} (lines : List LockSeen) (a b c : JobSeen) → KeepsPosts terms lines a b → KeepsPosts terms lines b c → KeepsPosts terms lines a c
keeps_on {terms} lines a b c k l =
    record {
      actor = l.actor ∙ k.actor;
      first = l.first ∙ k.first;
      as_many = l.as_many ∙ k.as_many;
      posted = l.posted;
      grew = posts_more terms.gave a.posts b.posts c.posts k.grew l.grew;
    }

pub rests_more : (terms : Terms) (lines : List LockSeen) (place : ℕ)
    (tried : Result (Option Entry) StepRefused) (old new : JobSeen) → tried ≡ Ok None
    → StepsCpu terms lines place tried old new → ((i : ℕ) (s : PostSeen) → i < place → slice_get old.posts i ≡ Some s
    → s.rests ≡ true)
    → (i : ℕ) (s : PostSeen) → i < place + 1 → slice_get new.posts i ≡ Some s → s.rests ≡ true
rests_more terms lines place tried old new not s rest i t less at = elim (two i place less) [
  | inl before ↦ rest i t before (s.others i t (λ same. omega (arith, same, before)) at)
  | inr here ↦ s.rests not t (ap (λ (k : ℕ). slice_get new.posts k) (sym here) ∙ at)
]

-- a processor's attempt that did something, after tries at which nothing was due
pub cpu_after : (terms : Terms) (lines : List LockSeen) (tried : Result (Option Entry) StepRefused)
    (old mid now new : JobSeen) (place : ℕ) → KeepsPosts terms lines old mid → StaysSo old mid
    → StepsCpu terms lines place tried mid now → (tried ≡ Ok None → ⊥) → new ≡ now
    → AttemptsCpu terms lines tried old new
cpu_after terms lines tried old mid now new place k stay s not same =
    subst (λ (j : JobSeen). AttemptsCpu terms lines tried old j) (sym same)
    (record {
      keeps = keeps_on lines old mid now k s.keeps;
      flow = s.flow;
      its = s.its;
      rests = λ is. absurd (not is);
      refused = s.refused;
      room = room_from tried old mid now stay s.room;
    })

-- a processor's attempt on the line of its flow
pub cpu_in_flow : (terms : Terms) (lines : List LockSeen) (tried : Result (Option Entry) StepRefused) (old new : JobSeen) (place : ℕ)
    → old.flow ≡ Some place → StepsCpu terms lines place tried old new → AttemptsCpu terms lines tried old new
cpu_in_flow terms lines tried old new place was s =
    record { keeps = s.keeps; flow = s.flow; its = s.its; rests = λ is. inr (rests is); refused = s.refused; room = s.room }
  where
    rests : tried ≡ Ok None → RestsInFlow terms new
    rests is =
        let now : new.flow ≡ Some place = s.still is ∙ was in
        let f = s.its place now in
        record { place = place; post = f.1; in_flow = now; at = f.3; rests = s.rests is f.1 f.3 }

-- a processor's attempt when nothing was due on any line
pub cpu_done : (terms : Terms) (lines : List LockSeen) (old now : JobSeen) (place : ℕ)
    → KeepsPosts terms lines old now → HasOneFlow now → now.flow ≡ None
    → ((i : ℕ) (s : PostSeen) → i < place → slice_get now.posts i ≡ Some s → s.rests ≡ true) → length now.posts ≤ place
    → StaysSo old now → AttemptsCpu terms lines (Ok None) old now
cpu_done terms lines old now place k flow none rest all stay =
    record {
      keeps = k;
      flow = flow;
      its = λ i is. absurd (no_place i (sym none ∙ is));
      rests = λ is. inl (λ i s at. rest i s (let w = within now.posts i s at in omega (arith, w, all)) at);
      refused = tt;
      room = stay;
    }
  where
    no_place : (i : ℕ) → None ≡ Some i → ⊥
    no_place i is = cc
