-- What the cell's operations make of the marks that are read off the past.
use Rattle.std.proofs.Common.{◌≡◌, Bool, true, false, not, ◌||◌, ◌&&◌, cond, List, [], ◌∷◌, refl, sym, ap, ◌∙◌, arith}
use Rattle.irq_base.specs.declared.lines.LineDef.{LineDef}
use Rattle.irq_base.specs.declared.entries.Entry.{Entry}
use Rattle.irq_base.specs.Cell.{Cell, after_edge, after_mask, after_unmask, after_accept, after_ack, after_eoi, after_retrigger}
use Rattle.irq_model.specs.Kinds.{is_take}
use Rattle.irq_model.specs.Lines.{is_edge_line, serves}
use Rattle.irq_model.specs.Masks.{is_masked}
use Rattle.irq_model.specs.Edges.{is_edge, is_sent_edge, is_alive, is_sent, is_stored}
use Rattle.irq_model.proofs.Somewhere.{some_ext, some_none}
use Rattle.irq_model.proofs.EdgeSteps.{sent_more, stored_more, goes_sent, goes_stored, none_sent, none_stored, sent_quiet, stored_quiet}
use Rattle.irq_laws.specs.Driven.{cell_with}

-- ---- each operation, a mark each

module _ (def : LineDef) where
  pub edge_is : (m w s h i : Bool) → after_edge (cell_with def m w s h i) ≡ cell_with def m (cond m (w || def.keeps) w) (cond m s true) h i
  edge_is true w s h i = refl
  edge_is false w s h i = refl

  pub mask_is : (m w s h i : Bool) → after_mask (cell_with def m w s h i)
      ≡ cell_with def true (cond (is_edge_line def && (def.recalls && s)) true w)
      (cond (is_edge_line def && (def.recalls && s)) false s) h i
  mask_is m w s h i = by_test (is_edge_line def && (def.recalls && s))
    where
      by_test : (b : Bool) → cond b (cell_with def true true false h i) (cell_with def true w s h i) ≡ cell_with def true (cond b true w) (cond b false s) h i
      by_test true = refl
      by_test false = refl

  pub unmask_is : (m w s h i : Bool) → after_unmask (cell_with def m w s h i)
      ≡ cell_with def false (cond (is_edge_line def) false w) (cond (is_edge_line def) (s || w) s) h i
  unmask_is m w s h i = by_test (is_edge_line def)
    where
      by_test : (b : Bool) → cond b (cell_with def false false (s || w) h i) (cell_with def false w s h i)
          ≡ cell_with def false (cond b false w) (cond b (s || w) s) h i
      by_test true = refl
      by_test false = refl

  pub accept_is : (m w s h i : Bool) → after_accept (cell_with def m w s h i) ≡ cell_with def m w s h (cond (is_edge_line def) i (i || serves def))
  accept_is m w s h i = by_test (is_edge_line def)
    where
      by_test : (b : Bool) → cond b (cell_with def m w s h i) (cell_with def m w s h (i || serves def)) ≡ cell_with def m w s h (cond b i (i || serves def))
      by_test true = refl
      by_test false = refl

  pub ack_is : (m w s h i : Bool) → after_ack (cell_with def m w s h i) ≡ cell_with def m w (cond (is_edge_line def) false s) h i
  ack_is m w s h i = by_test (is_edge_line def)
    where
      by_test : (b : Bool) → cond b (cell_with def m w false h i) (cell_with def m w s h i) ≡ cell_with def m w (cond b false s) h i
      by_test true = refl
      by_test false = refl

  pub eoi_is : (m w s h i : Bool) → after_eoi (cell_with def m w s h i) ≡ cell_with def m w s h (cond (is_edge_line def) i false)
  eoi_is m w s h i = by_test (is_edge_line def)
    where
      by_test : (b : Bool) → cond b (cell_with def m w s h i) (cell_with def m w s h false) ≡ cell_with def m w s h (cond b i false)
      by_test true = refl
      by_test false = refl

  pub retrigger_is : (m w s h i : Bool) → after_retrigger (cell_with def m w s h i) ≡ cell_with def m w (cond (is_edge_line def && def.retriggers) true s) h i
  retrigger_is m w s h i = by_test (is_edge_line def && def.retriggers)
    where
      by_test : (b : Bool) → cond b (cell_with def m w true h i) (cell_with def m w s h i) ≡ cell_with def m w (cond b true s) h i
      by_test true = refl
      by_test false = refl

  pub same_marks : (m n w v s t h i : Bool) → m ≡ n → w ≡ v → s ≡ t → cell_with def m w s h i ≡ cell_with def n v t h i
  same_marks m n w v s t h i a b c = ap (λ (x : Bool). cell_with def x w s h i) a
      ∙ ap (λ (x : Bool). cell_with def n x s h i) b ∙ ap (λ (x : Bool). cell_with def n v x h i) c

  pub same_rest : (m w s h g i j : Bool) → h ≡ g → i ≡ j → cell_with def m w s h i ≡ cell_with def m w s g j
  same_rest m w s h g i j a b = ap (λ (x : Bool). cell_with def m w s x i) a ∙ ap (λ (x : Bool). cell_with def m w s g x) b

-- ---- a level line has no edges

not_alive : (def : LineDef) (a u : List Entry) (x : Bool) → is_edge_line def ≡ false → (is_alive def a u && x) ≡ false
not_alive def a [] x h = refl
not_alive def a (e ∷ u) x h = off (is_edge_line def) _ _ x h
  where
    off : (E b c x : Bool) → E ≡ false → (((E && b) && c) && x) ≡ false
    off E b c x h = grind arith

pub level_sent : (def : LineDef) (past : List Entry) → is_edge_line def ≡ false → is_sent def past ≡ false
level_sent def past h = some_ext _ (λ a u. false) past (λ a u is. not_alive def a u (is_sent_edge def a u) h) ∙ some_none past

pub level_stored : (def : LineDef) (past : List Entry) → is_edge_line def ≡ false → is_stored def past ≡ false
level_stored def past h = some_ext _ (λ a u. false) past (λ a u is. not_alive def a u (not (is_sent_edge def a u)) h) ∙ some_none past

-- ---- the marks that an entry changes by masking, by unmasking, and by an edge

-- the cell whose first three marks are read off the past
abbrev pub marks : LineDef → List Entry → Bool → Bool → Cell
marks def past h i = cell_with def (is_masked def past) (is_stored def past) (is_sent def past) h i

masking_stored : (E r s w X n t k : Bool) → (E ≡ false → s ≡ false) → (E ≡ false → w ≡ false) → t ≡ false → X ≡ false
    → n ≡ true → cond (E && (r && s)) true w ≡ ((X && (k && n)) || goes_stored r n t s w)
masking_stored E r s w X n t k a b c d e = grind arith

masking_sent : (E r s w X n t : Bool) → (E ≡ false → s ≡ false) → t ≡ false → X ≡ false → n ≡ true
    → cond (E && (r && s)) false s ≡ ((X && not n) || goes_sent r n t s w)
masking_sent E r s w X n t a c d e = grind arith

pub mask_to : (def : LineDef) (e : Entry) (past : List Entry) (h i : Bool) → is_take e ≡ false → is_edge def e ≡ false
    → is_masked def (e ∷ past) ≡ true → after_mask (marks def past h i) ≡ marks def (e ∷ past) h i
mask_to def e past h i no_take no_edge n =
    mask_is def (is_masked def past) (is_stored def past) (is_sent def past) h i
    ∙ same_marks def true (is_masked def (e ∷ past)) _ _ _ _ h i (sym n)
    (masking_stored (is_edge_line def) def.recalls (is_sent def past) (is_stored def past) (is_edge def e)
    (is_masked def (e ∷ past)) (is_take e) def.keeps (level_sent def past) (level_stored def past) no_take no_edge n
    ∙ sym (stored_more def e past))
    (masking_sent (is_edge_line def) def.recalls (is_sent def past) (is_stored def past) (is_edge def e)
    (is_masked def (e ∷ past)) (is_take e) (level_sent def past) no_take no_edge n ∙ sym (sent_more def e past))

opening_stored : (E r s w X n t k : Bool) → (E ≡ false → w ≡ false) → n ≡ false → cond E false w ≡ ((X && (k && n)) || goes_stored r n t s w)
opening_stored E r s w X n t k a b = grind arith

opening_sent : (E r s w X n t : Bool) → (E ≡ false → s ≡ false) → (E ≡ false → w ≡ false) → t ≡ false → X ≡ false
    → n ≡ false → cond E (s || w) s ≡ ((X && not n) || goes_sent r n t s w)
opening_sent E r s w X n t a b c d e = grind arith

pub unmask_to : (def : LineDef) (e : Entry) (past : List Entry) (h i : Bool) → is_take e ≡ false → is_edge def e ≡ false
    → is_masked def (e ∷ past) ≡ false → after_unmask (marks def past h i) ≡ marks def (e ∷ past) h i
unmask_to def e past h i no_take no_edge n =
    unmask_is def (is_masked def past) (is_stored def past) (is_sent def past) h i
    ∙ same_marks def false (is_masked def (e ∷ past)) _ _ _ _ h i (sym n)
    (opening_stored (is_edge_line def) def.recalls (is_sent def past) (is_stored def past) (is_edge def e)
    (is_masked def (e ∷ past)) (is_take e) def.keeps (level_stored def past) n ∙ sym (stored_more def e past))
    (opening_sent (is_edge_line def) def.recalls (is_sent def past) (is_stored def past) (is_edge def e)
    (is_masked def (e ∷ past)) (is_take e) (level_sent def past) (level_stored def past) no_take no_edge n
    ∙ sym (sent_more def e past))

-- an entry that leaves the three marks
pub leaves : (def : LineDef) (e : Entry) (past : List Entry) (h i : Bool) → is_take e ≡ false → is_edge def e ≡ false
    → is_masked def (e ∷ past) ≡ is_masked def past → marks def past h i ≡ marks def (e ∷ past) h i
leaves def e past h i no_take no_edge same =
    same_marks def _ _ _ _ _ _ h i (sym same) (sym (stored_quiet def e past no_take no_edge same)) (sym (sent_quiet def e past no_take no_edge same))

resent_sent : (E r s w X n t g : Bool) → (x : Bool) → E ≡ true → g ≡ true → X ≡ true → n ≡ false → cond (E && g) true x ≡ ((X && not n) || goes_sent r n t s w)
resent_sent E r s w X n t g x a b c d = grind arith

-- a start that the chip resends
pub resend_to : (def : LineDef) (e : Entry) (past : List Entry) (h i : Bool) → is_edge_line def ≡ true
    → def.retriggers ≡ true → is_edge def e ≡ true → is_masked def (e ∷ past) ≡ false
    → after_retrigger (after_unmask (marks def past h i)) ≡ marks def (e ∷ past) h i
resend_to def e past h i edge can is n =
    ap after_retrigger (unmask_is def (is_masked def past) (is_stored def past) (is_sent def past) h i)
    ∙ retrigger_is def false (cond (is_edge_line def) false (is_stored def past))
    (cond (is_edge_line def) (is_sent def past || is_stored def past) (is_sent def past)) h i
    ∙ same_marks def false (is_masked def (e ∷ past)) _ _ _ _ h i (sym n)
    (opening_stored (is_edge_line def) def.recalls (is_sent def past) (is_stored def past) (is_edge def e)
    (is_masked def (e ∷ past)) (is_take e) def.keeps (level_stored def past) n ∙ sym (stored_more def e past))
    (resent_sent (is_edge_line def) def.recalls (is_sent def past) (is_stored def past) (is_edge def e)
    (is_masked def (e ∷ past)) (is_take e) def.retriggers _ edge can is n ∙ sym (sent_more def e past))

kept_stored : (r s w X m n t k : Bool) → n ≡ m → m ≡ false → (m ≡ false → w ≡ false) → w ≡ ((X && (k && n)) || goes_stored r n t s w)
kept_stored r s w X m n t k a b c = grind arith

-- an end on an open line that the chip sends again
pub again_to : (def : LineDef) (e : Entry) (past : List Entry) (h i : Bool) → is_edge_line def ≡ true
    → def.retriggers ≡ true → is_edge def e ≡ true → is_masked def (e ∷ past) ≡ is_masked def past
    → is_masked def past ≡ false
    → after_retrigger (marks def past h i) ≡ marks def (e ∷ past) h i
again_to def e past h i edge can is same was =
    retrigger_is def (is_masked def past) (is_stored def past) (is_sent def past) h i
    ∙ same_marks def _ _ _ _ _ _ h i (sym same)
    (kept_stored def.recalls (is_sent def past) (is_stored def past) (is_edge def e) (is_masked def past)
    (is_masked def (e ∷ past)) (is_take e) def.keeps same was (none_stored def past) ∙ sym (stored_more def e past))
    (resent_sent (is_edge_line def) def.recalls (is_sent def past) (is_stored def past) (is_edge def e)
    (is_masked def (e ∷ past)) (is_take e) def.retriggers _ edge can is (same ∙ was) ∙ sym (sent_more def e past))

edge_stored : (r s w X m n t k : Bool) → n ≡ m → X ≡ true → t ≡ false → (m ≡ false → w ≡ false)
    → (r ≡ true → m ≡ true → s ≡ false) → cond m (w || k) w ≡ ((X && (k && n)) || goes_stored r n t s w)
edge_stored r s w X m n t k a b c d e = grind arith

edge_sent : (r s w X m n t : Bool) → n ≡ m → X ≡ true → t ≡ false → (r ≡ true → m ≡ true → s ≡ false) → cond m s true ≡ ((X && not n) || goes_sent r n t s w)
edge_sent r s w X m n t a b c e = grind arith

-- an ask on an edge line
pub edge_to : (def : LineDef) (e : Entry) (past : List Entry) (h i : Bool) → is_take e ≡ false → is_edge def e ≡ true
    → is_masked def (e ∷ past) ≡ is_masked def past → after_edge (marks def past h i) ≡ marks def (e ∷ past) h i
edge_to def e past h i no_take is same =
    edge_is def (is_masked def past) (is_stored def past) (is_sent def past) h i
    ∙ same_marks def _ _ _ _ _ _ h i (sym same)
    (edge_stored def.recalls (is_sent def past) (is_stored def past) (is_edge def e) (is_masked def past)
    (is_masked def (e ∷ past)) (is_take e) def.keeps same is no_take (none_stored def past) (none_sent def past)
    ∙ sym (stored_more def e past))
    (edge_sent def.recalls (is_sent def past) (is_stored def past) (is_edge def e) (is_masked def past)
    (is_masked def (e ∷ past)) (is_take e) same is no_take (none_sent def past) ∙ sym (sent_more def e past))

-- ---- a take

taken_stored : (r s w X m n t k : Bool) → t ≡ true → X ≡ false → (n ≡ false → m ≡ false) → (m ≡ false → w ≡ false)
    → w ≡ ((X && (k && n)) || goes_stored r n t s w)
taken_stored r s w X m n t k a b c d = grind arith

taken_sent : (r s w X m n t : Bool) → t ≡ true → X ≡ false → (n ≡ false → m ≡ false) → (m ≡ false → w ≡ false) → false ≡ ((X && not n) || goes_sent r n t s w)
taken_sent r s w X m n t a b c d = grind arith

-- a take leaves nothing sent, and keeps what is stored
pub take_to : (def : LineDef) (e : Entry) (past : List Entry) (h i n : Bool) → is_take e ≡ true → is_edge def e ≡ false
    → (is_masked def (e ∷ past) ≡ false → is_masked def past ≡ false) → n ≡ is_masked def (e ∷ past)
    → cell_with def n (is_stored def past) false h i ≡ marks def (e ∷ past) h i
take_to def e past h i n take no_edge opens same =
    same_marks def _ _ _ _ _ _ h i same
    (taken_stored def.recalls (is_sent def past) (is_stored def past) (is_edge def e) (is_masked def past)
    (is_masked def (e ∷ past)) (is_take e) def.keeps take no_edge opens (none_stored def past)
    ∙ sym (stored_more def e past))
    (taken_sent def.recalls (is_sent def past) (is_stored def past) (is_edge def e) (is_masked def past)
    (is_masked def (e ∷ past)) (is_take e) take no_edge opens (none_stored def past) ∙ sym (sent_more def e past))
