-- A path from a place on, and one number of one map changed.
use Rattle.std.proofs.Common.{◌≡◌, ◌≢◌, ℕ, zero, suc, ◌+◌, ◌<◌, ◌≤◌, Bool, true, false, cond, ◌&&◌, ◌||◌, ◌==◌, Option}
use Rattle.std.proofs.Common.{Some, None, option_map, List, [], ◌∷◌, drop, length, get_or, refl, sym, ap, ◌∙◌, eqb-true}
use Rattle.std.proofs.Common.{eq-eqb, arith}
use Rattle.std.proofs.Math.ListN.{set}
use Rattle.std.proofs.lemmas.Bool.{eqb-false, false≢true}
use Rattle.std.specs.Cmp.{both_ways}
use Rattle.std.proofs.lemmas.Option.{slice_get-map, slice_get_within}
use Rattle.std.proofs.Math.Seq.{map-set_same}
use Rattle.std.specs.List.{slice_get}
use Rattle.revmap.specs.Answers.{is_associated}
use Rattle.revmap.specs.declared.map.AssocAnswer.{AssocAnswer}
use Rattle.revmap.specs.declared.map.AssocAnswer.TheVariants as associated
use Rattle.domain_maps.specs.declared.map.DomainMap.{DomainMap}
use Rattle.domain_maps.specs.Numbers.{map_at, map_size, is_on, is_level, virq_at, HasRoom, is_within, has_place_in, sizes}

pub drop_at : (path : List (ℕ × ℕ)) (i : ℕ) (level : ℕ × ℕ) → slice_get path i ≡ Some level → drop i path ≡ level ∷ drop (i + 1) path
drop_at [] i level e = absurd cc
drop_at (x ∷ xs) zero level e = let same : x ≡ level = cc in ap (λ l. l ∷ xs) same
drop_at (x ∷ xs) (suc i) level e = let on : suc i + 1 ≡ suc (i + 1) = omega arith in rw on (drop_at xs i level e)

pub drop_end : (path : List (ℕ × ℕ)) (i : ℕ) → slice_get path i ≡ None → drop i path ≡ []
drop_end [] zero e = refl
drop_end [] (suc i) e = refl
drop_end (x ∷ xs) zero e = absurd cc
drop_end (x ∷ xs) (suc i) e = drop_end xs i e

-- ---- one number of one map

eq_sym : (a b : ℕ) → (a == b) ≡ (b == a)
eq_sym a b = both_ways (a == b) (b == a) (λ h. eq-eqb b a (sym (eqb-true a b h))) (λ h. eq-eqb a b (sym (eqb-true b a h)))

neither : {A : Type 0} (b : Bool) (x y : A) → cond (b && false) x y ≡ y
neither true x y = refl
neither false x y = refl

set_here : (maps : List DomainMap) (i : ℕ) (new : DomainMap) (k : ℕ) → i < length maps → virq_at (set maps i new) i k ≡ map_at new k
set_here [] i new k within = absurd (omega (arith, within))
set_here (m ∷ ms) zero new k within = refl
set_here (m ∷ ms) (suc i) new k within = set_here ms i new k (omega (arith, within))

set_elsewhere : (maps : List DomainMap) (i d : ℕ) (new : DomainMap) (k : ℕ) → i ≢ d → virq_at (set maps i new) d k ≡ virq_at maps d k
set_elsewhere [] i d new k other = refl
set_elsewhere (m ∷ ms) zero zero new k other = absurd (other refl)
set_elsewhere (m ∷ ms) zero (suc d) new k other = refl
set_elsewhere (m ∷ ms) (suc i) zero new k other = refl
set_elsewhere (m ∷ ms) (suc i) (suc d) new k other = set_elsewhere ms i d new k (λ e. other (ap suc e))

was_here : (maps : List DomainMap) (i : ℕ) (old : DomainMap) (k : ℕ) → old ≡ get_or maps i old → i < length maps → virq_at maps i k ≡ map_at old k
was_here [] i old k is within = absurd (omega (arith, within))
was_here (m ∷ ms) zero old k is within = ap (λ x. map_at x k) (sym is)
was_here (m ∷ ms) (suc i) old k is within = was_here ms i old k is (omega (arith, within))

changed_by : (maps : List DomainMap) (i : ℕ) (old new : DomainMap) (b : Bool) (v : Option ℕ) (hw : ℕ) → old ≡ get_or maps i old → i < length maps
    → ((k : ℕ) → map_at new k ≡ cond (b && (k == hw)) v (map_at old k))
    → (d k : ℕ) (t : Bool) → (i == d) ≡ t → virq_at (set maps i new) d k ≡ cond (b && (t && (hw == k))) v (virq_at maps d k)
changed_by maps i old new b v hw is within h d k true e =
    let same : i ≡ d = eqb-true i d e in
    let now : virq_at (set maps i new) d k ≡ map_at new k = ap (λ x. virq_at (set maps i new) x k) (sym same) ∙ set_here maps i new k within in
    let was : map_at old k ≡ virq_at maps d k = sym (was_here maps i old k is within) ∙ ap (λ x. virq_at maps x k) same in
    now ∙ (h k ∙ (ap (λ t. cond (b && t) v (map_at old k)) (eq_sym k hw) ∙ ap (cond (b && (hw == k)) v) was))
changed_by maps i old new b v hw is within h d k false e = set_elsewhere maps i d new k (eqb-false i d e) ∙ sym (neither b v (virq_at maps d k))

-- the map at a place takes another's, which differs at one number at most
pub changed : (maps : List DomainMap) (i : ℕ) (old new : DomainMap) (b : Bool) (v : Option ℕ) (hw : ℕ) → old ≡ get_or maps i old → i < length maps
    → ((k : ℕ) → map_at new k ≡ cond (b && (k == hw)) v (map_at old k))
    → (d k : ℕ) → virq_at (set maps i new) d k ≡ cond (b && is_level d k (i, hw)) v (virq_at maps d k)
changed maps i old new b v hw is within h d k = changed_by maps i old new b v hw is within h d k (i == d) refl

pub same_sizes : (maps : List DomainMap) (i : ℕ) (old new : DomainMap) → old ≡ get_or maps i old
    → map_size new ≡ map_size old → sizes (set maps i new) ≡ sizes maps
same_sizes maps i old new is s = map-set_same map_size maps i new old (s ∙ ap map_size is)

-- a place that isn't there
pub none_there : (maps : List DomainMap) (d k : ℕ) → length maps ≤ d → virq_at maps d k ≡ None
none_there [] d k past = refl
none_there (m ∷ ms) zero k past = absurd (omega (arith, past))
none_there (m ∷ ms) (suc d) k past = none_there ms d k (omega (arith, past))

there_by : (maps : List DomainMap) (i k : ℕ) (o : Option DomainMap) → slice_get maps i ≡ o
    → has_place_in (option_map map_size (slice_get maps i)) k ≡ true → i < length maps
there_by maps i k (Some m) e w = slice_get_within maps i m e
there_by maps i k None e w = absurd (false≢true (ap (λ o. has_place_in (option_map map_size o) k) (sym e) ∙ w))

-- a place within is there
pub is_there : (maps : List DomainMap) (level : ℕ × ℕ) → is_within (sizes maps) level ≡ true → level.0 < length maps
is_there maps level w = there_by maps level.0 level.1 (slice_get maps level.0) refl
    (ap (λ o. has_place_in o level.1) (sym (slice_get-map map_size maps level.0)) ∙ w)

always : (t : Bool) → cond {A = Option ℕ} t None None ≡ None
always true = refl
always false = refl

gone_by : (maps : List DomainMap) (i hw : ℕ) → length maps ≤ i → (d k : ℕ) (t : Bool) → (i == d) ≡ t
    → virq_at maps d k ≡ cond (t && (hw == k)) None (virq_at maps d k)
gone_by maps i hw past d k true e =
    let none : virq_at maps d k ≡ None = none_there maps d k (omega (arith, past, eqb-true i d e)) in
    none ∙ (sym (always (hw == k)) ∙ ap (cond (hw == k) None) (sym none))
gone_by maps i hw past d k false e = refl

pub gone_nowhere : (maps : List DomainMap) (i hw : ℕ) → length maps ≤ i → (d k : ℕ) → virq_at maps d k ≡ cond (is_level d k (i, hw)) None (virq_at maps d k)
gone_nowhere maps i hw past d k = gone_by maps i hw past d k (i == d) refl

-- ---- whole paths

gone_both : (a b : Bool) (x : Option ℕ) → cond b None (cond a None x) ≡ cond (a || b) None x
gone_both true true x = refl
gone_both true false x = refl
gone_both false b x = refl

-- one level is given up, and then the levels after it
pub gives_up_more : (level : ℕ × ℕ) (rest : List (ℕ × ℕ)) (d k : ℕ) (old mid new : Option ℕ)
    → mid ≡ cond (is_level d k level) None old → new ≡ cond (is_on rest d k) None mid
    → new ≡ cond (is_on (level ∷ rest) d k) None old
gives_up_more level rest d k old mid new m n = n ∙ (ap (cond (is_on rest d k) None) m ∙ gone_both (is_level d k level) (is_on rest d k) old)

both_set : (a b : Bool) (v x : Option ℕ) → cond a v (cond b v x) ≡ cond (a || b) v x
both_set true b v x = refl
both_set false b v x = refl

-- the levels after one are written, and then that one
pub writes_more : (level : ℕ × ℕ) (rest : List (ℕ × ℕ)) (d k : ℕ) (v old mid new : Option ℕ)
    → mid ≡ cond (is_on rest d k) v old → new ≡ cond (is_level d k level) v mid
    → new ≡ cond (is_on (level ∷ rest) d k) v old
writes_more level rest d k v old mid new m n = n ∙ (ap (cond (is_level d k level) v) m ∙ both_set (is_level d k level) (is_on rest d k) v old)

free_by : (maps : List DomainMap) (level : ℕ × ℕ) (d k : ℕ) (t u : Bool) → (level.0 == d) ≡ t → (level.1 == k) ≡ u
    → t && u ≡ true → virq_at maps level.0 level.1 ≡ None → virq_at maps d k ≡ None
free_by maps level d k true true e f o n = ap (λ x. virq_at maps x k) (sym (eqb-true level.0 d e))
    ∙ (ap (virq_at maps level.0) (sym (eqb-true level.1 k f)) ∙ n)
free_by maps level d k true false e f o n = absurd (false≢true o)
free_by maps level d k false u e f o n = absurd (false≢true o)

is_free_by : (maps : List DomainMap) (level : ℕ × ℕ) (rest : List (ℕ × ℕ)) (d k : ℕ) (t : Bool) → is_level d k level ≡ t
    → t || is_on rest d k ≡ true → virq_at maps level.0 level.1 ≡ None
    → (is_on rest d k ≡ true → virq_at maps d k ≡ None) → virq_at maps d k ≡ None
is_free_by maps level rest d k true e o n r = free_by maps level d k (level.0 == d) (level.1 == k) refl refl e n
is_free_by maps level rest d k false e o n r = r o

-- what has room is free
pub is_free : (maps : List DomainMap) (path : List (ℕ × ℕ)) (d k : ℕ) → HasRoom maps path → is_on path d k ≡ true → virq_at maps d k ≡ None
is_free maps [] d k room on = absurd (false≢true on)
is_free maps (level ∷ rest) d k room on = is_free_by maps level rest d k (is_level d k level) refl on room.1 (is_free maps rest d k room.3)

undone : (b : Bool) (v x : Option ℕ) → (b ≡ true → x ≡ None) → cond b None (cond b v x) ≡ x
undone true v x h = sym (h refl)
undone false v x h = refl

-- what was written is given up again
pub gives_back : (maps : List DomainMap) (rest : List (ℕ × ℕ)) (d k : ℕ) (v mid new : Option ℕ) → HasRoom maps rest
    → mid ≡ cond (is_on rest d k) v (virq_at maps d k) → new ≡ cond (is_on rest d k) None mid → new ≡ virq_at maps d k
gives_back maps rest d k v mid new room m n = n ∙ (ap (cond (is_on rest d k) None) m
    ∙ undone (is_on rest d k) v (virq_at maps d k) (is_free maps rest d k room))

pub not_mapped : (answer : AssocAnswer) → (answer ≡ associated.Ok → ⊥) → is_associated answer ≡ false
not_mapped associated.Ok h = absurd (h refl)
not_mapped associated.Taken h = refl
not_mapped associated.OutOfRange h = refl
not_mapped associated.NoMemory h = refl
