-- What the functions that load clauses and definitions have put.
use Rattle.std.proofs.Common.{◌≡◌, ℕ, zero, suc, ◌+◌, ◌<◌, ◌≤◌, List, [], ◌∷◌, ◌++◌, length, map, take, drop, slice_get, get_or, Option, Some, None, true, refl, sym, ap, subst, ◌∙◌, arith, append_assoc}
use Rattle.std.specs.Prelude.{All, option_map}
use Rattle.std.specs.List.{Contains}
use Rattle.std.proofs.lemmas.List.{length-append, length-map, append-nil, map-append, take_all, take_more}
use Rattle.std.proofs.lemmas.Option.{slice_get_within}
use Rattle.std.proofs.lemmas.List.Elements.{All-nil, All-cons, All-head, All-tail, All-push, All-weaker, All-contains, All-contains_itself}
use Rattle.akl_terms.specs.declared.program.Clause as program
use Rattle.akl_terms.specs.declared.program.Definition.{Definition}
use Rattle.akl_terms.specs.Template.{Template}
use Rattle.term_syntax.specs.Tree.{Tree, trees}
use Rattle.akl_syntax.specs.Goals.{Goal, call, choice, lifted, collect, lifted_collect, goals}
use Rattle.akl_syntax.specs.Clauses.{Clause}
use Rattle.akl_syntax.specs.Sizes.{goals_size, clauses_size}
use Rattle.term_syntax.specs.View.{tree}
use Rattle.akl_syntax.specs.GoalView.{goal, part}
use Rattle.akl_syntax.specs.Answers.{clause_view}
use Rattle.akl_syntax.specs.declared.source.SourceClause.{SourceClause}
use Rattle.akl_syntax.proofs.PartTurns.{part_is}
use Rattle.akl_terms.specs.declared.program.Code.{Code}
use Rattle.clause_keys.specs.declared.callee.Callee.{Callee}
use Rattle.clause_keys.specs.declared.reserved.Reserved.{Reserved}
use Rattle.clause_keys.specs.Reserved.{reserved_of}
use Rattle.clause_keys.specs.Keys.{key_of, named, defined_by, called, called_by, arity_of, Collects}
use Rattle.clause_keys.specs.Conditions.{count, MayCall, IsLoadable, IsClauseLoadable, AreUnmixed}
use Rattle.clause_store.specs.Loaded.{none_collected, a_collected, AreLoaded, none_loaded, one_loaded, AreOf, no_clauses, own, other, IsDefinitionOf}
use Rattle.clause_store.specs.Nodes.{Extends}
use Rattle.clause_store.specs.Standing.{StandsAt, HasRoom, Gains, ArePut}
use Rattle.clause_store.specs.Putting.{AreGoalsPut, IsCollectedPut, IsClausePut, AreClausesPut, IsDefinitionPut, HaveOneOp, IsExtended}
use Rattle.clause_store.specs.Groups.{AreGroups, no_groups, a_group, groups_size, AreGathered}
use Rattle.clause_store.proofs.Sums.{both, clauses_sum}
use Rattle.clause_store.proofs.Growing.{extends_trans}
use Rattle.clause_store.proofs.Room.{gains_none, gains_trans, gains_less, room_left}
use Rattle.clause_store.proofs.Renamed.{nodes_as, collected_as, codes_as, loaded_as, definitions_as}
use Rattle.clause_store.proofs.Coded.{still_stands_at, are_nodes, first_node, contained_at}
use Rattle.clause_store.proofs.Yielded.{IsNext}
use Rattle.clause_store.proofs.Collected.{place_is, collects_each}
use Rattle.clause_store.proofs.Gathered.{groups_sum, groups_length}

-- ---- what is collected
pub collected_put : {old new : Template} {n : ℕ} {t : Tree} → ArePut old new n 1 (trees (t ∷ [])) → IsCollectedPut old new (Some t) (Some n)
collected_put {t = t} p = record { collected = a_collected (first_node (are_nodes (trees (t ∷ [])) p.stand)); gains = gains_less (omega arith) (omega arith) p.gains }

pub collected_none : (t : Template) → IsCollectedPut t t None None
collected_none t = record { collected = none_collected; gains = gains_none t }

-- ---- a clause
pub clause_put : {callees : List Callee} {old t u v new : Template} {first n : ℕ} {node : Option ℕ} {guard body : List Code} (c : SourceClause) (l : program.Clause) → ArePut old t first n (trees (map tree c.arguments.items))
    → IsCollectedPut t u (option_map tree c.collected) node → AreGoalsPut callees u v (map goal c.part.guard.items) guard → AreGoalsPut callees v new (map goal c.part.body.items) body
    → l.variables ≡ length c.names.items → l.first ≡ first → l.count ≡ length (map tree c.arguments.items) → l.guard ≡ guard → l.body ≡ body → l.collected ≡ node → IsClausePut callees old new (clause_view c) l
clause_put {callees} {old} {t} {u} {v} {new} c l p k q r e ef ec eg eb en =
    let is : part c.part ≡ record { guard = map goal c.part.guard.items; op = c.part.op; body = map goal c.part.body.items; is_written = true } = part_is c.part in
    let guard_is : (part c.part).guard ≡ map goal c.part.guard.items = ap (λ x. x.guard) is in
    let body_is : (part c.part).body ≡ map goal c.part.body.items = ap (λ x. x.body) is in
    let guard_size = ap (λ (z : List Goal). goals_size (goals z)) guard_is in
    let body_size = ap (λ (z : List Goal). goals_size (goals z)) body_is in
    let behind : Extends u new = extends_trans q.gains.extends r.gains.extends in
    record {
      clause = record {
        variables = e;
        count = ec;
        arguments = rw ef (nodes_as (still_stands_at (extends_trans k.gains.extends behind)) (are_nodes (trees (map tree c.arguments.items)) p.stand));
        guard = rw (guard_is, eg) (codes_as (still_stands_at r.gains.extends) q.codes);
        body = rw (body_is, eb) r.codes;
        collected = rw en (collected_as (still_stands_at behind) k.collected);
      };
      gains = gains_less (omega (arith, guard_size, body_size)) (omega (arith, guard_size, body_size)) (gains_trans p.gains (gains_trans k.gains (gains_trans q.gains r.gains)));
    }

-- ---- clauses, one after the other
more_loaded : {callees : List Callee} {Is : ℕ → Tree → Type 0} {cs ds : List Clause} {ls ms : List program.Clause} → AreLoaded callees Is cs ls → AreLoaded callees Is ds ms → AreLoaded callees Is (cs ++ ds) (ls ++ ms)
more_loaded none_loaded q = q
more_loaded (one_loaded h p) q = one_loaded h (more_loaded p q)

pub clauses_start : {callees : List Callee} (t : Template) → AreClausesPut callees t t [] []
clauses_start t = record { clauses = none_loaded; gains = gains_none t }

pub clauses_more : {callees : List Callee} {old mid new : Template} {cs : List Clause} {c : Clause} {ls : List program.Clause} {l : program.Clause} → AreClausesPut callees old mid cs ls → IsClausePut callees mid new c l
    → AreClausesPut callees old new (cs ++ c ∷ []) (ls ++ l ∷ [])
clauses_more {cs = cs} {c = c} h p = record {
  clauses = more_loaded (loaded_as (still_stands_at p.gains.extends) h.clauses) (one_loaded p.clause none_loaded);
  gains = gains_less (omega (arith, both clauses_sum cs (c ∷ []))) (omega (arith, both clauses_sum cs (c ∷ []))) (gains_trans h.gains p.gains);
}

pub clause_room : {callees : List Callee} {old mid : Template} {cs : List Clause} {ls : List program.Clause} {n k : ℕ} → HasRoom old n → AreClausesPut callees old mid cs ls → clauses_size cs + k ≤ n → HasRoom mid k
clause_room r h l = room_left r h.gains l

-- ---- the clauses of one definition
pub of_all : {k : Callee} {cs found : List Clause} (P : Clause → Type 0) → AreOf k cs found → All P cs → All P found
of_all P no_clauses a = a
of_all P (own {c = c} {cs = cs} {found = found} e p) a = All-cons P c found (All-head P c cs a) (of_all P p (All-tail P c cs a))
of_all P (other {c = c} {cs = cs} e p) a = of_all P p (All-tail P c cs a)

pub of_defined : {k : Callee} {cs found : List Clause} → AreOf k cs found → All (λ c. defined_by c ≡ k) found
of_defined {k} no_clauses = All-nil (λ c. defined_by c ≡ k)
of_defined {k} (own {c = c} {found = found} e p) = All-cons (λ c. defined_by c ≡ k) c found e (of_defined p)
of_defined (other e p) = of_defined p

pub of_one_op : {k : Callee} {cs found : List Clause} → AreUnmixed cs → AreOf k cs found → HaveOneOp found
of_one_op {k} {cs} {found} u p = λ c d x y.
    u.same c d (All-contains (Contains cs) found c within x) (All-contains (Contains cs) found d within y) (All-contains (λ b. defined_by b ≡ k) found c (of_defined p) x ∙ sym (All-contains (λ b. defined_by b ≡ k) found d (of_defined p) y))
  where
    within : All (Contains cs) found
    within = of_all (Contains cs) p (All-contains_itself cs)

-- ---- what may be called
module _ (known callees : List Callee) (f : (k : Callee) → Contains known k → Contains callees k) where
  may_more : (k : Callee) (o : Option Reserved) → MayCall known k o → MayCall callees k o
  may_more k (Some m) p = tt
  may_more k None p = f k p

  loadable_more : (g : Goal) → IsLoadable known g → IsLoadable callees g
  loadable_more (call s ts) p = may_more (named s (count ts)) (reserved_of s (count ts)) p
  loadable_more (lifted n ns) p = f _ p
  loadable_more (lifted_collect n ns r) p = f _ p
  loadable_more (choice ps) p = absurd p
  loadable_more (collect t gs r) p = absurd p

-- what is known or defined is called by its number
collects_contains : {old all : List Callee} {cs : List Clause} → Collects old cs all → (k : Callee) → Contains (old ++ map defined_by cs) k → Contains all k
collects_contains {old} {all} {cs} p k c = (
    let at = collects_each p c.0 k (contained_at (old ++ map defined_by cs) c.0 k c.1 c.2) in
    (at.0, slice_get_within all at.0 k at.1, place_is all at.0 k at.1))

pub all_loadable : {old all : List Callee} {cs : List Clause} → Collects old cs all → (gs : List Goal) → All (IsLoadable (old ++ map defined_by cs)) gs → All (IsLoadable all) gs
all_loadable {old} {all} {cs} p gs = All-weaker (IsLoadable (old ++ map defined_by cs)) (IsLoadable all) (loadable_more (old ++ map defined_by cs) all (collects_contains p)) gs

clause_loadable : {old all : List Callee} {cs : List Clause} → Collects old cs all → (c : Clause) → IsClauseLoadable (old ++ map defined_by cs) c → IsClauseLoadable all c
clause_loadable p c h = record { guard = all_loadable p c.part.guard h.guard; body = all_loadable p c.part.body h.body; collected = h.collected; few = h.few }

-- ---- the group of a number
pub record GroupAt (cs : List Clause) (ks : List Callee) (n : ℕ) (g : List Clause) : Type 0 where
  pub callee : Callee
  pub there : slice_get ks n ≡ Some callee
  pub found : AreOf callee cs g
  pub some : 0 < length g

pub group_at : {cs : List Clause} {ks : List Callee} {gs : List (List Clause)} (n : ℕ) (g : List Clause) → AreGroups cs ks gs → n < length gs → g ≡ get_or gs n g → GroupAt cs ks n g
group_at n g no_groups h e = absurd (omega arith)
group_at {cs} zero g (a_group {callee = k} {callees = ks} {first = f} {more = m} p q) h e = subst (GroupAt cs (k ∷ ks) 0) (sym e) (record { callee = k; there = refl; found = p; some = omega arith })
group_at (suc n) g (a_group p q) h e = (let r = group_at n g q (omega arith) e in record { callee = r.callee; there = r.there; found = r.found; some = r.some })

mapped_at : {A B : Type 0} (f : A → B) (xs : List A) (n : ℕ) (x : A) → n < length xs → x ≡ get_or xs n x → f x ≡ get_or (map f xs) n (f x)
mapped_at f [] n x h e = absurd (omega arith)
mapped_at f (y ∷ xs) zero x h e = ap f e
mapped_at f (y ∷ xs) (suc n) x h e = mapped_at f xs n x (omega arith) e

-- the group to which a loop over the groups comes
pub next_group : {A : Type 0} {cs : List Clause} {ks : List Callee} {all so_far : List A} {x : A} (view : A → List Clause) → AreGroups cs ks (map view all) → IsNext all so_far x → GroupAt cs ks (length (map view so_far)) (view x)
next_group {cs = cs} {ks = ks} {all = all} {so_far = so_far} {x = x} view p h =
    let len : length (map view so_far) ≡ length so_far = length-map so_far view in
    rw len (group_at (length so_far) (view x) p (omega (arith, h.within, length-map all view)) (mapped_at view all (length so_far) x h.within h.is))

pub group_loadable : {old all : List Callee} {cs g : List Clause} {k : Callee} → Collects old cs all → AreOf k cs g → All (IsClauseLoadable (old ++ map defined_by cs)) cs → All (IsClauseLoadable all) g
group_loadable {old} {all} {cs} {g} p q a = of_all (IsClauseLoadable all) q (All-weaker (IsClauseLoadable (old ++ map defined_by cs)) (IsClauseLoadable all) (clause_loadable p) cs a)

-- ---- definitions, one after the other
pub record DefinitionsSoFar (callees : List Callee) (old cur : Template) (before after : List Definition) (cs : List Clause) (ks : List Callee) (done : List (List Clause)) : Type 0 where
  pub added : List Definition
  pub definitions_are : after ≡ before ++ added
  pub called : map called_by added ≡ take (length done) ks
  pub loaded : All (IsDefinitionOf callees (StandsAt cur) cs) added
  pub gains : Gains (groups_size done) 0 old cur

pub definitions_start : {callees : List Callee} (t : Template) (ds : List Definition) (cs : List Clause) (ks : List Callee) → DefinitionsSoFar callees t t ds ds cs ks []
definitions_start {callees} t ds cs ks = record { added = []; definitions_are = sym (append-nil ds); called = none ks; loaded = All-nil (IsDefinitionOf callees (StandsAt t) cs); gains = gains_none t }
  where
    none : (xs : List Callee) → [] ≡ take 0 xs
    none [] = refl
    none (x ∷ xs) = refl

definition_of : {callees : List Callee} {mid new : Template} {cs g : List Clause} {k : Callee} {d : Definition} → AreOf k cs g → IsDefinitionPut callees mid new g d → (called_by d ≡ k) × IsDefinitionOf callees (StandsAt new) cs d
definition_of {callees} {mid} {new} {cs} {g} {k} {d} p h =
    let q : AreOf k cs (h.first ∷ h.more) = subst (AreOf k cs) h.are p in
    let called : called_by d ≡ k = h.called ∙ All-head (λ c. defined_by c ≡ k) h.first h.more (of_defined q) in (
      called,
      record {
        first = h.first;
        more = h.more;
        found = subst (λ z. AreOf z cs (h.first ∷ h.more)) (sym called) q;
        key = h.key;
        op = subst (All (λ c. c.part.op ≡ d.op)) h.are h.op;
        clauses = subst (λ z. AreLoaded callees (StandsAt new) z d.clauses) h.are h.clauses;
      },
    )

one_taken : (ks : List Callee) (n : ℕ) (k : Callee) → slice_get ks n ≡ Some k → take (n + 1) ks ≡ take n ks ++ k ∷ []
one_taken ks n k e = take_more ks n k (slice_get_within ks n k e) ∙ ap (λ (z : Callee). take n ks ++ z ∷ []) (place_is ks n k e)

pub definitions_more : {callees : List Callee} {old mid new : Template} {before after : List Definition} {cs g : List Clause} {ks : List Callee} {done : List (List Clause)} {d : Definition}
    → DefinitionsSoFar callees old mid before after cs ks done → GroupAt cs ks (length done) g → IsDefinitionPut callees mid new g d
    → DefinitionsSoFar callees old new before (after ++ d ∷ []) cs ks (done ++ g ∷ [])
definitions_more {callees} {old} {mid} {new} {before} {after} {cs} {g} {ks} {done} {d} h at p =
    let one = definition_of at.found p in
    let len : length (done ++ g ∷ []) ≡ length done + 1 = length-append done (g ∷ []) in
    let size : groups_size (done ++ g ∷ []) ≡ groups_size done + (clauses_size g + 0) = both groups_sum done (g ∷ []) in
    record {
      added = h.added ++ d ∷ [];
      definitions_are = ap (λ z. z ++ d ∷ []) h.definitions_are ∙ append_assoc before h.added (d ∷ []);
      called = map-append called_by h.added (d ∷ []) ∙ ap (λ z. map called_by h.added ++ z ∷ []) one.0 ∙ ap (λ z. z ++ at.callee ∷ []) h.called ∙ sym (one_taken ks (length done) at.callee at.there) ∙ ap (λ n. take n ks) (sym len);
      loaded = All-push (IsDefinitionOf callees (StandsAt new) cs) h.added d (definitions_as (still_stands_at p.gains.extends) callees cs h.added h.loaded) one.1;
      gains = gains_less (omega (arith, size)) (omega (arith, size)) (gains_trans h.gains p.gains);
    }

pub group_room : {callees : List Callee} {old mid : Template} {before after : List Definition} {cs : List Clause} {ks : List Callee} {done : List (List Clause)} {n k : ℕ} → HasRoom old n → DefinitionsSoFar callees old mid before after cs ks done → groups_size done + k ≤ n
    → HasRoom mid k
group_room r h l = room_left r h.gains l

-- what was new when clauses were gathered
new_is : {known callees : List Callee} {cs : List Clause} {gs : List (List Clause)} (h : AreGathered known cs callees gs) → drop (length known) callees ≡ h.new
new_is {known} h = ap (drop (length known)) h.callees_are ∙ drop_front known h.new
  where
    drop_front : (xs ys : List Callee) → drop (length xs) (xs ++ ys) ≡ ys
    drop_front [] ys = refl
    drop_front (x ∷ xs) ys = drop_front xs ys

pub gathered_groups : {known callees : List Callee} {cs : List Clause} {gs : List (List Clause)} → AreGathered known cs callees gs → AreGroups cs (drop (length known) callees) gs
gathered_groups {cs = cs} {gs = gs} h = subst (λ z. AreGroups cs z gs) (sym (new_is h)) h.groups

pub definitions_end : {known callees : List Callee} {old new : Template} {before after : List Definition} {cs : List Clause} {gs : List (List Clause)} → AreGathered known cs callees gs
    → DefinitionsSoFar callees old new before after cs (drop (length known) callees) gs → known ≡ map called_by before → IsExtended known callees old new before after cs
definitions_end {known} {callees} {before = before} {after = after} {cs = cs} {gs = gs} h p e =
    let called : map called_by p.added ≡ h.new = p.called ∙ ap (take (length gs)) (new_is h) ∙ take_all (length gs) h.new (omega (arith, groups_length h.groups)) in
    record {
      added = p.added;
      definitions_are = p.definitions_are;
      collected = h.collected;
      callees_are = h.callees_are ∙ ap (λ z. z ++ h.new) e ∙ ap (λ z. map called_by before ++ z) (sym called) ∙ sym (map-append called_by before p.added) ∙ ap (map called_by) (sym p.definitions_are);
      loaded = p.loaded;
      gains = gains_less (omega (arith, h.size)) (omega (arith, h.size)) p.gains;
    }

-- ---- one definition
pub first_of : {A : Type 0} (xs : List A) (x : A) → 0 < length xs → x ≡ get_or xs 0 x → (more : List A) × (xs ≡ x ∷ more)
first_of [] x h e = absurd (omega arith)
first_of (y ∷ xs) x h e = (xs, ap (λ z. z ∷ xs) (sym e))

-- as many as the first clause has
first_arity : {callees : List Callee} {Is : ℕ → Tree → Type 0} {cs more : List Clause} {ls : List program.Clause} {first : Clause} → AreLoaded callees Is cs ls → cs ≡ first ∷ more → arity_of ls ≡ length first.arguments
first_arity none_loaded e = absurd cc
first_arity {first = first} (one_loaded {c = c} h p) e = let same : c ≡ first = cc in h.count ∙ ap (λ (z : Clause). length z.arguments) same

pub definition_put : {callees : List Callee} {old new : Template} {cs : List Clause} {ls : List program.Clause} (d : Definition) (first : Clause) (more : List Clause) → cs ≡ first ∷ more → HaveOneOp cs → AreClausesPut callees old new cs ls
    → d.clauses ≡ ls → d.op ≡ first.part.op → d.key ≡ key_of first.head (length first.arguments) → called d.op d.lifted d.key (length first.arguments) ≡ defined_by first → IsDefinitionPut callees old new cs d
definition_put {callees} {new = new} {cs = cs} d first more e one p ec eo ek ed =
    let here : Contains cs first = subst (λ z. Contains z first) (sym e) (0, omega arith, refl) in
    record {
      first = first;
      more = more;
      are = e;
      called = ap (called d.op d.lifted d.key) (ap arity_of ec ∙ first_arity p.clauses e) ∙ ed;
      key = ek;
      op = All-weaker (Contains cs) (λ c. c.part.op ≡ d.op) (λ c x. one c first x here ∙ sym eo) cs (All-contains_itself cs);
      clauses = subst (λ z. AreLoaded callees (StandsAt new) cs z) (sym ec) p.clauses;
      gains = p.gains;
    }
