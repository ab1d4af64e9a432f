-- What is lifted can be loaded: each goal is reserved or calls what some clause defines, and no clause has too many variables.
use Rattle.std.proofs.Common.{◌≡◌, ℕ, suc, ◌+◌, ◌≤◌, List, ◌∷◌, ◌++◌, length, map, Option, Some, None, refl, sym, ap, subst, ◌∙◌, arith, []}
use Rattle.std.specs.List.{All, Contains}
use Rattle.std.proofs.lemmas.List.{length-map, map-append}
use Rattle.std.proofs.lemmas.List.Elements.{All-nil, All-cons, All-append, Contains-append_left, Contains-append_right}
use Rattle.term_syntax.specs.Tree.{Trees, no_trees, more_trees}
use Rattle.akl_terms.specs.declared.program.Op.{Op}
use Rattle.akl_syntax.specs.Goals.{Goal, Goals, Parts, call, choice, lifted, collect, lifted_collect, no_goals, more_goals, no_parts, more_parts, goals}
use Rattle.akl_syntax.specs.Clauses.{Clause}
use Rattle.term_syntax.specs.Tree.{Tree}
use Rattle.term_syntax.specs.Variables.{tree_variables}
use Rattle.akl_syntax.specs.Variables.{goal_variables, goals_variables, parts_variables, IsClauseNumbered, AreClausesNumbered}
use Rattle.clause_keys.specs.declared.callee.Callee.{Callee}
use Rattle.clause_keys.specs.declared.callee.Callee.TheVariants.{Lifted, Collecting}
use Rattle.clause_keys.specs.declared.reserved.Reserved.{Reserved}
use Rattle.clause_keys.specs.Reserved.{reserved_of}
use Rattle.clause_keys.specs.Keys.{named, by_head, defined_by}
use Rattle.clause_keys.proofs.Defined.{lifted_guard}
use Rattle.clause_keys.specs.Conditions.{count, MayCall, IsLoadable, IsGuard, MayCollect, guarding, collecting, IsClauseLoadable, IsLiftable, a_goal, a_choice, a_collect, AreLiftable, more_liftable, HaveLiftable, a_part, IsClauseLiftable}
use Rattle.akl_lift.specs.Places.{place, placed_variable, placed_trees}
use Rattle.akl_lift.specs.Lifting.{Origin, choices_in, choices_in_all, without, without_all, name_of, part_clause, part_clauses, part_order, part_shares, collect_variables, collect_order, collect_shares, collect_clause, made, made_all, made_inside, made_in_part, joined, clause_choices, clause_order, clause_shares, clause_origin, clause_without, clauses_without, made_of, made_of_all, lifted_clauses}
use Rattle.akl_lift.specs.Whole.{HasPart, IsWhole, AreWhole, HaveGoals, IsRead, AreRead}
use Rattle.akl_lift.proofs.Below.{Below, below_front, below_back, Fits, made_few, made_fits, part_fits, part_few, collect_below, clause_fits}
use Rattle.akl_lift.proofs.Sized.{joined-append, clause_inside}

count_placed : (order : List ℕ) (ts : Trees) → count (placed_trees order ts) ≡ count ts
count_placed order no_trees = refl
count_placed order (more_trees t ts) = ap suc (count_placed order ts)

-- these are among all
abbrev pub Among : List Callee → List Callee → Type 0
Among some all = (k : Callee) → Contains some k → Contains all k

may_call : (some all : List Callee) → Among some all → (k : Callee) (r : Option Reserved) → MayCall some k r → MayCall all k r
may_call some all w k None h = w k h
may_call some all w k (Some r) h = tt

-- what the clauses of these definitions define
abbrev defined : List (List Clause) → List Callee
defined ds = map defined_by (joined ds)

defined-append : (ds es : List (List Clause)) → defined (ds ++ es) ≡ defined ds ++ defined es
defined-append ds es = ap (map defined_by) (joined-append ds es) ∙ map-append defined_by (joined ds) (joined es)

among_front : (ds es : List (List Clause)) (all : List Callee) → Among (defined (ds ++ es)) all → Among (defined ds) all
among_front ds es all w = λ k h. w k (subst (λ (ks : List Callee). Contains ks k) (sym (defined-append ds es)) (Contains-append_left (defined ds) (defined es) k h))

among_back : (ds es : List (List Clause)) (all : List Callee) → Among (defined (ds ++ es)) all → Among (defined es) all
among_back ds es all w = λ k h. w k (subst (λ (ks : List Callee). Contains ks k) (sym (defined-append ds es)) (Contains-append_right (defined ds) (defined es) k h))

-- those of one definition are in front
among_own : (cs : List Clause) (ds : List (List Clause)) (all : List Callee) → Among (map defined_by (cs ++ joined ds)) all → Among (defined ds) all
among_own cs ds all w = λ k h. w k (subst (λ (ks : List Callee). Contains ks k) (sym (map-append defined_by cs (joined ds))) (Contains-append_right (map defined_by cs) (defined ds) k h))

first_of : (k : Callee) (ks : List Callee) → Contains (k ∷ ks) k
first_of k ks = (0, omega arith, refl)

-- as many arguments as there are variables
as_many : (order args : List ℕ) → length (map (placed_variable order) args) ≡ length args
as_many order args = length-map args (placed_variable order)

-- a choice with a part calls what its first clause defines
calls_first : (w : Origin) (number : ℕ) (args : List ℕ) (next : ℕ) (ps : Parts) (more : List Clause) → HasPart ps → HaveGoals ps → Contains (map defined_by (part_clauses w number args next ps ++ more)) (Lifted number (length args))
unfolding defined_by
calls_first w number args next no_parts more h k = elim h [ ]
calls_first w number args next (more_parts gs op hs ps) more h k =
    let e = lifted_guard op number (length (map (placed_variable (part_order args gs hs)) args)) k.4 ∙ ap (Lifted number) (as_many (part_order args gs hs) args) in
    subst (λ (c : Callee). Contains (map defined_by (part_clauses w number args next (more_parts gs op hs ps) ++ more)) c) e (first_of _ _)

-- a collecting goal calls what its only clause defines
calls_only : (w : Origin) (number : ℕ) (args : List ℕ) (next : ℕ) (t : Tree) (gs : Goals) (more : List Clause) → Contains (map defined_by (collect_clause w number args next t gs ∷ more)) (Collecting number (length args))
unfolding defined_by
calls_only w number args next t gs more =
    subst (λ (n : ℕ). Contains (map defined_by (collect_clause w number args next t gs ∷ more)) (Collecting number n)) (as_many (collect_order args t gs) args) (first_of _ _)

-- of goals one by one
module _ (some all : List Callee) (among : Among some all) (n : ℕ) (few : n ≤ 256) where
  loads : (w : Origin) (order : List ℕ) (shares : List ℕ → List ℕ) (next : ℕ) (g : Goal) → IsLiftable some g → IsWhole g → Among (defined (made w shares next g)) all → IsLoadable all (without order shares next g)
  loads w order shares next (call s ts) (a_goal l) h a =
      subst (λ (k : ℕ). MayCall all (named s k) (reserved_of s k)) (sym (count_placed order ts)) (may_call some all among (named s (count ts)) (reserved_of s (count ts)) l)
  loads w order shares next (lifted m ns) (a_goal l) h a = subst (λ (k : ℕ). Contains all (Lifted m k)) (sym (length-map ns (place order))) (among (Lifted m (length ns)) l)
  loads w order shares next (choice ps) (a_goal l) h a = elim l [ ]
  loads w order shares next (choice ps) (a_choice k l) h a =
      let args : List ℕ = shares (parts_variables ps) in
      subst (λ (m : ℕ). Contains all (Lifted next m)) (sym (length-map args (place order)))
      (a (Lifted next (length args)) (calls_first w next args (next + 1) ps (joined (made_inside w args (next + 1) ps)) h.0 h.1))
  loads w order shares next (lifted_collect m ns r) (a_goal l) h a = subst (λ (k : ℕ). Contains all (Collecting m k)) (sym (length-map ns (place order))) (among (Collecting m (length ns)) l)
  loads w order shares next (collect t gs r) (a_goal l) h a = elim l [ ]
  loads w order shares next (collect t gs r) (a_collect l) h a =
      let args : List ℕ = shares (collect_variables t gs) in
      subst (λ (m : ℕ). Contains all (Collecting next m)) (sym (length-map args (place order)))
      (a (Collecting next (length args)) (calls_only w next args (next + 1) t gs (joined (made_all w (collect_shares args t gs) (next + 1) gs))))

  pub all_load : (w : Origin) (order : List ℕ) (shares : List ℕ → List ℕ) (next : ℕ) (gs : Goals) → AreLiftable some gs → AreWhole gs → Among (defined (made_all w shares next gs)) all
      → All (IsLoadable all) (without_all order shares next gs)
  all_load w order shares next no_goals l h a = All-nil (IsLoadable all)
  all_load w order shares next (more_goals g gs) (more_liftable l m) h a =
      All-cons (IsLoadable all) (without order shares next g) (without_all order shares (next + choices_in g) gs)
      (loads w order shares next g l h.0 (among_front (made w shares next g) (made_all w shares (next + choices_in g) gs) all a))
      (all_load w order shares (next + choices_in g) gs m h.1 (among_back (made w shares next g) (made_all w shares (next + choices_in g) gs) all a))

  part_loads : (w : Origin) (number : ℕ) (args : List ℕ) (next : ℕ) (gs : Goals) (op : Op) (hs : Goals) → IsGuard op → AreLiftable some gs → AreLiftable some hs → AreWhole gs → AreWhole hs
      → Below n args → Below n (goals_variables gs) → Below n (goals_variables hs) → Among (defined (made_in_part w args next gs hs)) all → IsClauseLoadable all (part_clause w number args next gs op hs)
  part_loads w number args next gs op hs o l m h k x y z a = record {
    guard = all_load w (part_order args gs hs) (part_shares args gs hs) next gs l h (among_front (made_all w (part_shares args gs hs) next gs) (made_all w (part_shares args gs hs) (next + choices_in_all gs) hs) all a);
    body = all_load w (part_order args gs hs) (part_shares args gs hs) (next + choices_in_all gs) hs m k (among_back (made_all w (part_shares args gs hs) next gs) (made_all w (part_shares args gs hs) (next + choices_in_all gs) hs) all a);
    collected = guarding o;
    few = let e : length (map (name_of w.names) (part_order args gs hs)) ≡ length (part_order args gs hs) = length-map (part_order args gs hs) (name_of w.names) in let f = part_few n args gs hs few x y z in omega (arith, e, f);
  }

  collecting_loads : (w : Origin) (number : ℕ) (args : List ℕ) (next : ℕ) (t : Tree) (gs : Goals) → AreLiftable some gs → AreWhole gs → Below n args → Below n (collect_variables t gs) → Among (defined (made_all w (collect_shares args t gs) next gs)) all
      → IsClauseLoadable all (collect_clause w number args next t gs)
  collecting_loads w number args next t gs l h x y a = record {
    guard = all_load w (collect_order args t gs) (collect_shares args t gs) next gs l h a;
    body = All-nil (IsLoadable all);
    collected = collecting;
    few = let e : length (map (name_of w.names) (collect_order args t gs)) ≡ length (collect_order args t gs) = length-map (collect_order args t gs) (name_of w.names) in let f = made_few n args (collect_variables t gs) few x y in omega (arith, e, f);
  }

  own_load : (w : Origin) (number : ℕ) (args : List ℕ) (next : ℕ) (op : Op) (ps : Parts) → HaveLiftable some op ps → HaveGoals ps → Below n args → Below n (parts_variables ps) → Among (defined (made_inside w args next ps)) all
      → All (IsClauseLoadable all) (part_clauses w number args next ps)
  own_load w number args next op no_parts l h x y a = All-nil (IsClauseLoadable all)
  own_load w number args next op (more_parts gs o hs ps) (a_part l m r) h x y a =
      let both : Below n (goals_variables gs ++ goals_variables hs) = below_front n (goals_variables gs ++ goals_variables hs) (parts_variables ps) y in
      All-cons (IsClauseLoadable all) (part_clause w number args next gs op hs) (part_clauses w number args (next + (choices_in_all gs + choices_in_all hs)) ps)
      (part_loads w number args next gs op hs h.4 l m h.1 h.2 x (below_front n (goals_variables gs) (goals_variables hs) both) (below_back n (goals_variables gs) (goals_variables hs) both)
      (among_front (made_in_part w args next gs hs) (made_inside w args (next + (choices_in_all gs + choices_in_all hs)) ps) all a))
      (own_load w number args (next + (choices_in_all gs + choices_in_all hs)) op ps r h.3 x (below_back n (goals_variables gs ++ goals_variables hs) (parts_variables ps) y)
      (among_back (made_in_part w args next gs hs) (made_inside w args (next + (choices_in_all gs + choices_in_all hs)) ps) all a))

  all_of_both : (ds es : List (List Clause)) → All (IsClauseLoadable all) (joined ds) → All (IsClauseLoadable all) (joined es) → All (IsClauseLoadable all) (joined (ds ++ es))
  all_of_both ds es x y = subst (λ (cs : List Clause). All (IsClauseLoadable all) cs) (sym (joined-append ds es)) (All-append (IsClauseLoadable all) (joined ds) (joined es) x y)

  mutual
    goal_definitions : (w : Origin) (shares : List ℕ → List ℕ) (next : ℕ) (g : Goal) → IsLiftable some g → IsWhole g → Fits n shares → Below n (goal_variables g) → Among (defined (made w shares next g)) all
        → All (IsClauseLoadable all) (joined (made w shares next g))
    goal_definitions w shares next (call s ts) l h f b a = All-nil (IsClauseLoadable all)
    goal_definitions w shares next (lifted m ns) l h f b a = All-nil (IsClauseLoadable all)
    goal_definitions w shares next (choice ps) (a_goal l) h f b a = elim l [ ]
    goal_definitions w shares next (choice ps) (a_choice {op = op} k l) h f b a =
        let args : List ℕ = shares (parts_variables ps) in
        let inner = among_own (part_clauses w next args (next + 1) ps) (made_inside w args (next + 1) ps) all a in
        All-append (IsClauseLoadable all) (part_clauses w next args (next + 1) ps) (joined (made_inside w args (next + 1) ps))
        (own_load w next args (next + 1) op ps l h.1 (f.below (parts_variables ps)) b inner) (inside_definitions w args (next + 1) op ps l h.1 (f.below (parts_variables ps)) b inner)
    goal_definitions w shares next (lifted_collect m ns r) l h f b a = All-nil (IsClauseLoadable all)
    goal_definitions w shares next (collect t gs r) (a_goal l) h f b a = elim l [ ]
    goal_definitions w shares next (collect t gs r) (a_collect l) h f b a =
        let args : List ℕ = shares (collect_variables t gs) in
        let own : Clause = collect_clause w next args (next + 1) t gs in
        let more = made_all w (collect_shares args t gs) (next + 1) gs in
        let inside : Below n (collect_variables t gs) = collect_below n t gs r b in
        let inner = among_own (own ∷ []) more all a in
        All-cons (IsClauseLoadable all) own (joined more) (collecting_loads w next args (next + 1) t gs l h (f.below (collect_variables t gs)) inside inner)
        (goals_definitions w (collect_shares args t gs) (next + 1) gs l h (made_fits n args (collect_variables t gs) few (f.below (collect_variables t gs)) inside) (below_back n (tree_variables t) (goals_variables gs) inside) inner)

    pub goals_definitions : (w : Origin) (shares : List ℕ → List ℕ) (next : ℕ) (gs : Goals) → AreLiftable some gs → AreWhole gs → Fits n shares → Below n (goals_variables gs) → Among (defined (made_all w shares next gs)) all
        → All (IsClauseLoadable all) (joined (made_all w shares next gs))
    goals_definitions w shares next no_goals l h f b a = All-nil (IsClauseLoadable all)
    goals_definitions w shares next (more_goals g gs) (more_liftable l m) h f b a =
        all_of_both (made w shares next g) (made_all w shares (next + choices_in g) gs)
        (goal_definitions w shares next g l h.0 f (below_front n (goal_variables g) (goals_variables gs) b) (among_front (made w shares next g) (made_all w shares (next + choices_in g) gs) all a))
        (goals_definitions w shares (next + choices_in g) gs m h.1 f (below_back n (goal_variables g) (goals_variables gs) b) (among_back (made w shares next g) (made_all w shares (next + choices_in g) gs) all a))

    inside_definitions : (w : Origin) (args : List ℕ) (next : ℕ) (op : Op) (ps : Parts) → HaveLiftable some op ps → HaveGoals ps → Below n args → Below n (parts_variables ps) → Among (defined (made_inside w args next ps)) all
        → All (IsClauseLoadable all) (joined (made_inside w args next ps))
    inside_definitions w args next op no_parts l h x y a = All-nil (IsClauseLoadable all)
    inside_definitions w args next op (more_parts gs o hs ps) (a_part l m r) h x y a =
        let both : Below n (goals_variables gs ++ goals_variables hs) = below_front n (goals_variables gs ++ goals_variables hs) (parts_variables ps) y in
        let guard = below_front n (goals_variables gs) (goals_variables hs) both in
        let body = below_back n (goals_variables gs) (goals_variables hs) both in
        let fits = part_fits n args gs hs few x guard body in
        let here = among_front (made_in_part w args next gs hs) (made_inside w args (next + (choices_in_all gs + choices_in_all hs)) ps) all a in
        all_of_both (made_in_part w args next gs hs) (made_inside w args (next + (choices_in_all gs + choices_in_all hs)) ps)
        (all_of_both (made_all w (part_shares args gs hs) next gs) (made_all w (part_shares args gs hs) (next + choices_in_all gs) hs)
        (goals_definitions w (part_shares args gs hs) next gs l h.1 fits guard (among_front (made_all w (part_shares args gs hs) next gs) (made_all w (part_shares args gs hs) (next + choices_in_all gs) hs) all here))
        (goals_definitions w (part_shares args gs hs) (next + choices_in_all gs) hs m h.2 fits body (among_back (made_all w (part_shares args gs hs) next gs) (made_all w (part_shares args gs hs) (next + choices_in_all gs) hs) all here)))
        (inside_definitions w args (next + (choices_in_all gs + choices_in_all hs)) op ps r h.3 x (below_back n (goals_variables gs ++ goals_variables hs) (parts_variables ps) y)
        (among_back (made_in_part w args next gs hs) (made_inside w args (next + (choices_in_all gs + choices_in_all hs)) ps) all a))

-- ---- programs
defined_without : (next : ℕ) (cs : List Clause) → map defined_by (clauses_without next cs) ≡ map defined_by cs
unfolding defined_by
defined_without next [] = refl
defined_without next (c ∷ cs) = ap (λ (ks : List Callee). by_head c.part.op c.head (length c.arguments) ∷ ks) (defined_without (next + clause_choices c) cs)

module _ (some all : List Callee) (among : Among some all) where
  clause_loads : (next : ℕ) (c : Clause) → IsClauseLiftable some c → IsRead c → IsClauseNumbered c → Among (defined (made_of next c)) all → IsClauseLoadable all (clause_without next c)
  clause_loads next c l r m a =
      let guard = made_all (clause_origin c) (clause_shares c) next (goals c.part.guard) in
      let body = made_all (clause_origin c) (clause_shares c) (next + choices_in_all (goals c.part.guard)) (goals c.part.body) in
      record {
        guard = all_load some all among (length c.names) l.few (clause_origin c) (clause_order c) (clause_shares c) next (goals c.part.guard) l.guard r.guard (among_front guard body all a);
        body = all_load some all among (length c.names) l.few (clause_origin c) (clause_order c) (clause_shares c) (next + choices_in_all (goals c.part.guard)) (goals c.part.body) l.body r.body (among_back guard body all a);
        collected = subst (λ o. MayCollect c.part.op c.head o (clause_without next c).part.body) (sym r.collected) (guarding r.op);
        few = l.few;
      }

  clause_definitions : (next : ℕ) (c : Clause) → IsClauseLiftable some c → IsRead c → IsClauseNumbered c → Among (defined (made_of next c)) all → All (IsClauseLoadable all) (joined (made_of next c))
  clause_definitions next c l r m a =
      let n = length c.names in
      let guard = made_all (clause_origin c) (clause_shares c) next (goals c.part.guard) in
      let body = made_all (clause_origin c) (clause_shares c) (next + choices_in_all (goals c.part.guard)) (goals c.part.body) in
      let inner : Below n (goals_variables (goals c.part.guard) ++ goals_variables (goals c.part.body)) = clause_inside c m in
      let fits = clause_fits c l.few in
      all_of_both some all among n l.few guard body
      (goals_definitions some all among n l.few (clause_origin c) (clause_shares c) next (goals c.part.guard) l.guard r.guard fits (below_front n (goals_variables (goals c.part.guard)) (goals_variables (goals c.part.body)) inner) (among_front guard body all a))
      (goals_definitions some all among n l.few (clause_origin c) (clause_shares c) (next + choices_in_all (goals c.part.guard)) (goals c.part.body) l.body r.body fits (below_back n (goals_variables (goals c.part.guard)) (goals_variables (goals c.part.body)) inner) (among_back guard body all a))

  first_among : (cs ds : List Clause) → Among (map defined_by (cs ++ ds)) all → Among (map defined_by cs) all
  first_among cs ds a = λ k h. a k (subst (λ (ks : List Callee). Contains ks k) (sym (map-append defined_by cs ds)) (Contains-append_left (map defined_by cs) (map defined_by ds) k h))

  rest_among : (cs ds : List Clause) → Among (map defined_by (cs ++ ds)) all → Among (map defined_by ds) all
  rest_among cs ds a = λ k h. a k (subst (λ (ks : List Callee). Contains ks k) (sym (map-append defined_by cs ds)) (Contains-append_right (map defined_by cs) (map defined_by ds) k h))

  clauses_load : (next : ℕ) (cs : List Clause) → All (IsClauseLiftable some) cs → AreRead cs → AreClausesNumbered cs → Among (map defined_by (made_of_all next cs)) all → All (IsClauseLoadable all) (clauses_without next cs)
  clauses_load next [] l r m a = All-nil (IsClauseLoadable all)
  clauses_load next (c ∷ cs) l r m a =
      All-cons (IsClauseLoadable all) (clause_without next c) (clauses_without (next + clause_choices c) cs)
      (clause_loads next c (l 0 c (omega arith)) r.0 m.0 (first_among (joined (made_of next c)) (made_of_all (next + clause_choices c) cs) a))
      (clauses_load (next + clause_choices c) cs (λ k d h. l (suc k) d (omega (arith, h))) r.1 m.1 (rest_among (joined (made_of next c)) (made_of_all (next + clause_choices c) cs) a))

  definitions_load : (next : ℕ) (cs : List Clause) → All (IsClauseLiftable some) cs → AreRead cs → AreClausesNumbered cs → Among (map defined_by (made_of_all next cs)) all → All (IsClauseLoadable all) (made_of_all next cs)
  definitions_load next [] l r m a = All-nil (IsClauseLoadable all)
  definitions_load next (c ∷ cs) l r m a =
      All-append (IsClauseLoadable all) (joined (made_of next c)) (made_of_all (next + clause_choices c) cs)
      (clause_definitions next c (l 0 c (omega arith)) r.0 m.0 (first_among (joined (made_of next c)) (made_of_all (next + clause_choices c) cs) a))
      (definitions_load (next + clause_choices c) cs (λ k d h. l (suc k) d (omega (arith, h))) r.1 m.1 (rest_among (joined (made_of next c)) (made_of_all (next + clause_choices c) cs) a))

-- the clauses of a program that passed the tests of loading can be loaded once they are lifted
pub program_loads : (cs : List Clause) → All (IsClauseLiftable (map defined_by cs)) cs → AreRead cs → AreClausesNumbered cs → All (IsClauseLoadable (map defined_by (lifted_clauses cs))) (lifted_clauses cs)
program_loads cs l r m =
    let all = map defined_by (lifted_clauses cs) in
    let split : all ≡ map defined_by cs ++ map defined_by (made_of_all 0 cs) = map-append defined_by (clauses_without 0 cs) (made_of_all 0 cs) ∙ ap (λ (ks : List Callee). ks ++ map defined_by (made_of_all 0 cs)) (defined_without 0 cs) in
    let front : Among (map defined_by cs) all = λ k h. subst (λ (ks : List Callee). Contains ks k) (sym split) (Contains-append_left (map defined_by cs) (map defined_by (made_of_all 0 cs)) k h) in
    let back : Among (map defined_by (made_of_all 0 cs)) all = λ k h. subst (λ (ks : List Callee). Contains ks k) (sym split) (Contains-append_right (map defined_by cs) (map defined_by (made_of_all 0 cs)) k h) in
    All-append (IsClauseLoadable all) (clauses_without 0 cs) (made_of_all 0 cs) (clauses_load (map defined_by cs) all front 0 cs l r m back) (definitions_load (map defined_by cs) all front 0 cs l r m back)
