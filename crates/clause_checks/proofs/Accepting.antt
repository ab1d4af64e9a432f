-- Clauses and queries that aren't refused keep the limits, and can be loaded once they are lifted.
use Rattle.std.proofs.Common.{◌≡◌, ◌≤◌, ◌<◌, ℕ, zero, suc, Bool, true, false, ◌||◌, cond, List, [], ◌∷◌, ◌++◌, length, map, Option, Some, None, is_some, Result, Ok, Err, refl, sym, ap, subst, ◌∙◌, get_or, arith, append_assoc, append-nil, length-append}
use Rattle.std.specs.Prelude.{nat_le, option_map, OnOk}
use Rattle.std.specs.Option.{option_or}
use Rattle.std.specs.List.{list_any, All, Contains}
use Rattle.std.proofs.lemmas.List.Elements.{All-nil, All-cons}
use Rattle.std.proofs.lemmas.Bool.Decides.{nat_tests}
use Rattle.akl_terms.specs.declared.program.Key.{Key}
use Rattle.akl_terms.specs.declared.program.Op.{Op}
use Rattle.akl_terms.specs.declared.program.Op.TheVariants as ops
use Rattle.akl_terms.specs.declared.program.Program.{Program}
use Rattle.akl_syntax.specs.Goals.{Goal, Goals, Parts, call, choice, lifted, collect, lifted_collect, no_goals, more_goals, no_parts, more_parts, goals}
use Rattle.akl_syntax.specs.Clauses.{Clause, Query}
use Rattle.clause_keys.specs.declared.callee.Callee.{Callee}
use Rattle.clause_keys.specs.declared.callee.Callee.TheVariants.{Lifted, Collecting}
use Rattle.clause_keys.specs.declared.reserved.Reserved as reserved
use Rattle.clause_keys.specs.Keys.{named, defined_by, called_by}
use Rattle.clause_keys.specs.Reserved.{reserved_of}
use Rattle.clause_keys.specs.Conditions.{count, count_parts, IsNested, HasNoNested, MayCall, IsLoadable, MayCollect, IsClauseLoadable, IsLiftable, a_goal, a_choice, a_collect, AreLiftable, none_liftable, more_liftable, HaveLiftable, no_part, a_part, IsClauseLiftable}
use Rattle.clause_checks.specs.declared.error.LoadError.{LoadError}
use Rattle.clause_checks.specs.declared.error.Limit.TheVariants.{Clauses, PerDefinition, Variables, Arity}
use Rattle.clause_checks.specs.declared.error.LoadError.TheVariants.{TooMany, Reserved, MixedGuards, Undefined}
use Rattle.clause_checks.specs.Within.{goals_of, goals_of_all, goals_of_parts, goals_in, goals_asked}
use Rattle.clause_checks.specs.Rows.{first, above, own, with_before, is_callee, is_defined, goal_key, too_many_parts, too_many_clauses, first_crowded_in_clause, mixed_parts, mixed_choice, mixed_definition, key_if_mixed, clause_key, key_if_reserved, key_if_undefined, first_wide_in_goals, first_wide_in_clause}
use Rattle.clause_checks.specs.Refusals.{Answers, too_many, refusal_of_few, refusal_of, parts_refusal, names_refusal, wide_goals_refusal, mixed_goals_refusal, goals_refusal, query_refusal_of}
use Rattle.clause_checks.specs.Accepted.{AreAccepted, IsAccepted}
use Rattle.clause_checks.specs.Tallies.{SameCallees, clauses_of}
use Rattle.clause_checks.proofs.SameCallee.{same_callee}
use Rattle.clause_checks.proofs.Tallying.{clauses_same, clauses_other}
use Rattle.clause_checks.proofs.Mixing.{equal_ops}
use Rattle.clause_checks.proofs.Lists.{left_false, right_false}
use Rattle.clause_checks.proofs.Refusing.{no_error, none_of, left_none, first_same}
use Rattle.clause_checks.proofs.Undefined.{undefined_same}

-- ---- what no test of goals finds, in each
module _ (ks : List Callee) where
  pub record IsFine (g : Goal) : Type 0 where
    pub defined : key_if_undefined ks g ≡ None
    pub few : too_many_parts g ≡ None
    pub unmixed : mixed_choice g ≡ false

  abbrev AreFine : List Goal → Type 0
  AreFine [] = Unit {0}
  AreFine (g ∷ gs) = IsFine g × AreFine gs

  front_fine : (gs hs : List Goal) → AreFine (gs ++ hs) → AreFine gs
  front_fine [] hs f = tt
  front_fine (g ∷ gs) hs f = (f.0, front_fine gs hs f.1)

  back_fine : (gs hs : List Goal) → AreFine (gs ++ hs) → AreFine hs
  back_fine [] hs f = f
  back_fine (g ∷ gs) hs f = back_fine gs hs f.1

  are_fine : (gs : List Goal) → first (key_if_undefined ks) gs ≡ None → first too_many_parts gs ≡ None → list_any mixed_choice gs ≡ false → AreFine gs
  are_fine [] d f m = tt
  are_fine (g ∷ gs) d f m =
      let p = left_none (key_if_undefined ks g) (first (key_if_undefined ks) gs) d in
      let q = left_none (too_many_parts g) (first too_many_parts gs) f in
      (record { defined = p.0; few = q.0; unmixed = left_false (mixed_choice g) (list_any mixed_choice gs) m }, are_fine gs p.1 q.1 (right_false (mixed_choice g) (list_any mixed_choice gs) m))

  -- ---- goals that are defined
  contained : (ls : List Callee) (k : Callee) → list_any (is_callee k) ls ≡ true → Contains ls k
  contained [] k e = absurd cc
  contained (l ∷ ls) k e = by_first (is_callee k l) refl e (contained ls k)
    where
      by_first : (b : Bool) → is_callee k l ≡ b → b || list_any (is_callee k) ls ≡ true → (list_any (is_callee k) ls ≡ true → Contains ls k) → Contains (l ∷ ls) k
      by_first true f g h = (zero, omega arith, sym (same_callee k l f))
      by_first false f g h =
          let rest : Contains ls k = h g in
          (suc rest.0, omega (arith, rest.1), rest.2)

  defined_by_test : (b : Bool) (k : Key) → cond b None (Some k) ≡ None → b ≡ true
  defined_by_test true k e = refl
  defined_by_test false k e = absurd cc

  may_call : (k : Callee) (o : Option reserved.Reserved) → is_some o || list_any (is_callee k) ks ≡ true → MayCall ks k o
  may_call k (Some meaning) e = tt
  may_call k None e = contained ks k e

  within : (limit n : ℕ) → above limit n ≡ None → n ≤ limit
  within limit n e = grind (arith, nat_tests)

  mutual
    liftable : (g : Goal) → AreFine (goals_of g) → IsLiftable ks g
    liftable (call s ts) f = a_goal (may_call (named s (count ts)) (reserved_of s (count ts)) (defined_by_test (is_defined ks (call s ts)) (goal_key (call s ts)) f.0.defined))
    liftable (lifted n ns) f = a_goal (contained ks (Lifted n (length ns)) (defined_by_test (is_defined ks (lifted n ns)) (goal_key (lifted n ns)) f.0.defined))
    liftable (lifted_collect n ns r) f = a_goal (contained ks (Collecting n (length ns)) (defined_by_test (is_defined ks (lifted_collect n ns r)) (goal_key (lifted_collect n ns r)) f.0.defined))
    liftable (collect t gs r) f = a_collect (all_liftable gs f.1)
    liftable (choice ps) f = (let p = first_part ps f.0.unmixed f.1 in a_choice (within 256 (count_parts ps) f.0.few) p.1)

    all_liftable : (gs : Goals) → AreFine (goals_of_all gs) → AreLiftable ks gs
    all_liftable no_goals f = none_liftable
    all_liftable (more_goals g gs) f = more_liftable (liftable g (front_fine (goals_of g) (goals_of_all gs) f)) (all_liftable gs (back_fine (goals_of g) (goals_of_all gs) f))

    first_part : (ps : Parts) → mixed_choice (choice ps) ≡ false → AreFine (goals_of_parts ps) → (op : Op) × HaveLiftable ks op ps
    first_part no_parts e f = (ops.Choice, no_part)
    first_part (more_parts gs op hs ps) e f =
        let both = front_fine (goals_of_all gs ++ goals_of_all hs) (goals_of_parts ps) f in
        (op, a_part (all_liftable gs (front_fine (goals_of_all gs) (goals_of_all hs) both)) (all_liftable hs (back_fine (goals_of_all gs) (goals_of_all hs) both)) (more_part ps op e (back_fine (goals_of_all gs ++ goals_of_all hs) (goals_of_parts ps) f)))

    more_part : (ps : Parts) (op : Op) → mixed_parts op ps ≡ false → AreFine (goals_of_parts ps) → HaveLiftable ks op ps
    more_part no_parts op e f = no_part
    more_part (more_parts gs o hs ps) op e f =
        let both = front_fine (goals_of_all gs ++ goals_of_all hs) (goals_of_parts ps) f in
        let same : op ≡ o = equal_ops op o (left_false _ _ e) in
        subst (λ x. HaveLiftable ks op (more_parts gs x hs ps)) same
        (a_part (all_liftable gs (front_fine (goals_of_all gs) (goals_of_all hs) both)) (all_liftable hs (back_fine (goals_of_all gs) (goals_of_all hs) both)) (more_part ps op (right_false _ _ e) (back_fine (goals_of_all gs ++ goals_of_all hs) (goals_of_parts ps) f)))

  clause_liftable : (c : Clause) → AreFine (goals_in c) → above 256 (length c.names) ≡ None → IsClauseLiftable ks c
  clause_liftable c f n = record {
    guard = all_liftable (goals c.part.guard) (front_fine (goals_of_all (goals c.part.guard)) (goals_of_all (goals c.part.body)) f);
    body = all_liftable (goals c.part.body) (back_fine (goals_of_all (goals c.part.guard)) (goals_of_all (goals c.part.body)) f);
    few = within 256 (length c.names) n;
  }

  -- ---- without inline choices
  loadable_at : (g : Goal) → (IsNested g → ⊥) → IsLiftable ks g → IsLoadable ks g
  loadable_at g h (a_goal p) = p
  loadable_at g h (a_choice l p) = absurd (h tt)
  loadable_at g h (a_collect p) = absurd (h tt)

  pub plain_loadable : (gs : List Goal) → HasNoNested gs → AreLiftable ks (goals gs) → All (IsLoadable ks) gs
  plain_loadable [] h a = All-nil (IsLoadable ks)
  plain_loadable (g ∷ gs) h (more_liftable p a) = All-cons (IsLoadable ks) g gs (loadable_at g (h zero g (omega arith)) p) (plain_loadable gs (λ i d l. h (suc i) d (omega (arith, l))) a)

-- ---- clauses
-- a clause is no 257th of its definition
not_crowded : (all before : List Clause) (c : Clause) → too_many_clauses all (before, c) ≡ None → length (own c before) < 256
not_crowded all before c e = by_test (nat_le 256 (length (own c before))) refl e
  where
    by_test : (b : Bool) → nat_le 256 (length (own c before)) ≡ b → cond b (Some (length (own c all))) None ≡ None → length (own c before) < 256
    by_test true f g = absurd cc
    by_test false f g = grind (arith, nat_tests)

few_of_each : (all before cs : List Clause) → ((k : Callee) → length (clauses_of k before) ≤ 256) → first (first_crowded_in_clause all) (with_before before cs) ≡ None → (k : Callee) → length (clauses_of k (before ++ cs)) ≤ 256
few_of_each all before [] h e k = rw append-nil (h k)
few_of_each all before (c ∷ cs) h e k =
    let p = left_none (first_crowded_in_clause all (before, c)) (first (first_crowded_in_clause all) (with_before (before ++ c ∷ []) cs)) e in
    let own_few : length (own c before) < 256 = not_crowded all before c (left_none (too_many_clauses all (before, c)) (first too_many_parts (goals_in c)) p.0).0 in
    subst (λ z. length (clauses_of k z) ≤ 256) (append_assoc before (c ∷ []) cs) (few_of_each all (before ++ c ∷ []) cs (λ l. one_more l own_few (is_callee l (defined_by c)) refl) p.1 k)
  where
    one_more : (l : Callee) → length (own c before) < 256 → (b : Bool) → is_callee l (defined_by c) ≡ b → length (clauses_of l (before ++ c ∷ [])) ≤ 256
    one_more l few true f =
        let same : l ≡ defined_by c = same_callee l (defined_by c) f in
        let own_length : length (clauses_of l before) ≡ length (own c before) = ap (λ x. length (clauses_of x before)) same in
        rw (clauses_same l before c f) (omega (arith, few, own_length, length-append (clauses_of l before) (c ∷ [])))
    one_more l few false f = rw (clauses_other l before c f) (h l)

-- what no test of a clause finds with those before it
parts_few : (all before cs : List Clause) → first (first_crowded_in_clause all) (with_before before cs) ≡ None → (i : ℕ) (d : Clause) → i < length cs → first too_many_parts (goals_in (get_or cs i d)) ≡ None
parts_few all before [] e i d l = absurd (omega arith)
parts_few all before (c ∷ cs) e zero d l = (let p = left_none (first_crowded_in_clause all (before, c)) (first (first_crowded_in_clause all) (with_before (before ++ c ∷ []) cs)) e in (left_none (too_many_clauses all (before, c)) (first too_many_parts (goals_in c)) p.0).1)
parts_few all before (c ∷ cs) e (suc i) d l = parts_few all (before ++ c ∷ []) cs (left_none (first_crowded_in_clause all (before, c)) (first (first_crowded_in_clause all) (with_before (before ++ c ∷ []) cs)) e).1 i d (omega (arith, l))

not_found : (b : Bool) (k : Key) → cond b (Some k) None ≡ None → b ≡ false
not_found true k e = absurd cc
not_found false k e = refl

parts_unmixed : (before cs : List Clause) → first key_if_mixed (with_before before cs) ≡ None → (i : ℕ) (d : Clause) → i < length cs → list_any mixed_choice (goals_in (get_or cs i d)) ≡ false
parts_unmixed before [] e i d l = absurd (omega arith)
parts_unmixed before (c ∷ cs) e zero d l =
    right_false (mixed_definition (before, c)) (list_any mixed_choice (goals_in c)) (not_found _ (clause_key c) (left_none (key_if_mixed (before, c)) (first key_if_mixed (with_before (before ++ c ∷ []) cs)) e).0)
parts_unmixed before (c ∷ cs) e (suc i) d l = parts_unmixed (before ++ c ∷ []) cs (left_none (key_if_mixed (before, c)) (first key_if_mixed (with_before (before ++ c ∷ []) cs)) e).1 i d (omega (arith, l))

pub accepted : (cs : List Clause) → refusal_of cs ≡ None → AreAccepted cs
unfolding refusal_of refusal_of_few
accepted cs e =
    let ks : List Callee = map defined_by cs in
    let one = left_none (too_many Clauses (above 10000 (length cs))) (refusal_of_few cs) e in
    let two = left_none (too_many PerDefinition (first (first_crowded_in_clause cs) (with_before [] cs))) _ one.1 in
    let three = left_none (too_many Variables (first (λ c. above 256 (length c.names)) cs)) _ two.1 in
    let four = left_none (too_many Arity (first first_wide_in_clause cs)) _ three.1 in
    let five = left_none (option_map Reserved (first key_if_reserved cs)) _ four.1 in
    let six = left_none (option_map MixedGuards (first key_if_mixed (with_before [] cs))) _ five.1 in
    let crowded = no_error (TooMany PerDefinition) (first (first_crowded_in_clause cs) (with_before [] cs)) two.0 in
    let variables = no_error (TooMany Variables) (first (λ c. above 256 (length c.names)) cs) three.0 in
    let mixed = no_error MixedGuards (first key_if_mixed (with_before [] cs)) six.0 in
    let undefined = no_error Undefined (first (λ c. first (key_if_undefined ks) (goals_in c)) cs) six.1 in
    record {
      few = within ks 10000 (length cs) (no_error (TooMany Clauses) (above 10000 (length cs)) one.0);
      few_own = λ c. few_of_each cs [] cs (λ k. omega arith) crowded (defined_by c);
      liftable = λ i d l. clause_liftable ks (get_or cs i d)
          (are_fine ks (goals_in (get_or cs i d)) (none_of (λ c. first (key_if_undefined ks) (goals_in c)) cs undefined i d l) (parts_few cs [] cs crowded i d l) (parts_unmixed [] cs mixed i d l))
          (none_of (λ c. above 256 (length c.names)) cs variables i d l);
      narrow = λ i d l. none_of first_wide_in_clause cs (no_error (TooMany Arity) (first first_wide_in_clause cs) four.0) i d l;
      unreserved = λ i d l. none_of key_if_reserved cs (no_error Reserved (first key_if_reserved cs) five.0) i d l;
    }

pub clauses_loadable : (cs : List Clause) → AreAccepted cs → All (λ c. HasNoNested c.part.guard → HasNoNested c.part.body → MayCollect c.part.op c.head c.collected c.part.body → IsClauseLoadable (map defined_by cs) c) cs
clauses_loadable cs a = λ i d l.
    let p : IsClauseLiftable (map defined_by cs) (get_or cs i d) = a.liftable i d l in
    λ g b m. record { guard = plain_loadable (map defined_by cs) (get_or cs i d).part.guard g p.guard; body = plain_loadable (map defined_by cs) (get_or cs i d).part.body b p.body; collected = m; few = p.few }

-- ---- a query
no_mixed : (b : Bool) (e : LoadError) → cond b (Some e) None ≡ None → b ≡ false
no_mixed true e h = absurd cc
no_mixed false e h = refl

pub query_accepted : (p : Program) (q : Query) → query_refusal_of p q ≡ None → IsAccepted (map called_by p.definitions) q
unfolding query_refusal_of goals_refusal
query_accepted p q e =
    let ks : List Callee = map called_by p.definitions in
    let gs : List Goal = goals_asked q in
    let one = left_none (too_many PerDefinition (first too_many_parts gs)) _ e in
    let two = left_none (too_many Variables (above 256 (length q.names))) _ one.1 in
    let three = left_none (too_many Arity (first_wide_in_goals (goals q.goals))) _ two.1 in
    let four = left_none (cond (list_any mixed_choice gs) (Some _) None) _ three.1 in
    record {
      few = within ks 256 (length q.names) (no_error (TooMany Variables) (above 256 (length q.names)) two.0);
      liftable = all_liftable ks (goals q.goals) (are_fine ks gs (no_error Undefined (first (key_if_undefined ks) gs) four.1) (no_error (TooMany PerDefinition) (first too_many_parts gs) one.0) (no_mixed (list_any mixed_choice gs) _ four.0));
      narrow = no_error (TooMany Arity) (first_wide_in_goals (goals q.goals)) three.0;
    }

-- ---- answers
pub checked_clauses : (cs ds : List Clause) (n : Option ℕ) (r : Result (Unit {0}) LoadError) → ds ≡ cs → n ≡ above 10000 (length cs) → too_many Clauses n ≡ None → Answers (refusal_of_few ds) r → Answers (refusal_of cs) r
unfolding refusal_of
checked_clauses cs ds n r e f g h =
    let rest : refusal_of cs ≡ refusal_of_few cs = rw (sym (ap (too_many Clauses) f) ∙ g) refl in
    subst (λ o. Answers o r) (sym rest) (subst (λ x. Answers (refusal_of_few x) r) e h)

-- the answer for goals, by another index of the same callees
goals_same : (ks ls : List Callee) (n : ℕ) (asked : Goals) (gs : List Goal) → SameCallees ks ls → goals_refusal ks n asked gs ≡ goals_refusal ls n asked gs
unfolding goals_refusal
goals_same ks ls n asked gs h =
    ap (λ o. option_or (parts_refusal gs) (option_or (names_refusal n) (option_or (wide_goals_refusal asked) (option_or (mixed_goals_refusal gs) (option_map Undefined o)))))
    (first_same (key_if_undefined ks) (key_if_undefined ls) (undefined_same ks ls h) gs)

pub checked_query : (p : Program) (q : Query) (ks : List Callee) (n : ℕ) (asked : Goals) (gs : List Goal) (r : Result (Unit {0}) LoadError) → SameCallees ks (map called_by p.definitions) → n ≡ length q.names → asked ≡ goals q.goals
    → gs ≡ goals_asked q → Answers (goals_refusal ks n asked gs) r → Answers (query_refusal_of p q) r
unfolding query_refusal_of
checked_query p q ks n asked gs r e f a g h =
    let ls = map called_by p.definitions in
    let same : goals_refusal ls n asked gs ≡ goals_refusal ls (length q.names) (goals q.goals) (goals_asked q) = rw (f, a, g) refl in
    subst (λ o. Answers o r) (goals_same ks ls n asked gs e ∙ same) h

pub on_ok : {P : Type 0} (o : Option LoadError) (r : Result (Unit {0}) LoadError) → Answers o r → (o ≡ None → P) → OnOk r P
on_ok o (Ok x) a f = f a
on_ok o (Err e) a f = tt
