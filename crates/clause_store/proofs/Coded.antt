-- What the functions that load goals have put.
use Rattle.std.proofs.Common.{◌≡◌, ℕ, zero, suc, ◌+◌, ◌<◌, ◌≤◌, Bool, true, false, List, [], ◌∷◌, ◌++◌, length, slice_get, get_or, Option, Some, None, ◌⊎◌, inl, inr, refl, sym, ap, subst, ◌∙◌, arith}
use Rattle.std.specs.Prelude.{◌==◌, option_to_list, if◌then◌else◌}
use Rattle.std.specs.List.{Contains}
use Rattle.std.proofs.lemmas.Bool.{eqb-true}
use Rattle.akl_terms.specs.declared.program.Code.{Code}
use Rattle.akl_terms.specs.declared.program.Code.TheVariants as made
use Rattle.akl_terms.specs.declared.program.Test.TheVariants as tests
use Rattle.akl_terms.specs.Template.{Template}
use Rattle.term_syntax.specs.Tree.{Tree, Trees, no_trees, more_trees, trees}
use Rattle.akl_syntax.specs.Sizes.{goal_size, goals_size}
use Rattle.term_syntax.specs.Sizes.{tree_size, trees_size}
use Rattle.akl_syntax.specs.Goals.{Goal, call, choice, lifted, collect, lifted_collect, goals}
use Rattle.clause_keys.specs.declared.callee.Callee.{Callee}
use Rattle.clause_keys.specs.declared.callee.Callee.TheVariants.{Lifted, Collecting}
use Rattle.clause_keys.specs.declared.reserved.Reserved.{Reserved}
use Rattle.clause_keys.specs.declared.reserved.Reserved.TheVariants.{True, Fail, Equal, Arith, OpenPort, Send}
use Rattle.clause_keys.specs.Reserved.{without_arguments, with_two, reserved_of}
use Rattle.clause_keys.specs.Keys.{named, IsAbsent}
use Rattle.clause_keys.specs.Conditions.{count, MayCall}
use Rattle.clause_store.specs.Plain.{plains}
use Rattle.clause_store.specs.Nodes.{Extends, AreNodes, no_nodes, a_node}
use Rattle.clause_store.specs.Codes.{pair, variables, AreCodes, no_codes, true_goal, a_code, fail, equal, arithmetic, open_port, send, calls, calls_lifted, collects}
use Rattle.clause_store.specs.Standing.{StandAt, stand_more, StandsAt, HasRoom, Gains, ArePut}
use Rattle.clause_store.specs.Putting.{reserved_code, IsGoalPut, AreGoalsPut}
use Rattle.clause_store.proofs.Sums.{both, goals_sum}
use Rattle.clause_store.proofs.Growing.{node_stays, still_stands}
use Rattle.clause_store.proofs.Room.{gains_none, gains_trans, gains_less, room_left}
use Rattle.clause_store.proofs.Renamed.{nodes_as, codes_as}
use Rattle.clause_store.proofs.VariableNodes.{variables_size}

-- ---- nodes
pub still_stands_at : {t u : Template} → Extends t u → (at : ℕ) (s : Tree) → StandsAt t at s → StandsAt u at s
still_stands_at g at s p = record { node = p.node; there = node_stays g _ _ p.there; stands = still_stands g p.stands }

pub are_nodes : {t : Template} {first c : ℕ} (ts : Trees) → StandAt t first c (plains ts) → AreNodes (StandsAt t) first ts
are_nodes no_trees p = no_nodes
are_nodes (more_trees s ts) (stand_more e p q) = a_node (record { node = _; there = e; stands = p }) (are_nodes ts q)

pub count_trees : (ts : List Tree) → count (trees ts) ≡ length ts
count_trees [] = refl
count_trees (t ∷ ts) = ap suc (count_trees ts)

pub contained_at : {A : Type 0} (xs : List A) (i : ℕ) (x : A) → i < length xs → get_or xs i x ≡ x → slice_get xs i ≡ Some x
contained_at [] i x h e = absurd (omega arith)
contained_at (y ∷ xs) zero x h e = ap Some e
contained_at (y ∷ xs) (suc i) x h e = contained_at xs i x (omega arith) e

-- ---- what is reserved
chosen : (P : Reserved → Type 0) (b : Bool) (x : Reserved) (rest : Option Reserved) → P x → ((m : Reserved) → rest ≡ Some m → P m) → (m : Reserved) → (if b then Some x else rest) ≡ Some m → P m
chosen P true x rest p q m e = let same : x ≡ m = cc in subst P same p
chosen P false x rest p q m e = q m e

-- how many arguments a reserved goal has
abbrev arity : Reserved → ℕ
arity True = 0
arity Fail = 0
arity m = 2

nothing_chosen : (P : Reserved → Type 0) (m : Reserved) → None ≡ Some m → P m
nothing_chosen P m e = absurd cc

arity_none : (s : List ℕ) (m : Reserved) → without_arguments s ≡ Some m → arity m ≡ 0
arity_none s = chosen P _ True _ refl (chosen P _ Fail _ refl (nothing_chosen P))
  where
    P : Reserved → Type 0
    P m = arity m ≡ 0

arity_two : (s : List ℕ) (m : Reserved) → with_two s ≡ Some m → arity m ≡ 2
arity_two s =
    chosen P _ Equal _ refl (chosen P _ (Arith tests.Is) _ refl (chosen P _ (Arith tests.Less) _ refl (chosen P _ (Arith tests.Greater) _ refl (chosen P _ (Arith tests.AtMost) _ refl
    (chosen P _ (Arith tests.AtLeast) _ refl (chosen P _ (Arith tests.Same) _ refl (chosen P _ (Arith tests.Differs) _ refl (chosen P _ OpenPort _ refl (chosen P _ Send _ refl (nothing_chosen P))))))))))
  where
    P : Reserved → Type 0
    P m = arity m ≡ 2

by_count : (b c : Bool) (x y : Option Reserved) (m : Reserved) → (if b then x else if c then y else None) ≡ Some m → ((b ≡ true) × (x ≡ Some m)) ⊎ ((c ≡ true) × (y ≡ Some m))
by_count true c x y m e = inl (refl, e)
by_count false true x y m e = inr (refl, e)
by_count false false x y m e = absurd cc

arity_is : (s : List ℕ) (n : ℕ) (m : Reserved) → reserved_of s n ≡ Some m → arity m ≡ n
unfolding reserved_of
arity_is s n m e = elim (by_count (n == 0) (n == 2) (without_arguments s) (with_two s) m e) [
  | inl h ↦ arity_none s m h.1 ∙ sym (eqb-true n 0 h.0)
  | inr h ↦ arity_two s m h.1 ∙ sym (eqb-true n 2 h.0)
]

-- no reserved goal has one argument, or more than two
few_arguments : (m : Reserved) (n : ℕ) → arity m ≡ n → n < 3
few_arguments True n e = omega arith
few_arguments Fail n e = omega arith
few_arguments Equal n e = omega arith
few_arguments (Arith test) n e = omega arith
few_arguments OpenPort n e = omega arith
few_arguments Send n e = omega arith

not_one : (m : Reserved) → arity m ≡ 1 → ⊥
not_one True e = omega arith
not_one Fail e = omega arith
not_one Equal e = omega arith
not_one (Arith test) e = omega arith
not_one OpenPort e = omega arith
not_one Send e = omega arith

-- ---- calls
not_contained : {callees : List Callee} {callee : Callee} → Contains callees callee → IsAbsent callees callee → ⊥
not_contained {callees} {callee} k a = a.absent k.0 (contained_at callees k.0 callee k.1 k.2)

some_size : (g : Goal) → 1 ≤ goal_size g
some_size (call s ts) = omega arith
some_size (choice ps) = omega arith
some_size (lifted n ns) = omega arith
some_size (collect t gs r) = omega arith
some_size (lifted_collect n ns r) = omega arith

goal_gains : {old new : Template} {first c : ℕ} {ts : Trees} → ArePut old new first c ts → Gains (suc (trees_size ts)) 0 old new
goal_gains p = gains_less (omega arith) (omega arith) p.gains

module _ {callees : List Callee} {t : Template} (s : List ℕ) (first : ℕ) where
  on_none : (m : Reserved) → reserved_of s 0 ≡ Some m → arity m ≡ 0 → AreCodes callees (StandsAt t) (call s no_trees ∷ []) (option_to_list (reserved_code m first))
  on_none True e a = true_goal e no_codes
  on_none Fail e a = a_code (fail e) no_codes
  on_none Equal e a = absurd (omega arith)
  on_none (Arith test) e a = absurd (omega arith)
  on_none OpenPort e a = absurd (omega arith)
  on_none Send e a = absurd (omega arith)

  on_two : (m : Reserved) {x y : Tree} → reserved_of s 2 ≡ Some m → arity m ≡ 2 → StandsAt t first x → StandsAt t (first + 1) y
      → AreCodes callees (StandsAt t) (call s (pair x y) ∷ []) (option_to_list (reserved_code m first))
  on_two True e a p q = absurd (omega arith)
  on_two Fail e a p q = absurd (omega arith)
  on_two Equal e a p q = a_code (equal e p q) no_codes
  on_two (Arith test) e a p q = a_code (arithmetic e p q) no_codes
  on_two OpenPort e a p q = a_code (open_port e p q) no_codes
  on_two Send e a p q = a_code (send e p q) no_codes

  reserved_codes : (ts : Trees) (m : Reserved) → reserved_of s (count ts) ≡ Some m → arity m ≡ count ts → AreNodes (StandsAt t) first ts
      → AreCodes callees (StandsAt t) (call s ts ∷ []) (option_to_list (reserved_code m first))
  reserved_codes no_trees m e a p = on_none m e a
  reserved_codes (more_trees x no_trees) m e a p = absurd (not_one m a)
  reserved_codes (more_trees x (more_trees y no_trees)) m e a (a_node p (a_node q r)) = on_two m e a p (let z : suc first ≡ first + 1 = omega arith in subst (λ (k : ℕ). StandsAt t k y) z q)
  reserved_codes (more_trees x (more_trees y (more_trees z ts))) m e a p = absurd (omega (arith, few_arguments m _ a))

pub reserved_put : {callees : List Callee} {old new : Template} {first c : ℕ} (s : List ℕ) (ts : Trees) (m : Reserved) → reserved_of s (count ts) ≡ Some m → ArePut old new first c ts
    → IsGoalPut callees old new (call s ts) (reserved_code m first)
reserved_put s ts m e p = record { codes = reserved_codes s _ ts m e (arity_is s (count ts) m e) (are_nodes ts p.stand); gains = goal_gains p }

pub call_put : {callees : List Callee} {old new : Template} {d first c : ℕ} (s : List ℕ) (ts : Trees) → c ≡ count ts → reserved_of s (count ts) ≡ None → slice_get callees d ≡ Some (named s c) → ArePut old new first c ts
    → IsGoalPut callees old new (call s ts) (Some (made.Call d first c))
call_put {callees} {old} {new} {d} {first} s ts e n h p =
    let at : slice_get callees d ≡ Some (named s (count ts)) = h ∙ ap (λ (k : ℕ). Some (named s k)) e in
    record { codes = rw e (a_code (calls n at (are_nodes ts p.stand)) no_codes); gains = goal_gains p }

pub lifted_put : {callees : List Callee} {old new : Template} {n d first c : ℕ} (ns : List ℕ) → c ≡ length ns → slice_get callees d ≡ Some (Lifted n (length ns)) → ArePut old new first (length ns) (variables ns)
    → IsGoalPut callees old new (lifted n ns) (Some (made.Call d first c))
lifted_put ns e h p = record {
  codes = rw e (a_code (calls_lifted h (are_nodes (variables ns) p.stand)) no_codes);
  gains = gains_less (omega (arith, variables_size ns)) (omega (arith, variables_size ns)) p.gains;
}

pub first_node : {Is : ℕ → Tree → Type 0} {first : ℕ} {s : Tree} {ss : Trees} → AreNodes Is first (more_trees s ss) → Is first s
first_node (a_node p q) = p

pub collecting_put : {callees : List Callee} {old mid new : Template} {n d first at c : ℕ} (ns : List ℕ) (r : Tree) → c ≡ length ns → slice_get callees d ≡ Some (Collecting n (length ns)) → ArePut old mid first (length ns) (variables ns)
    → ArePut mid new at 1 (more_trees r no_trees) → IsGoalPut callees old new (lifted_collect n ns r) (Some (made.Collect d first c at))
collecting_put ns r e h p q = record {
  codes = rw e (a_code (collects h (nodes_as (still_stands_at q.gains.extends) (are_nodes (variables ns) p.stand)) (first_node (are_nodes (more_trees r no_trees) q.stand))) no_codes);
  gains = gains_less (omega (arith, variables_size ns)) (omega (arith, variables_size ns)) (gains_trans p.gains q.gains);
}

pub collecting_room : {old mid : Template} {first : ℕ} (ns : List ℕ) (r : Tree) → HasRoom old (suc (length ns + tree_size r)) → ArePut old mid first (length ns) (variables ns) → HasRoom mid (tree_size r)
collecting_room ns r room p = room_left room p.gains (omega (arith, variables_size ns))

pub no_such_callee : {callees : List Callee} {callee : Callee} (o : Option Reserved) → MayCall callees callee o → None ≡ o → IsAbsent callees callee → ⊥
no_such_callee {callees} {callee} o may e h = not_contained (subst (MayCall callees callee) (sym e) may) h

-- ---- goals, one after the other
more_codes : {callees : List Callee} {Is : ℕ → Tree → Type 0} {gs hs : List Goal} {cs ds : List Code} → AreCodes callees Is gs cs → AreCodes callees Is hs ds → AreCodes callees Is (gs ++ hs) (cs ++ ds)
more_codes no_codes q = q
more_codes (true_goal e p) q = true_goal e (more_codes p q)
more_codes (a_code h p) q = a_code h (more_codes p q)

pub goals_start : {callees : List Callee} (t : Template) → AreGoalsPut callees t t [] []
goals_start t = record { codes = no_codes; gains = gains_none t }

pub goals_more : {callees : List Callee} {old mid new : Template} {gs : List Goal} {g : Goal} {cs : List Code} {o : Option Code} → AreGoalsPut callees old mid gs cs → IsGoalPut callees mid new g o
    → AreGoalsPut callees old new (gs ++ g ∷ []) (cs ++ option_to_list o)
goals_more {gs = gs} {g = g} h p = record {
  codes = more_codes (codes_as (still_stands_at p.gains.extends) h.codes) p.codes;
  gains = gains_less (omega (arith, both goals_sum gs (g ∷ []))) (omega (arith, both goals_sum gs (g ∷ []))) (gains_trans h.gains p.gains);
}

pub goal_room : {callees : List Callee} {old mid : Template} {gs : List Goal} {cs : List Code} {n k : ℕ} → HasRoom old n → AreGoalsPut callees old mid gs cs → goals_size (goals gs) + k ≤ n → HasRoom mid k
goal_room r h l = room_left r h.gains l

-- goals have no more codes than their size
pub few_codes : {callees : List Callee} {Is : ℕ → Tree → Type 0} {gs : List Goal} {cs : List Code} → AreCodes callees Is gs cs → length cs ≤ goals_size (goals gs)
few_codes no_codes = omega arith
few_codes (true_goal e p) = omega (arith, few_codes p)
few_codes (a_code {g = g} h p) = omega (arith, some_size g, few_codes p)
