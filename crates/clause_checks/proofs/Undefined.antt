-- One index for another: both find the same goals undefined.
use Rattle.std.proofs.Common.{◌≡◌, Bool, ◌||◌, cond, List, length, map, Option, Some, None, is_some, Result, refl, ap, subst, ◌∙◌}
use Rattle.std.specs.Prelude.{option_map}
use Rattle.akl_terms.specs.declared.program.Key.{Key}
use Rattle.akl_syntax.specs.Goals.{Goal, call, choice, lifted, collect, lifted_collect}
use Rattle.akl_syntax.specs.Clauses.{Clause}
use Rattle.clause_keys.specs.declared.callee.Callee.{Callee}
use Rattle.clause_keys.specs.declared.callee.Callee.TheVariants.{Lifted, Collecting}
use Rattle.clause_keys.specs.Keys.{named, defined_by}
use Rattle.clause_keys.specs.Reserved.{reserved_of}
use Rattle.clause_keys.specs.Conditions.{count}
use Rattle.clause_checks.specs.declared.error.LoadError.{LoadError}
use Rattle.clause_checks.specs.declared.error.LoadError.TheVariants.{Undefined}
use Rattle.clause_checks.specs.Within.{goals_in}
use Rattle.clause_checks.specs.Rows.{first, goal_key, key_if_undefined}
use Rattle.clause_checks.specs.Refusals.{Answers}
use Rattle.clause_checks.specs.Tallies.{SameCallees}
use Rattle.clause_checks.proofs.Refusing.{first_same}

pub undefined_same : (ks ls : List Callee) → SameCallees ks ls → (g : Goal) → key_if_undefined ks g ≡ key_if_undefined ls g
undefined_same ks ls h (call s ts) = ap (λ (b : Bool). cond (is_some (reserved_of s (count ts)) || b) None (Some (goal_key (call s ts)))) (h (named s (count ts)))
undefined_same ks ls h (lifted n ns) = ap (λ (b : Bool). cond b None (Some (goal_key (lifted n ns)))) (h (Lifted n (length ns)))
undefined_same ks ls h (lifted_collect n ns r) = ap (λ (b : Bool). cond b None (Some (goal_key (lifted_collect n ns r)))) (h (Collecting n (length ns)))
undefined_same ks ls h (choice ps) = refl
undefined_same ks ls h (collect t gs r) = refl

-- the answer of the last test, by the index of what the clauses define
pub last_answered : (ks : List Callee) (cs : List Clause) (found : Option Key) (r : Result (Unit {0}) LoadError) → SameCallees ks (map defined_by cs)
    → found ≡ first (λ c. first (key_if_undefined ks) (goals_in c)) cs → Answers (option_map Undefined found) r → Answers (option_map Undefined (first (λ c. first (key_if_undefined (map defined_by cs)) (goals_in c)) cs)) r
last_answered ks cs found r h e a =
    let same = first_same (λ c. first (key_if_undefined ks) (goals_in c)) (λ c. first (key_if_undefined (map defined_by cs)) (goals_in c)) (λ c. first_same (key_if_undefined ks) (key_if_undefined (map defined_by cs)) (undefined_same ks (map defined_by cs) h) (goals_in c)) cs in
    subst (λ (o : Option Key). Answers (option_map Undefined o) r) (e ∙ same) a
