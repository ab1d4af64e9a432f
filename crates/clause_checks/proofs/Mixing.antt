-- A search for a clause with another operator: where there is none so far, each definition has one operator.
use Rattle.std.proofs.Common.{◌≡◌, ◌<◌, ℕ, zero, suc, Bool, true, false, not, cond, ◌||◌, List, [], ◌∷◌, ◌++◌, length, map, Some, None, refl, sym, ap, ◌∙◌, arith, get_or, append_assoc, append-nil}
use Rattle.std.specs.List.{list_any}
use Rattle.akl_terms.specs.declared.program.Op.{Op}
use Rattle.akl_terms.specs.declared.program.Op.TheVariants as ops
use Rattle.akl_syntax.specs.Clauses.{Clause}
use Rattle.akl_syntax.specs.GoalView.{goal}
use Rattle.clause_keys.specs.declared.callee.Callee.{Callee}
use Rattle.clause_keys.specs.Keys.{defined_by}
use Rattle.clause_keys.specs.Conditions.{AreUnmixed}
use Rattle.clause_checks.specs.declared.listed.Listed.{Listed}
use Rattle.clause_checks.specs.Within.{goals_in}
use Rattle.clause_checks.specs.Rows.{first, is_callee, own, with_before, same_op, mixed_choice, mixed_definition, key_if_mixed, clause_key}
use Rattle.clause_checks.specs.Tallies.{clause_of, clauses_of, first_op, IsListed, AreListed, next}
use Rattle.clause_checks.proofs.Lists.{neither, left_false}
use Rattle.clause_checks.proofs.SameCallee.{same_callee, is_itself}
use Rattle.clause_checks.proofs.Listings.{op_is}
use Rattle.clause_checks.proofs.Tallying.{clauses_same, clauses_other}

-- ---- operators
op_itself : (op : Op) → same_op op op ≡ true
op_itself ops.Condition = refl
op_itself ops.Commit = refl
op_itself ops.Choice = refl
op_itself ops.Collect = refl

pub equal_ops : (op o : Op) → not (same_op op o) ≡ false → op ≡ o
equal_ops ops.Condition ops.Condition e = refl
equal_ops ops.Commit ops.Commit e = refl
equal_ops ops.Choice ops.Choice e = refl
equal_ops ops.Collect ops.Collect e = refl
equal_ops ops.Condition ops.Commit e = absurd cc
equal_ops ops.Condition ops.Choice e = absurd cc
equal_ops ops.Commit ops.Condition e = absurd cc
equal_ops ops.Commit ops.Choice e = absurd cc
equal_ops ops.Choice ops.Condition e = absurd cc
equal_ops ops.Choice ops.Commit e = absurd cc
equal_ops ops.Condition ops.Collect e = absurd cc
equal_ops ops.Commit ops.Collect e = absurd cc
equal_ops ops.Choice ops.Collect e = absurd cc
equal_ops ops.Collect ops.Condition e = absurd cc
equal_ops ops.Collect ops.Commit e = absurd cc
equal_ops ops.Collect ops.Choice e = absurd cc

-- all have the operator
abbrev pub HaveOp : Op → List Clause → Type 0
HaveOp op [] = Unit {0}
HaveOp op (c ∷ cs) = (op ≡ c.part.op) × HaveOp op cs

-- all have the operator of the first
abbrev pub IsUniform : List Clause → Type 0
IsUniform [] = Unit {0}
IsUniform (c ∷ cs) = HaveOp c.part.op cs

none_differs : (op o : Op) (cs : List Clause) → HaveOp o cs → not (same_op op o) ≡ false → list_any (λ d. not (same_op op d.part.op)) cs ≡ false
none_differs op o [] h e = refl
none_differs op o (c ∷ cs) h e = neither (not (same_op op c.part.op)) _ (ap (λ p. not (same_op op p)) (sym h.0) ∙ e) (none_differs op o cs h.1 e)

by_first_op : (op : Op) (cs : List Clause) → IsUniform cs → list_any (λ d. not (same_op op d.part.op)) cs ≡ not (same_op op (first_op op cs))
by_first_op op [] u = ap not (sym (op_itself op))
by_first_op op (c ∷ cs) u = by_test (not (same_op op c.part.op)) refl
  where
    by_test : (b : Bool) → not (same_op op c.part.op) ≡ b → b || list_any (λ d. not (same_op op d.part.op)) cs ≡ b
    by_test true e = refl
    by_test false e = none_differs op c.part.op cs u e

have_more : (op : Op) (cs : List Clause) (c : Clause) → HaveOp op cs → op ≡ c.part.op → HaveOp op (cs ++ c ∷ [])
have_more op [] c h e = (e, tt)
have_more op (d ∷ cs) c h e = (h.0, have_more op cs c h.1 e)

uniform_more : (cs : List Clause) (c : Clause) → IsUniform cs → c.part.op ≡ first_op c.part.op cs → IsUniform (cs ++ c ∷ [])
uniform_more [] c u e = tt
uniform_more (d ∷ cs) c u e = have_more d.part.op cs c u (sym e)

pub AreUniform : List Clause → Type 0
AreUniform cs = (k : Callee) → IsUniform (clauses_of k cs)

more_uniform : (before : List Clause) (c : Clause) → AreUniform before → c.part.op ≡ first_op c.part.op (own c before) → AreUniform (before ++ c ∷ [])
unfolding AreUniform
more_uniform before c u e k = by_test (is_callee k (defined_by c)) refl
  where
    by_test : (b : Bool) → is_callee k (defined_by c) ≡ b → IsUniform (clauses_of k (before ++ c ∷ []))
    by_test true f =
        let same : k ≡ defined_by c = same_callee k (defined_by c) f in
        rw (clauses_same k before c f, same) (uniform_more (own c before) c (u (defined_by c)) e)
    by_test false f = rw (clauses_other k before c f) (u k)

-- ---- members of a definition
have_op : (op : Op) (k : Callee) (cs : List Clause) (c : Clause) (i : ℕ) → HaveOp op (clauses_of k cs) → i < length cs → get_or cs i c ≡ c → is_callee k (defined_by c) ≡ true → op ≡ c.part.op
have_op op k [] c i h l e f = absurd (omega arith)
have_op op k (d ∷ cs) c zero h l e f =
    let g : is_callee k (defined_by d) ≡ true = ap (λ x. is_callee k (defined_by x)) e ∙ f in
    let m : HaveOp op (d ∷ clauses_of k cs) = rw g at h in
    m.0 ∙ ap (λ x. x.part.op) e
have_op op k (d ∷ cs) c (suc i) h l e f = have_op op k cs c i (rest_of (is_callee k (defined_by d)) h) (omega (arith, l)) e f
  where
    rest_of : (b : Bool) → HaveOp op (cond b (d ∷ clauses_of k cs) (clauses_of k cs)) → HaveOp op (clauses_of k cs)
    rest_of true m = m.1
    rest_of false m = m

of_first : (op : Op) (cs : List Clause) → IsUniform cs → HaveOp (first_op op cs) cs
of_first op [] u = tt
of_first op (c ∷ cs) u = (refl, u)

pub are_unmixed : (cs : List Clause) → AreUniform cs → AreUnmixed cs
unfolding AreUniform
are_unmixed cs u = record {
  same = λ c d m n e. (
      let k = defined_by c in
      let h : HaveOp (first_op c.part.op (clauses_of k cs)) (clauses_of k cs) = of_first c.part.op (clauses_of k cs) (u k) in
      let one = have_op (first_op c.part.op (clauses_of k cs)) k cs c m.0 h m.1 m.2 (is_itself k) in
      let other = have_op (first_op c.part.op (clauses_of k cs)) k cs d n.0 h n.1 n.2 (rw e (is_itself (defined_by d))) in
      sym one ∙ other);
}

-- ---- the search
abbrev pub is_mixed : Listed → Bool
is_mixed x = not (same_op x.clause.now.part.op x.before.op) || list_any mixed_choice (map (λ g. goal g.now) x.goals.items)

pub record MixedSearch (all : List Clause) (rest : List Listed) : Type 0 where
  pub before : List Clause
  pub listed : AreListed before rest
  pub same : first key_if_mixed (with_before before (map clause_of rest)) ≡ first key_if_mixed (with_before [] all)
  pub whole : before ++ map clause_of rest ≡ all
  pub uniform : AreUniform before

pub mixed_start : (xs : List Listed) → AreListed [] xs → MixedSearch (map clause_of xs) xs
unfolding AreUniform
mixed_start xs h = record { before = []; listed = h; same = refl; whole = refl; uniform = λ k. tt }

is_as_defined : (before : List Clause) (x : Listed) → AreUniform before → IsListed before x → is_mixed x ≡ mixed_definition (before, clause_of x) || list_any mixed_choice (goals_in (clause_of x))
unfolding AreUniform
is_as_defined before x u h =
    let op : (clause_of x).part.op ≡ x.clause.now.part.op = op_is x.clause.now in
    let one : list_any (λ d. not (same_op (clause_of x).part.op d.part.op)) (own (clause_of x) before) ≡ not (same_op (clause_of x).part.op (first_op (clause_of x).part.op (own (clause_of x) before))) =
    by_first_op (clause_of x).part.op (own (clause_of x) before) (u (defined_by (clause_of x))) in
    rw (one, ← h.tally.first, op, h.goals) refl

pub mixed_found : {all : List Clause} {x : Listed} {xs : List Listed} → MixedSearch all (x ∷ xs) → is_mixed x ≡ true → Some (clause_key (clause_of x)) ≡ first key_if_mixed (with_before [] all)
mixed_found {all} {x} {xs} s e = by_listed s.before s.listed s.same s.uniform
  where
    by_listed : (before : List Clause) → AreListed before (x ∷ xs) → first key_if_mixed (with_before before (map clause_of (x ∷ xs))) ≡ first key_if_mixed (with_before [] all) → AreUniform before
        → Some (clause_key (clause_of x)) ≡ first key_if_mixed (with_before [] all)
    by_listed before (next l ls) f u =
        let g : mixed_definition (before, clause_of x) || list_any mixed_choice (goals_in (clause_of x)) ≡ true = sym (is_as_defined before x u l) ∙ e in
        (rw g at f)

pub mixed_next : {all : List Clause} {x : Listed} {xs : List Listed} → MixedSearch all (x ∷ xs) → is_mixed x ≡ false → MixedSearch all xs
mixed_next {all} {x} {xs} s e = by_listed s.before s.listed s.same s.whole s.uniform
  where
    by_listed : (before : List Clause) → AreListed before (x ∷ xs) → first key_if_mixed (with_before before (map clause_of (x ∷ xs))) ≡ first key_if_mixed (with_before [] all) → before ++ map clause_of (x ∷ xs) ≡ all
        → AreUniform before → MixedSearch all xs
    by_listed before (next l ls) f w u =
        let g : mixed_definition (before, clause_of x) || list_any mixed_choice (goals_in (clause_of x)) ≡ false = sym (is_as_defined before x u l) ∙ e in
        let op : not (same_op x.clause.now.part.op x.before.op) ≡ false = left_false _ _ e in
        let same_ops : (clause_of x).part.op ≡ first_op (clause_of x).part.op (own (clause_of x) before) = op_is x.clause.now ∙ equal_ops x.clause.now.part.op x.before.op op ∙ l.tally.first in
        record {
          before = before ++ clause_of x ∷ [];
          listed = ls;
          same = rw g at f;
          whole = append_assoc before (clause_of x ∷ []) (map clause_of xs) ∙ w;
          uniform = more_uniform before (clause_of x) u same_ops;
        }

pub mixed_end : {all : List Clause} → MixedSearch all [] → (None ≡ first key_if_mixed (with_before [] all)) × AreUnmixed all
mixed_end s = (s.same, rw (← s.whole, append-nil) (are_unmixed s.before s.uniform))
