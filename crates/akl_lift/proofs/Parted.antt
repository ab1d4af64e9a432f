-- A guard and a body in one clause, lifted one behind the other, and the clause of a collecting goal.
use Rattle.std.proofs.lemmas.List.{append-nil}
use Rattle.term_syntax.specs.Variables.{tree_variables}
use Rattle.akl_syntax.specs.Variables.{goals_variables}
use Rattle.std.proofs.Common.{◌≡◌, ℕ, ◌+◌, sym, List, [], ◌++◌, length, map, true, Option, None, refl, ap, ◌∙◌, arith, append_assoc, length-append, Vec, Global, Result, Ok, Err, IfOk}
use Rattle.std.specs.Prelude.{option_map}
use Rattle.akl_terms.specs.declared.program.Op.{Op}
use Rattle.term_syntax.specs.Tree.{Tree}
use Rattle.term_syntax.specs.View.{tree}
use Rattle.akl_syntax.specs.declared.source.Head.{Head}
use Rattle.akl_syntax.specs.declared.source.SourceGoal.{SourceGoal}
use Rattle.akl_syntax.specs.declared.source.SourceClause.{SourceClause}
use Rattle.akl_syntax.specs.declared.source.SourcePart.{SourcePart, roll-SourcePart}
use Rattle.akl_syntax.specs.declared.source.SourceGoal.TheFolds.{fold-roll-SourcePart}
use Rattle.akl_syntax.specs.Goals.{Goal, Goals, Part}
use Rattle.akl_syntax.specs.GoalView.{goal, part, goal_step, part_step}
use Rattle.akl_syntax.specs.Clauses.{Clause}
use Rattle.akl_syntax.specs.Answers.{clause_view}
use Rattle.akl_lift.specs.Lifting.{Origin, choices_in_all, seen_from, without_all, made_all, collect_variables, part_variables, part_order, part_shares, collect_order, collect_shares, collect_clause}
use Rattle.akl_lift.specs.Noting.{outer_all, insides_all, HasNoted}
use Rattle.akl_lift.specs.Scopes.{IsTally, chosen_of, collecting, part_without, made_by}
use Rattle.akl_lift.specs.declared.noting.Inside.{Inside}
use Rattle.akl_lift.specs.declared.scope.Scope.{Scope}
use Rattle.akl_lift.proofs.Outer.{seen-part, seen-collected}
use Rattle.akl_lift.proofs.Notes.{noted_back, length-insides_all}
use Rattle.akl_lift.proofs.Turns.{length-made_all}
use Rattle.akl_lift.proofs.Shares.{Agree, agree_guard, agree_body, agree_goals, same_without_all, same_made_all}

-- the scope has the clause's order, and what it chooses are the arguments of the choices in guard and body
pub record IsScopeOf (s : Scope) (order : List ℕ) (shares : List ℕ → List ℕ) (gs hs : Goals) : Type 0 where
  pub order_is : s.order.items ≡ order
  pub guard : Agree (chosen_of s) shares gs
  pub body : Agree (chosen_of s) shares hs

pub part_scoped : (s : Scope) (args inside : List ℕ) (gs hs : Goals) → s.order.items ≡ seen_from [] (args ++ inside) → IsTally (args ++ inside) s.counts → inside ≡ outer_all gs ++ outer_all hs
    → IsScopeOf s (part_order args gs hs) (part_shares args gs hs) gs hs
part_scoped s args inside gs hs o c e =
    let order : s.order.items ≡ part_order args gs hs = o ∙ ap (λ (ns : List ℕ). seen_from [] (args ++ ns)) e ∙ seen-part args gs hs in
    let flat : args ++ inside ≡ args ++ (outer_all gs ++ outer_all hs) = ap (λ (ns : List ℕ). args ++ ns) e in
    record {
      order_is = order;
      guard = agree_guard s (part_order args gs hs) (args ++ inside) (args ++ part_variables gs hs) order c args gs hs flat refl;
      body = agree_body s (part_order args gs hs) (args ++ inside) (args ++ part_variables gs hs) order c args gs hs flat refl;
    }

-- the scope of a collecting goal's clause
pub record IsCollectScope (s : Scope) (args : List ℕ) (t : Tree) (gs : Goals) : Type 0 where
  pub order_is : s.order.items ≡ collect_order args t gs
  pub guard : Agree (chosen_of s) (collect_shares args t gs) gs

pub collect_scoped : (s : Scope) (args inside : List ℕ) (t : Tree) (gs : Goals) → s.order.items ≡ seen_from [] (args ++ inside) → IsTally (args ++ inside) s.counts → inside ≡ tree_variables t ++ outer_all gs → IsCollectScope s args t gs
collect_scoped s args inside t gs o c e =
    let order : s.order.items ≡ collect_order args t gs = o ∙ ap (λ (ns : List ℕ). seen_from [] (args ++ ns)) (e ∙ sym (append-nil (tree_variables t ++ outer_all gs))) ∙ seen-collected args t gs in
    record {
      order_is = order;
      guard = agree_goals s (collect_order args t gs) (args ++ inside) (args ++ collect_variables t gs) order c (args ++ tree_variables t) gs (ap (λ (ns : List ℕ). args ++ ns) e ∙ sym (append_assoc args (tree_variables t) (outer_all gs))) (sym (append_assoc args (tree_variables t) (goals_variables gs)));
    }

pub second_noted : {noted : List Inside} (w : Origin) (shares : List ℕ → List ℕ) (next : ℕ) (old one : List (List Clause)) (gs hs : Goals) → one ≡ old ++ made_all w shares next gs → HasNoted noted (length old) (insides_all gs ++ insides_all hs)
    → HasNoted noted (length one) (insides_all hs)
second_noted w shares next old one gs hs e n =
    let l : length one ≡ length old + length (insides_all gs) = ap length e ∙ omega (arith, length-append old (made_all w shares next gs), length-made_all w shares next gs, length-insides_all gs) in
    noted_back (insides_all gs) (insides_all hs) l n

abbrev pub part_by : List Goal → Op → List Goal → Part
part_by gs op hs = record { guard = gs; op = op; body = hs; is_written = true }

abbrev pub clause_by : Head → List Tree → Part → Option Tree → List (List ℕ) → ℕ → Clause
clause_by h ts p o ws n = record { head = h; arguments = ts; part = p; collected = o; names = ws; start = n }

-- a guard and a body, lifted one behind the other
module _ (w : Origin) (shares : List ℕ → List ℕ) (next after : ℕ) (gs hs : Goals) (n : after ≡ next + choices_in_all gs) where
  pub made_both : (old one two : List (List Clause)) → one ≡ old ++ made_all w shares next gs → two ≡ one ++ made_all w shares after hs → two ≡ old ++ made_by w shares next gs hs
  made_both old one two e f =
      f ∙ ap (λ (ds : List (List Clause)). ds ++ made_all w shares after hs) e ∙ append_assoc old (made_all w shares next gs) (made_all w shares after hs)
      ∙ ap (λ (k : ℕ). old ++ (made_all w shares next gs ++ made_all w shares k hs)) n

  pub part_lifted : (order : List ℕ) (guard : Vec SourceGoal Global) (op : Op) (body : Vec SourceGoal Global) → map goal guard.items ≡ without_all order shares next gs → map goal body.items ≡ without_all order shares after hs
      → part (roll-SourcePart (record { guard = guard; op = op; body = body })) ≡ part_without order shares next gs op hs
  part_lifted order guard op body e f =
      fold-roll-SourcePart Goal Part goal_step part_step (record { guard = guard; op = op; body = body }) ∙ ap (λ (z : List Goal). part_by z op (map goal body.items)) e
      ∙ ap (part_by (without_all order shares next gs) op) (f ∙ ap (λ (k : ℕ). without_all order shares k hs) n)

-- by what was counted, the same is made of them as by the arguments of their choices
module _ (w : Origin) (s : Scope) (order : List ℕ) (shares : List ℕ → List ℕ) (gs hs : Goals) (i : IsScopeOf s order shares gs hs) (next : ℕ) where
  all_same : (k : ℕ) (fs : Goals) → Agree (chosen_of s) shares fs → without_all s.order.items (chosen_of s) k fs ≡ without_all order shares k fs
  all_same k fs a = ap (λ (o : List ℕ). without_all o (chosen_of s) k fs) i.order_is ∙ same_without_all order (chosen_of s) shares k fs a

  pub part_same : (op : Op) → part_without s.order.items (chosen_of s) next gs op hs ≡ part_without order shares next gs op hs
  part_same op =
      ap (λ (z : List Goal). part_by z op (without_all s.order.items (chosen_of s) (next + choices_in_all gs) hs)) (all_same next gs i.guard)
      ∙ ap (part_by (without_all order shares next gs) op) (all_same (next + choices_in_all gs) hs i.body)

  pub made_same : made_by w (chosen_of s) next gs hs ≡ made_by w shares next gs hs
  made_same =
      ap (λ (ds : List (List Clause)). ds ++ made_all w (chosen_of s) (next + choices_in_all gs) hs) (same_made_all w (chosen_of s) shares next gs i.guard)
      ∙ ap (λ (ds : List (List Clause)). made_all w shares next gs ++ ds) (same_made_all w (chosen_of s) shares (next + choices_in_all gs) hs i.body)

-- ---- the clause of what was lifted
pub clause_is : (x : SourceClause) (h : Head) (ts : List Tree) (p : Part) (o : Option Tree) (ws : List (List ℕ)) (n : ℕ) → x.head ≡ h → map tree x.arguments.items ≡ ts → part x.part ≡ p → option_map tree x.collected ≡ o → x.names.items ≡ ws → x.start ≡ n
    → clause_view x ≡ clause_by h ts p o ws n
clause_is x h ts p o ws n e f g k l m =
    ap (λ (z : Head). clause_by z (map tree x.arguments.items) (part x.part) (option_map tree x.collected) x.names.items x.start) e
    ∙ ap (λ (z : List Tree). clause_by h z (part x.part) (option_map tree x.collected) x.names.items x.start) f
    ∙ ap (λ (z : Part). clause_by h ts z (option_map tree x.collected) x.names.items x.start) g ∙ ap (λ (z : Option Tree). clause_by h ts p z x.names.items x.start) k
    ∙ ap (λ (z : List (List ℕ)). clause_by h ts p o z x.start) l ∙ ap (clause_by h ts p o ws) m

pub answered_clause : {E : Type 0} (r : Result SourceClause E) (q : SourcePart) (h : Head) (ts : List Tree) (p : Part) (ws : List (List ℕ)) (n : ℕ) → IfOk r (λ x. x.head ≡ h) → IfOk r (λ x. map tree x.arguments.items ≡ ts) → IfOk r (λ x. x.part ≡ q) → part q ≡ p
    → IfOk r (λ x. x.collected ≡ None) → IfOk r (λ x. x.names.items ≡ ws) → IfOk r (λ x. x.start ≡ n) → IfOk r (λ x. clause_view x ≡ clause_by h ts p None ws n)
answered_clause (Ok x) q h ts p ws n e f g k c l m = clause_is x h ts p None ws n e f (ap part g ∙ k) (ap (option_map tree) c) l m
answered_clause (Err z) q h ts p ws n e f g k c l m = tt

-- the clause of a collecting goal, by its scope and its guard lifted
pub collecting_same : (w : Origin) (s : Scope) (number : ℕ) (args : List ℕ) (next : ℕ) (t : Tree) (gs : Goals) → IsCollectScope s args t gs → (order : List ℕ) (guard : List Goal) → order ≡ s.order.items → guard ≡ without_all s.order.items (chosen_of s) next gs
    → collecting w number order args t guard ≡ collect_clause w number args next t gs
collecting_same w s number args next t gs i order guard e f =
    ap (λ (o : List ℕ). collecting w number o args t guard) (e ∙ i.order_is)
    ∙ ap (collecting w number (collect_order args t gs) args t) (f ∙ ap (λ (o : List ℕ). without_all o (chosen_of s) next gs) i.order_is ∙ same_without_all (collect_order args t gs) (chosen_of s) (collect_shares args t gs) next gs i.guard)
