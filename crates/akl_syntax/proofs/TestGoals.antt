-- What reading a test rests on.
use Rattle.std.proofs.Common.{◌≡◌, ℕ, true, false, List, [], ◌∷◌, map, Some, None, refl, sym, ap, subst, ◌∙◌, Vec, Global}
use Rattle.akl_lexemes.specs.declared.lexeme.Lexeme.{Lexeme}
use Rattle.term_syntax.specs.declared.level.Level.TheVariants.{Sum}
use Rattle.term_syntax.specs.declared.source.SourceTerm.{SourceTerm}
use Rattle.akl_syntax.specs.declared.source.SourceGoal.TheVariants as written
use Rattle.akl_syntax.specs.declared.source.SourceGoal.TheOpen as open_goals
use Rattle.akl_syntax.specs.declared.source.SourceGoal.TheFolds.{fold-roll-SourceGoal}
use Rattle.term_syntax.specs.Tree.{Tree, trees}
use Rattle.term_syntax.specs.View.{tree}
use Rattle.term_syntax.specs.Grammar.{Expr}
use Rattle.akl_syntax.specs.Goals.{Goal, Part, GoalIs, collecting, atom_goal, test, relation_of, call}
use Rattle.akl_syntax.specs.Goals as made
use Rattle.akl_syntax.specs.GoalView.{goal, goal_step, part_step}
use Rattle.akl_lexemes.specs.Parsed.{Nothing}
use Rattle.term_syntax.specs.Ends.{ends_chain}
use Rattle.akl_syntax.specs.Ahead.{begins_join, is_test}
use Rattle.akl_syntax.specs.Ends.{ends_goal}
use Rattle.term_syntax.proofs.Unique.{expr_one, tail_is}
use Rattle.akl_syntax.proofs.Balance.{atom_is, brackets_is, collecting_is}
use Rattle.akl_syntax.proofs.OneGoal.{no_join, relation_stops, sum_ends, opposite}

pub goal_call : (s : List ℕ) (v : Vec SourceTerm Global) → goal (written.Call s v) ≡ call s (trees (map tree v.items))
goal_call s v = ap goal (sym (written.rolls-Call s v)) ∙ fold-roll-SourceGoal Goal Part goal_step part_step (open_goals.Call s v)

pub record TestIs (a b : List Lexeme) : Type 0 where
  pub o : Lexeme
  pub c : List Lexeme
  pub w : List ℕ
  pub t : Tree
  pub u : Tree
  pub left : Expr Sum a t (o ∷ c)
  pub is : relation_of o ≡ Some w
  pub right : Expr Sum c u b

-- a goal that looks like a test is one
pub the_test : (a b : List Lexeme) (gs : List Goal) → is_test a ≡ true → GoalIs a gs b → ends_goal b ≡ true → TestIs a b
the_test _ b gs h (collecting {s = w} x p g q) s = absurd (opposite _ h (collecting_is w p g q (no_join b s)))
the_test _ b gs h (atom_goal {s = w} n p) s = absurd (opposite _ h (atom_is w p (no_join b s)))
the_test a b gs h (test {o = o} {b = c} {w = w} {t = t} {u = u} n p e q) s = record { o = o; c = c; w = w; t = t; u = u; left = p; is = e; right = q }
the_test _ b gs h (made.brackets p q) s = absurd (opposite _ h (brackets_is p q (no_join b s)))

module _ (a : List Lexeme) (h : is_test a ≡ true) where
  pub no_left : Nothing (Expr Sum a) (ends_chain Sum) → Nothing (GoalIs a) ends_goal
  no_left none gs b p s = (let x = the_test a b gs h p s in none x.t (x.o ∷ x.c) x.left (relation_stops x.o x.c x.w x.is))

  pub no_relation : (r : List Lexeme) (t : Tree) → Expr Sum a t r → ends_chain Sum r ≡ true → ((o : Lexeme) (c : List Lexeme) (w : List ℕ) → r ≡ o ∷ c → relation_of o ≡ Some w → ⊥) → Nothing (GoalIs a) ends_goal
  no_relation r t q k none gs b p s = (let x = the_test a b gs h p s in none x.o x.c x.w (expr_one q x.left k (relation_stops x.o x.c x.w x.is)).1 x.is)

  pub same_behind : (o : Lexeme) (c : List Lexeme) (t : Tree) → Expr Sum a t (o ∷ c) → ends_chain Sum (o ∷ c) ≡ true → (b : List Lexeme) (x : TestIs a b) → Expr Sum c x.u b
  same_behind o c t q k b x = subst (λ (z : List Lexeme). Expr Sum z x.u b) (sym (tail_is o x.o c x.c (expr_one q x.left k (relation_stops x.o x.c x.w x.is)).1)) x.right

  pub no_right : (o : Lexeme) (c : List Lexeme) (t : Tree) → Expr Sum a t (o ∷ c) → ends_chain Sum (o ∷ c) ≡ true → Nothing (Expr Sum c) (ends_chain Sum) → Nothing (GoalIs a) ends_goal
  no_right o c t q k none gs b p s = (let x = the_test a b gs h p s in none x.u b (same_behind o c t q k b x) (sum_ends b s))

  pub joined_behind : (o : Lexeme) (c r : List Lexeme) (t u : Tree) → Expr Sum a t (o ∷ c) → ends_chain Sum (o ∷ c) ≡ true → Expr Sum c u r → ends_chain Sum r ≡ true → begins_join r ≡ true → Nothing (GoalIs a) ends_goal
  joined_behind o c r t u q k q' k' j gs b p s = (
      let x = the_test a b gs h p s in
      let e = (expr_one q' (same_behind o c t q k b x) k' (sum_ends b s)).1 in
      opposite _ (subst (λ (z : List Lexeme). begins_join z ≡ true) e j) (no_join b s))

pub goal_edge : (a : List Lexeme) → begins_join a ≡ false → ends_goal a ≡ true
goal_edge [] e = refl
goal_edge (o ∷ a) e = rw e refl

pub end_is_none : (r : List Lexeme) → r ≡ [] → (o : Lexeme) (c : List Lexeme) (w : List ℕ) → r ≡ o ∷ c → relation_of o ≡ Some w → ⊥
end_is_none r e o c w h x = cc

pub other_is_none : (r : List Lexeme) (o : Lexeme) (c : List Lexeme) → r ≡ o ∷ c → relation_of o ≡ None → (o' : Lexeme) (c' : List Lexeme) (w : List ℕ) → r ≡ o' ∷ c' → relation_of o' ≡ Some w → ⊥
other_is_none r o c e n o' c' w h x = (let same : o ≡ o' = cc in let y : relation_of o' ≡ None = subst (λ (z : Lexeme). relation_of z ≡ None) same n in cc)
