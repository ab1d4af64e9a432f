-- What reading a collecting goal rests on.
use Rattle.std.proofs.Common.{◌≡◌, ℕ, ◌<◌, true, List, ◌∷◌, length, map, refl, sym, ap, subst, ◌∙◌, arith, Result, Vec, Global}
use Rattle.std.specs.Prelude.{bytes_eq}
use Rattle.akl_lexemes.specs.declared.fault.Fault.{Fault}
use Rattle.akl_lexemes.specs.declared.lexeme.Lexeme.{Lexeme}
use Rattle.akl_lexemes.specs.declared.lexeme.Lexeme.TheVariants.{Symbol}
use Rattle.akl_text.specs.declared.token.Kind.{Kind}
use Rattle.akl_text.specs.declared.token.Kind.TheVariants as kinds
use Rattle.akl_lexemes.specs.Brackets.{IsTable}
use Rattle.akl_lexemes.specs.Parsed.{Parsed, Nothing, anywhere}
use Rattle.akl_lexemes.proofs.BracketTable.{table_behind}
use Rattle.akl_lexemes.proofs.Refusals.{reads_as}
use Rattle.term_syntax.specs.declared.level.Level.TheVariants.{Sum}
use Rattle.term_syntax.specs.declared.source.SourceTerm.{SourceTerm}
use Rattle.term_syntax.specs.Ends.{ends_chain}
use Rattle.term_syntax.specs.Grammar.{Expr}
use Rattle.term_syntax.specs.Tree.{Tree}
use Rattle.term_syntax.specs.View.{tree}
use Rattle.term_syntax.proofs.Rests.{expr_rest}
use Rattle.term_syntax.proofs.Unique.{expr_one, expr_takes, tail_is}
use Rattle.akl_syntax.specs.declared.source.SourceGoal.{SourceGoal}
use Rattle.akl_syntax.specs.declared.source.SourceGoal.TheVariants as source
use Rattle.akl_syntax.specs.declared.source.SourceGoal.TheOpen as open_goals
use Rattle.akl_syntax.specs.declared.source.SourceGoal.TheFolds.{fold-roll-SourceGoal}
use Rattle.akl_syntax.specs.Ahead.{begins_join}
use Rattle.akl_syntax.specs.Ends.{ends_goal}
use Rattle.akl_syntax.specs.Goals.{Goal, Part, GoalIs, collecting, atom_goal, test, collect, goals, collecting_symbol}
use Rattle.akl_syntax.specs.GoalView.{goal, goal_step, part_step}
use Rattle.akl_syntax.specs.Parts.{IsCollecting, Ended, ended_by, Collected, parts_of}
use Rattle.akl_syntax.proofs.OneGoal.{goal_one, no_join, opposite}

pub goal_collect : (t u : SourceTerm) (v : Vec SourceGoal Global) → goal (source.Collect t v u) ≡ collect (tree t) (goals (map goal v.items)) (tree u)
goal_collect t u v = ap goal (sym (source.rolls-Collect t v u)) ∙ fold-roll-SourceGoal Goal Part goal_step part_step (open_goals.Collect t v u)

-- ---- an expression and a mark behind it
pub ended_takes : {k : Kind} {a b : List Lexeme} {t : Tree} → Ended k a t b → length b < length a
ended_takes (ended_by p) = omega (arith, expr_takes p)

pub table_ended : {k : Kind} {a b : List Lexeme} {t : Tree} (table : List ℕ) → Ended k a t b → IsTable table a → IsTable table b
table_ended {k} {b = b} table (ended_by p) h = table_behind table (Lexeme.Mark k) b (expr_rest (IsTable table) (table_behind table) p h)

module _ (k : Kind) (stops : (c : List Lexeme) → ends_chain Sum (Lexeme.Mark k ∷ c) ≡ true) where
  pub ended_one : {a b b' : List Lexeme} {t t' : Tree} → Ended k a t b → Ended k a t' b' → b ≡ b'
  ended_one {b = b} {b' = b'} (ended_by p) (ended_by q) = tail_is _ _ b b' (expr_one p q (stops b) (stops b')).1

  pub none_ended : (a : List Lexeme) → Nothing (Expr Sum a) (ends_chain Sum) → Nothing (Ended k a) anywhere
  none_ended a none t b (ended_by p) s = none t (Lexeme.Mark k ∷ b) p (stops b)

  pub no_mark : (a r : List Lexeme) (t : Tree) → Expr Sum a t r → ends_chain Sum r ≡ true → ((b : List Lexeme) → r ≡ Lexeme.Mark k ∷ b → ⊥) → Nothing (Ended k a) anywhere
  no_mark a r t p s none _ b (ended_by q) _ = none b (expr_one p q s (stops b)).1

-- ---- what stands behind the term that is collected
record BehindTerm (b d : List Lexeme) : Type 0 where
  pub goals : List Goal
  pub rest : List Lexeme
  pub result : Tree
  pub are : GoalIs b goals (Lexeme.Mark kinds.Comma ∷ rest)
  pub ends : Ended kinds.Close rest result d

behind_term : {a b d : List Lexeme} {t : Tree} {gs : List Goal} → Ended kinds.Comma a t b → Collected a gs d → BehindTerm b d
behind_term {d = d} p (parts_of {c = c} {u = u} {gs = hs} p' g q) =
    record { goals = hs; rest = c; result = u; are = subst (λ (z : List Lexeme). GoalIs z hs (Lexeme.Mark kinds.Comma ∷ c)) (sym (ended_one kinds.Comma (λ z. refl) p p')) g; ends = q }

behind_goals : {b c d : List Lexeme} {gs : List Goal} → GoalIs b gs (Lexeme.Mark kinds.Comma ∷ c) → (x : BehindTerm b d) → Ended kinds.Close c x.result d
behind_goals {c = c} {d = d} g x = subst (λ (z : List Lexeme). Ended kinds.Close z x.result d) (sym (tail_is _ _ c x.rest (goal_one g x.are refl refl).1)) x.ends

pub no_term : (a : List Lexeme) → Nothing (Ended kinds.Comma a) anywhere → Nothing (Collected a) ends_goal
no_term a none _ d (parts_of {b = b} {t = t} p g q) s = none t b p refl

module _ (a b : List Lexeme) (t : Tree) (p : Ended kinds.Comma a t b) where
  pub no_goals : Nothing (GoalIs b) ends_goal → Nothing (Collected a) ends_goal
  no_goals none gs d x s = (let y = behind_term p x in none y.goals (Lexeme.Mark kinds.Comma ∷ y.rest) y.are refl)

  pub no_comma : (r : List Lexeme) (gs : List Goal) → GoalIs b gs r → ends_goal r ≡ true → ((c : List Lexeme) → r ≡ Lexeme.Mark kinds.Comma ∷ c → ⊥) → Nothing (Collected a) ends_goal
  no_comma r gs g e none hs d x s = (let y = behind_term p x in none y.rest (goal_one g y.are e refl).1)

  module _ (c : List Lexeme) (gs : List Goal) (g : GoalIs b gs (Lexeme.Mark kinds.Comma ∷ c)) where
    pub no_result : Nothing (Ended kinds.Close c) anywhere → Nothing (Collected a) ends_goal
    no_result none hs d x s = (let y = behind_term p x in none y.result d (behind_goals g y) refl)

    pub joined_result : (r : List Lexeme) (u : Tree) → Ended kinds.Close c u r → begins_join r ≡ true → Nothing (Collected a) ends_goal
    joined_result r u q j hs d x s = (
        let e : r ≡ d = ended_one kinds.Close (λ z. refl) q (behind_goals g (behind_term p x)) in
        opposite _ (subst (λ (z : List Lexeme). begins_join z ≡ true) e j) (no_join d s))

-- ---- a goal that begins so is a collecting goal
collected_is : {s : List ℕ} {a b : List Lexeme} {gs : List Goal} → bytes_eq s collecting_symbol ≡ true → Collected a gs b → GoalIs (Symbol s ∷ Lexeme.Mark kinds.OpenCall ∷ a) gs b
collected_is w (parts_of (ended_by p) g (ended_by q)) = collecting w p g q

is_collected : {s : List ℕ} {a b : List Lexeme} {gs : List Goal} → bytes_eq s collecting_symbol ≡ true → GoalIs (Symbol s ∷ Lexeme.Mark kinds.OpenCall ∷ a) gs b → Collected a gs b
is_collected w (collecting w' p g q) = parts_of (ended_by p) g (ended_by q)
is_collected w (atom_goal n p) = absurd (opposite _ w n)
is_collected w (test n p e q) = absurd (opposite _ w n)

pub goal_collects : {X : Type 0} (view : X → List Goal × List Lexeme) (x : Result X Fault) (a r : List Lexeme) → IsCollecting a r → Parsed view (Collected r) ends_goal x → Parsed view (GoalIs a) ends_goal x
goal_collects view x a r is h =
    rw is.at (reads_as view (Collected r) (GoalIs (Symbol is.symbol ∷ Lexeme.Mark kinds.OpenCall ∷ r)) ends_goal x (λ gs b q. collected_is is.collects q) (λ gs b q s. is_collected is.collects q) h)
