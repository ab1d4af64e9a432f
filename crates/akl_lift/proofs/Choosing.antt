-- A choice or a collecting goal whose definition is put into the place that was kept for it.
use Rattle.std.proofs.Common.{◌≡◌, ℕ, ◌+◌, ◌<◌, List, [], ◌∷◌, ◌++◌, length, map, get_or, sym, ap, ◌∙◌, arith, length-append, Vec, Global, Result, IfOk}
use Rattle.std.specs.Prelude.{slice_set}
use Rattle.std.specs.List.{concat}
use Rattle.std.proofs.lemmas.List.{length-map}
use Rattle.std.proofs.lemmas.Result.{IfOk-weaker}
use Rattle.akl_syntax.specs.Goals.{Goal}
use Rattle.akl_syntax.specs.GoalView.{goal}
use Rattle.akl_syntax.specs.Clauses.{Clause}
use Rattle.akl_syntax.specs.Answers.{clauses_view}
use Rattle.akl_syntax.specs.declared.source.SourceClause.{SourceClause}
use Rattle.akl_syntax.specs.declared.source.SourceGoal.{SourceGoal}
use Rattle.akl_lift.specs.Lifting.{seen_from}
use Rattle.akl_lift.specs.Noting.{Noted, noted_of, inside_view, HasNoted}
use Rattle.akl_lift.specs.Scopes.{chosen, chosen_of}
use Rattle.akl_lift.specs.declared.noting.Inside.{Inside}
use Rattle.akl_lift.specs.declared.scope.Scope.{Scope}
use Rattle.akl_lift.proofs.Slots.{slot_set}
use Rattle.akl_lift.proofs.Notes.{noted_at, noted_back}

-- what was noted of the goal
pub lists_noted : (x : Inside) (lists : List (List ℕ)) → inside_view x ≡ noted_of lists → map (λ v. v.items) x.parts.items ≡ lists
lists_noted x lists e = ap (λ (z : Noted). z.parts) e

pub arguments_noted : (s : Scope) (x : Inside) (lists : List (List ℕ)) (inside vs args : List ℕ) → seen_from [] (concat lists) ≡ seen_from [] inside → inside_view x ≡ noted_of lists → vs ≡ x.variables.items → args ≡ chosen s vs
    → args ≡ chosen_of s inside
arguments_noted s x lists inside vs args same e f g = g ∙ ap (chosen s) (f ∙ ap (λ (z : Noted). z.variables) e ∙ same)

pub next_noted : {noted : List Inside} (old new : List (Vec SourceClause Global)) (p : Vec SourceClause Global) (e : Noted) (es : List Noted) → new ≡ old ++ p ∷ [] → HasNoted noted (length (map clauses_view old)) (e ∷ es)
    → HasNoted noted (length (map clauses_view new)) es
next_noted old new p e es g n =
    let a : length (map clauses_view new) ≡ length new = length-map new clauses_view in
    let b : length (map clauses_view old) ≡ length old = length-map old clauses_view in
    let l : length new ≡ length old + 1 = ap length g ∙ length-append old (p ∷ []) in
    let f : length (map clauses_view new) ≡ length (map clauses_view old) + length (e ∷ []) = omega arith in
    noted_back (e ∷ []) es f n

-- the goal that calls it, whose arguments go by their places
pub calling_goal : {E : Type 0} (r : Result SourceGoal E) (s : Scope) (inside : List ℕ) (calls : List ℕ → List ℕ → Goal) (order given args : List ℕ) → args ≡ chosen_of s inside → given ≡ args → order ≡ s.order.items → IfOk r (λ g. goal g ≡ calls order given)
    → IfOk r (λ g. goal g ≡ calls s.order.items (chosen_of s inside))
calling_goal r s inside calls order given args e f o =
    IfOk-weaker r (λ g. goal g ≡ calls order given) (λ g. goal g ≡ calls s.order.items (chosen_of s inside))
    (λ g h. h ∙ ap (λ ns. calls ns given) o ∙ ap (λ ns. calls s.order.items ns) (f ∙ e))

-- the definition in its place, and what is made inside
pub nested_made : (s : Scope) (inside : List ℕ) (clauses : List ℕ → List Clause) (more : List ℕ → List (List Clause)) (args given : List ℕ) (old one two : List (Vec SourceClause Global)) (p own : Vec SourceClause Global) (at : ℕ) → args ≡ chosen_of s inside
    → given ≡ args → one ≡ old ++ p ∷ [] → map clauses_view two ≡ map clauses_view one ++ more given → at ≡ length old → clauses_view own ≡ clauses given
    → map clauses_view (slice_set two at own) ≡ map clauses_view old ++ clauses (chosen_of s inside) ∷ more (chosen_of s inside)
nested_made s inside clauses more args given old one two p own at e f g h a o =
    slot_set clauses_view old one two p own (more given) at g h a ∙ ap (λ (z : List Clause). map clauses_view old ++ z ∷ more given) o
    ∙ ap (λ (z : List ℕ). map clauses_view old ++ clauses z ∷ more z) (f ∙ e)

-- the note at the place of the next definition
pub here_noted : {noted : List Inside} {es : List Noted} (lists : List (List ℕ)) (ds : List (Vec SourceClause Global)) (at : ℕ) (x : Inside) → at ≡ length ds → x ≡ get_or noted at x → HasNoted noted (length (map clauses_view ds)) (noted_of lists ∷ es) → inside_view x ≡ noted_of lists
here_noted {noted} lists ds at x e q n =
    let l : at ≡ length (map clauses_view ds) = e ∙ sym (length-map ds clauses_view) in
    noted_at x (q ∙ ap (λ (k : ℕ). get_or noted k x) l) n

-- a collecting goal is noted as one list
pub one_list : (lists : List (Vec ℕ Global)) (vs : List ℕ) → map (λ v. v.items) lists ≡ vs ∷ [] → 0 < length lists
one_list [] vs e = absurd cc
one_list (x ∷ lists) vs e = omega arith

pub first_list : (lists : List (Vec ℕ Global)) (x : Vec ℕ Global) (vs : List ℕ) → x ≡ get_or lists 0 x → map (λ v. v.items) lists ≡ vs ∷ [] → x.items ≡ vs
first_list [] x vs q e = absurd cc
first_list (y ∷ lists) x vs q e = let first : y.items ≡ vs = cc in ap (λ (z : Vec ℕ Global). z.items) q ∙ first
