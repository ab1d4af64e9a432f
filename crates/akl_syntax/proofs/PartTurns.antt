-- What reading goals, parts and inline choices rests on.
use Rattle.std.proofs.Common.{◌≡◌, ℕ, ◌<◌, ◌≤◌, Bool, true, false, List, [], ◌∷◌, ◌++◌, length, map, Option, Some, None, refl, sym, ap, subst, ◌∙◌, arith, append_assoc, Result, Vec, Global}
use Rattle.std.proofs.lemmas.List.{append-nil}
use Rattle.std.specs.Prelude.{is_some, option_map}
use Rattle.akl_lexemes.specs.declared.lexeme.Lexeme.{Lexeme}
use Rattle.akl_lexemes.specs.declared.lexeme.Lexeme.TheVariants.{Symbol, Variable, Integer}
use Rattle.akl_text.specs.declared.token.Kind.{Kind}
use Rattle.akl_text.specs.declared.token.Kind.TheVariants as kinds
use Rattle.akl_terms.specs.declared.program.Op.{Op}
use Rattle.akl_lexemes.specs.declared.fault.Fault.{Fault}
use Rattle.akl_syntax.specs.declared.source.SourceGoal.TheVariants as source
use Rattle.akl_syntax.specs.declared.source.SourcePart.{SourcePart, is-SourcePart'}
use Rattle.akl_syntax.specs.declared.source.SourceGoal.TheOpen as open_goals
use Rattle.akl_syntax.specs.declared.source.SourceGoal.TheFolds.{fold-roll-SourceGoal, fold-roll-SourcePart}
use Rattle.term_syntax.specs.Tree.{Tree}
use Rattle.term_syntax.specs.Grammar.{Arguments}
use Rattle.akl_syntax.specs.Goals.{Goal, Part, GoalIs, Conj, Conjs, PartIs, PartsAre, collecting, atom_goal, test, conj, no_conjs, and, unguarded, guarded, no_parts_more, or, guard_of, begins_collect, inlined, written, choice, parts}
use Rattle.akl_syntax.specs.Goals as made
use Rattle.akl_syntax.specs.GoalView.{goal, part, goal_step, part_step}
use Rattle.akl_syntax.specs.Parts.{guard_at, Guarded, body_of, Alternatives, behind_first}
use Rattle.akl_lexemes.specs.Parsed.{anywhere, Nothing, Parsed}
use Rattle.akl_syntax.specs.Ahead.{begins_join, is_test}
use Rattle.akl_syntax.specs.Ends.{ends_goal, ends_conj, ends_part, ends_parts}
use Rattle.akl_lexemes.proofs.Refusals.{reads_as}
use Rattle.term_syntax.proofs.Unique.{tail_is, or_false}
use Rattle.akl_syntax.proofs.Balance.{test_is, behind_arguments, part_even, parts_even}
use Rattle.akl_syntax.proofs.OneGoal.{goal_one, conj_one, part_one, parts_one, goal_takes, part_takes, conj_ends, conjs_end, parts_end, guard_ends, guard_goes, conj_no_guard, opposite}
use Rattle.akl_syntax.proofs.TestGoals.{goal_edge}

-- ---- what source goals and parts stand for
pub goal_choice : (v : Vec SourcePart Global) → goal (source.Choice v) ≡ choice (parts (map part v.items))
goal_choice v = ap goal (sym (source.rolls-Choice v)) ∙ fold-roll-SourceGoal Goal Part goal_step part_step (open_goals.Choice v)

pub part_is : (p : SourcePart) → part p ≡ record { guard = map goal p.guard.items; op = p.op; body = map goal p.body.items; is_written = true }
part_is p = ap part (is-SourcePart' p) ∙ fold-roll-SourcePart Goal Part goal_step part_step (record { guard = p.guard; op = p.op; body = p.body })

-- ---- calls
pub no_call : (s : List ℕ) (a : List Lexeme) → is_test (Symbol s ∷ a) ≡ false → begins_collect (Symbol s ∷ a) ≡ false → Nothing (Arguments a) anywhere → Nothing (GoalIs (Symbol s ∷ a)) ends_goal
no_call s _ f n none _ b (collecting w p g q) e = opposite _ w n
no_call s a f n none _ b (atom_goal n' p) e = none _ b p refl
no_call s a f n none _ b (test n' q e r) k = opposite _ (test_is _ q e) f

pub call_edge : (s : List ℕ) (a b : List Lexeme) (ts : List Tree) → is_test (Symbol s ∷ a) ≡ false → Arguments a ts b → ends_goal b ≡ true
call_edge s a b ts f p = goal_edge b (subst (λ (z : List Lexeme). begins_join z ≡ false) (behind_arguments p) f)

-- ---- conjunctions
pub record GoalsSoFar (start : List Lexeme) (found : List Goal) (rest : List Lexeme) : Type 0 where
  pub onward : (gs : List Goal) (b : List Lexeme) → Conjs rest gs b → Conj start (found ++ gs) b
  pub back : (gs : List Goal) (b : List Lexeme) → Conj start gs b → ends_conj b ≡ true → (others : List Goal) × Conjs rest others b
  pub within : length rest ≤ length start
  pub edge : ends_goal rest ≡ true

goals_behind : {a b c : List Lexeme} {gs hs : List Goal} → GoalIs a gs b → ends_goal b ≡ true → Conj a hs c → ends_conj c ≡ true → (others : List Goal) × Conjs b others c
goals_behind {c = c} p s (conj {hs = hs} p' q) s' = (hs, subst (λ (z : List Lexeme). Conjs z hs c) (sym (goal_one p p' s (conjs_end q s')).1) q)

pub goals_start : {a b : List Lexeme} {gs : List Goal} → GoalIs a gs b → ends_goal b ≡ true → GoalsSoFar a gs b
goals_start p s = record {
  onward = λ gs b q. conj p q;
  back = λ gs b q s'. goals_behind p s q s';
  within = omega (arith, goal_takes p);
  edge = s;
}

conjs_behind : {a b c : List Lexeme} {gs hs : List Goal} → GoalIs a gs b → ends_goal b ≡ true → Conjs (Lexeme.Mark kinds.Comma ∷ a) hs c → ends_conj c ≡ true → (others : List Goal) × Conjs b others c
conjs_behind p s no_conjs s' = absurd cc
conjs_behind {c = c} p s (and {hs = hs} p' q) s' = (hs, subst (λ (z : List Lexeme). Conjs z hs c) (sym (goal_one p p' s (conjs_end q s')).1) q)

pub goals_step : {start a b : List Lexeme} {found gs : List Goal} → GoalsSoFar start found (Lexeme.Mark kinds.Comma ∷ a) → GoalIs a gs b → ends_goal b ≡ true → GoalsSoFar start (found ++ gs) b
goals_step {start} {found = found} {gs = gs} h p s = record {
  onward = λ hs c q. rw append_assoc (h.onward (gs ++ hs) c (and p q));
  back = λ hs c q s'. (let k = h.back hs c q s' in conjs_behind p s k.1 s');
  within = omega (arith, h.within, goal_takes p);
  edge = s;
}

pub goals_end : {start rest : List Lexeme} {found : List Goal} → GoalsSoFar start found rest → Conj start found rest
goals_end {start} {rest} {found} h = subst (λ (z : List Goal). Conj start z rest) (append-nil found) (h.onward [] rest no_conjs)

conjs_not : {a b : List Lexeme} {gs : List Goal} → Nothing (GoalIs a) ends_goal → Conjs (Lexeme.Mark kinds.Comma ∷ a) gs b → ends_conj b ≡ true → ⊥
conjs_not none no_conjs s = absurd cc
conjs_not none (and p q) s = none _ _ p (conjs_end q s)

pub goals_none : {start a : List Lexeme} {found : List Goal} → GoalsSoFar start found (Lexeme.Mark kinds.Comma ∷ a) → Nothing (GoalIs a) ends_goal → Nothing (Conj start) ends_conj
goals_none h none gs b p s = (let k = h.back gs b p s in conjs_not none k.1 s)

pub no_first_goal : (a : List Lexeme) → Nothing (GoalIs a) ends_goal → Nothing (Conj a) ends_conj
no_first_goal a none _ b (conj p q) s = none _ _ p (conjs_end q s)

pub no_comma_ends : (a : List Lexeme) → ((b : List Lexeme) → a ≡ Lexeme.Mark kinds.Comma ∷ b → ⊥) → ends_goal a ≡ true → ends_conj a ≡ true
no_comma_ends [] none s = refl
no_comma_ends (Symbol w ∷ a) none s = refl
no_comma_ends (Variable n ∷ a) none s = refl
no_comma_ends (Integer z ∷ a) none s = refl
no_comma_ends (Lexeme.Mark m ∷ a) none s =
    (elim m as (λ x. ((b : List Lexeme) → Lexeme.Mark x ∷ a ≡ Lexeme.Mark kinds.Comma ∷ b → ⊥) → ends_goal (Lexeme.Mark x ∷ a) ≡ true → ends_conj (Lexeme.Mark x ∷ a) ≡ true) [ kinds.Comma ↦ λ h k. absurd (h a refl) | _ ↦ λ h k. k ]) none s

-- ---- guards
mapped : (x : Option Op) (a : List Lexeme) (op : Op) (r : List Lexeme) → option_map {U = Op × List Lexeme} (λ (z : Op). (z, a)) x ≡ Some (op, r) → (x ≡ Some op) × (a ≡ r)
mapped None a op r e = absurd cc
mapped (Some x) a op r e =
    let f : (x, a) ≡ (op, r) = cc in
    (ap (λ (z : Op × List Lexeme). Some z.0) f, ap (λ (z : Op × List Lexeme). z.1) f)

not_mapped : (x : Option Op) (a : List Lexeme) → option_map {U = Op × List Lexeme} (λ (z : Op). (z, a)) x ≡ None → x ≡ None
not_mapped None a e = refl
not_mapped (Some x) a e = absurd cc

pub record GuardIs (a : List Lexeme) (op : Op) (r : List Lexeme) : Type 0 where
  pub o : Lexeme
  pub at : a ≡ o ∷ r
  pub is : guard_of o ≡ Some op

pub guard_is : (a : List Lexeme) (op : Op) (r : List Lexeme) → guard_at a ≡ Some (op, r) → GuardIs a op r
guard_is [] op r e = absurd cc
guard_is (o ∷ a) op r e = let h = mapped (guard_of o) a op r e in record { o = o; at = ap (λ (z : List Lexeme). o ∷ z) h.1; is = h.0 }

pub guard_takes : (a : List Lexeme) (op : Op) (r : List Lexeme) → guard_at a ≡ Some (op, r) → length r < length a
guard_takes a op r e = let h = guard_is a op r e in omega (arith, ap length h.at)

pub no_guard_is : (o : Lexeme) (a : List Lexeme) (op : Op) → guard_at (o ∷ a) ≡ None → guard_of o ≡ Some op → ⊥
no_guard_is o a op n e = let h : guard_of o ≡ None = not_mapped (guard_of o) a n in cc

pub no_guard_ends : (a : List Lexeme) → guard_at a ≡ None → ends_conj a ≡ true → ends_part a ≡ true
no_guard_ends [] n s = refl
no_guard_ends (o ∷ a) n s = rw (not_mapped (guard_of o) a n) (or_false _ s)

pub guard_goes_on : (a : List Lexeme) (op : Op) (r : List Lexeme) → guard_at a ≡ Some (op, r) → ends_part a ≡ true → ⊥
guard_goes_on a op r e s = (let h = guard_is a op r e in guard_goes h.o r op h.is (subst (λ (z : List Lexeme). ends_part z ≡ true) h.at s))

-- ---- parts
unguarded_is : {o : Lexeme} {r b : List Lexeme} {op : Op} {p : Part} → guard_of o ≡ Some op → Guarded [] op r p b → PartIs (o ∷ r) p b
unguarded_is e (body_of q) = unguarded e q

is_unguarded : {o : Lexeme} {r b : List Lexeme} {op : Op} {p : Part} → guard_of o ≡ Some op → PartIs (o ∷ r) p b → Guarded [] op r p b
is_unguarded e (made.plain q) = absurd (conj_no_guard e q)
is_unguarded {r = r} {b = b} {op = op} e (unguarded {gs = gs} {op = op'} e' q) =
    let s : op ≡ op' = cc in subst (λ (z : Op). Guarded [] op r (record { guard = []; op = z; body = gs; is_written = true }) b) s (body_of q)
is_unguarded e (guarded q e' r) = absurd (conj_no_guard e q)

pub part_behind_guard : {X : Type 0} (view : X → Part × List Lexeme) (x : Result X Fault) (a r : List Lexeme) (op : Op) → guard_at a ≡ Some (op, r) → Parsed view (Guarded [] op r) ends_part x → Parsed view (PartIs a) ends_part x
part_behind_guard view x a r op e h =
    let g = guard_is a op r e in
    rw g.at (reads_as view (Guarded [] op r) (PartIs (g.o ∷ r)) ends_part x (λ p b q. unguarded_is g.is q) (λ p b q s. is_unguarded g.is q) h)

pub part_no_conj : (a : List Lexeme) → guard_at a ≡ None → Nothing (Conj a) ends_conj → Nothing (PartIs a) ends_part
part_no_conj a n none _ b (made.plain p) s = none _ b p (conj_ends b s)
part_no_conj _ n none _ b (unguarded {o = o} {a = a} {op = op} e p) s = no_guard_is o a op n e
part_no_conj a n none _ b (guarded {o = o} {b = c} {op = op} p e q) s = none _ (o ∷ c) p (guard_ends o c op e)

guarded_is : {a r b : List Lexeme} {o : Lexeme} {gs : List Goal} {op : Op} {p : Part} → Conj a gs (o ∷ r) → guard_of o ≡ Some op → Guarded gs op r p b → PartIs a p b
guarded_is p e (body_of q) = guarded p e q

head_is : (o o' : Lexeme) (a a' : List Lexeme) → o ∷ a ≡ o' ∷ a' → o ≡ o'
head_is o o' a a' e = cc

is_guarded : {a r b : List Lexeme} {o : Lexeme} {gs : List Goal} {op : Op} {p : Part} → guard_at a ≡ None → Conj a gs (o ∷ r) → guard_of o ≡ Some op → PartIs a p b → ends_part b ≡ true → Guarded gs op r p b
is_guarded {r = r} {b = b} {o = o} {op = op} n x e (made.plain p) s =
    absurd (guard_goes o r op e (subst (λ (z : List Lexeme). ends_part z ≡ true) (sym (conj_one x p (guard_ends o r op e) (conj_ends b s)).1) s))
is_guarded n x e (unguarded {o = o} {a = a} {op = op} e' p) s = absurd (no_guard_is o a op n e')
is_guarded {r = r} {b = b} {o = o} {gs = gs} {op = op} n x e (guarded {o = o'} {b = c} {gs = gs'} {hs = hs} {op = op'} p e' q) s =
    let h = conj_one x p (guard_ends o r op e) (guard_ends o' c op' e') in
    let eo : o ≡ o' = head_is o o' r c h.1 in
    let ep : op ≡ op' = cc in
    let eg : gs ≡ gs' = h.0 in
    let y : Guarded gs op r (record { guard = gs; op = op; body = hs; is_written = true }) b = body_of (subst (λ (z : List Lexeme). Conj z hs b) (sym (tail_is o o' r c h.1)) q) in
    subst (λ (z : List Goal). Guarded gs op r (record { guard = z; op = op'; body = hs; is_written = true }) b) eg
    (subst (λ (z : Op). Guarded gs op r (record { guard = gs; op = z; body = hs; is_written = true }) b) ep y)

pub part_behind_goals : {X : Type 0} (view : X → Part × List Lexeme) (x : Result X Fault) (a c r : List Lexeme) (gs : List Goal) (op : Op) → guard_at a ≡ None → Conj a gs c → guard_at c ≡ Some (op, r)
    → Parsed view (Guarded gs op r) ends_part x → Parsed view (PartIs a) ends_part x
part_behind_goals view x a c r gs op n p e h =
    let g = guard_is c op r e in
    let p' : Conj a gs (g.o ∷ r) = subst (λ (z : List Lexeme). Conj a gs z) g.at p in
    reads_as view (Guarded gs op r) (PartIs a) ends_part x (λ q b y. guarded_is p' g.is y) (λ q b y s. is_guarded n p' g.is y s) h

pub no_body : (gs : List Goal) (op : Op) (r : List Lexeme) → Nothing (Conj r) ends_conj → Nothing (Guarded gs op r) ends_part
no_body gs op r none _ b (body_of q) s = none _ b q (conj_ends b s)

pub second_guard : (gs hs : List Goal) (op : Op) (r c : List Lexeme) → Conj r hs c → ends_conj c ≡ true → is_some (guard_at c) ≡ true → Nothing (Guarded gs op r) ends_part
second_guard gs hs op r c p k g _ b (body_of q) s = more_guard c g (subst (λ (z : List Lexeme). ends_part z ≡ true) (sym (conj_one p q k (conj_ends b s)).1) s)
  where
    more_guard : (c : List Lexeme) → is_some (guard_at c) ≡ true → ends_part c ≡ true → ⊥
    more_guard [] g s = absurd cc
    more_guard (o ∷ c) g s = by_guard (guard_of o) refl g s
      where
        by_guard : (x : Option Op) → guard_of o ≡ x → is_some (option_map {U = Op × List Lexeme} (λ (z : Op). (z, c)) x) ≡ true → ends_part (o ∷ c) ≡ true → ⊥
        by_guard None e g s = absurd cc
        by_guard (Some op) e g s = guard_goes o c op e s

pub seen_guard : {X : Type 0} (view : X → Op × List Lexeme) (x : Option X) (a : List Lexeme) → option_map view x ≡ guard_at a → is_some x ≡ true → is_some (guard_at a) ≡ true
seen_guard view None a e s = absurd cc
seen_guard view (Some y) a e s = rw (sym e) refl

pub unseen_guard : {X : Type 0} (view : X → Op × List Lexeme) (x : Option X) (a : List Lexeme) → option_map view x ≡ guard_at a → is_some x ≡ false → guard_at a ≡ None
unseen_guard view None a e s = sym e
unseen_guard view (Some y) a e s = absurd cc

-- ---- inline choices
pub record PartsSoFar (p : Part) (start : List Lexeme) (found : List Part) (rest : List Lexeme) : Type 0 where
  pub onward : (ps : List Part) (b : List Lexeme) → PartsAre rest ps b → Alternatives p start (found ++ ps) b
  pub back : (ps : List Part) (b : List Lexeme) → Alternatives p start ps b → ends_parts b ≡ true → (others : List Part) × PartsAre rest others b
  pub within : length rest ≤ length start
  pub edge : ends_part rest ≡ true

behind_is : {p : Part} {a b : List Lexeme} {ps : List Part} → Alternatives p a ps b → (others : List Part) × PartsAre a others b
behind_is (behind_first {ps = ps} q) = (ps, q)

pub parts_start : (p : Part) (a : List Lexeme) → ends_part a ≡ true → PartsSoFar p a (p ∷ []) a
parts_start p a s = record {
  onward = λ ps b q. behind_first q;
  back = λ ps b q s'. behind_is q;
  within = omega arith;
  edge = s;
}

parts_behind : {a b c : List Lexeme} {x : Part} {ps : List Part} → PartIs a x b → ends_part b ≡ true → PartsAre (Lexeme.Mark kinds.Semicolon ∷ a) ps c → ends_parts c ≡ true → (others : List Part) × PartsAre b others c
parts_behind p s no_parts_more s' = absurd cc
parts_behind {c = c} p s (or {ps = ps} p' q) s' = (ps, subst (λ (z : List Lexeme). PartsAre z ps c) (sym (part_one p p' s (parts_end q s')).1) q)

pub parts_step : {p x : Part} {start a b : List Lexeme} {found : List Part} → PartsSoFar p start found (Lexeme.Mark kinds.Semicolon ∷ a) → PartIs a x b → ends_part b ≡ true → PartsSoFar p start (found ++ written x ∷ []) b
parts_step {x = x} h q s = record {
  onward = λ ps c r. rw append_assoc (h.onward (written x ∷ ps) c (or q r));
  back = λ ps c r s'. (let k = h.back ps c r s' in parts_behind q s k.1 s');
  within = omega (arith, h.within, part_takes q);
  edge = s;
}

pub parts_all : {p : Part} {start rest : List Lexeme} {found : List Part} → PartsSoFar p start found rest → Alternatives p start found rest
parts_all {p} {start} {rest} {found} h = subst (λ (z : List Part). Alternatives p start z rest) (append-nil found) (h.onward [] rest no_parts_more)

parts_not : {a b : List Lexeme} {ps : List Part} → Nothing (PartIs a) ends_part → PartsAre (Lexeme.Mark kinds.Semicolon ∷ a) ps b → ends_parts b ≡ true → ⊥
parts_not none no_parts_more s = absurd cc
parts_not none (or p q) s = none _ _ p (parts_end q s)

pub parts_none : {p : Part} {start a : List Lexeme} {found : List Part} → PartsSoFar p start found (Lexeme.Mark kinds.Semicolon ∷ a) → Nothing (PartIs a) ends_part → Nothing (Alternatives p start) ends_parts
parts_none h none ps b q s = (let k = h.back ps b q s in parts_not none k.1 s)

pub no_semicolon_ends : (a : List Lexeme) → ((b : List Lexeme) → a ≡ Lexeme.Mark kinds.Semicolon ∷ b → ⊥) → ends_part a ≡ true → ends_parts a ≡ true
no_semicolon_ends [] none s = refl
no_semicolon_ends (Symbol w ∷ a) none s = refl
no_semicolon_ends (Variable n ∷ a) none s = refl
no_semicolon_ends (Integer z ∷ a) none s = refl
no_semicolon_ends (Lexeme.Mark m ∷ a) none s =
    (elim m as (λ x. ((b : List Lexeme) → Lexeme.Mark x ∷ a ≡ Lexeme.Mark kinds.Semicolon ∷ b → ⊥) → ends_part (Lexeme.Mark x ∷ a) ≡ true → ends_parts (Lexeme.Mark x ∷ a) ≡ true) [ kinds.Semicolon ↦ λ h k. absurd (h a refl) | _ ↦ λ h k. k ]) none s

-- ---- brackets
module _ (a : List Lexeme) (f : is_test (Lexeme.Mark kinds.Open ∷ a) ≡ false) where
  pub no_part : Nothing (PartIs a) ends_part → Nothing (GoalIs (Lexeme.Mark kinds.Open ∷ a)) ends_goal
  no_part none _ b (test n q e r) s = opposite _ (test_is _ q e) f
  no_part none _ b (made.brackets p q) s = none _ _ p (parts_end q refl)

  pub bracket_edge : (b c : List Lexeme) (p : Part) (ps : List Part) → PartIs a p b → PartsAre b ps (Lexeme.Mark kinds.Close ∷ c) → ends_goal c ≡ true
  bracket_edge b c p ps x y = goal_edge c (subst (λ (z : List Lexeme). begins_join z ≡ false) (part_even x 0 ∙ parts_even y 0) f)

  pub choice_edge : (b c : List Lexeme) (p q : Part) (qs : List Part) → PartIs a p b → Alternatives q b qs (Lexeme.Mark kinds.Close ∷ c) → ends_goal c ≡ true
  choice_edge b c p q _ x (behind_first {ps = ps} y) = bracket_edge b c p ps x y

  pub no_alternatives : (b : List Lexeme) (p : Part) → PartIs a p b → ends_part b ≡ true → Nothing (Alternatives (written p) b) ends_parts → Nothing (GoalIs (Lexeme.Mark kinds.Open ∷ a)) ends_goal
  no_alternatives b p x k none _ c (test n q e r) s = opposite _ (test_is _ q e) f
  no_alternatives b p x k none _ c (made.brackets {ps = ps} x' y) s =
      none _ (Lexeme.Mark kinds.Close ∷ c) (behind_first (subst (λ (z : List Lexeme). PartsAre z ps (Lexeme.Mark kinds.Close ∷ c)) (sym (part_one x x' k (parts_end y refl)).1) y)) refl

  pub not_closed_parts : (b r : List Lexeme) (p : Part) (qs : List Part) → PartIs a p b → ends_part b ≡ true → Alternatives (written p) b qs r → ends_parts r ≡ true
      → ((c : List Lexeme) → r ≡ Lexeme.Mark kinds.Close ∷ c → ⊥) → Nothing (GoalIs (Lexeme.Mark kinds.Open ∷ a)) ends_goal
  not_closed_parts b r p qs x k y l none _ d (test n q e z) s = opposite _ (test_is _ q e) f
  not_closed_parts b r p _ x k (behind_first y) l none _ d (made.brackets {ps = ps} x' y') s =
      let y'' : PartsAre b ps (Lexeme.Mark kinds.Close ∷ d) = subst (λ (z : List Lexeme). PartsAre z ps (Lexeme.Mark kinds.Close ∷ d)) (sym (part_one x x' k (parts_end y' refl)).1) y' in
      none d (parts_one y y'' refl l refl).1

not_inlined : (w : Bool) (p : Part) (ps : List Part) (b c : List Lexeme) → PartsAre b ps (Lexeme.Mark kinds.Close ∷ c) → (w ≡ false → (d : List Lexeme) → b ≡ Lexeme.Mark kinds.Close ∷ d → ⊥) → inlined w p ps ≡ choice (parts (p ∷ ps)) ∷ []
not_inlined true p [] b c y h = refl
not_inlined true p (q ∷ ps) b c y h = refl
not_inlined false p (q ∷ ps) b c y h = refl
not_inlined false p [] _ c no_parts_more h = absurd (h refl c refl)

pub choice_read : (a b c : List Lexeme) (p : Part) (qs : List Part) → PartIs a p b → Alternatives (written p) b qs (Lexeme.Mark kinds.Close ∷ c) → (p.is_written ≡ false → (d : List Lexeme) → b ≡ Lexeme.Mark kinds.Close ∷ d → ⊥)
    → GoalIs (Lexeme.Mark kinds.Open ∷ a) (choice (parts qs) ∷ []) c
choice_read a b c p _ x (behind_first {ps = ps} y) h =
    subst (λ (z : List Goal). GoalIs (Lexeme.Mark kinds.Open ∷ a) z c) (not_inlined p.is_written (written p) ps b c y h) (made.brackets x y)

pub goals_read : (a c : List Lexeme) (p : Part) → PartIs a p (Lexeme.Mark kinds.Close ∷ c) → p.is_written ≡ false → GoalIs (Lexeme.Mark kinds.Open ∷ a) p.body c
goals_read a c p x e = subst (λ (z : Bool). GoalIs (Lexeme.Mark kinds.Open ∷ a) (inlined z (written p) []) c) e (made.brackets x no_parts_more)

pub brackets_only : (k : Kind) (a : List Lexeme) → is_test (Lexeme.Mark k ∷ a) ≡ false → k ≡ kinds.Open
brackets_only k a f = (elim k as (λ x. is_test (Lexeme.Mark x ∷ a) ≡ false → x ≡ kinds.Open) [ kinds.Open ↦ λ h. refl | _ ↦ λ h. absurd cc ]) f
