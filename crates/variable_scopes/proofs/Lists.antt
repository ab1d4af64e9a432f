-- Lists of terms, operands, goals and parts, and what stands in them element by element.
use Rattle.std.proofs.Common.{◌≡◌, ℕ, zero, suc, ◌+◌, ◌<◌, ◌≤◌, List, [], ◌∷◌, ◌++◌, length, map, drop, get_or, arith, refl, sym, ap, subst, ◌∙◌}
use Rattle.term_syntax.specs.declared.source.SourceTerm.{SourceTerm}
use Rattle.term_syntax.specs.declared.source.SourceStep.{SourceStep}
use Rattle.term_syntax.specs.Tree.{Tree, Trees, Step, Steps, more_trees, more_steps, trees, steps}
use Rattle.term_syntax.specs.View.{tree, step}
use Rattle.term_syntax.specs.Sizes.{tree_size, trees_size, steps_size}
use Rattle.term_syntax.specs.Variables.{tree_variables, trees_variables, steps_variables}
use Rattle.term_syntax.proofs.Trees.{tree_step}
use Rattle.variable_scopes.specs.Numbering.{State, AreBelow, Numbered, Numbers}
use Rattle.variable_scopes.specs.Shapes.{numbers_shape, tree_shape, trees_shape, steps_shape}
use Rattle.variable_scopes.specs.Spellings.{Spellings, nothing, spelling, both, all_of}
use Rattle.variable_scopes.proofs.Numbers.{all_of-append, all_spell, all_hold, Going, going_end, all_numbered, all_shaped}

pub subst_numbered : {s t : State} {x y : Spellings} {ns ms : List ℕ} → x ≡ y → ns ≡ ms → Numbered s y ms t → Numbered s x ns t
subst_numbered {s} {t} {x} {y} {ns} {ms} e f n = rw (e, f) n

-- one of a list is no more than all of it
pub part_of_all : {A : Type 0} (f : A → ℕ) (total : List A → ℕ) → ((x : A) (xs : List A) → total (x ∷ xs) ≡ f x + total xs) → (xs : List A) (i : ℕ) (x : A) → i < length xs → x ≡ get_or xs i x → f x ≤ total xs
part_of_all f total more [] i x h e = absurd (omega (arith, h))
part_of_all f total more (y ∷ ys) zero x h e = omega (arith, more y ys, ap f e)
part_of_all f total more (y ∷ ys) (suc i) x h e = omega (arith, more y ys, part_of_all f total more ys i x (omega (arith, h)) e)

pub term_in_all : (ts : List SourceTerm) (i : ℕ) (t : SourceTerm) → i < length ts → t ≡ get_or ts i t → tree_size (tree t) ≤ trees_size (trees (map tree ts))
term_in_all ts i t h e = part_of_all (λ x. tree_size (tree x)) (λ xs. trees_size (trees (map tree xs))) (λ x xs. refl) ts i t h e

pub step_in_all : (ss : List SourceStep) (i : ℕ) (s : SourceStep) → i < length ss → s ≡ get_or ss i s → tree_size (tree s.right) ≤ steps_size (steps (map step ss))
step_in_all ss i s h e = part_of_all (λ (x : SourceStep). tree_size (tree x.right)) (λ xs. steps_size (steps (map step xs))) (λ x xs. ap (λ z. steps_size (steps (z ∷ map step xs))) (tree_step x)) ss i s h e

-- ---- numbers
abbrev pub one_spell : ℕ → Spellings
one_spell n = spelling n nothing

abbrev pub one_hold : ℕ → List ℕ
one_hold n = n ∷ []

abbrev pub one_shape : ℕ → ℕ
one_shape n = 0

spell_numbers : (ns : List ℕ) → all_of ns ≡ all_spell one_spell one_hold one_shape ns
spell_numbers [] = refl
spell_numbers (n ∷ ns) = ap (spelling n) (spell_numbers ns)

hold_numbers : (ns : List ℕ) → ns ≡ all_hold one_spell one_hold one_shape ns
hold_numbers [] = refl
hold_numbers (n ∷ ns) = ap (λ (z : List ℕ). n ∷ z) (hold_numbers ns)

pub numbers_below : (m : ℕ) (ns : List ℕ) → AreBelow m ns → AreBelow m (all_hold one_spell one_hold one_shape ns)
numbers_below m ns b = subst (AreBelow m) (hold_numbers ns) b

abbrev pub NumbersGoing : State → List ℕ → State → List ℕ → List ℕ → Type 0
NumbersGoing = Going one_spell one_hold one_shape

pub numbers_done : {s t : State} {now : List ℕ} (old : List ℕ) (i : ℕ) → length old ≤ i → NumbersGoing s old t now (drop i old) → Numbers s old now t
numbers_done {now = now} old i h g = subst_numbered (spell_numbers old) (hold_numbers now) (all_numbered one_spell one_hold one_shape (going_end one_spell one_hold one_shape old i h g))

pub numbers_shaped : {s t : State} {now : List ℕ} (old : List ℕ) (i : ℕ) → length old ≤ i → NumbersGoing s old t now (drop i old) → numbers_shape now ≡ numbers_shape old
numbers_shaped old i h g = all_shaped one_spell one_hold one_shape (going_end one_spell one_hold one_shape old i h g)

-- ---- terms
abbrev pub term_spell : SourceTerm → Spellings
term_spell t = all_of (tree_variables (tree t))

abbrev pub term_hold : SourceTerm → List ℕ
term_hold t = tree_variables (tree t)

abbrev pub term_shape : SourceTerm → Tree
term_shape t = tree_shape (tree t)

spell_terms : (ts : List SourceTerm) → all_of (trees_variables (trees (map tree ts))) ≡ all_spell term_spell term_hold term_shape ts
spell_terms [] = refl
spell_terms (t ∷ ts) = all_of-append (tree_variables (tree t)) (trees_variables (trees (map tree ts))) ∙ ap (both (term_spell t)) (spell_terms ts)

hold_terms : (ts : List SourceTerm) → trees_variables (trees (map tree ts)) ≡ all_hold term_spell term_hold term_shape ts
hold_terms [] = refl
hold_terms (t ∷ ts) = ap (λ (z : List ℕ). tree_variables (tree t) ++ z) (hold_terms ts)

shape_terms : (ts : List SourceTerm) → trees_shape (trees (map tree ts)) ≡ trees (map term_shape ts)
shape_terms [] = refl
shape_terms (t ∷ ts) = ap (λ (z : Trees). more_trees (term_shape t) z) (shape_terms ts)

pub terms_below : (m : ℕ) (ts : List SourceTerm) → AreBelow m (trees_variables (trees (map tree ts))) → AreBelow m (all_hold term_spell term_hold term_shape ts)
terms_below m ts b = subst (AreBelow m) (hold_terms ts) b

abbrev pub TermsGoing : State → List SourceTerm → State → List SourceTerm → List SourceTerm → Type 0
TermsGoing = Going term_spell term_hold term_shape

pub terms_shape : {s t : State} {now : List SourceTerm} (old : List SourceTerm) (i : ℕ) → length old ≤ i → TermsGoing s old t now (drop i old) → trees_shape (trees (map tree now)) ≡ trees_shape (trees (map tree old))
terms_shape {now = now} old i h g = shape_terms now ∙ ap trees (all_shaped term_spell term_hold term_shape (going_end term_spell term_hold term_shape old i h g)) ∙ sym (shape_terms old)

pub terms_done : {s t : State} {now : List SourceTerm} (old : List SourceTerm) (i : ℕ) → length old ≤ i → TermsGoing s old t now (drop i old) → Numbers s (trees_variables (trees (map tree old))) (trees_variables (trees (map tree now))) t
terms_done {now = now} old i h g = subst_numbered (spell_terms old) (hold_terms now) (all_numbered term_spell term_hold term_shape (going_end term_spell term_hold term_shape old i h g))

-- ---- operands
abbrev pub step_spell : SourceStep → Spellings
step_spell s = all_of (tree_variables (tree s.right))

abbrev pub step_hold : SourceStep → List ℕ
step_hold s = tree_variables (tree s.right)

abbrev pub step_shape : SourceStep → Step
step_shape s = record { symbol = s.symbol; right = tree_shape (tree s.right) }

pub step_shaped : (x y : SourceStep) → y.symbol ≡ x.symbol → tree_shape (tree y.right) ≡ tree_shape (tree x.right) → step_shape y ≡ step_shape x
step_shaped x y e f = cc

operand_more : (x : SourceStep) (xs : List SourceStep) → steps_variables (steps (map step (x ∷ xs))) ≡ tree_variables (tree x.right) ++ steps_variables (steps (map step xs))
operand_more x xs = ap (λ s. steps_variables (steps (s ∷ map step xs))) (tree_step x)

spell_steps : (ss : List SourceStep) → all_of (steps_variables (steps (map step ss))) ≡ all_spell step_spell step_hold step_shape ss
spell_steps [] = refl
spell_steps (s ∷ ss) = ap all_of (operand_more s ss) ∙ all_of-append (tree_variables (tree s.right)) (steps_variables (steps (map step ss))) ∙ ap (both (step_spell s)) (spell_steps ss)

hold_steps : (ss : List SourceStep) → steps_variables (steps (map step ss)) ≡ all_hold step_spell step_hold step_shape ss
hold_steps [] = refl
hold_steps (s ∷ ss) = operand_more s ss ∙ ap (λ (z : List ℕ). tree_variables (tree s.right) ++ z) (hold_steps ss)

shape_steps : (ss : List SourceStep) → steps_shape (steps (map step ss)) ≡ steps (map step_shape ss)
shape_steps [] = refl
shape_steps (s ∷ ss) = ap (λ z. steps_shape (steps (z ∷ map step ss))) (tree_step s) ∙ ap (λ (z : Steps). more_steps s.symbol (tree_shape (tree s.right)) z) (shape_steps ss)

pub steps_below : (m : ℕ) (ss : List SourceStep) → AreBelow m (steps_variables (steps (map step ss))) → AreBelow m (all_hold step_spell step_hold step_shape ss)
steps_below m ss b = subst (AreBelow m) (hold_steps ss) b

abbrev pub StepsGoing : State → List SourceStep → State → List SourceStep → List SourceStep → Type 0
StepsGoing = Going step_spell step_hold step_shape

pub steps_shaped : {s t : State} {now : List SourceStep} (old : List SourceStep) (i : ℕ) → length old ≤ i → StepsGoing s old t now (drop i old) → steps_shape (steps (map step now)) ≡ steps_shape (steps (map step old))
steps_shaped {now = now} old i h g = shape_steps now ∙ ap steps (all_shaped step_spell step_hold step_shape (going_end step_spell step_hold step_shape old i h g)) ∙ sym (shape_steps old)

pub steps_done : {s t : State} {now : List SourceStep} (old : List SourceStep) (i : ℕ) → length old ≤ i → StepsGoing s old t now (drop i old) → Numbers s (steps_variables (steps (map step old))) (steps_variables (steps (map step now))) t
steps_done {now = now} old i h g = subst_numbered (spell_steps old) (hold_steps now) (all_numbered step_spell step_hold step_shape (going_end step_spell step_hold step_shape old i h g))
