-- Terms whose variables go by their places, one by one.
use Rattle.std.proofs.Common.{◌≡◌, ℕ, ◌+◌, ◌<◌, ◌≤◌, List, [], ◌∷◌, ◌++◌, length, map, drop, get_or, refl, sym, ap, ◌∙◌, append_assoc}
use Rattle.std.proofs.lemmas.List.{append-nil, drop_more, drop_all, map_push}
use Rattle.term_syntax.specs.declared.source.SourceTerm.{SourceTerm}
use Rattle.term_syntax.specs.declared.source.SourceStep.{SourceStep}
use Rattle.term_syntax.specs.View.{tree, step}
use Rattle.term_syntax.specs.declared.source.SourceTerm.TheVariants as written
use Rattle.term_syntax.proofs.Trees.{tree_step, tree_var}
use Rattle.term_syntax.specs.Tree.{Tree, Trees, Steps, Step, variable, more_trees, more_steps, trees, steps}
use Rattle.akl_lift.proofs.Slots.{map_turn}
use Rattle.akl_lift.specs.Places.{place, placed_variable, placed_tree, placed_trees, placed_steps}

abbrev pub placed_step : List ℕ → Step → Step
placed_step order s = record { symbol = s.symbol; right = placed_tree order s.right }

pub trees_placed : (order : List ℕ) (ts : List Tree) → placed_trees order (trees ts) ≡ trees (map (placed_tree order) ts)
trees_placed order [] = refl
trees_placed order (t ∷ ts) = ap (λ (z : Trees). more_trees (placed_tree order t) z) (trees_placed order ts)

pub steps_placed : (order : List ℕ) (ss : List Step) → placed_steps order (steps ss) ≡ steps (map (placed_step order) ss)
steps_placed order [] = refl
steps_placed order (s ∷ ss) = ap (λ (z : Steps). more_steps s.symbol (placed_tree order s.right) z) (steps_placed order ss)

-- ---- one of a list more, and all of it
pub one_more : {A B : Type 0} (f : A → B) (p : B → B) (all : List B) (xs found : List A) (i : ℕ) (x y : A) → i < length xs → x ≡ get_or xs i x → f y ≡ p (f x) → map f found ++ map p (map f (drop i xs)) ≡ all
    → map f (found ++ y ∷ []) ++ map p (map f (drop (i + 1) xs)) ≡ all
one_more f p all xs found i x y h e q s =
    let dropped : drop i xs ≡ x ∷ drop (i + 1) xs = drop_more xs i x h ∙ ap (λ z. z ∷ drop (i + 1) xs) (sym e) in
    ap (λ z. z ++ map p (map f (drop (i + 1) xs))) (map_push f found y) ∙ append_assoc (map f found) (f y ∷ []) (map p (map f (drop (i + 1) xs)))
    ∙ ap (λ z. map f found ++ z ∷ map p (map f (drop (i + 1) xs))) q ∙ sym (ap (λ z. map f found ++ map p (map f z)) dropped) ∙ s

all_of : {A B : Type 0} (f : A → B) (p : B → B) (all : List B) (xs : List A) (found : List B) (i : ℕ) → length xs ≤ i → found ++ map p (map f (drop i xs)) ≡ all → found ≡ all
all_of f p all xs found i h s = sym (append-nil found) ∙ sym (ap (λ z. found ++ map p (map f z)) (drop_all i xs h)) ∙ s

pub terms_placed : (order : List ℕ) (xs : List SourceTerm) (found : List Tree) (i : ℕ) → length xs ≤ i → found ++ map (placed_tree order) (map tree (drop i xs)) ≡ map (placed_tree order) (map tree xs)
    → trees found ≡ placed_trees order (trees (map tree xs))
terms_placed order xs found i h s = ap trees (all_of tree (placed_tree order) (map (placed_tree order) (map tree xs)) xs found i h s) ∙ sym (trees_placed order (map tree xs))

pub operands_placed : (order : List ℕ) (xs : List SourceStep) (found : List Step) (i : ℕ) → length xs ≤ i → found ++ map (placed_step order) (map step (drop i xs)) ≡ map (placed_step order) (map step xs)
    → steps found ≡ placed_steps order (steps (map step xs))
operands_placed order xs found i h s = ap steps (all_of step (placed_step order) (map (placed_step order) (map step xs)) xs found i h s) ∙ sym (steps_placed order (map step xs))

pub step_placed : (order : List ℕ) (x y : SourceStep) → y.symbol ≡ x.symbol → tree y.right ≡ placed_tree order (tree x.right) → step y ≡ placed_step order (step x)
step_placed order x y e f =
    let made : step y ≡ record { symbol = y.symbol; right = tree y.right } = tree_step y in
    let same : placed_step order (step x) ≡ record { symbol = x.symbol; right = placed_tree order (tree x.right) } = ap (placed_step order) (tree_step x) in
    cc

pub variable_turn : (order numbers : List ℕ) (found new : List SourceTerm) (all : List Tree) (n i : ℕ) → i < length numbers → new ≡ found ++ written.Var n ∷ [] → n ≡ place order (get_or numbers i 0)
    → map tree found ++ map (placed_variable order) (drop i numbers) ≡ all → map tree new ++ map (placed_variable order) (drop (i + 1) numbers) ≡ all
variable_turn order numbers found new all n i h e g s =
    map_turn (placed_variable order) numbers 0 (map tree found) (map tree new) all (variable n) i h (ap (map tree) e ∙ map_push tree found (written.Var n) ∙ ap (λ t. map tree found ++ t ∷ []) (tree_var n)) (ap variable g) s
