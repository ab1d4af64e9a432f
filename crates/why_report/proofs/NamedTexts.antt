-- Texts one behind another, and variables by the names of shown terms.
use Rattle.std.proofs.Common.{◌≡◌, ℕ, zero, suc, ◌+◌, ◌<◌, true, List, [], ◌∷◌, ◌++◌, length, take, map, Option, Some, None, refl, sym, ◌∙◌, ap, subst, arith, append-nil, slice_index_or}
use Rattle.std.specs.Fmt.{decimal}
use Rattle.std.specs.Option.{option_eq}
use Rattle.std.specs.Prelude.{codes}
use Rattle.std.proofs.lemmas.List.{append_assoc}
use Rattle.std.specs.List.{AllByRecursion}
use Rattle.akl_terms.specs.declared.name.Var.{Var}
use Rattle.akl_terms.specs.declared.term.Node.{Node}
use Rattle.akl_terms.specs.declared.program.ShownTerm.{ShownTerm}
use Rattle.akl_terms.specs.Names.{same_var}
use Rattle.akl_terms.specs.Template.{tree}
use Rattle.akl_terms.specs.Tree.{Tree}
use Rattle.akl_terms.proofs.SameNames.{same_var-equal}
use Rattle.akl_model.specs.Config.{ShownTree}
use Rattle.box_tree.specs.Tables.{shown_tree}
use Rattle.line_text.specs.Names.{name_text}
use Rattle.rational_unify.proofs.Taking.{take-next}
use Rattle.why_laws.specs.Waiting.{Waiting}
use Rattle.why_report.specs.Texts.{variable_text, IsNameOf, named, named_later, unnamed, AreTexts, no_texts, one_more, IsFurtherText, IsOnText, on_nothing, on_variables, IsGoalLine, AreWaitingLines}
use Rattle.why_report.specs.Written.{Adds}
use Rattle.why_report.specs.declared.waiting.Waiting as found
use Rattle.why_report.specs.Waits.{value_of, values}

-- one more text
pub texts_push : {A : Type 0} (P : A → List ℕ → Type 0) (xs : List A) (old : List ℕ) (x : A) (text : List ℕ) → AreTexts P xs old → P x text → AreTexts P (xs ++ x ∷ []) (old ++ text)
texts_push {A} P xs old x text no_texts p = subst (AreTexts P (x ∷ [])) (append-nil text) (one_more p no_texts)
texts_push {A} P (y ∷ ys) old x text (one_more {text = first} {rest = rest} q h) p =
    subst (AreTexts P (y ∷ (ys ++ x ∷ []))) (sym (append_assoc first rest text)) (one_more q (texts_push P ys rest x text h p))

-- by another way to write
pub texts_as : {A : Type 0} (P Q : A → List ℕ → Type 0) (xs : List A) (text : List ℕ) → AllByRecursion (λ (x : A). (t : List ℕ) → P x t → Q x t) xs → AreTexts P xs text → AreTexts Q xs text
texts_as {A} P Q xs text h no_texts = no_texts
texts_as {A} P Q (x ∷ xs) text h (one_more {text = first} {rest = rest} p t) = one_more (h.0 first p) (texts_as P Q xs rest h.1 t)

module _ (P Q : Var → List ℕ → Type 0) where
  abbrev pub Goes : Var → Type 0
  Goes x = (t : List ℕ) → P x t → Q x t

  further_as : (xs : List Var) → AllByRecursion (λ (x : Var). (t : List ℕ) → P x t → Q x t) xs → AllByRecursion (λ (x : Var). (t : List ℕ) → IsFurtherText P x t → IsFurtherText Q x t) xs
  further_as [] h = tt
  further_as (x ∷ xs) h = (λ t w. (w.0, h.0 w.0 w.1, w.2), further_as xs h.1)

  on_as : (xs : List Var) (text : List ℕ) → AllByRecursion (λ (x : Var). (t : List ℕ) → P x t → Q x t) xs → IsOnText P xs text → IsOnText Q xs text
  on_as xs text h on_nothing = on_nothing
  on_as (x ∷ xs) text h (on_variables {text = first} {rest = rest} p t) = on_variables (h.0 first p) (texts_as (IsFurtherText P) (IsFurtherText Q) xs rest (further_as xs h.1) t)

  goals_as : (ws : List Waiting) → AllByRecursion (λ (w : Waiting). AllByRecursion (λ (x : Var). (t : List ℕ) → P x t → Q x t) w.on) ws
      → AllByRecursion (λ (w : Waiting). (t : List ℕ) → IsGoalLine P w t → IsGoalLine Q w t) ws
  goals_as [] h = tt
  goals_as (w ∷ ws) h = (λ t k. (k.0, on_as w.on k.0 h.0 k.1, k.2), goals_as ws h.1)

  pub lines_as : (number : ℕ) (ws : List Waiting) (text : List ℕ) → AllByRecursion (λ (w : Waiting). AllByRecursion (λ (x : Var). (t : List ℕ) → P x t → Q x t) w.on) ws
      → AreWaitingLines P number ws text → AreWaitingLines Q number ws text
  lines_as number ws text h l = (l.0, texts_as (IsGoalLine P) (IsGoalLine Q) ws l.0 (goals_as ws h) l.1, l.2)

-- by another test
pub name_as : (P Q : Tree → Type 0) → ((t : Tree) → P t → Q t) → ((t : Tree) → Q t → P t) → (x : Var) (ss : List ShownTree) (text : List ℕ) → IsNameOf P x ss text → IsNameOf Q x ss text
name_as P Q to back x ss text (named {s = s} p) = named (to s.tree p)
name_as P Q to back x (s ∷ ss) text (named_later n h) = named_later (λ q. n (back s.tree q)) (name_as P Q to back x ss text h)
name_as P Q to back x ss text unnamed = unnamed

-- shown terms, looked through from the first on
module _ (nodes : List Node) (P : Tree → Type 0) (x : Var) where
  abbrev pub Differs : ShownTerm → Type 0
  Differs s = P (tree nodes s.term) → ⊥

  pub none_same : (ss : List ShownTerm) → AllByRecursion (λ (s : ShownTerm). P (tree nodes s.term) → ⊥) ss → IsNameOf P x (map (shown_tree nodes) ss) (variable_text x)
  none_same [] h = unnamed
  none_same (s ∷ ss) h = named_later h.0 (none_same ss h.1)

  first_at : (ss : List ShownTerm) (i : ℕ) (d : ShownTerm) → i < length ss → AllByRecursion (λ (s : ShownTerm). P (tree nodes s.term) → ⊥) (take i ss) → P (tree nodes (slice_index_or ss i d).term)
      → IsNameOf P x (map (shown_tree nodes) ss) (slice_index_or ss i d).name
  first_at [] i d l h p = absurd (omega arith)
  first_at (s ∷ ss) zero d l h p = named p
  first_at (s ∷ ss) (suc i) d l h p = named_later h.0 (first_at ss i d (omega arith) h.1 p)

  pub first_same : (ss : List ShownTerm) (i : ℕ) (s : ShownTerm) → i < length ss → s ≡ slice_index_or ss i s → AllByRecursion (λ (s : ShownTerm). P (tree nodes s.term) → ⊥) (take i ss) → P (tree nodes s.term)
      → IsNameOf P x (map (shown_tree nodes) ss) s.name
  first_same ss i s l e h p = subst (λ (u : ShownTerm). IsNameOf P x (map (shown_tree nodes) ss) u.name) (sym e) (first_at ss i s l h (subst (λ (u : ShownTerm). P (tree nodes u.term)) e p))

pub all_push : {A : Type 0} (P : A → Type 0) (xs : List A) (x : A) → AllByRecursion P xs → P x → AllByRecursion P (xs ++ x ∷ [])
all_push {A} P [] x h p = (p, tt)
all_push {A} P (y ∷ ys) x h p = (h.0, all_push P ys x h.1 p)

pub same_end : (o : Option Var) (r : Var) → option_eq same_var o (Some r) ≡ true → o ≡ Some r
same_end None r e = cc
same_end (Some x) r e = ap Some (same_var-equal x r e)

-- texts that come to the end of what is there
module _ (W : Var → List ℕ → Type 0) where
  pub on_first : (on : List Var) (first : Var) (others : List Var) (old mid new : List ℕ) → on ≡ first ∷ others → Adds (W first) old mid → Adds (AreTexts (IsFurtherText W) others) mid new → Adds (IsOnText W on) old new
  on_first on first others old mid new e a b = (
    a.0 ++ b.0,
    subst (λ (xs : List Var). IsOnText W xs (a.0 ++ b.0)) (sym e) (on_variables a.1 b.1),
    b.2 ∙ ap (λ (t : List ℕ). t ++ b.0) a.2 ∙ append_assoc old a.0 b.0,
  )

  pub on_none : (on : List Var) (old new : List ℕ) → length on ≡ 0 → new ≡ old ++ codes "nothing" → Adds (IsOnText W on) old new
  on_none [] old new z e = (codes "nothing", on_nothing, e)
  on_none (x ∷ xs) old new z e = absurd (omega (arith, z))

  pub further_added : (xs : List Var) (x : Var) (base old mid new : List ℕ) → Adds (AreTexts (IsFurtherText W) xs) base old → mid ≡ old ++ codes ", " → Adds (W x) mid new
      → Adds (AreTexts (IsFurtherText W) (xs ++ x ∷ [])) base new
  further_added xs x base old mid new a e b = (
    a.0 ++ (codes ", " ++ b.0),
    texts_push (IsFurtherText W) xs a.0 x (codes ", " ++ b.0) a.1 (b.0, b.1, refl),
    b.2 ∙ ap (λ (t : List ℕ). t ++ b.0) (e ∙ ap (λ (t : List ℕ). t ++ codes ", ") a.2 ∙ append_assoc base a.0 (codes ", ")) ∙ append_assoc base (a.0 ++ codes ", ") b.0 ∙ ap (λ (t : List ℕ). base ++ t) (append_assoc a.0 (codes ", ") b.0),
  )

  pub goal_added : (w : Waiting) (old one two three four new : List ℕ) → one ≡ old ++ codes "goal " → two ≡ one ++ name_text w.goal → three ≡ two ++ codes " on " → Adds (IsOnText W w.on) three four → new ≡ four ++ codes "\n"
      → Adds (IsGoalLine W w) old new
  goal_added w old one two three four new a b c d e = (
    codes "goal " ++ name_text w.goal ++ codes " on " ++ d.0 ++ codes "\n",
    (d.0, d.1, refl),
    e ∙ ap (λ (t : List ℕ). t ++ codes "\n") (d.2 ∙ ap (λ (t : List ℕ). t ++ d.0) (c ∙ ap (λ (t : List ℕ). t ++ codes " on ") (b ∙ ap (λ (t : List ℕ). t ++ name_text w.goal) a)))
        ∙ five old (codes "goal ") (name_text w.goal) (codes " on ") d.0 (codes "\n"),
  )
    where
      five : (o a b c d e : List ℕ) → o ++ a ++ b ++ c ++ d ++ e ≡ o ++ (a ++ b ++ c ++ d ++ e)
      five o a b c d e =
          ap (λ (t : List ℕ). t ++ c ++ d ++ e) (append_assoc o a b) ∙ ap (λ (t : List ℕ). t ++ d ++ e) (append_assoc o (a ++ b) c)
          ∙ ap (λ (t : List ℕ). t ++ e) (append_assoc o (a ++ b ++ c) d) ∙ append_assoc o (a ++ b ++ c ++ d) e

pub none_added : {A : Type 0} (P : A → List ℕ → Type 0) (old : List ℕ) → Adds (AreTexts P []) old old
none_added {A} P old = ([], no_texts, sym (append-nil old))

pub one_added : {A : Type 0} (P : A → List ℕ → Type 0) (xs : List A) (x : A) (base old new : List ℕ) → Adds (AreTexts P xs) base old → Adds (P x) old new → Adds (AreTexts P (xs ++ x ∷ [])) base new
one_added {A} P xs x base old new a b = (a.0 ++ b.0, texts_push P xs a.0 x b.0 a.1 b.1, b.2 ∙ ap (λ (t : List ℕ). t ++ b.0) a.2 ∙ append_assoc base a.0 b.0)

map_push : {A B : Type 0} (f : A → B) (xs : List A) (x : A) → map f (xs ++ x ∷ []) ≡ map f xs ++ f x ∷ []
map_push {A} {B} f [] x = refl
map_push {A} {B} f (y ∷ ys) x = ap (λ (l : List B). f y ∷ l) (map_push f ys x)

pub goals_added : (W : Var → List ℕ → Type 0) (ws : List found.Waiting) (i : ℕ) (w : found.Waiting) → i < length ws → w ≡ slice_index_or ws i w → (base old new : List ℕ) → Adds (AreTexts (IsGoalLine W) (values (take i ws))) base old
    → Adds (IsGoalLine W (value_of w)) old new → Adds (AreTexts (IsGoalLine W) (values (take (i + 1) ws))) base new
goals_added W ws i w l e base old new a b = subst (λ (vs : List Waiting). Adds (AreTexts (IsGoalLine W) vs) base new)
    (sym (ap values (take-next ws i (i + 1) w l (omega arith)) ∙ map_push value_of (take i ws) (slice_index_or ws i w)))
    (one_added (IsGoalLine W) (values (take i ws)) (value_of (slice_index_or ws i w)) base old new a (subst (λ (u : found.Waiting). Adds (IsGoalLine W (value_of u)) old new) e b))

pub lines_begun : (W : Var → List ℕ → Type 0) (number : ℕ) (ws : List Waiting) (empty one two three new : List ℕ) → empty ≡ [] → one ≡ empty ++ codes "waiting " → two ≡ one ++ decimal number → three ≡ two ++ codes "\n"
    → Adds (AreTexts (IsGoalLine W) ws) three new → AreWaitingLines W number ws new
lines_begun W number ws empty one two three new z a b c h = (
  h.0,
  h.1,
  h.2 ∙ ap (λ (t : List ℕ). t ++ h.0) (c ∙ ap (λ (t : List ℕ). t ++ codes "\n") (b ∙ ap (λ (t : List ℕ). t ++ decimal number) (a ∙ ap (λ (t : List ℕ). t ++ codes "waiting ") z))),
)
