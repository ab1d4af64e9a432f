-- The homes of copied goals, and the way from a copy outwards by them.
use Rattle.std.proofs.Common.{◌≡◌, ℕ, ◌+◌, ◌<◌, Bool, true, false, List, [], ◌∷◌, ◌++◌, length, take, get_or, reverse, Option, Some, None, refl, sym, ◌∙◌, ap, subst, ◌⊎◌, inl, inr, append_assoc}
use Rattle.std.proofs.lemmas.List.{reverse-append}
use Rattle.std.specs.Prelude.{cond}
use Rattle.std.specs.Map.{lookup}
use Rattle.std.specs.BTreeMap.{BTreeMap, is_at, get}
use Rattle.akl_terms.specs.declared.name.Name.{Name}
use Rattle.akl_terms.specs.contracts.name.NameOrd.TheImpl.{cmp-value}
use Rattle.akl_terms.specs.Names.{same_name}
use Rattle.akl_terms.proofs.SameNames.{same_name-equal}
use Rattle.akl_model.proofs.Options.{some_value}
use Rattle.akl_model.proofs.Scoped.{IsIn-left, IsIn-right}
use Rattle.local_store.proofs.Orders.{name-same}
use Rattle.box_tree.specs.declared.step.BoxCopy.{BoxCopy}
use Rattle.opened_places.specs.declared.copies.CopyHome.{CopyHome}
use Rattle.opened_places.specs.Copies.{CopyPart, part_of, parts_of, IsPart, IsWithin, outermost, further, IsHomeOf, AreHomes, PutsGoals, AddsCopy, AddsCopies}
use Rattle.opened_places.specs.Placed.{PlacedValue}
use Rattle.opened_places.proofs.Members.{firsts}
use Rattle.opened_places.proofs.PushedPlaces.{take_end, map_append}

looked : {X : Type 0} (m : Name) (t : BTreeMap Name X) → get cmp-value.it t m ≡ lookup (same_name m) t.entries
looked m t = λ i. lookup (λ k. name-same m k i) t.entries

pub found_home : (m : Name) (t : BTreeMap Name CopyHome) (h : CopyHome) → Some h ≡ get cmp-value.it t m → lookup (same_name m) t.entries ≡ Some h
found_home m t h e = sym (looked m t) ∙ sym e

-- what an entry that comes leaves
put_or : {X : Type 0} (k : Name) (w : X) (t u : BTreeMap Name X) (g : Name) (h : X) → get cmp-value.it u g ≡ cond (is_at (cmp-value.it k) g) (Some w) (get cmp-value.it t g) → lookup (same_name g) u.entries ≡ Some h
    → ((g ≡ k) × (h ≡ w)) ⊎ (lookup (same_name g) t.entries ≡ Some h)
put_or k w t u g h e there = on (is_at (cmp-value.it k) g) refl (sym e ∙ looked g u ∙ there)
  where
    on : (b : Bool) → is_at (cmp-value.it k) g ≡ b → cond b (Some w) (get cmp-value.it t g) ≡ Some h → ((g ≡ k) × (h ≡ w)) ⊎ (lookup (same_name g) t.entries ≡ Some h)
    on true q x = inl (sym (same_name-equal k g (sym (name-same k g) ∙ q)), sym (some_value x))
    on false q x = inr (sym (looked g t) ∙ x)

-- one goal more gets the home
pub puts_next : (goals : List Name) (home : CopyHome) (start before afterwards : List (Name × CopyHome)) (m : Name) → PutsGoals goals home start before
    → ((g : Name) (h : CopyHome) → lookup (same_name g) afterwards ≡ Some h → ((g ≡ m) × (h ≡ home)) ⊎ (lookup (same_name g) before ≡ Some h)) → PutsGoals (goals ++ m ∷ []) home start afterwards
puts_next goals home start before afterwards m p q g h e = elim (q g h e) [
  | inl w ↦ inl (IsIn-right g goals (m ∷ []) (inl w.0), w.1)
  | inr i ↦ elim (p g h i) [ inl w ↦ inl (IsIn-left g goals (m ∷ []) w.0, w.1) | inr j ↦ inr j ]
]

pub put_next : {A : Type 0} (goals : List (Name × A)) (i : ℕ) (x : Name × A) (home : CopyHome) (start : List (Name × CopyHome)) (t u : BTreeMap Name CopyHome) → i < length goals → x ≡ get_or goals i x → PutsGoals (firsts (take i goals)) home start t.entries
    → ((g : Name) → get cmp-value.it u g ≡ cond (is_at (cmp-value.it x.0) g) (Some home) (get cmp-value.it t g)) → PutsGoals (firsts (take (i + 1) goals)) home start u.entries
put_next goals i x home start t u l e p q =
    subst (λ (ns : List Name). PutsGoals ns home start u.entries) (sym (ap firsts (take_end goals i x l e) ∙ map_append (λ (y : Name × _). y.0) (take i goals) (x ∷ [])))
    (puts_next (firsts (take i goals)) home start t.entries u.entries x.0 p (λ g h j. put_or x.0 home t u g h (q g) j))

-- parts of copies

pub part_left : (k : CopyPart) (xs ys : List CopyPart) → IsPart k xs → IsPart k (xs ++ ys)
part_left k [] ys i = absurd i
part_left k (x ∷ xs) ys (inl e) = inl e
part_left k (x ∷ xs) ys (inr i) = inr (part_left k xs ys i)

pub part_right : (k : CopyPart) (xs ys : List CopyPart) → IsPart k ys → IsPart k (xs ++ ys)
part_right k [] ys i = i
part_right k (x ∷ xs) ys i = inr (part_right k xs ys i)

parts_end : (copies : List BoxCopy) (i : ℕ) (copied : BoxCopy) → i < length copies → copied ≡ get_or copies i copied → parts_of (take (i + 1) copies) ≡ parts_of (take i copies) ++ part_of copied ∷ []
parts_end copies i copied l e = ap parts_of (take_end copies i copied l e) ∙ map_append part_of (take i copies) (copied ∷ [])

pub homes_next : (copies : List BoxCopy) (i : ℕ) (copied : BoxCopy) (home : CopyHome) (before afterwards : List (Name × CopyHome)) → i < length copies → copied ≡ get_or copies i copied → home.name ≡ copied.name → home.holder ≡ copied.holder
    → AreHomes (parts_of (take i copies)) before → PutsGoals (firsts copied.goals.items) home before afterwards → AreHomes (parts_of (take (i + 1) copies)) afterwards
homes_next copies i copied home before afterwards l e name holder homes puts g h j = subst (λ (ks : List CopyPart). IsHomeOf ks g h) (sym (parts_end copies i copied l e)) (elim (puts g h j) [
  | inl w ↦ (part_of copied, part_right (part_of copied) (parts_of (take i copies)) (part_of copied ∷ []) (inl refl), w.0, ap (λ (x : CopyHome). x.name) w.1 ∙ name, ap (λ (x : CopyHome). x.holder) w.1 ∙ holder)
  | inr q ↦
      let w : IsHomeOf (parts_of (take i copies)) g h = homes g h q in
      (w.0, part_left w.0 (parts_of (take i copies)) (part_of copied ∷ []) w.1, w.2, w.3, w.4)
])

-- a way outwards

abbrev pub LeadsOut : List (Name × CopyHome) → Option Name → Option Name → List Name → Type 0
LeadsOut homes holder at names = (copies : List CopyPart) → AreHomes copies homes → (rest : List Name) → IsWithin copies at rest → IsWithin copies holder (rest ++ reverse names)

pub leads_on : (homes : List (Name × CopyHome)) (holder : Option Name) (goal : Name) (home : CopyHome) (names : List Name) → lookup (same_name goal) homes ≡ Some home → LeadsOut homes holder (Some goal) names → LeadsOut homes holder home.holder (names ++ home.name ∷ [])
leads_on homes holder goal home names there leads copies are rest within =
    let w : IsHomeOf copies goal home = are goal home there in
    let x : IsWithin copies (Some goal) (rest ++ w.0.name ∷ []) = further w.0 w.1 w.2 (subst (λ (o : Option Name). IsWithin copies o rest) w.4 within) in
    subst (IsWithin copies holder) (append_assoc rest (w.0.name ∷ []) (reverse names) ∙ ap (λ (m : Name). rest ++ m ∷ reverse names) (sym w.3) ∙ ap (λ (ns : List Name). rest ++ ns) (sym (reverse-append names (home.name ∷ []))))
    (leads copies are (rest ++ w.0.name ∷ []) x)

pub leads_end : (homes : List (Name × CopyHome)) (holder : Option Name) (names : List Name) → LeadsOut homes holder None names → (copies : List CopyPart) → AreHomes copies homes → IsWithin copies holder (reverse names)
leads_end homes holder names leads copies are = leads copies are [] outermost

-- one copy more is added

adds_end : (around : List Name) (copies : List CopyPart) (k : CopyPart) (some : List CopyPart) (before middle afterwards : List PlacedValue) → AddsCopies around copies some before middle → AddsCopy around copies k middle afterwards
    → AddsCopies around copies (some ++ k ∷ []) before afterwards
adds_end around copies k [] before middle afterwards e x = (afterwards, subst (λ (ps : List PlacedValue). AddsCopy around copies k ps afterwards) e x, refl)
adds_end around copies k (j ∷ js) before middle afterwards (next, a, b) x = (next, a, adds_end around copies k js next middle afterwards b x)

pub adds_next : (around : List Name) (copies : List BoxCopy) (i : ℕ) (copied : BoxCopy) (before middle afterwards : List PlacedValue) → i < length copies → copied ≡ get_or copies i copied
    → AddsCopies around (parts_of copies) (parts_of (take i copies)) before middle → AddsCopy around (parts_of copies) (part_of copied) middle afterwards → AddsCopies around (parts_of copies) (parts_of (take (i + 1) copies)) before afterwards
adds_next around copies i copied before middle afterwards l e a x =
    subst (λ (ks : List CopyPart). AddsCopies around (parts_of copies) ks before afterwards) (sym (parts_end copies i copied l e)) (adds_end around (parts_of copies) (part_of copied) (parts_of (take i copies)) before middle afterwards a x)
