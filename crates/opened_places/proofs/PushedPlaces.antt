-- Places as they are pushed one after another.
use Rattle.std.proofs.Common.{◌≡◌, ℕ, ◌+◌, ◌<◌, List, [], ◌∷◌, ◌++◌, length, map, take, get_or, refl, sym, ◌∙◌, ap, subst, append_assoc}
use Rattle.std.proofs.lemmas.List.{take_more}
use Rattle.akl_terms.specs.declared.name.Name.{Name}
use Rattle.akl_terms.specs.declared.name.Place.{Place}
use Rattle.akl_terms.specs.declared.term.Node.{Node}
use Rattle.akl_terms.specs.declared.program.Goal.{Goal}
use Rattle.akl_model.specs.Config.{Atom}
use Rattle.akl_model.specs.Changes.{Shape}
use Rattle.table_laws.specs.Rows.{Table}
use Rattle.table_laws.specs.Walks.{ListsInside}
use Rattle.table_laws.specs.Steps as laws
use Rattle.table_laws.proofs.Drops.{each_none, each_more}
use Rattle.box_tree.specs.declared.entries.Held.{Held}
use Rattle.box_tree.specs.declared.step.NewBox.{NewBox}
use Rattle.box_tree.specs.declared.step.BoxCopy.{BoxCopy}
use Rattle.box_tree.specs.Tables.{goal_atom, shape_held, goals_in, new_box, box_copy}
use Rattle.opened_places.specs.Placed.{PlacedValue, placed, goals_placed}
use Rattle.opened_places.specs.Gone.{goals_named, places_at, AddsInsideEach}
use Rattle.opened_places.specs.Listed.{new_placed, law_part}
use Rattle.opened_places.specs.Copies.{parts_of}
use Rattle.opened_places.proofs.Members.{firsts}

pub take_end : {A : Type 0} (xs : List A) (i : ℕ) (x : A) → i < length xs → x ≡ get_or xs i x → take (i + 1) xs ≡ take i xs ++ x ∷ []
take_end xs i x l e = take_more xs i x l ∙ ap (λ y. take i xs ++ y ∷ []) (sym e)

pub map_append : {A B : Type 0} (f : A → B) (xs ys : List A) → map f (xs ++ ys) ≡ map f xs ++ map f ys
map_append f [] ys = refl
map_append f (x ∷ xs) ys = ap (λ (zs : List _). f x ∷ zs) (map_append f xs ys)

-- boxes with the goals directly in them

places_join : (T : Table) (ns ms : List Name) → places_at T (ns ++ ms) ≡ places_at T ns ++ places_at T ms
places_join T [] ms = refl
places_join T (n ∷ ns) ms =
    ap (λ (ps : List Place). Place.Box n ∷ (goals_named (goals_in (T.box_of n)) ++ ps)) (places_join T ns ms)
    ∙ ap (λ (ps : List Place). Place.Box n ∷ ps) (sym (append_assoc (goals_named (goals_in (T.box_of n))) (places_at T ns) (places_at T ms)))

pub box_next : (T : Table) (boxes : List Name) (i : ℕ) (n : Name) (before at now : List Place) (goals : List Name) → take (i + 1) boxes ≡ take i boxes ++ n ∷ [] → at ≡ before ++ places_at T (take i boxes) → goals ≡ goals_in (T.box_of n)
    → now ≡ (at ++ Place.Box n ∷ []) ++ goals_named goals → now ≡ before ++ places_at T (take (i + 1) boxes)
box_next T boxes i n before at now goals more at_is goals_are now_is =
    now_is ∙ ap (λ (gs : List Name). (at ++ Place.Box n ∷ []) ++ goals_named gs) goals_are ∙ append_assoc at (Place.Box n ∷ []) (goals_named (goals_in (T.box_of n)))
    ∙ ap (λ (ps : List Place). ps ++ (Place.Box n ∷ goals_named (goals_in (T.box_of n)))) at_is ∙ append_assoc before (places_at T (take i boxes)) (Place.Box n ∷ goals_named (goals_in (T.box_of n)))
    ∙ ap (λ (ps : List Place). before ++ (places_at T (take i boxes) ++ ps)) (sym (single (goals_named (goals_in (T.box_of n)))))
    ∙ ap (λ (ps : List Place). before ++ ps) (sym (places_join T (take i boxes) (n ∷ [])) ∙ ap (places_at T) (sym more))
  where
    single : (ps : List Place) → Place.Box n ∷ (ps ++ []) ≡ Place.Box n ∷ ps
    single [] = refl
    single (p ∷ ps) = ap (λ (qs : List Place). Place.Box n ∷ qs) (nothing (p ∷ ps))
      where
        nothing : (qs : List Place) → qs ++ [] ≡ qs
        nothing [] = refl
        nothing (q ∷ qs) = ap (λ (rs : List Place). q ∷ rs) (nothing qs)

-- boxes with all that stands in them

nothing_else : (ps : List Place) → ps ≡ ps ++ []
nothing_else [] = refl
nothing_else (p ∷ ps) = ap (λ (qs : List Place). p ∷ qs) (nothing_else ps)

pub inside_none : (T : Table) (places : List Place) → AddsInsideEach T [] places places
inside_none T places = record { boxes = []; lists = each_none T; comes = nothing_else places }

pub inside_next : (T : Table) (tops : List Name) (i : ℕ) (n : Name) (before at now : List Place) (inner : List Name) → take (i + 1) tops ≡ take i tops ++ n ∷ [] → AddsInsideEach T (take i tops) before at → ListsInside T n inner
    → now ≡ at ++ places_at T inner → AddsInsideEach T (take (i + 1) tops) before now
inside_next T tops i n before at now inner more adds lists e = subst (λ (ns : List Name). AddsInsideEach T ns before now) (sym more) (record {
  boxes = adds.boxes ++ inner;
  lists = each_more T (take i tops) adds.boxes n inner adds.lists lists;
  comes = e ∙ ap (λ (ps : List Place). ps ++ places_at T inner) adds.comes ∙ append_assoc before (places_at T adds.boxes) (places_at T inner) ∙ ap (λ (ps : List Place). before ++ ps) (sym (places_join T adds.boxes inner));
})

-- names of goals, whatever they hold

pub names_same : (nodes : List Node) (xs : List (Name × Goal)) → firsts xs ≡ map (λ (y : Name × Atom). y.0) (map (λ (x : Name × Goal). (x.0, goal_atom nodes x.1)) xs)
names_same nodes [] = refl
names_same nodes (x ∷ xs) = ap (λ (ns : List Name). x.0 ∷ ns) (names_same nodes xs)

held_names_same : (nodes : List Node) (xs : List (Name × Held)) → firsts xs ≡ map (λ (y : Name × Shape). y.0) (map (λ (x : Name × Held). (x.0, shape_held nodes x.1)) xs)
held_names_same nodes [] = refl
held_names_same nodes (x ∷ xs) = ap (λ (ns : List Name). x.0 ∷ ns) (held_names_same nodes xs)

pub parts_same : (nodes : List Node) (copies : List BoxCopy) → parts_of copies ≡ map law_part (map (box_copy nodes) copies)
parts_same nodes [] = refl
parts_same nodes (k ∷ ks) = λ i. record { name = k.name; holder = k.holder; goals = held_names_same nodes k.goals.items i } ∷ parts_same nodes ks i

-- new boxes

new_join : (around : List Name) (ns ms : List laws.NewBox) → new_placed around (ns ++ ms) ≡ new_placed around ns ++ new_placed around ms
new_join around [] ms = refl
new_join around (n ∷ ns) ms =
    ap (λ (ps : List PlacedValue). placed (Place.Box n.name) around ∷ (goals_placed (around ++ n.name ∷ []) (firsts n.goals) ++ ps)) (new_join around ns ms)
    ∙ ap (λ (ps : List PlacedValue). placed (Place.Box n.name) around ∷ ps) (sym (append_assoc (goals_placed (around ++ n.name ∷ []) (firsts n.goals)) (new_placed around ns) (new_placed around ms)))

nothing_more : (ps : List PlacedValue) → ps ++ [] ≡ ps
nothing_more [] = refl
nothing_more (p ∷ ps) = ap (λ (qs : List PlacedValue). p ∷ qs) (nothing_more ps)

pub new_next : (nodes : List Node) (around : List Name) (boxes : List NewBox) (i : ℕ) (made : NewBox) (before at now : List PlacedValue) → i < length boxes → made ≡ get_or boxes i made
    → at ≡ before ++ new_placed around (map (new_box nodes) (take i boxes)) → now ≡ at ++ (placed (Place.Box made.name) around ∷ goals_placed (around ++ made.name ∷ []) (firsts made.goals.items))
    → now ≡ before ++ new_placed around (map (new_box nodes) (take (i + 1) boxes))
new_next nodes around boxes i made before at now l e at_is now_is =
    now_is ∙ ap (λ (ps : List PlacedValue). ps ++ (placed (Place.Box made.name) around ∷ goals_placed (around ++ made.name ∷ []) (firsts made.goals.items))) at_is
    ∙ append_assoc before (new_placed around (map (new_box nodes) (take i boxes))) (placed (Place.Box made.name) around ∷ goals_placed (around ++ made.name ∷ []) (firsts made.goals.items))
    ∙ ap (λ (ps : List PlacedValue). before ++ (new_placed around (map (new_box nodes) (take i boxes)) ++ ps)) one
    ∙ ap (λ (ps : List PlacedValue). before ++ ps) (sym (new_join around (map (new_box nodes) (take i boxes)) (new_box nodes made ∷ [])))
    ∙ ap (λ (ns : List laws.NewBox). before ++ new_placed around ns) (sym (map_append (new_box nodes) (take i boxes) (made ∷ [])))
    ∙ ap (λ (bs : List NewBox). before ++ new_placed around (map (new_box nodes) bs)) (sym (take_end boxes i made l e))
  where
    one : placed (Place.Box made.name) around ∷ goals_placed (around ++ made.name ∷ []) (firsts made.goals.items) ≡ new_placed around (new_box nodes made ∷ [])
    one = ap (λ (ns : List Name). placed (Place.Box made.name) around ∷ goals_placed (around ++ made.name ∷ []) ns) (names_same nodes made.goals.items)
        ∙ ap (λ (ps : List PlacedValue). placed (Place.Box made.name) around ∷ ps) (sym (nothing_more (goals_placed (around ++ made.name ∷ []) (map (λ (y : Name × Atom). y.0) (new_box nodes made).goals))))
