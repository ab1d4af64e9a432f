-- The numbers of last changes between the labels of a call at once.
use Rattle.std.proofs.Common.{◌≡◌, ℕ, ◌+◌, List, [], ◌∷◌, ◌++◌, refl, sym, ◌∙◌, subst, append-nil, append_assoc}
use Rattle.std.specs.Prelude.{⊤}
use Rattle.akl_terms.specs.declared.program.Query.{Query}
use Rattle.akl_terms.proofs.SameNames.{same_name-refl}
use Rattle.akl_model.specs.declared.item.Item.{Item}
use Rattle.akl_model.specs.declared.label.Label.{Label}
use Rattle.akl_model.specs.Config.{Boxes, Goals, Config, box_at, home_of}
use Rattle.akl_model.specs.Changes.{box_names, goal_names, by_store, Changes, IsLastChange}
use Rattle.akl_model.specs.Derivations.{Replays}
use Rattle.akl_model.proofs.NamesKept.{Stand, replay-stands, stands_after}
use Rattle.plan_laws.proofs.StampLaws.{old_stamp}
use Rattle.plan_laws.proofs.Replayed.{replay_further}
use Rattle.plan_laws.specs.Between.{with_choice}
use Rattle.plan_laws.proofs.CallAlternatives.{Calling, between, IsNewName, AreNew, Steps, stops, goes}
use Rattle.plan_laws.proofs.Elsewhere.{names_same}
use Rattle.plan_laws.proofs.OpensAlike.{other_name}
use Rattle.plan_laws.proofs.CallsOutside.{alike_constraint, alike_names, alike_shape, IsOutside, outside_itself, outside}

-- items that have nothing to do with a call
abbrev pub IsElsewhere : Calling → Item → Type 0
IsElsewhere k Item.Roots = ⊤
IsElsewhere k (Item.Store n) = IsNewName k n → ⊥
IsElsewhere k (Item.Goals n) = IsNewName k n → ⊥
IsElsewhere k (Item.Goal g) = (IsNewName k g → ⊥) × (g ≡ k.goal → ⊥)
IsElsewhere k (Item.Binding v) = ⊥

pub record IsApart (k : Calling) (m : Config) : Type 0 where
  pub all : IsOutside k m
  pub roots : box_names k.config.roots ≡ box_names m.roots

pub apart_itself : (k : Calling) → IsApart k k.config
apart_itself k = record { all = outside_itself k; roots = refl }

pub apart_between : (k : Calling) (bs : Boxes) → Stand (between k bs) → AreNew k bs → IsApart k (between k bs)
apart_between k bs s new = record {
  all = outside k bs s new;
  roots = sym (names_same k.home.content.name k.home.content k.home.goals (with_choice k.home k.goal k.op bs).goals (same_name-refl k.home.content.name) k.config.roots);
}

pub unchanged_between : (k : Calling) (m n : Config) → IsApart k m → IsApart k n → (item : Item) → IsElsewhere k item → Changes by_store m n item → ⊥
unchanged_between k m n x y Item.Roots h z = z (sym x.roots ∙ y.roots)
unchanged_between k m n x y (Item.Store i) h z = z (sym (alike_constraint (λ (u v : Goals). goal_names u ≡ goal_names v) (box_at i k.config.roots) (box_at i m.roots) (x.all.boxes i h))
    ∙ alike_constraint (λ (u v : Goals). goal_names u ≡ goal_names v) (box_at i k.config.roots) (box_at i n.roots) (y.all.boxes i h))
unchanged_between k m n x y (Item.Goals i) h z = z (sym (alike_names (box_at i k.config.roots) (box_at i m.roots) (x.all.boxes i h)) ∙ alike_names (box_at i k.config.roots) (box_at i n.roots) (y.all.boxes i h))
unchanged_between k m n x y (Item.Goal g) h z =
    z (sym (alike_shape g (home_of g k.config.roots) (home_of g m.roots) (x.all.homes g h.0 (other_name k g h.1))) ∙ alike_shape g (home_of g k.config.roots) (home_of g n.roots) (y.all.homes g h.0 (other_name k g h.1)))
unchanged_between k m n x y (Item.Binding v) h z = h

-- they keep their stamps
pub stamps_along : (k : Calling) (q : Query) (bs : Boxes) (ls : List Label) (cs : Boxes) → Steps k ⊥ bs ls cs → (journal : List Label) → Replays k.rules k.program q journal (between k bs) → AreNew k bs
    → (item : Item) → IsElsewhere k item → (m : ℕ) → IsLastChange by_store k.rules k.program q journal item m
    → IsLastChange by_store k.rules k.program q (journal ++ ls) item m
stamps_along k q _ _ _ (stops bs) journal r n item h m x = subst (λ (js : List Label). IsLastChange by_store k.rules k.program q js item m) (sym (append-nil journal)) x
stamps_along k q _ _ _ (goes l bs cs ls ds new at a none y) journal r n item h m x =
    let s : Stand (between k bs) = replay-stands k.rules k.program q journal (between k bs) r in
    let t : Stand (between k cs) = stands_after k.rules k.program (between k bs) l (between k cs) s a in
    subst (λ (js : List Label). IsLastChange by_store k.rules k.program q js item m) (append_assoc journal (l ∷ []) ls)
    (stamps_along k q cs ls ds y (journal ++ l ∷ []) (replay_further k.rules k.program q journal (between k bs) l (between k cs) r a) new item h m
    (old_stamp by_store k.rules k.program q journal (between k bs) l (between k cs) item m r a (unchanged_between k (between k bs) (between k cs) (apart_between k bs s n) (apart_between k cs t new) item h) x))

pub replays_along : (k : Calling) (q : Query) (bs : Boxes) (ls : List Label) (cs : Boxes) → Steps k ⊥ bs ls cs → (journal : List Label) → Replays k.rules k.program q journal (between k bs) → Replays k.rules k.program q (journal ++ ls) (between k cs)
replays_along k q _ _ _ (stops bs) journal r = subst (λ (js : List Label). Replays k.rules k.program q js (between k bs)) (sym (append-nil journal)) r
replays_along k q _ _ _ (goes l bs cs ls ds new at a none y) journal r =
    subst (λ (js : List Label). Replays k.rules k.program q js (between k ds)) (append_assoc journal (l ∷ []) ls)
    (replays_along k q cs ls ds y (journal ++ l ∷ []) (replay_further k.rules k.program q journal (between k bs) l (between k cs) r a))
