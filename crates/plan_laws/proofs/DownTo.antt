-- The boxes down to a place.
use Rattle.std.proofs.Common.{◌≡◌, List, [], ◌∷◌, ◌++◌, map, Option, Some, None, refl, sym, ◌∙◌, ap, subst, ◌⊎◌, inl, inr, append_assoc}
use Rattle.std.specs.Prelude.{option_map, is_some, IsSomeAnd}
use Rattle.akl_terms.specs.declared.name.Name.{Name}
use Rattle.akl_terms.specs.declared.name.Place.{Place}
use Rattle.akl_terms.specs.declared.program.Program.{Program}
use Rattle.akl_model.specs.declared.label.Rule.{Rule}
use Rattle.akl_model.specs.declared.label.Label.{Label}
use Rattle.akl_model.specs.Config.{IsIn, Content, Boxes, Goals, Config, Found, equations_of, whole, box_at, home_of, site_of}
use Rattle.akl_model.specs.Derivations.{Applies}
use Rattle.akl_model.specs.Wakes.{StandsIn, IsAt, Opens, new_goal, new_box, names_around, names_down_to}
use Rattle.akl_model.proofs.Options.{some_value, map_some, none_or, some_and}
use Rattle.akl_model.proofs.NamesKept.{box-itself, site-box}
use Rattle.akl_model.proofs.Scoped.{IsIn-left, IsIn-right, IsIn-either}
use Rattle.step_laws.specs.Likeness.{IsLike}
use Rattle.step_laws.proofs.Whereabouts.{found_in}
use Rattle.step_laws.proofs.Deeper.{Over, over, named_found, chain_at}
use Rattle.step_laws.proofs.Steps.{later_step}
use Rattle.step_laws.proofs.Stays.{like_box, like_home}
use Rattle.plan_laws.specs.Sleeps.{IsOutermostAt}
use Rattle.plan_laws.proofs.InScope.{Good}

pub stands_down : (g : Name) (bs : Boxes) (f : Found) (n : Name) → home_of g bs ≡ Some f → IsIn n (names_down_to f) → StandsIn n bs (Place.Goal g)
stands_down g bs f n e h = subst (λ (o : Option Found). IsSomeAnd (option_map names_down_to o) (IsIn n)) (sym e) h

pub stands_around : (n : Name) (bs : Boxes) (f : Found) (b : Name) → box_at n bs ≡ Some f → IsIn b (names_around f) → StandsIn b bs (Place.Box n)
stands_around n bs f b e h = subst (λ (o : Option Found). IsSomeAnd (option_map names_around o) (IsIn b)) (sym e) h

-- the boxes that a place is, or stands in, are its site and those around it
pub is_down : (n : Name) (bs : Boxes) (place : Place) (f : Found) → site_of place bs ≡ Some f → IsIn n (names_down_to f) → IsAt n bs place
is_down n bs (Place.Goal g) f e h = inr (stands_down g bs f n e h)
is_down n bs (Place.Box k) f e h = on (IsIn-either n (names_around f) (f.content.name ∷ []) h)
  where
    on : IsIn n (names_around f) ⊎ IsIn n (f.content.name ∷ []) → IsAt n bs (Place.Box k)
    on (inl x) = inr (stands_around k bs f n e x)
    on (inr (inl x)) = let q : k ≡ n = box-itself k bs f e ∙ sym x in inl (ap Place.Box q, ap is_some (subst (λ (m : Name). box_at m bs ≡ Some f) q e))
    on (inr (inr x)) = absurd x

pub down_to : (n : Name) (bs : Boxes) (place : Place) → IsAt n bs place → (f : Found) × (site_of place bs ≡ Some f) × IsIn n (names_down_to f)
down_to n bs (Place.Goal g) (inl x) = let q : Place.Goal g ≡ Place.Box n = x.0 in cc
down_to n bs (Place.Goal g) (inr x) =
    let v : (ns : List Name) × (option_map names_down_to (home_of g bs) ≡ Some ns) × IsIn n ns = some_and (IsIn n) (option_map names_down_to (home_of g bs)) x in
    let u : (f : Found) × (home_of g bs ≡ Some f) × (names_down_to f ≡ v.0) = map_some names_down_to (home_of g bs) v.0 v.1 in
    (u.0, u.1, subst (IsIn n) (sym u.2) v.2)
down_to n bs (Place.Box k) (inr x) =
    let v : (ns : List Name) × (option_map names_around (box_at k bs) ≡ Some ns) × IsIn n ns = some_and (IsIn n) (option_map names_around (box_at k bs)) x in
    let u : (f : Found) × (box_at k bs ≡ Some f) × (names_around f ≡ v.0) = map_some names_around (box_at k bs) v.0 v.1 in
    (u.0, u.1, IsIn-left n (names_around u.0) (u.0.content.name ∷ []) (subst (IsIn n) (sym u.2) v.2))
down_to n bs (Place.Box k) (inl x) = on (none_or (box_at n bs))
  where
    on : (box_at n bs ≡ None) ⊎ ((f : Found) × (box_at n bs ≡ Some f)) → (f : Found) × (box_at k bs ≡ Some f) × IsIn n (names_down_to f)
    on (inl e) = let q : Rattle.std.proofs.Common.false ≡ Rattle.std.proofs.Common.true = sym (ap is_some e) ∙ x.1 in cc
    on (inr (f, e)) =
        let q : k ≡ n = cc in
        (f, subst (λ (m : Name). box_at m bs ≡ Some f) (sym q) e, IsIn-right n (names_around f) (f.content.name ∷ []) (inl (box-itself n bs f e)))

-- the contents of these boxes, the outermost first
abbrev pub path_to : Option Found → List Content
path_to None = []
path_to (Some f) = f.around ++ f.content ∷ []

-- each of them, with those around it, stands at the beginning
pub begins_path : (c : Config) → Good c → (place : Place) (n : Name) (m : Found) → IsAt n c.roots place → box_at n c.roots ≡ Some m
    → (rest : List Content) × (m.around ++ m.content ∷ rest ≡ path_to (site_of place c.roots))
begins_path c w place n m h e = on (down_to n c.roots place h)
  where
    Result : Type 0
    Result = (rest : List Content) × (m.around ++ m.content ∷ rest ≡ path_to (site_of place c.roots))

    on : (f : Found) × (site_of place c.roots ≡ Some f) × IsIn n (names_down_to f) → Result
    on (f, i, k) = split (IsIn-either n (names_around f) (f.content.name ∷ []) k)
      where
        found : box_at f.content.name c.roots ≡ Some f
        found = site-box place c.roots f w.stand.once i

        path : f.around ++ f.content ∷ [] ≡ path_to (site_of place c.roots)
        path = sym (ap path_to i)

        split : IsIn n (names_around f) ⊎ IsIn n (f.content.name ∷ []) → Result
        split (inl x) =
            let o : Over n f c.roots = over n f c.roots (found_in f.content.name c.roots f found) x in
            let q : o.outer ≡ m = some_value (sym (named_found c.roots w.stand.once n o.outer o.stands o.named) ∙ e) in
            let r : o.outer.around ++ o.outer.content ∷ (o.rest ++ f.content ∷ []) ≡ path_to (site_of place c.roots) =
            sym (append_assoc o.outer.around (o.outer.content ∷ o.rest) (f.content ∷ [])) ∙ ap (λ (L : List Content). L ++ f.content ∷ []) (sym o.path) ∙ path in
            (o.rest ++ f.content ∷ [], subst (λ (u : Found). u.around ++ u.content ∷ (o.rest ++ f.content ∷ []) ≡ path_to (site_of place c.roots)) q r)
        split (inr (inl x)) =
            let q : f ≡ m = some_value (sym (subst (λ (k : Name). box_at k c.roots ≡ Some f) (sym x) found) ∙ e) in
            ([], subst (λ (u : Found). u.around ++ u.content ∷ [] ≡ path_to (site_of place c.roots)) q path)
        split (inr (inr x)) = absurd x

-- the first of them is the outermost
pub outermost : (c : Config) → Good c → (place : Place) (f : Found) → site_of place c.roots ≡ Some f
    → (o : Found) × IsOutermostAt c place o
outermost c w place f e = on f.around refl
  where
    found : box_at f.content.name c.roots ≡ Some f
    found = site-box place c.roots f w.stand.once e

    on : (path : List Content) → f.around ≡ path → (o : Found) × IsOutermostAt c place o
    on [] q = (f, record { is_found = found; is_root = q; is_at = is_down f.content.name c.roots place f e (IsIn-right f.content.name (names_around f) (f.content.name ∷ []) (inl refl)) })
    on (b ∷ path) q =
        let k : (k : Goals) × (box_at b.name c.roots ≡ Some (record { around = []; content = b; goals = k })) = chain_at c.roots w.stand.once f [] b path (found_in f.content.name c.roots f found) q in
        let first : IsIn b.name (names_around f) = subst (λ (L : List Content). IsIn b.name (map (λ (a : Content). a.name) L)) (sym q) (inl refl) in
        (record { around = []; content = b; goals = k.0 }, record { is_found = k.1; is_root = refl; is_at = is_down b.name c.roots place f e (IsIn-left b.name (names_around f) (f.content.name ∷ []) first) })

-- and it is that one alone
pub begins_outermost : (c : Config) → Good c → (place : Place) (o : Found) → IsOutermostAt c place o → (rest : List Content) × (o.content ∷ rest ≡ path_to (site_of place c.roots))
begins_outermost c w place o h =
    let b : (rest : List Content) × (o.around ++ o.content ∷ rest ≡ path_to (site_of place c.roots)) = begins_path c w place o.content.name o h.is_at h.is_found in
    (b.0, subst (λ (A : List Content). A ++ o.content ∷ b.0 ≡ path_to (site_of place c.roots)) h.is_root b.1)

pub outermost_whole : (o : Found) → o.around ≡ [] → whole o ≡ o.content.equations
outermost_whole o q = ap (λ (A : List Content). equations_of A ++ o.content.equations) q

-- a place that a label doesn't open was there, down from the same boxes
module _ (rules : List Rule) (p : Program) (c : Config) (l : Label) (d : Config) (w : Good c) (v : Good d) (a : Applies rules p c l d) where
  same_names : (e f : Found) → IsLike e f → names_down_to f ≡ names_down_to e
  same_names e f s = λ j. sym s.around j ++ sym s.name j ∷ []

  pub there_before : (place : Place) → (Opens [] c d place → ⊥) → (k : Found) → site_of place d.roots ≡ Some k → (f : Found) × (site_of place c.roots ≡ Some f) × (names_down_to k ≡ names_down_to f)
  there_before (Place.Goal g) unopened k i = on (home_of g c.roots) refl
    where
      on : (o : Option Found) → home_of g c.roots ≡ o → (f : Found) × (home_of g c.roots ≡ Some f) × (names_down_to k ≡ names_down_to f)
      on None q = absurd (unopened (new_goal q i))
      on (Some f) q = (f, q, same_names f k (like_home c d w.stand v.stand (later_step rules p c l d w.stand a) g f k q i))
  there_before (Place.Box n) unopened k i = on (box_at n c.roots) refl
    where
      on : (o : Option Found) → box_at n c.roots ≡ o → (f : Found) × (box_at n c.roots ≡ Some f) × (names_down_to k ≡ names_down_to f)
      on None q = absurd (unopened (new_box q i))
      on (Some f) q = (
        f,
        q,
        same_names f k (like_box c d w.stand v.stand (later_step rules p c l d w.stand a) f k (found_in n c.roots f q) (found_in n d.roots k i) (sym (box-itself n c.roots f q) ∙ box-itself n d.roots k i)),
      )
